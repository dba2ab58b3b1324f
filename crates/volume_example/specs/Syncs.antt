-- A call that writes the disk and has all of that brought there.
use Rattle.std.specs.Prelude.{◌≡◌, ◌⊎◌, ◌≤◌, ◌+◌, ℕ, Option}
use Rattle.sector_disk.specs.declared.machine.Machine.{Ghosts}
use Rattle.sector_disk.specs.Calls.{DiskFaults, Since}
use Rattle.sector_disk.specs.Machine.{Ledger, LeavesOnly, Moment, Trusts, UsesDisk, Wears, synced_once}

-- Nothing was attached, no input was taken, and one sync was done at most; sectors may have been written.
pub record WritesAndSyncs (old new : Ledger) : Type 0 where
  pub input : new.input ≡ old.input
  pub attaches : new.attaches ≡ old.attaches
  pub syncs : new.syncs ≤ old.syncs + 1

-- What `WritesDisk` says, but that a sync may stand behind the writes.
pub record WritesForGood {D : Type 0} (M : Ghosts D) (fault : Option ℕ) (R : Moment → Moment → Type 0) (old new : D) : Type 0 where
  pub uses : UsesDisk (M.report old) (M.report new)
  pub faults : DiskFaults fault (M.report old) (M.report new)
  pub trust : Trusts (M.tells old) (M.tells new) (M.honest old) (M.honest new)
  pub ledger : M.tells new → WritesAndSyncs (M.ledger old) (M.ledger new)
  pub quiet : M.honest new → (M.now new).said ≡ (M.now old).said
  pub windows : M.honest new → (M.now new).windows ≡ (M.now old).windows
  pub exit : M.honest new → R (M.now old) (M.now new)
  pub since : M.honest new → Since M old new
  pub any_moment : M.honest new → LeavesOnly M.moment M.left_since old new (R (M.now old))

-- What a sync keeps: nothing else is asked for.
pub record SyncsDisk {D : Type 0} (M : Ghosts D) (fault : Option ℕ) (old new : D) : Type 0 where
  pub uses : UsesDisk (M.report old) (M.report new)
  pub faults : DiskFaults fault (M.report old) (M.report new)
  pub trust : Trusts (M.tells old) (M.tells new) (M.honest old) (M.honest new)
  pub ledger : M.tells new → (M.ledger new ≡ M.ledger old) ⊎ (M.ledger new ≡ synced_once (M.ledger old))
  pub worn : M.honest new → Wears (M.now old) (M.now new)
  pub since : M.honest new → Since M old new
  pub any_moment : M.honest new → LeavesOnly M.moment M.left_since old new (Wears (M.now old))
