-- What a call leaves of a volume that it only reads.
use Rattle.std.specs.Prelude.{◌≡◌, ℕ, List, Option}
use Rattle.sector_disk.specs.declared.machine.Machine.{Ghosts}
use Rattle.sector_disk.specs.Calls.{OnlyReads}
use Rattle.fsd_log.specs.Scan.{Placed}
use Rattle.fsd_sound.specs.Mounted.{Mounted}
use Rattle.volume_contract.specs.State.{Known, Stands, State}

-- The disk is only read, the volume tells what it told, and where it stood over the disk it stands.
pub record ReadsVolume {D S : Type 0} (M : Ghosts D) (state : S → State) (has : S → Mounted → List Placed → Type 0) (fault : Option ℕ) (old new : S) (before now : D) : Type 0 where
  pub disk : OnlyReads M fault before now
  pub same : state new ≡ state old
  pub stands : M.honest now → (k : Known) → Stands state has old k (M.now before) → Stands state has new k (M.now now)
