-- What any call over a machine keeps, said once for each kind of call.
use Rattle.std.specs.Prelude.{◌≡◌, ◌≤◌, ℕ, max, Bool, true, false, Option, Some, None, Result, Ok, Err, List}
use Rattle.sector_disk.specs.declared.machine.Machine.{Ghosts}
use Rattle.sector_disk.specs.declared.machine.Failed.{Failed}
use Rattle.sector_disk.specs.declared.machine.LoadFault.{LoadFault}
use Rattle.sector_disk.specs.declared.machine.LoadFault.TheVariants.{Device, Lost}
use Rattle.sector_disk.specs.declared.sector.Sector.{Sector}
use Rattle.sector_disk.specs.declared.sector.Sector.TheVariants.{Whole, Damaged}
use Rattle.sector_disk.specs.Machine.{Report, Moment, Rose, DeviceFault, UsesDisk, Trusts, Wears, LeavesOnly, OnlyWrites, StopSince, IsHistory}

-- ---- faults

-- the place of the call of the disk that failed, where the result tells one, by the place that its fault tells
abbrev pub device_in : {T E : Type 0} → (E → Option ℕ) → Result T E → Option ℕ
device_in device_of (Ok x) = None
device_in device_of (Err fault) = device_of fault

abbrev pub failed_at : Failed → Option ℕ
failed_at failed = Some failed.place

abbrev pub load_failed_at : LoadFault → Option ℕ
load_failed_at (Device place) = Some place
load_failed_at (Lost a b) = None

-- A fault of the disk is counted and its place is told, or there was none.
abbrev pub DiskFaults : Option ℕ → Report → Report → Type 0
DiskFaults None old new = (new.disk_faults ≡ old.disk_faults) × (new.fault_place ≡ old.fault_place)
DiskFaults (Some place) old new = DeviceFault old new place

-- a fault of the input or the output is counted, or there was none
abbrev pub Counts : Bool → ℕ → ℕ → Type 0
Counts true before now = Rose before now
Counts false before now = now ≡ before

-- Calls of the input and the output, of which the last to take has failed or the last to say, or neither:
-- what the disk tells stays.
pub record SparesDisk (takes says : Bool) (old new : Report) : Type 0 where
  pub sectors : new.sectors ≡ old.sectors
  pub place : new.fault_place ≡ old.fault_place
  pub disk : new.disk_faults ≡ old.disk_faults
  pub input : Counts takes old.input_faults new.input_faults
  pub output : Counts says old.output_faults new.output_faults

-- ---- moments

-- What the laws of the trait say of the moments of an honest machine.
pub record IsTimed {D : Type 0} (M : Ghosts D) (m : D) : Type 0 where
  pub dated : (M.now m).time ≡ M.moment m
  pub history : IsHistory (M.now m) (M.left_since m)
  pub here : M.left_since m (M.moment m) (M.now m)
  pub only : (c : Moment) → M.left_since m (M.moment m) c → c ≡ M.now m

-- What a stop since a time may have left.
abbrev pub stops : {D : Type 0} → Ghosts D → D → ℕ → Moment → Type 0
stops M m t left = StopSince (M.left_since m) t left

-- Each moment since the last sync has this: one of them is on the disk.
abbrev pub IsHeld : {D : Type 0} → Ghosts D → D → (Moment → Type 0) → Type 0
IsHeld M m P = (c : Moment) → M.left_since m (M.now m).synced c → P c

-- A stop at any moment since old leaves what has P.
abbrev pub StopsOnly : {D : Type 0} → Ghosts D → D → D → (Moment → Type 0) → Type 0
StopsOnly M old new P = LeavesOnly M.moment (stops M) old new P

-- What a stop might have left before, it might have left still.
abbrev pub Since : {D : Type 0} → Ghosts D → D → D → Type 0
Since M old new = (t : ℕ) (c : Moment) → t ≤ M.moment old → M.left_since old t c → M.left_since new t c

-- ---- kinds of calls, by the place of the fault of the disk that they tell

-- A call that only reads the disk.
pub record OnlyReads {D : Type 0} (M : Ghosts D) (fault : Option ℕ) (old new : D) : Type 0 where
  pub uses : UsesDisk (M.report old) (M.report new)
  pub faults : DiskFaults fault (M.report old) (M.report new)
  pub trust : Trusts (M.tells old) (M.tells new) (M.honest old) (M.honest new)
  pub ledger : M.tells new → M.ledger new ≡ M.ledger old
  pub worn : M.honest new → Wears (M.now old) (M.now new)
  pub since : M.honest new → Since M old new
  pub any_moment : M.honest new → LeavesOnly M.moment M.left_since old new (Wears (M.now old))

-- A call that writes the disk, and of which a stop leaves this.
pub record WritesDisk {D : Type 0} (M : Ghosts D) (fault : Option ℕ) (R : Moment → Moment → Type 0) (old new : D) : Type 0 where
  pub uses : UsesDisk (M.report old) (M.report new)
  pub faults : DiskFaults fault (M.report old) (M.report new)
  pub trust : Trusts (M.tells old) (M.tells new) (M.honest old) (M.honest new)
  pub ledger : M.tells new → OnlyWrites (M.ledger old) (M.ledger new)
  pub quiet : M.honest new → (M.now new).said ≡ (M.now old).said
  pub windows : M.honest new → (M.now new).windows ≡ (M.now old).windows
  pub exit : M.honest new → R (M.now old) (M.now new)
  pub since : M.honest new → Since M old new
  pub any_moment : M.honest new → LeavesOnly M.moment M.left_since old new (R (M.now old))

-- A call that writes the disk and may give the image more sectors, and of which a stop leaves this.
pub record GrowsDisk {D : Type 0} (M : Ghosts D) (fault : Option ℕ) (R : Moment → Moment → Type 0) (old new : D) : Type 0 where
  pub sectors : (M.report old).sectors ≤ (M.report new).sectors
  pub uses : UsesDisk (record (M.report old) { sectors = (M.report new).sectors }) (M.report new)
  pub faults : DiskFaults fault (M.report old) (M.report new)
  pub trust : Trusts (M.tells old) (M.tells new) (M.honest old) (M.honest new)
  pub ledger : M.tells new → OnlyWrites (M.ledger old) (M.ledger new)
  pub quiet : M.honest new → (M.now new).said ≡ (M.now old).said
  pub windows : M.honest new → (M.now new).windows ≡ (M.now old).windows
  pub exit : M.honest new → R (M.now old) (M.now new)
  pub since : M.honest new → Since M old new
  pub any_moment : M.honest new → LeavesOnly M.moment M.left_since old new (R (M.now old))

-- the number of sectors that is told behind a growth: the greater one, and the old one where it failed
abbrev pub told_behind : {T E : Type 0} → Result T E → ℕ → ℕ → ℕ
told_behind (Ok done) old sectors = max old sectors
told_behind (Err failed) old sectors = old

-- A call that writes the disk and turns its windows.
pub record HealsDisk {D : Type 0} (M : Ghosts D) (fault : Option ℕ) (old new : D) : Type 0 where
  pub uses : UsesDisk (M.report old) (M.report new)
  pub faults : DiskFaults fault (M.report old) (M.report new)
  pub trust : Trusts (M.tells old) (M.tells new) (M.honest old) (M.honest new)
  pub ledger : M.tells new → OnlyWrites (M.ledger old) (M.ledger new)
  pub quiet : M.honest new → (M.now new).said ≡ (M.now old).said
  pub later : M.honest new → M.moment old ≤ M.moment new
  pub since : M.honest new → Since M old new

-- A call that takes or says, by whether it tells a fault of the input or of the output,
-- and of which a stop leaves this.
pub record LeavesDisk {D : Type 0} (M : Ghosts D) (takes says : Bool) (R : Moment → Moment → Type 0) (old new : D) : Type 0 where
  pub spares : SparesDisk takes says (M.report old) (M.report new)
  pub trust : Trusts (M.tells old) (M.tells new) (M.honest old) (M.honest new)
  pub exit : M.honest new → R (M.now old) (M.now new)
  pub since : M.honest new → Since M old new
  pub any_moment : M.honest new → LeavesOnly M.moment M.left_since old new (R (M.now old))

-- ---- what a read gives

-- the sector that was read: its bytes, or that it gives none
abbrev pub as_sector : Option (List ℕ) → Sector
as_sector (Some bytes) = Whole bytes
as_sector None = Damaged
