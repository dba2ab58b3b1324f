-- What a read of a range of a version's bytes gives.
use Rattle.std.specs.Prelude.{◌≡◌, ⊤, ℕ, ◌+◌, ◌≤◌, List, ◌++◌, length, take, drop, Option, Some, None}
use Rattle.std.specs.List.{AllByRecursion}
use Rattle.fsd_bytes.specs.declared.refusal.Refusal.{Refusal}
use Rattle.fsd_bytes.specs.declared.refusal.Refusal.TheVariants as Why
use Rattle.run_table.specs.declared.run.Run.{Run}
use Rattle.fsd_files.specs.Disk.{Image, Sectors}
use Rattle.fsd_files.specs.Kept.{FirstDamaged, IsWhole, KeptIn, range_sectors}
use Rattle.version_data.specs.declared.fault.DataFault.{DataFault}
use Rattle.version_data.specs.declared.fault.DataFault.TheVariants.{Device, Damaged}

-- the place of the call of the disk that failed, where the fault tells one
abbrev pub data_failed_at : DataFault → Option ℕ
data_failed_at (Device place) = Some place
data_failed_at (Damaged s) = None

-- the refusal that tells the fault
abbrev pub refusal_of : DataFault → Refusal
refusal_of (Device place) = Why.Device place
refusal_of (Damaged s) = Why.Damaged s

-- The range's sectors were whole as the call began. The bytes of a version that they keep stand in front of the buffer,
-- and behind them it is as it was.
pub record GivesRange (i : Image) (runs : List Run) (from n : ℕ) (old new : List ℕ) : Type 0 where
  pub whole : AllByRecursion (IsWhole i) (range_sectors runs from n)
  pub bytes : (bytes : List ℕ) (hurt : Sectors) → KeptIn i hurt bytes runs → from + n ≤ length bytes → new ≡ take n (drop from bytes) ++ drop n old

-- a sector that is named as damaged is the first one of the range that is
abbrev pub NamesFirst : Image → Image → List Run → (from n : ℕ) → DataFault → Type 0
NamesFirst i j runs from n (Device place) = ⊤
NamesFirst i j runs from n (Damaged s) = FirstDamaged i j (range_sectors runs from n) s
