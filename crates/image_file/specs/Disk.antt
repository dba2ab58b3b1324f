-- How what was written to a disk stands on it.
use Rattle.std.specs.Prelude.{◌≡◌, ◌⊎◌, ℕ, List, Option, Result, Some, IfSome, IfErr, length}
use Rattle.std.specs.Result.{IsErr}
use Rattle.fsd_bytes.specs.Bytes.{sector_len}
use Rattle.fsd_formats.specs.Slot.{slot_of}
use Rattle.image_file.specs.declared.disk.Disk.{Disk}
use Rattle.image_file.specs.declared.standing.Standing.TheVariants.{Synced, Unsynced, Broken}
use Rattle.image_file.specs.Standing.{first_of, run_from}

-- the system has been given all that was written
abbrev pub IsGiven : Disk → Type 0
IsGiven d = d.pending.count ≡ 0

-- all of it is on the disk
abbrev pub IsSyncedDisk : Disk → Type 0
IsSyncedDisk d = (d.standing ≡ Synced) × IsGiven d

-- but for one run of adjacent sectors, from the first one up to the one in front of the next
abbrev pub HasRun : (first next : ℕ) → Disk → Type 0
HasRun first next d = d.standing ≡ Unsynced first next

-- some of the run that begins with this sector may be lost
abbrev pub IsBroken : (first : ℕ) → Disk → Type 0
IsBroken first d = d.standing ≡ Broken first

-- A write from this sector on keeps the order: it is the first of a run, or goes on with the one that there is.
abbrev pub IsOpenAt : ℕ → Disk → Type 0
IsOpenAt sector d = IsSyncedDisk d ⊎ ((first : ℕ) × HasRun first sector d)

-- the first sector that may not be on the disk, and 0 where all is
abbrev pub first_lost : Disk → ℕ
first_lost d = first_of d.standing

-- a call of a broken disk fails, and leaves it as it stands
abbrev pub FailsOnDisk : {T E : Type 0} → Disk → Disk → Result T E → Type 0
FailsOnDisk old new result = (first : ℕ) → IsBroken first old → IsErr result × IsBroken first new

-- one that fails tells the first sector of the run that may not be on the disk, and leaves the disk broken from there
abbrev pub TellsFirst : {T : Type 0} → Disk → Disk → Result T ℕ → Type 0
TellsFirst old new result = IfErr result (λ place. (place ≡ first_lost old) × IsBroken place new)

-- A write has failed: the run that was there could not be brought to the disk, or that of the write may be lost, or
-- nothing was written.
abbrev pub HasCutAt : ℕ → Disk → Disk → Type 0
HasCutAt sector old new = IsBroken (first_lost old) new ⊎ (IsBroken (run_from sector old.standing) new ⊎ IsOpenAt sector new)

-- what is read of a sector with this slot: the bytes that it spells, if there are any
abbrev pub Reads : (sector : ℕ) → (slot : List ℕ) → Option (List ℕ) → Type 0
Reads sector slot found = IfSome found (λ b. slot ≡ slot_of sector b) × ((b : List ℕ) → length b ≡ sector_len → slot ≡ slot_of sector b → found ≡ Some b)
