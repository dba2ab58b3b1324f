-- How what was written stands on the disk: the run of adjacent sectors that may not be there.
use Rattle.std.specs.Prelude.{ℕ, Bool, false, nat_eq, if◌then◌else◌}
use Rattle.image_file.specs.declared.standing.Standing.{Standing}
use Rattle.image_file.specs.declared.standing.Standing.TheVariants.{Synced, Unsynced, Broken}

-- the first sector that may not be on the disk, and 0 where all is
abbrev pub first_of : Standing → ℕ
first_of Synced = 0
first_of (Unsynced first next) = first
first_of (Broken first) = first

-- a write from this sector on goes on with the run
abbrev pub goes_on : ℕ → Standing → Bool
goes_on sector Synced = false
goes_on sector (Unsynced first next) = nat_eq next sector
goes_on sector (Broken first) = false

-- the first sector of the run that has a write from this sector on: one that it goes on with, or its own
abbrev pub run_from : ℕ → Standing → ℕ
run_from sector s = if goes_on sector s then first_of s else sector
