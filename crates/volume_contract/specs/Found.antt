-- What the pages that a call of a volume has read show of a look-up, over an honest machine and any image.
use Rattle.std.specs.Prelude.{◌≡◌, ℕ, List, length, Option}
use Rattle.std.specs.List.{AllByRecursion}
use Rattle.fsd_bytes.specs.declared.key.Key.{Key}
use Rattle.fsd_formats.specs.declared.entry.Entry.{Entry}
use Rattle.fsd_table.specs.Reached.{HasEntry, ReachesPage}
use Rattle.fsd_table.specs.Table.{Visit}
use Rattle.fsd_files.specs.Disk.{Image, Sectors}
use Rattle.fsd_files.specs.Files.{File}
use Rattle.fsd_files.specs.Kept.{IsWhole, KeptIn, range_sectors}
use Rattle.fsd_sound.specs.Lookups.{HasNext}
use Rattle.sector_disk.specs.declared.machine.Machine.{Ghosts}
use Rattle.volume_contract.specs.Causes.{IsTaken, ShowsOfPages}
use Rattle.volume_contract.specs.Ends.{GivesBytes, count_in}
use Rattle.volume_contract.specs.State.{State}

-- where the machine kept to its promise, the pages that were read show that a path reaches such a page
abbrev pub ShowsReached : {D : Type 0} → (M : Ghosts D) → (resident : ℕ → Option (List ℕ)) → (old new : State) → (before now : D) → (Visit → Type 0) → Type 0
ShowsReached M resident old new before now Is = M.honest now → ShowsOfPages old new resident (M.now before) (M.now now) (ReachesPage Is)

-- so they show it of the next entry
abbrev pub ShowsReachedNext : {D : Type 0} → (M : Ghosts D) → (resident : ℕ → Option (List ℕ)) → (old new : State) → (before now : D) → Option Key → Entry → Type 0
ShowsReachedNext M resident old new before now after e = M.honest now → ShowsOfPages old new resident (M.now before) (M.now now) (λ pages. ReachesPage (HasNext after e pages) pages)

-- So many bytes are given as an entry has from a place on, up to the buffer's room. The range's sectors were whole in the
-- image, and the bytes are those of a version that the entry's sectors keep there.
pub record GivesOf (i : Image) (e : Entry) (from : ℕ) (old new : List ℕ) (n : ℕ) : Type 0 where
  pub count : n ≡ count_in e.length from (length old)
  pub whole : AllByRecursion (IsWhole i) (range_sectors e.runs from n)
  pub gives : (file : File) (hurt : Sectors) → e.length ≡ length file.bytes → KeptIn i hurt file.bytes e.runs → GivesBytes i file e from old new n

-- A leaf that has an entry of the key, whose sectors are taken, and of which bytes are given.
pub record HasRange (s : State) (i : Image) (key : Key) (from : ℕ) (old new : List ℕ) (n : ℕ) (v : Visit) : Type 0 where
  pub entry : Entry
  pub there : HasEntry entry v
  pub key_is : entry.key ≡ key
  pub taken : IsTaken s entry
  pub range : GivesOf i entry from old new n
