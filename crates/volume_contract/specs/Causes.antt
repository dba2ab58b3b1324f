-- Why a call of a volume tells something as lost or as unsound, over an honest machine and any image.
use Rattle.std.specs.Prelude.{◌≡◌, ◌⊎◌, ⊤, ℕ, ◌<◌, List, [], ◌∷◌, length, Bool, not, ◌&&◌, ◌||◌, Option, Some, None, IsTrue, IfSome, Result, IfErr, slice_index_or}
use Rattle.std.specs.List.{list_any, Contains}
use Rattle.volume_layout.specs.Layout.{home_a}
use Rattle.run_table.specs.declared.run.Run.{Run}
use Rattle.run_table.specs.RunTable.{same_runs, sectors_of}
use Rattle.run_table.specs.Space.{contains}
use Rattle.fsd_bytes.specs.declared.refusal.Refusal.{Refusal}
use Rattle.fsd_bytes.specs.declared.refusal.Refusal.TheVariants as Why
use Rattle.fsd_formats.specs.declared.entry.Entry.{Entry}
use Rattle.sector_disk.specs.declared.machine.Machine.{Ghosts}
use Rattle.sector_disk.specs.declared.sector.Sector.TheVariants.{Whole}
use Rattle.sector_disk.specs.Damage.{AreLost}
use Rattle.sector_disk.specs.Image.{IsWorn, open_damage, sector_at}
use Rattle.sector_disk.specs.Machine.{Moment}
use Rattle.fsd_table.specs.Breaks.{Breaks}
use Rattle.fsd_table.specs.Pages.{entries_of}
use Rattle.fsd_table.specs.Table.{Visit, visits}
use Rattle.fsd_files.specs.Disk.{Image}
use Rattle.fsd_files.specs.Volume.{is_in}
use Rattle.fsd_sound.specs.Homes.{AreHomesOf}
use Rattle.fsd_sound.specs.Mounted.{image_at}
use Rattle.fsd_log.specs.Slots.{AreOfSlot, LiesAt}
use Rattle.volume_contract.specs.State.{State, held_of}

-- ---- what is lost

-- the sectors are the two copies of the page: its own and the copy in the last record that has it, which lies in the
-- log, or its homes where none has
abbrev pub AreCopiesOfPage : State → (page a b : ℕ) → Type 0
AreCopiesOfPage s page a b =
    let slot = slice_index_or s.slots page None in
    AreOfSlot s.layout slot a b ⊎ ((slot ≡ None) × AreHomesOf s.layout page a b)

-- so they are of some page, before the call or behind a force that it made
pub record AreSomeCopies (old new : State) (a b : ℕ) : Type 0 where
  pub page : ℕ
  pub within : page < old.layout.pages
  pub copies : AreCopiesOfPage old page a b ⊎ AreCopiesOfPage new page a b

-- ---- what is unsound

-- the sectors are the two that the volume tells as the page's copies
abbrev pub AreToldOf : State → (page a b : ℕ) → Type 0
AreToldOf s page a b =
    let slot = slice_index_or s.slots page None in
    LiesAt slot a b ⊎ ((slot ≡ None) × AreHomesOf s.layout page a b)

-- The bytes stand whole in one of the page's two copies.
pub record StandsInCopy (s : State) (i : Image) (page : ℕ) (bytes : List ℕ) : Type 0 where
  pub a : ℕ
  pub b : ℕ
  pub copies : AreToldOf s page a b
  pub whole : (sector_at i a ≡ Whole bytes) ⊎ (sector_at i b ≡ Whole bytes)

-- the same of an image that the call passed: as it began, or behind a force that it made
abbrev pub StoodInCopy : (old new : State) → (before now : Moment) → (page : ℕ) → (bytes : List ℕ) → Type 0
StoodInCopy old new before now page bytes =
    (seen : Image) × ((IsWorn (open_damage before.windows) before.image seen × StandsInCopy old seen page bytes) ⊎ (IsWorn (open_damage now.windows) seen now.image × StandsInCopy new seen page bytes))

-- A page that a call has read: it was in memory as the call began, or stood in a copy.
pub record IsRead (old new : State) (resident : ℕ → Option (List ℕ)) (before now : Moment) (page : ℕ) (bytes : List ℕ) : Type 0 where
  pub within : page < old.layout.pages
  pub source : (resident page ≡ Some bytes) ⊎ StoodInCopy old new before now page bytes

-- a reader holds a version with one of these sectors, in other runs
abbrev pub meets_held : List (List Run) → List Run → Bool
meets_held held runs = list_any (λ other. not (same_runs other runs) && list_any (contains (sectors_of other)) (sectors_of runs)) held

-- the entry has a sector that is free or waits, or one of a held version whose runs are not the very same
abbrev pub HasUntaken : State → Entry → Type 0
HasUntaken s e = IsTrue (list_any (λ t. is_in (s.free ∷ []) t || contains s.waiting t) (sectors_of e.runs) || meets_held (held_of s) e.runs)

-- none of its sectors is free or waits, or is one of a held version whose runs are not the very same
abbrev pub IsTaken : State → Entry → Type 0
IsTaken s e = HasUntaken s e → ⊥

-- The page of the table at this home breaks the table that the pages are; or it is reached, and stands in the list of
-- free name pages or has an entry with a sector that no entry may have.
pub record BreaksMounted (s : State) (pages : List (List ℕ)) (place : ℕ) : Type 0 where
  pub visit : Visit
  pub reached : Contains (visits pages) visit
  pub within : visit.page < s.layout.pages
  pub home : place ≡ home_a s.layout visit.page
  pub how : Breaks s.layout pages visit.page ⊎ (IsTrue (contains s.free_pages visit.page) ⊎ ((e : Entry) × Contains (entries_of visit.content) e × HasUntaken s e))

-- so many pages, with the bytes of those that were read
pub record HaveRead (s : State) (read : ℕ → Option (List ℕ)) (pages : List (List ℕ)) : Type 0 where
  pub size : length pages ≡ s.layout.pages
  pub same : (page : ℕ) → IfSome (read page) (λ bytes. image_at pages page ≡ bytes)

-- Some pages were read, and show this of all pages, whatever the others have.
pub record ShowsOfPages (old new : State) (resident : ℕ → Option (List ℕ)) (before now : Moment) (Is : List (List ℕ) → Type 0) : Type 0 where
  pub read : ℕ → Option (List ℕ)
  pub are_read : (page : ℕ) → IfSome (read page) (IsRead old new resident before now page)
  pub is : (pages : List (List ℕ)) → HaveRead old read pages → Is pages

-- the page at this home breaks the table
abbrev pub ShowsBreak : (old new : State) → (resident : ℕ → Option (List ℕ)) → (before now : Moment) → (place : ℕ) → Type 0
ShowsBreak old new resident before now place = ShowsOfPages old new resident before now (λ pages. BreaksMounted old pages place)

-- ---- both

abbrev pub HasCallCause : (old new : State) → (resident : ℕ → Option (List ℕ)) → (before now : Moment) → Refusal → Type 0
HasCallCause old new resident before now (Why.Lost a b) = AreLost (AreSomeCopies old new) now.image a b
HasCallCause old new resident before now (Why.Unsound s) = ShowsBreak old new resident before now s
HasCallCause old new resident before now why = ⊤

-- so it is of a refusal, where the machine kept to its promise
abbrev pub Causes : {D T : Type 0} → (M : Ghosts D) → (resident : ℕ → Option (List ℕ)) → (old new : State) → (before now : D) → Result T Refusal → Type 0
Causes M resident old new before now result = IfErr result (λ why. M.honest now → HasCallCause old new resident (M.now before) (M.now now) why)
