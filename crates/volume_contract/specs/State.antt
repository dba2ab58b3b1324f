-- A volume as its caller knows it: what it tells over any machine,
-- and what it is where the machine kept to its promise.
use Rattle.std.specs.Prelude.{◌≡◌, ◌⊎◌, ℕ, suc, ◌+◌, ◌-◌, ◌*◌, ◌<◌, ◌≤◌, Bool, false, not, ◌&&◌, ◌||◌, List, [], length, Option, Some, None, IsSome, Result, Ok, Err, IfOk, IsTrue, is_none, option_map, nat_le, nat_lt, ◌==◌, if◌then◌else◌, count_by, filter, map, replicate, slice_index_or, option_and_then, ◌∷◌, IsFalse}
use Rattle.std.specs.List.{list_any, AllByRecursion, AllZip}
use Rattle.fsd_bytes.specs.declared.key.Serial.{Serial}
use Rattle.fsd_bytes.specs.declared.refusal.Refusal.{Refusal}
use Rattle.fsd_bytes.specs.declared.refusal.Refusal.TheVariants as Why
use Rattle.volume_layout.specs.declared.layout.Layout.{Layout}
use Rattle.volume_layout.specs.Layout.{data_start, third_start}
use Rattle.run_table.specs.declared.run.Run.{Run}
use Rattle.run_table.specs.RunTable.{sectors_of}
use Rattle.run_table.specs.Space.{contains, pick, where_free}
use Rattle.fsd_formats.specs.declared.anchor.Anchor.{Anchor}
use Rattle.fsd_formats.specs.NamePage.{Content, read_page}
use Rattle.fsd_formats.specs.Record.{record_len}
use Rattle.sector_disk.specs.declared.sector.WeakRun.{WeakRun}
use Rattle.sector_disk.specs.Image.{open_damage, IsWorn}
use Rattle.sector_disk.specs.declared.machine.Machine.{Ghosts}
use Rattle.sector_disk.specs.Machine.{Moment, Ledger, wrote}
use Rattle.fsd_log.specs.Scan.{Head, Placed, place_of, spot_for, start}
use Rattle.fsd_forest.specs.Met.{search_of}
use Rattle.fsd_table.specs.Table.{visits}
use Rattle.fsd_files.specs.Disk.{Image, Sectors, Touches}
use Rattle.fsd_files.specs.Files.{Change}
use Rattle.fsd_files.specs.Kept.{data_sectors}
use Rattle.fsd_files.specs.Volume.{Volume, forced, free_runs, is_in, pages_free, waits}
use Rattle.fsd_sound.specs.Anchors.{fresh_anchor}
use Rattle.fsd_sound.specs.Laid.{HasOwnRoots}
use Rattle.fsd_sound.specs.Mounted.{Mounted, IsMounted, Wrote, most_waiting}
use Rattle.fsd_sound.specs.Shown.{records_by}
use Rattle.fsd_sound.specs.Sound.{EachBeside, EndIn, IsSound, weak_of}
use Rattle.fsd_sound.specs.Writes.{force_writes}
use Rattle.fsd_log.specs.declared.slot.Slot.{Slot}
use Rattle.fsd_log.specs.Moves.{head_back, next_third}
use Rattle.fsd_log.specs.Slots.{slot_outside, AreLastSlots, lies_in}
use Rattle.fsd_runs.specs.Runs.{last_count}
use Rattle.volume_layout.specs.Kinds.{gap_of}

-- ---- over any machine

-- the runs of the versions that are held, in the order of their places
abbrev pub held_runs : List (Option (List Run)) → List (List Run)
held_runs [] = []
held_runs (None ∷ places) = held_runs places
held_runs (Some runs ∷ places) = runs ∷ held_runs places

-- The layout, the serial that the next creation draws, the log's anchor and end, the slot of each page's last image in
-- it, the pages that wait for a force, the free runs now and once a force has ended, the sectors that wait, whether
-- some of them wait for a force, those of unfinished creations, at eight places the runs of the version that a reader
-- holds by it, the free name pages, the number of versions, and where a force, an upgrade or a growth has failed.
pub record State : Type 0 where
  pub layout : Layout
  pub serial : Serial
  pub anchor : Anchor
  pub head : Head
  pub slots : List (Option Slot)
  pub dirty : List ℕ
  pub free : List Run
  pub freed : List Run
  pub waiting : List ℕ
  pub waits : Bool
  pub unfinished : List ℕ
  pub readers : List (Option (List Run))
  pub free_pages : List ℕ
  pub versions : ℕ
  pub down : Option ℕ

-- the runs of the versions that readers hold
abbrev pub held_of : State → List (List Run)
held_of s = held_runs s.readers

-- so many readers may hold a version each
abbrev pub most_readers : ℕ
most_readers = 8

-- nobody holds a version
abbrev pub no_readers : {X : Type 0} → List (Option X)
no_readers = replicate most_readers None

-- serials or record numbers are used up
abbrev pub is_worn : State → Bool
is_worn s = nat_le last_count s.serial.count || nat_le last_count s.head.number

-- a change forces first where many pages wait
abbrev pub forces_first : State → Bool
forces_first s = nat_lt most_waiting (length s.dirty)

-- a put forces where it finds no place and a sector waits for a force
abbrev pub forces_for_place : State → ℕ → Bool
forces_for_place s need = is_none (pick s.free need) && s.waits

-- Of a mount: the log is empty and its epoch that of the serials, which are numbered from 1; nothing waits.
pub record IsNew (s : State) : Type 0 where
  pub anchor : s.anchor ≡ fresh_anchor s.serial.epoch
  pub head : s.head ≡ start s.layout 1
  pub slots : s.slots ≡ replicate s.layout.pages None
  pub count : s.serial.count ≡ 1
  pub dirty : s.dirty ≡ []
  pub waiting : s.waiting ≡ []
  pub waits : s.waits ≡ false
  pub unfinished : s.unfinished ≡ []
  pub readers : s.readers ≡ no_readers
  pub freed : s.freed ≡ s.free
  pub up : s.down ≡ None

-- where a refusal may leave a volume down, and the place that it tells then
abbrev pub downs_for : Refusal → Option ℕ
downs_for (Why.Device s) = Some s
downs_for (Why.Lost a b) = Some a
downs_for other = None

abbrev pub downs : {T : Type 0} → Result T Refusal → Option ℕ
downs (Ok x) = None
downs (Err why) = downs_for why

-- What a call keeps of a volume: it is down where it was, or where a force has failed at this place.
pub record GoesOn (place : Option ℕ) (old new : State) : Type 0 where
  pub layout : new.layout ≡ old.layout
  pub epoch : new.serial.epoch ≡ old.serial.epoch
  pub unfinished : new.unfinished ≡ old.unfinished
  pub readers : new.readers ≡ old.readers
  pub down : (new.down ≡ old.down) ⊎ (IsSome place × (new.down ≡ place))

-- what the grammar accepts a page in memory for
abbrev pub resident_content : State → (resident : ℕ → Option (List ℕ)) → ℕ → Option Content
resident_content s resident page = option_and_then (read_page page s.layout.pages) (resident page)

-- all that the search for the highest version of a name meets are pages in memory, as the grammar accepts them
abbrev pub HasPathOf : State → (resident : ℕ → Option (List ℕ)) → (name : List ℕ) → Type 0
HasPathOf s resident name = AllByRecursion (λ page. (page < s.layout.pages) × IsSome (resident_content s resident page)) (search_of (resident_content s resident) name)

-- every page that isn't a free one is in memory
abbrev pub HasAllPages : State → (resident : ℕ → Option (List ℕ)) → Type 0
HasAllPages s resident = (page : ℕ) → page < s.layout.pages → IsFalse (contains s.free_pages page) → IsSome (resident page)

-- either will do, so that a search for the name takes no memory
abbrev pub HasEnough : State → (resident : ℕ → Option (List ℕ)) → (name : List ℕ) → Type 0
HasEnough s resident name = HasPathOf s resident name ⊎ HasAllPages s resident

-- ---- forces

-- the record that a force numbers: none where no page waits
abbrev pub numbered : State → ℕ
numbered s = if length s.dirty == 0 then s.head.number else suc s.head.number

-- the next record would be laid in the anchor's first third
abbrev pub enters_again : State → Bool
enters_again s = nat_lt s.head.end (s.head.at + record_len (gap_of s.layout) (length s.dirty)) && nat_le (3 * s.layout.third) s.head.end

-- Its log lacks that third: the anchor names the following one, whose first record has this number, and the log has no
-- page's last image in the one that it leaves.
abbrev pub moved_third : State → (first : ℕ) → State
moved_third s first = record s {
  anchor = record { epoch = s.anchor.epoch; third = next_third s.anchor.third; first = first };
  head = head_back s.layout.third s.head;
  slots = map (slot_outside (third_start s.layout s.anchor.third) s.layout.third) s.slots;
}

-- the log behind which there is room for the next record
abbrev pub with_room : State → (first : ℕ) → State
with_room s first = if enters_again s then moved_third s first else s

-- where on the tape that record goes
abbrev pub record_spot : State → Head
record_spot s = spot_for s.layout (length s.dirty) s.head

-- the slot that it has of a page that waits: its pages ascend
abbrev pub record_slot : State → (page : ℕ) → Slot
record_slot s page =
    let place = place_of s.layout s.anchor.third (record_spot s).at + 3 + gap_of s.layout + count_by (λ q. nat_lt q page) s.dirty in
    record { place = place; copy = place + length s.dirty + 1 + gap_of s.layout; number = s.head.number }

-- A record of the pages that wait stands behind the log, which ends behind it then,
-- and of each of these pages has the slot in it.
pub record LogsRecord (s new : State) : Type 0 where
  pub anchor : new.anchor ≡ s.anchor
  pub head : new.head ≡ record { number = suc s.head.number; at = (record_spot s).at + record_len (gap_of s.layout) (length s.dirty); end = (record_spot s).end }
  pub table : length new.slots ≡ length s.slots
  pub slots : (page : ℕ) → page < length s.slots → slice_index_or new.slots page None ≡ (if contains s.dirty page then Some (record_slot s page) else slice_index_or s.slots page None)

-- what waits on once a force has ended: the sectors that readers hold and that unfinished creations have
abbrev pub still_waiting : State → List ℕ
still_waiting s = filter (λ t. is_in (held_of s) t || contains s.unfinished t) s.waiting

-- a force has ended, with its log here: nothing waits for one, and what did is free
abbrev pub forced_state : State → (anchor : Anchor) → (head : Head) → (slots : List (Option Slot)) → State
forced_state s anchor head slots = record s { anchor = anchor; head = head; slots = slots; dirty = []; free = s.freed; waiting = still_waiting s; waits = false }

-- A force has ended: it has numbered and logged one record, and none where no page waited.
pub record IsForced (old new : State) : Type 0 where
  pub is : new ≡ forced_state old new.anchor new.head new.slots
  pub number : new.head.number ≡ numbered old
  pub idle : old.dirty ≡ [] → new ≡ old
  pub logs : 1 ≤ length old.dirty → LogsRecord (with_room old new.anchor.first) new

-- A force has failed: it is down with that place, its log is as it was, or may have room for the next record,
-- and all else is as it was.
pub record IsDownAt (place : ℕ) (old new : State) : Type 0 where
  pub is : (new ≡ record old { down = Some place }) ⊎ (new ≡ record (with_room old new.anchor.first) { down = Some place })

-- the log is where it was
pub record KeepsLog (old new : State) : Type 0 where
  pub anchor : new.anchor ≡ old.anchor
  pub head : new.head ≡ old.head
  pub slots : new.slots ≡ old.slots

-- What becomes of a log: where a force came and pages waited, their record stands behind it; else it is where it was.
pub record HasLogged (forces : Bool) (old new : State) : Type 0 where
  pub more : IsTrue forces → 1 ≤ length old.dirty → LogsRecord (with_room old new.anchor.first) new
  pub same : (IsTrue forces → old.dirty ≡ []) → KeepsLog old new

-- What a call that has answered Ok has drawn, numbered and logged: a serial, where it makes a version;
-- a record, where a force came.
pub record HasCounted (draws forces : Bool) (old new : State) : Type 0 where
  pub count : new.serial.count ≡ (if draws then suc old.serial.count else old.serial.count)
  pub number : new.head.number ≡ (if forces then numbered old else old.head.number)
  pub log : HasLogged forces old new

-- ---- sectors that a call writes

-- how many pages have to go home before the first third is entered again: those whose last image lies in it
abbrev pub homed : State → ℕ
homed s = count_by (lies_in (third_start s.layout s.anchor.third) s.layout.third) s.slots

abbrev pub force_len : State → ℕ
force_len s = if length s.dirty == 0 then 0 else record_len (gap_of s.layout) (length s.dirty) + (if enters_again s then 2 * homed s + 2 else 0)

-- with a force on the way, where one comes
abbrev pub change_len : State → ℕ
change_len s = if forces_first s then force_len s else 0

-- a put's leader and data beside it
abbrev pub put_len : State → (need : ℕ) → ℕ
put_len s need = need + (if forces_for_place s need || forces_first s then force_len s else 0)

-- so many sectors are counted as written, where the call answers Ok, and no more where it doesn't
abbrev pub Counted : {T E : Type 0} → Result T E → ℕ → Ledger → Ledger → Type 0
Counted (Ok x) n old new = new.written ≡ old.written + n
Counted (Err why) n old new = (old.written ≤ new.written) × (new.written ≤ old.written + n)

-- Where a call writes, and how many sectors: so many where it answers, and no more where it doesn't.
pub record WritesWithin {D T : Type 0} (M : Ghosts D) (may : Sectors) (most : ℕ) (old new : D) (result : Result T Refusal) : Type 0 where
  pub rest : M.honest new → Touches may (M.now old) (M.now new)
  pub counted : M.tells new → Counted result most (M.ledger old) (M.ledger new)

-- Where a call writes, and where it answers as many sectors as it tells.
pub record WritesTold {D T : Type 0} (M : Ghosts D) (may : Sectors) (told : T → ℕ) (old new : D) (result : Result T Refusal) : Type 0 where
  pub rest : M.honest new → Touches may (M.now old) (M.now new)
  pub counted : IfOk result (λ x. M.tells new → M.ledger new ≡ wrote (M.ledger old) (told x))

-- ---- over an honest machine

-- An unfinished creation: its runs, and what was written in each of its data sectors, if anything was.
pub record WrittenDraft : Type 0 where
  pub runs : List Run
  pub slices : List (Option (List ℕ))

-- A version that a reader holds: its runs and its bytes.
pub record HeldVersion : Type 0 where
  pub runs : List Run
  pub bytes : List ℕ

-- What clients of a volume have open: creations, the last that was begun first, and at eight places versions.
pub record OpenParts : Type 0 where
  pub drafts : List WrittenDraft
  pub readers : List (Option HeldVersion)

-- nothing
abbrev pub none_open : OpenParts
none_open = record { drafts = []; readers = no_readers }

abbrev pub readings : List (Option HeldVersion) → List HeldVersion
readings [] = []
readings (None ∷ places) = readings places
readings (Some x ∷ places) = x ∷ readings places

-- What stands: the volume with what it has in memory, what is open, the windows so far, and the changes so far.
pub record Known : Type 0 where
  pub mounted : Mounted
  pub opened : OpenParts
  pub windows : List WeakRun
  pub changes : List Change

abbrev pub volume_of : Known → Volume
volume_of k = k.mounted.volume

-- how many of the changes are forced
abbrev pub forced_of : Known → ℕ
forced_of k = length k.changes - k.mounted.volume.unforced

-- What the volume tells is of this one, and it isn't down.
pub record Fits (s : State) (m : Mounted) : Type 0 where
  pub layout : m.volume.layout ≡ s.layout
  pub serial : m.volume.serial ≡ s.serial
  pub anchor : m.anchor ≡ s.anchor
  pub head : m.head ≡ s.head
  pub dirty : m.dirty ≡ s.dirty
  pub free : free_runs m.volume ≡ s.free
  pub freed : free_runs (forced m.volume) ≡ s.freed
  pub waiting : where_free (waits m.volume) (data_start m.volume.layout) m.volume.layout.sectors ≡ s.waiting
  pub waits : not (length m.volume.removed == 0) ≡ s.waits
  pub unfinished : where_free (is_in m.volume.drafts) (data_start m.volume.layout) m.volume.layout.sectors ≡ s.unfinished
  pub held : m.volume.held ≡ held_of s
  pub pages_free : pages_free m.volume ≡ length s.free_pages
  pub versions : length m.volume.files ≡ s.versions
  pub up : s.down ≡ None

-- What it has open is this, and so are what was written and what the versions have.
pub record HasOpened (s : State) (o : OpenParts) (m : Mounted) : Type 0 where
  pub drafts : m.volume.drafts ≡ map (λ x. x.runs) o.drafts
  pub slices : m.slices ≡ map (λ x. x.slices) o.drafts
  pub places : s.readers ≡ map (λ place. option_map (λ x. x.runs) place) o.readers
  pub bytes : m.bytes ≡ map (λ x. x.bytes) (readings o.readers)

-- What it tells of pages is of these, and of the log's records: each page's slot in the last record that has it, and
-- the free name pages, which no path reaches.
pub record ListsPages (s : State) (pages : List (List ℕ)) (records : List Placed) : Type 0 where
  pub table : length s.slots ≡ s.layout.pages
  pub slots : AreLastSlots s.layout s.anchor.third records s.slots
  pub free_pages : (page : ℕ) → page < s.layout.pages → contains s.free_pages page ≡ not (list_any (λ visit. visit.page == page) (visits pages))

-- what is written of unfinished creations stands in their sectors, but for damage in these
abbrev pub StandWritten : Sectors → Image → List (List (Option (List ℕ))) → List (List Run) → Type 0
StandWritten weak i slices drafts = AllZip (λ written runs. AllZip (Wrote weak i) written (data_sectors runs)) slices drafts

-- The volume is mounted on the disk of this moment, and what it has in memory is of it and of
-- the records that the disk's log has. What is written of its creations may be damaged in the open window alone.
pub record Stands {S : Type 0} (state : S → State) (has : S → Mounted → List Placed → Type 0) (s : S) (k : Known) (now : Moment) : Type 0 where
  pub fits : Fits (state s) k.mounted
  pub opened : HasOpened (state s) k.opened k.mounted
  pub holds : has s k.mounted (records_by k.mounted.volume.layout now.image k.mounted.anchor)
  pub lists : ListsPages (state s) k.mounted.pages (records_by k.mounted.volume.layout now.image k.mounted.anchor)
  pub ends : EndIn now.windows k.windows
  pub disk : IsMounted k.mounted k.windows k.changes (forced_of k) now.image
  pub written : StandWritten (open_damage now.windows) now.image k.mounted.slices k.mounted.volume.drafts

-- The disk is worn since, in the same windows; what is said may differ.
pub record Ages (old new : Moment) : Type 0 where
  pub image : IsWorn (open_damage old.windows) old.image new.image
  pub windows : new.windows ≡ old.windows

-- ---- what a stop leaves

-- The disk is sound for the changes of before, with all that were forced before: a call forces no change of its own. Both
-- roots are those of the volume's layout.
pub record LeavesSound (k : Known) (may : Sectors) (old left : Moment) : Type 0 where
  pub sound : IsSound k.mounted.volume.layout k.windows k.changes (forced_of k) left.image
  pub roots : HasOwnRoots k.mounted.volume.layout (weak_of k.windows) left.image
  pub windows : left.windows ≡ old.windows
  pub said : left.said ≡ old.said
  pub touches : Touches may old left

-- what a stop leaves of a call over a mounted volume that writes only there
abbrev pub Leaves : {S : Type 0} → (state : S → State) → (has : S → Mounted → List Placed → Type 0) → S → Sectors → Moment → Moment → Type 0
Leaves state has s may old left = (k : Known) → Stands state has s k old → LeavesSound k may old left

-- Of a call that writes the roots with another layout: the disk is sound by the one that the volume had, for the changes of
-- before. A root that says one beside it says that other one.
pub record LeavesRelaid (k : Known) (other : Layout) (Touched : Type 0) (old left : Moment) : Type 0 where
  pub sound : IsSound k.mounted.volume.layout k.windows k.changes (forced_of k) left.image
  pub says : EachBeside k.mounted.volume.layout left.image (λ l. l ≡ other)
  pub windows : left.windows ≡ old.windows
  pub said : left.said ≡ old.said
  pub touches : Touched

-- the runs that a put takes: those that are picked now, or once a force has ended
abbrev pub or_freed : State → ℕ → Option (List Run) → Option (List Run)
or_freed s need (Some runs) = Some runs
or_freed s need None = if s.waits then pick s.freed need else None

abbrev pub place_in : State → ℕ → Option (List Run)
place_in s need = or_freed s need (pick s.free need)

abbrev pub in_place : Option (List Run) → Sectors
in_place None s = false
in_place (Some runs) s = contains (sectors_of runs) s

abbrev pub put_writes : State → ℕ → Sectors
put_writes s need t = force_writes s.layout t || in_place (place_in s need) t
