-- What may stand on a disk that can be mounted, whatever wears in its weak run.
use Rattle.std.specs.Prelude.{◌≡◌, ◌⊎◌, ℕ, ◌<◌, ◌≤◌, Bool, ◌&&◌, ◌||◌, List, [], ◌∷◌, ◌++◌, length, map, take, Option, Some, None, IfSome, IsSome, nat_le, nat_lt, ◌==◌, IsTrue, Contains, ⊤}
use Rattle.std.specs.List.{last_or, list_any}
use Rattle.volume_layout.specs.declared.layout.Layout.{Layout}
use Rattle.volume_layout.specs.Layout.{home_a, home_b, InLog, IsBeside, IsPlanned, IsSized, turned}
use Rattle.volume_layout.specs.Kinds.{longest_of}
use Rattle.volume_layout.specs.Root.{root_bytes}
use Rattle.fsd_formats.specs.declared.anchor.Anchor.{Anchor}
use Rattle.fsd_formats.specs.Anchors.{read_anchor}
use Rattle.fsd_formats.specs.Record.{Stamp}
use Rattle.sector_disk.specs.declared.sector.WeakRun.{WeakRun}
use Rattle.sector_disk.specs.declared.sector.Sector.TheVariants.{Whole, Damaged}
use Rattle.sector_disk.specs.Image.{Windows, open_damage, sector_at, AllWorn, IsWorn}
use Rattle.fsd_log.specs.Borne.{borne_by}
use Rattle.fsd_log.specs.Scan.{Placed, place_of}
use Rattle.fsd_log.specs.Images.{last_image}
use Rattle.fsd_files.specs.Disk.{Image, Sectors, in_runs}
use Rattle.fsd_files.specs.Files.{Change, after}
use Rattle.fsd_files.specs.Kept.{Describes}
use Rattle.fsd_files.specs.Space.{Apart}
use Rattle.fsd_sound.specs.Anchors.{anchor_at, anchor_of, EachAnchor}
use Rattle.fsd_sound.specs.Laid.{IsLaid}
use Rattle.fsd_table.specs.Table.{Telling, told_in}
use Rattle.fsd_sound.specs.Saved.{IsOpen, SavesPages}
use Rattle.fsd_sound.specs.Shown.{records_by, shown, told}

-- P of the bytes, if the sector is Whole
abbrev pub IfWhole : Image → ℕ → (List ℕ → Type 0) → Type 0
IfWhole i s P = (bytes : List ℕ) → sector_at i s ≡ Whole bytes → P bytes

-- ---- roots and damage

abbrev pub is_home : Layout → ℕ → Bool
is_home l s = (nat_le (home_a l 0) s && nat_lt s (home_a l l.pages)) || (nat_le (home_b l 0) s && nat_lt s (home_b l l.pages))

-- the sectors that stand twice outside the log
abbrev pub is_twin : Layout → ℕ → Bool
is_twin l s = list_any (λ t. t == s) (0 ∷ 4 ∷ 8 ∷ 12 ∷ []) || is_home l s

-- the bytes are the root of one of the two layouts
abbrev pub IsRootOf : Layout → Layout → List ℕ → Type 0
IsRootOf l other bytes = (bytes ≡ root_bytes l) ⊎ (bytes ≡ root_bytes other)

-- such a root stands in the sector
abbrev pub IsRootAt : Layout → Layout → Image → ℕ → Type 0
IsRootAt l other i s = (bytes : List ℕ) × (sector_at i s ≡ Whole bytes) × IsRootOf l other bytes

-- some root is that of this layout
abbrev pub Says : Layout → Image → Type 0
Says k i = (sector_at i 0 ≡ Whole (root_bytes k)) ⊎ (sector_at i 4 ≡ Whole (root_bytes k))

-- so it is of each layout that a root says, of those that may be planned
abbrev pub EachSaid : Image → (Layout → Type 0) → Type 0
EachSaid i P = (k : Layout) → IsPlanned k → Says k i → P k

-- each layout that a root of the second image says was said by one of the first
abbrev pub SaysNoMore : Image → Image → Type 0
SaysNoMore i j = (k : Layout) → Says k j → Says k i

-- and of each one beside this that a root says
abbrev pub EachBeside : Layout → Image → (Layout → Type 0) → Type 0
EachBeside l i P = (k : Layout) → IsBeside l k → Says k i → P k

-- some root is that of the layout turned
abbrev pub SaysTurned : Layout → Image → Type 0
SaysTurned l i = Says (turned l) i

-- Some copy of the root is whole, each whole one is that of the layout, or of another one beside it, the same for both,
-- and twins are damaged in the weak run alone.
pub record HasRoots (l : Layout) (weak : Sectors) (i : Image) : Type 0 where
  pub planned : IsPlanned l
  pub other : Layout
  pub beside : IsBeside l other
  pub some : IsRootAt l other i 0 ⊎ IsRootAt l other i 4
  pub first : IfWhole i 0 (IsRootOf l other)
  pub second : IfWhole i 4 (IsRootOf l other)
  pub fits : l.sectors ≤ length i
  pub twins : (s : ℕ) → IsTrue (is_twin l s) → sector_at i s ≡ Damaged → IsTrue (weak s)

-- ---- anchors, and the epochs in the log

-- P of the stamp of each whole sector of the log that bears one
abbrev pub EachStamp : Layout → Image → (Stamp → Type 0) → Type 0
EachStamp l i P = (s : ℕ) → InLog l s → IfWhole i s (λ bytes. IfSome (borne_by bytes) P)

-- Each whole copy is an anchor, and nothing in the log is of a later epoch.
pub record HasAnchors (l : Layout) (i : Image) : Type 0 where
  pub first : IfWhole i 8 (λ bytes. IsSome (read_anchor bytes))
  pub second : IfWhole i 12 (λ bytes. IsSome (read_anchor bytes))
  pub epochs : EachAnchor i (λ a. EachStamp l i (λ stamp. stamp.epoch ≤ a.epoch))

-- ---- the log

-- the record at its place on the disk
abbrev pub on_disk : Layout → Anchor → Placed → Placed
on_disk l a r = record { at = place_of l a.third r.at; entry = r.entry }

abbrev pub disk_records : Layout → Image → Anchor → List Placed
disk_records l i a = map (on_disk l a) (records_by l i a)

-- the records are the last of the others
abbrev pub IsSuffix : List Placed → List Placed → Type 0
IsSuffix xs ys = (front : List Placed) × (ys ≡ front ++ xs)

-- where both anchors are of one epoch, the records by the newer are the last of those by each, at the same places
abbrev pub ScansAgree : Layout → Image → Option Anchor → Option Anchor → Option Anchor → Type 0
ScansAgree l i (Some a) (Some b) (Some taken) = a.epoch ≡ b.epoch → IsSuffix (disk_records l i taken) (disk_records l i a) × IsSuffix (disk_records l i taken) (disk_records l i b)
ScansAgree l i a b taken = ⊤

-- By both anchors the log is the same from the newer one's start on, and by each its records stand as they were laid.
pub record HasLog (l : Layout) (weak : Sectors) (i : Image) : Type 0 where
  pub agree : ScansAgree l i (anchor_at i 8) (anchor_at i 12) (anchor_of i)
  pub laid : EachAnchor i (λ a. IsLaid l a weak i (records_by l i a))

-- by each anchor nothing is logged, whether the records are of the layout's form or of the other one
abbrev pub LogsNothing : Layout → Image → Type 0
LogsNothing l i = EachAnchor i (λ a. (records_by l i a ≡ []) × (records_by (turned l) i a ≡ []))

-- ---- home

-- a page that no record has is the same at both homes, where they are whole
abbrev pub HasHomes : Layout → Image → Type 0
HasHomes l i = EachAnchor i (λ a. (page : ℕ) → page < l.pages → last_image page (records_by l i a) ≡ None →
    (x y : List ℕ) → sector_at i (home_a l page) ≡ Whole x → sector_at i (home_b l page) ≡ Whole y → x ≡ y)

-- ---- windows

-- the windows of a machine once the last of these is settled
abbrev pub at_rest : List WeakRun → Windows
at_rest windows = record { present = last_or None windows; next = None }

-- the last window's run
abbrev pub weak_of : List WeakRun → Sectors
weak_of windows = open_damage (at_rest windows)

-- the volume bears the last window's run
abbrev pub BearsLast : Layout → List WeakRun → Type 0
BearsLast l windows = IfSome (last_or None windows) (λ run. run.count ≤ longest_of l.kind)

-- The image may be mounted with a layout beside this one as well: that bears the last window's run too and has room, and
-- where it is this one turned nothing is logged, however the run wears. Where it has another number of sectors, no copy of
-- the anchor says that the volume was closed: a map that was saved by one of them says nothing of the other's data area.
pub record IsEither (l k : Layout) (windows : List WeakRun) (i : Image) : Type 0 where
  pub borne : BearsLast k windows
  pub fits : k.sectors ≤ length i
  pub empty : k ≡ turned l → AllWorn (weak_of windows) (LogsNothing l) i
  pub opened : IsSized l k → IsOpen i

-- The machine's present window is the last of these.
pub record EndIn (now : Windows) (windows : List WeakRun) : Type 0 where
  pub last : last_or None windows ≡ now.present
  pub some : IsSome now.present

-- ---- what the table tells

-- A prefix of the changes, with the first f of them.
pub record IsPrefixOf (h : List Change) (f n : ℕ) : Type 0 where
  pub forced : f ≤ n
  pub made : n ≤ length h

abbrev pub Tells : Layout → Sectors → Image → List Change → ℕ → Option Telling → Type 0
Tells l hurt i h f None = ⊥
Tells l hurt i h f (Some t) = (n : ℕ) × IsPrefixOf h f n × Describes l hurt i (after (take n h)) t.entries

-- the sectors of the entries that are told lie in the data area of the layout
abbrev pub LiesIn : Layout → Option Telling → Type 0
LiesIn k None = ⊤
LiesIn k (Some t) = Apart k (map (λ e. e.runs) t.entries)

abbrev pub AllLieIn : Layout → List (List (List ℕ)) → Type 0
AllLieIn k choices = (pages : List (List ℕ)) → Contains choices pages → LiesIn k (told_in pages)

-- ---- the whole

-- the layout is this one, or one beside it, where a root says so
abbrev pub IsSaid : Layout → Image → (layout : Layout) → Type 0
IsSaid l i layout = (layout ≡ l) ⊎ (IsBeside l layout × Says layout i)

-- What holds of the disk whatever its pages tell. The volume bears the last window's run. Where a root says a layout
-- beside this one, the image may be mounted with that as well.
pub record IsReadable (l : Layout) (windows : List WeakRun) (i : Image) : Type 0 where
  pub borne : BearsLast l windows
  pub roots : HasRoots l (weak_of windows) i
  pub either : EachBeside l i (λ k. IsEither l k windows i)
  pub anchors : HasAnchors l i
  pub log : (j : Image) → IsWorn (weak_of windows) i j → HasLog l (weak_of windows) j
  pub homes : (j : Image) → IsWorn (weak_of windows) i j → HasHomes l j

-- The image may stand after these changes, the first f of them forced: however its weak run wears, it tells a prefix of
-- them with every forced one, and what is told lies in the data area of each layout beside this one that a root says. It
-- shows what its saved map says, where its volume was closed.
pub record IsSound (l : Layout) (windows : List WeakRun) (h : List Change) (f : ℕ) (i : Image) : Type 0 where
  pub readable : IsReadable l windows i
  pub tells : (j : Image) → IsWorn (weak_of windows) i j → Tells l (in_runs windows) j h f (told l j)
  pub within : EachBeside l i (λ k. (j : Image) → IsWorn (weak_of windows) i j → LiesIn k (told l j))
  pub saved : (j : Image) → IsWorn (weak_of windows) i j → (pages : List (List ℕ)) → shown l j ≡ Some pages → SavesPages l i pages

-- the pages that are shown are one of these lists
abbrev pub ShowsOne : List (List (List ℕ)) → Option (List (List ℕ)) → Type 0
ShowsOne choices None = ⊥
ShowsOne choices (Some pages) = Contains choices pages

-- However its weak run wears, the image shows the pages of one of these lists. What they tell lies in the data area of each
-- layout beside this one that a root says.
pub record ShowsPages (l : Layout) (windows : List WeakRun) (choices : List (List (List ℕ))) (i : Image) : Type 0 where
  pub readable : IsReadable l windows i
  pub within : EachBeside l i (λ k. AllLieIn k choices)
  pub shows : (j : Image) → IsWorn (weak_of windows) i j → ShowsOne choices (shown l j)

-- ---- where nothing wears

-- no sector of the last window may be damaged
abbrev pub IsStill : List WeakRun → Type 0
IsStill windows = (s : ℕ) → IsTrue (weak_of windows s) → ⊥

-- The disk shows these pages alone, and they tell the files after a prefix of the changes, with the first f of them.
pub record TellsPrefix (l : Layout) (windows : List WeakRun) (h : List Change) (f : ℕ) (i : Image) : Type 0 where
  pub pages : List (List ℕ)
  pub shows : ShowsPages l windows (pages ∷ []) i
  pub telling : Telling
  pub told : told_in pages ≡ Some telling
  pub count : ℕ
  pub prefix : IsPrefixOf h f count
  pub described : Describes l (in_runs windows) i (after (take count h)) telling.entries
  pub saved : SavesPages l i pages
