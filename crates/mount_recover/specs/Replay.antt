-- What a mount leaves at each moment, and at its end.
use Rattle.std.specs.Prelude.{◌≡◌, ◌⊎◌, ℕ, ◌+◌, ◌*◌, ◌<◌, ◌≤◌, List, [], ◌∷◌, ◌++◌, get_or, Some, None, Contains}
use Rattle.volume_layout.specs.declared.layout.Layout.{Layout}
use Rattle.volume_layout.specs.Layout.{home_a, home_b}
use Rattle.fsd_formats.specs.declared.anchor.Anchor.{Anchor}
use Rattle.sector_disk.specs.declared.sector.WeakRun.{WeakRun}
use Rattle.sector_disk.specs.Image.{sector_at, IsWorn}
use Rattle.sector_disk.specs.Machine.{Moment}
use Rattle.fsd_log.specs.Scan.{Placed, start}
use Rattle.fsd_files.specs.Disk.{Image, Sectors, SectorWorn, Has}
use Rattle.fsd_sound.specs.Anchors.{anchor_of, fresh_anchor}
use Rattle.fsd_sound.specs.Laid.{HasCopies, HasOwnLog}
use Rattle.fsd_sound.specs.Saved.{ClosesNone, IsOpen}
use Rattle.fsd_sound.specs.Shown.{records_by}
use Rattle.fsd_sound.specs.Sound.{weak_of, IsSaid, SaysNoMore, ShowsPages}
use Rattle.fsd_sound.specs.Writes.{WritesAsMount}
pub use Rattle.fsd_sound.specs.Homes.{StandAtHome}
pub use Rattle.fsd_sound.specs.Logged.{copies_at, copies_of, KeepsLogged}

-- ---- the order

-- nothing behind the log is written
abbrev pub KeepsBehindLog : Layout → Sectors → Image → Image → Type 0
KeepsBehindLog l weak i j = (s : ℕ) → 16 + 3 * l.third ≤ s → SectorWorn (weak s) (sector_at i s) (sector_at j s)

-- the last of the records has its copies
abbrev pub HasLastCopies : Layout → Anchor → Sectors → List Placed → Image → Type 0
HasLastCopies l a weak records i = (front : List Placed) (r : Placed) → records ≡ front ++ r ∷ [] → HasCopies l a weak i r

-- So has the last record of the log that was seen.
pub record IsCompletedFrom (l : Layout) (weak : Sectors) (old left : Image) : Type 0 where
  pub seen : Image
  pub worn : IsWorn weak old seen
  pub anchor : Anchor
  pub taken : anchor_of seen ≡ Some anchor
  pub last : HasLastCopies l anchor weak (records_by l seen anchor) left

-- ---- moments

-- the present window is as it was
abbrev pub IsUnturned : (old left : Moment) → Type 0
IsUnturned old left = left.windows.present ≡ old.windows.present

-- so it is, or this is the end: a mount settles as the last that it does
abbrev pub TurnsLast : (old new left : Moment) → Type 0
TurnsLast old new left = IsUnturned old left ⊎ (left ≡ new)

-- Before the mount settles: the present window is as it was, and the image shows one of the page lists. What says that the
-- volume was closed said so before.
pub record IsBefore (l : Layout) (windows : List WeakRun) (choices : List (List (List ℕ))) (old left : Moment) : Type 0 where
  pub present : left.windows.present ≡ old.windows.present
  pub shows : ShowsPages l windows choices left.image
  pub closes : ClosesNone old.image left.image

-- After it: the run that was named is the present one, and the image shows one page list of them. Nothing says that the
-- volume was closed.
pub record IsBehindSettle (l : Layout) (windows : List WeakRun) (choices : List (List (List ℕ))) (left : Moment) : Type 0 where
  pub run : WeakRun
  pub settled : left.windows ≡ record { present = Some run; next = None }
  pub pages : List (List ℕ)
  pub chosen : Contains choices pages
  pub shows : ShowsPages l (windows ++ run ∷ []) (pages ∷ []) left.image
  pub opened : IsOpen left.image

-- A moment of a mount: the last record has its copies before anything is written behind the log,
-- and nothing is written but where a mount writes. No root says a layout that none said before.
pub record Replays (l : Layout) (windows : List WeakRun) (choices : List (List (List ℕ))) (old left : Moment) : Type 0 where
  pub stage : IsBefore l windows choices old left ⊎ IsBehindSettle l windows choices left
  pub order : KeepsBehindLog l (weak_of windows) old.image left.image ⊎ IsCompletedFrom l (weak_of windows) old.image left.image
  pub rest : WritesAsMount l (weak_of windows) old left
  pub says : SaysNoMore old.image left.image
  pub said : left.said ≡ old.said

-- each page of the list stands at both homes, but for what is weak
abbrev pub StandAtHomeBut : Layout → Sectors → List (List ℕ) → Image → Type 0
StandAtHomeBut l weak pages i = (page : ℕ) → page < l.pages → Has weak i (get_or pages page []) (home_a l page) × Has weak i (get_or pages page []) (home_b l page)

-- A mount that is done: the log of the new epoch is empty, and the one page list that is shown stands at both homes.
pub record IsReplayed (l : Layout) (windows : List WeakRun) (choices : List (List (List ℕ))) (epoch : ℕ) (new : Moment) : Type 0 where
  pub after : IsBehindSettle l windows choices new
  pub log : HasOwnLog l (fresh_anchor epoch) [] (start l 1) (weak_of (windows ++ after.run ∷ [])) new.image
  pub home : StandAtHomeBut l (weak_of (windows ++ after.run ∷ [])) after.pages new.image

-- A mount over an image that shows pages of a volume: with one layout that the image says, the one that it took, each
-- moment is such a moment of a mount, and so is its end.
pub record ReplaysSaid (l : Layout) (windows : List WeakRun) (choices : List (List (List ℕ))) (Took : Layout → Type 0) (Only : (Moment → Type 0) → Type 0) (old new : Moment) : Type 0 where
  pub layout : Layout
  pub said : IsSaid l old.image layout
  pub took : Took layout
  pub moments : Only (Replays layout windows choices old)
  pub exit : Replays layout windows choices old new
