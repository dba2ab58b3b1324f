-- The steps of a mount, where sectors wear.
use Rattle.std.specs.Prelude.{◌≡◌, ◌≢◌, ◌⊎◌, ⊤, ℕ, zero, suc, ◌+◌, ◌*◌, ◌<◌, ◌≤◌, List, [], get_or, Option, Some, None, Contains, IsFalse, IfSome, slice_index_or}
use Rattle.volume_layout.specs.declared.layout.Layout.{Layout}
use Rattle.volume_layout.specs.Layout.{home_a, home_b, IsPlanned}
use Rattle.volume_layout.specs.Root.{root_bytes}
use Rattle.volume_layout.specs.Kinds.{gap_of, longest_of}
use Rattle.sector_disk.specs.declared.sector.Sector.TheVariants.{Whole}
use Rattle.sector_disk.specs.declared.sector.WeakRun.{WeakRun}
use Rattle.sector_disk.specs.Image.{sector_at, IsWorn, open_damage}
use Rattle.sector_disk.specs.Machine.{Moment, Holds}
use Rattle.fsd_log.specs.Images.{last_image}
use Rattle.fsd_files.specs.Disk.{Image, SectorWorn}
use Rattle.fsd_sound.specs.Anchors.{anchor_of}
use Rattle.fsd_sound.specs.Saved.{ClosesNone}
use Rattle.fsd_sound.specs.Laid.{AllLaid}
use Rattle.fsd_sound.specs.Shown.{records_by, shown}
use Rattle.fsd_sound.specs.Sound.{weak_of, EndIn, Says, SaysNoMore, ShowsPages}
use Rattle.log_thirds.specs.Append.{IsIndexed}
use Rattle.log_thirds.specs.Copies.{AreLastCopies}
use Rattle.log_thirds.specs.LogValue.{LogValue}
use Rattle.fsd_log.specs.declared.slot.Slot.{Slot}
use Rattle.fsd_sound.specs.declared.fault.MountFault.{MountFault}
use Rattle.fsd_sound.specs.declared.fault.MountFault.TheVariants.{NotVolume, Device, Memory, Lost, NoAnchor, Unsound, WornOut}
use Rattle.log_thirds.specs.Images.{AreOfLogged, IsUnlogged}
use Rattle.fsd_sound.specs.Lost.{AreHomes}
use Rattle.mount_recover.specs.Replay.{HasLastCopies, KeepsBehindLog, IsBehindSettle}
use Rattle.fsd_sound.specs.Logged.{IsLogged}
use Rattle.fsd_sound.specs.Windows.{IsApart}
use Rattle.fsd_sound.specs.Writes.{WritesAsMount, mount_writes}
use Rattle.fsd_sound.specs.Homes.{IsAtHome, HasBothHomes, HasSome}

-- ---- faults

-- a fault of a load, and no other
abbrev pub IsLoadFault : MountFault → Type 0
IsLoadFault (Device s) = ⊤
IsLoadFault (Lost a b) = ⊤
IsLoadFault NotVolume = ⊥
IsLoadFault Memory = ⊥
IsLoadFault NoAnchor = ⊥
IsLoadFault (Unsound s) = ⊥
IsLoadFault WornOut = ⊥

-- the two copies of a page, in the log or at home
abbrev pub AreOfVolume : Layout → LogValue → ℕ → ℕ → Type 0
AreOfVolume l log a b = AreOfLogged log a b ⊎ AreHomes l a b

-- the two roots
abbrev pub AreRoots : ℕ → ℕ → Type 0
AreRoots a b = (a ≡ 0) × (b ≡ 4)

abbrev pub AreOfAll : Layout → LogValue → ℕ → ℕ → Type 0
AreOfAll l log a b = AreOfVolume l log a b ⊎ AreRoots a b

-- ---- what any image keeps

-- each sector but these two stays, but for wear
abbrev pub StaysBut : (a b : ℕ) → Moment → Moment → Type 0
StaysBut a b old new = (s : ℕ) → s ≢ a → s ≢ b → SectorWorn (open_damage old.windows s) (sector_at old.image s) (sector_at new.image s)

-- The windows, what was said, and each sector but these two stay, but for wear.
pub record KeepsBut (a b : ℕ) (old new : Moment) : Type 0 where
  pub windows : new.windows ≡ old.windows
  pub said : new.said ≡ old.said
  pub others : StaysBut a b old new

-- each sector stays where a mount does not write, but for wear
abbrev pub StaysElsewhere : Layout → Moment → Moment → Type 0
StaysElsewhere l old new = WritesAsMount l (open_damage old.windows) old new

-- The windows, what was said, and each sector where a mount does not write stay, but for wear.
pub record KeepsUnwritten (l : Layout) (old new : Moment) : Type 0 where
  pub windows : new.windows ≡ old.windows
  pub said : new.said ≡ old.said
  pub rest : StaysElsewhere l old new

-- each layout that a root of the second image says was said by one of the first, or has the root of this one
abbrev pub SaysBut : Layout → Image → Image → Type 0
SaysBut l i j = (k : Layout) → Says k j → Says k i ⊎ (root_bytes l ≡ root_bytes k)

-- where a mount does not write, the images agree
abbrev pub SameElsewhere : Layout → Image → Image → Type 0
SameElsewhere l i j = (s : ℕ) → IsFalse (mount_writes l s) → sector_at j s ≡ sector_at i s

-- ---- up to `healing`

-- The log is the image's, as a scan of it gives.
pub record KnowsLog (l : Layout) (log : LogValue) (i : Image) : Type 0 where
  pub taken : anchor_of i ≡ Some log.anchor
  pub slots : IsIndexed log (records_by l i log.anchor)
  pub last : AreLastCopies l log.anchor.epoch log.anchor.third (records_by l i log.anchor) log.copies

-- An image was seen that the disk is worn from: it shows the pages, and the log is its log.
pub record IsSeen (l : Layout) (windows : List WeakRun) (choices : List (List (List ℕ))) (log : LogValue) (now : Moment) : Type 0 where
  pub image : Image
  pub apart : IsApart (gap_of l) (weak_of windows)
  pub ends : EndIn now.windows windows
  pub worn : IsWorn (open_damage now.windows) image now.image
  pub shows : ShowsPages l windows choices image
  pub knows : KnowsLog l log image

-- ---- from `healing` on

-- The disk is worn from an image that shows the pages and has every record of its log whole. The volume bears the run
-- that was named.
pub record IsCompleted (l : Layout) (windows : List WeakRun) (choices : List (List (List ℕ))) (log : LogValue) (now : Moment) : Type 0 where
  pub clean : Image
  pub planned : IsPlanned l
  pub apart : IsApart (gap_of l) (weak_of windows)
  pub ends : EndIn now.windows windows
  pub short : IfSome now.windows.next (λ run. run.count ≤ longest_of l.kind)
  pub worn : IsWorn (weak_of windows) clean now.image
  pub shows : ShowsPages l windows choices clean
  pub taken : anchor_of clean ≡ Some log.anchor
  pub low : log.anchor.third ≤ 2
  pub slots : IsIndexed log (records_by l clean log.anchor)
  pub laid : AllLaid l log.anchor (weak_of windows) clean (records_by l clean log.anchor)
  pub logged : (page : ℕ) → (last_image page (records_by l clean log.anchor) ≡ None → ⊥) → IsLogged l (weak_of windows) page clean
  pub pages : List (List ℕ)
  pub shown : shown l clean ≡ Some pages
  pub chosen : Contains choices pages

-- So it is, and the last record of the log that was seen has its copies, however the run wears from then on;
-- nothing behind the log was written, and no root.
pub record Completed (l : Layout) (windows : List WeakRun) (choices : List (List (List ℕ))) (log : LogValue) (old : Moment) (seen : IsSeen l windows choices log old) (new : Moment) : Type 0 where
  pub is : IsCompleted l windows choices log new
  pub last : HasLastCopies l log.anchor (weak_of windows) (records_by l seen.image log.anchor) new.image
  pub kept : KeepsBehindLog l (weak_of windows) old.image new.image
  pub rest : WritesAsMount l (weak_of windows) old new
  pub closes : ClosesNone old.image new.image
  pub says : SaysNoMore old.image new.image
  pub present : new.windows.present ≡ old.windows.present
  pub said : new.said ≡ old.said

-- the sector is a home of the page
abbrev pub IsHomeOf : Layout → (page s : ℕ) → Type 0
IsHomeOf l page s = (s ≡ home_a l page) ⊎ (s ≡ home_b l page)

-- one for a page that the log has
abbrev pub one_if_some : Option Slot → ℕ
one_if_some None = 0
one_if_some (Some slot) = 1

-- how many of so many first pages the log has
abbrev pub logged_count : LogValue → (pages : ℕ) → ℕ
logged_count log zero = 0
logged_count log (suc page) = logged_count log page + one_if_some (slice_index_or log.slots page None)

-- Of the disk as `healing` left it the homes before this sector are written, of the pages that the log has; of the other
-- pages the first are healed, so many of them. The moment is worn from that.
pub record IsMending (l : Layout) (windows : List WeakRun) (choices : List (List (List ℕ))) (log : LogValue) (first : Moment) (c : IsCompleted l windows choices log first) (end n : ℕ) (now : Moment) : Type 0 where
  pub image : Image
  pub holds : Holds first image now
  pub shows : ShowsPages l windows choices image
  pub logged : (page : ℕ) → (last_image page (records_by l c.clean log.anchor) ≡ None → ⊥) → IsLogged l (weak_of windows) page image
  pub written : (page s : ℕ) → page < l.pages → (last_image page (records_by l c.clean log.anchor) ≡ None → ⊥) → IsHomeOf l page s → s < end → sector_at image s ≡ Whole (get_or c.pages page [])
  pub healed : (page : ℕ) → page < n → page < l.pages → last_image page (records_by l c.clean log.anchor) ≡ None → IsAtHome l image page (get_or c.pages page [])
  pub front : (s : ℕ) → s < 16 + 3 * l.third → sector_at image s ≡ sector_at first.image s
  pub left : (page : ℕ) → n ≤ page → page < l.pages → last_image page (records_by l c.clean log.anchor) ≡ None → (sector_at image (home_a l page) ≡ sector_at first.image (home_a l page)) × (sector_at image (home_b l page) ≡ sector_at first.image (home_b l page))
  pub rest : SameElsewhere l first.image image

-- Of any image: of the pages that the log has each home before this sector stands, but for what the open window may wear;
-- of the other pages both homes of so many first ones.
pub record AreHomed (l : Layout) (log : LogValue) (end n : ℕ) (now : Moment) : Type 0 where
  pub written : (page s : ℕ) → page < l.pages → (IsUnlogged log page → ⊥) → IsHomeOf l page s → s < end → HasSome now s
  pub healed : (page : ℕ) → page < n → page < l.pages → IsUnlogged log page → HasBothHomes l now page

-- All pages are mended, and both roots.
pub record IsMended (l : Layout) (windows : List WeakRun) (choices : List (List (List ℕ))) (log : LogValue) (first : Moment) (c : IsCompleted l windows choices log first) (now : Moment) : Type 0 where
  pub image : Image
  pub holds : Holds first image now
  pub shows : ShowsPages l windows choices image
  pub done : (page : ℕ) → page < l.pages → IsAtHome l image page (get_or c.pages page [])
  pub root : sector_at image 0 ≡ Whole (root_bytes l)
  pub root_copy : sector_at image 4 ≡ Whole (root_bytes l)
  pub body : (s : ℕ) → 8 ≤ s → s < 16 + 3 * l.third → sector_at image s ≡ sector_at first.image s
  pub rest : SameElsewhere l first.image image

-- A moment from `healing` on: it is worn from an image that shows the pages, and has the log as it was,
-- and what lies where a mount does not write. What says there that the volume was closed said so before. The only roots
-- that were written are the layout's.
pub record StaysShown (l : Layout) (windows : List WeakRun) (choices : List (List (List ℕ))) (first left : Moment) : Type 0 where
  pub image : Image
  pub holds : Holds first image left
  pub shows : ShowsPages l windows choices image
  pub log : (s : ℕ) → 16 ≤ s → s < 16 + 3 * l.third → sector_at image s ≡ sector_at first.image s
  pub closes : ClosesNone first.image image
  pub says : SaysBut l first.image image
  pub rest : SameElsewhere l first.image image

-- So it is, or the mount has settled.
pub record HasSettled (l : Layout) (windows : List WeakRun) (choices : List (List (List ℕ))) (first left : Moment) : Type 0 where
  pub after : IsBehindSettle l windows choices left
  pub log : (s : ℕ) → 16 ≤ s → s < 16 + 3 * l.third → SectorWorn (weak_of windows s) (sector_at first.image s) (sector_at left.image s)
  pub rest : WritesAsMount l (weak_of windows) first left
  pub says : SaysBut l first.image left.image
  pub said : left.said ≡ first.said

abbrev pub StaysOrSettles : Layout → List WeakRun → List (List (List ℕ)) → (first left : Moment) → Type 0
StaysOrSettles l windows choices first left = StaysShown l windows choices first left ⊎ HasSettled l windows choices first left
