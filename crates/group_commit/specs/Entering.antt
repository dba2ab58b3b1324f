-- A force that comes round to the log's first third.
use Rattle.std.specs.Prelude.{◌≡◌, ⊤, false, ℕ, ◌+◌, ◌*◌, ◌<◌, List, [], ◌∷◌, length, Ok}
use Rattle.volume_layout.specs.declared.layout.Layout.{Layout}
use Rattle.volume_layout.specs.Layout.{IsPlanned}
use Rattle.volume_layout.specs.Kinds.{gap_of}
use Rattle.sector_disk.specs.declared.sector.WeakRun.{WeakRun}
use Rattle.sector_disk.specs.Image.{sector_at}
use Rattle.sector_disk.specs.Damage.{IsDevice, LostCause}
use Rattle.sector_disk.specs.declared.machine.LoadFault.{LoadFault}
use Rattle.sector_disk.specs.declared.machine.LoadFault.TheVariants.{Device, Lost}
use Rattle.sector_disk.specs.declared.machine.Machine.{Ghosts}
use Rattle.sector_disk.specs.Machine.{Moment, Holds, wrote}
use Rattle.sector_disk.specs.Written.{WroteMost}
use Rattle.fsd_log.specs.Scan.{HasRoom, Placed}
use Rattle.fsd_files.specs.Disk.{Image}
use Rattle.fsd_sound.specs.Laid.{HasOwnLog}
use Rattle.fsd_sound.specs.Mounted.{image_at}
use Rattle.fsd_sound.specs.Sound.{EndIn, ShowsPages, weak_of}
use Rattle.log_thirds.specs.Append.{IsIndexed, LastLiesIn, stamp_now}
use Rattle.log_thirds.specs.Images.{AreOfLogged}
use Rattle.log_thirds.specs.LogValue.{LogValue, FitsLayout}
use Rattle.log_thirds.specs.Moving.{moved}
use Rattle.fsd_log.specs.Moves.{records_moved}
use Rattle.fsd_sound.specs.Saved.{IsOpen}
use Rattle.group_commit.specs.Force.{MayWrite, KeepsOutside}
use Rattle.group_commit.specs.Room.{goes_before, log_before, pages_in_first, sectors_before}
use Rattle.fsd_sound.specs.Windows.{IsApart}
use Rattle.fsd_sound.specs.Homes.{IsAtHome}

-- The disk shows these pages, and only log, anchors and homes change. No anchor says that its volume was closed.
pub record ShowsDisk (l : Layout) (runs : List WeakRun) (disk : List (List ℕ)) (old left : Moment) : Type 0 where
  pub shows : ShowsPages l runs (disk ∷ []) left.image
  pub outside : KeepsOutside l old left
  pub opened : IsOpen left.image
  pub windows : left.windows ≡ old.windows
  pub said : left.said ≡ old.said

-- A log of its own on a disk that shows these pages; it knows where each page's last image lies.
pub record OwnsLog (log : LogValue) (records : List Placed) (disk : List (List ℕ)) (windows : List WeakRun) (i : Image) : Type 0 where
  pub shows : ShowsPages log.layout windows (disk ∷ []) i
  pub own : HasOwnLog log.layout log.anchor records log.head (weak_of windows) i
  pub indexed : IsIndexed log records

-- Of the pages in front of this number those whose last image lies in the first third stand at home, and nothing else
-- was written; the moment is worn from that image.
pub record IsHoming (log : LogValue) (records : List Placed) (disk : List (List ℕ)) (windows : List WeakRun) (old : Moment) (n : ℕ) (now : Moment) : Type 0 where
  pub image : Image
  pub holds : Holds old image now
  pub over : OwnsLog log records disk windows image
  pub done : (page : ℕ) → page < n → page < log.layout.pages → LastLiesIn log records log.anchor.third page → IsAtHome log.layout image page (image_at disk page)
  pub size : length image ≡ length old.image
  pub outside : (s : ℕ) → (MayWrite log.layout s → ⊥) → sector_at image s ≡ sector_at old.image s

-- No two sectors of the window but neighbours are weak.
pub record MayHome (log : LogValue) (windows : List WeakRun) (old : Moment) : Type 0 where
  pub planned : IsPlanned log.layout
  pub shape : FitsLayout log
  pub apart : IsApart (gap_of log.layout) (weak_of windows)
  pub ends : EndIn old.windows windows

-- At the end of it the disk shows the same pages, and the log is what lies behind the first third.
pub record IsEntered (log : LogValue) (records : List Placed) (disk : List (List ℕ)) (windows : List WeakRun) (old new : Moment) : Type 0 where
  pub over : OwnsLog (moved log) (records_moved log.layout records) disk windows new.image
  pub outside : KeepsOutside log.layout old new

-- Whatever pages the old moment shows over this log, the left one shows them too, and only log,
-- anchors and homes change.
abbrev pub ShowsStill : LogValue → Moment → Moment → Type 0
ShowsStill log old left = (records : List Placed) (disk : List (List ℕ)) (windows : List WeakRun) → MayHome log windows old → OwnsLog log records disk windows old.image → ShowsDisk log.layout windows disk old left

-- The same while a page of the first third goes home, of which the log was entered at an older moment.
abbrev pub ShowsHoming : LogValue → (page : ℕ) → Moment → Moment → Type 0
ShowsHoming log page now left = (records : List Placed) (disk : List (List ℕ)) (windows : List WeakRun) (old : Moment) (n : ℕ) → MayHome log windows old → LastLiesIn log records log.anchor.third page
    → IsHoming log records disk windows old n now → ShowsDisk log.layout windows disk old left

-- an image is lost only where the record enters the first third
abbrev pub RecordCause : LogValue → (n : ℕ) → LoadFault → Type 0
RecordCause log n (Device place) = ⊤
RecordCause log n (Lost a b) = goes_before log n ≡ false

-- both sectors of a page's last image are damaged
abbrev pub LosesLogged : LogValue → Image → LoadFault → Type 0
LosesLogged log i fault = LostCause (AreOfLogged log) i fault

-- There is room now, on a disk that shows the same pages.
pub record HasRoomNow (log : LogValue) (disk : List (List ℕ)) (windows : List WeakRun) (old new : Moment) : Type 0 where
  pub records : List Placed
  pub over : OwnsLog log records disk windows new.image
  pub outside : KeepsOutside log.layout old new

-- ---- what the calls that come round to it say

-- Some of the homes are written. A page is lost only where both sectors of its last image in the log read damaged, and
-- over a disk that shows pages none is.
pub record HomesInPart {D : Type 0} (M : Ghosts D) (log : LogValue) (most : ℕ) (old new : D) (fault : LoadFault) : Type 0 where
  pub counted : M.tells new → WroteMost most (M.ledger old) (M.ledger new)
  pub lost : M.honest new → LosesLogged log (M.now new).image fault
  pub never_lost : (records : List Placed) (disk : List (List ℕ)) (windows : List WeakRun) → M.honest new → MayHome log windows (M.now old) →
      OwnsLog log records disk windows (M.now old).image → IsDevice fault

-- A page does not go home. Both sectors of its last image in the log read damaged, or the disk failed; over a disk that
-- shows pages, of which the log was entered at some moment before, nothing is lost.
pub record HomesNoPage {D : Type 0} (M : Ghosts D) (log : LogValue) (old new : D) (fault : LoadFault) : Type 0 where
  pub counted : M.tells new → WroteMost 2 (M.ledger old) (M.ledger new)
  pub lost : M.honest new → LosesLogged log (M.now new).image fault
  pub never_lost : (records : List Placed) (disk : List (List ℕ)) (windows : List WeakRun) (first : Moment) (n : ℕ) → M.honest new → MayHome log windows first →
      IsHoming log records disk windows first n (M.now old) → IsDevice fault

-- The homes and both anchors are written, and the log is what lies behind the first third.
pub record EntersThird {D : Type 0} (M : Ghosts D) (log after : LogValue) (old new : D) : Type 0 where
  pub past : after ≡ moved log
  pub counted : M.tells new → M.ledger new ≡ wrote (M.ledger old) (2 * pages_in_first log + 2)
  pub shows : (records : List Placed) (disk : List (List ℕ)) (windows : List WeakRun) → M.honest new → MayHome log windows (M.now old) →
      OwnsLog log records disk windows (M.now old).image → IsEntered log records disk windows (M.now old) (M.now new)

-- The log is as it was.
pub record EntersNot {D : Type 0} (M : Ghosts D) (log after : LogValue) (old new : D) (fault : LoadFault) : Type 0 where
  pub kept : after ≡ log
  pub homes : HomesInPart M log (2 * pages_in_first log + 2) old new fault

-- There is room in the log for a record of so many pages.
pub record MakesRoom {D : Type 0} (M : Ghosts D) (log after : LogValue) (count : ℕ) (old new : D) : Type 0 where
  pub past : after ≡ log_before log count
  pub room : HasRoom after.layout count after.head
  pub counted : M.tells new → (M.ledger new).written ≡ (M.ledger old).written + sectors_before log count
  pub shows : (records : List Placed) (disk : List (List ℕ)) (windows : List WeakRun) → M.honest new → MayHome log windows (M.now old) →
      OwnsLog log records disk windows (M.now old).image → HasRoomNow after disk windows (M.now old) (M.now new)

-- The log is as it was, and such a record would enter its first third.
pub record MakesNoRoom {D : Type 0} (M : Ghosts D) (log after : LogValue) (count : ℕ) (old new : D) (fault : LoadFault) : Type 0 where
  pub kept : after ≡ log
  pub enters : goes_before log count ≡ false
  pub homes : HomesInPart M log (sectors_before log count) old new fault

-- The layout and the next record's stamp stay.
pub record KeepsForm (log after : LogValue) : Type 0 where
  pub layout : after.layout ≡ log.layout
  pub stamp : stamp_now after ≡ stamp_now log
