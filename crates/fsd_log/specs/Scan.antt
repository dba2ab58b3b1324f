-- The records of the log, as they are found on a disk.
--
-- The log is read as a tape: the anchor's first third, then the two others in order. A place on the tape is counted
-- from the start of the first third.
use Rattle.std.specs.Prelude.{◌≡◌, ◌⊎◌, ◌<◌, ◌≤◌, nat_le, ℕ, zero, suc, ◌+◌, ◌-◌, ◌*◌, ◌^◌, min, ◌&&◌, List, [], ◌∷◌, length, Option, Some, None, nat_lt, if◌then◌else◌, option_map, unwrap_or, Bool, ◌||◌, ◌==◌, option_and_then}
use Rattle.std.specs.Option.{option_or}
use Rattle.fsd_formats.specs.declared.anchor.Anchor.{Anchor}
use Rattle.fsd_formats.specs.Anchors.{read_anchor}
use Rattle.volume_layout.specs.Shape.{Shape}
use Rattle.volume_layout.specs.Kinds.{gap_of}
use Rattle.fsd_formats.specs.Record.{record_len}
use Rattle.fsd_log.specs.Judged.{Reader, Logged, record_in}
use Rattle.fsd_log.specs.Borne.{Foreign}

-- ---- the tape

-- where a place on the tape lies on the disk: behind the last third comes the first one again
abbrev pub place_of : Shape → (first at : ℕ) → ℕ
place_of l first at = if nat_lt (first * l.third + at) (3 * l.third) then 16 + (first * l.third + at) else 16 + (first * l.third + at - 3 * l.third)

abbrev pub tape : Shape → ℕ → Reader → Reader
tape l first disk at = if nat_lt at (3 * l.third) then disk (place_of l first at) else None

-- ---- the anchor

abbrev pub anchor_in : Option (List ℕ) → Option Anchor
anchor_in bytes = option_and_then read_anchor bytes

-- by epoch, and then by the first number
abbrev pub is_newer : Anchor → Anchor → Bool
is_newer a b = nat_lt b.epoch a.epoch || a.epoch == b.epoch && nat_lt b.first a.first

-- the newer of two, on a tie the first
abbrev pub newer_of : Option Anchor → Option Anchor → Option Anchor
newer_of None second = second
newer_of (Some a) None = Some a
newer_of (Some a) (Some b) = Some (if is_newer b a then b else a)

-- the anchor that the disk gives, of its two copies
abbrev pub anchor_on : Reader → Option Anchor
anchor_on disk = newer_of (anchor_in (disk 8)) (anchor_in (disk 12))

-- ---- the scan

-- where the next record is looked for, and where the third that this is in ends
pub record Head : Type 0 where
  pub number : ℕ
  pub at : ℕ
  pub end : ℕ

-- a record, and where on the tape it lies
pub record Placed : Type 0 where
  pub at : ℕ
  pub entry : Logged

-- as many sectors as a record of either kind may have, as far as the third goes
abbrev pub room_at : (at end : ℕ) → ℕ
room_at at end = min 199 (end - at)

abbrev pub window : Reader → (at room : ℕ) → Reader
window disk at room k = if nat_lt k room then disk (at + k) else None

-- No record is ever given this number, and none is looked for.
abbrev pub last_number : ℕ
last_number = 2 ^ 32 - 1

abbrev pub record_here : Shape → ℕ → Reader → (number at end : ℕ) → Option Logged
record_here l epoch disk number at end =
    if nat_lt number last_number
    then record_in (gap_of l) l.pages (record { epoch = epoch; number = number }) (room_at at end) (window disk at (room_at at end))
    else None

-- the record, and the head behind it
abbrev pub behind : (gap : ℕ) → (number at end : ℕ) → Logged → Placed × Head
behind gap number at end r = (record { at = at; entry = r }, record { number = number + 1; at = at + record_len gap (length r.pages); end = end })

-- the next record: here, or at the start of the next third, where this third has a record and isn't the last
abbrev pub entered : Shape → ℕ → Reader → Head → Option (Placed × Head)
entered l epoch disk h =
    if nat_lt 0 h.at && nat_lt h.end (3 * l.third)
    then option_map (behind (gap_of l) h.number h.end (h.end + l.third)) (record_here l epoch disk h.number h.end (h.end + l.third))
    else None

abbrev pub next : Shape → ℕ → Reader → Head → Option (Placed × Head)
next l epoch disk h = option_or (option_map (behind (gap_of l) h.number h.at h.end) (record_here l epoch disk h.number h.at h.end)) (entered l epoch disk h)

-- the records from a head on, until one isn't there, and the head behind them; no more than so many
pub record Walked : Type 0 where
  pub records : List Placed
  pub head : Head

abbrev pub on : Placed → Walked → Walked
on r rest = record { records = r ∷ rest.records; head = rest.head }

abbrev pub start : Shape → ℕ → Head
start l number = record { number = number; at = 0; end = l.third }

abbrev pub walk : ℕ → Shape → ℕ → Reader → Head → Walked
walk zero l epoch disk h = record { records = []; head = h }
walk (suc most) l epoch disk h = unwrap_or (option_map (λ found. on found.0 (walk most l epoch disk found.1)) (next l epoch disk h)) (record { records = []; head = h })

-- the good records of the epoch, from the anchor's first number at the start of the tape on
unfoldable pub scan : Shape → ℕ → Reader → ℕ → Walked
scan l epoch disk first = walk (3 * l.third) l epoch disk (start l first)

-- a head lies in a third
abbrev pub IsEnd : Shape → ℕ → Type 0
IsEnd l end = (end ≡ l.third) ⊎ ((end ≡ 2 * l.third) ⊎ (end ≡ 3 * l.third))

pub record IsIn (l : Shape) (h : Head) : Type 0 where
  pub before : h.at ≤ h.end
  pub from : h.end ≤ h.at + l.third
  pub ends : IsEnd l h.end

-- The log of an epoch: its records and the head behind them, and nothing on the tape is of a number from the head's on.
pub record IsLog (l : Shape) (epoch first : ℕ) (disk : Reader) (records : List Placed) (head : Head) : Type 0 where
  pub scanned : scan l epoch disk first ≡ record { records = records; head = head }
  pub fresh : (at number : ℕ) → head.number ≤ number → Foreign (record { epoch = epoch; number = number }) (disk at)

-- where a record of n pages goes: here, or at the start of the next third where it doesn't fit
abbrev pub spot_for : Shape → (n : ℕ) → Head → Head
spot_for l n h = if nat_le (h.at + record_len (gap_of l) n) h.end then h else record { number = h.number; at = h.end; end = h.end + l.third }

-- it goes here, or there is a next third that isn't the first again
abbrev pub HasRoom : Shape → (n : ℕ) → Head → Type 0
HasRoom l n h = (h.at + record_len (gap_of l) n ≤ h.end) ⊎ (h.end < 3 * l.third)
