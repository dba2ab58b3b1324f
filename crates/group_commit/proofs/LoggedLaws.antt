-- What stands in the log behind the write of a record.
use Rattle.std.proofs.Common.{◌≡◌, ℕ, zero, suc, ◌+◌, ◌*◌, ◌<◌, ◌≤◌, Bool, true, false, cond, List, [], ◌∷◌, length, take, get_or, Option, Some, None, refl, sym, ap, subst, ◌∙◌, arith, eq-eqb}
use Rattle.std.proofs.lemmas.Option.{same_Some}
use Rattle.std.specs.Prelude.{nat_eq}
use Rattle.std.specs.Option.{option_or}
use Rattle.std.proofs.lemmas.Bool.{or_parts}
use Rattle.volume_layout.specs.Kinds.{gap_of}
use Rattle.run_table.specs.Space.{contains}
use Rattle.fsd_formats.specs.Record.{record_len}
use Rattle.sector_disk.specs.declared.sector.Sector.TheVariants.{Whole}
use Rattle.sector_disk.specs.Image.{IsWorn, Windows, open_damage, sector_at, stand}
use Rattle.sector_disk.specs.Machine.{Holds, Moment}
use Rattle.sector_disk.proofs.Wear.{stand_in}
use Rattle.fsd_files.specs.Disk.{Image}
use Rattle.fsd_log.specs.Judged.{sector_in}
use Rattle.fsd_log.specs.Laid.{laid_bytes}
use Rattle.fsd_log.specs.Places.{LieInRecord}
use Rattle.fsd_log.specs.Scan.{place_of, spot_for}
use Rattle.fsd_log.proofs.PlaceLaws.{place_from}
use Rattle.log_thirds.specs.Append.{log_with, stamp_now}
use Rattle.log_thirds.specs.LogValue.{LogValue}
use Rattle.fsd_log.specs.Slots.{slot_in}
use Rattle.fsd_log.specs.declared.slot.Slot.{Slot}
use Rattle.log_thirds.proofs.MomentLaws.{MayAppend, laid, write_inside}
use Rattle.fsd_log.proofs.SlotLaws.{get-noted}
use Rattle.page_cache.specs.Cache.{CacheValue, cached_bytes, is_among}
use Rattle.fsd_sound.specs.Logged.{StandsLogged}
use Rattle.group_commit.proofs.FrameLaws.{not_before}
use Rattle.group_commit.proofs.ImageLaws.{below_at, pages_of}
use Rattle.group_commit.proofs.OrderLaws.{contained_index, index_contained}
use Rattle.group_commit.proofs.SlotLaws.{slot}

-- ---- slots of a record's pages

-- that of one of some pages, which is none of those before it
slot_in_at : (number place copy : ℕ) (pages : List ℕ) (k : ℕ) → k < length pages → is_among (take k pages) (get_or pages k 0) ≡ false → slot_in (get_or pages k 0) number place copy pages ≡ Some (slot number (place + k) (copy + k))
slot_in_at number place copy [] k lt out = absurd (omega arith)
slot_in_at number place copy (p ∷ pages) zero lt out =
    let x : place ≡ place + 0 = omega arith in
    let y : copy ≡ copy + 0 = omega arith in
    let same : ◌≡◌ {A = Option Slot} (Some (slot number place copy)) (Some (slot number (place + 0) (copy + 0))) = λ i. Some (slot number (x i) (y i)) in
    ap (λ (b : Bool). cond b (Some (slot number place copy)) (slot_in p number (place + 1) (copy + 1) pages)) (eq-eqb p p refl) ∙ same
slot_in_at number place copy (p ∷ pages) (suc k) lt out =
    let parts = or_parts (nat_eq p (get_or pages k 0)) (is_among (take k pages) (get_or pages k 0)) out in
    let x : place + 1 + k ≡ place + suc k = omega arith in
    let y : copy + 1 + k ≡ copy + suc k = omega arith in
    let same : ◌≡◌ {A = Option Slot} (Some (slot number (place + 1 + k) (copy + 1 + k))) (Some (slot number (place + suc k) (copy + suc k))) = λ i. Some (slot number (x i) (y i)) in
    ap (λ (b : Bool). cond b (Some (slot number place copy)) (slot_in (get_or pages k 0) number (place + 1) (copy + 1) pages)) parts.0
    ∙ slot_in_at number (place + 1) (copy + 1) pages k (omega arith) parts.1
    ∙ same

-- ---- a record that is written

module _ (log : LogValue) (pages images : List ℕ) (old new : Moment) (may : MayAppend log pages images (length old.image)) where
  abbrev place : ℕ
  place = place_of log.layout log.anchor.third (spot_for log.layout (length pages) log.head).at

  abbrev bytes : List ℕ
  bytes = laid_bytes (gap_of log.layout) (stamp_now log) pages images

  abbrev written : Image
  written = stand old.image place bytes (record_len (gap_of log.layout) (length pages))

  inside : place + record_len (gap_of log.layout) (length pages) ≤ 16 + 3 * log.layout.third
  inside = write_inside log pages images (length old.image) may

  module _ (k : ℕ) (lt : k < length pages) where
    abbrev page : ℕ
    page = get_or pages k 0

    row : (s m : ℕ) → s ≡ place + m → m < record_len (gap_of log.layout) (length pages) → sector_in bytes m ≡ sector_in images k → sector_at written s ≡ Whole (sector_in images k)
    row s m at within is =
        ap (sector_at written) at
        ∙ stand_in old.image place bytes (record_len (gap_of log.layout) (length pages)) m within (omega (arith, inside, may.sized))
        ∙ ap (λ (x : List ℕ). Whole x) is

    slot_is : length log.slots ≡ log.layout.pages → get_or (log_with log pages).slots page None ≡ Some (slot log.head.number (place + 3 + (gap_of log.layout) + k) (place + 3 + (gap_of log.layout) + length pages + 1 + (gap_of log.layout) + k))
    slot_is table =
        let asked = pages_of log.layout.pages pages may.accepted in
        let below : page < length log.slots = omega (arith, table, below_at log.layout.pages pages asked.below page (index_contained pages k lt)) in
        get-noted log.head.number log.slots (place + 3 + (gap_of log.layout)) (place + 3 + (gap_of log.layout) + length pages + 1 + (gap_of log.layout)) page pages below
        ∙ ap (λ (o : Option Slot). option_or o (get_or log.slots page None)) (slot_in_at log.head.number (place + 3 + (gap_of log.layout)) (place + 3 + (gap_of log.layout) + length pages + 1 + (gap_of log.layout)) pages k lt (not_before pages k asked.ascends lt))

    in_record : LieInRecord log.layout (place + 3 + (gap_of log.layout) + k) (place + 3 + (gap_of log.layout) + length pages + 1 + (gap_of log.layout) + k)
    in_record =
        let from = place_from log.layout log.anchor.third (spot_for log.layout (length pages) log.head).at in
        record { start = place; count = length pages; index = k; there = lt; first = refl; copy = refl; from = from; to = omega (arith, inside) }

    -- each image stands at the two places that the page's slot has
    pub stands_logged : length log.slots ≡ log.layout.pages → Holds old written new → StandsLogged (log_with log pages).layout (log_with log pages).slots new page (sector_in images k)
    stands_logged table holds =
        let rows = laid log pages images (length old.image) may in
        record {
          seen = written;
          worn = subst (λ (w : Windows). IsWorn (open_damage w) written new.image) (sym holds.windows) holds.worn;
          a = place + 3 + (gap_of log.layout) + k;
          b = place + 3 + (gap_of log.layout) + length pages + 1 + (gap_of log.layout) + k;
          logged = record { lies = record { number = log.head.number; is = slot_is table }; in_record = in_record };
          first = row (place + 3 + (gap_of log.layout) + k) (3 + (gap_of log.layout) + k) (omega arith) (omega (arith, lt)) (rows.image k lt);
          second = row (place + 3 + (gap_of log.layout) + length pages + 1 + (gap_of log.layout) + k) (4 + 2 * (gap_of log.layout) + length pages + k) (omega arith) (omega (arith, lt)) (rows.copy k lt);
        }

-- ---- the frames that it was laid from

-- what stands so of each of some pages, said of a page and its bytes
pub logged_of : (log : LogValue) (now : Moment) (c : CacheValue) (pages room : List ℕ) → ((k : ℕ) → k < length pages → StandsLogged log.layout log.slots now (get_or pages k 0) (sector_in room k))
    → ((k : ℕ) → k < length pages → cached_bytes c (get_or pages k 0) ≡ Some (sector_in room k))
    → (page : ℕ) (bytes : List ℕ) → contains pages page ≡ true → cached_bytes c page ≡ Some bytes → StandsLogged log.layout log.slots now page bytes
logged_of log now c pages room logged frames page bytes is has =
    let at = contained_index pages page is in
    let frame : cached_bytes c page ≡ Some (sector_in room at.index) = subst (λ (p : ℕ). cached_bytes c p ≡ Some (sector_in room at.index)) at.is (frames at.index at.inside) in
    subst (λ (p : ℕ). StandsLogged log.layout log.slots now p bytes) at.is
    (subst (StandsLogged log.layout log.slots now (get_or pages at.index 0)) (same_Some (sector_in room at.index) bytes (sym frame ∙ has)) (logged at.index at.inside))
