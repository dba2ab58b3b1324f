-- A record that is written behind the last one, on a machine whose weak run wears.
use Rattle.std.proofs.Common.{◌≡◌, ℕ, ◌+◌, ◌-◌, ◌*◌, ◌<◌, ◌≤◌, Bool, List, [], ◌∷◌, ◌++◌, length, None, nat_lt, refl, sym, ap, subst, ◌∙◌, arith, inl, inr, ◌⊎◌, ⊎_elim}
use Rattle.std.specs.Prelude.{IsTrue}
use Rattle.std.proofs.lemmas.Bool.{cond-true, cond-false, lt-ltb, cases_lt, le-ltb}
use Rattle.sector_disk.specs.declared.sector.Sector.{Sector}
use Rattle.sector_disk.specs.declared.sector.Sector.TheVariants.{Damaged}
use Rattle.sector_disk.specs.Image.{IsWorn, Windows, sector_at, lay, stand, open_damage, bytes_of}
use Rattle.sector_disk.specs.Machine.{Moment, Holds}
use Rattle.sector_disk.proofs.Wear.{length-lay, lay_in, lay_other, length-stand, stand_in, stand_other, worn_trans}
use Rattle.volume_layout.specs.Shape.{Shape}
use Rattle.volume_layout.specs.Kinds.{gap_of}
use Rattle.fsd_formats.specs.Record.{record_len}
use Rattle.fsd_log.specs.Judged.{Reader}
use Rattle.fsd_log.specs.Laid.{laid_bytes}
use Rattle.fsd_log.specs.Scan.{Placed, IsLog, spot_for, place_of, tape}
use Rattle.log_thirds.specs.Disk.{reads}
use Rattle.log_thirds.specs.LogValue.{LogValue}
use Rattle.log_thirds.specs.Append.{StandsInPart, stamp_now, next_record, head_past, log_past, scan_of, IsLogWorn, IsApartNow, AppendsWorn}
use Rattle.fsd_log.proofs.PlaceLaws.{InThird, place_add, place_cases, below_numbers, above_numbers, first_most, end_most}
use Rattle.log_thirds.proofs.MomentLaws.{MayAppend, write_inside, laid, are, spots, in_third}
use Rattle.log_thirds.proofs.WornAppendLaws.{TapeWorn, worn_before, worn_either, worn_whole_there, fresh_after}
use Rattle.fsd_log.proofs.TornLaws.{are_some}

-- the image that is left, with the old sectors where the write stands
module _ (may : ℕ → Bool) (old left : List Sector) (place : ℕ) (bytes : List ℕ) (stood : ℕ) (room : place + stood ≤ length old) (worn : IsWorn may (stand old place bytes stood) left) where
  pub under : List Sector
  under = lay left place (λ k. sector_at old (place + k)) stood

  left_long : length left ≡ length old
  left_long = worn.size ∙ length-stand old place bytes stood

  pub under_other : (s : ℕ) → (s < place) ⊎ (place + stood ≤ s) → sector_at under s ≡ sector_at left s
  unfolding under
  under_other s out = lay_other left place (λ k. sector_at old (place + k)) stood s out

  pub under_worn : IsWorn may old under
  unfolding under
  under_worn = record {
    size = length-lay left place (λ k. sector_at old (place + k)) stood ∙ left_long;
    each = λ s. by_place s (cases_lt s place) (cases_lt s (place + stood));
  }
    where
      outside : (s : ℕ) → (s < place) ⊎ (place + stood ≤ s) → (sector_at under s ≡ sector_at old s) ⊎ (IsTrue (may s) × (sector_at under s ≡ Damaged))
      outside s out = ⊎_elim
          (λ same. inl (under_other s out ∙ same ∙ stand_other old place bytes stood s out))
          (λ hurt. inr (hurt.0, under_other s out ∙ hurt.1)) (worn.each s)

      by_place : (s : ℕ) → (s < place) ⊎ (place ≤ s) → (s < place + stood) ⊎ (place + stood ≤ s) → (sector_at under s ≡ sector_at old s) ⊎ (IsTrue (may s) × (sector_at under s ≡ Damaged))
      by_place s (inl below) other = outside s (inl below)
      by_place s (inr from) (inr above) = outside s (inr above)
      by_place s (inr from) (inl inside) =
          let at : place + (s - place) ≡ s = omega arith in
          inl (ap (sector_at under) (sym at) ∙ lay_in left place (λ k. sector_at old (place + k)) stood (s - place) (omega arith) (omega (arith, left_long)) ∙ ap (sector_at old) at)

-- on the tape
module _ (l : Shape) (first at n end : ℕ) (is : InThird l first at n end) (may : ℕ → Bool) (old left : List Sector) (bytes : List ℕ) (stood : ℕ) (within : stood ≤ n) (room : place_of l first at + stood ≤ length old)
    (worn : IsWorn may (stand old (place_of l first at) bytes stood) left) where
  on_tape : (w : ℕ) → w < 3 * l.third → (disk : Reader) → tape l first disk w ≡ disk (place_of l first w)
  on_tape w lt disk = cond-true (nat_lt w (3 * l.third)) (disk (place_of l first w)) None (lt-ltb w (3 * l.third) lt)

  other : (w : ℕ) → (w < 3 * l.third → (place_of l first w < place_of l first at) ⊎ (place_of l first at + stood ≤ place_of l first w))
      → tape l first (reads left) w ≡ tape l first (reads (under may old left (place_of l first at) bytes stood room worn)) w
  other w out = elim (cases_lt w (3 * l.third)) [
    | inl lt ↦
        on_tape w lt (reads left)
        ∙ ap bytes_of (sym (under_other may old left (place_of l first at) bytes stood room worn (place_of l first w) (out lt)))
        ∙ sym (on_tape w lt (reads (under may old left (place_of l first at) bytes stood room worn)))
    | inr past ↦
        cond-false (nat_lt w (3 * l.third)) (reads left (place_of l first w)) None (le-ltb w (3 * l.third) past)
        ∙ sym (cond-false (nat_lt w (3 * l.third)) (reads (under may old left (place_of l first at) bytes stood room worn) (place_of l first w)) None (le-ltb w (3 * l.third) past))
  ]

  pub tape_worn : TapeWorn (λ w. may (place_of l first w)) bytes at stood (tape l first (reads (under may old left (place_of l first at) bytes stood room worn))) (tape l first (reads left))
  tape_worn = record {
    front = λ k lt.
        let place : place_of l first (at + k) ≡ place_of l first at + k = place_add l first at n end k is (omega arith) in
        let here = on_tape (at + k) (omega (arith, is.to, end_most l end is.ends)) (reads left) ∙ ap (λ (p : ℕ). reads left p) place in
        ⊎_elim
        (λ same. inl (here ∙ ap bytes_of (same ∙ stand_in old (place_of l first at) bytes stood k lt room)))
        (λ hurt. inr (subst (λ (p : ℕ). IsTrue (may p)) (sym place) hurt.0, here ∙ ap bytes_of hurt.1))
        (worn.each (place_of l first at + k));
    below = λ w lt. other w (λ inside. below_numbers l.third (first * l.third) at stood end (place_of l first at) w (place_of l first w) (first_most l first is.one_of) (end_most l end is.ends) (omega (arith, is.to)) lt (place_cases l first at) (place_cases l first w));
    above = λ w ge. other w (λ inside. above_numbers l.third (first * l.third) at stood (place_of l first at) w (place_of l first w) ge inside (place_cases l first at) (place_cases l first w));
  }

-- ---- on a machine

module _ (log : LogValue) (pages images : List ℕ) (long : ℕ) (may : MayAppend log pages images long) (old : Moment) (same_long : length old.image ≡ long) (records : List Placed) (is_log : IsLogWorn log records old) where
  abbrev place : ℕ
  place = place_of log.layout log.anchor.third (spot_for log.layout (length pages) log.head).at

  room_for : (stood : ℕ) → stood ≤ record_len (gap_of log.layout) (length pages) → place + stood ≤ length old.image
  room_for stood within = omega (arith, write_inside log pages images long may, may.sized)

  module _ (stood : ℕ) (within : stood ≤ record_len (gap_of log.layout) (length pages)) (left : List Sector) (worn : IsWorn (open_damage old.windows) (stand old.image place (laid_bytes (gap_of log.layout) (stamp_now log) pages images) stood) left) where
    below : List Sector
    below = under (open_damage old.windows) old.image left place (laid_bytes (gap_of log.layout) (stamp_now log) pages images) stood (room_for stood within) worn

    log_below : IsLog log.layout log.anchor.epoch log.anchor.first (tape log.layout log.anchor.third (reads below)) records log.head
    unfolding below
    log_below = is_log (under (open_damage old.windows) old.image left place (laid_bytes (gap_of log.layout) (stamp_now log) pages images) stood (room_for stood within) worn) (under_worn (open_damage old.windows) old.image left place (laid_bytes (gap_of log.layout) (stamp_now log) pages images) stood (room_for stood within) worn)

    torn : TapeWorn (λ w. open_damage old.windows (place_of log.layout log.anchor.third w)) (laid_bytes (gap_of log.layout) (stamp_now log) pages images) (spot_for log.layout (length pages) log.head).at stood (tape log.layout log.anchor.third (reads below)) (tape log.layout log.anchor.third (reads left))
    unfolding below
    torn = tape_worn log.layout log.anchor.third (spot_for log.layout (length pages) log.head).at (record_len (gap_of log.layout) (length pages)) (spot_for log.layout (length pages) log.head).end (in_third log pages images long may) (open_damage old.windows) old.image left (laid_bytes (gap_of log.layout) (stamp_now log) pages images) stood within (room_for stood within) worn

    pub image_before : stood ≤ 3 + (gap_of log.layout) + length pages → scan_of log (record old { image = left }) ≡ record { records = records; head = log.head }
    image_before before = worn_before log.layout log.anchor.epoch log.anchor.first may.epoch (omega (arith, may.least)) (tape log.layout log.anchor.third (reads below)) (tape log.layout log.anchor.third (reads left)) records log.head log_below may.number
        pages images (laid_bytes (gap_of log.layout) (stamp_now log) pages images) (are log pages images long may) (laid log pages images long may) (spot_for log.layout (length pages) log.head) (spots log pages images long may).0 (λ w. open_damage old.windows (place_of log.layout log.anchor.third w)) stood within torn before

    pub image_either : (scan_of log (record old { image = left }) ≡ record { records = records; head = log.head })
        ⊎ (scan_of log (record old { image = left }) ≡ record { records = records ++ next_record log pages images ∷ []; head = head_past log (length pages) })
    image_either = worn_either log.layout log.anchor.epoch log.anchor.first may.epoch (omega (arith, may.least)) (tape log.layout log.anchor.third (reads below)) (tape log.layout log.anchor.third (reads left)) records log.head log_below may.number
        pages images (laid_bytes (gap_of log.layout) (stamp_now log) pages images) (are log pages images long may) (laid log pages images long may) (spot_for log.layout (length pages) log.head) (spots log pages images long may).0 (λ w. open_damage old.windows (place_of log.layout log.anchor.third w)) stood within torn

    pub image_whole : stood ≡ record_len (gap_of log.layout) (length pages) → IsApartNow (gap_of log.layout) old
        → IsLog log.layout log.anchor.epoch log.anchor.first (tape log.layout log.anchor.third (reads left)) (records ++ next_record log pages images ∷ []) (head_past log (length pages))
    image_whole whole narrow = record {
      scanned = worn_whole_there log.layout log.anchor.epoch log.anchor.first may.epoch (omega (arith, may.least)) (tape log.layout log.anchor.third (reads below)) (tape log.layout log.anchor.third (reads left)) records log.head log_below may.number
          pages images (laid_bytes (gap_of log.layout) (stamp_now log) pages images) (are log pages images long may) (laid log pages images long may) (spot_for log.layout (length pages) log.head) (spots log pages images long may).0 (λ w. open_damage old.windows (place_of log.layout log.anchor.third w)) stood within torn whole
          (λ k d lt apart a b.
          let pa : place_of log.layout log.anchor.third ((spot_for log.layout (length pages) log.head).at + k) ≡ place + k = place_add log.layout log.anchor.third (spot_for log.layout (length pages) log.head).at (record_len (gap_of log.layout) (length pages)) (spot_for log.layout (length pages) log.head).end k (in_third log pages images long may) (omega arith) in
          let pb : place_of log.layout log.anchor.third ((spot_for log.layout (length pages) log.head).at + (k + d)) ≡ (place + k) + d = place_add log.layout log.anchor.third (spot_for log.layout (length pages) log.head).at (record_len (gap_of log.layout) (length pages)) (spot_for log.layout (length pages) log.head).end (k + d) (in_third log pages images long may) lt ∙ omega arith in
          narrow (place + k) d (subst (λ (s : ℕ). IsTrue (open_damage old.windows s)) pa a) (subst (λ (s : ℕ). IsTrue (open_damage old.windows s)) pb b) apart)
          (are_some log.layout.pages pages may.accepted);
      fresh = λ w m from. fresh_after log.layout log.anchor.epoch log.anchor.first may.epoch (omega (arith, may.least)) (tape log.layout log.anchor.third (reads below)) (tape log.layout log.anchor.third (reads left)) records log.head log_below may.number
          pages images (laid_bytes (gap_of log.layout) (stamp_now log) pages images) (are log pages images long may) (laid log pages images long may) (spot_for log.layout (length pages) log.head) (spots log pages images long may).0 (λ w. open_damage old.windows (place_of log.layout log.anchor.third w)) stood within torn w m from;
    }

  pub worn_appends : (left : Moment) → StandsInPart place (laid_bytes (gap_of log.layout) (stamp_now log) pages images) (record_len (gap_of log.layout) (length pages)) old left → AppendsWorn log records pages images old left
  worn_appends left part = record {
    part = part;
    absent = λ before. image_before part.stood part.within left.image part.holds.worn before;
    either = image_either part.stood part.within left.image part.holds.worn;
  }

  pub worn_appended : (new : Moment) → IsApartNow (gap_of log.layout) old → Holds old (stand old.image place (laid_bytes (gap_of log.layout) (stamp_now log) pages images) (record_len (gap_of log.layout) (length pages))) new → IsLogWorn (log_past log (length pages)) (records ++ next_record log pages images ∷ []) new
  worn_appended new narrow holds = λ image worn.
      let at_old : IsWorn (open_damage old.windows) new.image image = subst (λ (w : Windows). IsWorn (open_damage w) new.image image) holds.windows worn in
      image_whole (record_len (gap_of log.layout) (length pages)) (omega arith) image (worn_trans (open_damage old.windows) _ new.image image holds.worn at_old) refl narrow
