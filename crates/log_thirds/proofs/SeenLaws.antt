-- What was read of a run of sectors, each at its own moment, is one image.
use Rattle.std.proofs.Common.{◌≡◌, ◌≢◌, ◌⊎◌, inl, inr, ⊎_elim, ℕ, zero, suc, ◌+◌, ◌-◌, ◌*◌, ◌^◌, ◌<◌, ◌≤◌, Bool, true, false, List, length, Option, Some, None, nat_lt, refl, sym, ap, subst, ◌∙◌, arith}
use Rattle.std.specs.Prelude.{IsTrue, option_map, if◌then◌else◌}
use Rattle.std.proofs.lemmas.Bool.{cases_eq, cases_lt, cond-true, cond-false, lt-ltb, ltb-true, le-ltb}
use Rattle.std.proofs.lemmas.List.{get_or_past, get_or-set_same, get_or-set_other}
use Rattle.sector_disk.specs.declared.sector.Sector.{Sector}
use Rattle.sector_disk.specs.declared.sector.Sector.TheVariants.{Whole, Damaged}
use Rattle.sector_disk.specs.Calls.{as_sector}
use Rattle.sector_disk.specs.Image.{sector_at, lay, IsWorn, open_damage, bytes_of}
use Rattle.sector_disk.specs.Machine.{Moment, Wears}
use Rattle.sector_disk.proofs.Wear.{worn_trans, worn_whole, length-lay, lay_other, outside_cases, whole_of, damaged_of}
use Rattle.volume_layout.specs.Shape.{Shape}
use Rattle.volume_layout.specs.Kinds.{gap_of}
use Rattle.fsd_formats.specs.Record.{Stamp}
use Rattle.fsd_log.specs.Judged.{Reader, Serving, judged, logged_of, record_in}
use Rattle.fsd_log.specs.Scan.{IsEnd, Head, place_of, tape, room_at, window, record_here, last_number, start}
use Rattle.fsd_log.specs.Borne.{Foreign}
use Rattle.fsd_log.proofs.AppendLaws.{none_foreign}
use Rattle.fsd_log.proofs.WalkLaws.{stamp_of, goes_keeps}
use Rattle.log_thirds.specs.declared.firsts.Firsts.{Firsts}
use Rattle.fsd_log.specs.declared.slot.Slot.{Slot}
use Rattle.log_thirds.specs.Copies.{Copies}
use Rattle.log_thirds.proofs.ScanLaws.{Reaches}
use Rattle.log_record.specs.Found.{read_of}
use Rattle.log_thirds.specs.Disk.{reads}
use Rattle.fsd_log.specs.Reach.{headers_len}
use Rattle.fsd_log.proofs.ReachLaws.{record_within}
use Rattle.log_thirds.specs.Reading.{ReadsRecord}
use Rattle.log_thirds.proofs.ReadingLaws.{bytes_back, read_past}
use Rattle.log_thirds.specs.Seen.{SeesOn}
use Rattle.fsd_log.proofs.PlaceLaws.{InThird, place_add, place_cases, place_from, below_numbers, first_most, end_most}

-- a sector that was laid, where the image has it
lay_at : (image : List Sector) (first : ℕ) (sector : ℕ → Sector) (k j : ℕ) → j < k → first + j < length image → sector_at (lay image first sector k) (first + j) ≡ sector j
lay_at image first sector zero j lt room = absurd (omega arith)
lay_at image first sector (suc k) j lt room = elim (cases_eq j k) [
  | inl same ↦
      let here : first + k < length (lay image first sector k) = omega (arith, length-lay image first sector k, same) in
      ap (λ (n : ℕ). sector_at (lay image first sector (suc k)) (first + n)) same
      ∙ get_or-set_same (lay image first sector k) (first + k) (sector k) Damaged here
      ∙ ap (λ (n : ℕ). sector n) (sym same)
  | inr other ↦
      let ne : first + j ≢ first + k = λ e. other (omega arith) in
      get_or-set_other (lay image first sector k) (first + k) (first + j) (sector k) Damaged ne ∙ lay_at image first sector k j (omega arith) room
]

module _ (l : Shape) (first at end : ℕ) (one : first ≤ 2) (before : at ≤ end) (from : end ≤ at + l.third) (ends : IsEnd l end) (old new : Moment) (wears : Wears old new) (honest : Type 0) (h : honest)
    (place : ℕ) (is_place : place ≡ place_of l first at) (p : ℕ) (stamp : Stamp) (whole : List Bool) (bytes : List ℕ) (is : ReadsRecord (gap_of l) honest old new p stamp place (room_at at end) whole bytes)
    (j : List Sector) (jw : IsWorn (open_damage old.windows) j old.image) where
  abbrev may : ℕ → Bool
  may = open_damage old.windows

  -- the run as it was read over the image as it was seen before
  pub seen : List Sector
  seen = lay j place (λ k. as_sector (read_of whole bytes k)) (length whole)

  long : length (lay j place (λ k. as_sector (read_of whole bytes k)) (length whole)) ≡ length j
  long = length-lay j place (λ k. as_sector (read_of whole bytes k)) (length whole)

  whole_then : (k : ℕ) (b : List ℕ) → k < length whole → read_of whole bytes k ≡ Some b → sector_at old.image (place + k) ≡ Whole b
  whole_then k b lt e = ⊎_elim (λ same. whole_of (sector_at old.image (place + k)) b (sym same ∙ e)) (λ hurt. absurd (cc (e, hurt.1))) ((is.run.sees h k lt).0)

  none_then : (k : ℕ) → k < length whole → read_of whole bytes k ≡ None → (sector_at old.image (place + k) ≡ Damaged) ⊎ IsTrue (open_damage old.windows (place + k))
  none_then k lt e = ⊎_elim (λ same. inl (damaged_of (sector_at old.image (place + k)) (sym same ∙ e))) (λ hurt. inr hurt.0) ((is.run.sees h k lt).0)

  -- nothing is read past the end of the image
  past_none : (k : ℕ) → k < length whole → length j ≤ place + k → (o : Option (List ℕ)) → read_of whole bytes k ≡ o → o ≡ None
  past_none k lt past None e = refl
  past_none k lt past (Some b) e =
      let none : sector_at old.image (place + k) ≡ Damaged = get_or_past old.image (place + k) Damaged (omega (arith, jw.size, past)) in
      absurd (let stood = whole_then k b lt e in cc (none, stood))

  pub seen_at : (k : ℕ) → k < length whole → sector_at seen (place + k) ≡ as_sector (read_of whole bytes k)
  unfolding seen
  seen_at k lt = elim (cases_lt (place + k) (length j)) [
    | inl inside ↦ lay_at j place (λ k. as_sector (read_of whole bytes k)) (length whole) k lt inside
    | inr past ↦ get_or_past (lay j place (λ k. as_sector (read_of whole bytes k)) (length whole)) (place + k) Damaged (omega (arith, long, past)) ∙ ap as_sector (sym (past_none k lt past (read_of whole bytes k) refl))
  ]

  seen_other : (s : ℕ) → (s < place) ⊎ (place + length whole ≤ s) → sector_at seen s ≡ sector_at j s
  unfolding seen
  seen_other s out = lay_other j place (λ k. as_sector (read_of whole bytes k)) (length whole) s out

  abbrev Worn1 : ℕ → Sector → Sector → Type 0
  Worn1 s a b = (b ≡ a) ⊎ (IsTrue (open_damage old.windows s) × (b ≡ Damaged))

  from_in : (k : ℕ) → k < length whole → (o : Option (List ℕ)) → read_of whole bytes k ≡ o → Worn1 (place + k) (sector_at j (place + k)) (as_sector o)
  from_in k lt (Some b) e = inl (sym (worn_whole (open_damage old.windows) j old.image (place + k) b jw (whole_then k b lt e)))
  from_in k lt None e = ⊎_elim
      (λ hurt. ⊎_elim (λ same. inl (sym (sym same ∙ hurt))) (λ worn. inr (worn.0, refl)) (jw.each (place + k)))
      (λ weak. inr (weak, refl)) (none_then k lt e)

  to_in : (k : ℕ) → k < length whole → (o : Option (List ℕ)) → read_of whole bytes k ≡ o → Worn1 (place + k) (as_sector o) (sector_at new.image (place + k))
  to_in k lt (Some b) e = ⊎_elim (λ same. inl (same ∙ whole_then k b lt e)) (λ hurt. inr hurt) (wears.image.each (place + k))
  to_in k lt None e = inl ((is.run.sees h k lt).1 e)

  -- a place of the run, counted from its start
  at_place : (P : ℕ → Type 0) (s : ℕ) → (place ≤ s) × (s < place + length whole) → ((k : ℕ) → k < length whole → P (place + k)) → P s
  at_place P s within each =
      let is : place + (s - place) ≡ s = omega (arith, within.0) in
      subst P is (each (s - place) (omega (arith, within.0, within.1)))

  pub seen_from : IsWorn (open_damage old.windows) j seen
  unfolding seen
  seen_from = record {
    size = long;
    each = λ s. elim (outside_cases place (length whole) s) [
      | inl within ↦ at_place (λ s. Worn1 s (sector_at j s) (sector_at seen s)) s within (λ k lt. subst (Worn1 (place + k) (sector_at j (place + k))) (sym (seen_at k lt)) (from_in k lt (read_of whole bytes k) refl))
      | inr out ↦ inl (seen_other s out)
    ];
  }

  pub seen_to : IsWorn (open_damage old.windows) seen new.image
  unfolding seen
  seen_to =
      let all = worn_trans (open_damage old.windows) j old.image new.image jw wears.image in
      record {
        size = all.size ∙ sym long;
        each = λ s. elim (outside_cases place (length whole) s) [
          | inl within ↦ at_place (λ s. Worn1 s (sector_at seen s) (sector_at new.image s)) s within (λ k lt. subst (λ (x : Sector). Worn1 (place + k) x (sector_at new.image (place + k))) (sym (seen_at k lt)) (to_in k lt (read_of whole bytes k) refl))
          | inr out ↦ subst (λ (x : Sector). Worn1 s x (sector_at new.image s)) (sym (seen_other s out)) (all.each s)
        ];
      }

  pub seen_front : (s : ℕ) → s < 16 → sector_at seen s ≡ sector_at j s
  seen_front s lt = let from_log : 16 ≤ place_of l first at = place_from l first at in seen_other s (inl (omega (arith, from_log, is_place, lt)))

  -- ---- the tape

  in_third : InThird l first at (end - at) end
  in_third = record { one_of = one; ends = ends; from = from; to = omega arith }

  on_tape : (i : List Sector) (w : ℕ) → w < 3 * l.third → tape l first (reads i) w ≡ reads i (place_of l first w)
  on_tape i w lt = cond-true (nat_lt w (3 * l.third)) (reads i (place_of l first w)) None (lt-ltb w (3 * l.third) lt)

  pub seen_below : (w : ℕ) → w < at → tape l first (reads seen) w ≡ tape l first (reads j) w
  seen_below w lt =
      let inside : w < 3 * l.third = omega (arith, lt, before, end_most l end ends) in
      let away = below_numbers l.third (first * l.third) at (length whole) end (place_of l first at) w (place_of l first w) (first_most l first one) (end_most l end ends) (omega (arith, is.within, before)) lt (place_cases l first at) (place_cases l first w) in
      on_tape seen w inside
      ∙ ap bytes_of (seen_other (place_of l first w) (⊎_elim (λ low. inl (omega (arith, low, is_place))) (λ high. inr (omega (arith, high, is_place))) away))
      ∙ sym (on_tape j w inside)

  seen_read : (k : ℕ) → k < length whole → tape l first (reads seen) (at + k) ≡ read_of whole bytes k
  seen_read k lt =
      on_tape seen (at + k) (omega (arith, lt, is.within, end_most l end ends))
      ∙ ap (reads seen) (place_add l first at (end - at) end k in_third (omega (arith, lt, is.within)) ∙ ap (λ (s : ℕ). s + k) (sym is_place))
      ∙ ap bytes_of (seen_at k lt) ∙ bytes_back (read_of whole bytes k)

  read_window : (k : ℕ) → k < length whole → read_of whole bytes k ≡ window (tape l first (reads seen)) at (room_at at end) k
  read_window k lt = sym (seen_read k lt) ∙ sym (cond-true (nat_lt k (room_at at end)) (tape l first (reads seen) (at + k)) None (lt-ltb _ _ (omega (arith, is.within))))

  read_header : (k : ℕ) → k < (headers_len (gap_of l)) → read_of whole bytes k ≡ window (tape l first (reads seen)) at (room_at at end) k
  read_header k lt = elim (cases_lt k (length whole)) [
    | inl there ↦ read_window k there
    | inr past ↦ read_past whole bytes k past ∙ sym (cond-false (nat_lt k (room_at at end)) (tape l first (reads seen) (at + k)) None (le-ltb _ _ (omega (arith, is.reaches, past, lt))))
  ]

  pub judged_seen : (o : Option Serving) → o ≡ judged (gap_of l) p stamp (length whole) (read_of whole bytes)
      → option_map (logged_of (gap_of l) stamp.number (read_of whole bytes)) o ≡ record_in (gap_of l) p stamp (room_at at end) (window (tape l first (reads seen)) at (room_at at end))
  unfolding record_in
  judged_seen o e =
      ap (option_map (logged_of (gap_of l) stamp.number (read_of whole bytes))) e
      ∙ record_within (gap_of l) p stamp (room_at at end) (length whole) (window (tape l first (reads seen)) at (room_at at end)) (read_of whole bytes)
      (record { within = is.within; alike = read_window; header = read_header 0 (omega arith); copy = read_header (2 + (gap_of l)) (omega arith) }) (omega (arith, is.reaches))

-- ---- what was found before stays

-- a record is looked for in front of its third's end
pub here_below : (l : Shape) (epoch : ℕ) (old new : Reader) (number at end : ℕ) → at ≤ end → ((w : ℕ) → w < end → new w ≡ old w) → record_here l epoch new number at end ≡ record_here l epoch old number at end
here_below l epoch old new number at end le same =
    ap (λ (d : Reader). if nat_lt number last_number then record_in (gap_of l) l.pages (record { epoch = epoch; number = number }) (room_at at end) d else None) (λ i k. pointwise k i)
  where
    by_test : (k : ℕ) (b : Bool) → nat_lt k (room_at at end) ≡ b → (if b then new (at + k) else None) ≡ (if b then old (at + k) else None)
    by_test k true is = same (at + k) (let lt : k < room_at at end = ltb-true k (room_at at end) is in omega (arith, lt, le))
    by_test k false is = refl

    pointwise : (k : ℕ) → window new at (room_at at end) k ≡ window old at (room_at at end) k
    pointwise k = by_test k (nat_lt k (room_at at end)) refl

-- wear of an image is wear of its tape
pub tape_worn : (l : Shape) (third : ℕ) (may : ℕ → Bool) (i j : List Sector) → IsWorn may i j → (w : ℕ) → (tape l third (reads j) w ≡ tape l third (reads i) w) ⊎ (tape l third (reads j) w ≡ None)
tape_worn l third may i j worn w = elim (cases_lt w (3 * l.third)) [
  | inr past ↦ inl (off j past ∙ sym (off i past))
  | inl lt ↦ ⊎_elim (λ same. inl (on j lt ∙ ap bytes_of same ∙ sym (on i lt))) (λ hurt. inr (on j lt ∙ ap bytes_of hurt.1)) (worn.each (place_of l third w))
]
  where
    on : (k : List Sector) → w < 3 * l.third → tape l third (reads k) w ≡ reads k (place_of l third w)
    on k lt = cond-true (nat_lt w (3 * l.third)) (reads k (place_of l third w)) None (lt-ltb w (3 * l.third) lt)

    off : (k : List Sector) → 3 * l.third ≤ w → tape l third (reads k) w ≡ None
    off k past = cond-false (nat_lt w (3 * l.third)) (reads k (place_of l third w)) None (le-ltb w (3 * l.third) past)

-- the records that were found in front of the head are there still
pub reaches_keeps : (l : Shape) (epoch first third : ℕ) → epoch < 2 ^ 32 → (old new : Reader) (h : Head) (f : Firsts) (slots : List (Option Slot)) (c : Copies) → h.number ≤ 2 ^ 32 → ((w : ℕ) → (new w ≡ old w) ⊎ (new w ≡ None)) → ((w : ℕ) → w < h.at → new w ≡ old w)
    → Reaches l epoch first third old h f slots c → Reaches l epoch first third new h f slots c
reaches_keeps l epoch first third fits old new h f slots c small less below so_far = record {
  records = so_far.records;
  goes = goes_keeps l epoch fits old new (start l first) so_far.records h (record { before = omega arith; from = omega arith; ends = inl refl }) small
      (record { each = λ w m lt. ⊎_elim (λ same. inl same) (λ none. inr (subst (Foreign (stamp_of epoch m)) (sym none) (none_foreign (stamp_of epoch m)))) (less w) }) below so_far.goes;
  are = so_far.are;
  firsts = so_far.firsts;
  last = so_far.last;
}

-- another fact of what was seen
pub sees_more : (l : Shape) (third at : ℕ) (may : ℕ → Bool) (before new : List Sector) (P Q : List Sector → Type 0) → ((i : List Sector) → P i → Q i) → SeesOn l third at may before new P → SeesOn l third at may before new Q
sees_more l third at may before new P Q more seen = record { image = seen.image; from = seen.from; to = seen.to; below = seen.below; front = seen.front; is = more seen.image seen.is }

-- two looks, one after the other, the later one further on
pub sees_on : (l : Shape) (third at end : ℕ) (may : ℕ → Bool) (before mid new : List Sector) (P Q R : List Sector → Type 0) → at ≤ end → (first : SeesOn l third at may before mid P) → SeesOn l third end may first.image new Q
    → ((i j : List Sector) → IsWorn may i j → ((w : ℕ) → w < end → tape l third (reads j) w ≡ tape l third (reads i) w) → P i → Q j → R j) → SeesOn l third at may before new R
sees_on l third at end may before mid new P Q R le first second both = record {
  image = second.image;
  from = worn_trans may before first.image second.image first.from second.from;
  to = second.to;
  below = λ w lt. second.below w (omega arith) ∙ first.below w lt;
  front = λ s lt. second.front s lt ∙ first.front s lt;
  is = both first.image second.image second.from second.below first.is second.is;
}
