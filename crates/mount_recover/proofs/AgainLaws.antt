-- The copies of the last record are laid again: each record is read as it was, but maybe for copies of its images.
use Rattle.std.proofs.Common.{◌≡◌, ◌⊎◌, inl, inr, ⊎_elim, ℕ, ◌+◌, ◌-◌, ◌*◌, ◌<◌, ◌≤◌, List, [], ◌∷◌, ◌++◌, length, get_or, Some, sym, ap, subst, ◌∙◌, arith}
use Rattle.std.specs.List.{AllByRecursion}
use Rattle.std.proofs.lemmas.Bool.{cases_lt}
use Rattle.volume_layout.specs.declared.layout.Layout.{Layout}
use Rattle.volume_layout.specs.Kinds.{gap_of}
use Rattle.fsd_formats.specs.declared.anchor.Anchor.{Anchor}
use Rattle.fsd_formats.specs.Record.{end_bytes, record_len}
use Rattle.sector_disk.specs.declared.sector.Sector.TheVariants.{Whole}
use Rattle.sector_disk.specs.Image.{sector_at, slice_of, stand}
use Rattle.sector_disk.proofs.Wear.{stand_in, stand_other, outside_cases}
use Rattle.fsd_log.specs.Judged.{Reader}
use Rattle.fsd_log.specs.Scan.{IsIn, Head, Placed, start, place_of, tape}
use Rattle.fsd_log.proofs.PlaceLaws.{place_cases, place_add, place_inside, first_most, end_most, below_numbers}
use Rattle.fsd_log.proofs.WalkLaws.{found_goes_on, Goes, goes_far}
use Rattle.fsd_files.specs.Disk.{Image, bytes_of, bytes_at}
use Rattle.fsd_sound.specs.Shown.{scan_by, records_by}
use Rattle.fsd_sound.proofs.LogPlaces.{IsRecord, scan_records, start_in, scan_goes}
use Rattle.log_thirds.specs.Copies.{Copies, copies_count, AreCopiesOf, AreLastCopies}
use Rattle.fsd_sound.specs.Logged.{copies_at, copies_of}
use Rattle.fsd_sound.proofs.CoverLaws.{ends_so}
use Rattle.fsd_log.proofs.RobustLaws.{get_left, get_last, length_more}
use Rattle.fsd_table.proofs.BoundLaws.{all_append, all_split}
use Rattle.fsd_sound.proofs.CompletingLaws.{last_copies, slices_at}
use Rattle.fsd_sound.proofs.CompleteLaws.{all_last, EndsWith, goes_split}
use Rattle.mount_recover.proofs.GivenLaws.{RecordAgain}

-- Each sector is as it was, or one of some sectors that were written from a place on.
record LaysSome (place : ℕ) (sectors : List (List ℕ)) (i j : Image) : Type 0 where
  each : (s : ℕ) → (sector_at j s ≡ sector_at i s) ⊎ ((k : ℕ) × (k < length sectors) × (s ≡ place + k) × (sector_at j s ≡ Whole (get_or sectors k [])))

-- ---- the records before it lie before it

goes_before : (l : Layout) (epoch : ℕ) (disk : Reader) (h : Head) (rs : List Placed) (end : Head) → IsIn l h → Goes l epoch disk h rs end → AllByRecursion (λ q. q.at + record_len (gap_of l) (length q.entry.pages) ≤ end.at) rs
goes_before l epoch disk h [] end is_in goes = tt
goes_before l epoch disk h (q ∷ rs) end is_in goes =
    let one = found_goes_on l epoch disk h q goes.0 is_in goes.1 in
    let far = goes_far l epoch disk goes.0 rs end one.is_in goes.2 in
    (omega (arith, one.to, far.from), goes_before l epoch disk goes.0 rs end one.is_in goes.2)

-- ---- by one anchor

module _ (l : Layout) (i j : Image) (c : Anchor) (low : c.third ≤ 2) (front : List Placed) (r : Placed) (joined : records_by l i c ≡ front ++ r ∷ []) (lays : LaysSome (copies_at l c r) (copies_of c r) i j) where
  abbrev n : ℕ
  n = length r.entry.pages

  abbrev p : ℕ
  p = place_of l c.third r.at

  abbrev old_tape : Reader
  old_tape = tape l c.third (bytes_at i)

  are : AllByRecursion (IsRecord l c.third) (front ++ r ∷ [])
  are = subst (AllByRecursion (IsRecord l c.third)) joined (scan_records l i c low)

  is_record : IsRecord l c.third r
  is_record = all_last (IsRecord l c.third) front r are

  many : length (copies_of c r) ≡ n + 1
  many = length_more r.entry.images (end_bytes (record { epoch = c.epoch; number = r.entry.number }) n) ∙ ap (λ (k : ℕ). k + 1) is_record.images

  inside : p + record_len (gap_of l) n ≤ 16 + 3 * l.third
  inside = place_inside l c.third r.at (record_len (gap_of l) n) is_record.end is_record.inside (omega arith)

  -- a sector outside the copies is as it was
  outside : (s : ℕ) → (s < p + (4 + 2 * (gap_of l) + n)) ⊎ (p + record_len (gap_of l) n ≤ s) → sector_at j s ≡ sector_at i s
  outside s out = ⊎_elim (λ same. same) (λ row. absurd (⊎_elim (λ lt. omega (arith, row.2)) (λ ge. omega (arith, row.1, row.2, many)) out)) (lays.each s)

  part : EndsWith l c.epoch old_tape (start l c.first) front r (scan_by l i c).head
  part = goes_split l c.epoch old_tape (start l c.first) front r (scan_by l i c).head
      (subst (λ (rs : List Placed). Goes l c.epoch old_tape (start l c.first) rs (scan_by l i c).head) joined (scan_goes l c.epoch c.first old_tape))

  from_mid : part.mid.at ≤ r.at
  from_mid =
      let far = goes_far l c.epoch old_tape (start l c.first) front part.mid (start_in l c.first) part.goes in
      (found_goes_on l c.epoch old_tape part.mid r (scan_by l i c).head far.is_in part.found).from

  before : (w : ℕ) → w < r.at → (place_of l c.third w < p) ⊎ (p + record_len (gap_of l) n ≤ place_of l c.third w)
  before w lt = below_numbers l.third (c.third * l.third) r.at (record_len (gap_of l) n) is_record.end p w (place_of l c.third w) (first_most l c.third low) (end_most l is_record.end is_record.inside.ends) is_record.inside.to lt
      (place_cases l c.third r.at) (place_cases l c.third w)

  before_same : (w : ℕ) → w < r.at → sector_at j (place_of l c.third w) ≡ sector_at i (place_of l c.third w)
  before_same w lt = outside (place_of l c.third w) (⊎_elim (λ below. inl (omega arith)) (λ above. inr above) (before w lt))

  -- ---- the images

  again_front : (rs : List Placed) → AllByRecursion (IsRecord l c.third) rs → AllByRecursion (λ q. q.at + record_len (gap_of l) (length q.entry.pages) ≤ part.mid.at) rs → AllByRecursion (RecordAgain l c.third (bytes_at i) (bytes_at j)) rs
  again_front [] records ends = tt
  again_front (q ∷ rs) records ends =
      let same : (k : ℕ) → k < record_len (gap_of l) (length q.entry.pages) → bytes_at j (place_of l c.third q.at + k) ≡ bytes_at i (place_of l c.third q.at + k) = λ k lt.
      let at = place_add l c.third q.at (record_len (gap_of l) (length q.entry.pages)) records.0.end k records.0.inside lt in
      ap bytes_of (subst (λ (s : ℕ). sector_at j s ≡ sector_at i s) at (before_same (q.at + k) (omega (arith, ends.0, from_mid)))) in (
        record {
          images = records.0.images;
          first = λ k lt. let at : place_of l c.third q.at + 3 + (gap_of l) + k ≡ place_of l c.third q.at + (3 + (gap_of l) + k) = omega arith in ap (bytes_at j) at ∙ same (3 + (gap_of l) + k) (omega arith) ∙ ap (bytes_at i) (sym at);
          copy = λ k lt.
              let at : place_of l c.third q.at + 3 + (gap_of l) + length q.entry.pages + 1 + (gap_of l) + k ≡ place_of l c.third q.at + (4 + 2 * (gap_of l) + length q.entry.pages + k) = omega arith in
              inl (ap (bytes_at j) at ∙ same (4 + 2 * (gap_of l) + length q.entry.pages + k) (omega arith) ∙ ap (bytes_at i) (sym at));
        },
        again_front rs records.1 ends.1,
      )

  again_last : RecordAgain l c.third (bytes_at i) (bytes_at j) r
  again_last = record {
    images = is_record.images;
    first = λ k lt. ap bytes_of (outside (place_of l c.third r.at + 3 + (gap_of l) + k) (inl (omega arith)));
    copy = λ k lt. ⊎_elim
        (λ same. inl (ap bytes_of same))
        (λ row.
        let at : row.0 ≡ k = omega (arith, row.2) in
        inr (ap bytes_of row.3 ∙ ap (λ (x : ℕ). Some (get_or (copies_of c r) x [])) at
        ∙ ap (λ (x : List ℕ). Some x) (get_left r.entry.images (end_bytes (record { epoch = c.epoch; number = r.entry.number }) n) k (omega (arith, is_record.images, lt)))))
        (lays.each (place_of l c.third r.at + 3 + (gap_of l) + length r.entry.pages + 1 + (gap_of l) + k));
  }

  -- each record's images are read as they were, but maybe a copy as the image that was laid there
  again_all : AllByRecursion (RecordAgain l c.third (bytes_at i) (bytes_at j)) (records_by l i c)
  again_all = subst (AllByRecursion (RecordAgain l c.third (bytes_at i) (bytes_at j))) (sym joined)
      (all_append (RecordAgain l c.third (bytes_at i) (bytes_at j)) front (r ∷ []) (again_front front (all_split (IsRecord l c.third) front (r ∷ []) are).0 (goes_before l c.epoch old_tape (start l c.first) front part.mid (start_in l c.first) part.goes)) (again_last, tt))

-- ---- the copies that the log has

module _ (l : Layout) (a : Anchor) (r : Placed) (c : Copies) (is : IsRecord l a.third r) (of : AreCopiesOf l a.epoch a.third r c) where
  abbrev count : ℕ
  count = length r.entry.pages

  count_is : copies_count c ≡ length r.entry.pages + 1
  count_is = let long : length c.bytes ≡ 512 * (length r.entry.pages + 1) = of.copies.long in omega (arith, long)

  rows_many : length (copies_of a r) ≡ count + 1
  rows_many = length_more r.entry.images (end_bytes (record { epoch = a.epoch; number = r.entry.number }) count) ∙ ap (λ (k : ℕ). k + 1) is.images

  copies_end : c.place + copies_count c ≤ 16 + 3 * l.third
  copies_end =
      let inside = place_inside l a.third r.at (record_len (gap_of l) count) is.end is.inside (omega arith) in
      let at : c.place ≡ place_of l a.third r.at + (4 + 2 * (gap_of l) + length r.entry.pages) = of.place in
      omega (arith, inside, at, count_is)

  copy_is : (k : ℕ) → k < count + 1 → get_or (copies_of a r) k [] ≡ slice_of c.bytes k
  copy_is k lt = elim (cases_lt k count) [
    | inl below ↦
        get_left r.entry.images (end_bytes (record { epoch = a.epoch; number = r.entry.number }) count) k (omega (arith, is.images))
        ∙ ap (λ (xs : List (List ℕ)). get_or xs k []) (sym of.images)
        ∙ slices_at count 0 k c.bytes below
        ∙ (let here : 0 + k ≡ k = omega arith in ap (slice_of c.bytes) here)
    | inr from ↦
        let last : k ≡ length r.entry.images = omega (arith, is.images) in
        ap (λ (j : ℕ). get_or (copies_of a r) j []) last
        ∙ get_last r.entry.images (end_bytes (record { epoch = a.epoch; number = r.entry.number }) count)
        ∙ sym of.copies.end
        ∙ ap (slice_of c.bytes) (sym is.images ∙ sym last)
  ]

  lays_stand : (i : Image) (stood : ℕ) → stood ≤ copies_count c → 16 + 3 * l.third ≤ length i → LaysSome (copies_at l a r) (copies_of a r) i (stand i c.place c.bytes stood)
  lays_stand i stood le long = record {
    each = λ s. elim (outside_cases c.place stood s) [
      | inr out ↦ inl (stand_other i c.place c.bytes stood s out)
      | inl within ↦ inr (s - c.place, omega (arith, within.0, within.1, le, count_is, rows_many), place_at s within.0, laid s within)
    ];
  }
    where
      place_at : (s : ℕ) → c.place ≤ s → s ≡ copies_at l a r + (s - c.place)
      place_at s le = let at : c.place ≡ copies_at l a r = of.place in omega (arith, at)

      laid : (s : ℕ) → (c.place ≤ s) × (s < c.place + stood) → sector_at (stand i c.place c.bytes stood) s ≡ Whole (get_or (copies_of a r) (s - c.place) [])
      laid s within =
          let at : s ≡ c.place + (s - c.place) = omega (arith, within.0) in
          ap (sector_at (stand i c.place c.bytes stood)) at
          ∙ stand_in i c.place c.bytes stood (s - c.place) (omega (arith, within.0, within.1)) (omega (arith, copies_end, le, long))
          ∙ ap (λ (b : List ℕ). Whole b) (sym (copy_is (s - c.place) (omega (arith, within.0, within.1, le, count_is))))

-- where the last record's copies are laid again
pub again_stand : (l : Layout) (i : Image) (t : Anchor) (c : Copies) → t.third ≤ 2 → 16 + 3 * l.third ≤ length i → AreLastCopies l t.epoch t.third (records_by l i t) c
    → AllByRecursion (RecordAgain l t.third (bytes_at i) (bytes_at (stand i c.place c.bytes (copies_count c)))) (records_by l i t)
again_stand l i t c low long of = ⊎_elim
    (λ none. subst (AllByRecursion (RecordAgain l t.third (bytes_at i) (bytes_at (stand i c.place c.bytes (copies_count c))))) (sym none) tt)
    (λ last.
    let is = last_copies l t.epoch t.third last.0 last.1 c (subst (λ (rs : List Placed). AreLastCopies l t.epoch t.third rs c) last.2 of) in
    let at = all_last (IsRecord l t.third) last.0 last.1 (subst (AllByRecursion (IsRecord l t.third)) last.2 (scan_records l i t low)) in
    again_all l i (stand i c.place c.bytes (copies_count c)) t low last.0 last.1 last.2 (lays_stand l t last.1 c at is i (copies_count c) (omega arith) long))
    (ends_so (records_by l i t))
