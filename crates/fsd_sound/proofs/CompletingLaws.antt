-- The last record is completed over an image that was seen: at each moment the same pages are shown, by the same records.
use Rattle.std.proofs.Common.{◌≡◌, inl, inr, ⊎_elim, ℕ, zero, suc, ◌+◌, ◌*◌, ◌^◌, ◌<◌, ◌≤◌, List, [], ◌∷◌, ◌++◌, length, get_or, Some, refl, sym, ap, subst, ◌∙◌, arith}
use Rattle.std.specs.List.{AllByRecursion}
use Rattle.std.proofs.lemmas.Bool.{cases_lt}
use Rattle.volume_layout.specs.declared.layout.Layout.{Layout}
use Rattle.volume_layout.specs.Kinds.{gap_of}
use Rattle.fsd_formats.specs.declared.anchor.Anchor.{Anchor}
use Rattle.fsd_formats.specs.Record.{end_bytes, record_len}
use Rattle.sector_disk.specs.declared.sector.WeakRun.{WeakRun}
use Rattle.sector_disk.specs.declared.sector.Sector.TheVariants.{Whole}
use Rattle.sector_disk.specs.Image.{sector_at, slice_of, stand, with_sector, IsWorn, open_damage}
use Rattle.sector_disk.specs.Machine.{Moment, Holds}
use Rattle.sector_disk.proofs.Wear.{worn_trans, stand_worn, length-stand, stand_in}
use Rattle.fsd_log.specs.Laid.{slices_from}
use Rattle.fsd_log.specs.Scan.{Placed, place_of}
use Rattle.fsd_log.proofs.PlaceLaws.{place_inside}
use Rattle.fsd_files.specs.Disk.{Image}
use Rattle.fsd_sound.specs.Anchors.{anchor_of}
use Rattle.fsd_sound.specs.Laid.{HasCopies}
use Rattle.fsd_sound.specs.Shown.{records_by}
use Rattle.fsd_sound.specs.Sound.{weak_of, EndIn, ShowsPages}
use Rattle.fsd_sound.proofs.SoundLaws.{shows_still}
use Rattle.fsd_sound.proofs.WindowLaws.{open_is_weak, apart_narrow}
use Rattle.fsd_sound.proofs.LogPlaces.{IsRecord, scan_records}
use Rattle.fsd_log.specs.Copies.{Copies, copies_count, AreCopiesOf, AreLastCopies}
use Rattle.fsd_sound.specs.Logged.{copies_of, KeepsLogged}
use Rattle.fsd_sound.specs.Windows.{IsApart}
use Rattle.fsd_log.proofs.RobustLaws.{length_more, get_left, get_last}
use Rattle.fsd_sound.proofs.CoverLaws.{ends_so}
use Rattle.fsd_sound.proofs.CompleteLaws.{stand_from}
use Rattle.fsd_sound.proofs.CompletedLaws.{completed_one, taken_last}

pub slices_at : (n from k : ℕ) (bytes : List ℕ) → k < n → get_or (slices_from from bytes n) k [] ≡ slice_of bytes (from + k)
slices_at zero from k bytes lt = absurd (omega arith)
slices_at (suc n) from zero bytes lt = let here : from ≡ from + 0 = omega arith in ap (slice_of bytes) here
slices_at (suc n) from (suc k) bytes lt = let there : suc from + k ≡ from + suc k = omega arith in slices_at n (suc from) k bytes (omega arith) ∙ ap (slice_of bytes) there

-- the copies of the last of some records
pub last_copies : (l : Layout) (epoch third : ℕ) (front : List Placed) (r : Placed) (c : Copies) → AreLastCopies l epoch third (front ++ r ∷ []) c → AreCopiesOf l epoch third r c
last_copies l epoch third [] r c of = of
last_copies l epoch third (q ∷ []) r c of = of
last_copies l epoch third (q ∷ p ∷ front) r c of = last_copies l epoch third (p ∷ front) r c of

module _ (l : Layout) (small : l.pages ≤ 2 ^ 32) (windows : List WeakRun) (apart : IsApart (gap_of l) (weak_of windows)) (choices : List (List (List ℕ))) (c : Image) (shows : ShowsPages l windows choices c)
    (t : Anchor) (taken : anchor_of c ≡ Some t) (long : 16 + 3 * l.third ≤ length c) (copies : Copies) where
  self : KeepsLogged l windows choices t c c
  self = record { shows = shows; taken = taken; records = refl }

  module _ (front : List Placed) (r : Placed) (joined : records_by l c t ≡ front ++ r ∷ []) (of : AreCopiesOf l t.epoch t.third r copies) where
    count_is : copies_count copies ≡ length r.entry.pages + 1
    count_is = let long : length copies.bytes ≡ 512 * (length r.entry.pages + 1) = of.copies.long in omega (arith, long)

    is_record : IsRecord l t.third r
    is_record = last_rec front (subst (AllByRecursion (IsRecord l t.third)) joined (scan_records l c t (taken_last l small windows apart choices c shows t taken front r joined long).by.is.third))
      where
        last_rec : (xs : List Placed) → AllByRecursion (IsRecord l t.third) (xs ++ r ∷ []) → IsRecord l t.third r
        last_rec [] all = all.0
        last_rec (q ∷ xs) all = last_rec xs all.1

    row_is : (k : ℕ) → k ≤ length r.entry.pages → get_or (copies_of t r) k [] ≡ slice_of copies.bytes k
    row_is k le = elim (cases_lt k (length r.entry.pages)) [
      | inl lt ↦ get_left r.entry.images (end_bytes (record { epoch = t.epoch; number = r.entry.number }) (length r.entry.pages)) k (omega (arith, is_record.images, lt))
          ∙ ap (λ (xs : List (List ℕ)). get_or xs k []) (sym of.images) ∙ slices_at (length r.entry.pages) 0 k copies.bytes lt ∙ ap (slice_of copies.bytes) (let e : 0 + k ≡ k = omega arith in e)
      | inr ge ↦
          let here : k ≡ length r.entry.images = omega (arith, is_record.images, ge, le) in
          let there : length r.entry.pages ≡ k = omega (arith, ge, le) in
          ap (λ (m : ℕ). get_or (copies_of t r) m []) here ∙ get_last r.entry.images (end_bytes (record { epoch = t.epoch; number = r.entry.number }) (length r.entry.pages)) ∙ sym of.copies.end ∙ ap (slice_of copies.bytes) there
    ]

    pub laying : (m : ℕ) → m ≤ length r.entry.pages + 1 → KeepsLogged l windows choices t c (stand c copies.place copies.bytes m)
    laying zero le = self
    laying (suc m) le =
        let so_far = laying m (omega arith) in
        let d : Image = stand c copies.place copies.bytes m in
        let step = completed_one l small windows apart choices (stand c copies.place copies.bytes m) so_far.shows t so_far.taken front r (so_far.records ∙ joined) (omega (arith, long, length-stand c copies.place copies.bytes m)) m (omega arith) in
        let place : place_of l t.third r.at + (4 + 2 * (gap_of l) + length r.entry.pages + m) ≡ copies.place + m = omega (arith, of.place) in
        let same : with_sector (stand c copies.place copies.bytes m) (place_of l t.third r.at + (4 + 2 * (gap_of l) + length r.entry.pages + m)) (get_or (copies_of t r) m []) ≡ stand c copies.place copies.bytes (suc m) =
        λ u. with_sector (stand c copies.place copies.bytes m) (place u) (row_is m (omega arith) u) in
        let here : KeepsLogged l windows choices t (stand c copies.place copies.bytes m) (stand c copies.place copies.bytes (suc m)) = subst (KeepsLogged l windows choices t (stand c copies.place copies.bytes m)) same step in
        record { shows = here.shows; taken = here.taken; records = here.records ∙ so_far.records }

    -- at the end they stand
    pub laid : HasCopies l t (weak_of windows) (stand c copies.place copies.bytes (copies_count copies)) r
    laid = stand_from l t (weak_of windows) (stand c copies.place copies.bytes (copies_count copies)) (place_of l t.third r.at + (4 + 2 * (gap_of l) + length r.entry.pages)) (copies_of t r) (λ k lt.
        let inside = place_inside l t.third r.at (record_len (gap_of l) (length r.entry.pages)) is_record.end is_record.inside (omega arith) in
        let many = length_more r.entry.images (end_bytes (record { epoch = t.epoch; number = r.entry.number }) (length r.entry.pages)) in
        let within : k < copies_count copies = omega (arith, lt, many, is_record.images, count_is) in
        let le : k ≤ length r.entry.pages = omega (arith, within, count_is) in
        let room : copies.place + copies_count copies ≤ length c = omega (arith, count_is, of.place, inside, long) in
        let place : copies.place + k ≡ place_of l t.third r.at + (4 + 2 * (gap_of l) + length r.entry.pages) + k = omega (arith, of.place) in
        inl (ap (sector_at (stand c copies.place copies.bytes (copies_count copies))) (sym place) ∙ stand_in c copies.place copies.bytes (copies_count copies) k within room ∙ ap (λ (b : List ℕ). Whole b) (sym (row_is k le))))

  -- with or without a last record
  pub completing : AreLastCopies l t.epoch t.third (records_by l c t) copies → (m : ℕ) → m ≤ copies_count copies → KeepsLogged l windows choices t c (stand c copies.place copies.bytes m)
  completing of m le = ⊎_elim
      (λ none.
      let empty : copies.bytes ≡ [] = subst (λ (rs : List Placed). AreLastCopies l t.epoch t.third rs copies) none of in
      let nothing : m ≡ 0 = omega (arith, le, ap (λ (b : List ℕ). length b) empty) in
      subst (λ (k : ℕ). KeepsLogged l windows choices t c (stand c copies.place copies.bytes k)) (sym nothing) self)
      (λ last.
      let is = last_copies l t.epoch t.third last.0 last.1 copies (subst (λ (rs : List Placed). AreLastCopies l t.epoch t.third rs copies) last.2 of) in
      laying last.0 last.1 last.2 is m (omega (arith, le, count_is last.0 last.1 last.2 is)))
      (ends_so (records_by l c t))

-- a moment of the completion
pub completing_shows : (l : Layout) → l.pages ≤ 2 ^ 32 → (windows : List WeakRun) → IsApart (gap_of l) (weak_of windows) → (choices : List (List (List ℕ))) (c : Image) (t : Anchor) (copies : Copies) (stood : ℕ) (now left : Moment) → 16 + 3 * l.third ≤ length c
    → EndIn now.windows windows → IsWorn (open_damage now.windows) c now.image → ShowsPages l windows choices c → anchor_of c ≡ Some t → AreLastCopies l t.epoch t.third (records_by l c t) copies
    → stood ≤ copies_count copies → Holds now (stand now.image copies.place copies.bytes stood) left → ShowsPages l windows choices left.image
completing_shows l small windows apart choices c t copies stood now left long ends worn shows taken of within holds =
    let clean : Image = stand c copies.place copies.bytes stood in
    let by : IsWorn (open_damage now.windows) (stand c copies.place copies.bytes stood) left.image =
    worn_trans (open_damage now.windows) (stand c copies.place copies.bytes stood) (stand now.image copies.place copies.bytes stood) left.image (stand_worn (open_damage now.windows) c now.image copies.place copies.bytes stood worn) holds.worn in
    shows_still l windows (apart_narrow l windows apart) choices (stand c copies.place copies.bytes stood) left.image (open_is_weak now.windows windows (stand c copies.place copies.bytes stood) left.image ends by)
    (completing l small windows apart choices c shows t taken long copies of stood within).shows
