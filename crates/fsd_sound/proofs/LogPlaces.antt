-- The records of a scan lie in the log's sectors, so nothing but those says what the scan finds.
use Rattle.std.proofs.Common.{◌≡◌, ◌++◌, inl, inr, ⊎_elim, ℕ, suc, ◌+◌, ◌-◌, ◌*◌, ◌<◌, ◌≤◌, Bool, List, [], ◌∷◌, length, Option, Some, None, nat_lt, refl, sym, ap, subst, ◌∙◌, arith}
use Rattle.std.specs.Prelude.{option_map}
use Rattle.std.specs.List.{AllByRecursion}
use Rattle.std.proofs.lemmas.Bool.{cases_lt, cond-true, cond-false, lt-ltb, le-ltb}
use Rattle.std.proofs.lemmas.List.{length-append}
use Rattle.volume_layout.specs.declared.layout.Layout.{Layout}
use Rattle.volume_layout.specs.Layout.{InLog}
use Rattle.volume_layout.specs.Kinds.{gap_of}
use Rattle.fsd_formats.specs.declared.anchor.Anchor.{Anchor}
use Rattle.fsd_formats.specs.Record.{Stamp, record_len, end_bytes}
use Rattle.sector_disk.specs.Image.{sector_at}
use Rattle.fsd_log.specs.Judged.{Reader, Serving, judged, images_of, Logged, logged_of, record_in}
use Rattle.fsd_log.specs.Scan.{IsEnd, IsIn, Head, Placed, room_at, window, scan, start, place_of, tape}
use Rattle.fsd_log.proofs.JudgedLaws.{is_judged, length-copies}
use Rattle.fsd_files.specs.Disk.{Image, Sectors, Has, bytes_of, bytes_at}
use Rattle.fsd_sound.specs.Laid.{AllStand, HasFront, HasCopies, GoodCopies, IsLaid, stamp_of}
use Rattle.fsd_sound.specs.Shown.{scan_by, records_by}
use Rattle.fsd_log.proofs.HereLaws.{here_some}
use Rattle.fsd_log.proofs.PlaceLaws.{InThird, place_cases, place_inside, place_from, first_most}
use Rattle.fsd_log.proofs.WalkLaws.{IsFound, found_goes_on, Goes, goes_of_walk}

-- the sectors of the log are those of the other image
abbrev pub SameLog : Layout → Image → Image → Type 0
SameLog l i j = (s : ℕ) → InLog l s → sector_at j s ≡ sector_at i s

-- ---- the tape

pub on_tape : (l : Layout) (third w : ℕ) (disk : Reader) → w < 3 * l.third → tape l third disk w ≡ disk (place_of l third w)
on_tape l third w disk lt = cond-true (nat_lt w (3 * l.third)) (disk (place_of l third w)) None (lt-ltb w (3 * l.third) lt)

pub off_tape : (l : Layout) (third w : ℕ) (disk : Reader) → 3 * l.third ≤ w → tape l third disk w ≡ None
off_tape l third w disk past = cond-false (nat_lt w (3 * l.third)) (disk (place_of l third w)) None (le-ltb w (3 * l.third) past)

pub place_in_log : (l : Layout) (third w : ℕ) → third ≤ 2 → w < 3 * l.third → InLog l (place_of l third w)
place_in_log l third w le lt = (
  let from : 16 ≤ place_of l third w = place_from l third w in omega arith,
  let most : third * l.third ≤ 2 * l.third = first_most l third le in
      elim (place_cases l third w) [ inl p ↦ omega (arith, p.0, p.1) | inr p ↦ omega (arith, p.0, p.1) ],
)

module _ (l : Layout) (i j : Image) (same : SameLog l i j) (third : ℕ) (le : third ≤ 2) where
  tape_at : (w : ℕ) → tape l third (bytes_at j) w ≡ tape l third (bytes_at i) w
  tape_at w = elim (cases_lt w (3 * l.third)) [
    | inl lt ↦ on_tape l third w (bytes_at j) lt ∙ ap bytes_of (same (place_of l third w) (place_in_log l third w le lt)) ∙ sym (on_tape l third w (bytes_at i) lt)
    | inr past ↦ off_tape l third w (bytes_at j) past ∙ sym (off_tape l third w (bytes_at i) past)
  ]

  pub same_tape : tape l third (bytes_at j) ≡ tape l third (bytes_at i)
  same_tape = λ x w. tape_at w x

pub same_scan : (l : Layout) (i j : Image) → SameLog l i j → (a : Anchor) → a.third ≤ 2 → scan_by l j a ≡ scan_by l i a
same_scan l i j same a le = ap (λ (t : Reader). scan l a.epoch t a.first) (same_tape l i j same a.third le)

-- ---- the images of a record

length-images : (at : Reader) (k c : ℕ) (cs : List Bool) → length (images_of at k c cs) ≡ length cs
length-images at k c [] = refl
length-images at k c (x ∷ cs) = ap suc (length-images at (k + 1) (c + 1) cs)

pub record_images : (gap : ℕ) → (p : ℕ) (stamp : Stamp) (room : ℕ) (at : Reader) (r : Logged) → record_in gap p stamp room at ≡ Some r → length r.images ≡ length r.pages
unfolding record_in
record_images gap p stamp room at r e = by_judged (judged gap p stamp room at) refl e
  where
    by_judged : (o : Option Serving) → judged gap p stamp room at ≡ o → option_map (logged_of gap stamp.number at) o ≡ Some r → length r.images ≡ length r.pages
    by_judged None is given = absurd (cc)
    by_judged (Some f) is given =
        let made : logged_of gap stamp.number at f ≡ r = cc in
        let pages : f.pages ≡ r.pages = ap (λ (x : Logged). x.pages) made in
        ap (λ (x : Logged). length x.images) (sym made) ∙ length-images at (3 + gap) (4 + 2 * gap + length f.pages) f.page_copy
        ∙ length-copies stamp at (3 + gap) (4 + 2 * gap + length f.pages) f.pages f.page_copy (is_judged gap p stamp room at f is).copies ∙ ap length pages

-- ---- records of a scan

-- it lies in one third, and has an image of each page
pub record IsRecord (l : Layout) (third : ℕ) (r : Placed) : Type 0 where
  pub end : ℕ
  pub inside : InThird l third r.at (record_len (gap_of l) (length r.entry.pages)) end
  pub images : length r.entry.images ≡ length r.entry.pages

module _ (l : Layout) (epoch third : ℕ) (le : third ≤ 2) (disk : Reader) where
  pub found_record : (h : Head) (r : Placed) (h1 : Head) → IsIn l h → IsFound l epoch disk h r h1 → IsRecord l third r
  found_record h r h1 is_in is =
      let one = found_goes_on l epoch disk h r h1 is_in is in
      let ends : h1.end ≡ is.end = ap (λ (x : Head). x.end) is.goes_on in
      record {
        end = is.end;
        inside = record {
          one_of = le;
          ends = subst (IsEnd l) ends one.is_in.ends;
          from = ⊎_elim (λ here. omega (arith, here.at_head, here.in_third, is_in.from)) (λ there. omega (arith, there.at_start, there.in_third)) is.place;
          to = omega (arith, one.to, one.is_in.before, ends);
        };
        images = record_images (gap_of l) l.pages (record { epoch = epoch; number = h.number }) (room_at r.at is.end) (window disk r.at (room_at r.at is.end)) r.entry (here_some l epoch disk h.number r.at is.end r.entry is.found).1;
      }

  pub goes_records : (h : Head) (rs : List Placed) (end : Head) → IsIn l h → Goes l epoch disk h rs end → AllByRecursion (IsRecord l third) rs
  goes_records h [] end is_in goes = tt
  goes_records h (r ∷ rs) end is_in goes =
      let one = found_goes_on l epoch disk h r goes.0 is_in goes.1 in
      (found_record h r goes.0 is_in goes.1, goes_records goes.0 rs end one.is_in goes.2)

pub start_in : (l : Layout) (first : ℕ) → IsIn l (start l first)
start_in l first = record { before = omega arith; from = omega arith; ends = inl refl }

pub scan_goes : (l : Layout) (epoch first : ℕ) (disk : Reader) → Goes l epoch disk (start l first) (scan l epoch disk first).records (scan l epoch disk first).head
unfolding scan
scan_goes l epoch first disk = goes_of_walk (3 * l.third) l epoch disk (start l first)

pub scan_records : (l : Layout) (i : Image) (a : Anchor) → a.third ≤ 2 → AllByRecursion (IsRecord l a.third) (records_by l i a)
scan_records l i a le = goes_records l a.epoch a.third le (tape l a.third (bytes_at i)) (start l a.first) (records_by l i a) (scan_by l i a).head (start_in l a.first) (scan_goes l a.epoch a.first (tape l a.third (bytes_at i)))

-- a sector of a record lies in the log
pub record_in_log : (l : Layout) (third : ℕ) (r : Placed) (k : ℕ) → IsRecord l third r → k < record_len (gap_of l) (length r.entry.pages) → InLog l (place_of l third r.at + k)
record_in_log l third r k is lt = (
  let from : 16 ≤ place_of l third r.at = place_from l third r.at in omega arith,
  let inside : place_of l third r.at + record_len (gap_of l) (length r.entry.pages) ≤ 16 + 3 * l.third = place_inside l third r.at (record_len (gap_of l) (length r.entry.pages)) is.end is.inside (omega arith) in omega arith,
)

-- ---- records as they were laid

module _ (l : Layout) (a : Anchor) (weak : Sectors) (i j : Image) where
  pub has_same : (bytes : List ℕ) (s : ℕ) → sector_at j s ≡ sector_at i s → Has weak i bytes s → Has weak j bytes s
  has_same bytes s same (inl is) = inl (same ∙ is)
  has_same bytes s same (inr hurt) = inr (hurt.0, same ∙ hurt.1)

  pub stand_same : (s : ℕ) (xs : List (List ℕ)) → ((k : ℕ) → s ≤ k → k < s + length xs → sector_at j k ≡ sector_at i k) → AllStand l a weak i s xs → AllStand l a weak j s xs
  stand_same s [] same stand = tt
  stand_same s (bytes ∷ more) same stand = (has_same bytes s (same s (omega arith) (omega arith)) stand.0, stand_same (s + 1) more (λ k ge lt. same k (omega arith) (omega arith)) stand.1)

  good_same : (stamp : Stamp) (s : ℕ) (pages : List ℕ) (images : List (List ℕ)) → ((k : ℕ) → s ≤ k → k < s + length pages → sector_at j k ≡ sector_at i k) → GoodCopies l a weak i stamp s pages images → GoodCopies l a weak j stamp s pages images
  good_same stamp s [] images same good = tt
  good_same stamp s (page ∷ pages) [] same good = absurd good
  good_same stamp s (page ∷ pages) (image ∷ images) same good = (
    λ bytes is bearing. good.0 bytes (sym (same s (omega arith) (omega arith)) ∙ is) bearing,
    good_same stamp (s + 1) pages images (λ k ge lt. same k (omega arith) (omega arith)) good.1,
  )

  module _ (r : Placed) (is : IsRecord l a.third r) (same : (k : ℕ) → k < record_len (gap_of l) (length r.entry.pages) → sector_at j (place_of l a.third r.at + k) ≡ sector_at i (place_of l a.third r.at + k)) where
    within : (from : ℕ) (n : ℕ) → from + n ≤ record_len (gap_of l) (length r.entry.pages) → (k : ℕ) → place_of l a.third r.at + from ≤ k → k < place_of l a.third r.at + from + n → sector_at j k ≡ sector_at i k
    within from n le k ge lt =
        let at : place_of l a.third r.at + (k - place_of l a.third r.at) ≡ k = omega arith in
        subst (λ (s : ℕ). sector_at j s ≡ sector_at i s) at (same (k - place_of l a.third r.at) (omega arith))

    pub front_same : HasFront l a weak i r → HasFront l a weak j r
    front_same front = record {
      header = let at : place_of l a.third r.at + 0 ≡ place_of l a.third r.at = omega arith in
          has_same _ _ (subst (λ (s : ℕ). sector_at j s ≡ sector_at i s) at (same 0 (omega arith))) front.header;
      header_copy = has_same _ _ (same (2 + gap_of l) (omega arith)) front.header_copy;
      pages = stand_same (place_of l a.third r.at + 3 + (gap_of l)) _ (λ k ge lt. within (3 + gap_of l) (length (r.entry.images ++ end_bytes (stamp_of l a weak i r) (length r.entry.pages) ∷ [])) (omega (arith, is.images, length-append r.entry.images (end_bytes (stamp_of l a weak i r) (length r.entry.pages) ∷ []))) k (omega (arith, ge)) (omega (arith, lt))) front.pages;
    }

    pub copies_same : HasCopies l a weak i r → HasCopies l a weak j r
    copies_same copies = stand_same (place_of l a.third r.at + (4 + 2 * (gap_of l) + length r.entry.pages)) _ (within (4 + 2 * (gap_of l) + length r.entry.pages) _ (omega (arith, is.images, length-append r.entry.images (end_bytes (stamp_of l a weak i r) (length r.entry.pages) ∷ [])))) copies

    pub good_copies_same : GoodCopies l a weak i (stamp_of l a weak i r) (place_of l a.third r.at + (4 + 2 * (gap_of l) + length r.entry.pages)) r.entry.pages r.entry.images
        → GoodCopies l a weak j (stamp_of l a weak j r) (place_of l a.third r.at + (4 + 2 * (gap_of l) + length r.entry.pages)) r.entry.pages r.entry.images
    good_copies_same good = good_same (stamp_of l a weak i r) (place_of l a.third r.at + (4 + 2 * (gap_of l) + length r.entry.pages)) r.entry.pages r.entry.images (within (4 + 2 * (gap_of l) + length r.entry.pages) (length r.entry.pages) (omega arith)) good

  module _ (same : SameLog l i j) where
    pub in_record : (r : Placed) → IsRecord l a.third r → (k : ℕ) → k < record_len (gap_of l) (length r.entry.pages) → sector_at j (place_of l a.third r.at + k) ≡ sector_at i (place_of l a.third r.at + k)
    in_record r is k lt = same (place_of l a.third r.at + k) (record_in_log l a.third r k is lt)

    pub laid_same : (rs : List Placed) → AllByRecursion (IsRecord l a.third) rs → IsLaid l a weak i rs → IsLaid l a weak j rs
    laid_same [] are laid = tt
    laid_same (r ∷ []) are laid = (front_same r are.0 (in_record r are.0) laid.0, good_copies_same r are.0 (in_record r are.0) laid.1)
    laid_same (r ∷ q ∷ rs) are laid = (front_same r are.0 (in_record r are.0) laid.0, copies_same r are.0 (in_record r are.0) laid.1, laid_same (q ∷ rs) are.1 laid.2)
