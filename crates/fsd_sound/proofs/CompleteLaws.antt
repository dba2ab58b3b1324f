-- One sector more of the last record's copies is laid: what is shown stays, however the run wears.
use Rattle.std.proofs.Common.{◌≡◌, ◌≢◌, ◌⊎◌, inl, inr, ⊎_elim, ℕ, zero, suc, ◌+◌, ◌-◌, ◌*◌, ◌^◌, ◌<◌, ◌≤◌, Bool, true, false, cond, List, [], ◌∷◌, ◌++◌, length, get_or, Option, Some, None, nat_lt, refl, sym, ap, subst, ◌∙◌, arith}
use Rattle.std.specs.Prelude.{IsTrue, option_map}
use Rattle.std.specs.Option.{option_or}
use Rattle.std.specs.List.{AllByRecursion}
use Rattle.std.proofs.lemmas.Bool.{cases_lt, cond-true, lt-ltb}
use Rattle.std.proofs.lemmas.List.{length-set}
use Rattle.volume_layout.specs.declared.layout.Layout.{Layout}
use Rattle.volume_layout.specs.Kinds.{gap_of}
use Rattle.fsd_bytes.proofs.SameLaws.{is_same, same_is}
use Rattle.fsd_formats.specs.declared.anchor.Anchor.{Anchor}
use Rattle.fsd_formats.specs.Record.{Stamp, header_bytes, end_bytes, is_end, bears, record_len}
use Rattle.sector_disk.specs.declared.sector.Sector.{Sector}
use Rattle.sector_disk.specs.declared.sector.Sector.TheVariants.{Whole, Damaged}
use Rattle.sector_disk.specs.Image.{sector_at, with_sector, IsWorn}
use Rattle.sector_disk.proofs.Wear.{worn_whole, whole_of}
use Rattle.fsd_log.specs.Judged.{Reader, Logged, Serving, passes, judged, logged_of, record_in}
use Rattle.fsd_log.specs.Good.{Serves}
use Rattle.fsd_log.proofs.GoodLaws.{judged_is_good}
use Rattle.fsd_log.specs.Borne.{borne_by, Foreign}
use Rattle.fsd_log.proofs.BorneLaws.{end_bears}
use Rattle.fsd_log.proofs.AppendLaws.{none_foreign, two_stamps}
use Rattle.fsd_log.proofs.JudgedLaws.{record_room}
use Rattle.fsd_log.proofs.HereLaws.{here_some}
use Rattle.fsd_log.proofs.PlaceLaws.{place_cases, place_add, place_inside, first_most, end_most, below_numbers, above_numbers}
use Rattle.fsd_log.proofs.WalkLaws.{stamp_of as stamp_at, IsFound, Goes}
use Rattle.fsd_sound.proofs.LogPlaces.{on_tape, off_tape, IsRecord, scan_records, scan_goes, start_in, has_same, front_same, copies_same, good_copies_same}
use Rattle.fsd_sound.specs.Shown.{records_by, scan_by}
use Rattle.fsd_sound.proofs.AnchorFacts.{IsAnchor}
use Rattle.fsd_log.proofs.RecordFacts.{IsReadAs, read_as, rows_bear, length-stamped}
use Rattle.fsd_log.proofs.RobustLaws.{OrNone, served_some, rows_of, get_left, get_last, image_bears, here_less, goes_again, same_record, record_part}
use Rattle.fsd_sound.proofs.LaidLaws.{has_worn, stand_at, all_read, tape_less}
use Rattle.fsd_sound.proofs.CommuteLaws.{same_or, with_same, with_other}
use Rattle.fsd_log.proofs.ApartLaws.{IsApartFrom, ScansAlike, scans_alike}
use Rattle.fsd_log.specs.Plain.{served, either_copy}
use Rattle.fsd_log.specs.Scan.{last_number, Head, Placed, place_of, tape, room_at, window, start}
use Rattle.fsd_files.specs.Disk.{Image, Sectors, Has, bytes_of, bytes_at}
use Rattle.fsd_sound.specs.Laid.{AllStand, HasFront, HasCopies, GoodCopies, IsLaid}
use Rattle.fsd_sound.specs.Windows.{IsApart}

-- ---- sectors one behind the other

pub stand_from : (l : Layout) (a : Anchor) (weak : Sectors) (i : Image) (s : ℕ) (xs : List (List ℕ)) → ((k : ℕ) → k < length xs → Has weak i (get_or xs k []) (s + k)) → AllStand l a weak i s xs
stand_from l a weak i s [] each = tt
stand_from l a weak i s (x ∷ xs) each = (
  let at : s + 0 ≡ s = omega arith in subst (Has weak i x) at (each 0 (omega arith)),
  stand_from l a weak i (s + 1) xs (λ k lt. let at : s + suc k ≡ (s + 1) + k = omega arith in subst (Has weak i (get_or xs k [])) at (each (suc k) (omega arith))),
)

pub good_at : (l : Layout) (a : Anchor) (weak : Sectors) (i : Image) (stamp : Stamp) (s : ℕ) (pages : List ℕ) (images : List (List ℕ)) → GoodCopies l a weak i stamp s pages images
    → (k : ℕ) → k < length pages → (bytes : List ℕ) → sector_at i (s + k) ≡ Whole bytes → IsTrue (bears (get_or pages k 0) stamp bytes) → bytes ≡ get_or images k []
good_at l a weak i stamp s [] images good k lt bytes is bearing = absurd (omega arith)
good_at l a weak i stamp s (page ∷ pages) [] good k lt bytes is bearing = absurd good
good_at l a weak i stamp s (page ∷ pages) (image ∷ images) good zero lt bytes is bearing = let at : s ≡ s + 0 = omega arith in good.0 bytes (ap (sector_at i) at ∙ is) bearing
good_at l a weak i stamp s (page ∷ pages) (image ∷ images) good (suc k) lt bytes is bearing = let at : (s + 1) + k ≡ s + suc k = omega arith in good_at l a weak i stamp (s + 1) pages images good.1 k (omega arith) bytes (ap (sector_at i) at ∙ is) bearing

pub good_from : (l : Layout) (a : Anchor) (weak : Sectors) (i : Image) (stamp : Stamp) (s : ℕ) (pages : List ℕ) (images : List (List ℕ)) → length images ≡ length pages
    → ((k : ℕ) → k < length pages → (bytes : List ℕ) → sector_at i (s + k) ≡ Whole bytes → IsTrue (bears (get_or pages k 0) stamp bytes) → bytes ≡ get_or images k []) → GoodCopies l a weak i stamp s pages images
good_from l a weak i stamp s [] images many each = tt
good_from l a weak i stamp s (page ∷ pages) [] many each = absurd (omega arith)
good_from l a weak i stamp s (page ∷ pages) (image ∷ images) many each = (
  λ bytes is bearing. let at : s + 0 ≡ s = omega arith in each 0 (omega arith) bytes (ap (sector_at i) at ∙ is) bearing,
  good_from l a weak i stamp (s + 1) pages images (omega arith) (λ k lt bytes is bearing. let at : s + suc k ≡ (s + 1) + k = omega arith in each (suc k) (omega arith) bytes (ap (sector_at i) at ∙ is) bearing),
)

-- what stands of each record stands still
pub record Carries (l : Layout) (a : Anchor) (weak : Sectors) (y z : Image) (p : Placed) : Type 0 where
  pub front : HasFront l a weak y p → HasFront l a weak z p
  pub copies : HasCopies l a weak y p → HasCopies l a weak z p
  pub good : GoodCopies l a weak y (record { epoch = a.epoch; number = p.entry.number }) (place_of l a.third p.at + (4 + 2 * (gap_of l) + length p.entry.pages)) p.entry.pages p.entry.images
      → GoodCopies l a weak z (record { epoch = a.epoch; number = p.entry.number }) (place_of l a.third p.at + (4 + 2 * (gap_of l) + length p.entry.pages)) p.entry.pages p.entry.images

pub laid_on : (l : Layout) (a : Anchor) (weak : Sectors) (y z : Image) (rs : List Placed) → AllByRecursion (Carries l a weak y z) rs → IsLaid l a weak y rs → IsLaid l a weak z rs
laid_on l a weak y z [] carry laid = tt
laid_on l a weak y z (p ∷ []) carry laid = (carry.0.front laid.0, carry.0.good laid.1)
laid_on l a weak y z (p ∷ q ∷ rs) carry laid = (carry.0.front laid.0, carry.0.copies laid.1, laid_on l a weak y z (q ∷ rs) carry.1 laid.2)

-- ---- what serves

-- the first stands
first_serves : (test : List ℕ → Bool) (x : List ℕ) (a d : Option (List ℕ)) → test x ≡ true → a ≡ Some x → either_copy test a d ≡ Some x
first_serves test x a d ok is = ap (λ (o : Option (List ℕ)). option_or o (served test d)) (served_some test x a ok is)

-- the copy stands, and the first does or is lost
copy_serves : (test : List ℕ → Bool) (x : List ℕ) (a d : Option (List ℕ)) → test x ≡ true → OrNone x a → d ≡ Some x → either_copy test a d ≡ Some x
copy_serves test x a d ok (inl is) there = first_serves test x a d ok is
copy_serves test x a d ok (inr none) there = ap (λ (o : Option (List ℕ)). option_or (served test o) (served test d)) none ∙ served_some test x d ok there

-- the first stands or is lost, and the copy serves as that alone
serves_part : (test : List ℕ → Bool) (x : List ℕ) (a d : Option (List ℕ)) → test x ≡ true → OrNone x a → ((bytes : List ℕ) → d ≡ Some bytes → test bytes ≡ true → bytes ≡ x) → (either_copy test a d ≡ None) ⊎ (either_copy test a d ≡ Some x)
serves_part test x a d ok (inl is) good = inr (first_serves test x a d ok is)
serves_part test x a d ok (inr none) good = by_copy d refl
  where
    by_test : (bytes : List ℕ) (b : Bool) → test bytes ≡ b → d ≡ Some bytes → (cond b (Some bytes) None ≡ None) ⊎ (cond b (Some bytes) None ≡ Some x)
    by_test bytes false is there = inl refl
    by_test bytes true is there = inr (ap (λ (y : List ℕ). Some y) (good bytes there is))

    lost : either_copy test a d ≡ served test d
    lost = ap (λ (o : Option (List ℕ)). option_or (served test o) (served test d)) none

    by_copy : (o : Option (List ℕ)) → d ≡ o → (either_copy test a d ≡ None) ⊎ (either_copy test a d ≡ Some x)
    by_copy None is = inl (lost ∙ ap (served test) is)
    by_copy (Some bytes) is = ⊎_elim (λ e. inl (lost ∙ ap (served test) is ∙ e)) (λ e. inr (lost ∙ ap (served test) is ∙ e)) (by_test bytes (test bytes) refl is)

-- of a record that is found each row is served
pub serves_of : (gap : ℕ) → (p : ℕ) (stamp : Stamp) (room : ℕ) (at : Reader) (e : Logged) → record_in gap p stamp room at ≡ Some e
    → Serves (is_end stamp (length e.pages)) (at (3 + gap + length e.pages)) (at (4 + 2 * gap + 2 * length e.pages)) × ((j : ℕ) → j < length e.pages → Serves (bears (get_or e.pages j 0) stamp) (at (3 + gap + j)) (at (4 + 2 * gap + length e.pages + j)))
unfolding record_in
serves_of gap p stamp room at e is = by_judged (judged gap p stamp room at) refl is
  where
    by_judged : (o : Option Serving) → judged gap p stamp room at ≡ o → option_map (logged_of gap stamp.number at) o ≡ Some e
        → Serves (is_end stamp (length e.pages)) (at (3 + gap + length e.pages)) (at (4 + 2 * gap + 2 * length e.pages)) × ((j : ℕ) → j < length e.pages → Serves (bears (get_or e.pages j 0) stamp) (at (3 + gap + j)) (at (4 + 2 * gap + length e.pages + j)))
    by_judged None j given = absurd (cc given)
    by_judged (Some f) j given =
        let made : logged_of gap stamp.number at f ≡ e = cc in
        let pages : f.pages ≡ e.pages = ap (λ (x : Logged). x.pages) made in
        let P : List ℕ → Type 0 = λ ps. Serves (is_end stamp (length ps)) (at (3 + gap + length ps)) (at (4 + 2 * gap + 2 * length ps)) × ((j : ℕ) → j < length ps → Serves (bears (get_or ps j 0) stamp) (at (3 + gap + j)) (at (4 + 2 * gap + length ps + j))) in
        subst P pages (⊎_elim (λ by. (by.ends, by.each)) (λ by. (by.ends, by.each)) (judged_is_good gap p stamp room at f j))

-- ---- the last step of a scan

pub record EndsWith (l : Layout) (epoch : ℕ) (disk : Reader) (h : Head) (front : List Placed) (r : Placed) (end : Head) : Type 0 where
  pub mid : Head
  pub goes : Goes l epoch disk h front mid
  pub found : IsFound l epoch disk mid r end

pub goes_split : (l : Layout) (epoch : ℕ) (disk : Reader) (h : Head) (front : List Placed) (r : Placed) (end : Head) → Goes l epoch disk h (front ++ r ∷ []) end → EndsWith l epoch disk h front r end
goes_split l epoch disk h [] r end goes = record { mid = h; goes = refl; found = subst (IsFound l epoch disk h r) (sym goes.2) goes.1 }
goes_split l epoch disk h (q ∷ front) r end goes =
    let rest = goes_split l epoch disk goes.0 front r end goes.2 in
    record { mid = rest.mid; goes = (goes.0, goes.1, rest.goes); found = rest.found }

pub all_last : {A : Type 0} (P : A → Type 0) (front : List A) (r : A) → AllByRecursion P (front ++ r ∷ []) → P r
all_last P [] r all = all.0
all_last P (q ∷ front) r all = all_last P front r all.1

-- every record but the last whole, and the last
pub laid_parts : (l : Layout) (a : Anchor) (weak : Sectors) (i : Image) (front : List Placed) (r : Placed) → IsLaid l a weak i (front ++ r ∷ [])
    → AllByRecursion (λ q. HasFront l a weak i q × HasCopies l a weak i q) front × (HasFront l a weak i r × GoodCopies l a weak i (record { epoch = a.epoch; number = r.entry.number }) (place_of l a.third r.at + (4 + 2 * (gap_of l) + length r.entry.pages)) r.entry.pages r.entry.images)
laid_parts l a weak i [] r laid = (tt, laid)
laid_parts l a weak i (q ∷ []) r laid = (((laid.0, laid.1), tt), laid.2)
laid_parts l a weak i (q ∷ p ∷ front) r laid = let rest = laid_parts l a weak i (p ∷ front) r laid.2 in (((laid.0, laid.1), rest.0), rest.1)

-- the last record of an image's log, by an anchor
pub record IsLastBy (l : Layout) (weak : Sectors) (c : Image) (b : Anchor) (q : Placed) : Type 0 where
  pub is : IsAnchor b
  pub front : List Placed
  pub joined : records_by l c b ≡ front ++ q ∷ []
  pub laid : IsLaid l b weak c (front ++ q ∷ [])

module _ (l : Layout) (small : l.pages ≤ 2 ^ 32) (weak : Sectors) (apart : IsApart (gap_of l) weak) (c : Image) (b : Anchor) (q : Placed) (by : IsLastBy l weak c b q) where
  abbrev P : ℕ
  P = place_of l b.third q.at

  abbrev stamp : Stamp
  stamp = stamp_at b.epoch q.entry.number

  pub parts : EndsWith l b.epoch (tape l b.third (bytes_at c)) (start l b.first) by.front q (scan_by l c b).head
  parts = goes_split l b.epoch (tape l b.third (bytes_at c)) (start l b.first) by.front q (scan_by l c b).head
      (subst (λ (rs : List Placed). Goes l b.epoch (tape l b.third (bytes_at c)) (start l b.first) rs (scan_by l c b).head) by.joined (scan_goes l b.epoch b.first (tape l b.third (bytes_at c))))

  is_rec : IsRecord l b.third q
  is_rec = all_last (IsRecord l b.third) by.front q (subst (AllByRecursion (IsRecord l b.third)) by.joined (scan_records l c b by.is.third))

  looks : (parts.mid.number < last_number) × (record_in (gap_of l) l.pages (stamp_at b.epoch parts.mid.number) (room_at q.at parts.found.end) (window (tape l b.third (bytes_at c)) q.at (room_at q.at parts.found.end)) ≡ Some q.entry)
  looks = here_some l b.epoch (tape l b.third (bytes_at c)) parts.mid.number q.at parts.found.end q.entry parts.found.found

  read_mid : IsReadAs l.pages (stamp_at b.epoch parts.mid.number) q.entry
  read_mid = read_as (gap_of l) l.pages (stamp_at b.epoch parts.mid.number) (room_at q.at parts.found.end) (window (tape l b.third (bytes_at c)) q.at (room_at q.at parts.found.end)) q.entry looks.1

  pub number_is : q.entry.number ≡ parts.mid.number
  number_is = read_mid.number

  pub read : IsReadAs l.pages (stamp_at b.epoch q.entry.number) q.entry
  read = subst (λ (m : ℕ). IsReadAs l.pages (stamp_at b.epoch m) q.entry) (sym number_is) read_mid

  long : record_len (gap_of l) (length q.entry.pages) ≤ room_at q.at parts.found.end
  long = record_room (gap_of l) l.pages (stamp_at b.epoch parts.mid.number) (room_at q.at parts.found.end) (window (tape l b.third (bytes_at c)) q.at (room_at q.at parts.found.end)) q.entry looks.1

  pub last_front : HasFront l b weak c q
  last_front = (laid_parts l b weak c by.front q by.laid).1.0

  pub last_good : GoodCopies l b weak c (record { epoch = b.epoch; number = q.entry.number }) (place_of l b.third q.at + (4 + 2 * (gap_of l) + length q.entry.pages)) q.entry.pages q.entry.images
  last_good = (laid_parts l b weak c by.front q by.laid).1.1

  many : length q.entry.images ≡ length q.entry.pages
  many = length-stamped (stamp_at b.epoch q.entry.number) q.entry.pages q.entry.images read.stamped

  rows_many : length (rows_of (stamp_at b.epoch q.entry.number) q.entry) ≡ length q.entry.pages + 1
  rows_many = length_more q.entry.images (end_bytes (stamp_at b.epoch q.entry.number) (length q.entry.pages)) ∙ ap (λ (m : ℕ). m + 1) many
    where
      length_more : (xs : List (List ℕ)) (x : List ℕ) → length (xs ++ x ∷ []) ≡ length xs + 1
      length_more [] x = refl
      length_more (y ∷ xs) x = ap suc (length_more xs x) ∙ omega arith

  pub row_has : (k : ℕ) → k ≤ length q.entry.pages → Has weak c (get_or (rows_of (stamp_at b.epoch q.entry.number) q.entry) k []) (place_of l b.third q.at + (3 + (gap_of l) + k))
  row_has k le = let e : place_of l b.third q.at + 3 + (gap_of l) + k ≡ place_of l b.third q.at + (3 + (gap_of l) + k) = omega arith in subst (Has weak c _) e (stand_at l b weak c _ _ last_front.pages k (omega (arith, rows_many)))

  row_image : (k : ℕ) → k < length q.entry.pages → get_or (rows_of (stamp_at b.epoch q.entry.number) q.entry) k [] ≡ get_or q.entry.images k []
  row_image k lt = get_left q.entry.images (end_bytes (stamp_at b.epoch q.entry.number) (length q.entry.pages)) k (omega (arith, many))

  row_end : get_or (rows_of (stamp_at b.epoch q.entry.number) q.entry) (length q.entry.pages) [] ≡ end_bytes (stamp_at b.epoch q.entry.number) (length q.entry.pages)
  row_end = ap (λ (k : ℕ). get_or (rows_of (stamp_at b.epoch q.entry.number) q.entry) k []) (sym many) ∙ get_last q.entry.images (end_bytes (stamp_at b.epoch q.entry.number) (length q.entry.pages))

  inside : (m : ℕ) → m < record_len (gap_of l) (length q.entry.pages) → q.at + m < 3 * l.third
  inside m lt = omega (arith, is_rec.inside.to, end_most l is_rec.end is_rec.inside.ends)

  place_at : (m : ℕ) → m < record_len (gap_of l) (length q.entry.pages) → place_of l b.third (q.at + m) ≡ place_of l b.third q.at + m
  place_at m lt = place_add l b.third q.at (record_len (gap_of l) (length q.entry.pages)) is_rec.end m is_rec.inside lt

  -- a sector of the record, as it is read on the tape of any image
  pub seen : (z : Image) (m : ℕ) → m < record_len (gap_of l) (length q.entry.pages) → window (tape l b.third (bytes_at z)) q.at (room_at q.at parts.found.end) m ≡ bytes_at z (place_of l b.third q.at + m)
  seen z m lt =
      cond-true (nat_lt m (room_at q.at parts.found.end)) (tape l b.third (bytes_at z) (q.at + m)) None (lt-ltb m (room_at q.at parts.found.end) (omega (arith, long)))
      ∙ on_tape l b.third (q.at + m) (bytes_at z) (inside m lt) ∙ ap (bytes_at z) (place_at m lt)

  -- the first of a row is lost, so its copy stands
  pub copy_stands : (k : ℕ) → k ≤ length q.entry.pages → sector_at c (place_of l b.third q.at + (3 + (gap_of l) + k)) ≡ Damaged
      → sector_at c (place_of l b.third q.at + (4 + 2 * (gap_of l) + length q.entry.pages + k)) ≡ Whole (get_or (rows_of (stamp_at b.epoch q.entry.number) q.entry) k [])
  copy_stands k le hurt = elim (cases_lt k (length q.entry.pages)) [
    | inl lt ↦
        let copy = other_serves (bears (get_or q.entry.pages k 0) (stamp_at b.epoch q.entry.number)) (bytes_at c (place_of l b.third q.at + (3 + (gap_of l) + k))) (bytes_at c (place_of l b.third q.at + (4 + 2 * (gap_of l) + length q.entry.pages + k))) (ap bytes_of hurt)
        (subst (λ (o : Option (List ℕ)). Serves (bears (get_or q.entry.pages k 0) (stamp_at b.epoch q.entry.number)) o (bytes_at c (place_of l b.third q.at + (4 + 2 * (gap_of l) + length q.entry.pages + k)))) (seen c (3 + (gap_of l) + k) (omega arith))
        (subst (λ (o : Option (List ℕ)). Serves (bears (get_or q.entry.pages k 0) (stamp_at b.epoch q.entry.number)) (window (tape l b.third (bytes_at c)) q.at (room_at q.at parts.found.end) (3 + (gap_of l) + k)) o) (seen c (4 + 2 * (gap_of l) + length q.entry.pages + k) (omega arith))
        (rows.1 k lt))) in
        let e : place_of l b.third q.at + (4 + 2 * (gap_of l) + length q.entry.pages) + k ≡ place_of l b.third q.at + (4 + 2 * (gap_of l) + length q.entry.pages + k) = omega arith in
        whole_of (sector_at c (place_of l b.third q.at + (4 + 2 * (gap_of l) + length q.entry.pages + k))) copy.0 copy.1
        ∙ ap (λ (x : List ℕ). Whole x) (good_at l b weak c _ _ q.entry.pages q.entry.images last_good k lt copy.0 (ap (sector_at c) e ∙ whole_of (sector_at c (place_of l b.third q.at + (4 + 2 * (gap_of l) + length q.entry.pages + k))) copy.0 copy.1) copy.2 ∙ sym (row_image k lt))
    | inr ge ↦
        let is_end_row : k ≡ length q.entry.pages = omega arith in
        let e3 : place_of l b.third q.at + (3 + (gap_of l) + k) ≡ place_of l b.third q.at + (3 + (gap_of l) + length q.entry.pages) = omega arith in
        let e4 : place_of l b.third q.at + (4 + 2 * (gap_of l) + length q.entry.pages + k) ≡ place_of l b.third q.at + (4 + 2 * (gap_of l) + 2 * length q.entry.pages) = omega arith in
        let copy = other_serves (is_end (stamp_at b.epoch q.entry.number) (length q.entry.pages)) (bytes_at c (place_of l b.third q.at + (3 + (gap_of l) + length q.entry.pages))) (bytes_at c (place_of l b.third q.at + (4 + 2 * (gap_of l) + 2 * length q.entry.pages))) (ap (bytes_at c) (sym e3) ∙ ap bytes_of hurt)
        (subst (λ (o : Option (List ℕ)). Serves (is_end (stamp_at b.epoch q.entry.number) (length q.entry.pages)) o (bytes_at c (place_of l b.third q.at + (4 + 2 * (gap_of l) + 2 * length q.entry.pages)))) (seen c (3 + (gap_of l) + length q.entry.pages) (omega arith))
        (subst (λ (o : Option (List ℕ)). Serves (is_end (stamp_at b.epoch q.entry.number) (length q.entry.pages)) (window (tape l b.third (bytes_at c)) q.at (room_at q.at parts.found.end) (3 + (gap_of l) + length q.entry.pages)) o) (seen c (4 + 2 * (gap_of l) + 2 * length q.entry.pages) (omega arith))
        rows.0)) in
        ap (sector_at c) e4 ∙ whole_of (sector_at c (place_of l b.third q.at + (4 + 2 * (gap_of l) + 2 * length q.entry.pages))) copy.0 copy.1
        ∙ ap (λ (x : List ℕ). Whole x) (sym (same_is (end_bytes (stamp_at b.epoch q.entry.number) (length q.entry.pages)) copy.0 copy.2) ∙ sym row_end ∙ ap (λ (m : ℕ). get_or (rows_of (stamp_at b.epoch q.entry.number) q.entry) m []) (sym is_end_row))
  ]
    where
      rows : Serves (is_end (stamp_at b.epoch q.entry.number) (length q.entry.pages)) (window (tape l b.third (bytes_at c)) q.at (room_at q.at parts.found.end) (3 + (gap_of l) + length q.entry.pages)) (window (tape l b.third (bytes_at c)) q.at (room_at q.at parts.found.end) (4 + 2 * (gap_of l) + 2 * length q.entry.pages))
          × ((j : ℕ) → j < length q.entry.pages → Serves (bears (get_or q.entry.pages j 0) (stamp_at b.epoch q.entry.number)) (window (tape l b.third (bytes_at c)) q.at (room_at q.at parts.found.end) (3 + (gap_of l) + j)) (window (tape l b.third (bytes_at c)) q.at (room_at q.at parts.found.end) (4 + 2 * (gap_of l) + length q.entry.pages + j)))
      rows = serves_of (gap_of l) l.pages (stamp_at b.epoch q.entry.number) (room_at q.at parts.found.end) (window (tape l b.third (bytes_at c)) q.at (room_at q.at parts.found.end)) q.entry
          (subst (λ (m : ℕ). record_in (gap_of l) l.pages (stamp_at b.epoch m) (room_at q.at parts.found.end) (window (tape l b.third (bytes_at c)) q.at (room_at q.at parts.found.end)) ≡ Some q.entry) (sym number_is) looks.1)

      passes_some : (test : List ℕ → Bool) (o : Option (List ℕ)) → passes test o ≡ true → (bytes : List ℕ) × (o ≡ Some bytes) × (test bytes ≡ true)
      passes_some test None is = absurd (cc is)
      passes_some test (Some bytes) is = (bytes, refl, is)

      other_serves : (test : List ℕ → Bool) (a d : Option (List ℕ)) → a ≡ None → Serves test a d → (bytes : List ℕ) × (d ≡ Some bytes) × (test bytes ≡ true)
      other_serves test a d none (inl is) = absurd (let no : passes test a ≡ false = ap (passes test) none in cc (is, no))
      other_serves test a d none (inr is) = passes_some test d is

  -- ---- one copy more, over an image that was worn

  module _ (k : ℕ) (le : k ≤ length q.entry.pages) (i : Image) (worn : IsWorn weak c i) (room : 16 + 3 * l.third ≤ length i)
      (whole : sector_at c (place_of l b.third q.at + (3 + (gap_of l) + k)) ≡ Whole (get_or (rows_of (stamp_at b.epoch q.entry.number) q.entry) k [])) where
    abbrev x : List ℕ
    x = get_or (rows_of (stamp_at b.epoch q.entry.number) q.entry) k []

    abbrev f : ℕ
    f = place_of l b.third q.at + (3 + (gap_of l) + k)

    abbrev s : ℕ
    s = place_of l b.third q.at + (4 + 2 * (gap_of l) + length q.entry.pages + k)

    -- the row's first stands, or its copy does
    abbrev y : Image
    y = with_sector i (place_of l b.third q.at + (3 + (gap_of l) + k)) (get_or (rows_of (stamp_at b.epoch q.entry.number) q.entry) k [])

    abbrev z : Image
    z = with_sector i (place_of l b.third q.at + (4 + 2 * (gap_of l) + length q.entry.pages + k)) (get_or (rows_of (stamp_at b.epoch q.entry.number) q.entry) k [])

    in_log : place_of l b.third q.at + record_len (gap_of l) (length q.entry.pages) ≤ 16 + 3 * l.third
    in_log = place_inside l b.third q.at (record_len (gap_of l) (length q.entry.pages)) is_rec.end is_rec.inside (omega arith)

    f_in : f < length i
    f_in = omega (arith, in_log, room, le)

    s_in : s < length i
    s_in = omega (arith, in_log, room, le)

    y_f : sector_at y f ≡ Whole x
    y_f = with_same i f x f_in

    z_s : sector_at z s ≡ Whole x
    z_s = with_same i s x s_in

    y_other : (p : ℕ) → p ≢ f → sector_at y p ≡ sector_at i p
    y_other p other = with_other i f p x other

    z_other : (p : ℕ) → p ≢ s → sector_at z p ≡ sector_at i p
    z_other p other = with_other i s p x other

    -- they agree elsewhere
    both_agree : (p : ℕ) → p ≢ f → p ≢ s → sector_at z p ≡ sector_at y p
    both_agree p a d = z_other p d ∙ sym (y_other p a)

    pub y_worn : IsWorn weak c y
    y_worn = record {
      size = length-set i f (Whole x) ∙ worn.size;
      each = λ p. ⊎_elim
          (λ here. inl (ap (sector_at y) here ∙ y_f ∙ sym whole ∙ ap (sector_at c) (sym here)))
          (λ other. ⊎_elim (λ same. inl (y_other p other ∙ same)) (λ hurt. inr (hurt.0, y_other p other ∙ hurt.1)) (worn.each p)) (same_or p f);
    }

    i_f : Has weak i x f
    i_f = has_worn weak c i x f worn (inl whole)

    -- ---- places of the tape

    -- a place of the tape lies in the record, or away from it on the disk too
    place_or : (w : ℕ) → w < 3 * l.third → ((m : ℕ) × (m < record_len (gap_of l) (length q.entry.pages)) × (w ≡ q.at + m)) ⊎ ((place_of l b.third w < place_of l b.third q.at) ⊎ (place_of l b.third q.at + record_len (gap_of l) (length q.entry.pages) ≤ place_of l b.third w))
    place_or w within = elim (cases_lt w q.at) [
      | inl below ↦ inr (below_numbers l.third (b.third * l.third) q.at (record_len (gap_of l) (length q.entry.pages)) is_rec.end (place_of l b.third q.at) w (place_of l b.third w) (first_most l b.third by.is.third) (end_most l is_rec.end is_rec.inside.ends) is_rec.inside.to below
          (place_cases l b.third q.at) (place_cases l b.third w))
      | inr from ↦ elim (cases_lt w (q.at + record_len (gap_of l) (length q.entry.pages))) [
        | inl lt ↦ inl (w - q.at, omega (arith, from, lt), omega (arith, from))
        | inr past ↦ inr (above_numbers l.third (b.third * l.third) q.at (record_len (gap_of l) (length q.entry.pages)) (place_of l b.third q.at) w (place_of l b.third w) past within (place_cases l b.third q.at) (place_cases l b.third w))
      ]
    ]

    away : (w : ℕ) → w < 3 * l.third → (w < q.at) ⊎ (q.at + record_len (gap_of l) (length q.entry.pages) ≤ w) → (place_of l b.third w < place_of l b.third q.at) ⊎ (place_of l b.third q.at + record_len (gap_of l) (length q.entry.pages) ≤ place_of l b.third w)
    away w within out = ⊎_elim
        (λ in_record. absurd (⊎_elim (λ lt. omega (arith, lt, in_record.2)) (λ ge. omega (arith, ge, in_record.1, in_record.2)) out))
        (λ apart. apart) (place_or w within)

    tape_at : (w : ℕ) → (w < 3 * l.third → (place_of l b.third w ≢ f) × (place_of l b.third w ≢ s)) → tape l b.third (bytes_at z) w ≡ tape l b.third (bytes_at y) w
    tape_at w ne = elim (cases_lt w (3 * l.third)) [
      | inl lt ↦ on_tape l b.third w (bytes_at z) lt ∙ ap bytes_of (both_agree (place_of l b.third w) (ne lt).0 (ne lt).1) ∙ sym (on_tape l b.third w (bytes_at y) lt)
      | inr past ↦ off_tape l b.third w (bytes_at z) past ∙ sym (off_tape l b.third w (bytes_at y) past)
    ]

    agree : (w : ℕ) → (w < q.at) ⊎ (q.at + record_len (gap_of l) (length q.entry.pages) ≤ w) → tape l b.third (bytes_at z) w ≡ tape l b.third (bytes_at y) w
    agree w out = tape_at w (λ lt. let gone = away w lt out in (
      λ e. ⊎_elim (λ low. omega (arith, low, e)) (λ high. omega (arith, high, e, le)) gone,
      λ e. ⊎_elim (λ low. omega (arith, low, e)) (λ high. omega (arith, high, e, le)) gone,
    ))

    -- ---- what is read of the record

    read_agree : (m : ℕ) → m < record_len (gap_of l) (length q.entry.pages) → m ≢ 3 + (gap_of l) + k → m ≢ 4 + 2 * (gap_of l) + length q.entry.pages + k
        → window (tape l b.third (bytes_at z)) q.at (room_at q.at parts.found.end) m ≡ window (tape l b.third (bytes_at y)) q.at (room_at q.at parts.found.end) m
    read_agree m lt a d = seen z m lt ∙ ap bytes_of (both_agree (place_of l b.third q.at + m) (λ e. a (omega arith)) (λ e. d (omega arith))) ∙ sym (seen y m lt)

    abbrev wz : Reader
    wz = window (tape l b.third (bytes_at z)) q.at (room_at q.at parts.found.end)

    abbrev wy : Reader
    wy = window (tape l b.third (bytes_at y)) q.at (room_at q.at parts.found.end)

    f_not_s : f ≢ s
    f_not_s e = omega arith

    z_first : OrNone x (wz (3 + (gap_of l) + k))
    z_first = subst (OrNone x) (ap bytes_of (sym (z_other f f_not_s)) ∙ sym (seen z (3 + (gap_of l) + k) (omega (arith, le)))) (⊎_elim (λ is. inl (ap bytes_of is)) (λ hurt. inr (ap bytes_of hurt.1)) i_f)

    z_copy : wz (4 + 2 * (gap_of l) + length q.entry.pages + k) ≡ Some x
    z_copy = seen z (4 + 2 * (gap_of l) + length q.entry.pages + k) (omega (arith, le)) ∙ ap bytes_of z_s

    y_first : wy (3 + (gap_of l) + k) ≡ Some x
    y_first = seen y (3 + (gap_of l) + k) (omega (arith, le)) ∙ ap bytes_of y_f

    served_alike : (test : List ℕ → Bool) → test x ≡ true → either_copy test (wz (3 + (gap_of l) + k)) (wz (4 + 2 * (gap_of l) + length q.entry.pages + k)) ≡ either_copy test (wy (3 + (gap_of l) + k)) (wy (4 + 2 * (gap_of l) + length q.entry.pages + k))
    served_alike test ok = copy_serves test x (wz (3 + (gap_of l) + k)) (wz (4 + 2 * (gap_of l) + length q.entry.pages + k)) ok z_first z_copy ∙ sym (first_serves test x (wy (3 + (gap_of l) + k)) (wy (4 + 2 * (gap_of l) + length q.entry.pages + k)) ok y_first)

    image_ok : (j : ℕ) → j < length q.entry.pages → bears (get_or q.entry.pages j 0) (stamp_at b.epoch q.entry.number) (get_or q.entry.images j []) ≡ true
    image_ok j lt = image_bears (stamp_at b.epoch q.entry.number) q.entry.pages q.entry.images read.stamped j lt

    rows_alike : (j : ℕ) → j < length q.entry.pages → either_copy (bears (get_or q.entry.pages j 0) (stamp_at b.epoch q.entry.number)) (wz (3 + (gap_of l) + j)) (wz (4 + 2 * (gap_of l) + length q.entry.pages + j)) ≡ either_copy (bears (get_or q.entry.pages j 0) (stamp_at b.epoch q.entry.number)) (wy (3 + (gap_of l) + j)) (wy (4 + 2 * (gap_of l) + length q.entry.pages + j))
    rows_alike j lt = ⊎_elim
        (λ here.
        let T : ℕ → Type 0 = λ m. either_copy (bears (get_or q.entry.pages j 0) (stamp_at b.epoch q.entry.number)) (wz (3 + (gap_of l) + m)) (wz (4 + 2 * (gap_of l) + length q.entry.pages + m)) ≡ either_copy (bears (get_or q.entry.pages j 0) (stamp_at b.epoch q.entry.number)) (wy (3 + (gap_of l) + m)) (wy (4 + 2 * (gap_of l) + length q.entry.pages + m)) in
        subst T (sym here) (served_alike (bears (get_or q.entry.pages j 0) (stamp_at b.epoch q.entry.number)) (ap (bears (get_or q.entry.pages j 0) (stamp_at b.epoch q.entry.number)) (ap (λ (m : ℕ). get_or (rows_of (stamp_at b.epoch q.entry.number) q.entry) m []) (sym here) ∙ row_image j lt) ∙ image_ok j lt)))
        (λ other. λ u. either_copy (bears (get_or q.entry.pages j 0) (stamp_at b.epoch q.entry.number)) (read_agree (3 + (gap_of l) + j) (omega arith) (λ e. other (omega arith)) (λ e. omega (arith, e, lt)) u) (read_agree (4 + 2 * (gap_of l) + length q.entry.pages + j) (omega arith) (λ e. omega (arith, e, le)) (λ e. other (omega arith)) u))
        (same_or j k)

    end_alike : either_copy (is_end (stamp_at b.epoch q.entry.number) (length q.entry.pages)) (wz (3 + (gap_of l) + length q.entry.pages)) (wz (4 + 2 * (gap_of l) + 2 * length q.entry.pages)) ≡ either_copy (is_end (stamp_at b.epoch q.entry.number) (length q.entry.pages)) (wy (3 + (gap_of l) + length q.entry.pages)) (wy (4 + 2 * (gap_of l) + 2 * length q.entry.pages))
    end_alike = ⊎_elim
        (λ here.
        let T : ℕ → ℕ → Type 0 = λ m d. either_copy (is_end (stamp_at b.epoch q.entry.number) (length q.entry.pages)) (wz (3 + (gap_of l) + m)) (wz d) ≡ either_copy (is_end (stamp_at b.epoch q.entry.number) (length q.entry.pages)) (wy (3 + (gap_of l) + m)) (wy d) in
        let twice : 4 + 2 * (gap_of l) + length q.entry.pages + k ≡ 4 + 2 * (gap_of l) + 2 * length q.entry.pages = omega (arith, here) in
        subst (λ (m : ℕ). T m (4 + 2 * (gap_of l) + 2 * length q.entry.pages)) (sym here) (subst (T k) twice (served_alike (is_end (stamp_at b.epoch q.entry.number) (length q.entry.pages))
        (ap (is_end (stamp_at b.epoch q.entry.number) (length q.entry.pages)) (ap (λ (m : ℕ). get_or (rows_of (stamp_at b.epoch q.entry.number) q.entry) m []) (sym here) ∙ row_end) ∙ is_same (end_bytes (stamp_at b.epoch q.entry.number) (length q.entry.pages))))))
        (λ other. λ u. either_copy (is_end (stamp_at b.epoch q.entry.number) (length q.entry.pages)) (read_agree (3 + (gap_of l) + length q.entry.pages) (omega arith) (λ e. other (omega arith)) (λ e. omega (arith, e, le)) u) (read_agree (4 + 2 * (gap_of l) + 2 * length q.entry.pages) (omega arith) (λ e. omega (arith, e, le)) (λ e. other (omega arith)) u))
        (same_or (length q.entry.pages) k)

    header_y : (m : ℕ) → m < record_len (gap_of l) (length q.entry.pages) → Has weak c (header_bytes (stamp_at b.epoch q.entry.number) q.entry.pages) (place_of l b.third q.at + m) → OrNone (header_bytes (stamp_at b.epoch q.entry.number) q.entry.pages) (wy m)
    header_y m lt has = subst (OrNone (header_bytes (stamp_at b.epoch q.entry.number) q.entry.pages)) (sym (seen y m lt)) (⊎_elim (λ is. inl (ap bytes_of is)) (λ hurt. inr (ap bytes_of hurt.1)) (has_worn weak c y _ _ y_worn has))

    header_0 : OrNone (header_bytes (stamp_at b.epoch q.entry.number) q.entry.pages) (wy 0)
    header_0 = header_y 0 (omega arith) (subst (Has weak c _) (let e : place_of l b.third q.at ≡ place_of l b.third q.at + 0 = omega arith in e) last_front.header)

    header_2 : OrNone (header_bytes (stamp_at b.epoch q.entry.number) q.entry.pages) (wy (2 + gap_of l))
    header_2 = header_y (2 + gap_of l) (omega arith) last_front.header_copy

    reads_alike : record_in (gap_of l) l.pages (stamp_at b.epoch q.entry.number) (room_at q.at parts.found.end) wz ≡ record_in (gap_of l) l.pages (stamp_at b.epoch q.entry.number) (room_at q.at parts.found.end) wy
    reads_alike = same_record (gap_of l) l.pages small (stamp_at b.epoch q.entry.number) q.entry read (room_at q.at parts.found.end) wy header_0 header_2 wz
        (read_agree 0 (omega arith) (λ e. omega (arith, e)) (λ e. omega (arith, e))) (read_agree (2 + gap_of l) (omega arith) (λ e. omega (arith, e)) (λ e. omega (arith, e))) rows_alike end_alike

    rows_part : (j : ℕ) → j < length q.entry.pages → (either_copy (bears (get_or q.entry.pages j 0) (stamp_at b.epoch q.entry.number)) (wy (3 + (gap_of l) + j)) (wy (4 + 2 * (gap_of l) + length q.entry.pages + j)) ≡ None)
        ⊎ (either_copy (bears (get_or q.entry.pages j 0) (stamp_at b.epoch q.entry.number)) (wy (3 + (gap_of l) + j)) (wy (4 + 2 * (gap_of l) + length q.entry.pages + j)) ≡ Some (get_or q.entry.images j []))
    rows_part j lt = serves_part (bears (get_or q.entry.pages j 0) (stamp_at b.epoch q.entry.number)) (get_or q.entry.images j []) (wy (3 + (gap_of l) + j)) (wy (4 + 2 * (gap_of l) + length q.entry.pages + j)) (image_ok j lt)
        (subst (OrNone (get_or q.entry.images j [])) (sym (seen y (3 + (gap_of l) + j) (omega arith))) (⊎_elim (λ is. inl (ap bytes_of is)) (λ hurt. inr (ap bytes_of hurt.1))
        (has_worn weak c y _ _ y_worn (subst (λ (r : List ℕ). Has weak c r (place_of l b.third q.at + (3 + (gap_of l) + j))) (row_image j lt) (row_has j (omega arith))))))
        (λ bytes is ok.
        let stands : sector_at c (place_of l b.third q.at + (4 + 2 * (gap_of l) + length q.entry.pages + j)) ≡ Whole bytes = worn_whole weak c y (place_of l b.third q.at + (4 + 2 * (gap_of l) + length q.entry.pages + j)) bytes y_worn (whole_of (sector_at y (place_of l b.third q.at + (4 + 2 * (gap_of l) + length q.entry.pages + j))) bytes (sym (seen y (4 + 2 * (gap_of l) + length q.entry.pages + j) (omega arith)) ∙ is)) in
        let e : place_of l b.third q.at + (4 + 2 * (gap_of l) + length q.entry.pages) + j ≡ place_of l b.third q.at + (4 + 2 * (gap_of l) + length q.entry.pages + j) = omega arith in
        good_at l b weak c _ _ q.entry.pages q.entry.images last_good j lt bytes (ap (sector_at c) e ∙ stands) ok)

    part_y : (record_in (gap_of l) l.pages (stamp_at b.epoch q.entry.number) (room_at q.at parts.found.end) wy ≡ None) ⊎ (record_in (gap_of l) l.pages (stamp_at b.epoch q.entry.number) (room_at q.at parts.found.end) wy ≡ Some q.entry)
    part_y = record_part (gap_of l) l.pages small (stamp_at b.epoch q.entry.number) q.entry read (room_at q.at parts.found.end) wy header_0 header_2 rows_part

    -- ---- the scans

    less_y : (w : ℕ) → (tape l b.third (bytes_at y) w ≡ tape l b.third (bytes_at c) w) ⊎ (tape l b.third (bytes_at y) w ≡ None)
    less_y = tape_less l small b by.is.epoch by.is.third weak apart c y y_worn

    goes_y : Goes l b.epoch (tape l b.third (bytes_at y)) (start l b.first) by.front parts.mid
    goes_y = goes_again l small b.epoch by.is.epoch (tape l b.third (bytes_at c)) (tape l b.third (bytes_at y)) less_y (start l b.first) by.front parts.mid
        (all_read l small b by.is.epoch by.is.third weak apart c y y_worn (start l b.first) by.front parts.mid (start_in l b.first) parts.goes (laid_parts l b weak c by.front q by.laid).0) parts.goes

    pub x_bears : borne_by x ≡ Some (stamp_at b.epoch q.entry.number)
    x_bears = rows_bear (stamp_at b.epoch q.entry.number) q.entry.pages q.entry.images (end_bytes (stamp_at b.epoch q.entry.number) (length q.entry.pages)) read.stamped
        (end_bears (stamp_at b.epoch q.entry.number) (record { epoch = by.is.epoch; number = omega (arith, looks.0, number_is) }) (length q.entry.pages)) k (omega (arith, rows_many, le))

    foreign_row : (m : ℕ) → m < parts.mid.number → Foreign (stamp_at b.epoch m) (Some x)
    foreign_row m lt bears = let same = two_stamps b.epoch m q.entry.number x bears x_bears in omega (arith, same, number_is, lt)

    foreign_at : (w m : ℕ) → m < parts.mid.number → (tape l b.third (bytes_at z) w ≡ tape l b.third (bytes_at y) w) ⊎ Foreign (stamp_at b.epoch m) (tape l b.third (bytes_at z) w)
    foreign_at w m lt = elim (cases_lt w (3 * l.third)) [
      | inr past ↦ inl (off_tape l b.third w (bytes_at z) past ∙ sym (off_tape l b.third w (bytes_at y) past))
      | inl within ↦ ⊎_elim
          (λ at_f. inr (subst (Foreign (stamp_at b.epoch m)) (sym (on_tape l b.third w (bytes_at z) within ∙ ap (bytes_at z) at_f ∙ ap bytes_of (z_other f f_not_s)))
          (⊎_elim (λ is. subst (Foreign (stamp_at b.epoch m)) (ap bytes_of (sym is)) (foreign_row m lt)) (λ hurt. subst (Foreign (stamp_at b.epoch m)) (ap bytes_of (sym hurt.1)) (none_foreign (stamp_at b.epoch m))) i_f)))
          (λ not_f. ⊎_elim
          (λ at_s. inr (subst (Foreign (stamp_at b.epoch m)) (sym (on_tape l b.third w (bytes_at z) within ∙ ap (bytes_at z) at_s ∙ ap bytes_of z_s)) (foreign_row m lt)))
          (λ not_s. inl (tape_at w (λ _. (not_f, not_s)))) (same_or (place_of l b.third w) s)) (same_or (place_of l b.third w) f)
    ]

    pub alike : ScansAlike l b.epoch b.first (tape l b.third (bytes_at z)) (tape l b.third (bytes_at y)) q
    alike = scans_alike l b.epoch b.first by.is.epoch (tape l b.third (bytes_at z)) (tape l b.third (bytes_at y)) by.front parts.mid goes_y looks.0 q parts.found.end
        (⊎_elim (λ here. inl here) (λ there. inr ((there.enters, there.at_start, there.in_third), here_less l small b.epoch by.is.epoch (tape l b.third (bytes_at c)) (tape l b.third (bytes_at y)) less_y parts.mid.number parts.mid.at parts.mid.end there.none)) parts.found.place)
        long agree foreign_at
        (subst (λ (m : ℕ). record_in (gap_of l) l.pages (stamp_at b.epoch m) (room_at q.at parts.found.end) wz ≡ record_in (gap_of l) l.pages (stamp_at b.epoch m) (room_at q.at parts.found.end) wy) number_is reads_alike)
        (subst (λ (m : ℕ). (record_in (gap_of l) l.pages (stamp_at b.epoch m) (room_at q.at parts.found.end) wy ≡ None) ⊎ (record_in (gap_of l) l.pages (stamp_at b.epoch m) (room_at q.at parts.found.end) wy ≡ Some q.entry)) number_is part_y)

    pub same_records : records_by l z b ≡ records_by l y b
    same_records = ap (λ w. w.records) alike.same

    -- ---- what stands of each record

    apart_same : (p : Placed) (is : IsRecord l b.third p) → (p.at + record_len (gap_of l) (length p.entry.pages) ≤ q.at) ⊎ (q.at + record_len (gap_of l) (length q.entry.pages) ≤ p.at)
        → (m : ℕ) → m < record_len (gap_of l) (length p.entry.pages) → sector_at z (place_of l b.third p.at + m) ≡ sector_at y (place_of l b.third p.at + m)
    apart_same p is out m lt =
        let at : place_of l b.third (p.at + m) ≡ place_of l b.third p.at + m = place_add l b.third p.at (record_len (gap_of l) (length p.entry.pages)) is.end m is.inside lt in
        let within : p.at + m < 3 * l.third = omega (arith, is.inside.to, end_most l is.end is.inside.ends, lt) in
        let gone = away (p.at + m) within (⊎_elim (λ low. inl (omega (arith, low, lt))) (λ high. inr (omega (arith, high))) out) in
        subst (λ (d : ℕ). sector_at z d ≡ sector_at y d) at
        (both_agree (place_of l b.third (p.at + m)) (λ e. ⊎_elim (λ low. omega (arith, low, e)) (λ high. omega (arith, high, e, le)) gone) (λ e. ⊎_elim (λ low. omega (arith, low, e)) (λ high. omega (arith, high, e, le)) gone))

    carries_it : Carries l b weak y z q
    carries_it = record {
      front = λ front. record {
        header = has_same l b weak y z _ _ (both_agree (place_of l b.third q.at) (λ e. omega (arith, e)) (λ e. omega (arith, e))) front.header;
        header_copy = has_same l b weak y z _ _ (both_agree (place_of l b.third q.at + (2 + (gap_of l))) (λ e. omega (arith, e)) (λ e. omega (arith, e))) front.header_copy;
        pages = stand_from l b weak z (place_of l b.third q.at + 3 + (gap_of l)) (rows_of (stamp_at b.epoch q.entry.number) q.entry) (λ m lt. ⊎_elim
            (λ here.
            let e : f ≡ place_of l b.third q.at + 3 + (gap_of l) + m = omega (arith, here) in
            subst (Has weak z _) e (subst (λ (j : ℕ). Has weak z (get_or (rows_of (stamp_at b.epoch q.entry.number) q.entry) j []) f) (sym here) (has_same l b weak i z x f (z_other f f_not_s) i_f)))
            (λ other. has_same l b weak y z _ _ (both_agree (place_of l b.third q.at + 3 + (gap_of l) + m) (λ e. other (omega (arith, e))) (λ e. omega (arith, e, lt, rows_many))) (stand_at l b weak y _ _ front.pages m lt))
            (same_or m k));
      };
      copies = λ copies. stand_from l b weak z (place_of l b.third q.at + (4 + 2 * (gap_of l) + length q.entry.pages)) (rows_of (stamp_at b.epoch q.entry.number) q.entry) (λ m lt. ⊎_elim
          (λ here.
          let e : s ≡ place_of l b.third q.at + (4 + 2 * (gap_of l) + length q.entry.pages) + m = omega (arith, here) in
          subst (Has weak z _) e (subst (λ (j : ℕ). Has weak z (get_or (rows_of (stamp_at b.epoch q.entry.number) q.entry) j []) s) (sym here) (inl z_s)))
          (λ other. has_same l b weak y z _ _ (both_agree (place_of l b.third q.at + (4 + 2 * (gap_of l) + length q.entry.pages) + m) (λ e. omega (arith, e, le)) (λ e. other (omega (arith, e)))) (stand_at l b weak y _ _ copies m lt))
          (same_or m k));
      good = λ good. good_from l b weak z _ (place_of l b.third q.at + (4 + 2 * (gap_of l) + length q.entry.pages)) q.entry.pages q.entry.images many (λ m lt bytes is ok. ⊎_elim
          (λ here.
          let e : s ≡ place_of l b.third q.at + (4 + 2 * (gap_of l) + length q.entry.pages) + m = omega (arith, here) in
          one_bytes (sector_at z s) bytes (get_or q.entry.images m []) (ap (sector_at z) e ∙ is) (z_s ∙ ap (λ (r : List ℕ). Whole r) (ap (λ (j : ℕ). get_or (rows_of (stamp_at b.epoch q.entry.number) q.entry) j []) (sym here) ∙ row_image m lt)))
          (λ other. good_at l b weak y _ _ q.entry.pages q.entry.images good m lt bytes
          (sym (both_agree (place_of l b.third q.at + (4 + 2 * (gap_of l) + length q.entry.pages) + m) (λ e. omega (arith, e, le)) (λ e. other (omega (arith, e)))) ∙ is) ok)
          (same_or m k));
    }
      where
        one_bytes : (d : Sector) (u v : List ℕ) → d ≡ Whole u → d ≡ Whole v → u ≡ v
        one_bytes d u v du dv = let e : Whole u ≡ Whole v = sym du ∙ dv in cc

    carries : (p : Placed) → IsRecord l b.third p → IsApartFrom (gap_of l) q p → Carries l b weak y z p
    carries p is (inl out) = record {
      front = λ front. front_same l b weak y z p is (apart_same p is out) front;
      copies = λ copies. copies_same l b weak y z p is (apart_same p is out) copies;
      good = λ good. good_copies_same l b weak y z p is (apart_same p is out) good;
    }
    carries p is (inr same) = subst (Carries l b weak y z) (λ u. record { at = sym same.0 u; entry = sym same.1 u }) carries_it

    all_carry : (rs : List Placed) → AllByRecursion (IsRecord l b.third) rs → AllByRecursion (IsApartFrom (gap_of l) q) rs → AllByRecursion (Carries l b weak y z) rs
    all_carry [] are apart = tt
    all_carry (p ∷ rs) are apart = (carries p are.0 apart.0, all_carry rs are.1 apart.1)

    pub laid_still : IsLaid l b weak y (records_by l y b) → IsLaid l b weak z (records_by l z b)
    laid_still laid = subst (IsLaid l b weak z) (sym same_records) (laid_on l b weak y z (records_by l y b) (all_carry (records_by l y b) (scan_records l y b by.is.third) alike.apart) laid)
