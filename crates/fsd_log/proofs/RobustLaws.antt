-- Records that were laid whole are found again, however a narrow run wears.
use Rattle.std.proofs.Common.{◌≡◌, ◌⊎◌, inl, inr, ⊎_elim, ℕ, zero, suc, ◌+◌, ◌*◌, ◌^◌, ◌<◌, ◌≤◌, Bool, true, false, cond, ◌&&◌, List, [], ◌∷◌, ◌++◌, length, get_or, Option, Some, None, nat_lt, nat_le, refl, sym, ap, subst, ◌∙◌, arith}
use Rattle.std.specs.Prelude.{option_map, option_and_then, is_some}
use Rattle.std.specs.List.{AllByRecursion}
use Rattle.std.specs.Option.{option_or}
use Rattle.std.proofs.lemmas.Bool.{cases_lt, cond-true, lt-ltb, le-leb}
use Rattle.volume_layout.specs.Shape.{Shape}
use Rattle.volume_layout.specs.Kinds.{gap_of}
use Rattle.fsd_bytes.proofs.SameLaws.{is_same}
use Rattle.fsd_formats.specs.Record.{Stamp, header_bytes, end_bytes, read_header, is_end, bears, AreStamped, record_len}
use Rattle.fsd_formats.proofs.PageLaws.{header_is_read}
use Rattle.fsd_log.specs.Judged.{Reader, Logged, record_in}
use Rattle.fsd_log.specs.Plain.{served, either_copy, images_at, record_with, record_by}
use Rattle.fsd_log.specs.Borne.{Foreign}
use Rattle.fsd_log.specs.Scan.{last_number, Head, Placed, IsIn, room_at, window, record_here, behind, next, scan, start}
use Rattle.fsd_log.proofs.AppendLaws.{none_foreign}
use Rattle.fsd_log.proofs.JudgedLaws.{record_less, record_room, or_none, map_none}
use Rattle.fsd_log.proofs.PlainLaws.{record_same}
use Rattle.fsd_log.proofs.TornLaws.{are_few}
use Rattle.fsd_log.proofs.HereLaws.{here_looks, here_last, here_none, here_some}
use Rattle.fsd_log.proofs.WalkLaws.{stamp_of, IsFound, Goes, goes_of_walk, end_of_walk, walk_of_goes}
use Rattle.fsd_log.proofs.RecordFacts.{IsReadAs, read_as, pages_small, length-stamped}

-- ---- one record

-- it reads as this, or as nothing
abbrev pub OrNone : List ℕ → Option (List ℕ) → Type 0
OrNone bytes o = (o ≡ Some bytes) ⊎ (o ≡ None)

-- the record's pages and its end
abbrev pub rows_of : Stamp → Logged → List (List ℕ)
rows_of stamp r = r.images ++ end_bytes stamp (length r.pages) ∷ []

-- each sector of the record reads as it was laid or as nothing, and of it and its copy one stands
pub record ReadsRows (gap : ℕ) (stamp : Stamp) (r : Logged) (at : Reader) : Type 0 where
  pub header : OrNone (header_bytes stamp r.pages) (at 0)
  pub header_copy : OrNone (header_bytes stamp r.pages) (at (2 + gap))
  pub headers : (at 0 ≡ Some (header_bytes stamp r.pages)) ⊎ (at (2 + gap) ≡ Some (header_bytes stamp r.pages))
  pub row : (k : ℕ) → k ≤ length r.pages → OrNone (get_or (rows_of stamp r) k []) (at (3 + gap + k))
  pub copy : (k : ℕ) → k ≤ length r.pages → OrNone (get_or (rows_of stamp r) k []) (at (4 + 2 * gap + length r.pages + k))
  pub one : (k : ℕ) → k ≤ length r.pages → (at (3 + gap + k) ≡ Some (get_or (rows_of stamp r) k [])) ⊎ (at (4 + 2 * gap + length r.pages + k) ≡ Some (get_or (rows_of stamp r) k []))

pub length_more : (xs : List (List ℕ)) (x : List ℕ) → length (xs ++ x ∷ []) ≡ length xs + 1
length_more [] x = refl
length_more (y ∷ xs) x = ap suc (length_more xs x) ∙ omega arith

pub get_left : (xs : List (List ℕ)) (x : List ℕ) (k : ℕ) → k < length xs → get_or (xs ++ x ∷ []) k [] ≡ get_or xs k []
get_left [] x k lt = absurd (omega arith)
get_left (y ∷ xs) x zero lt = refl
get_left (y ∷ xs) x (suc k) lt = get_left xs x k (omega arith)

pub get_last : (xs : List (List ℕ)) (x : List ℕ) → get_or (xs ++ x ∷ []) (length xs) [] ≡ x
get_last [] x = refl
get_last (y ∷ xs) x = get_last xs x

pub served_some : (test : List ℕ → Bool) (x : List ℕ) (o : Option (List ℕ)) → test x ≡ true → o ≡ Some x → served test o ≡ Some x
served_some test x o ok is = ap (served test) is ∙ cond-true (test x) (Some x) None ok

-- of two copies that read so, one of which stands, the bytes
either_is : (test : List ℕ → Bool) (x : List ℕ) (a c : Option (List ℕ)) → test x ≡ true → OrNone x a → OrNone x c → (a ≡ Some x) ⊎ (c ≡ Some x) → either_copy test a c ≡ Some x
either_is test x a c ok (inl is) lc one = ap (λ (o : Option (List ℕ)). option_or o (served test c)) (served_some test x a ok is)
either_is test x a c ok (inr none) lc (inl is) = absurd (cc (none, is))
either_is test x a c ok (inr none) lc (inr is) = ap (λ (o : Option (List ℕ)). option_or (served test o) (served test c)) none ∙ served_some test x c ok is

images_are : (stamp : Stamp) (at : Reader) (k c : ℕ) (pages : List ℕ) (images : List (List ℕ)) → AreStamped stamp pages images
    → ((j : ℕ) → j < length pages → either_copy (bears (get_or pages j 0) stamp) (at (k + j)) (at (c + j)) ≡ Some (get_or images j [])) → images_at stamp at k c pages ≡ Some images
images_are stamp at k c [] [] stamped each = refl
images_are stamp at k c [] (image ∷ images) stamped each = absurd stamped
images_are stamp at k c (page ∷ pages) [] stamped each = absurd stamped
images_are stamp at k c (page ∷ pages) (image ∷ images) stamped each =
    let k0 : k ≡ k + 0 = omega arith in
    let c0 : c ≡ c + 0 = omega arith in
    let here : either_copy (bears page stamp) (at k) (at c) ≡ Some image = (λ i. either_copy (bears page stamp) (at (k0 i)) (at (c0 i))) ∙ each 0 (omega arith) in
    let rest = images_are stamp at (k + 1) (c + 1) pages images stamped.1
    (λ j lt.
    let kj : (k + 1) + j ≡ k + suc j = omega arith in
    let cj : (c + 1) + j ≡ c + suc j = omega arith in
    (λ i. either_copy (bears (get_or pages j 0) stamp) (at (kj i)) (at (cj i))) ∙ each (suc j) (omega arith)) in
    (λ i. option_and_then (λ image. option_map (λ more. image ∷ more) (rest i)) (here i))

pub image_bears : (stamp : Stamp) (pages : List ℕ) (images : List (List ℕ)) → AreStamped stamp pages images → (j : ℕ) → j < length pages → bears (get_or pages j 0) stamp (get_or images j []) ≡ true
image_bears stamp [] images stamped j lt = absurd (omega arith)
image_bears stamp (page ∷ pages) [] stamped j lt = absurd stamped
image_bears stamp (page ∷ pages) (image ∷ images) stamped zero lt = stamped.0
image_bears stamp (page ∷ pages) (image ∷ images) stamped (suc j) lt = image_bears stamp pages images stamped.1 j (omega arith)

module _ (gap : ℕ) (p : ℕ) (small : p ≤ 2 ^ 32) (stamp : Stamp) (r : Logged) (is : IsReadAs p stamp r) (room : ℕ) (long : record_len gap (length r.pages) ≤ room) (at : Reader) (reads : ReadsRows gap stamp r at) where
  many : length r.images ≡ length r.pages
  many = length-stamped stamp r.pages r.images is.stamped

  image_either : (j : ℕ) → j < length r.pages → either_copy (bears (get_or r.pages j 0) stamp) (at (3 + gap + j)) (at (4 + 2 * gap + length r.pages + j)) ≡ Some (get_or r.images j [])
  image_either j lt =
      let same = get_left r.images (end_bytes stamp (length r.pages)) j (omega (arith, many)) in
      either_is (bears (get_or r.pages j 0) stamp) (get_or r.images j []) (at (3 + gap + j)) (at (4 + 2 * gap + length r.pages + j)) (image_bears stamp r.pages r.images is.stamped j lt)
      (subst (λ (x : List ℕ). OrNone x (at (3 + gap + j))) same (reads.row j (omega arith)))
      (subst (λ (x : List ℕ). OrNone x (at (4 + 2 * gap + length r.pages + j))) same (reads.copy j (omega arith)))
      (subst (λ (x : List ℕ). (at (3 + gap + j) ≡ Some x) ⊎ (at (4 + 2 * gap + length r.pages + j) ≡ Some x)) same (reads.one j (omega arith)))

  end_either : either_copy (is_end stamp (length r.pages)) (at (3 + gap + length r.pages)) (at (4 + 2 * gap + 2 * length r.pages)) ≡ Some (end_bytes stamp (length r.pages))
  end_either =
      let same : get_or (rows_of stamp r) (length r.pages) [] ≡ end_bytes stamp (length r.pages) = ap (λ (k : ℕ). get_or (rows_of stamp r) k []) (sym many) ∙ get_last r.images (end_bytes stamp (length r.pages)) in
      let twice : 4 + 2 * gap + length r.pages + length r.pages ≡ 4 + 2 * gap + 2 * length r.pages = omega arith in
      let copy : OrNone (end_bytes stamp (length r.pages)) (at (4 + 2 * gap + length r.pages + length r.pages)) = subst (λ (x : List ℕ). OrNone x (at (4 + 2 * gap + length r.pages + length r.pages))) same (reads.copy (length r.pages) (omega arith)) in
      let one : (at (3 + gap + length r.pages) ≡ Some (end_bytes stamp (length r.pages))) ⊎ (at (4 + 2 * gap + length r.pages + length r.pages) ≡ Some (end_bytes stamp (length r.pages))) =
      subst (λ (x : List ℕ). (at (3 + gap + length r.pages) ≡ Some x) ⊎ (at (4 + 2 * gap + length r.pages + length r.pages) ≡ Some x)) same (reads.one (length r.pages) (omega arith)) in
      either_is (is_end stamp (length r.pages)) (end_bytes stamp (length r.pages)) (at (3 + gap + length r.pages)) (at (4 + 2 * gap + 2 * length r.pages)) (is_same (end_bytes stamp (length r.pages)))
      (subst (λ (x : List ℕ). OrNone x (at (3 + gap + length r.pages))) same (reads.row (length r.pages) (omega arith)))
      (subst (λ (k : ℕ). OrNone (end_bytes stamp (length r.pages)) (at k)) twice copy)
      (subst (λ (k : ℕ). (at (3 + gap + length r.pages) ≡ Some (end_bytes stamp (length r.pages))) ⊎ (at k ≡ Some (end_bytes stamp (length r.pages)))) twice one)

  with_pages : record_with gap stamp room at r.pages ≡ Some r
  with_pages =
      (λ i. cond (nat_le (record_len gap (length r.pages)) room && is_some (end_either i)) (option_map (λ images. record { number = stamp.number; pages = r.pages; images = images }) (images_all i)) None)
      ∙ ap (λ (b : Bool). cond (b && true) (Some (record { number = stamp.number; pages = r.pages; images = r.images })) None) (le-leb (record_len gap (length r.pages)) room long)
      ∙ λ i. Some (record { number = sym is.number i; pages = r.pages; images = r.images })
    where
      images_all : images_at stamp at (3 + gap) (4 + 2 * gap + length r.pages) r.pages ≡ Some r.images
      images_all = images_are stamp at (3 + gap) (4 + 2 * gap + length r.pages) r.pages r.images is.stamped image_either

  by_header : (k : ℕ) → at k ≡ Some (header_bytes stamp r.pages) → record_by gap p stamp room at k ≡ Some r
  by_header k stands =
      ap (λ (o : Option (List ℕ)). option_and_then (record_with gap stamp room at) (option_and_then (read_header p stamp) o)) stands
      ∙ ap (option_and_then (record_with gap stamp room at)) (header_is_read p stamp r.pages is.accepted (pages_small p r.pages small is.accepted) (omega (arith, are_few p r.pages is.accepted)))
      ∙ with_pages

  by_none : (k : ℕ) → at k ≡ None → record_by gap p stamp room at k ≡ None
  by_none k none = ap (λ (o : Option (List ℕ)). option_and_then (record_with gap stamp room at) (option_and_then (read_header p stamp) o)) none

  pub rows_there : record_in gap p stamp room at ≡ Some r
  rows_there = sym (record_same gap p stamp room at) ∙ by_first reads.header reads.headers
    where
      by_first : OrNone (header_bytes stamp r.pages) (at 0) → (at 0 ≡ Some (header_bytes stamp r.pages)) ⊎ (at (2 + gap) ≡ Some (header_bytes stamp r.pages)) → option_or (record_by gap p stamp room at 0) (record_by gap p stamp room at (2 + gap)) ≡ Some r
      by_first (inl stands) one = ap (λ (o : Option Logged). option_or o (record_by gap p stamp room at (2 + gap))) (by_header 0 stands)
      by_first (inr none) (inl stands) = absurd (cc (none, stands))
      by_first (inr none) (inr stands) = ap (λ (o : Option Logged). option_or o (record_by gap p stamp room at (2 + gap))) (by_none 0 none) ∙ by_header (2 + gap) stands

-- ---- the scan

cond_none : {A B C : Type 0} (b : Bool) (f : A → C) (g : B → C) (x : Option A) (y : Option B) → (x ≡ None → y ≡ None) → cond b (option_map f x) None ≡ None → cond b (option_map g y) None ≡ None
cond_none false f g x y less none = refl
cond_none true f g x y less none = ap (option_map g) (less (map_none f x none))

pub next_less : (l : Shape) (epoch : ℕ) (old new : Reader) (h : Head) → ((at end : ℕ) → record_here l epoch old h.number at end ≡ None → record_here l epoch new h.number at end ≡ None) → next l epoch old h ≡ None → next l epoch new h ≡ None
next_less l epoch old new h less none =
    let enters : Bool = nat_lt 0 h.at && nat_lt h.end (3 * l.third) in
    let parts = or_none (option_map (behind (gap_of l) h.number h.at h.end) (record_here l epoch old h.number h.at h.end)) (cond enters (option_map (behind (gap_of l) h.number h.end (h.end + l.third)) (record_here l epoch old h.number h.end (h.end + l.third))) None) none in
    let here : record_here l epoch new h.number h.at h.end ≡ None = less h.at h.end (map_none (behind (gap_of l) h.number h.at h.end) (record_here l epoch old h.number h.at h.end) parts.0) in
    let there : cond enters (option_map (behind (gap_of l) h.number h.end (h.end + l.third)) (record_here l epoch new h.number h.end (h.end + l.third))) None ≡ None =
    cond_none enters (behind (gap_of l) h.number h.end (h.end + l.third)) (behind (gap_of l) h.number h.end (h.end + l.third)) (record_here l epoch old h.number h.end (h.end + l.third)) (record_here l epoch new h.number h.end (h.end + l.third)) (less h.end (h.end + l.third)) parts.1 in
    (λ i. option_or (option_map (behind (gap_of l) h.number h.at h.end) (here i)) (cond enters (option_map (behind (gap_of l) h.number h.end (h.end + l.third)) (record_here l epoch new h.number h.end (h.end + l.third))) None))
    ∙ there

-- the record reads as it was laid, from its place on
abbrev pub StandsOn : (gap : ℕ) → ℕ → Reader → Placed → Type 0
StandsOn gap epoch tape r = ReadsRows gap (stamp_of epoch r.entry.number) r.entry (λ k. tape (r.at + k))

module _ (l : Shape) (small : l.pages ≤ 2 ^ 32) (epoch : ℕ) (fits : epoch < 2 ^ 32) (old new : Reader) (less : (w : ℕ) → (new w ≡ old w) ⊎ (new w ≡ None)) where
  -- what isn't there is not there in the worn one
  pub here_less : (number at end : ℕ) → record_here l epoch old number at end ≡ None → record_here l epoch new number at end ≡ None
  here_less number at end none = elim (cases_lt number last_number) [
    | inr past ↦ here_last l epoch new number at end past
    | inl lt ↦ here_none l epoch new number at end
        (record_less (gap_of l) l.pages (stamp_of epoch number) (record { epoch = fits; number = omega arith }) (room_at at end) (window old at (room_at at end)) (window new at (room_at at end))
        (record { each = λ k. window_less k (nat_lt k (room_at at end)) }) (sym (here_looks l epoch old number at end lt) ∙ none))
  ]
    where
      window_less : (k : ℕ) (b : Bool) → (cond b (new (at + k)) None ≡ cond b (old (at + k)) None) ⊎ Foreign (stamp_of epoch number) (cond b (new (at + k)) None)
      window_less k true = ⊎_elim (λ same. inl same) (λ none. inr (subst (Foreign (stamp_of epoch number)) (sym none) (none_foreign (stamp_of epoch number)))) (less (at + k))
      window_less k false = inl refl

  pub found_again : (h : Head) (r : Placed) (h1 : Head) → StandsOn (gap_of l) epoch new r → IsFound l epoch old h r h1 → IsFound l epoch new h r h1
  found_again h r h1 stands is = record {
    end = is.end;
    place = ⊎_elim (λ here. inl here) (λ there. inr (record { none = here_less h.number h.at h.end there.none; enters = there.enters; at_start = there.at_start; in_third = there.in_third })) is.place;
    found = here_looks l epoch new h.number r.at is.end looks.0
        ∙ rows_there (gap_of l) l.pages small (stamp_of epoch h.number) r.entry read (room_at r.at is.end) long (window new r.at (room_at r.at is.end)) reads;
    goes_on = is.goes_on;
  }
    where
      looks : (h.number < last_number) × (record_in (gap_of l) l.pages (stamp_of epoch h.number) (room_at r.at is.end) (window old r.at (room_at r.at is.end)) ≡ Some r.entry)
      looks = here_some l epoch old h.number r.at is.end r.entry is.found

      read : IsReadAs l.pages (stamp_of epoch h.number) r.entry
      read = read_as (gap_of l) l.pages (stamp_of epoch h.number) (room_at r.at is.end) (window old r.at (room_at r.at is.end)) r.entry looks.1

      long : record_len (gap_of l) (length r.entry.pages) ≤ room_at r.at is.end
      long = record_room (gap_of l) l.pages (stamp_of epoch h.number) (room_at r.at is.end) (window old r.at (room_at r.at is.end)) r.entry looks.1

      seen : (k : ℕ) → k < record_len (gap_of l) (length r.entry.pages) → new (r.at + k) ≡ window new r.at (room_at r.at is.end) k
      seen k lt = sym (cond-true (nat_lt k (room_at r.at is.end)) (new (r.at + k)) None (lt-ltb k (room_at r.at is.end) (omega (arith, long))))

      at_stamp : ReadsRows (gap_of l) (stamp_of epoch h.number) r.entry (λ k. new (r.at + k))
      at_stamp = subst (λ (m : ℕ). ReadsRows (gap_of l) (stamp_of epoch m) r.entry (λ k. new (r.at + k))) read.number stands

      reads : ReadsRows (gap_of l) (stamp_of epoch h.number) r.entry (window new r.at (room_at r.at is.end))
      reads = record {
        header = subst (OrNone _) (seen 0 (omega arith)) at_stamp.header;
        header_copy = subst (OrNone _) (seen (2 + gap_of l) (omega arith)) at_stamp.header_copy;
        headers = ⊎_elim (λ x. inl (sym (seen 0 (omega arith)) ∙ x)) (λ x. inr (sym (seen (2 + gap_of l) (omega arith)) ∙ x)) at_stamp.headers;
        row = λ k le. subst (OrNone _) (seen (3 + (gap_of l) + k) (omega arith)) (at_stamp.row k le);
        copy = λ k le. subst (OrNone _) (seen (4 + 2 * (gap_of l) + length r.entry.pages + k) (omega arith)) (at_stamp.copy k le);
        one = λ k le. ⊎_elim (λ x. inl (sym (seen (3 + (gap_of l) + k) (omega arith)) ∙ x)) (λ x. inr (sym (seen (4 + 2 * (gap_of l) + length r.entry.pages + k) (omega arith)) ∙ x)) (at_stamp.one k le);
      }

  pub goes_again : (h : Head) (rs : List Placed) (end : Head) → AllByRecursion (StandsOn (gap_of l) epoch new) rs → Goes l epoch old h rs end → Goes l epoch new h rs end
  goes_again h [] end stand goes = goes
  goes_again h (r ∷ rs) end stand goes = (goes.0, found_again h r goes.0 stand.0 goes.1, goes_again goes.0 rs end stand.1 goes.2)

  pub scan_again : (first : ℕ) → AllByRecursion (StandsOn (gap_of l) epoch new) (scan l epoch old first).records → scan l epoch new first ≡ scan l epoch old first
  unfolding scan
  scan_again first stand =
      walk_of_goes (3 * l.third) l epoch new (start l first) (scan l epoch old first).records (scan l epoch old first).head start_in (omega arith)
      (goes_again (start l first) (scan l epoch old first).records (scan l epoch old first).head stand (goes_of_walk (3 * l.third) l epoch old (start l first)))
      (next_less l epoch old new (scan l epoch old first).head (λ at end. here_less (scan l epoch old first).head.number at end) (end_of_walk (3 * l.third) l epoch old (start l first) start_in (omega arith)))
    where
      start_in : IsIn l (start l first)
      start_in = record { before = omega arith; from = omega arith; ends = inl refl }

-- ---- a record of which one sector more stands

images_alike : (stamp : Stamp) (X Y : Reader) (k c : ℕ) (pages : List ℕ)
    → ((j : ℕ) → j < length pages → either_copy (bears (get_or pages j 0) stamp) (X (k + j)) (X (c + j)) ≡ either_copy (bears (get_or pages j 0) stamp) (Y (k + j)) (Y (c + j))) → images_at stamp X k c pages ≡ images_at stamp Y k c pages
images_alike stamp X Y k c [] each = refl
images_alike stamp X Y k c (page ∷ pages) each =
    let k0 : k ≡ k + 0 = omega arith in
    let c0 : c ≡ c + 0 = omega arith in
    let here : either_copy (bears page stamp) (X k) (X c) ≡ either_copy (bears page stamp) (Y k) (Y c) =
    (λ i. either_copy (bears page stamp) (X (k0 i)) (X (c0 i))) ∙ each 0 (omega arith) ∙ (λ i. either_copy (bears page stamp) (Y (sym k0 i)) (Y (sym c0 i))) in
    let rest = images_alike stamp X Y (k + 1) (c + 1) pages
    (λ j lt.
    let kj : (k + 1) + j ≡ k + suc j = omega arith in
    let cj : (c + 1) + j ≡ c + suc j = omega arith in
    (λ i. either_copy (bears (get_or pages j 0) stamp) (X (kj i)) (X (cj i))) ∙ each (suc j) (omega arith) ∙ (λ i. either_copy (bears (get_or pages j 0) stamp) (Y (sym kj i)) (Y (sym cj i)))) in
    (λ i. option_and_then (λ image. option_map (λ more. image ∷ more) (rest i)) (here i))

images_part : (stamp : Stamp) (Y : Reader) (k c : ℕ) (pages : List ℕ) (images : List (List ℕ)) → AreStamped stamp pages images
    → ((j : ℕ) → j < length pages → (either_copy (bears (get_or pages j 0) stamp) (Y (k + j)) (Y (c + j)) ≡ None) ⊎ (either_copy (bears (get_or pages j 0) stamp) (Y (k + j)) (Y (c + j)) ≡ Some (get_or images j [])))
    → (images_at stamp Y k c pages ≡ None) ⊎ (images_at stamp Y k c pages ≡ Some images)
images_part stamp Y k c [] [] stamped each = inr refl
images_part stamp Y k c [] (image ∷ images) stamped each = absurd stamped
images_part stamp Y k c (page ∷ pages) [] stamped each = absurd stamped
images_part stamp Y k c (page ∷ pages) (image ∷ images) stamped each =
    let k0 : k ≡ k + 0 = omega arith in
    let c0 : c ≡ c + 0 = omega arith in
    let rest = images_part stamp Y (k + 1) (c + 1) pages images stamped.1
    (λ j lt.
    let kj : (k + 1) + j ≡ k + suc j = omega arith in
    let cj : (c + 1) + j ≡ c + suc j = omega arith in
    let move : either_copy (bears (get_or pages j 0) stamp) (Y ((k + 1) + j)) (Y ((c + 1) + j)) ≡ either_copy (bears (get_or pages j 0) stamp) (Y (k + suc j)) (Y (c + suc j)) = λ i. either_copy (bears (get_or pages j 0) stamp) (Y (kj i)) (Y (cj i)) in
    ⊎_elim (λ none. inl (move ∙ none)) (λ some. inr (move ∙ some)) (each (suc j) (omega arith))) in
    let move : either_copy (bears page stamp) (Y k) (Y c) ≡ either_copy (bears page stamp) (Y (k + 0)) (Y (c + 0)) = λ i. either_copy (bears page stamp) (Y (k0 i)) (Y (c0 i)) in
    ⊎_elim
    (λ none. inl (ap (λ (o : Option (List ℕ)). option_and_then (λ image. option_map (λ more. image ∷ more) (images_at stamp Y (k + 1) (c + 1) pages)) o) (move ∙ none)))
    (λ some. ⊎_elim
    (λ none. inl (ap (λ (o : Option (List ℕ)). option_and_then (λ image. option_map (λ more. image ∷ more) (images_at stamp Y (k + 1) (c + 1) pages)) o) (move ∙ some) ∙ ap (option_map (λ more. image ∷ more)) none))
    (λ all. inr (ap (λ (o : Option (List ℕ)). option_and_then (λ image. option_map (λ more. image ∷ more) (images_at stamp Y (k + 1) (c + 1) pages)) o) (move ∙ some) ∙ ap (option_map (λ more. image ∷ more)) all)) rest)
    (each 0 (omega arith))

module _ (gap : ℕ) (p : ℕ) (small : p ≤ 2 ^ 32) (stamp : Stamp) (r : Logged) (is : IsReadAs p stamp r) (room : ℕ) (Y : Reader) (h0 : OrNone (header_bytes stamp r.pages) (Y 0)) (h2 : OrNone (header_bytes stamp r.pages) (Y (2 + gap))) where
  read_pages : (X : Reader) (k : ℕ) → X k ≡ Some (header_bytes stamp r.pages) → record_by gap p stamp room X k ≡ record_with gap stamp room X r.pages
  read_pages X k stands =
      ap (λ (o : Option (List ℕ)). option_and_then (record_with gap stamp room X) (option_and_then (read_header p stamp) o)) stands
      ∙ ap (option_and_then (record_with gap stamp room X)) (header_is_read p stamp r.pages is.accepted (pages_small p r.pages small is.accepted) (omega (arith, are_few p r.pages is.accepted)))

  read_none : (X : Reader) (k : ℕ) → X k ≡ None → record_by gap p stamp room X k ≡ None
  read_none X k none = ap (λ (o : Option (List ℕ)). option_and_then (record_with gap stamp room X) (option_and_then (read_header p stamp) o)) none

  -- each row is served as it is in the other reading, or not at all: so is the record
  module _ (X : Reader) (same0 : X 0 ≡ Y 0) (same2 : X (2 + gap) ≡ Y (2 + gap))
      (row : (j : ℕ) → j < length r.pages → either_copy (bears (get_or r.pages j 0) stamp) (X (3 + gap + j)) (X (4 + 2 * gap + length r.pages + j)) ≡ either_copy (bears (get_or r.pages j 0) stamp) (Y (3 + gap + j)) (Y (4 + 2 * gap + length r.pages + j)))
      (last : either_copy (is_end stamp (length r.pages)) (X (3 + gap + length r.pages)) (X (4 + 2 * gap + 2 * length r.pages)) ≡ either_copy (is_end stamp (length r.pages)) (Y (3 + gap + length r.pages)) (Y (4 + 2 * gap + 2 * length r.pages))) where
    with_same : record_with gap stamp room X r.pages ≡ record_with gap stamp room Y r.pages
    with_same =
        let images = images_alike stamp X Y (3 + gap) (4 + 2 * gap + length r.pages) r.pages row in
        λ i. cond (nat_le (record_len gap (length r.pages)) room && is_some (last i)) (option_map (λ images. record { number = stamp.number; pages = r.pages; images = images }) (images i)) None

    by_same : (k : ℕ) → X k ≡ Y k → OrNone (header_bytes stamp r.pages) (Y k) → record_by gap p stamp room X k ≡ record_by gap p stamp room Y k
    by_same k same (inl stands) = read_pages X k (same ∙ stands) ∙ with_same ∙ sym (read_pages Y k stands)
    by_same k same (inr none) = read_none X k (same ∙ none) ∙ sym (read_none Y k none)

    pub same_record : record_in gap p stamp room X ≡ record_in gap p stamp room Y
    same_record = sym (record_same gap p stamp room X) ∙ (λ i. option_or (by_same 0 same0 h0 i) (by_same (2 + gap) same2 h2 i)) ∙ record_same gap p stamp room Y

  -- each row is served by its image or not at all: so it is the record or none
  module _ (row : (j : ℕ) → j < length r.pages → (either_copy (bears (get_or r.pages j 0) stamp) (Y (3 + gap + j)) (Y (4 + 2 * gap + length r.pages + j)) ≡ None) ⊎ (either_copy (bears (get_or r.pages j 0) stamp) (Y (3 + gap + j)) (Y (4 + 2 * gap + length r.pages + j)) ≡ Some (get_or r.images j []))) where
    with_part : (record_with gap stamp room Y r.pages ≡ None) ⊎ (record_with gap stamp room Y r.pages ≡ Some r)
    with_part = by_parts (nat_le (record_len gap (length r.pages)) room && is_some (either_copy (is_end stamp (length r.pages)) (Y (3 + gap + length r.pages)) (Y (4 + 2 * gap + 2 * length r.pages))))
        (images_at stamp Y (3 + gap) (4 + 2 * gap + length r.pages) r.pages) (images_part stamp Y (3 + gap) (4 + 2 * gap + length r.pages) r.pages r.images is.stamped row)
      where
        by_parts : (b : Bool) (o : Option (List (List ℕ))) → (o ≡ None) ⊎ (o ≡ Some r.images) → let w : Option Logged = cond b (option_map {U = Logged} (λ images. record { number = stamp.number; pages = r.pages; images = images }) o) None in (w ≡ None) ⊎ (w ≡ Some r)
        by_parts false o part = inl refl
        by_parts true o (inl none) = inl (ap (option_map {U = Logged} (λ images. record { number = stamp.number; pages = r.pages; images = images })) none)
        by_parts true o (inr some) = inr (ap (option_map {U = Logged} (λ images. record { number = stamp.number; pages = r.pages; images = images })) some ∙ λ i. Some (record { number = sym is.number i; pages = r.pages; images = r.images }))

    by_part : (k : ℕ) → OrNone (header_bytes stamp r.pages) (Y k) → (record_by gap p stamp room Y k ≡ None) ⊎ (record_by gap p stamp room Y k ≡ Some r)
    by_part k (inl stands) = ⊎_elim (λ none. inl (read_pages Y k stands ∙ none)) (λ some. inr (read_pages Y k stands ∙ some)) with_part
    by_part k (inr none) = inl (read_none Y k none)

    pub record_part : (record_in gap p stamp room Y ≡ None) ⊎ (record_in gap p stamp room Y ≡ Some r)
    record_part = ⊎_elim
        (λ none. ⊎_elim
        (λ too. inl (sym (record_same gap p stamp room Y) ∙ (λ i. option_or (none i) (record_by gap p stamp room Y (2 + gap))) ∙ too))
        (λ some. inr (sym (record_same gap p stamp room Y) ∙ (λ i. option_or (none i) (record_by gap p stamp room Y (2 + gap))) ∙ some)) (by_part (2 + gap) h2))
        (λ some. inr (sym (record_same gap p stamp room Y) ∙ (λ i. option_or (some i) (record_by gap p stamp room Y (2 + gap))))) (by_part 0 h0)
