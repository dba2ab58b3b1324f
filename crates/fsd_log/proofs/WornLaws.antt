-- A record that is laid, whole or in part, on a disk that wears.
use Rattle.std.proofs.Common.{◌≡◌, ◌⊎◌, inl, inr, ⊎_elim, ℕ, suc, ◌+◌, ◌*◌, ◌<◌, ◌≤◌, Bool, true, false, List, [], ◌∷◌, length, Option, Some, None, nat_le, refl, sym, ap, subst, ◌∙◌, arith}
use Rattle.std.specs.Prelude.{option_map, option_and_then, if◌then◌else◌, unwrap_or}
use Rattle.std.proofs.lemmas.Bool.{cond-true, le-leb}
use Rattle.fsd_formats.specs.Record.{Stamp, header_bytes, end_bytes, read_header, is_end, bears, AreStamped, record_len}
use Rattle.fsd_bytes.proofs.SameLaws.{is_same}
use Rattle.fsd_formats.proofs.PageLaws.{header_is_read}
use Rattle.fsd_log.specs.Judged.{Reader, sector_in, passes, serving, page_copies, Serving, judged_with, judged_by, judged, images_of, Logged, logged_of, record_in}
use Rattle.fsd_log.specs.Borne.{Foreign, FitsStamp}
use Rattle.fsd_log.specs.Laid.{slices_from, new_record}
use Rattle.fsd_log.proofs.BorneLaws.{foreign_header, foreign_page}
use Rattle.fsd_log.proofs.JudgedLaws.{none_serves, then_none, or_none, map_none, serving_with, mapped_some, IsJudged, is_judged}
use Rattle.fsd_log.proofs.TornLaws.{ArePages}

-- it reads as this, or bears nothing of the record
abbrev pub AsLaid : Stamp → List ℕ → Option (List ℕ) → Type 0
AsLaid stamp bytes o = (o ≡ Some bytes) ⊎ Foreign stamp o

pub record ReadsLaid (gap : ℕ) (stamp : Stamp) (pages images : List ℕ) (at : Reader) : Type 0 where
  pub header : AsLaid stamp (header_bytes stamp pages) (at 0)
  pub header_copy : AsLaid stamp (header_bytes stamp pages) (at (2 + gap))
  pub first : (j : ℕ) → j < length pages → AsLaid stamp (sector_in images j) (at (3 + gap + j))
  pub copy : (j : ℕ) → j < length pages → AsLaid stamp (sector_in images j) (at (4 + 2 * gap + length pages + j))

pub serves_which : (test : List ℕ → Bool) (a c : Option (List ℕ)) (d : Bool) → serving test a c ≡ Some d → passes test (if d then c else a) ≡ true
serves_which test a c d e = by_tests (passes test a) (passes test c) refl refl d e
  where
    by_tests : (x y : Bool) → passes test a ≡ x → passes test c ≡ y → (z : Bool) → (if x then Some false else (if y then Some true else None)) ≡ Some z → passes test (if z then c else a) ≡ true
    by_tests true y pa pc true e = absurd (cc)
    by_tests true y pa pc false e = pa
    by_tests false true pa pc true e = pc
    by_tests false true pa pc false e = absurd (cc)
    by_tests false false pa pc z e = absurd (cc)

-- what serves is the image
image_serves : (stamp : Stamp) (page : ℕ) (image : List ℕ) (o : Option (List ℕ)) → AsLaid stamp image o → passes (bears page stamp) o ≡ true → unwrap_or o [] ≡ image
image_serves stamp page image o (inl is) e = ap (λ (x : Option (List ℕ)). unwrap_or x []) is
image_serves stamp page image o (inr foreign) e = absurd (let none = foreign_page page stamp o foreign in cc (none, e))

choose : (stamp : Stamp) (image : List ℕ) (a c : Option (List ℕ)) (d : Bool) → AsLaid stamp image a → AsLaid stamp image c → AsLaid stamp image (if d then c else a)
choose stamp image a c true la lc = lc
choose stamp image a c false la lc = la

read_either : (at : Reader) (a c : ℕ) (d : Bool) → at (if d then c else a) ≡ (if d then at c else at a)
read_either at a c true = refl
read_either at a c false = refl

images_serve : (stamp : Stamp) (at : Reader) (a c from : ℕ) (pages images : List ℕ) (cs : List Bool) → ((j : ℕ) → j < length pages → AsLaid stamp (sector_in images (from + j)) (at (a + j))) → ((j : ℕ) → j < length pages → AsLaid stamp (sector_in images (from + j)) (at (c + j)))
    → page_copies stamp at a c pages ≡ Some cs → images_of at a c cs ≡ slices_from from images (length pages)
images_serve stamp at a c from [] images cs first copy e = ap (λ (o : Option (List Bool)). images_of at a c (unwrap_or o [])) (sym e)
images_serve stamp at a c from (page ∷ pages) images cs first copy e =
    let made = mapped_some (serving (bears page stamp) (at a) (at c)) (page_copies stamp at (a + 1) (c + 1) pages) (λ x more. x ∷ more) cs e in
    let e0 : from + 0 ≡ from = omega arith in
    let a0 : a + 0 ≡ a = omega arith in
    let c0 : c + 0 ≡ c = omega arith in
    let la : AsLaid stamp (sector_in images from) (at a) = subst (λ (k : ℕ). AsLaid stamp (sector_in images from) (at k)) a0 (subst (λ (k : ℕ). AsLaid stamp (sector_in images k) (at (a + 0))) e0 (first 0 (omega arith))) in
    let lc : AsLaid stamp (sector_in images from) (at c) = subst (λ (k : ℕ). AsLaid stamp (sector_in images from) (at k)) c0 (subst (λ (k : ℕ). AsLaid stamp (sector_in images k) (at (c + 0))) e0 (copy 0 (omega arith))) in
    let served : serving (bears page stamp) (at a) (at c) ≡ Some made.0 = head_served (serving (bears page stamp) (at a) (at c)) (page_copies stamp at (a + 1) (c + 1) pages) made.0 made.1 cs made.3 e in
    let here : unwrap_or (at (if made.0 then c else a)) [] ≡ sector_in images from =
    ap (λ (o : Option (List ℕ)). unwrap_or o []) (read_either at a c made.0)
    ∙ image_serves stamp page (sector_in images from) (if made.0 then at c else at a) (choose stamp (sector_in images from) (at a) (at c) made.0 la lc) (serves_which (bears page stamp) (at a) (at c) made.0 served) in
    let rest = images_serve stamp at (a + 1) (c + 1) (suc from) pages images made.1
    (λ j lt. subst (λ (k : ℕ). AsLaid stamp (sector_in images (suc from + j)) (at k)) (let x : a + suc j ≡ (a + 1) + j = omega arith in x) (subst (λ (k : ℕ). AsLaid stamp (sector_in images k) (at (a + suc j))) (let x : from + suc j ≡ suc from + j = omega arith in x) (first (suc j) (omega arith))))
    (λ j lt. subst (λ (k : ℕ). AsLaid stamp (sector_in images (suc from + j)) (at k)) (let x : c + suc j ≡ (c + 1) + j = omega arith in x) (subst (λ (k : ℕ). AsLaid stamp (sector_in images k) (at (c + suc j))) (let x : from + suc j ≡ suc from + j = omega arith in x) (copy (suc j) (omega arith))))
    made.2 in
    ap (images_of at a c) (sym made.3) ∙ (λ i. here i ∷ rest i)
  where
    head_served : (o : Option Bool) (rest : Option (List Bool)) (x : Bool) (more cs : List Bool) → x ∷ more ≡ cs → option_and_then (λ x. option_map (λ more. x ∷ more) rest) o ≡ Some cs → o ≡ Some x
    head_served None rest x more cs made e = absurd (cc)
    head_served (Some y) None x more cs made e = absurd (cc)
    head_served (Some y) (Some z) x more cs made e = ap (λ (b : Bool). Some b) (cc)

module _ (gap : ℕ) (p : ℕ) (stamp : Stamp) (fits : FitsStamp stamp) (pages images : List ℕ) (are : ArePages p pages) (room : ℕ) (at : Reader) where
  header_pages : (o : Option (List ℕ)) (f : Serving) → AsLaid stamp (header_bytes stamp pages) o → option_and_then (read_header p stamp) o ≡ Some f.pages → f.pages ≡ pages
  header_pages o f (inl is) e =
      let read : option_and_then (read_header p stamp) o ≡ Some pages = ap (λ (x : Option (List ℕ)). option_and_then (read_header p stamp) x) is ∙ header_is_read p stamp pages are.accepted are.small (omega (arith, are.few)) in
      cc
  header_pages None f (inr foreign) e = absurd (cc)
  header_pages (Some bytes) f (inr foreign) e = absurd (let none = foreign_header stamp fits p bytes foreign in cc (none, e))

  -- it is this record, or none
  pub laid_or_none : ReadsLaid gap stamp pages images at → (record_in gap p stamp room at ≡ None) ⊎ (record_in gap p stamp room at ≡ Some (new_record stamp pages images))
  unfolding record_in
  laid_or_none laid = by_judged (judged gap p stamp room at) refl
    where
      found : (f : Serving) → IsJudged gap p stamp room at f → f.pages ≡ pages → logged_of gap stamp.number at f ≡ new_record stamp pages images
      found f is same =
          let copies : page_copies stamp at (3 + gap) (4 + 2 * gap + length pages) pages ≡ Some f.page_copy = subst (λ (x : List ℕ). page_copies stamp at (3 + gap) (4 + 2 * gap + length x) x ≡ Some f.page_copy) same is.copies in
          let images_is : images_of at (3 + gap) (4 + 2 * gap + length pages) f.page_copy ≡ slices_from 0 images (length pages) = images_serve stamp at (3 + gap) (4 + 2 * gap + length pages) 0 pages images f.page_copy
          (λ j lt. subst (λ (k : ℕ). AsLaid stamp (sector_in images k) (at (3 + gap + j))) (let x : j ≡ 0 + j = omega arith in x) (laid.first j lt))
          (λ j lt. subst (λ (k : ℕ). AsLaid stamp (sector_in images k) (at (4 + 2 * gap + length pages + j))) (let x : j ≡ 0 + j = omega arith in x) (laid.copy j lt)) copies in
          (λ i. record { number = stamp.number; pages = same i; images = images_of at (3 + gap) (4 + 2 * gap + length (same i)) f.page_copy }) ∙ (λ i. record { number = stamp.number; pages = pages; images = images_is i })

      by_judged : (o : Option Serving) → judged gap p stamp room at ≡ o → (record_in gap p stamp room at ≡ None) ⊎ (record_in gap p stamp room at ≡ Some (new_record stamp pages images))
      by_judged None is = inl (ap (option_map (logged_of gap stamp.number at)) is)
      by_judged (Some f) is =
          let known = is_judged gap p stamp room at f is in
          let same : f.pages ≡ pages = ⊎_elim (λ by. header_pages (at 0) f laid.header by.header) (λ by. header_pages (at (2 + gap)) f laid.header_copy by.1.header) known.by in
          inr (ap (option_map (logged_of gap stamp.number at)) is ∙ ap (λ (r : Logged). Some r) (found f known same))

-- of each sector and its copy one stands
pub record OneStands (gap : ℕ) (stamp : Stamp) (pages images : List ℕ) (at : Reader) : Type 0 where
  pub headers : (at 0 ≡ Some (header_bytes stamp pages)) ⊎ (at (2 + gap) ≡ Some (header_bytes stamp pages))
  pub ends : (at (3 + gap + length pages) ≡ Some (end_bytes stamp (length pages))) ⊎ (at (4 + 2 * gap + 2 * length pages) ≡ Some (end_bytes stamp (length pages)))
  pub each : (j : ℕ) → j < length pages → (at (3 + gap + j) ≡ Some (sector_in images j)) ⊎ (at (4 + 2 * gap + length pages + j) ≡ Some (sector_in images j))

serves_one : (test : List ℕ → Bool) (a c : Option (List ℕ)) (bytes : List ℕ) → test bytes ≡ true → (a ≡ Some bytes) ⊎ (c ≡ Some bytes) → serving test a c ≡ None → ⊥
serves_one test a c bytes ok (inl is) none = let were = none_serves (passes test a) (passes test c) none in let yes : passes test a ≡ true = ap (passes test) is ∙ ok in cc (yes, were.0)
serves_one test a c bytes ok (inr is) none = let were = none_serves (passes test a) (passes test c) none in let yes : passes test c ≡ true = ap (passes test) is ∙ ok in cc (yes, were.1)

copies_one : (stamp : Stamp) (at : Reader) (a c from : ℕ) (pages images : List ℕ) → AreStamped stamp pages (slices_from from images (length pages))
    → ((j : ℕ) → j < length pages → (at (a + j) ≡ Some (sector_in images (from + j))) ⊎ (at (c + j) ≡ Some (sector_in images (from + j)))) → page_copies stamp at a c pages ≡ None → ⊥
copies_one stamp at a c from [] images stamped one none = cc none
copies_one stamp at a c from (page ∷ pages) images stamped one none =
    let e0 : from + 0 ≡ from = omega arith in
    let a0 : a + 0 ≡ a = omega arith in
    let c0 : c + 0 ≡ c = omega arith in
    let here : (at a ≡ Some (sector_in images from)) ⊎ (at c ≡ Some (sector_in images from)) =
    ⊎_elim (λ is. inl (ap at (sym a0) ∙ is ∙ ap (λ (k : ℕ). Some (sector_in images k)) e0)) (λ is. inr (ap at (sym c0) ∙ is ∙ ap (λ (k : ℕ). Some (sector_in images k)) e0)) (one 0 (omega arith)) in
    ⊎_elim
    (λ none_here. serves_one (bears page stamp) (at a) (at c) (sector_in images from) stamped.0 here none_here)
    (λ none_behind. copies_one stamp at (a + 1) (c + 1) (suc from) pages images stamped.1
    (λ j lt.
    let ea : (a + 1) + j ≡ a + suc j = omega arith in
    let ec : (c + 1) + j ≡ c + suc j = omega arith in
    let ef : from + suc j ≡ suc from + j = omega arith in
    ⊎_elim (λ is. inl (ap at ea ∙ is ∙ ap (λ (k : ℕ). Some (sector_in images k)) ef)) (λ is. inr (ap at ec ∙ is ∙ ap (λ (k : ℕ). Some (sector_in images k)) ef)) (one (suc j) (omega arith)))
    none_behind)
    (then_none (serving (bears page stamp) (at a) (at c)) (page_copies stamp at (a + 1) (c + 1) pages) (λ x more. x ∷ more) none)

module _ (gap : ℕ) (p : ℕ) (stamp : Stamp) (fits : FitsStamp stamp) (pages images : List ℕ) (are : ArePages p pages) (stamped : AreStamped stamp pages (slices_from 0 images (length pages))) (room : ℕ) (long : record_len gap (length pages) ≤ room) (at : Reader) where
  with_one : OneStands gap stamp pages images at → (hc : Bool) → judged_with gap stamp room at hc pages ≡ None → ⊥
  with_one one hc none =
      ⊎_elim
      (λ no_end. serves_one (is_end stamp (length pages)) (at (3 + gap + length pages)) (at (4 + 2 * gap + 2 * length pages)) (end_bytes stamp (length pages)) (is_same (end_bytes stamp (length pages))) one.ends no_end)
      (λ no_pages. copies_one stamp at (3 + gap) (4 + 2 * gap + length pages) 0 pages images stamped
      (λ j lt. let ef : j ≡ 0 + j = omega arith in ⊎_elim (λ is. inl (is ∙ ap (λ (k : ℕ). Some (sector_in images k)) ef)) (λ is. inr (is ∙ ap (λ (k : ℕ). Some (sector_in images k)) ef)) (one.each j lt)) no_pages)
      (then_none (serving (is_end stamp (length pages)) (at (3 + gap + length pages)) (at (4 + 2 * gap + 2 * length pages))) (page_copies stamp at (3 + gap) (4 + 2 * gap + length pages) pages) (serving_with hc pages)
      (sym (cond-true (nat_le (record_len gap (length pages)) room) _ None (le-leb _ _ long)) ∙ none))

  by_one : OneStands gap stamp pages images at → (hc : Bool) (o : Option (List ℕ)) → o ≡ Some (header_bytes stamp pages) → judged_by gap p stamp room at hc o ≡ None → ⊥
  by_one one hc o is none =
      let read : option_and_then (read_header p stamp) o ≡ Some pages = ap (λ (x : Option (List ℕ)). option_and_then (read_header p stamp) x) is ∙ header_is_read p stamp pages are.accepted are.small (omega (arith, are.few)) in
      with_one one hc (ap (λ (x : Option (List ℕ)). option_and_then (judged_with gap stamp room at hc) x) (sym read) ∙ none)

  -- where one of each pair serves it is there
  pub worn_there : ReadsLaid gap stamp pages images at → OneStands gap stamp pages images at → record_in gap p stamp room at ≡ Some (new_record stamp pages images)
  unfolding record_in judged
  worn_there laid one = ⊎_elim
      (λ none.
      let were = or_none (judged_by gap p stamp room at false (at 0)) (judged_by gap p stamp room at true (at (2 + gap))) (map_none (logged_of gap stamp.number at) (judged gap p stamp room at) none) in
      absurd (⊎_elim (λ is. by_one one false (at 0) is were.0) (λ is. by_one one true (at (2 + gap)) is were.1) one.headers))
      (λ found. found) (laid_or_none gap p stamp fits pages images are room at laid)
