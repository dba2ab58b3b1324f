-- The copies of a record that was read.
use Rattle.std.proofs.Common.{◌≡◌, inl, inr, ℕ, suc, ◌+◌, ◌*◌, ◌<◌, Bool, true, false, cond, List, [], ◌∷◌, ◌++◌, length, get_or, Option, Some, None, nat_lt, refl, sym, ap, subst, ◌∙◌, arith}
use Rattle.std.specs.Prelude.{if◌then◌else◌, unwrap_or, option_map, option_and_then}
use Rattle.std.proofs.lemmas.Bool.{cond-true, cond-false, lt-ltb, cases_lt, false≢true, le-ltb}
use Rattle.std.proofs.lemmas.List.{length-append}
use Rattle.volume_layout.specs.Shape.{Shape}
use Rattle.fsd_bytes.proofs.SameLaws.{same_is}
use Rattle.fsd_formats.specs.Record.{Stamp, is_end, end_bytes, bears}
use Rattle.log_record.specs.Found.{read_of}
use Rattle.fsd_log.specs.Judged.{Reader, Serving, passes, serving, page_copies, judged_with, judged, images_of, sector_in}
use Rattle.fsd_log.specs.Laid.{slices_from, slices}
use Rattle.fsd_log.specs.Scan.{Placed}
use Rattle.fsd_log.proofs.JudgedLaws.{length-copies, is_judged, if_some, serving_with}
use Rattle.fsd_log.proofs.LaidLaws.{slice_within, slice_behind, slice_all}
use Rattle.log_thirds.specs.Copies.{served_at, AreServed, Copies, AreCopies, AreCopiesOf, AreLastCopies}

-- ---- one sector more

pub served_more : (gap : ℕ) → (s : Serving) (bytes : List ℕ) (k : ℕ) (copies sector : List ℕ) → AreServed gap s bytes k copies → length sector ≡ 512 → sector ≡ sector_in bytes (served_at gap s k) → AreServed gap s bytes (k + 1) (copies ++ sector)
served_more gap s bytes k copies sector are long is = record {
  long = omega (arith, length-append copies sector, are.long, long);
  each = λ j lt. elim (cases_lt j k) [
    | inl below ↦ slice_within copies sector k j are.long below ∙ are.each j below
    | inr from ↦
        let at : k ≡ j = omega arith in
        subst (λ (n : ℕ). sector_in (copies ++ sector) n ≡ sector_in bytes (served_at gap s n)) at (slice_behind copies sector k 0 k are.long (omega arith) ∙ slice_all sector long ∙ is)
  ];
}

-- ---- which sector serves

pick : (test : List ℕ → Bool) (o p : Option (List ℕ)) (d : Bool) → serving test o p ≡ Some d → passes test (cond d p o) ≡ true
pick test o p d is = by_tests (passes test o) (passes test p) refl refl is
  where
    by_tests : (x y : Bool) → passes test o ≡ x → passes test p ≡ y → cond x (Some false) (cond y (Some true) None) ≡ Some d → passes test (cond d p o) ≡ true
    by_tests true y a b e = let same : false ≡ d = cc e in subst (λ (z : Bool). passes test (cond z p o) ≡ true) same a
    by_tests false true a b e = let same : true ≡ d = cc e in subst (λ (z : Bool). passes test (cond z p o) ≡ true) same b
    by_tests false false a b e = absurd (cc e)

passed : (test : List ℕ → Bool) (w : Bool) (s : List ℕ) → passes test (cond w (Some s) None) ≡ true → (unwrap_or (cond w (Some s) None) [] ≡ s) × (test s ≡ true)
passed test true s is = (refl, is)
passed test false s is = absurd (false≢true is)

module _ (gap : ℕ) (whole : List Bool) (bytes : List ℕ) where
  serves : (test : List ℕ → Bool) (a b : ℕ) (d : Bool) → serving test (read_of whole bytes a) (read_of whole bytes b) ≡ Some d
      → (unwrap_or (read_of whole bytes (if d then b else a)) [] ≡ sector_in bytes (if d then b else a)) × (test (sector_in bytes (if d then b else a)) ≡ true)
  serves test a b true is = passed test (get_or whole b false) (sector_in bytes b) (pick test (read_of whole bytes a) (read_of whole bytes b) true is)
  serves test a b false is = passed test (get_or whole a false) (sector_in bytes a) (pick test (read_of whole bytes a) (read_of whole bytes b) false is)

  served_slices : (stamp : Stamp) (copies : List ℕ) (k c j : ℕ) (pages : List ℕ) (cs : List Bool) → page_copies stamp (read_of whole bytes) k c pages ≡ Some cs
      → ((i : ℕ) → i < length pages → sector_in copies (j + i) ≡ sector_in bytes (if get_or cs i false then c + i else k + i)) → images_of (read_of whole bytes) k c cs ≡ slices_from j copies (length pages)
  served_slices stamp copies k c j [] cs is same = let none : cs ≡ [] = cc is in ap (λ (x : List Bool). images_of (read_of whole bytes) k c x) none
  served_slices stamp copies k c j (page ∷ pages) cs is same =
      by_parts (λ more e. served_slices stamp copies (k + 1) (c + 1) (suc j) pages more e) (serving (bears page stamp) (read_of whole bytes k) (read_of whole bytes c)) (page_copies stamp (read_of whole bytes) (k + 1) (c + 1) pages) refl refl is
    where
      by_parts : ((more : List Bool) → page_copies stamp (read_of whole bytes) (k + 1) (c + 1) pages ≡ Some more
          → ((i : ℕ) → i < length pages → sector_in copies (suc j + i) ≡ sector_in bytes (if get_or more i false then c + 1 + i else k + 1 + i)) → images_of (read_of whole bytes) (k + 1) (c + 1) more ≡ slices_from (suc j) copies (length pages))
          → (o : Option Bool) (rest : Option (List Bool)) → serving (bears page stamp) (read_of whole bytes k) (read_of whole bytes c) ≡ o → page_copies stamp (read_of whole bytes) (k + 1) (c + 1) pages ≡ rest
          → option_and_then (λ x. option_map (λ more. x ∷ more) rest) o ≡ Some cs → images_of (read_of whole bytes) k c cs ≡ slices_from j copies (length (page ∷ pages))
      by_parts further None rest one others e = absurd (cc e)
      by_parts further (Some d) None one others e = absurd (cc e)
      by_parts further (Some d) (Some more) one others e =
          let made : d ∷ more ≡ cs = cc e in
          let each : (i : ℕ) → i < length (page ∷ pages) → sector_in copies (j + i) ≡ sector_in bytes (if get_or (d ∷ more) i false then c + i else k + i) =
          λ i lt. same i lt ∙ ap (λ (x : List Bool). sector_in bytes (if get_or x i false then c + i else k + i)) (sym made) in
          let j0 : j ≡ j + 0 = omega arith in
          let c0 : c + 0 ≡ c = omega arith in
          let k0 : k + 0 ≡ k = omega arith in
          let head : sector_in copies j ≡ sector_in bytes (if d then c else k) = ap (sector_in copies) j0 ∙ each 0 (omega arith) ∙ λ i. sector_in bytes (cond d (c0 i) (k0 i)) in
          let tail = further more others (λ i lt.
          let ji : suc j + i ≡ j + suc i = omega arith in
          let ci : c + suc i ≡ c + 1 + i = omega arith in
          let ki : k + suc i ≡ k + 1 + i = omega arith in
          ap (sector_in copies) ji ∙ each (suc i) (omega (arith, lt)) ∙ λ x. sector_in bytes (cond (get_or more i false) (ci x) (ki x))) in
          subst (λ (x : List Bool). images_of (read_of whole bytes) k c x ≡ slices_from j copies (length (page ∷ pages))) made
          (λ i. ((serves (bears page stamp) k c d one).0 ∙ sym head) i ∷ tail i)

  module _ (p : ℕ) (stamp : Stamp) (s : Serving) (is : judged gap p stamp (length whole) (read_of whole bytes) ≡ Some s) where
    end_serving : (hc : Bool) → judged_with gap stamp (length whole) (read_of whole bytes) hc s.pages ≡ Some s
        → serving (is_end stamp (length s.pages)) (read_of whole bytes (3 + gap + length s.pages)) (read_of whole bytes (4 + 2 * gap + 2 * length s.pages)) ≡ Some s.end_copy
    end_serving hc e =
        let parts = if_some _ _ s e in
        by_parts (serving (is_end stamp (length s.pages)) (read_of whole bytes (3 + gap + length s.pages)) (read_of whole bytes (4 + 2 * gap + 2 * length s.pages))) (page_copies stamp (read_of whole bytes) (3 + gap) (4 + 2 * gap + length s.pages) s.pages) parts.1
      where
        by_parts : (o : Option Bool) (rest : Option (List Bool)) → option_and_then (λ x. option_map (serving_with hc s.pages x) rest) o ≡ Some s → o ≡ Some s.end_copy
        by_parts None rest e = absurd (cc e)
        by_parts (Some x) None e = absurd (cc e)
        by_parts (Some x) (Some cs) e = let made : serving_with hc s.pages x cs ≡ s = cc e in ap (λ (y : Serving). Some y.end_copy) made

    module _ (copies : List ℕ) (are : AreServed gap s bytes (length s.pages + 1) copies) where
      pub images_served : images_of (read_of whole bytes) (3 + gap) (4 + 2 * gap + length s.pages) s.page_copy ≡ slices (length s.pages) copies
      images_served = served_slices stamp copies (3 + gap) (4 + 2 * gap + length s.pages) 0 s.pages s.page_copy (is_judged gap p stamp (length whole) (read_of whole bytes) s is).copies
          (λ i lt. let zero_on : 0 + i ≡ i = omega arith in ap (sector_in copies) zero_on ∙ are.each i (omega (arith, lt)) ∙ ap (sector_in bytes) (cond-true (nat_lt i (length s.pages)) _ _ (lt-ltb i (length s.pages) lt)))

      pub end_served : AreCopies stamp (length s.pages) copies
      end_served =
          let n : ℕ = length s.pages in
          let at : sector_in copies (length s.pages) ≡ sector_in bytes (if s.end_copy then 4 + 2 * gap + 2 * length s.pages else 3 + gap + length s.pages) =
          are.each (length s.pages) (omega arith) ∙ ap (sector_in bytes) (cond-false (nat_lt (length s.pages) (length s.pages)) _ _ (le-ltb (length s.pages) (length s.pages) (omega arith))) in
          let ends = serves (is_end stamp (length s.pages)) (3 + gap + length s.pages) (4 + 2 * gap + 2 * length s.pages) s.end_copy
          (elim (is_judged gap p stamp (length whole) (read_of whole bytes) s is).by [ inl by ↦ end_serving false by.good | inr by ↦ end_serving true by.1.good ]) in
          record { long = are.long; end = at ∙ sym (same_is (end_bytes stamp (length s.pages)) _ ends.1) }

pub length_copies : (gap : ℕ) → (p : ℕ) (stamp : Stamp) (room : ℕ) (at : Reader) (s : Serving) → judged gap p stamp room at ≡ Some s → length s.page_copy ≡ length s.pages
length_copies gap p stamp room at s is = length-copies stamp at (3 + gap) (4 + 2 * gap + length s.pages) s.pages s.page_copy (is_judged gap p stamp room at s is).copies

-- ---- a record more

pub last_more : (l : Shape) (epoch third : ℕ) (records : List Placed) (r : Placed) (c : Copies) → AreCopiesOf l epoch third r c → AreLastCopies l epoch third (records ++ r ∷ []) c
last_more l epoch third [] r c are = are
last_more l epoch third (q ∷ []) r c are = are
last_more l epoch third (q ∷ x ∷ records) r c are = last_more l epoch third (x ∷ records) r c are
