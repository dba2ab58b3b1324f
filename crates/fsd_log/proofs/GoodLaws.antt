-- A record is judged good exactly where of each sector and its copy one serves.
use Rattle.std.proofs.Common.{◌≡◌, inl, inr, ⊎_elim, ℕ, zero, suc, ◌+◌, ◌*◌, ◌<◌, Bool, true, false, List, [], ◌∷◌, length, get_or, Option, Some, None, nat_le, refl, sym, ap, subst, ◌∙◌, arith}
use Rattle.std.specs.Prelude.{option_map, option_and_then, if◌then◌else◌}
use Rattle.std.proofs.lemmas.Bool.{cond-true, le-leb, leb-true}
use Rattle.fsd_formats.specs.Record.{Stamp, is_end, bears, record_len}
use Rattle.fsd_log.specs.Judged.{Reader, passes, serving, page_copies, Serving, judged_with, judged_by, judged}
use Rattle.fsd_log.specs.Good.{Serves, IsGoodBy, IsGood}
use Rattle.fsd_log.proofs.JudgedLaws.{none_serves, then_none, or_none, serving_with, mapped_some, flag_of, if_some, ByHeader, is_judged}

served_one : (test : List ℕ → Bool) (a c : Option (List ℕ)) (d : Bool) → serving test a c ≡ Some d → Serves test a c
served_one test a c d e = by_tests (passes test a) (passes test c) refl refl e
  where
    by_tests : (x y : Bool) → passes test a ≡ x → passes test c ≡ y → (if x then Some false else (if y then Some true else None)) ≡ Some d → Serves test a c
    by_tests true y pa pc e = inl pa
    by_tests false true pa pc e = inr pc
    by_tests false false pa pc e = absurd (cc)

serves_none : (test : List ℕ → Bool) (a c : Option (List ℕ)) → Serves test a c → serving test a c ≡ None → ⊥
serves_none test a c (inl is) none = let were = none_serves (passes test a) (passes test c) none in cc (is, were.0)
serves_none test a c (inr is) none = let were = none_serves (passes test a) (passes test c) none in cc (is, were.1)

each_serves : (stamp : Stamp) (at : Reader) (k c : ℕ) (pages : List ℕ) (cs : List Bool) → page_copies stamp at k c pages ≡ Some cs
    → (j : ℕ) → j < length pages → Serves (bears (get_or pages j 0) stamp) (at (k + j)) (at (c + j))
each_serves stamp at k c [] cs e j lt = absurd (omega arith)
each_serves stamp at k c (page ∷ pages) cs e zero lt =
    let made = mapped_some (serving (bears page stamp) (at k) (at c)) (page_copies stamp at (k + 1) (c + 1) pages) (λ x more. x ∷ more) cs e in
    let flag = flag_of (serving (bears page stamp) (at k) (at c)) (page_copies stamp at (k + 1) (c + 1) pages) made.0 made.1 cs made.3 e in
    let k0 : k ≡ k + 0 = omega arith in
    let c0 : c ≡ c + 0 = omega arith in
    subst (λ (m : ℕ). Serves (bears page stamp) (at m) (at (c + 0))) k0 (subst (λ (m : ℕ). Serves (bears page stamp) (at k) (at m)) c0 (served_one (bears page stamp) (at k) (at c) made.0 flag))
each_serves stamp at k c (page ∷ pages) cs e (suc j) lt =
    let made = mapped_some (serving (bears page stamp) (at k) (at c)) (page_copies stamp at (k + 1) (c + 1) pages) (λ x more. x ∷ more) cs e in
    let kj : (k + 1) + j ≡ k + suc j = omega arith in
    let cj : (c + 1) + j ≡ c + suc j = omega arith in
    let rest = each_serves stamp at (k + 1) (c + 1) pages made.1 made.2 j (omega arith) in
    subst (λ (m : ℕ). Serves (bears (get_or pages j 0) stamp) (at m) (at (c + suc j))) kj (subst (λ (m : ℕ). Serves (bears (get_or pages j 0) stamp) (at ((k + 1) + j)) (at m)) cj rest)

copies_none : (stamp : Stamp) (at : Reader) (k c : ℕ) (pages : List ℕ) → ((j : ℕ) → j < length pages → Serves (bears (get_or pages j 0) stamp) (at (k + j)) (at (c + j)))
    → page_copies stamp at k c pages ≡ None → ⊥
copies_none stamp at k c [] each none = cc none
copies_none stamp at k c (page ∷ pages) each none =
    let k0 : k + 0 ≡ k = omega arith in
    let c0 : c + 0 ≡ c = omega arith in
    let here : Serves (bears page stamp) (at k) (at c) =
    subst (λ (m : ℕ). Serves (bears page stamp) (at m) (at c)) k0 (subst (λ (m : ℕ). Serves (bears page stamp) (at (k + 0)) (at m)) c0 (each 0 (omega arith))) in
    ⊎_elim
    (λ none_here. serves_none (bears page stamp) (at k) (at c) here none_here)
    (λ none_behind. copies_none stamp at (k + 1) (c + 1) pages
    (λ j lt.
    let kj : k + suc j ≡ (k + 1) + j = omega arith in
    let cj : c + suc j ≡ (c + 1) + j = omega arith in
    subst (λ (m : ℕ). Serves (bears (get_or pages j 0) stamp) (at m) (at ((c + 1) + j))) kj (subst (λ (m : ℕ). Serves (bears (get_or pages j 0) stamp) (at (k + suc j)) (at m)) cj (each (suc j) (omega arith))))
    none_behind)
    (then_none (serving (bears page stamp) (at k) (at c)) (page_copies stamp at (k + 1) (c + 1) pages) (λ x more. x ∷ more) none)

then_some : {A B C : Type 0} (o : Option A) (rest : Option B) (f : A → B → C) (z : C) → option_and_then (λ x. option_map (f x) rest) o ≡ Some z → (x : A) × (o ≡ Some x)
then_some None rest f z e = absurd (cc)
then_some (Some x) rest f z e = (x, refl)

module _ (gap : ℕ) (p : ℕ) (stamp : Stamp) (room : ℕ) (at : Reader) where
  good_by : (hc : Bool) (h : Option (List ℕ)) (f : Serving) → nat_le (record_len gap (length f.pages)) room ≡ true → page_copies stamp at (3 + gap) (4 + 2 * gap + length f.pages) f.pages ≡ Some f.page_copy
      → ByHeader gap p stamp room at hc h f → IsGoodBy gap p stamp room at f.pages h
  good_by hc h f roomy copies by =
      let given = if_some (nat_le (record_len gap (length f.pages)) room) _ f by.good in
      let ends = then_some (serving (is_end stamp (length f.pages)) (at (3 + gap + length f.pages)) (at (4 + 2 * gap + 2 * length f.pages))) (page_copies stamp at (3 + gap) (4 + 2 * gap + length f.pages) f.pages) (serving_with hc f.pages) f given.1 in
      record {
        named = by.header;
        roomy = leb-true _ _ roomy;
        ends = served_one (is_end stamp (length f.pages)) (at (3 + gap + length f.pages)) (at (4 + 2 * gap + 2 * length f.pages)) ends.0 ends.1;
        each = each_serves stamp at (3 + gap) (4 + 2 * gap + length f.pages) f.pages f.page_copy copies;
      }

  pub judged_is_good : (f : Serving) → judged gap p stamp room at ≡ Some f → IsGood gap p stamp room at f.pages
  judged_is_good f e =
      let known = is_judged gap p stamp room at f e in
      ⊎_elim (λ by. inl (good_by false (at 0) f known.roomy known.copies by)) (λ by. inr (good_by true (at (2 + gap)) f known.roomy known.copies by.1)) known.by

  none_by : (hc : Bool) (pages : List ℕ) (h : Option (List ℕ)) → IsGoodBy gap p stamp room at pages h → judged_by gap p stamp room at hc h ≡ None → ⊥
  none_by hc pages h good none =
      let with_pages : judged_with gap stamp room at hc pages ≡ None = ap (λ (o : Option (List ℕ)). option_and_then (judged_with gap stamp room at hc) o) (sym good.named) ∙ none in
      ⊎_elim
      (λ no_end. serves_none (is_end stamp (length pages)) (at (3 + gap + length pages)) (at (4 + 2 * gap + 2 * length pages)) good.ends no_end)
      (λ no_pages. copies_none stamp at (3 + gap) (4 + 2 * gap + length pages) pages good.each no_pages)
      (then_none (serving (is_end stamp (length pages)) (at (3 + gap + length pages)) (at (4 + 2 * gap + 2 * length pages))) (page_copies stamp at (3 + gap) (4 + 2 * gap + length pages) pages) (serving_with hc pages)
      (sym (cond-true (nat_le (record_len gap (length pages)) room) _ None (le-leb _ _ good.roomy)) ∙ with_pages))

  pub none_is_good : (pages : List ℕ) → judged gap p stamp room at ≡ None → IsGood gap p stamp room at pages → ⊥
  unfolding judged
  none_is_good pages none good =
      let were = or_none (judged_by gap p stamp room at false (at 0)) (judged_by gap p stamp room at true (at (2 + gap))) none in
      ⊎_elim (λ by. none_by false pages (at 0) by were.0) (λ by. none_by true pages (at (2 + gap)) by were.1) good
