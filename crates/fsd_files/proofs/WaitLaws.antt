-- Which sectors of a volume wait.
use Rattle.std.proofs.Common.{◌≡◌, inl, inr, ℕ, Bool, true, false, not, ◌&&◌, ◌||◌, List, [], ◌∷◌, ◌++◌, refl, sym, subst}
use Rattle.std.specs.Prelude.{IsTrue, IsFalse, ◌==◌}
use Rattle.std.specs.List.{flat_map, list_all}
use Rattle.std.proofs.lemmas.Bool.{and_parts, or_cases, or_parts, or_from, or_right, false_from_ne_true, eqb-true}
use Rattle.std.proofs.lemmas.Grind.{flat_map-append}
use Rattle.std.proofs.lemmas.List.{append-nil}
use Rattle.run_table.specs.declared.run.Run.{Run}
use Rattle.run_table.specs.RunTable.{sectors_of}
use Rattle.run_table.specs.Space.{contains, all_differ}
use Rattle.volume_layout.specs.Layout.{is_data}
use Rattle.fsd_files.specs.Space.{Apart}
use Rattle.fsd_files.specs.Volume.{Volume, plans_of, is_in, in_version, waits, is_free, forced}
use Rattle.fsd_files.proofs.KeptLaws.{back_there}
use Rattle.fsd_files.specs.Waiting.{IsSpaced, are_same_or_apart, is_kept_alone, is_let_go}

-- ---- lists of sectors

-- a sector of both is there twice
pub apart_in_two : (xs ys : List ℕ) (s : ℕ) → IsTrue (all_differ (xs ++ ys)) → IsTrue (contains xs s) → IsFalse (contains ys s)
apart_in_two [] ys s differ here = absurd (cc here)
apart_in_two (x ∷ xs) ys s differ here =
    let parts = and_parts (not (contains (xs ++ ys) x)) (all_differ (xs ++ ys)) differ in
    elim (or_cases (x == s) (contains xs s) here) [
      | inl is ↦ false_from_ne_true (contains ys s) (λ there. by (contains (xs ++ ys) x) parts.0 (subst (λ (t : ℕ). IsTrue (contains (xs ++ ys) t)) (sym (eqb-true x s is)) (back_there s xs ys there)))
      | inr more ↦ apart_in_two xs ys s parts.1 more
    ]
  where
    by : (b : Bool) → IsTrue (not b) → IsTrue b → ⊥
    by true out is = cc
    by false out is = cc

-- ---- a volume

module _ (v : Volume) (spaced : IsSpaced v) where
  -- a version's sector is in no draft
  version_undrafted : (s : ℕ) → IsTrue (in_version v s) → IsFalse (is_in v.drafts s)
  version_undrafted s is =
      let joined = flat_map-append sectors_of (plans_of v.entries) v.drafts in
      let all : List ℕ = flat_map sectors_of (plans_of v.entries ++ v.drafts) in
      let differ : IsTrue (all_differ all) = (and_parts (all_differ all) (list_all (is_data v.layout) all) spaced.apart).0 in
      apart_in_two (flat_map sectors_of (plans_of v.entries)) (flat_map sectors_of v.drafts) s (subst (λ (xs : List ℕ). IsTrue (all_differ xs)) joined differ) is

  -- nothing of a version is let go
  pub version_stays : (s : ℕ) → IsTrue (in_version v s) → IsFalse (is_let_go v s)
  version_stays s is =
      or_from (is_free v s || is_in v.drafts s) (is_kept_alone v s) (or_from (is_free v s) (is_in v.drafts s) (taken (is_data v.layout s) (in_version v s) (waits v s) is) (version_undrafted s is))
      (alone (is_in v.held s) (in_version v s) (contains v.removed s) is)
    where
      taken : (a b c : Bool) → IsTrue b → IsFalse (a && not b && not c)
      taken true true c h = refl
      taken false true c h = refl
      taken a false c h = absurd (cc h)

      alone : (a b c : Bool) → IsTrue b → IsFalse (a && not b && not c)
      alone true true c h = refl
      alone false true c h = refl
      alone a false c h = absurd (cc h)

  -- a draft's sectors, and those that readers hold, lie in the data area
  pub open_in_area : (s : ℕ) → IsTrue (is_in v.drafts s || is_in v.held s) → IsTrue (is_data v.layout s)
  open_in_area s is =
      elim (or_cases (is_in v.drafts s) (is_in v.held s) is) [
        | inl drafted ↦
            let joined = flat_map-append sectors_of (plans_of v.entries) v.drafts in
            let all : List ℕ = flat_map sectors_of (plans_of v.entries ++ v.drafts) in
            all_in (is_data v.layout) all s (and_parts (all_differ all) (list_all (is_data v.layout) all) spaced.apart).1
            (subst (λ (xs : List ℕ). IsTrue (contains xs s)) (sym joined) (back_there s (flat_map sectors_of (plans_of v.entries)) (flat_map sectors_of v.drafts) drafted))
        | inr held ↦ spaced.area s (or_right (contains v.removed s) (is_in v.held s) held)
      ]
    where
      all_in : (P : ℕ → Bool) (xs : List ℕ) (s : ℕ) → IsTrue (list_all P xs) → IsTrue (contains xs s) → IsTrue (P s)
      all_in P [] s all there = absurd (cc there)
      all_in P (x ∷ xs) s all there =
          let parts = and_parts (P x) (list_all P xs) all in
          elim (or_cases (x == s) (contains xs s) there) [
            | inl here ↦ subst (λ (t : ℕ). IsTrue (P t)) (eqb-true x s here) parts.0
            | inr more ↦ all_in P xs s parts.1 more
          ]

  -- a force leaves it so
  pub forced_is_spaced : IsSpaced (forced v)
  forced_is_spaced = record {
    apart = spaced.apart;
    area = λ s is. spaced.area s (or_right (contains v.removed s) (is_in v.held s) is);
    drafts = λ s is. (or_parts (contains v.removed s) (is_in v.held s) (spaced.drafts s is)).1;
    removed = λ s is. absurd (cc is);
    held = spaced.held;
  }

-- where nothing waits, versions are all that there is
pub idle_is_spaced : (v : Volume) → v.removed ≡ [] → v.held ≡ [] → v.drafts ≡ [] → Apart v.layout (plans_of v.entries) → IsSpaced v
idle_is_spaced v removed held drafts apart = record {
  apart = subst (λ (x : List (List Run)). Apart v.layout (plans_of v.entries ++ x)) (sym drafts) (subst (λ (x : List (List Run)). Apart v.layout x) (sym (append-nil (plans_of v.entries))) apart);
  area = λ s is. absurd (none s is);
  drafts = λ s is. absurd (let bad : IsTrue (is_in [] s) = subst (λ (x : List (List Run)). IsTrue (is_in x s)) drafts is in cc bad);
  removed = λ s is. absurd (let bad : IsTrue (contains [] s) = subst (λ (x : List ℕ). IsTrue (contains x s)) removed is in cc bad);
  held = subst (λ (x : List (List Run)). IsTrue (list_all (λ runs. list_all (λ e. are_same_or_apart runs e.runs) v.entries) x)) (sym held) refl;
}
  where
    none : (s : ℕ) → IsTrue (contains v.removed s || is_in v.held s) → ⊥
    none s is =
        let first : IsTrue (contains [] s || is_in v.held s) = subst (λ (x : List ℕ). IsTrue (contains x s || is_in v.held s)) removed is in
        let bad : IsTrue (is_in [] s) = subst (λ (x : List (List Run)). IsTrue (is_in x s)) held first in
        cc bad

-- what is not let go is not free
pub let_go_free : (v : Volume) (s : ℕ) → IsFalse (is_let_go v s) → IsFalse (is_free v s)
let_go_free v s out = (or_parts (is_free v s) (is_in v.drafts s) (or_parts (is_free v s || is_in v.drafts s) (is_kept_alone v s) out).0).0

-- what a draft or a reader has is not free
pub open_taken : (v : Volume) (s : ℕ) → IsTrue (is_in v.drafts s || is_in v.held s) → IsFalse (is_free v s)
open_taken v s is = by (is_data v.layout s) (in_version v s) (contains v.removed s) (is_in v.held s) (is_in v.drafts s) is
  where
    by : (a b c d e : Bool) → IsTrue (e || d) → IsFalse (a && not b && not (not b && (c || d || e)))
    by false b c d e h = refl
    by true true c d e h = refl
    by true false true d e h = refl
    by true false false true e h = refl
    by true false false false true h = refl
    by true false false false false h = absurd (cc h)
