-- The way below a page, by the place of its child.
use Rattle.std.proofs.Common.{◌≡◌, ◌⊎◌, inl, inr, ℕ, zero, suc, ◌+◌, ◌-◌, ◌<◌, ◌≤◌, Bool, true, false, cond, List, [], ◌∷◌, length, take, drop, Option, Some, refl, sym, ap, ◌∙◌, arith}
use Rattle.std.proofs.lemmas.Option.{same_Some}
use Rattle.std.specs.Prelude.{slice_get}
use Rattle.std.specs.List.{AllByRecursion}
use Rattle.std.proofs.lemmas.Bool.{cases_lt}
use Rattle.fsd_bytes.specs.declared.key.Key.{Key}
use Rattle.fsd_formats.specs.declared.page.Separator.{Separator}
use Rattle.fsd_table.specs.declared.child.Child.{Child}
use Rattle.fsd_table.specs.Pages.{children}
use Rattle.fsd_forest.specs.Ways.{end_of}
use Rattle.name_btree.specs.declared.descent.Way.{Way}
use Rattle.name_btree.specs.declared.descent.Neighbour.{Neighbour}
use Rattle.name_btree.specs.Descent.{way_to}
use Rattle.name_btree.proofs.walks.WalkLaws.{child_first}

-- child i, and the children beside it; where there is none on a side, what stood there before
pub record IsWayAt (above : ℕ) (previous next : Option Neighbour) (cs : List Child) (count i : ℕ) (w : Way) : Type 0 where
  pub child : slice_get cs i ≡ Some w.child
  pub first : i ≡ 0 → w.previous ≡ previous
  pub before : (j : ℕ) (c : Child) → i ≡ suc j → slice_get cs j ≡ Some c → w.previous ≡ Some (record { child = c; above = above })
  pub last : i ≡ count → w.next ≡ next
  pub behind : (c : Child) → slice_get cs (suc i) ≡ Some c → w.next ≡ Some (record { child = c; above = above })

-- a child, up to the separator behind it, and the one behind that
abbrev child_at : ℕ → Option Key → Separator → Child
child_at first low s = record { page = first; low = low; high = Some s.key }

abbrev child_behind : Option Key → Separator → List Separator → Child
child_behind high s xs = record { page = s.child; low = Some s.key; high = end_of high xs }

abbrev beside : ℕ → Child → Option Neighbour
beside above c = Some (record { child = c; above = above })

stops : (above : ℕ) (previous next : Option Neighbour) (first : ℕ) (low high : Option Key) (s : Separator) (xs : List Separator) (go : Way) (b : Bool) → b ≡ false
    → IsWayAt above previous next (child_at first low s ∷ children s.child (Some s.key) high xs) (suc (length xs)) zero
    (cond b go (record { child = child_at first low s; previous = previous; next = beside above (child_behind high s xs) }))
stops above previous next first low high s xs go true e = absurd (let no : true ≡ false = e in cc)
stops above previous next first low high s xs go false e = record {
  child = refl;
  first = λ e. refl;
  before = λ j x e at. absurd (omega (arith, e));
  last = λ e. absurd (omega (arith, e));
  behind = λ x at. ap (beside above) (same_Some (child_behind high s xs) x (sym (child_first s.child (Some s.key) high xs) ∙ at));
}

goes : (above : ℕ) (previous next : Option Neighbour) (first : ℕ) (low high : Option Key) (s : Separator) (xs : List Separator) (i : ℕ) (go stop : Way)
    → IsWayAt above (beside above (child_at first low s)) next (children s.child (Some s.key) high xs) (length xs) i go → (b : Bool) → b ≡ true
    → IsWayAt above previous next (child_at first low s ∷ children s.child (Some s.key) high xs) (suc (length xs)) (suc i) (cond b go stop)
goes above previous next first low high s xs i go stop rest false e = absurd (let no : false ≡ true = e in cc)
goes above previous next first low high s xs i go stop rest true e = record {
  child = rest.child;
  first = λ e. absurd (omega (arith, e));
  before = by;
  last = λ e. rest.last (omega (arith, e));
  behind = λ x at. rest.behind x at;
}
  where
    by : (j : ℕ) (x : Child) → suc i ≡ suc j → slice_get (child_at first low s ∷ children s.child (Some s.key) high xs) j ≡ Some x → go.previous ≡ beside above x
    by zero x e at = rest.first (omega (arith, e)) ∙ ap (beside above) (same_Some (child_at first low s) x at)
    by (suc j) x e at = rest.before j x (omega (arith, e)) at

pub way_at : (before : Key → Bool) (above : ℕ) (previous next : Option Neighbour) (first : ℕ) (low high : Option Key) (xs : List Separator) (i : ℕ) → i ≤ length xs
    → AllByRecursion (λ s. before s.key ≡ true) (take i xs) → AllByRecursion (λ s. before s.key ≡ false) (drop i xs)
    → IsWayAt above previous next (children first low high xs) (length xs) i (way_to before above previous next first low high xs)
way_at before above previous next first low high [] zero within passed left = record {
  child = refl;
  first = λ e. refl;
  before = λ j c e at. absurd (omega (arith, e));
  last = λ e. refl;
  behind = λ c at. absurd (let no = at in cc);
}
way_at before above previous next first low high [] (suc i) within passed left = absurd (omega (arith, within))
way_at before above previous next first low high (s ∷ xs) zero within passed left =
    stops above previous next first low high s xs (way_to before above (beside above (child_at first low s)) next s.child (Some s.key) high xs) (before s.key) left.0
way_at before above previous next first low high (s ∷ xs) (suc i) within passed left =
    let go = way_to before above (beside above (child_at first low s)) next s.child (Some s.key) high xs in
    let stop : Way = record { child = child_at first low s; previous = previous; next = beside above (child_behind high s xs) } in
    goes above previous next first low high s xs i go stop (way_at before above (beside above (child_at first low s)) next s.child (Some s.key) high xs i (omega (arith, within)) passed.1 left) (before s.key) passed.0

-- what such parts make
pub way_is : (above : ℕ) (previous next : Option Neighbour) (cs : List Child) (count i : ℕ) (w : Way) (child : Child) (p n : Option Neighbour) → i ≤ count → IsWayAt above previous next cs count i w
    → slice_get cs i ≡ Some child
    → (i ≡ 0 → p ≡ previous) → (0 < i → (c : Child) × (slice_get cs (i - 1) ≡ Some c) × (p ≡ Some (record { child = c; above = above })))
    → (i ≡ count → n ≡ next) → (i < count → (c : Child) × (slice_get cs (i + 1) ≡ Some c) × (n ≡ Some (record { child = c; above = above })))
    → record { child = child; previous = p; next = n } ≡ w
way_is above previous next cs count i w child p n within x at first before last behind =
    let child_is : child ≡ w.child = same_Some child w.child (sym at ∙ x.child) in
    let previous_is : p ≡ w.previous = by_previous i refl in
    let next_is : n ≡ w.next = by_next (cases_lt i count) in
    λ j. record { child = child_is j; previous = previous_is j; next = next_is j }
  where
    by_previous : (k : ℕ) → i ≡ k → p ≡ w.previous
    by_previous zero e = first e ∙ sym (x.first e)
    by_previous (suc k) e =
        let t = before (omega (arith, e)) in
        let place : k ≡ i - 1 = omega (arith, e) in
        t.2 ∙ sym (x.before k t.0 e (ap (slice_get cs) place ∙ t.1))

    by_next : (i < count) ⊎ (count ≤ i) → n ≡ w.next
    by_next (inl low) =
        let t = behind low in
        let place : suc i ≡ i + 1 = omega arith in
        t.2 ∙ sym (x.behind t.0 (ap (slice_get cs) place ∙ t.1))
    by_next (inr past) = let e : i ≡ count = omega (arith, within, past) in last e ∙ sym (x.last e)
