-- What becomes of subtrees that stand side by side, on one level.
use Rattle.std.proofs.Common.{◌≡◌, ℕ, zero, ◌+◌, true, not, List, [], ◌∷◌, ◌++◌, Option, Some, refl, sym, ap, subst, ◌∙◌, arith}
use Rattle.std.specs.List.{flat_map, AllByRecursion}
use Rattle.std.proofs.lemmas.List.Concat.{flat_map-append}
use Rattle.run_table.specs.Space.{contains}
use Rattle.fsd_bytes.specs.declared.key.Key.{Key}
use Rattle.fsd_bytes.specs.Keys.{key_lt}
use Rattle.fsd_formats.specs.declared.entry.Entry.{Entry}
use Rattle.fsd_table.specs.declared.child.Child.{Child}
use Rattle.fsd_table.specs.Tree.{entries_below, pages_below, IsSubtree}
use Rattle.fsd_table.proofs.BoundLaws.{all_append, all_weaker, Fits, entries_between}
use Rattle.fsd_table.proofs.KeyLaws.{lt_le}
use Rattle.fsd_forest.specs.Forest.{heads, times_in, forest_pages, EndsUpTo, BeginsBehind}
use Rattle.fsd_forest.specs.Laws.{LeavesBecome, Widens, FollowsChange, Remains}
use Rattle.fsd_forest.proofs.CountLaws.{count_append}
use Rattle.fsd_forest.proofs.KeepLaws.{kept_all, in_left, in_right}

-- ---- leaves

single_heads : (pages : List (List ℕ)) (cs : List Child) → forest_pages zero pages cs ≡ heads cs
single_heads pages [] = refl
single_heads pages (c ∷ cs) = ap (λ (ps : List ℕ). c.page ∷ ps) (single_heads pages cs)

pub leaves_become : LeavesBecome
leaves_become edit pages after came went old new leaves pages_are entries = record {
  subtrees = leaves;
  pages_are = λ p. ap (λ (ps : List ℕ). times_in p ps + times_in p went) (single_heads after new) ∙ pages_are p ∙ ap (λ (ps : List ℕ). times_in p ps + times_in p came) (sym (single_heads pages old));
  entries = entries;
}

-- ---- pages that stay

pub remains : Remains
remains pages after level cs subs keep =
    let same = kept_all pages after level cs keep subs in
    record {
      subtrees = same.subtrees;
      pages_are = λ p. ap (λ (ps : List ℕ). times_in p ps + times_in p []) same.reached;
      entries = same.entries;
    }

pub follows : FollowsChange
follows first second pages between after came went came2 went2 level old some new a b = record {
  subtrees = b.subtrees;
  pages_are = λ p. omega (arith, a.pages_are p, b.pages_are p, count_append p came came2, count_append p went went2);
  entries = b.entries ∙ ap second a.entries;
}

-- ---- what stands on both sides

entries_lesser : (key : Key) (f : Child → List Entry) (xs : List Child) → AllByRecursion (EndsUpTo key) xs → AllByRecursion (λ d. AllByRecursion (Fits d.low d.high) (f d)) xs
    → AllByRecursion (λ e. key_lt e.key key ≡ true) (flat_map f xs)
entries_lesser key f [] ends each = tt
entries_lesser key f (x ∷ xs) ends each =
    let P : Option Key → Type 0 = λ (h : Option Key). AllByRecursion (Fits x.low h) (f x) in
    let fits : P (Some ends.0.0) = subst P ends.0.1 each.0 in
    all_append (λ e. key_lt e.key key ≡ true) (f x) (flat_map f xs)
    (all_weaker (Fits x.low (Some ends.0.0)) (λ e. key_lt e.key key ≡ true) (f x) (λ e h. lt_le e.key ends.0.0 key h.1 (ap not ends.0.2)) fits) (entries_lesser key f xs ends.1 each.1)

entries_greater : (key : Key) (f : Child → List Entry) (xs : List Child) → AllByRecursion (BeginsBehind key) xs → AllByRecursion (λ d. AllByRecursion (Fits d.low d.high) (f d)) xs
    → AllByRecursion (λ e. key_lt key e.key ≡ true) (flat_map f xs)
entries_greater key f [] begins each = tt
entries_greater key f (x ∷ xs) begins each =
    let P : Option Key → Type 0 = λ (l : Option Key). AllByRecursion (Fits l x.high) (f x) in
    let fits : P (Some begins.0.0) = subst P begins.0.1 each.0 in
    all_append (λ e. key_lt key e.key ≡ true) (f x) (flat_map f xs)
    (all_weaker (Fits (Some begins.0.0) x.high) (λ e. key_lt key e.key ≡ true) (f x) (λ e h. lt_le key begins.0.0 e.key begins.0.2 h.0) fits) (entries_greater key f xs begins.1 each.1)

in_three : {X : Type 0} (f : Child → List X) (xs ys zs : List Child) → flat_map f (xs ++ (ys ++ zs)) ≡ flat_map f xs ++ (flat_map f ys ++ flat_map f zs)
in_three f xs ys zs = flat_map-append f xs (ys ++ zs) ∙ ap (λ us. flat_map f xs ++ us) (flat_map-append f ys zs)

pub count_three : (p : ℕ) (f : Child → List ℕ) (xs ys zs : List Child) → times_in p (flat_map f (xs ++ (ys ++ zs))) ≡ times_in p (flat_map f xs) + (times_in p (flat_map f ys) + times_in p (flat_map f zs))
count_three p f xs ys zs =
    ap (times_in p) (in_three f xs ys zs) ∙ count_append p (flat_map f xs) (flat_map f ys ++ flat_map f zs) ∙ ap (λ (n : ℕ). times_in p (flat_map f xs) + n) (count_append p (flat_map f ys) (flat_map f zs))

pub widens : Widens
widens key edit pages after came went level left old new right local left_subs right_subs ends begins keep e =
    let f : Child → List ℕ = pages_below level pages in
    let f2 : Child → List ℕ = pages_below level after in
    let g : Child → List Entry = entries_below level pages in
    let g2 : Child → List Entry = entries_below level after in
    let all : (q : ℕ) → contains (flat_map f left ++ flat_map f right) q ≡ true → contains (flat_map f (left ++ right)) q ≡ true = λ q i. ap (λ (ps : List ℕ). contains ps q) (flat_map-append f left right) ∙ i in
    let l = kept_all pages after level left (λ q i. keep q (all q (in_left (flat_map f left) (flat_map f right) q i))) left_subs in
    let r = kept_all pages after level right (λ q i. keep q (all q (in_right (flat_map f left) (flat_map f right) q i))) right_subs in
    let between = all_weaker (IsSubtree level pages) (λ x. AllByRecursion (Fits x.low x.high) (g x)) in
    record {
      subtrees = all_append (IsSubtree level after) left (new ++ right) l.subtrees (all_append (IsSubtree level after) new right e.subtrees r.subtrees);
      pages_are = λ p. omega (arith, e.pages_are p, count_three p f left old right, count_three p f2 left new right, ap (times_in p) l.reached, ap (times_in p) r.reached);
      entries = in_three g2 left new right ∙ (λ i. l.entries i ++ (e.entries i ++ r.entries i))
          ∙ sym (local (flat_map g left) (flat_map g old) (flat_map g right)
          (entries_lesser key g left ends (between left (λ x t. entries_between level pages x t) left_subs))
          (entries_greater key g right begins (between right (λ x t. entries_between level pages x t) right_subs)))
          ∙ ap edit (sym (in_three g left old right));
    }
