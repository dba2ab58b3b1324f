-- An entry that is put in below a child.
use Rattle.std.proofs.Common.{◌≡◌, ℕ, zero, suc, ◌+◌, ◌≤◌, Bool, true, false, cond, ◌||◌, List, [], ◌∷◌, ◌++◌, length, take, drop, refl, sym, ap, subst, ◌∙◌, arith, Some, None, Option}
use Rattle.std.specs.Prelude.{◌==◌, slice_get, find, IfOk, IfErr, OnOk, Result, Ok, Err}
use Rattle.std.specs.List.{flat_map, AllByRecursion}
use Rattle.std.specs.Ordering.{is_gt}
use Rattle.std.proofs.lemmas.Bool.{and_parts, eq-eqb, not-true, not-false}
use Rattle.run_table.specs.Space.{contains}
use Rattle.fsd_bytes.specs.declared.key.Key.{Key}
use Rattle.fsd_bytes.specs.Keys.{key_cmp}
use Rattle.fsd_formats.specs.declared.entry.Entry.{Entry}
use Rattle.fsd_formats.specs.declared.page.Separator.{Separator}
use Rattle.fsd_formats.specs.NamePage.{Content, Leaf, Interior}
use Rattle.fsd_table.specs.declared.child.Child.{Child}
use Rattle.fsd_table.specs.Pages.{page_at, children, children_of, not_below, below}
use Rattle.fsd_table.specs.Tree.{entries_below, pages_below, IsInterior, IsSubtree}
use Rattle.fsd_table.proofs.BoundLaws.{all_weaker}
use Rattle.fsd_forest.specs.Parts.{is_inside}
use Rattle.fsd_forest.specs.Ways.{IsUpToKey, IsBehindKey}
use Rattle.fsd_forest.proofs.WayLaws as ways
use Rattle.name_page.specs.Pages.{Step, is_spare}
use Rattle.name_page.specs.declared.cut.Cut.TheVariants.{UpTo}
use Rattle.name_page.specs.Cut.{is_before}
use Rattle.name_page.specs.Lookups.{entry_with}
use Rattle.name_page.proofs.CutLaws.{greater}
use Rattle.name_btree.specs.declared.draft.Sheet.{Sheet}
use Rattle.name_btree.specs.declared.fault.TreeFault.{TreeFault}
use Rattle.name_btree.specs.declared.growing.Grown.{Grown}
use Rattle.name_btree.specs.Draft.{drafted}
use Rattle.name_btree.specs.Fault.{IsMisfit}
use Rattle.name_btree.specs.Grown.{TakesSpare, most_taken, IsBranch, AreUsed, BranchBecomes, Grows, BreaksGrowth}
use Rattle.name_btree.specs.Trim.{child_of}
use Rattle.name_btree.proofs.growth.BranchLaws.{StandAround, left_children, right_children, is_below, branch_below}
use Rattle.name_btree.proofs.ways.DescentLaws.{misfit}
use Rattle.name_btree.proofs.mending.PairLaws.{child_is_at}
use Rattle.name_btree.proofs.growth.StepLaws.{leaf_never}
use Rattle.name_btree.proofs.drafts.TakeLaws.{takes_then}

-- ---- the child around a key

pub record IsMiddle (key : Key) (above d : Child) (first : ℕ) (separators : List Separator) (i : ℕ) : Type 0 where
  pub around : StandAround key separators i
  pub is : d ≡ child_of above first separators i

pub middle_is : (key k : Key) (pages : List (List ℕ)) (above d : Child) (first : ℕ) (separators : List Separator) (i : ℕ) → page_at pages above.page ≡ Some (Interior first separators) → k ≡ key → i ≤ length separators
    → AllByRecursion (λ s. is_before (UpTo k) s.key ≡ true) (take i separators) → AllByRecursion (λ s. is_before (UpTo k) s.key ≡ false) (drop i separators)
    → slice_get (children first above.low above.high separators) i ≡ Some d → IsMiddle key above d first separators i
middle_is key k pages above d first separators i at same within before behind there =
    let upto = all_weaker (λ s. is_before (UpTo k) s.key ≡ true) (IsUpToKey k) (take i separators) (λ s h. sym (greater s.key k) ∙ not-true (is_gt (key_cmp s.key k)) h) before in
    let later = all_weaker (λ s. is_before (UpTo k) s.key ≡ false) (IsBehindKey k) (drop i separators) (λ s h. sym (greater s.key k) ∙ not-false (is_gt (key_cmp s.key k)) h) behind in
    record {
      around = subst (λ (x : Key). StandAround x separators i) same (upto, later);
      is = child_is_at above first separators i d within there;
    }

pub inside_middle : (key : Key) (above d : Child) (first : ℕ) (separators : List Separator) (i : ℕ) → IsMiddle key above d first separators i → is_inside above key ≡ true → is_inside d key ≡ true
inside_middle key above d first separators i m inside =
    let both = and_parts (not_below above.low key) (below above.high key) inside in
    ap (λ (x : Child). is_inside x key) m.is ∙ ways.key_inside key first above.low above.high (take i separators) (drop i separators) both.0 both.1 m.around.0 m.around.1

pub least_taken : (page levels : ℕ) → suc levels ≤ most_taken page levels
least_taken page levels = by (page == 0)
  where
    by : (b : Bool) → suc levels ≤ cond b 2 1 + levels
    by true = omega arith
    by false = omega arith

-- ---- faults

pub misfit_growth : (e : Entry) (pages : List (List ℕ)) (levels : ℕ) (c : Child) (page : ℕ) → IsMisfit pages c page → BreaksGrowth e pages levels c page
misfit_growth e pages levels c page h = λ level low branch none. misfit level pages c h.1 branch.subtree

find_parts : (test : Entry → Bool) (xs ys : List Entry) → find test (xs ++ ys) ≡ None → (find test xs ≡ None) × (find test ys ≡ None)
find_parts test [] ys e = (refl, e)
find_parts test (x ∷ xs) ys e = by (test x) e (λ later. find_parts test xs ys later)
  where
    by : (b : Bool) → cond b (Some x) (find test (xs ++ ys)) ≡ None → (find test (xs ++ ys) ≡ None → (find test xs ≡ None) × (find test ys ≡ None)) → (cond b (Some x) (find test xs) ≡ None) × (find test ys ≡ None)
    by true e later = absurd cc
    by false e later = later e

none_below : (key : Key) (pages : List (List ℕ)) (level : ℕ) (c : Child) (first : ℕ) (separators : List Separator) (i : ℕ) → page_at pages c.page ≡ Some (Interior first separators) → StandAround key separators i → IsSubtree (suc level) pages c
    → entry_with key (entries_below (suc level) pages c) ≡ None → entry_with key (entries_below level pages (child_of c first separators i)) ≡ None
none_below key pages level c first separators i at around sub none =
    let g : Child → List Entry = entries_below level pages in
    let ls : List Entry = flat_map g (left_children c first separators i) in
    let ms : List Entry = g (child_of c first separators i) in
    let rs : List Entry = flat_map g (right_children c separators i) in
    let below = is_below key pages level c first separators i at around sub in
    let all : entry_with key (ls ++ (ms ++ rs)) ≡ None = ap (entry_with key) (sym below.entries_are) ∙ none in
    (find_parts _ ms rs (find_parts _ ls (ms ++ rs) all).1).0

pub growth_below : (e : Entry) (pages : List (List ℕ)) (levels : ℕ) (c : Child) (first : ℕ) (separators : List Separator) (i page : ℕ) → page_at pages c.page ≡ Some (Interior first separators)
    → StandAround e.key separators i → BreaksGrowth e pages levels (child_of c first separators i) page → BreaksGrowth e pages (suc levels) c page
growth_below e pages levels c first separators i page at around h zero low branch none = leaf_never pages c (page_at pages c.page) first separators at branch.subtree
growth_below e pages levels c first separators i page at around h (suc level) low branch none =
    h level (omega (arith, low)) (branch_below e.key pages level c first separators i at around branch).0 (none_below e.key pages level c first separators i at around branch.subtree none)

itself_below : (level : ℕ) (pages : List (List ℕ)) (c : Child) → contains (pages_below level pages c) c.page ≡ true
itself_below zero pages c = ap (λ (b : Bool). b || false) (eq-eqb c.page c.page refl)
itself_below (suc level) pages c = ap (λ (b : Bool). b || contains (flat_map (pages_below level pages) (children_of c.low c.high (page_at pages c.page))) c.page) (eq-eqb c.page c.page refl)

-- page 0 stands below no other
pub zero_below : (e : Entry) (pages : List (List ℕ)) (levels : ℕ) (c : Child) (first : ℕ) (separators : List Separator) (i page : ℕ) → page_at pages c.page ≡ Some (Interior first separators) → StandAround e.key separators i
    → (child_of c first separators i).page ≡ 0 → BreaksGrowth e pages levels c page
zero_below e pages levels c first separators i page at around is = λ level low branch none. by level branch
  where
    by : (level : ℕ) → IsBranch pages level c → ⊥
    by zero branch = leaf_never pages c (page_at pages c.page) first separators at branch.subtree
    by (suc level) branch =
        (branch_below e.key pages level c first separators i at around branch).1.1
        (subst (λ (n : ℕ). contains (pages_below level pages (child_of c first separators i)) n ≡ true) is (itself_below level pages (child_of c first separators i)))

-- ---- a leaf is on the lowest level

interior_never : (P : Child → Type 0) (c : Child) (x : Option Content) (entries : List Entry) → x ≡ Some (Leaf entries) → IsInterior P c x → ⊥
interior_never P c x entries at h = subst (IsInterior P c) at h

pub leaf_grows : (e : Entry) (old new : Step) (pages after : List (List ℕ)) (levels : ℕ) (c : Child) (g : Grown) (entries : List Entry) → page_at pages c.page ≡ Some (Leaf entries) → Grows e old new pages after 0 c g → Grows e old new pages after levels c g
leaf_grows e old new pages after levels c g entries at grows = record {
  came = grows.came;
  few = omega (arith, grows.few);
  takes = grows.takes;
  sound = grows.sound;
  place = grows.place;
  divided = grows.divided;
  full = grows.full;
  becomes = λ level low branch used. by level branch used;
}
  where
    by : (level : ℕ) → IsBranch pages level c → AreUsed old (pages_below level pages c) → BranchBecomes e pages after grows.came level c g
    by zero branch used = grows.becomes 0 (omega arith) branch used
    by (suc level) branch used = absurd (interior_never (IsSubtree level pages) c (page_at pages c.page) entries at branch.subtree)

pub leaf_growth : (e : Entry) (pages : List (List ℕ)) (levels : ℕ) (c : Child) (entries : List Entry) (page : ℕ) → page_at pages c.page ≡ Some (Leaf entries) → BreaksGrowth e pages 0 c page → BreaksGrowth e pages levels c page
leaf_growth e pages levels c entries page at h zero low branch none = h 0 (omega arith) branch none
leaf_growth e pages levels c entries page at h (suc level) low branch none = interior_never (IsSubtree level pages) c (page_at pages c.page) entries at branch.subtree

-- ---- results

pub ok_grows : (r : Result Grown TreeFault) (P Q : Grown → Type 0) → ((g : Grown) → P g → Q g) → IfOk r P → IfOk r Q
ok_grows (Ok g) P Q f h = f g h
ok_grows (Err fault) P Q f h = h

pub on_grows : (r : Result Grown TreeFault) (P : Grown → Type 0) (Q : Type 0) → ((g : Grown) → P g → Q) → IfOk r P → OnOk r Q
on_grows (Ok g) P Q f h = f g h
on_grows (Err fault) P Q f h = tt

pub err_grows : (r : Result Grown TreeFault) (P Q : TreeFault → Type 0) → ((fault : TreeFault) → P fault → Q fault) → IfErr r P → IfErr r Q
err_grows (Ok g) P Q f h = h
err_grows (Err fault) P Q f h = f fault h

-- ---- a step that looked before

pub grows_looked : (e : Entry) (first old new : Step) (sheets : List Sheet) (after : List (List ℕ)) (levels : ℕ) (c : Child) (g : Grown) → TakesSpare first old [] → old.spares ≡ first.spares → Grows e old new (drafted sheets old.images) after levels c g
    → Grows e first new (drafted sheets first.images) after levels c g
grows_looked e first old new sheets after levels c g takes spares h =
    let grows : Grows e old new (drafted sheets first.images) after levels c g = subst (λ (im : List (List ℕ)). Grows e old new (drafted sheets im) after levels c g) takes.images h in
    let Used : List Bool → ℕ → Type 0 = λ (s : List Bool) (p : ℕ). is_spare s p ≡ false in
    record {
      came = grows.came;
      few = grows.few;
      takes = takes_then first old new [] grows.came takes grows.takes;
      sound = grows.sound;
      place = grows.place;
      divided = grows.divided;
      full = grows.full;
      becomes = λ level low branch used. grows.becomes level low branch (λ p there. subst (λ (s : List Bool). Used s p) (sym spares) (used p there));
    }
