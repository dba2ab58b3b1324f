-- What is left of page 0, and a tree without a key.
use Rattle.std.proofs.Common.{◌≡◌, inl, inr, ℕ, zero, suc, ◌-◌, ◌<◌, ◌≤◌, true, ◌||◌, List, [], ◌∷◌, ◌++◌, length, Option, Some, None, refl, sym, ap, subst, ◌∙◌, arith}
use Rattle.std.proofs.lemmas.Option.{same_Some}
use Rattle.std.specs.Prelude.{Result, Ok, Err, OnOk}
use Rattle.std.specs.List.{AllByRecursion}
use Rattle.std.proofs.lemmas.List.{append-nil}
use Rattle.run_table.specs.Space.{contains, all_differ}
use Rattle.fsd_bytes.specs.declared.key.Key.{Key}
use Rattle.fsd_formats.specs.declared.page.Separator.{Separator}
use Rattle.fsd_formats.specs.NamePage.{least_separators}
use Rattle.fsd_table.specs.declared.child.Child.{Child}
use Rattle.fsd_table.specs.Pages.{page_at, children, children_of}
use Rattle.fsd_table.specs.Table.{top}
use Rattle.fsd_table.specs.Tree.{pages_of, pages_below, IsTree, IsSubtree, IsLeaf, IsInterior}
use Rattle.fsd_forest.specs.Forest.{inner, times_in, forest_pages, Becomes, TreeBecomes}
use Rattle.fsd_forest.proofs.CountLaws.{count_cons, count_append, count_nothing, differ_counts}
use Rattle.fsd_forest.proofs.TreeLaws.{trees_become}
use Rattle.fsd_forest.proofs.ShrinkLaws.{trees_shrink}
use Rattle.name_page.specs.Edits.{without}
use Rattle.name_page.specs.Pages.{Step}
use Rattle.name_btree.specs.declared.draft.Draft.{Draft}
use Rattle.name_btree.specs.declared.draft.Sheet.{Sheet}
use Rattle.name_btree.specs.declared.fault.TreeFault.{TreeFault}
use Rattle.name_btree.specs.declared.trimming.Trimmed.{Trimmed}
use Rattle.name_btree.specs.declared.trimming.Trimmed.TheVariants.{Whole, Leaf, Interior}
use Rattle.name_btree.specs.Draft.{drafted}
use Rattle.name_btree.specs.Remove.{IsAround, IsTrimmed, IsTrimmedBelow, BreaksAround, IsRootLeft}
use Rattle.name_btree.specs.Fault.{IsNoTree}
use Rattle.name_btree.specs.Trim.{IsFreeOrNone, AreWaysPut, IsTrimmedAbove, IsTakenOver}
use Rattle.name_btree.proofs.mending.LeafTreeLaws.{freed_has, one_same, head_counts}
use Rattle.name_btree.proofs.mending.RemoveLaws.{stays_but}

-- ---- what is left

put_root : (step : Step) (old new : List Sheet) (page first : ℕ) (separators : List Separator) (left : Trimmed) → AreWaysPut step old new page first separators left → IsRootLeft page left
put_root step old new page first separators Whole h = tt
put_root step old new page first separators (Leaf list) h = absurd h
put_root step old new page first separators (Interior f list) h = subst (λ (ys : List Separator). length ys < least_separators page) (sym h.2) h.3

pub mended_root : (step : Step) (old new : Draft) (above : Child) (first : ℕ) (xs : List Separator) (i : ℕ) (below left : Trimmed) → IsTrimmedAbove step old new above first xs i below left → IsRootLeft above.page left
mended_root step old new above first xs i Whole left m = subst (IsRootLeft above.page) (sym m.0) tt
mended_root step old new above first xs i (Leaf list) left m = elim m.mended [
  | inl j ↦ put_root step j.middle new.sheets.items above.page first _ left j.above
  | inr s ↦ subst (IsRootLeft above.page) (sym s.shared.whole) tt
]
mended_root step old new above first xs i (Interior lead list) left m = elim m.mended [
  | inl j ↦ put_root step j.middle new.sheets.items above.page first _ left j.above
  | inr s ↦ subst (IsRootLeft above.page) (sym s.shared.whole) tt
]

-- ---- a tree

pub tree_around : (key : Key) (pages : List (List ℕ)) (height : ℕ) → IsTree pages height → IsAround key pages (height - 1) top
tree_around key pages height tree = record { subtree = tree.subtree; low = refl; high = refl; apart = tree.apart; inner = λ h. refl }

pub whole_tree : (key : Key) (pages after : List (List ℕ)) (old new : List ℕ) → IsTrimmedBelow key pages after old new 5 top Whole → (height : ℕ) → IsTree pages height
    → (went : List ℕ) × TreeBecomes (without key) pages after [] went height × ((page : ℕ) → contains new page ≡ (contains old page || contains went page))
whole_tree key pages after old new t height tree =
    let h = t (height - 1) (omega (arith, tree.most)) (tree_around key pages height tree) in
    let apart : all_differ (pages_of pages height ++ []) ≡ true = ap all_differ (append-nil (pages_of pages height)) ∙ tree.apart in
    (h.went, trees_become (without key) pages after [] h.went height tree apart h.becomes, h.freed)

-- page 0 has what its only child had
shrunk : (step : Step) (key : Key) (pages : List (List ℕ)) (mid new : Draft) (old0 : List ℕ) (height l first : ℕ) (list : List Separator) → IsTree pages height → height - 1 ≡ suc l → list ≡ [] → (went : List ℕ)
    → ((q : ℕ) → contains mid.freed.items q ≡ (contains old0 q || contains went q))
    → Becomes (without key) pages (drafted mid.sheets.items step.images) [] went l (children_of None None (page_at pages 0)) (children first None None list)
    → IsTakenOver step mid new first
    → (went2 : List ℕ) × TreeBecomes (without key) pages (drafted new.sheets.items step.images) [] went2 height × ((page : ℕ) → contains new.freed.items page ≡ (contains old0 page || contains went2 page))
shrunk step key pages mid new old0 height l first list tree up none went freed b taken =
    let between : List (List ℕ) = drafted mid.sheets.items step.images in
    let after : List (List ℕ) = drafted new.sheets.items step.images in
    let c : Child = record { page = first; low = None; high = None } in
    let old : List Child = children_of None None (page_at pages 0) in
    let b1 : Becomes (without key) pages between [] went l old (c ∷ []) = subst (λ (ys : List Separator). Becomes (without key) pages between [] went l old (children first None None ys)) none b in
    let b2 : Becomes (without key) pages between [] went l (inner pages (top ∷ [])) (c ∷ []) = subst (λ (cs : List Child). Becomes (without key) pages between [] went l cs (c ∷ [])) (sym (append-nil old)) b1 in
    let low : l ≡ height - 2 = omega (arith, up) in
    let b3 = subst (λ (n : ℕ). Becomes (without key) pages between [] went n (inner pages (top ∷ [])) (c ∷ [])) low b2 in
    let apart = subst (λ (n : ℕ). all_differ (pages_below n pages top) ≡ true) up tree.apart in
    let top_once : times_in 0 (forest_pages l pages old) ≤ 0 = omega (arith, differ_counts (pages_below (suc l) pages top) apart 0, count_cons 0 0 (forest_pages l pages old), one_same 0 0 refl) in
    let some : first ≡ 0 → ⊥ = λ e. absurd (omega (arith, top_once, b1.pages_are 0, count_nothing 0, head_counts 0 l between c, one_same first 0 e, count_append 0 (pages_below l between c) [])) in (
      first ∷ went,
      trees_shrink (without key) pages between after went height first tree (omega (arith, up)) b3 (taken.now.content ∙ sym taken.was) (stays_but mid.sheets.items new.sheets.items step 0 taken.content taken.now),
      λ q. ap (λ (ps : List ℕ). contains ps q) taken.freed ∙ freed_has first old0 mid.freed.items went some freed q,
    )

abbrev pub only_of : Trimmed → Option ℕ
only_of Whole = None
only_of (Leaf list) = None
only_of (Interior first list) = Some first

none_of : {X : Type 0} (xs : List X) → length xs < 1 → xs ≡ []
none_of [] h = refl
none_of (x ∷ xs) h = absurd (omega (arith, h))

pub shrunk_tree : (step : Step) (key : Key) (pages : List (List ℕ)) (mid new : Draft) (old0 : List ℕ) (first : ℕ) (left : Trimmed) → only_of left ≡ Some first → IsRootLeft 0 left → IsTrimmedBelow key pages (drafted mid.sheets.items step.images) old0 mid.freed.items 5 top left
    → IsTakenOver step mid new first → (height : ℕ) → IsTree pages height
    → (went2 : List ℕ) × TreeBecomes (without key) pages (drafted new.sheets.items step.images) [] went2 height × ((page : ℕ) → contains new.freed.items page ≡ (contains old0 page || contains went2 page))
shrunk_tree step key pages mid new old0 first Whole is root t taken height tree = absurd cc
shrunk_tree step key pages mid new old0 first (Leaf list) is root t taken height tree = absurd cc
shrunk_tree step key pages mid new old0 first (Interior only list) is root t taken height tree =
    by (height - 1) refl (t (height - 1) (omega (arith, tree.most)) (tree_around key pages height tree))
  where
    by : (n : ℕ) → height - 1 ≡ n → IsTrimmed key pages (drafted mid.sheets.items step.images) old0 mid.freed.items n top (Interior only list)
        → (went2 : List ℕ) × TreeBecomes (without key) pages (drafted new.sheets.items step.images) [] went2 height × ((page : ℕ) → contains new.freed.items page ≡ (contains old0 page || contains went2 page))
    by zero up h = absurd h.becomes
    by (suc l) up h =
        shrunk step key pages mid new old0 height l only list.items tree up (none_of list.items root) h.went h.freed h.becomes (subst (IsTakenOver step mid new) (sym (same_Some only first is)) taken)

-- ---- faults

not_free : (l : ℕ) (pages : List (List ℕ)) (c : Child) → IsFreeOrNone (page_at pages c.page) → IsSubtree l pages c → ⊥
not_free zero pages c (inl at) sub = subst (IsLeaf c) at sub
not_free zero pages c (inr at) sub = subst (IsLeaf c) at sub
not_free (suc l) pages c (inl at) sub = subst (IsInterior (IsSubtree l pages) c) at sub
not_free (suc l) pages c (inr at) sub = subst (IsInterior (IsSubtree l pages) c) at sub

pub free_breaks : (key : Key) (pages between : List (List ℕ)) (old0 new0 : List ℕ) (first : ℕ) (left : Trimmed) → only_of left ≡ Some first → IsTrimmedBelow key pages between old0 new0 5 top left → IsFreeOrNone (page_at between first) → (height : ℕ) → IsTree pages height → ⊥
free_breaks key pages between old0 new0 first Whole is t free height tree = absurd cc
free_breaks key pages between old0 new0 first (Leaf list) is t free height tree = absurd cc
free_breaks key pages between old0 new0 first (Interior only list) is t free height tree = by (height - 1) (t (height - 1) (omega (arith, tree.most)) (tree_around key pages height tree))
  where
    head : (l : ℕ) (ys : List Separator) → AllByRecursion (IsSubtree l between) (children only None None ys) → ⊥
    head l [] a = not_free l between (record { page = only; low = None; high = None }) (subst (λ (p : ℕ). IsFreeOrNone (page_at between p)) (sym (same_Some only first is)) free) a.0
    head l (y ∷ ys) a = not_free l between (record { page = only; low = None; high = Some y.key }) (subst (λ (p : ℕ). IsFreeOrNone (page_at between p)) (sym (same_Some only first is)) free) a.0

    by : (n : ℕ) → IsTrimmed key pages between old0 new0 n top (Interior only list) → ⊥
    by zero h = h.becomes
    by (suc l) h = head l list.items h.becomes.subtrees

pub on_ok_more : {X : Type 0} (r : Result X TreeFault) (A B : Type 0) → (A → B) → OnOk r A → OnOk r B
on_ok_more (Ok x) A B f h = f h
on_ok_more (Err fault) A B f h = tt

pub around_breaks : (key : Key) (pages : List (List ℕ)) (c : Child) (page : ℕ) → c ≡ top → BreaksAround key pages 5 c page → IsNoTree pages
around_breaks key pages c page is h = λ height tree. (subst (λ (d : Child). BreaksAround key pages 5 d page) is h) (height - 1) (omega (arith, tree.most)) (tree_around key pages height tree)
