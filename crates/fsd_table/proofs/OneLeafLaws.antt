-- A table of one page is a leaf, and tells its entries.
use Rattle.std.proofs.Common.{◌≡◌, ℕ, zero, suc, ◌-◌, ◌≤◌, true, List, [], ◌∷◌, length, Option, Some, None, refl, sym, ap, subst, ◌∙◌, arith, length-append}
use Rattle.std.specs.List.{flat_map}
use Rattle.std.proofs.lemmas.Bool.{and_from}
use Rattle.fsd_bytes.specs.declared.key.Key.{Key}
use Rattle.fsd_formats.specs.declared.entry.Entry.{Entry}
use Rattle.fsd_formats.specs.NamePage.{Content, Free, Leaf, Interior}
use Rattle.fsd_table.specs.declared.child.Child.{Child}
use Rattle.fsd_table.specs.Pages.{page_at, children_of, entries_of, entry_keys, keys_fit}
use Rattle.fsd_table.specs.Table.{Telling, told_in, one_leaf, top}
use Rattle.fsd_table.specs.Tree.{IsLeaf, IsSubtree, entries_below, pages_below, pages_of}
use Rattle.fsd_table.proofs.FewLaws.{some_below, two_children}
use Rattle.fsd_table.proofs.TreeLaws.{told_tree}
use Rattle.fsd_table.proofs.VisitLaws.{tree_told}

-- no key is outside where there are no bounds
all_fit : (keys : List Key) → keys_fit None None keys ≡ true
all_fit [] = refl
all_fit (k ∷ keys) = and_from true (keys_fit None None keys) refl (all_fit keys)

pub leaf_told : (pages : List (List ℕ)) (entries : List Entry) → page_at pages 0 ≡ Some (Leaf entries) → told_in pages ≡ Some (one_leaf entries)
leaf_told pages entries at =
    let leaf : IsLeaf top (page_at pages 0) = subst (IsLeaf top) (sym at) (all_fit (entry_keys entries)) in
    tree_told pages 1 (record { least = omega arith; most = omega arith; subtree = leaf; apart = refl }) ∙ ap (λ (x : Option Content). Some (one_leaf (entries_of x))) at

-- ---- the other way round

-- an interior page leads to two more at least
many_pages : (level : ℕ) (pages : List (List ℕ)) (c : Child) → IsSubtree (suc level) pages c → 2 ≤ length (pages_below (suc level) pages c)
many_pages level pages c h = by (children_of c.low c.high (page_at pages c.page)) (two_children pages (IsSubtree level pages) c (page_at pages c.page) refl h)
  where
    by : (kids : List Child) → 2 ≤ length kids → 2 ≤ length (c.page ∷ flat_map (pages_below level pages) kids)
    by [] two = absurd (omega (arith, two))
    by (d ∷ kids) two =
        let some = some_below level pages d in
        omega (arith, some, length-append (pages_below level pages d) (flat_map (pages_below level pages) kids))

leaf_is : (x : Option Content) → IsLeaf top x → x ≡ Some (Leaf (entries_of x))
leaf_is None h = absurd h
leaf_is (Some Free) h = absurd h
leaf_is (Some (Leaf entries)) h = refl
leaf_is (Some (Interior first separators)) h = absurd h

-- a telling of one page is of page 0, a leaf
pub one_is_leaf : (pages : List (List ℕ)) (t : Telling) → told_in pages ≡ Some t → t.reached ≡ 1 → page_at pages 0 ≡ Some (Leaf t.entries)
one_is_leaf pages t told one =
    let tree = told_tree pages t told in
    let is = sym told ∙ tree_told pages tree.0 tree.1 in
    let reached : length (pages_of pages tree.0) ≡ 1 = sym (ap reached_in is) ∙ one in
    by (tree.0 - 1) tree.1.subtree reached (ap entries_in is)
  where
    reached_in : Option Telling → ℕ
    reached_in None = 0
    reached_in (Some t) = t.reached

    entries_in : Option Telling → List Entry
    entries_in None = []
    entries_in (Some t) = t.entries

    by : (level : ℕ) → IsSubtree level pages top → length (pages_below level pages top) ≡ 1 → t.entries ≡ entries_below level pages top → page_at pages 0 ≡ Some (Leaf t.entries)
    by zero sub few entries = leaf_is (page_at pages 0) sub ∙ ap (λ (es : List Entry). Some (Leaf es)) (sym entries)
    by (suc level) sub few entries = absurd (let many = many_pages level pages top sub in omega (arith, many, few))
