-- A table has no more than a page for each entry beside its root: each other leaf has two entries at least, and each interior page
-- leads to two pages at least.
use Rattle.std.proofs.Common.{◌≡◌, ℕ, zero, suc, ◌+◌, ◌-◌, ◌≤◌, Bool, true, false, cond, ◌&&◌, not, List, [], ◌∷◌, length, Option, Some, None, refl, sym, subst, ◌∙◌, arith, length-append}
use Rattle.std.specs.Prelude.{◌==◌, nat_le, nat_lt}
use Rattle.std.specs.List.{flat_map, list_all, AllByRecursion}
use Rattle.std.proofs.lemmas.Bool.{and_parts, or_parts, leb-true, not-true}
use Rattle.std.proofs.lemmas.List.Folds.{list_any-append}
use Rattle.run_table.specs.Space.{contains, all_differ}
use Rattle.fsd_bytes.specs.Keys.{is_key}
use Rattle.fsd_bytes.specs.Names.{is_between}
use Rattle.fsd_formats.specs.declared.entry.Entry.{Entry}
use Rattle.fsd_formats.specs.declared.page.Separator.{Separator}
use Rattle.fsd_formats.specs.NamePage.{Content, Free, Leaf, Interior, is_entry, is_page, entry_bytes, are_ascending, contents_of, least_separators, least_used, room}
use Rattle.fsd_table.specs.declared.child.Child.{Child}
use Rattle.fsd_table.specs.Pages.{page_at, children_of, entries_of, entry_keys, separator_keys}
use Rattle.fsd_table.specs.Table.{top}
use Rattle.fsd_table.specs.Tree.{IsLeaf, IsInterior, IsSubtree, IsTree, entries_below, pages_below, pages_of, table_of}
use Rattle.fsd_table.proofs.EntryLaws.{entry_short}
use Rattle.fsd_table.proofs.PageLaws.{at_is_page, length_of_children, subtrees_of}

-- ---- a leaf that isn't page 0

two_entries : (page p : ℕ) (entries : List Entry) → is_page page p (Leaf entries) ≡ true → (page == 0) ≡ false → 2 ≤ length entries
two_entries page p entries e other =
    let all = list_all is_entry entries in
    let parts = and_parts (all && are_ascending (entry_keys entries)) (is_between (least_used page) room (length (contents_of (Leaf entries)))) e in
    let good = (and_parts all (are_ascending (entry_keys entries)) parts.0).0 in
    let least = leb-true (least_used page) (length (contents_of (Leaf entries))) (and_parts (nat_le (least_used page) (length (contents_of (Leaf entries)))) (nat_le (length (contents_of (Leaf entries))) room) parts.1).0 in
    let many : 190 ≤ length (flat_map entry_bytes entries) = subst (λ (b : Bool). cond b 0 190 ≤ length (flat_map entry_bytes entries)) other least in
    by entries good many
  where
    by : (entries : List Entry) → list_all is_entry entries ≡ true → 190 ≤ length (flat_map entry_bytes entries) → 2 ≤ length entries
    by [] good many = absurd (omega (arith, many))
    by (x ∷ []) good many =
        let short = entry_short x (and_parts (is_entry x) true good).0 in
        let long = length-append (entry_bytes x) [] in
        absurd (omega (arith, many, short, long))
    by (x ∷ y ∷ more) good many = omega arith

-- ---- subtrees

some_separator : (page p first : ℕ) (separators : List Separator) → is_page page p (Interior first separators) ≡ true → 1 ≤ length separators
some_separator page p first separators e =
    let all = list_all (λ s. is_key s.key && nat_lt s.child p) separators in
    let within = and_parts (all && are_ascending (separator_keys separators) && nat_lt first p) (is_between (least_separators page) 9 (length separators)) e in
    let least = leb-true (least_separators page) (length separators) (and_parts (nat_le (least_separators page) (length separators)) (nat_le (length separators) 9) within.1).0 in
    by (page == 0) least
  where
    by : (b : Bool) → cond b 1 4 ≤ length separators → 1 ≤ length separators
    by true h = h
    by false h = omega (arith, h)

pub two_children : (pages : List (List ℕ)) (P : Child → Type 0) (c : Child) (x : Option Content) → page_at pages c.page ≡ x → IsInterior P c x → 2 ≤ length (children_of c.low c.high x)
two_children pages P c None at h = absurd h
two_children pages P c (Some Free) at h = absurd h
two_children pages P c (Some (Leaf entries)) at h = absurd h
two_children pages P c (Some (Interior first separators)) at h =
    let long = length_of_children first c.low c.high separators in
    let some = some_separator c.page (length pages) first separators (at_is_page pages c.page (Interior first separators) at) in
    omega (arith, long, some)

leaf_many : (pages : List (List ℕ)) (c : Child) (x : Option Content) → page_at pages c.page ≡ x → IsLeaf c x → (c.page == 0) ≡ false → 2 ≤ length (entries_of x)
leaf_many pages c None at h other = absurd h
leaf_many pages c (Some Free) at h other = absurd h
leaf_many pages c (Some (Interior first separators)) at h other = absurd h
leaf_many pages c (Some (Leaf entries)) at h other = two_entries c.page (length pages) entries (at_is_page pages c.page (Leaf entries) at) other

-- side by side, each with a page less than it has entries
flat_few : (level : ℕ) (pages : List (List ℕ)) → ((d : Child) → IsSubtree level pages d → contains (pages_below level pages d) 0 ≡ false → length (pages_below level pages d) + 1 ≤ length (entries_below level pages d)) → (cs : List Child)
    → AllByRecursion (IsSubtree level pages) cs → contains (flat_map (pages_below level pages) cs) 0 ≡ false → length (flat_map (pages_below level pages) cs) + length cs ≤ length (flat_map (entries_below level pages) cs)
flat_few level pages each [] subs none = omega arith
flat_few level pages each (c ∷ cs) subs none =
    let f : Child → List ℕ = pages_below level pages in
    let g : Child → List Entry = entries_below level pages in
    let parts = or_parts (contains (f c) 0) (contains (flat_map f cs) 0) (sym (list_any-append (λ t. t == 0) (f c) (flat_map f cs)) ∙ none) in
    let here = each c subs.0 parts.0 in
    let rest = flat_few level pages each cs subs.1 parts.1 in
    omega (arith, here, rest, length-append (f c) (flat_map f cs), length-append (g c) (flat_map g cs))

few_below : (level : ℕ) (pages : List (List ℕ)) (c : Child) → IsSubtree level pages c → contains (pages_below level pages c) 0 ≡ false → length (pages_below level pages c) + 1 ≤ length (entries_below level pages c)
few_below zero pages c h none =
    let parts = or_parts (c.page == 0) false none in
    let many = leaf_many pages c (page_at pages c.page) refl h parts.0 in
    omega (arith, many)
few_below (suc level) pages c h none =
    let x : Option Content = page_at pages c.page in
    let kids : List Child = children_of c.low c.high x in
    let parts = or_parts (c.page == 0) (contains (flat_map (pages_below level pages) kids) 0) none in
    let flat = flat_few level pages (few_below level pages) kids (subtrees_of (IsSubtree level pages) c x h) parts.1 in
    let two = two_children pages (IsSubtree level pages) c x refl h in
    omega (arith, flat, two)

-- ---- page 0

few_at_top : (level : ℕ) (pages : List (List ℕ)) → IsSubtree level pages top → all_differ (pages_below level pages top) ≡ true → length (pages_below level pages top) ≤ length (entries_below level pages top) + 1
few_at_top zero pages h apart = omega arith
few_at_top (suc level) pages h apart =
    let x : Option Content = page_at pages 0 in
    let kids : List Child = children_of None None x in
    let none = not-true (contains (flat_map (pages_below level pages) kids) 0) (and_parts (not (contains (flat_map (pages_below level pages) kids) 0)) (all_differ (flat_map (pages_below level pages) kids)) apart).0 in
    let flat = flat_few level pages (few_below level pages) kids (subtrees_of (IsSubtree level pages) top x h) none in
    omega (arith, flat)

pub few_pages : (pages : List (List ℕ)) (height : ℕ) → IsTree pages height → length (pages_of pages height) ≤ length (table_of pages height) + 1
few_pages pages height t = few_at_top (height - 1) pages t.subtree t.apart

pub some_below : (level : ℕ) (pages : List (List ℕ)) (c : Child) → 1 ≤ length (pages_below level pages c)
some_below zero pages c = omega arith
some_below (suc level) pages c = omega arith

pub some_page : (pages : List (List ℕ)) (height : ℕ) → 1 ≤ length (pages_of pages height)
some_page pages height = some_below (height - 1) pages top
