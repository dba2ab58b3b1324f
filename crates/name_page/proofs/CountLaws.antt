-- How many entries stand below a page, at most.
use Rattle.std.proofs.Common.{◌≡◌, ℕ, zero, suc, ◌+◌, ◌≤◌, ◌<◌, ◌^◌, true, ◌&&◌, List, [], ◌∷◌, length, take, Option, Some, None, refl, ap, arith, length-append}
use Rattle.std.specs.Prelude.{nat_lt}
use Rattle.std.specs.List.{flat_map, list_all, AllByRecursion}
use Rattle.std.proofs.lemmas.Bool.{and_parts}
use Rattle.fsd_bytes.specs.Keys.{is_key}
use Rattle.fsd_bytes.specs.Names.{is_between}
use Rattle.fsd_formats.specs.declared.entry.Entry.{Entry}
use Rattle.fsd_formats.specs.declared.page.Separator.{Separator}
use Rattle.fsd_formats.specs.NamePage.{Content, Free, Leaf, Interior, is_page, is_entry, contents_of, are_ascending, room, least_used, least_separators}
use Rattle.fsd_table.specs.declared.child.Child.{Child}
use Rattle.fsd_table.specs.Pages.{page_at, children, children_of, entries_of, entry_keys, separator_keys}
use Rattle.fsd_table.specs.Tree.{entries_below, IsLeaf, IsInterior, IsSubtree}
use Rattle.fsd_table.proofs.PageLaws.{at_is_page}
use Rattle.name_page.proofs.LeafLaws.{between}
use Rattle.fsd_table.proofs.PageLaws.{length_of_children}
use Rattle.name_page.proofs.LengthLaws.{count_below}

pub leaf_few : (page p : ℕ) (entries : List Entry) → is_page page p (Leaf entries) ≡ true → length entries ≤ 488
leaf_few page p entries e =
    let fits = (and_parts (list_all is_entry entries && are_ascending (entry_keys entries)) (is_between (least_used page) room (length (contents_of (Leaf entries)))) e).1 in
    let most = (between (least_used page) room (length (contents_of (Leaf entries))) fits).1 in
    omega (arith, count_below entries, most)

pub interior_few : (page p first : ℕ) (separators : List Separator) → is_page page p (Interior first separators) ≡ true → length separators ≤ 9
interior_few page p first separators e =
    let all = list_all (λ s. is_key s.key && nat_lt s.child p) separators in
    let fits = (and_parts (all && are_ascending (separator_keys separators) && nat_lt first p) (is_between (least_separators page) 9 (length separators)) e).1 in
    (between (least_separators page) 9 (length separators) fits).1

pub few_separators : (pages : List (List ℕ)) (page first : ℕ) (separators : List Separator) → page_at pages page ≡ Some (Interior first separators) → length separators ≤ 9
few_separators pages page first separators at = interior_few page (length pages) first separators (at_is_page pages page (Interior first separators) at)

-- ---- so many times as much

abbrev times : ℕ → ℕ → ℕ
times zero m = 0
times (suc n) m = m + times n m

abbrev most : ℕ → ℕ
most zero = 488
most (suc level) = times 10 (most level)

many : (f : Child → List Entry) (P : Child → Type 0) (m : ℕ) → ((d : Child) → P d → length (f d) ≤ m) → (cs : List Child) (k : ℕ) → length cs ≤ k → AllByRecursion P cs → length (flat_map f cs) ≤ times k m
many f P m each [] k few a = omega arith
many f P m each (d ∷ cs) zero few a = absurd (omega arith)
many f P m each (d ∷ cs) (suc k) few a =
    let low : length cs ≤ k = omega arith in
    omega (arith, length-append (f d) (flat_map f cs), each d a.0, many f P m each cs k low a.1)

leaf_by : (pages : List (List ℕ)) (c : Child) (x : Option Content) → page_at pages c.page ≡ x → IsLeaf c x → length (entries_of x) ≤ 488
leaf_by pages c None at h = absurd h
leaf_by pages c (Some Free) at h = absurd h
leaf_by pages c (Some (Leaf entries)) at h = leaf_few c.page (length pages) entries (at_is_page pages c.page (Leaf entries) at)
leaf_by pages c (Some (Interior first separators)) at h = absurd h

interior_by : (level : ℕ) (pages : List (List ℕ)) (c : Child) (x : Option Content) → page_at pages c.page ≡ x → IsInterior (IsSubtree level pages) c x
    → ((d : Child) → IsSubtree level pages d → length (entries_below level pages d) ≤ most level) → length (flat_map (entries_below level pages) (children_of c.low c.high x)) ≤ times 10 (most level)
interior_by level pages c None at h each = absurd h
interior_by level pages c (Some Free) at h each = absurd h
interior_by level pages c (Some (Leaf entries)) at h each = absurd h
interior_by level pages c (Some (Interior first separators)) at h each =
    let few : length (children first c.low c.high separators) ≤ 10 = omega (arith, length_of_children first c.low c.high separators, few_separators pages c.page first separators at) in
    many (entries_below level pages) (IsSubtree level pages) (most level) each (children first c.low c.high separators) 10 few h.1

few_below : (level : ℕ) (pages : List (List ℕ)) (c : Child) → IsSubtree level pages c → length (entries_below level pages c) ≤ most level
few_below zero pages c h = leaf_by pages c (page_at pages c.page) refl h
few_below (suc level) pages c h = interior_by level pages c (page_at pages c.page) refl h (λ d t. few_below level pages d t)

most_is : (level : ℕ) → level ≤ 4 → times 10 (most level) < 2 ^ 32
most_is zero h = omega arith
most_is (suc zero) h = omega arith
most_is (suc (suc zero)) h = omega arith
most_is (suc (suc (suc zero))) h = omega arith
most_is (suc (suc (suc (suc zero)))) h = omega arith
most_is (suc (suc (suc (suc (suc level))))) h = absurd (omega arith)

-- the entries below so many children are counted in 32 bits
pub few_entries : (level : ℕ) (pages : List (List ℕ)) (cs : List Child) → level ≤ 4 → length cs ≤ 10 → AllByRecursion (IsSubtree level pages) cs → length (flat_map (entries_below level pages) cs) < 2 ^ 32
few_entries level pages cs low few a =
    omega (arith, many (entries_below level pages) (IsSubtree level pages) (most level) (λ d t. few_below level pages d t) cs 10 few a, most_is level low)

-- ---- the first of some children

pub take_short : (n : ℕ) (cs : List Child) → length (take n cs) ≤ length cs
take_short zero cs = omega arith
take_short (suc n) [] = omega arith
take_short (suc n) (c ∷ cs) = omega (arith, take_short n cs)

pub take_whole : (n : ℕ) (cs : List Child) → length cs ≤ n → take n cs ≡ cs
take_whole zero [] h = refl
take_whole zero (c ∷ cs) h = absurd (omega arith)
take_whole (suc n) [] h = refl
take_whole (suc n) (c ∷ cs) h = let low : length cs ≤ n = omega arith in ap (λ (xs : List Child). c ∷ xs) (take_whole n cs low)
