-- What the grammar of a page says of what it has.
use Rattle.std.proofs.Common.{◌≡◌, ℕ, suc, Bool, true, false, cond, ◌&&◌, List, [], ◌∷◌, length, Option, Some, None, refl, ap, ◌∙◌, sym}
use Rattle.std.specs.Prelude.{slice_get, option_and_then, nat_lt}
use Rattle.std.specs.List.{list_all, AllByRecursion}
use Rattle.std.proofs.lemmas.Bool.{and_parts}
use Rattle.fsd_bytes.specs.Bytes.{same_bytes}
use Rattle.fsd_bytes.specs.Keys.{is_key}
use Rattle.fsd_bytes.specs.Names.{is_between}
use Rattle.fsd_formats.specs.declared.entry.Entry.{Entry}
use Rattle.fsd_formats.specs.declared.page.Separator.{Separator}
use Rattle.fsd_formats.specs.NamePage.{Content, Free, Leaf, Interior, is_page, is_entry, are_ascending, room, least_used, least_separators, contents_of, content_from, page_bytes, stamp_at, read_page}
use Rattle.fsd_bytes.specs.Bytes.{u8_at, u16_at}
use Rattle.std.specs.Prelude.{drop}
use Rattle.fsd_bytes.specs.declared.key.Key.{Key}
use Rattle.fsd_table.specs.declared.child.Child.{Child}
use Rattle.fsd_table.specs.Pages.{page_at, children, children_of, entry_keys, separator_keys}
use Rattle.fsd_table.specs.Tree.{IsInterior}

some_if : (b : Bool) (x y : Content) → cond b (Some x) None ≡ Some y → (b ≡ true) × (x ≡ y)
some_if true x y e = (refl, cc)
some_if false x y e = absurd cc

pub read_is_page : (page p : ℕ) (bytes : List ℕ) (x : Content) → read_page page p bytes ≡ Some x → is_page page p x ≡ true
read_is_page page p bytes x e =
    let y : Content = content_from (u8_at 4 bytes) (u16_at 6 bytes) (drop 24 bytes) in
    let made = some_if (is_page page p y && same_bytes (page_bytes page (stamp_at 16 bytes) y) bytes) y x e in
    ap (is_page page p) (sym made.1) ∙ (and_parts (is_page page p y) (same_bytes (page_bytes page (stamp_at 16 bytes) y) bytes) made.0).0

at_by : (page p : ℕ) (o : Option (List ℕ)) (x : Content) → option_and_then (read_page page p) o ≡ Some x → is_page page p x ≡ true
at_by page p None x e = absurd cc
at_by page p (Some bytes) x e = read_is_page page p bytes x e

pub at_is_page : (pages : List (List ℕ)) (page : ℕ) (x : Content) → page_at pages page ≡ Some x → is_page page (length pages) x ≡ true
unfolding page_at
at_is_page pages page x e = at_by page (length pages) (slice_get pages page) x e

pub leaf_ascends : (page p : ℕ) (entries : List Entry) → is_page page p (Leaf entries) ≡ true → are_ascending (entry_keys entries) ≡ true
leaf_ascends page p entries e =
    let both = and_parts (list_all is_entry entries && are_ascending (entry_keys entries)) (is_between (least_used page) room (length (contents_of (Leaf entries)))) e in
    (and_parts (list_all is_entry entries) (are_ascending (entry_keys entries)) both.0).1

pub interior_ascends : (page p first : ℕ) (separators : List Separator) → is_page page p (Interior first separators) ≡ true → are_ascending (separator_keys separators) ≡ true
interior_ascends page p first separators e =
    let all = list_all (λ s. is_key s.key && nat_lt s.child p) separators in
    let p3 = and_parts (all && are_ascending (separator_keys separators) && nat_lt first p) (is_between (least_separators page) 9 (length separators)) e in
    let p2 = and_parts (all && are_ascending (separator_keys separators)) (nat_lt first p) p3.0 in
    (and_parts all (are_ascending (separator_keys separators)) p2.0).1

-- ---- what an interior page leads to

pub length_of_children : (first : ℕ) (low high : Option Key) (separators : List Separator) → length (children first low high separators) ≡ suc (length separators)
length_of_children first low high [] = refl
length_of_children first low high (s ∷ separators) = ap suc (length_of_children s.child (Some s.key) high separators)

pub subtrees_of : (P : Child → Type 0) (c : Child) (x : Option Content) → IsInterior P c x → AllByRecursion P (children_of c.low c.high x)
subtrees_of P c None h = absurd h
subtrees_of P c (Some Free) h = absurd h
subtrees_of P c (Some (Leaf entries)) h = absurd h
subtrees_of P c (Some (Interior first separators)) h = h.1
