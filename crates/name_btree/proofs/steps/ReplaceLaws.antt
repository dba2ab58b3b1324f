-- A leaf in which an entry is replaced, and the tree that it stands in.
use Rattle.std.proofs.Common.{◌≡◌, ℕ, zero, suc, ◌<◌, ◌≤◌, Bool, true, cond, ◌&&◌, List, [], ◌∷◌, length, map, Some, sym, ap, subst, ◌∙◌, arith}
use Rattle.std.specs.Prelude.{slice_index_or}
use Rattle.std.specs.List.{flat_map, list_all, Contains}
use Rattle.std.specs.Ordering.{is_eq}
use Rattle.std.proofs.lemmas.Cmp.{tied_itself}
use Rattle.fsd_bytes.specs.declared.key.Key.{Key}
use Rattle.fsd_table.proofs.BoundLaws.{Ascend, ascend_skip, ascend_tail}
use Rattle.fsd_table.proofs.KeyLaws.{keys_total}
use Rattle.name_page.specs.Lookups.{entry_with}
use Rattle.std.proofs.lemmas.Bool.{and_parts, and_from}
use Rattle.fsd_bytes.specs.Keys.{key_cmp, key_lt, same_key}
use Rattle.fsd_bytes.specs.Names.{is_between}
use Rattle.fsd_formats.specs.declared.entry.Entry.{Entry}
use Rattle.fsd_formats.specs.NamePage.{Leaf, is_page, is_entry, entry_bytes, are_ascending, room, least_used}
use Rattle.fsd_table.specs.Pages.{page_at, entry_keys}
use Rattle.fsd_table.specs.Table.{top}
use Rattle.fsd_table.specs.Tree.{IsTree, table_of}
use Rattle.fsd_table.proofs.PageLaws.{at_is_page, leaf_ascends}
use Rattle.name_page.proofs.LeafLaws.{between}
use Rattle.fsd_table.proofs.EntryLaws.{entries_long}
use Rattle.name_page.specs.declared.cut.Cut.TheVariants.{UpTo}
use Rattle.name_btree.specs.Descent.{FoundLeaf}
use Rattle.name_page.specs.Cut.{is_before}
use Rattle.name_btree.specs.Descent.{IsLeafOfPlace}
use Rattle.name_page.specs.Edits.{put}
use Rattle.name_btree.specs.Replace.{HasAsLong, IsAsLong}
use Rattle.name_btree.proofs.finding.FindLaws.{entry_found, unequal_less}
use Rattle.name_page.proofs.PutLaws.{put_keys, put_all, put_size}

-- ---- how many entries a leaf has

-- ---- the leaf

pub record LeafParts (page : ℕ) (entries : List Entry) : Type 0 where
  pub each : list_all is_entry entries ≡ true
  pub order : are_ascending (entry_keys entries) ≡ true
  pub used : is_between (least_used page) room (length (flat_map entry_bytes entries)) ≡ true

pub leaf_parts : (page p : ℕ) (entries : List Entry) → is_page page p (Leaf entries) ≡ true → LeafParts page entries
leaf_parts page p entries is =
    let both = and_parts (list_all is_entry entries && are_ascending (entry_keys entries)) (is_between (least_used page) room (length (flat_map entry_bytes entries))) is in
    let front = and_parts (list_all is_entry entries) (are_ascending (entry_keys entries)) both.0 in
    record { each = front.0; order = front.1; used = both.1 }

pub few_in_leaf : (pages : List (List ℕ)) (page : ℕ) (entries : List Entry) → page_at pages page ≡ Some (Leaf entries) → length entries ≤ 18
few_in_leaf pages page entries at =
    let parts = leaf_parts page (length pages) entries (at_is_page pages page (Leaf entries) at) in
    omega (arith, entries_long entries parts.each, (between (least_used page) room (length (flat_map entry_bytes entries)) parts.used).1)

pub used_in_leaf : (pages : List (List ℕ)) (page : ℕ) (entries : List Entry) → page_at pages page ≡ Some (Leaf entries) → length (flat_map entry_bytes entries) ≤ room
used_in_leaf pages page entries at =
    (between (least_used page) room (length (flat_map entry_bytes entries)) (leaf_parts page (length pages) entries (at_is_page pages page (Leaf entries) at)).used).1

-- a leaf stays one
pub put_is_page : (pages : List (List ℕ)) (page : ℕ) (e : Entry) (entries : List Entry) → page_at pages page ≡ Some (Leaf entries) → is_entry e ≡ true → HasAsLong e entries
    → is_page page 0 (Leaf (map (put e) entries)) ≡ true
put_is_page pages page e entries at is long =
    let parts = leaf_parts page (length pages) entries (at_is_page pages page (Leaf entries) at) in
    let new : List Entry = map (put e) entries in
    and_from (list_all is_entry new && are_ascending (entry_keys new)) (is_between (least_used page) room (length (flat_map entry_bytes new)))
    (and_from (list_all is_entry new) (are_ascending (entry_keys new)) (put_all is_entry e entries is parts.each) (ap are_ascending (put_keys e entries) ∙ parts.order))
    (ap (is_between (least_used page) room) (put_size e long.0 entries parts.order long.1 long.2) ∙ parts.used)

-- ---- the tree

pub not_in_tree : (pages : List (List ℕ)) (e : Entry) (found : FoundLeaf) → IsLeafOfPlace (is_before (UpTo e.key)) pages top found → (HasAsLong e found.entries → ⊥)
    → ((height : ℕ) → IsTree pages height → HasAsLong e (table_of pages height)) → (height : ℕ) → IsTree pages height → ⊥
not_in_tree pages e found place none present height t =
    let long = present height t in
    none (long.0, entry_found e.key pages found place height t ∙ long.1, long.2)

-- ---- an entry that is there

key_itself : (k : Key) → same_key k k ≡ true
key_itself k = ap is_eq (tied_itself keys_total k)

first_less : (x : Entry) (xs : List Entry) (i : ℕ) (e : Entry) → Ascend (x ∷ xs) → i < length xs → slice_index_or xs i e ≡ e → key_lt x.key e.key ≡ true
first_less x [] i e asc low at = absurd (omega (arith, low))
first_less x (y ∷ xs) zero e asc low at = subst (λ (z : Entry). key_lt x.key z.key ≡ true) at (and_parts (key_lt x.key y.key) (are_ascending (entry_keys (y ∷ xs))) asc).0
first_less x (y ∷ xs) (suc i) e asc low at = first_less x xs i e (ascend_skip x.key y.key (entry_keys xs) asc) (omega (arith, low)) at

-- it is the one with its key
entry_there : (xs : List Entry) (i : ℕ) (e : Entry) → Ascend xs → i < length xs → slice_index_or xs i e ≡ e → entry_with e.key xs ≡ Some e
entry_there [] i e asc low at = absurd (omega (arith, low))
entry_there (x ∷ xs) zero e asc low at = subst (λ (y : Entry). entry_with e.key (y ∷ xs) ≡ Some e) (sym at) (ap (λ (b : Bool). cond b (Some e) (entry_with e.key xs)) (key_itself e.key))
entry_there (x ∷ xs) (suc i) e asc low at =
    ap (λ (b : Bool). cond b (Some x) (entry_with e.key xs)) (unequal_less (key_cmp x.key e.key) (first_less x xs i e asc (omega (arith, low)) at))
    ∙ entry_there xs i e (ascend_tail x.key (entry_keys xs) asc) (omega (arith, low)) at

pub as_long_there : (pages : List (List ℕ)) (page : ℕ) (entries : List Entry) (entry old : Entry) → page_at pages page ≡ Some (Leaf entries) → Contains entries old → IsAsLong entry old → HasAsLong entry entries
as_long_there pages page entries entry old at there is =
    let asc = leaf_ascends page (length pages) entries (at_is_page pages page (Leaf entries) at) in
    (old, subst (λ (k : Key). entry_with k entries ≡ Some old) is.key (entry_there entries there.0 old asc there.1 there.2), is.long)
