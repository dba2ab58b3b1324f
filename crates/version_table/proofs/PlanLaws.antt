-- What a table's entries are, and that a next version is new.
use Rattle.std.proofs.Common.{◌≡◌, ℕ, zero, suc, ◌≤◌, Bool, true, false, cond, ◌&&◌, ◌||◌, List, [], ◌∷◌, length, map, Option, Some, None, refl, sym, ap, subst, ◌∙◌, arith}
use Rattle.std.specs.Prelude.{T, ◌==◌, nat_le, option_map, replicate, IfSome}
use Rattle.std.specs.List.{AllByRecursion, flat_map, list_all, list_any}
use Rattle.std.specs.declared.cmp.Ordering.TheVariants.{Equal}
use Rattle.std.specs.FinMap.{is_sorted}
use Rattle.std.specs.FinMap.Entries.{below_all}
use Rattle.std.proofs.lemmas.Bool.{and_from, and_parts, false_from_ne_true, leb-true}
use Rattle.std.proofs.lemmas.Cmp.{tied_itself}
use Rattle.std.proofs.lemmas.List.{length-replicate}
use Rattle.std.proofs.lemmas.List.Folds.{list_all-append}
use Rattle.std.specs.Ordering.{is_eq}
use Rattle.fsd_bytes.specs.declared.key.Key.{Key}
use Rattle.fsd_bytes.specs.Keys.{is_key, key_cmp, key_lt, key_of, same_key}
use Rattle.fsd_bytes.specs.Names.{is_between, is_name}
use Rattle.run_table.specs.RunTable.{are_runs, total}
use Rattle.fsd_formats.specs.declared.entry.Entry.{Entry}
use Rattle.fsd_formats.specs.NamePage.{Content, Free, Leaf, Interior, are_ascending, contents_of, is_entry, least_used, max_keep, max_length, room, sectors_for}
use Rattle.fsd_table.specs.declared.child.Child.{Child}
use Rattle.fsd_table.specs.Pages.{children_of, entries_of, entry_keys, page_at}
use Rattle.fsd_table.specs.Tree.{entries_below}
use Rattle.fsd_table.proofs.BoundLaws.{Ascend, ascend_tail}
use Rattle.fsd_table.proofs.KeyLaws.{keys_total}
use Rattle.fsd_table.proofs.PageLaws.{at_is_page}
use Rattle.fsd_files.specs.Answers.{entry_of, highest_entry}
use Rattle.fsd_files.specs.Files.{File, Files, highest, keep_of, new_keep, new_key, next_version, version_of}
use Rattle.fsd_files.specs.Kept.{Lists}
use Rattle.fsd_files.proofs.FreshLaws.{new_key_is_new}
use Rattle.fsd_files.proofs.ListingLaws.{BothOrNone, highest_both}
use Rattle.name_page.proofs.PutLaws.{ascend_head, lt_unequal, one_key}
use Rattle.name_btree.specs.declared.lookup.FoundEntry.{FoundEntry}
use Rattle.name_btree.specs.Lookup.{found_entry}
use Rattle.version_table.specs.Versions.{next_key}
use Rattle.version_table.proofs.EditLaws.{AllAbove}

-- ---- the entries of a table

all_flat : (f : Child → List Entry) → ((c : Child) → list_all is_entry (f c) ≡ true) → (cs : List Child) → list_all is_entry (flat_map f cs) ≡ true
all_flat f each [] = refl
all_flat f each (c ∷ cs) = list_all-append is_entry (f c) (flat_map f cs) ∙ and_from (list_all is_entry (f c)) (list_all is_entry (flat_map f cs)) (each c) (all_flat f each cs)

leaf_good : (pages : List (List ℕ)) (page : ℕ) (x : Option Content) → page_at pages page ≡ x → list_all is_entry (entries_of x) ≡ true
leaf_good pages page None is = refl
leaf_good pages page (Some (Leaf entries)) is =
    let both = and_parts (list_all is_entry entries && are_ascending (entry_keys entries)) (is_between (least_used page) room (length (contents_of (Leaf entries)))) (at_is_page pages page (Leaf entries) is) in
    (and_parts (list_all is_entry entries) (are_ascending (entry_keys entries)) both.0).0
leaf_good pages page (Some (Interior first separators)) is = refl
leaf_good pages page (Some Free) is = refl

pub entries_good : (level : ℕ) (pages : List (List ℕ)) (c : Child) → list_all is_entry (entries_below level pages c) ≡ true
entries_good zero pages c = leaf_good pages c.page (page_at pages c.page) refl
entries_good (suc level) pages c = all_flat (entries_below level pages) (entries_good level pages) (children_of c.low c.high (page_at pages c.page))

-- its keep, and its number
pub record HasBounds (e : Entry) : Type 0 where
  pub keep : e.keep ≤ 999
  pub version : 1 ≤ e.key.version

pub entry_bounds : (e : Entry) → is_entry e ≡ true → HasBounds e
entry_bounds e is =
    let p1 = and_parts (is_key e.key && nat_le e.keep max_keep && nat_le e.length max_length && are_runs e.runs) (total e.runs == sectors_for e.length) is in
    let p2 = and_parts (is_key e.key && nat_le e.keep max_keep && nat_le e.length max_length) (are_runs e.runs) p1.0 in
    let p3 = and_parts (is_key e.key && nat_le e.keep max_keep) (nat_le e.length max_length) p2.0 in
    let p4 = and_parts (is_key e.key) (nat_le e.keep max_keep) p3.0 in
    let p5 = and_parts (is_name e.key.name) (nat_le 1 e.key.version) p4.0 in
    record { keep = leb-true e.keep 999 p4.1; version = leb-true 1 e.key.version p5.1 }

-- the keep of a next version
pub keep_within : (given : Option ℕ) (highest : Option FoundEntry) → IfSome given (λ keep. keep ≤ 999) → IfSome highest (λ f. is_entry f.entry ≡ true) → keep_of given (option_map (λ e. e.keep) (found_entry highest)) ≤ 999
keep_within (Some keep) highest small good = small
keep_within None (Some f) small good = (entry_bounds f.entry good).keep
keep_within None None small good = omega arith

pub entries_numbered : (xs : List Entry) → list_all is_entry xs ≡ true → AllByRecursion (λ e. 1 ≤ e.key.version) xs
entries_numbered [] all = tt
entries_numbered (x ∷ xs) all = let parts = and_parts (is_entry x) (list_all is_entry xs) all in ((entry_bounds x parts.0).version, entries_numbered xs parts.1)

-- ---- each is found

both : (P Q R : Entry → Type 0) (xs : List Entry) → ((e : Entry) → P e → Q e → R e) → AllByRecursion P xs → AllByRecursion Q xs → AllByRecursion R xs
both P Q R [] f a b = tt
both P Q R (x ∷ xs) f a b = (f x a.0 b.0, both P Q R xs f a.1 b.1)

pub each_found : (xs : List Entry) → Ascend xs → AllByRecursion (λ e. entry_of e.key xs ≡ Some e) xs
each_found [] asc = tt
each_found (x ∷ xs) asc = (
  ap (λ (b : Bool). cond b (Some x) (entry_of x.key xs)) (ap is_eq (tied_itself keys_total x.key)),
  both (λ (e : Entry). key_lt x.key e.key ≡ true) (λ (e : Entry). entry_of e.key xs ≡ Some e) (λ (e : Entry). entry_of e.key (x ∷ xs) ≡ Some e) xs
      (λ e lt found. ap (λ (b : Bool). cond b (Some x) (entry_of e.key xs)) (lt_unequal x.key e.key lt) ∙ found) (ascend_head x.key xs asc) (each_found xs (ascend_tail x.key (entry_keys xs) asc)),
)

pub each_mapped : {X : Type 0} (P : Entry → Type 0) (f : X → Entry) (gs : List X) → AllByRecursion P (map f gs) → AllByRecursion (λ g. P (f g)) gs
each_mapped P f [] all = tt
each_mapped P f (g ∷ gs) all = (all.0, each_mapped P f gs all.1)

-- ---- files whose entries they are

file_of : Entry → Key × File
file_of e = (e.key, record { bytes = replicate e.length 0; keep = e.keep })

files_of : List Entry → Files
files_of xs = map file_of xs

they_list : (xs : List Entry) → Lists (files_of xs) xs
unfolding files_of file_of
they_list [] = tt
they_list (x ∷ xs) = (record { key = refl; keep = refl; length = sym (length-replicate x.length 0) }, they_list xs)

below_each : (k : Key) (xs : List Entry) → AllAbove k xs → below_all key_cmp k (files_of xs) ≡ true
unfolding files_of file_of
below_each k [] all = refl
below_each k (x ∷ xs) all = and_from (key_lt k x.key) (below_all key_cmp k (files_of xs)) all.0 (below_each k xs all.1)

they_ascend : (xs : List Entry) → Ascend xs → is_sorted key_cmp (files_of xs) ≡ true
unfolding files_of file_of
they_ascend [] asc = refl
they_ascend (x ∷ xs) asc = and_from (below_all key_cmp x.key (files_of xs)) (is_sorted key_cmp (files_of xs)) (below_each x.key xs (ascend_head x.key xs asc)) (they_ascend xs (ascend_tail x.key (entry_keys xs) asc))

to_T : (b : Bool) → b ≡ true → T b
to_T true is = tt
to_T false is = absurd cc

-- ---- the next version

versions_alike : (o : Option (Key × File)) (p : Option Entry) → BothOrNone o p → option_map version_of o ≡ option_map (λ e. e.key.version) p
versions_alike None None h = refl
versions_alike None (Some z) h = absurd h
versions_alike (Some y) None h = absurd h
versions_alike (Some y) (Some z) h = ap (λ (k : Key). Some k.version) (sym h.key)

keeps_alike : (o : Option (Key × File)) (p : Option Entry) → BothOrNone o p → option_map (λ y. y.1.keep) o ≡ option_map (λ e. e.keep) p
keeps_alike None None h = refl
keeps_alike None (Some z) h = absurd h
keeps_alike (Some y) None h = absurd h
keeps_alike (Some y) (Some z) h = ap (λ (n : ℕ). Some n) (sym h.keep)

pub keys_agree : (name : List ℕ) (s : Files) (xs : List Entry) → Lists s xs → new_key name s ≡ next_key name xs
keys_agree name s xs lists = ap (λ (o : Option ℕ). key_of name (next_version o)) (versions_alike (highest name s) (highest_entry name xs) (highest_both name s xs lists))

pub keeps_agree : (name : List ℕ) (given : Option ℕ) (s : Files) (xs : List Entry) → Lists s xs → new_keep name given s ≡ keep_of given (option_map (λ e. e.keep) (highest_entry name xs))
keeps_agree name given s xs lists = ap (keep_of given) (keeps_alike (highest name s) (highest_entry name xs) (highest_both name s xs lists))

none_with : (key : Key) (xs : List Entry) → AllByRecursion (λ z. key_cmp key z.key ≡ Equal → ⊥) xs → entry_of key xs ≡ None
none_with key [] all = refl
none_with key (x ∷ xs) all =
    let other : same_key x.key key ≡ false = false_from_ne_true (same_key x.key key) (λ same. all.0 (ap (key_cmp key) (one_key x.key key same) ∙ tied_itself keys_total key)) in
    ap (λ (b : Bool). cond b (Some x) (entry_of key xs)) other ∙ none_with key xs all.1

pub next_is_new : (name : List ℕ) (xs : List Entry) → Ascend xs → entry_of (next_key name xs) xs ≡ None
next_is_new name xs asc =
    let s : Files = files_of xs in
    let new = new_key_is_new name s xs (to_T (is_sorted key_cmp s) (they_ascend xs asc)) (they_list xs) in
    none_with (next_key name xs) xs (subst (λ (k : Key). AllByRecursion (λ z. key_cmp k z.key ≡ Equal → ⊥) xs) (keys_agree name s xs (they_list xs)) new)

-- what goes is there, so it is not what comes
pub new_stays : {X : Type 0} (f : X → Entry) (key : Key) (xs : List Entry) (gs : List X) → entry_of key xs ≡ None → AllByRecursion (λ g. entry_of (f g).key xs ≡ Some (f g)) gs
    → list_any (same_key key) (map (λ g. (f g).key) gs) ≡ false
new_stays f key xs [] fresh all = refl
new_stays f key xs (g ∷ gs) fresh all =
    let other : same_key key (f g).key ≡ false = false_from_ne_true (same_key key (f g).key) (λ same.
    let no : None ≡ Some (f g) = sym fresh ∙ ap (λ (k : Key). entry_of k xs) (one_key key (f g).key same) ∙ all.0 in cc) in
    ap (λ (b : Bool). b || list_any (same_key key) (map (λ g. (f g).key) gs)) other ∙ new_stays f key xs gs fresh all.1
