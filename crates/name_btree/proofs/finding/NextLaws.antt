-- The next entry in the table.
use Rattle.std.proofs.Common.{◌≡◌, ℕ, ◌-◌, ◌<◌, Bool, true, false, cond, not, List, [], ◌∷◌, ◌++◌, length, take, Option, Some, None, refl, sym, ap, subst, ◌∙◌, arith, append_assoc}
use Rattle.std.specs.Prelude.{find, slice_get, map, ◌&&◌, ◌==◌}
use Rattle.std.specs.Option.{option_or}
use Rattle.std.specs.Ordering.{is_gt}
use Rattle.std.proofs.lemmas.List.Folds.{find-append}
use Rattle.std.specs.List.{AllByRecursion, flat_map, list_all}
use Rattle.std.proofs.lemmas.Bool.{and_parts}
use Rattle.std.proofs.lemmas.Bool.Decides.{nat_tests}
use Rattle.std.proofs.lemmas.List.{append-nil, take_all}
use Rattle.name_btree.proofs.finding.LastLaws.{take_back}
use Rattle.fsd_bytes.specs.declared.key.Key.{Key}
use Rattle.fsd_bytes.specs.Keys.{key_cmp}
use Rattle.fsd_bytes.specs.Names.{is_between}
use Rattle.fsd_formats.specs.declared.entry.Entry.{Entry}
use Rattle.fsd_formats.specs.declared.page.Separator.{Separator}
use Rattle.fsd_formats.specs.NamePage.{Leaf, Interior, is_page, is_entry, are_ascending, entry_bytes, contents_of, least_used, room}
use Rattle.fsd_table.specs.declared.child.Child.{Child}
use Rattle.fsd_table.specs.Pages.{page_at}
use Rattle.fsd_table.specs.Table.{top}
use Rattle.fsd_table.specs.Tree.{IsTree, table_of}
use Rattle.fsd_table.proofs.BoundLaws.{all_weaker}
use Rattle.fsd_table.proofs.KeyLaws.{lt_is_le}
use Rattle.fsd_table.proofs.PageLaws.{at_is_page}
use Rattle.name_page.proofs.LeafLaws.{between}
use Rattle.name_page.specs.declared.cut.Cut.{Cut}
use Rattle.name_page.specs.declared.cut.Cut.TheVariants.{Start, End}
use Rattle.name_btree.specs.Descent.{FoundLeaf}
use Rattle.name_btree.specs.declared.descent.Neighbour.{Neighbour}
use Rattle.name_page.specs.Cut.{is_before, after_cut}
use Rattle.name_page.specs.Cut.{IsLesser}
use Rattle.name_btree.specs.Descent.{HasChildren, IsAt, IsLeafOfPlace, BeginsWithEntry, EndsWithEntry}
use Rattle.name_page.specs.Lookups.{first_after, is_after}
use Rattle.name_page.proofs.CutLaws.{cuts_monotone, greater}
use Rattle.name_page.proofs.CutLaws.{IsMonotone}
use Rattle.name_btree.proofs.finding.FindLaws.{find_behind, low_height}

-- what is less than a key before a place is before it too
pub lesser_before : (before : Key → Bool) → IsMonotone before → (e : Entry) → IsLesser before e → before e.key ≡ true
lesser_before before mono e h = mono e.key h.0 (lt_is_le e.key h.0 h.2) h.1

-- ---- a leaf that stands below another page has entries

empty_used : (n : ℕ) → is_between 190 room n ≡ true → n ≡ 0 → ⊥
empty_used n e z = let b = (between 190 room n e).0 in omega arith

used_other : (page n : ℕ) (b : Bool) → (page == 0) ≡ b → b ≡ false → is_between (least_used page) room n ≡ true → is_between 190 room n ≡ true
used_other page n b is other e = ap (λ (c : Bool). is_between (cond c 0 190) room n) (sym (is ∙ other)) ∙ e

some_entries : (page p : ℕ) (entries : List Entry) → (page ≡ 0 → ⊥) → is_page page p (Leaf entries) ≡ true → entries ≡ [] → ⊥
some_entries page p entries other e none =
    let both = and_parts (list_all is_entry entries && are_ascending (map (λ x. x.key) entries)) (is_between (least_used page) room (length (contents_of (Leaf entries)))) e in
    empty_used (length (flat_map entry_bytes entries)) (used_other page (length (flat_map entry_bytes entries)) (page == 0) refl (not_zero page other) both.1) (ap (λ (x : List Entry). length (flat_map entry_bytes x)) none)
  where
    not_zero : (page : ℕ) → (page ≡ 0 → ⊥) → (page == 0) ≡ false
    not_zero page h = grind (arith, nat_tests)

-- the root is no leaf where other pages stand below it
pub leaf_has_entries : (pages : List (List ℕ)) (page : ℕ) (entries : List Entry) → page_at pages page ≡ Some (Leaf entries) → HasChildren pages top → entries ≡ [] → ⊥
leaf_has_entries pages page entries at up none = some_entries page (length pages) entries (λ z. two_kinds entries up.0 up.1 (sym (ap (page_at pages) (sym z) ∙ at) ∙ up.2)) (at_is_page pages page (Leaf entries) at) none
  where
    two_kinds : (entries : List Entry) (first : ℕ) (xs : List Separator) → Some (Leaf entries) ≡ Some (Interior first xs) → ⊥
    two_kinds entries first xs e = cc

-- ---- the first entry below a child

nothing_left : (xs : List Entry) → AllByRecursion (IsLesser (is_before Start)) xs → xs ≡ []
nothing_left [] h = refl
nothing_left (e ∷ xs) h = absurd (let no = h.0.1 in cc)

nothing_right : (xs : List Entry) → AllByRecursion (λ e. is_before End e.key ≡ false) xs → xs ≡ []
nothing_right [] h = refl
nothing_right (e ∷ xs) h = absurd (let no = h.0 in cc)

pub head_of : (xs : List Entry) (e : Entry) → slice_get xs 0 ≡ Some e → (rest : List Entry) × (xs ≡ e ∷ rest)
head_of [] e h = absurd cc
head_of (x ∷ xs) e h = (xs, let same : x ≡ e = cc in ap (λ (y : Entry). y ∷ xs) same)

pub begins : (pages : List (List ℕ)) (c : Child) (found : FoundLeaf) (e : Entry) → IsLeafOfPlace (is_before Start) pages c found → slice_get found.entries 0 ≡ Some e → BeginsWithEntry pages c e
begins pages c found e place first level low sub =
    let at = place level low sub in
    let head = head_of found.entries e first in
    (head.0 ++ at.right, at.parts ∙ ap (λ (xs : List Entry). xs ++ (found.entries ++ at.right)) (nothing_left at.left at.lesser) ∙ ap (λ (xs : List Entry). xs ++ at.right) head.1)

pub last_is : (xs : List Entry) (n : ℕ) (e : Entry) → n ≡ length xs → 0 < n → slice_get xs (n - 1) ≡ Some e → xs ≡ take (n - 1) xs ++ e ∷ []
last_is xs n e is some last = sym (take_all n xs (omega arith)) ∙ take_back xs n e some last

pub ends : (pages : List (List ℕ)) (c : Child) (found : FoundLeaf) (n : ℕ) (e : Entry) → IsLeafOfPlace (is_before End) pages c found → n ≡ length found.entries → 0 < n → slice_get found.entries (n - 1) ≡ Some e → EndsWithEntry pages c e
ends pages c found n e place is some last level low sub =
    let at = place level low sub in
    let rest : List Entry = take (n - 1) found.entries in (
      at.left ++ rest,
      at.parts
          ∙ ap (λ (xs : List Entry). at.left ++ (found.entries ++ xs)) (nothing_right at.right at.greater)
          ∙ ap (λ (xs : List Entry). at.left ++ xs) (append-nil found.entries ∙ last_is found.entries n e is some last)
          ∙ sym (append_assoc at.left rest (e ∷ [])),
    )

pub empty_is : (xs : List Entry) → length xs ≡ 0 → xs ≡ []
empty_is [] h = refl
empty_is (x ∷ xs) h = absurd (omega arith)

-- ---- the next entry

same_tests : (p q : Entry → Bool) → ((e : Entry) → p e ≡ q e) → (xs : List Entry) → find p xs ≡ find q xs
same_tests p q same [] = refl
same_tests p q same (e ∷ xs) = ap (λ (b : Bool). cond b (Some e) (find p xs)) (same e) ∙ ap (λ (o : Option Entry). cond (q e) (Some e) o) (same_tests p q same xs)

not_not : (b : Bool) → not (not b) ≡ b
not_not true = refl
not_not false = refl

pub after_is : (before : Option Key) (key : Key) → is_after before key ≡ not (is_before (after_cut before) key)
after_is None key = refl
after_is (Some k) key = sym (not_not (is_gt (key_cmp key k)) ∙ greater key k)

found_first : (test : Entry → Bool) (xs ys : List Entry) (e : Entry) → find test xs ≡ Some e → find test (xs ++ ys) ≡ Some e
found_first test xs ys e h = find-append test xs ys ∙ ap (λ (o : Option Entry). option_or o (find test ys)) h

found_later : (test : Entry → Bool) (xs ys : List Entry) → find test xs ≡ None → find test (xs ++ ys) ≡ find test ys
found_later test xs ys h = find-append test xs ys ∙ ap (λ (o : Option Entry). option_or o (find test ys)) h

-- what stands behind the place, by what stands left of the leaf
past_left : (cut : Cut) (pages : List (List ℕ)) (whole some : List Entry) (previous next : Option Neighbour) (at : IsAt (is_before cut) pages top whole some previous next)
    → find (λ e. not (is_before cut e.key)) whole ≡ find (λ e. not (is_before cut e.key)) (some ++ at.right)
past_left cut pages whole some previous next at =
    ap (find (λ e. not (is_before cut e.key))) at.parts
    ∙ find_behind (λ e. not (is_before cut e.key)) at.left (some ++ at.right)
    (all_weaker (IsLesser (is_before cut)) (λ e. not (is_before cut e.key) ≡ false) at.left (λ e h. ap not (lesser_before (is_before cut) (cuts_monotone cut) e h)) at.lesser)

in_leaf : (cut : Cut) (pages : List (List ℕ)) (whole some : List Entry) (previous next : Option Neighbour) (e : Entry) → IsAt (is_before cut) pages top whole some previous next
    → find (λ x. not (is_before cut x.key)) some ≡ Some e → find (λ x. not (is_before cut x.key)) whole ≡ Some e
in_leaf cut pages whole some previous next e at h = past_left cut pages whole some previous next at ∙ found_first (λ x. not (is_before cut x.key)) some at.right e h

at_end : (cut : Cut) (pages : List (List ℕ)) (whole some : List Entry) (previous : Option Neighbour) → IsAt (is_before cut) pages top whole some previous None
    → find (λ x. not (is_before cut x.key)) some ≡ None → find (λ x. not (is_before cut x.key)) whole ≡ None
at_end cut pages whole some previous at h =
    past_left cut pages whole some previous None at ∙ ap (λ (xs : List Entry). find (λ x. not (is_before cut x.key)) (some ++ xs)) at.next_is ∙ ap (find (λ x. not (is_before cut x.key))) (append-nil some) ∙ h

in_next : (cut : Cut) (pages : List (List ℕ)) (whole some : List Entry) (previous : Option Neighbour) (c : Neighbour) (e : Entry) → IsAt (is_before cut) pages top whole some previous (Some c) → BeginsWithEntry pages c.child e
    → find (λ x. not (is_before cut x.key)) some ≡ None → find (λ x. not (is_before cut x.key)) whole ≡ Some e
in_next cut pages whole some previous c e at begin h =
    let test : Entry → Bool = λ x. not (is_before cut x.key) in
    let next = at.next_is.1 in
    let first = begin next.0 next.1 next.2 in
    let is : at.right ≡ e ∷ (first.0 ++ next.3.0) = next.3.1 ∙ ap (λ (xs : List Entry). xs ++ next.3.0) first.1 in
    let over : is_before cut e.key ≡ false = (subst (λ (xs : List Entry). AllByRecursion (λ x. is_before cut x.key ≡ false) xs) is at.greater).0 in
    past_left cut pages whole some previous (Some c) at ∙ found_later test some at.right h ∙ ap (find test) is ∙ ap (λ (b : Bool). cond (not b) (Some e) (find test (first.0 ++ next.3.0))) over

-- the next entry in the table, by what the leaf has
pub cut_tests : (before : Option Key) (cut : Cut) → cut ≡ after_cut before → (xs : List Entry) → find (λ x. not (is_before cut x.key)) xs ≡ first_after before xs
cut_tests before cut same xs =
    sym (same_tests (λ x. is_after before x.key) (λ x. not (is_before cut x.key)) (λ x. after_is before x.key ∙ ap (λ (d : Cut). not (is_before d x.key)) (sym same)) xs)

pub next_in_leaf : (before : Option Key) (cut : Cut) (pages : List (List ℕ)) (found : FoundLeaf) (e : Entry) → cut ≡ after_cut before → IsLeafOfPlace (is_before cut) pages top found
    → find (λ x. not (is_before cut x.key)) found.entries ≡ Some e → (height : ℕ) → IsTree pages height → Some e ≡ first_after before (table_of pages height)
next_in_leaf before cut pages found e same place h height t =
    sym (in_leaf cut pages (table_of pages height) found.entries found.previous found.next e (place (height - 1) (low_height pages height t) t.subtree) h) ∙ cut_tests before cut same (table_of pages height)

pub next_at_end : (before : Option Key) (cut : Cut) (pages : List (List ℕ)) (found : FoundLeaf) → cut ≡ after_cut before → found.next ≡ None → IsLeafOfPlace (is_before cut) pages top found
    → find (λ x. not (is_before cut x.key)) found.entries ≡ None → (height : ℕ) → IsTree pages height → None ≡ first_after before (table_of pages height)
next_at_end before cut pages found same none place h height t =
    let P : Option Neighbour → Type 0 = λ (o : Option Neighbour). IsAt (is_before cut) pages top (table_of pages height) found.entries found.previous o in
    sym (at_end cut pages (table_of pages height) found.entries found.previous (subst P none (place (height - 1) (low_height pages height t) t.subtree)) h) ∙ cut_tests before cut same (table_of pages height)

pub next_in_next : (before : Option Key) (cut : Cut) (pages : List (List ℕ)) (found : FoundLeaf) (c : Neighbour) (e : Entry) → cut ≡ after_cut before → found.next ≡ Some c → IsLeafOfPlace (is_before cut) pages top found → BeginsWithEntry pages c.child e
    → find (λ x. not (is_before cut x.key)) found.entries ≡ None → (height : ℕ) → IsTree pages height → Some e ≡ first_after before (table_of pages height)
next_in_next before cut pages found c e same is place begin h height t =
    let P : Option Neighbour → Type 0 = λ (o : Option Neighbour). IsAt (is_before cut) pages top (table_of pages height) found.entries found.previous o in
    sym (in_next cut pages (table_of pages height) found.entries found.previous c e (subst P is (place (height - 1) (low_height pages height t) t.subtree)) begin h) ∙ cut_tests before cut same (table_of pages height)
