-- The highest version of a name in the table.
use Rattle.std.proofs.Common.{◌≡◌, ◌⊎◌, inl, inr, ℕ, ◌-◌, Bool, true, false, cond, not, List, [], ◌∷◌, ◌++◌, Option, Some, None, refl, sym, ap, subst, ◌∙◌, append_assoc}
use Rattle.std.specs.List.{AllByRecursion}
use Rattle.std.specs.Option.{option_or}
use Rattle.std.specs.Ordering.{nat_cmp, is_lt, is_gt, is_eq}
use Rattle.std.specs.Cmp.Lexicographic.{slice_cmp}
use Rattle.std.specs.declared.cmp.Ordering.{Ordering}
use Rattle.std.specs.declared.cmp.Ordering.TheVariants.{Less, Equal, Greater}
use Rattle.std.proofs.lemmas.Bool.{and_parts}
use Rattle.std.proofs.lemmas.Cmp.{nat_list_cmp_total}
use Rattle.fsd_bytes.specs.declared.key.Key.{Key}
use Rattle.fsd_bytes.specs.Keys.{key_cmp, key_lt}
use Rattle.fsd_formats.specs.declared.entry.Entry.{Entry}
use Rattle.fsd_formats.specs.NamePage.{are_ascending}
use Rattle.fsd_table.specs.Pages.{entry_keys}
use Rattle.fsd_table.specs.Table.{top}
use Rattle.fsd_table.specs.Tree.{IsTree, table_of}
use Rattle.fsd_table.proofs.BoundLaws.{all_append, all_weaker, Ascend, ascend_skip, ascend_tail, entries_ascend}
use Rattle.name_page.specs.declared.cut.Cut.TheVariants.{Named}
use Rattle.name_btree.specs.Descent.{FoundLeaf}
use Rattle.name_btree.specs.declared.descent.Neighbour.{Neighbour}
use Rattle.name_page.specs.Cut.{is_before}
use Rattle.name_page.specs.Cut.{IsLesser}
use Rattle.name_btree.specs.Descent.{IsAt, IsLeafOfPlace, EndsWithEntry}
use Rattle.name_page.specs.Lookups.{highest_of, last_that, same_name}
use Rattle.name_page.proofs.CutLaws.{cuts_monotone, names_follow}
use Rattle.name_btree.proofs.finding.FindLaws.{low_height, unequal_greater}
use Rattle.name_btree.proofs.finding.LastLaws.{last_append, last_fail, last_none, last_at}
use Rattle.name_btree.proofs.finding.NextLaws.{lesser_before}

-- ---- names

-- behind the place of a name there is no version of it
behind_other : (name : List ℕ) (e : Entry) → is_before (Named name) e.key ≡ false → same_name e.key.name name ≡ false
behind_other name e h = unequal_greater (slice_cmp nat_cmp e.key.name name) h

just_less : (o : Ordering) → not (is_gt o) ≡ true → is_eq o ≡ false → o ≡ Less
just_less Less a b = refl
just_less Equal a b = absurd cc
just_less Greater a b = absurd cc

not_greater : (o : Ordering) → is_gt o ≡ false → (o ≡ Less) ⊎ (o ≡ Equal)
not_greater Less e = inl refl
not_greater Equal e = inr refl
not_greater Greater e = absurd cc

-- names up to a lesser one are others
lesser_other : (name a b : List ℕ) → is_gt (slice_cmp nat_cmp a b) ≡ false → slice_cmp nat_cmp b name ≡ Less → is_eq (slice_cmp nat_cmp a name) ≡ false
lesser_other name a b le lt = elim (not_greater (slice_cmp nat_cmp a b) le) [
  | inl less ↦ ap is_eq (nat_list_cmp_total.trans a b name less lt)
  | inr equal ↦ ap is_eq (nat_list_cmp_total.congr a b name equal ∙ lt)
]

less_not_greater : (a b : Key) → key_lt a b ≡ true → is_gt (key_cmp a b) ≡ false
less_not_greater a b lt = by (key_cmp a b) lt
  where
    by : (o : Ordering) → is_lt o ≡ true → is_gt o ≡ false
    by Less e = refl
    by Equal e = refl
    by Greater e = absurd cc

-- ---- entries in order

first_under : (x : Entry) (left : List Entry) (e : Entry) (right : List Entry) → Ascend (x ∷ (left ++ e ∷ right)) → key_lt x.key e.key ≡ true
first_under x [] e right h = (and_parts (key_lt x.key e.key) (are_ascending (entry_keys (e ∷ right))) h).0
first_under x (y ∷ left) e right h = first_under x left e right (ascend_skip x.key y.key (entry_keys (left ++ e ∷ right)) h)

all_under : (left : List Entry) (e : Entry) (right : List Entry) → Ascend (left ++ e ∷ right) → AllByRecursion (λ x. key_lt x.key e.key ≡ true) left
all_under [] e right h = tt
all_under (x ∷ left) e right h = (first_under x left e right h, all_under left e right (ascend_tail x.key (entry_keys (left ++ e ∷ right)) h))

-- ---- the last entry before the place of a name

pick : (name : List ℕ) (left : List Entry) (e : Entry) (b : Bool) → same_name e.key.name name ≡ b → (b ≡ false → last_that (λ x. same_name x.key.name name) left ≡ None)
    → option_or (option_or None (cond b (Some e) None)) (last_that (λ x. same_name x.key.name name) left) ≡ cond b (Some e) None
pick name left e true is none = refl
pick name left e false is none = none refl

by_last : (name : List ℕ) (left : List Entry) (e : Entry) (right : List Entry) → Ascend (left ++ e ∷ right) → is_before (Named name) e.key ≡ true → AllByRecursion (λ x. is_before (Named name) x.key ≡ false) right
    → highest_of name (left ++ e ∷ right) ≡ cond (same_name e.key.name name) (Some e) None
by_last name left e right asc before fail =
    let test : Entry → Bool = λ x. same_name x.key.name name in
    let gone : last_that test right ≡ None = last_fail test right (all_weaker (λ x. is_before (Named name) x.key ≡ false) (λ x. test x ≡ false) right (behind_other name) fail) in
    last_append test left (e ∷ right)
    ∙ ap (λ (o : Option Entry). option_or (option_or o (cond (test e) (Some e) None)) (last_that test left)) gone
    ∙ pick name left e (test e) refl (λ other. last_fail test left
    (all_weaker (λ x. key_lt x.key e.key ≡ true) (λ x. test x ≡ false) left
    (λ x lt. lesser_other name x.key.name e.key.name (names_follow x.key e.key (less_not_greater x.key e.key lt)) (just_less (slice_cmp nat_cmp e.key.name name) before other))
    (all_under left e right asc)))

regroup : (left xs : List Entry) (e : Entry) (ys right : List Entry) → left ++ ((xs ++ e ∷ ys) ++ right) ≡ (left ++ xs) ++ e ∷ (ys ++ right)
regroup left xs e ys right = ap (λ (zs : List Entry). left ++ zs) (append_assoc xs (e ∷ ys) right) ∙ sym (append_assoc left xs (e ∷ (ys ++ right)))

regroup_left : (rest xs : List Entry) (e : Entry) (right : List Entry) → (rest ++ (xs ++ e ∷ [])) ++ right ≡ (rest ++ xs) ++ e ∷ right
regroup_left rest xs e right =
    append_assoc rest (xs ++ e ∷ []) right ∙ ap (λ (zs : List Entry). rest ++ zs) (append_assoc xs (e ∷ []) right) ∙ sym (append_assoc rest xs (e ∷ right))

in_order : (pages : List (List ℕ)) (height : ℕ) (xs : List Entry) → IsTree pages height → table_of pages height ≡ xs → Ascend xs
in_order pages height xs t is = ap (λ (ys : List Entry). are_ascending (entry_keys ys)) (sym is) ∙ entries_ascend (height - 1) pages top t.subtree

pub highest_in_leaf : (name : List ℕ) (pages : List (List ℕ)) (found : FoundLeaf) (e : Entry) → IsLeafOfPlace (is_before (Named name)) pages top found → last_that (λ x. is_before (Named name) x.key) found.entries ≡ Some e
    → (height : ℕ) → IsTree pages height → cond (same_name e.key.name name) (Some e) None ≡ highest_of name (table_of pages height)
highest_in_leaf name pages found e place h height t =
    let at = place (height - 1) (low_height pages height t) t.subtree in
    let last = last_at (λ x. is_before (Named name) x.key) found.entries e h in
    let is : table_of pages height ≡ (at.left ++ last.left) ++ e ∷ (last.right ++ at.right) =
    at.parts ∙ ap (λ (xs : List Entry). at.left ++ (xs ++ at.right)) last.parts ∙ regroup at.left last.left e last.right at.right in
    sym (ap (highest_of name) is
    ∙ by_last name (at.left ++ last.left) e (last.right ++ at.right) (in_order pages height _ t is) last.passes (all_append (λ x. is_before (Named name) x.key ≡ false) last.right at.right last.fail at.greater))

pub highest_at_start : (name : List ℕ) (pages : List (List ℕ)) (found : FoundLeaf) → found.previous ≡ None → IsLeafOfPlace (is_before (Named name)) pages top found → last_that (λ x. is_before (Named name) x.key) found.entries ≡ None
    → (height : ℕ) → IsTree pages height → None ≡ highest_of name (table_of pages height)
highest_at_start name pages found none place h height t =
    let P : Option Neighbour → Type 0 = λ (o : Option Neighbour). IsAt (is_before (Named name)) pages top (table_of pages height) found.entries o found.next in
    let at = subst P none (place (height - 1) (low_height pages height t) t.subtree) in
    let test : Entry → Bool = λ x. same_name x.key.name name in
    let is : table_of pages height ≡ found.entries ++ at.right = at.parts ∙ ap (λ (xs : List Entry). xs ++ (found.entries ++ at.right)) at.previous_is in
    sym (ap (highest_of name) is
    ∙ last_fail test (found.entries ++ at.right)
    (all_weaker (λ x. is_before (Named name) x.key ≡ false) (λ x. test x ≡ false) (found.entries ++ at.right) (behind_other name)
    (all_append (λ x. is_before (Named name) x.key ≡ false) found.entries at.right (last_none (λ x. is_before (Named name) x.key) found.entries h) at.greater)))

last_lesser : (before : Key → Bool) (xs : List Entry) (e : Entry) → AllByRecursion (IsLesser before) (xs ++ e ∷ []) → IsLesser before e
last_lesser before [] e h = h.0
last_lesser before (x ∷ xs) e h = last_lesser before xs e h.1

pub highest_in_previous : (name : List ℕ) (pages : List (List ℕ)) (found : FoundLeaf) (c : Neighbour) (e : Entry) → found.previous ≡ Some c → IsLeafOfPlace (is_before (Named name)) pages top found → EndsWithEntry pages c.child e
    → last_that (λ x. is_before (Named name) x.key) found.entries ≡ None → (height : ℕ) → IsTree pages height → cond (same_name e.key.name name) (Some e) None ≡ highest_of name (table_of pages height)
highest_in_previous name pages found c e before_is place end h height t =
    let P : Option Neighbour → Type 0 = λ (o : Option Neighbour). IsAt (is_before (Named name)) pages top (table_of pages height) found.entries o found.next in
    let at = subst P before_is (place (height - 1) (low_height pages height t) t.subtree) in
    let previous = at.previous_is.1 in
    let last = end previous.0 previous.1 previous.2 in
    let left_is : at.left ≡ previous.3.0 ++ (last.0 ++ e ∷ []) = previous.3.1 ∙ ap (λ (xs : List Entry). previous.3.0 ++ xs) last.1 in
    let right : List Entry = found.entries ++ at.right in
    let is : table_of pages height ≡ (previous.3.0 ++ last.0) ++ e ∷ right = at.parts ∙ ap (λ (xs : List Entry). xs ++ right) left_is ∙ regroup_left previous.3.0 last.0 e right in
    let lesser = subst (λ (xs : List Entry). AllByRecursion (IsLesser (is_before (Named name))) xs) (left_is ∙ sym (append_assoc previous.3.0 last.0 (e ∷ []))) at.lesser in
    let before : is_before (Named name) e.key ≡ true = lesser_before (is_before (Named name)) (cuts_monotone (Named name)) e (last_lesser (is_before (Named name)) (previous.3.0 ++ last.0) e lesser) in
    sym (ap (highest_of name) is
    ∙ by_last name (previous.3.0 ++ last.0) e right (in_order pages height _ t is) before
    (all_append (λ x. is_before (Named name) x.key ≡ false) found.entries at.right (last_none (λ x. is_before (Named name) x.key) found.entries h) at.greater))
