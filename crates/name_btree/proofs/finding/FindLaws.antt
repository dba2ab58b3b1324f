-- What is found in a leaf is what is found in the table.
use Rattle.std.proofs.Common.{◌≡◌, ℕ, ◌-◌, ◌<◌, ◌≤◌, Bool, true, false, cond, not, List, [], ◌∷◌, ◌++◌, Option, Some, None, refl, sym, ap, ◌∙◌, arith}
use Rattle.std.specs.Prelude.{find}
use Rattle.std.specs.List.{AllByRecursion}
use Rattle.std.specs.Ordering.{is_lt, is_gt, is_eq}
use Rattle.std.specs.declared.cmp.Ordering.{Ordering}
use Rattle.std.specs.declared.cmp.Ordering.TheVariants.{Less, Equal, Greater}
use Rattle.fsd_bytes.specs.declared.key.Key.{Key}
use Rattle.fsd_bytes.specs.Keys.{key_cmp, key_lt, same_key}
use Rattle.fsd_formats.specs.declared.entry.Entry.{Entry}
use Rattle.fsd_table.specs.declared.child.Child.{Child}
use Rattle.fsd_table.specs.Table.{max_height, top}
use Rattle.fsd_table.specs.Tree.{IsTree, table_of}
use Rattle.fsd_table.proofs.BoundLaws.{all_weaker}
use Rattle.fsd_table.proofs.KeyLaws.{lt_le}
use Rattle.name_page.specs.declared.cut.Cut.TheVariants.{UpTo}
use Rattle.name_btree.specs.Descent.{FoundLeaf}
use Rattle.name_btree.specs.declared.descent.Neighbour.{Neighbour}
use Rattle.name_page.specs.Cut.{is_before}
use Rattle.name_page.specs.Cut.{IsLesser}
use Rattle.name_btree.specs.Descent.{IsAt, IsLeafOfPlace}
use Rattle.name_page.specs.Lookups.{entry_with}
use Rattle.name_page.proofs.CutLaws.{greater}

-- ---- lists whose ends fail a test

pub find_behind : (test : Entry → Bool) (left xs : List Entry) → AllByRecursion (λ e. test e ≡ false) left → find test (left ++ xs) ≡ find test xs
find_behind test [] xs fail = refl
find_behind test (e ∷ left) xs fail = ap (λ (b : Bool). cond b (Some e) (find test (left ++ xs))) fail.0 ∙ find_behind test left xs fail.1

pub find_none : (test : Entry → Bool) (xs : List Entry) → AllByRecursion (λ e. test e ≡ false) xs → find test xs ≡ None
find_none test [] fail = refl
find_none test (e ∷ xs) fail = ap (λ (b : Bool). cond b (Some e) (find test xs)) fail.0 ∙ find_none test xs fail.1

pub find_before : (test : Entry → Bool) (xs right : List Entry) → AllByRecursion (λ e. test e ≡ false) right → find test (xs ++ right) ≡ find test xs
find_before test [] right fail = find_none test right fail
find_before test (e ∷ xs) right fail = ap (λ (o : Option Entry). cond (test e) (Some e) o) (find_before test xs right fail)

-- ---- one key

pub unequal_less : (o : Ordering) → is_lt o ≡ true → is_eq o ≡ false
unequal_less Less e = refl
unequal_less Equal e = absurd cc
unequal_less Greater e = refl

pub unequal_greater : (o : Ordering) → not (is_gt o) ≡ false → is_eq o ≡ false
unequal_greater Less e = refl
unequal_greater Equal e = absurd cc
unequal_greater Greater e = refl

lesser_unequal : (key : Key) (e : Entry) → IsLesser (is_before (UpTo key)) e → same_key e.key key ≡ false
lesser_unequal key e h =
    let upto : not (key_lt key h.0) ≡ true = ap not (sym (greater h.0 key)) ∙ h.1 in
    unequal_less (key_cmp e.key key) (lt_le e.key h.0 key h.2 upto)

entry_at : (key : Key) (pages : List (List ℕ)) (start : Child) (whole some : List Entry) (previous next : Option Neighbour)
    → IsAt (is_before (UpTo key)) pages start whole some previous next → entry_with key some ≡ entry_with key whole
entry_at key pages start whole some previous next at =
    let test : Entry → Bool = λ e. same_key e.key key in
    sym (ap (find test) at.parts
    ∙ find_behind test at.left (some ++ at.right) (all_weaker (IsLesser (is_before (UpTo key))) (λ e. test e ≡ false) at.left (lesser_unequal key) at.lesser)
    ∙ find_before test some at.right (all_weaker (λ e. is_before (UpTo key) e.key ≡ false) (λ e. test e ≡ false) at.right (λ e h. unequal_greater (key_cmp e.key key) h) at.greater))

pub low_height : (pages : List (List ℕ)) (height : ℕ) → IsTree pages height → height - 1 < max_height
low_height pages height t = low height t.least t.most
  where
    low : (height : ℕ) → 1 ≤ height → height ≤ max_height → height - 1 < max_height
    low height a b = omega arith

-- what is found in the leaf is what is found in the table
pub entry_found : (key : Key) (pages : List (List ℕ)) (found : FoundLeaf) → IsLeafOfPlace (is_before (UpTo key)) pages top found → (height : ℕ) → IsTree pages height → entry_with key found.entries ≡ entry_with key (table_of pages height)
entry_found key pages found place height t =
    entry_at key pages top (table_of pages height) found.entries found.previous found.next (place (height - 1) (low_height pages height t) t.subtree)
