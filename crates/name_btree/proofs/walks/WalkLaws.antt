-- A walk below a child, one child after another.
use Rattle.std.proofs.Common.{◌≡◌, ℕ, zero, suc, ◌+◌, Bool, true, false, not, List, [], ◌∷◌, ◌++◌, length, take, drop, Option, Some, refl, sym, ap, subst, ◌∙◌, length-append}
use Rattle.std.specs.Prelude.{slice_get, slice_set}
use Rattle.std.specs.List.{flat_map, AllByRecursion}
use Rattle.std.proofs.lemmas.Bool.{and_from}
use Rattle.std.proofs.lemmas.List.{append-nil, take_more, take-append-drop}
use Rattle.std.proofs.lemmas.List.Concat.{flat_map-append}
use Rattle.std.proofs.lemmas.Option.{slice_get_within, get_or_from_slice_get, same_Some}
use Rattle.fsd_forest.specs.Ways.{end_of}
use Rattle.fsd_bytes.specs.declared.key.Key.{Key}
use Rattle.fsd_formats.specs.declared.entry.Entry.{Entry}
use Rattle.fsd_formats.specs.declared.page.Separator.{Separator}
use Rattle.fsd_formats.specs.NamePage.{Content, Interior}
use Rattle.fsd_table.specs.declared.child.Child.{Child}
use Rattle.fsd_table.specs.Pages.{page_at, children, children_of, keys_fit, separator_keys}
use Rattle.fsd_table.specs.Tree.{entries_below, pages_below, IsInterior, IsSubtree}
use Rattle.fsd_table.proofs.BoundLaws.{all_append}
use Rattle.name_page.specs.Pages.{is_spare}
use Rattle.name_btree.specs.Walk.{IsUsed, is_marked, can_mark, marked, IsWalkedSubtree, AreWalked}
use Rattle.name_page.proofs.ListLaws.{drop_at}
use Rattle.name_btree.proofs.walks.MarkLaws.{marked_append, can_append}

-- ---- children by their number

pub child_first : (first : ℕ) (low high : Option Key) (xs : List Separator) → slice_get (children first low high xs) 0 ≡ Some (record { page = first; low = low; high = end_of high xs })
child_first first low high [] = refl
child_first first low high (s ∷ xs) = refl

child_behind : (first : ℕ) (low high : Option Key) (xs : List Separator) (k : ℕ) (s : Separator) → slice_get xs k ≡ Some s
    → slice_get (children first low high xs) (suc k) ≡ Some (record { page = s.child; low = Some s.key; high = end_of high (drop (suc k) xs) })
child_behind first low high [] k s e = absurd cc
child_behind first low high (x ∷ xs) zero s e =
    let same : x ≡ s = same_Some x s e in
    child_first x.child (Some x.key) high xs ∙ ap (λ (y : Separator). Some (child_of y.child y.key)) same
  where
    child_of : ℕ → Key → Child
    child_of page key = record { page = page; low = Some key; high = end_of high xs }
child_behind first low high (x ∷ xs) (suc k) s e = child_behind x.child (Some x.key) high xs k s e

pub child_later : (first : ℕ) (low high : Option Key) (xs : List Separator) (i k : ℕ) (s : Separator) → suc k ≡ i → slice_get xs k ≡ Some s
    → slice_get (children first low high xs) i ≡ Some (record { page = s.child; low = Some s.key; high = end_of high (drop i xs) })
child_later first low high xs i k s is e =
    let P : ℕ → Type 0 = λ (n : ℕ). slice_get (children first low high xs) n ≡ Some (record { page = s.child; low = Some s.key; high = end_of high (drop n xs) }) in
    subst P is (child_behind first low high xs k s e)

pub all_at : (P : Child → Type 0) (cs : List Child) (i : ℕ) (d : Child) → slice_get cs i ≡ Some d → AllByRecursion P cs → P d
all_at P [] i d e a = absurd cc
all_at P (c ∷ cs) zero d e a = subst P (same_Some c d e) a.0
all_at P (c ∷ cs) (suc i) d e a = all_at P cs i d e a.1

take_one : (cs : List Child) (i : ℕ) (d : Child) → slice_get cs i ≡ Some d → take (i + 1) cs ≡ take i cs ++ d ∷ []
take_one cs i d e = take_more cs i d (slice_get_within cs i d e) ∙ ap (λ (x : Child). take i cs ++ x ∷ []) (get_or_from_slice_get cs i d d e)

pub cut_at : (cs : List Child) (i : ℕ) (d : Child) → slice_get cs i ≡ Some d → cs ≡ take i cs ++ d ∷ drop (i + 1) cs
cut_at cs i d e = sym (take-append-drop i cs) ∙ ap (λ (xs : List Child). take i cs ++ xs) (drop_at cs i d e)

-- ---- one child more

abbrev Below : ℕ → List (List ℕ) → List Child → List ℕ
Below level pages cs = flat_map (pages_below level pages) cs

append_one : (spares : List Bool) (level : ℕ) (pages : List (List ℕ)) (xs : List Child) (d : Child) (before mid after : List Bool) (n m : ℕ)
    → AreWalked spares level pages xs before mid n → IsWalkedSubtree spares level pages d mid after m → AreWalked spares level pages (xs ++ d ∷ []) before after (n + m)
append_one spares level pages xs d before mid after n m a w =
    let f : Child → List ℕ = pages_below level pages in
    let g : Child → List Entry = entries_below level pages in
    let split : flat_map f (xs ++ d ∷ []) ≡ flat_map f xs ++ f d = flat_map-append f xs (d ∷ []) ∙ ap (λ (ys : List ℕ). flat_map f xs ++ ys) (append-nil (f d)) in
    let entries : flat_map g (xs ++ d ∷ []) ≡ flat_map g xs ++ g d = flat_map-append g xs (d ∷ []) ∙ ap (λ (ys : List Entry). flat_map g xs ++ ys) (append-nil (g d)) in
    record {
      used = subst (AllByRecursion (IsUsed spares)) (sym split) (all_append (IsUsed spares) (flat_map f xs) (f d) a.used w.used);
      subtrees = all_append (IsSubtree level pages) xs (d ∷ []) a.subtrees (w.subtree, tt);
      unmarked = ap (can_mark before) split ∙ can_append before (flat_map f xs) (f d)
          ∙ and_from (can_mark before (flat_map f xs)) (can_mark (marked before (flat_map f xs)) (f d)) a.unmarked (ap (λ (x : List Bool). can_mark x (f d)) (sym a.marks) ∙ w.unmarked);
      marks = w.marks ∙ ap (λ (x : List Bool). marked x (f d)) a.marks ∙ sym (marked_append before (flat_map f xs) (f d)) ∙ ap (marked before) (sym split);
      count_is = ap (λ (k : ℕ). k + m) a.count_is ∙ ap (λ (k : ℕ). length (flat_map g xs) + k) w.count_is ∙ sym (length-append (flat_map g xs) (g d)) ∙ ap (λ (ys : List Entry). length ys) (sym entries);
    }

pub one_more : (spares : List Bool) (level : ℕ) (pages : List (List ℕ)) (cs : List Child) (i : ℕ) (d : Child) (before mid after : List Bool) (n m : ℕ) → slice_get cs i ≡ Some d
    → AreWalked spares level pages (take i cs) before mid n → IsWalkedSubtree spares level pages d mid after m → AreWalked spares level pages (take (i + 1) cs) before after (n + m)
one_more spares level pages cs i d before mid after n m at a w =
    let P : List Child → Type 0 = λ (xs : List Child). AreWalked spares level pages xs before after (n + m) in
    subst P (sym (take_one cs i d at)) (append_one spares level pages (take i cs) d before mid after n m a w)

-- ---- the page above

below_is : (level : ℕ) (pages : List (List ℕ)) (c : Child) (first : ℕ) (xs : List Separator) → page_at pages c.page ≡ Some (Interior first xs)
    → pages_below (suc level) pages c ≡ c.page ∷ Below level pages (children first c.low c.high xs)
below_is level pages c first xs at = ap (λ (x : Option Content). c.page ∷ flat_map (pages_below level pages) (children_of c.low c.high x)) at

above_at : (spares : List Bool) (level : ℕ) (pages : List (List ℕ)) (c : Child) (first : ℕ) (xs : List Separator) (before after : List Bool) (count : ℕ) → page_at pages c.page ≡ Some (Interior first xs)
    → keys_fit c.low c.high (separator_keys xs) ≡ true → not (is_marked before c.page) ≡ true
    → is_spare spares c.page ≡ false → AreWalked spares level pages (children first c.low c.high xs) (slice_set before c.page true) after count → IsWalkedSubtree spares (suc level) pages c before after count
above_at spares level pages c first xs before after count at fits new here a =
    let cs : List Child = children first c.low c.high xs in
    let is = below_is level pages c first xs at in
    record {
      used = subst (AllByRecursion (IsUsed spares)) (sym is) (here, a.used);
      subtree = subst (IsInterior (IsSubtree level pages) c) (sym at) (fits, a.subtrees);
      unmarked = ap (can_mark before) is ∙ and_from (not (is_marked before c.page)) (can_mark (slice_set before c.page true) (Below level pages cs)) new a.unmarked;
      marks = a.marks ∙ ap (marked before) (sym is);
      count_is = a.count_is ∙ ap (λ (x : Option Content). length (flat_map (entries_below level pages) (children_of c.low c.high x))) (sym at);
    }

pub above_walked : (spares : List Bool) (level up : ℕ) (pages : List (List ℕ)) (c : Child) (first : ℕ) (xs : List Separator) (before after : List Bool) (count : ℕ) → suc level ≡ up → page_at pages c.page ≡ Some (Interior first xs)
    → keys_fit c.low c.high (separator_keys xs) ≡ true → not (is_marked before c.page) ≡ true
    → is_spare spares c.page ≡ false → AreWalked spares level pages (children first c.low c.high xs) (slice_set before c.page true) after count → IsWalkedSubtree spares up pages c before after count
above_walked spares level up pages c first xs before after count is at fits new here a =
    subst (λ (l : ℕ). IsWalkedSubtree spares l pages c before after count) is (above_at spares level pages c first xs before after count at fits new here a)
