-- An entry that is put into a leaf.
use Rattle.std.proofs.Common.{◌≡◌, ℕ, zero, suc, ◌+◌, ◌≤◌, Bool, true, false, cond, not, ◌&&◌, List, [], ◌∷◌, ◌++◌, length, refl, sym, ap, subst, ◌∙◌, arith, Some, None, Option, length-append}
use Rattle.std.specs.Prelude.{◌==◌}
use Rattle.std.specs.List.{flat_map, list_all, AllByRecursion}
use Rattle.std.specs.Ordering.{is_gt, is_lt, is_eq}
use Rattle.std.specs.declared.cmp.Ordering.{Ordering}
use Rattle.std.specs.declared.cmp.Ordering.TheVariants as orders
use Rattle.std.proofs.lemmas.Bool.{and_parts, eqb-true}
use Rattle.std.proofs.lemmas.List.Concat.{flat_map-append}
use Rattle.fsd_bytes.specs.declared.key.Key.{Key}
use Rattle.fsd_bytes.specs.Keys.{key_cmp, key_lt, same_key}
use Rattle.fsd_formats.specs.declared.entry.Entry.{Entry}
use Rattle.fsd_formats.specs.NamePage.{Content, Leaf, is_entry, entry_bytes, are_ascending, room, least_used}
use Rattle.fsd_table.specs.declared.child.Child.{Child}
use Rattle.fsd_table.specs.Pages.{page_at, not_below, below, keys_fit, entry_keys, entries_of}
use Rattle.fsd_table.specs.Tree.{IsLeaf}
use Rattle.fsd_table.proofs.KeyLaws.{le_lt}
use Rattle.fsd_table.proofs.PageLaws.{at_is_page}
use Rattle.fsd_forest.specs.Forest.{heads, times_in, Exchange, Becomes}
use Rattle.fsd_forest.specs.Parts.{is_inside, left_part, right_part}
use Rattle.fsd_forest.proofs.CountLaws.{count_cons, count_nothing}
use Rattle.fsd_forest.proofs.ForestLaws.{leaves_become}
use Rattle.fsd_forest.proofs.PartLaws.{leaves_part}
use Rattle.name_page.specs.Pages.{Step}
use Rattle.name_page.proofs.LeafLaws.{between}
use Rattle.fsd_table.proofs.EntryLaws.{entry_short}
use Rattle.name_page.specs.declared.cut.Cut.TheVariants.{UpTo}
use Rattle.name_page.specs.declared.entries.Side.TheVariants.{Lesser, Greater}
use Rattle.name_page.specs.Cut.{is_before, AtLow, AtHigh}
use Rattle.name_page.specs.Edits.{beside, with_entry}
use Rattle.name_page.specs.Lookups.{entry_with, is_after}
use Rattle.name_page.specs.Parting.{used_by}
use Rattle.name_page.proofs.CutLaws.{greater}
use Rattle.name_page.proofs.SideLaws.{with_ascends, with_all, with_fits}
use Rattle.name_btree.specs.declared.draft.Sheet.{Sheet}
use Rattle.name_btree.specs.declared.growing.Grown.{Grown}
use Rattle.name_btree.specs.declared.growing.Grown.TheVariants.{Whole, Parted}
use Rattle.name_btree.specs.Draft.{drafted}
use Rattle.name_btree.specs.Grown.{came_of, went_of, parts_of, most_parted, FitsTwoLeaves, IsGrown, StaysInPlace, AreLeavesOf, IsDivided, IsFull, BranchBecomes, Grows}
use Rattle.name_btree.proofs.steps.ReplaceLaws.{leaf_parts}

-- ---- how many bytes

-- an entry with another key stands on one side
one_of : (e : Entry) (o : Ordering) (xs ys : List Entry) → is_eq o ≡ false
    → used_by (cond (is_lt o) (e ∷ xs) xs) + used_by (cond (is_gt o) (e ∷ ys) ys) ≡ length (entry_bytes e) + (used_by xs + used_by ys)
one_of e orders.Less xs ys unequal = omega (arith, length-append (entry_bytes e) (flat_map entry_bytes xs))
one_of e orders.Equal xs ys unequal = absurd cc
one_of e orders.Greater xs ys unequal = omega (arith, length-append (entry_bytes e) (flat_map entry_bytes ys))

sides_used : (key : Key) (xs : List Entry) → entry_with key xs ≡ None → used_by (beside Lesser key xs) + used_by (beside Greater key xs) ≡ used_by xs
sides_used key [] none = refl
sides_used key (x ∷ xs) none = by (same_key x.key key) refl none (λ later. sides_used key xs later)
  where
    by : (b : Bool) → same_key x.key key ≡ b → cond b (Some x) (entry_with key xs) ≡ None → (entry_with key xs ≡ None → used_by (beside Lesser key xs) + used_by (beside Greater key xs) ≡ used_by xs)
        → used_by (beside Lesser key (x ∷ xs)) + used_by (beside Greater key (x ∷ xs)) ≡ used_by (x ∷ xs)
    by true is none later = absurd cc
    by false is none later = omega (arith, one_of x (key_cmp x.key key) (beside Lesser key xs) (beside Greater key xs) is, later none, length-append (entry_bytes x) (flat_map entry_bytes xs))

with_used : (e : Entry) (xs : List Entry) → entry_with e.key xs ≡ None → used_by (with_entry e xs) ≡ used_by xs + length (entry_bytes e)
with_used e xs none =
    let l : List Entry = beside Lesser e.key xs in
    let g : List Entry = beside Greater e.key xs in
    omega (
      arith,
      sides_used e.key xs none,
      ap length (flat_map-append entry_bytes l (e ∷ g)),
      length-append (flat_map entry_bytes l) (flat_map entry_bytes (e ∷ g)),
      length-append (entry_bytes e) (flat_map entry_bytes g),
    )

-- one entry more than a leaf has is not too much for two
pub with_fits_two : (pages : List (List ℕ)) (page : ℕ) (e : Entry) (entries items : List Entry) → page_at pages page ≡ Some (Leaf entries) → items ≡ with_entry e entries → is_entry e ≡ true → entry_with e.key entries ≡ None
    → FitsTwoLeaves page items
with_fits_two pages page e entries items at same is none =
    let parts = leaf_parts page (length pages) entries (at_is_page pages page (Leaf entries) at) in
    let used = between (least_used page) room (used_by entries) parts.used in
    let bytes : used_by items ≡ used_by entries + length (entry_bytes e) = ap used_by same ∙ with_used e entries none in
    record {
      each = ap (list_all is_entry) same ∙ with_all is_entry e entries is parts.each;
      order = ap (λ (xs : List Entry). are_ascending (entry_keys xs)) same ∙ with_ascends e entries parts.order;
      least = omega (arith, used.0, bytes);
      most = omega (arith, used.1, bytes, entry_short e is);
    }

-- ---- keys

at_low : (key : Key) (low : Option Key) → not_below low key ≡ true → AtLow (is_before (UpTo key)) low
at_low key None a = tt
at_low key (Some k) a = ap not (greater k key) ∙ a

at_high : (key : Key) (high : Option Key) → below high key ≡ true → AtHigh (is_before (UpTo key)) high
at_high key None a = tt
at_high key (Some k) a = ap not (greater k key ∙ a)

pub inside_fits : (e : Entry) (c : Child) (xs : List Entry) → is_inside c e.key ≡ true → keys_fit c.low c.high (entry_keys xs) ≡ true → keys_fit c.low c.high (entry_keys (with_entry e xs)) ≡ true
inside_fits e c xs inside fit =
    let both = and_parts (not_below c.low e.key) (below c.high e.key) inside in
    with_fits e c.low c.high xs (at_low e.key c.low both.0) (at_high e.key c.high both.1) fit

-- a key behind one that a low key is not above
pub behind_low : (low : Option Key) (k key : Key) → not_below low k ≡ true → key_lt k key ≡ true → is_after low key ≡ true
behind_low None k key a b = refl
behind_low (Some low) k key a b = le_lt low k key a b

-- ---- the pages

pub came_few : (page : ℕ) (g : Grown) → length (came_of page g) ≤ most_parted page
came_few page Whole = omega arith
came_few page (Parted left s) = by (page == 0)
  where
    by : (b : Bool) → length (cond b (left ∷ []) [] ++ s.child ∷ []) ≤ cond b 2 1
    by true = omega arith
    by false = omega arith

-- the parts stand in the place of the page
pub heads_exchange : (c : Child) (g : Grown) → StaysInPlace c.page g → Exchange (heads (c ∷ [])) (heads (parts_of c g)) (came_of c.page g) (went_of c.page g)
heads_exchange c Whole place p = refl
heads_exchange c (Parted left s) place p = by (c.page == 0) refl
  where
    by : (b : Bool) → (c.page == 0) ≡ b → times_in p (left ∷ s.child ∷ []) + times_in p (cond b (0 ∷ []) []) ≡ times_in p (c.page ∷ []) + times_in p (cond b (left ∷ []) [] ++ s.child ∷ [])
    by true is =
        let zero_is : times_in p (c.page ∷ []) ≡ times_in p (0 ∷ []) = ap (λ (n : ℕ). times_in p (n ∷ [])) (eqb-true c.page 0 is) in
        omega (arith, zero_is)
    by false is =
        let left_is : left ≡ c.page = place (λ e. let never : (0 == 0) ≡ false = ap (λ (n : ℕ). n == 0) (sym e) ∙ is in cc) in
        omega (arith, ap (λ (n : ℕ). times_in p (n ∷ s.child ∷ [])) left_is, count_cons p c.page (s.child ∷ []), count_cons p c.page [], count_nothing p)

-- ---- the leaf

record AreGrownLeaves (e : Entry) (pages after : List (List ℕ)) (c : Child) (entries : List Entry) (g : Grown) : Type 0 where
  leaves : AllByRecursion (λ d. IsLeaf d (page_at after d.page)) (parts_of c g)
  entries_are : flat_map (λ d. entries_of (page_at after d.page)) (parts_of c g) ≡ entries
  divided : IsDivided c g

leaves_grown : (e : Entry) (pages after : List (List ℕ)) (c : Child) (entries : List Entry) (g : Grown) → AreLeavesOf after c.page entries g → are_ascending (entry_keys entries) ≡ true → keys_fit c.low c.high (entry_keys entries) ≡ true
    → AreGrownLeaves e pages after c entries g
leaves_grown e pages after c entries Whole is order fit = record {
  leaves = (subst (IsLeaf c) (sym is) fit, tt);
  entries_are = ap (λ (x : Option Content). entries_of x ++ []) is ∙ append_nothing entries;
  divided = tt;
}
  where
    append_nothing : (xs : List Entry) → xs ++ [] ≡ xs
    append_nothing [] = refl
    append_nothing (x ∷ xs) = ap (λ (ys : List Entry). x ∷ ys) (append_nothing xs)
leaves_grown e pages after c entries (Parted left s) is order fit =
    let xs : List Entry = is.x ∷ is.xs in
    let ys : List Entry = is.y ∷ is.ys in
    let asc : are_ascending (entry_keys (xs ++ ys)) ≡ true = ap (λ (zs : List Entry). are_ascending (entry_keys zs)) (sym is.parts) ∙ order in
    let fits : keys_fit c.low c.high (entry_keys (xs ++ ys)) ≡ true = ap (λ (zs : List Entry). keys_fit c.low c.high (entry_keys zs)) (sym is.parts) ∙ fit in
    let p = leaves_part c left s.child xs is.ys is.y asc fits in
    let head = and_parts (not_below c.low is.x.key && below c.high is.x.key) (keys_fit c.low c.high (entry_keys (is.xs ++ ys))) fits in
    let first = and_parts (not_below c.low is.x.key && key_lt is.x.key is.y.key) (keys_fit c.low (Some is.y.key) (entry_keys is.xs)) p.0 in
    let inside = and_parts (not_below c.low is.y.key) (below c.high is.y.key) p.1.1 in
    let under = (and_parts (not_below c.low is.x.key) (key_lt is.x.key is.y.key) first.0).1 in
    let low = (and_parts (not_below c.low is.x.key) (below c.high is.x.key) head.0).0 in
    let key = sym is.key in
    let Front : Key → Type 0 = λ (k : Key). IsLeaf (left_part left c k) (Some (Leaf xs)) in
    let Behind : Key → Type 0 = λ (k : Key). IsLeaf (right_part s.child c k) (Some (Leaf ys)) in
    record {
      leaves = (subst (IsLeaf (left_part left c s.key)) (sym is.front) (subst Front key p.0), (subst (IsLeaf (right_part s.child c s.key)) (sym is.behind) (subst Behind key p.1.0), tt));
      entries_are = (λ i. entries_of (is.front i) ++ (entries_of (is.behind i) ++ [])) ∙ ap (λ (zs : List Entry). xs ++ zs) (append_nothing ys) ∙ sym is.parts;
      divided = (subst (λ (k : Key). is_after c.low k ≡ true) key (behind_low c.low is.x.key is.y.key low under), subst (λ (k : Key). below c.high k ≡ true) key inside.1);
    }
  where
    append_nothing : (xs : List Entry) → xs ++ [] ≡ xs
    append_nothing [] = refl
    append_nothing (x ∷ xs) = ap (λ (ys : List Entry). x ∷ ys) (append_nothing xs)

not_full : (x : Option Content) (entries : List Entry) (g : Grown) → x ≡ Some (Leaf entries) → IsFull x g
not_full x entries g e = subst (λ (y : Option Content). IsFull y g) (sym e) tt

pub grows_leaf : (e : Entry) (old new : Step) (sheets after : List Sheet) (c : Child) (entries items : List Entry) (g : Grown) → page_at (drafted sheets old.images) c.page ≡ Some (Leaf entries) → items ≡ with_entry e entries
    → keys_fit c.low c.high (entry_keys entries) ≡ true → is_inside c e.key ≡ true → IsGrown old new sheets after c.page g → AreLeavesOf (drafted after new.images) c.page items g
    → Grows e old new (drafted sheets old.images) (drafted after new.images) 0 c g
grows_leaf e old new sheets after c entries items g at same fit inside grown leaves =
    let pages : List (List ℕ) = drafted sheets old.images in
    let pages2 : List (List ℕ) = drafted after new.images in
    let parts = leaf_parts c.page (length pages) entries (at_is_page pages c.page (Leaf entries) at) in
    let order = ap (λ (xs : List Entry). are_ascending (entry_keys xs)) same ∙ with_ascends e entries parts.order in
    let fits = ap (λ (xs : List Entry). keys_fit c.low c.high (entry_keys xs)) same ∙ inside_fits e c entries inside fit in
    let l = leaves_grown e pages pages2 c items g leaves order fits in
    let old_are : flat_map (λ d. entries_of (page_at pages d.page)) (c ∷ []) ≡ entries = ap (λ (x : Option Content). entries_of x ++ []) at ∙ append_nothing entries in
    let now : flat_map (λ d. entries_of (page_at pages2 d.page)) (parts_of c g) ≡ with_entry e (flat_map (λ d. entries_of (page_at pages d.page)) (c ∷ [])) = l.entries_are ∙ same ∙ ap (with_entry e) (sym old_are) in
    let becomes = leaves_become (with_entry e) pages pages2 (came_of c.page g) (went_of c.page g) (c ∷ []) (parts_of c g) l.leaves (heads_exchange c g grown.place) now in
    record {
      came = came_of c.page g;
      few = omega (arith, came_few c.page g);
      takes = grown.takes;
      sound = grown.sound;
      place = grown.place;
      divided = l.divided;
      full = not_full (page_at pages c.page) entries g at;
      becomes = λ level low branch used. by level low becomes;
    }
  where
    append_nothing : (xs : List Entry) → xs ++ [] ≡ xs
    append_nothing [] = refl
    append_nothing (x ∷ xs) = ap (λ (ys : List Entry). x ∷ ys) (append_nothing xs)

    by : (level : ℕ) → level ≤ 0 → Becomes (with_entry e) (drafted sheets old.images) (drafted after new.images) (came_of c.page g) (went_of c.page g) 0 (c ∷ []) (parts_of c g)
        → BranchBecomes e (drafted sheets old.images) (drafted after new.images) (came_of c.page g) level c g
    by zero low b = record { becomes = b; stay = grown.stay }
    by (suc level) low b = absurd (omega arith)
