-- A tree tells its entries.
use Rattle.std.proofs.Common.{◌≡◌, ℕ, zero, suc, ◌+◌, ◌-◌, ◌≤◌, ◌<◌, Bool, true, false, cond, not, ◌&&◌, ◌||◌, List, [], ◌∷◌, ◌++◌, length, map, Option, Some, None, refl, sym, ap, subst, ◌∙◌, arith, zero-add}
use Rattle.std.specs.Prelude.{nat_le, ◌==◌, count_by}
use Rattle.std.specs.List.{list_all, flat_map, AllByRecursion}
use Rattle.std.proofs.lemmas.Bool.{and_parts, and_from, le-leb, or_parts, eq-eqb, not-true}
use Rattle.std.proofs.lemmas.Bool.Decides.{nat_tests}
use Rattle.std.proofs.lemmas.List.{map-append, append-nil}
use Rattle.std.proofs.lemmas.List.Concat.{flat_map-append}
use Rattle.std.proofs.lemmas.List.Sums.{sum_by-cons}
use Rattle.run_table.specs.Space.{contains, all_differ}
use Rattle.fsd_formats.specs.declared.entry.Entry.{Entry}
use Rattle.fsd_formats.specs.NamePage.{Content, Free, Leaf, Interior}
use Rattle.fsd_table.specs.declared.child.Child.{Child}
use Rattle.fsd_table.specs.Pages.{page_at, children, children_of, entries_of, content_fits}
use Rattle.fsd_table.specs.Table.{Visit, Telling, visits_below, visits, max_height, top, visit_fits, alone, kinds_agree, same_kind, in_shape, entries_in, told_in}
use Rattle.fsd_table.specs.Tree.{entries_below, pages_below, IsLeaf, IsInterior, IsSubtree, IsTree, table_of, pages_of}
use Rattle.fsd_table.proofs.BoundLaws.{all_append, all_weaker}

-- which kind a page has on which depth, where the leaves are so deep
abbrev KindAt : (bottom depth : ℕ) → Option Content → Type 0
KindAt bottom depth (Some (Leaf entries)) = depth ≡ bottom
KindAt bottom depth (Some (Interior first separators)) = depth < bottom
KindAt bottom depth other = ⊥

record Fine (bottom : ℕ) (v : Visit) : Type 0 where
  within : v.depth ≤ bottom
  fits : content_fits v.low v.high v.content ≡ true
  kind : KindAt bottom v.depth v.content

-- the visits tell what stands below
record Tells (bottom level : ℕ) (pages : List (List ℕ)) (c : Child) (all : List Visit) : Type 0 where
  pages_are : map (λ v. v.page) all ≡ pages_below level pages c
  entries_are : entries_in all ≡ entries_below level pages c
  fine : AllByRecursion (Fine bottom) all

-- each child's visits, joined
record AllTell (bottom level : ℕ) (pages : List (List ℕ)) (cs : List Child) (all : List Visit) : Type 0 where
  pages_are : map (λ v. v.page) all ≡ flat_map (pages_below level pages) cs
  entries_are : entries_in all ≡ flat_map (entries_below level pages) cs
  fine : AllByRecursion (Fine bottom) all

join_tell : (bottom level : ℕ) (pages : List (List ℕ)) (f : Child → List Visit) (cs : List Child)
    → AllByRecursion (λ d. Tells bottom level pages d (f d)) cs → AllTell bottom level pages cs (flat_map f cs)
join_tell bottom level pages f [] each = record { pages_are = refl; entries_are = refl; fine = tt }
join_tell bottom level pages f (d ∷ cs) each =
    let this = each.0 in
    let rest = join_tell bottom level pages f cs each.1 in
    record {
      pages_are = map-append (λ (v : Visit). v.page) (f d) (flat_map f cs)
          ∙ ap (λ (x : List ℕ). x ++ map (λ (v : Visit). v.page) (flat_map f cs)) this.pages_are
          ∙ ap (λ (x : List ℕ). pages_below level pages d ++ x) rest.pages_are;
      entries_are = flat_map-append (λ (v : Visit). entries_of v.content) (f d) (flat_map f cs)
          ∙ ap (λ (x : List Entry). x ++ entries_in (flat_map f cs)) this.entries_are
          ∙ ap (λ (x : List Entry). entries_below level pages d ++ x) rest.entries_are;
      fine = all_append (Fine bottom) (f d) (flat_map f cs) this.fine rest.fine;
    }

leaf_tells : (levels bottom depth : ℕ) (pages : List (List ℕ)) (c : Child) (x : Option Content) → page_at pages c.page ≡ x → depth ≡ bottom → IsLeaf c x
    → Tells bottom 0 pages c (record { page = c.page; depth = depth; low = c.low; high = c.high; content = x } ∷ flat_map (visits_below levels pages (depth + 1)) (children_of c.low c.high x))
leaf_tells levels bottom depth pages c None at e h = absurd h
leaf_tells levels bottom depth pages c (Some Free) at e h = absurd h
leaf_tells levels bottom depth pages c (Some (Interior first separators)) at e h = absurd h
leaf_tells levels bottom depth pages c (Some (Leaf entries)) at e h = record {
  pages_are = refl;
  entries_are = sym (ap (λ (x : Option Content). entries_of x) at ∙ sym (append-nil entries));
  fine = (record { within = omega arith; fits = h; kind = e }, tt);
}

interior_tells : (levels level bottom depth : ℕ) (pages : List (List ℕ)) (c : Child) (x : Option Content) → page_at pages c.page ≡ x → depth < bottom
    → IsInterior (IsSubtree level pages) c x → ((d : Child) → IsSubtree level pages d → Tells bottom level pages d (visits_below levels pages (depth + 1) d))
    → Tells bottom (suc level) pages c (record { page = c.page; depth = depth; low = c.low; high = c.high; content = x } ∷ flat_map (visits_below levels pages (depth + 1)) (children_of c.low c.high x))
interior_tells levels level bottom depth pages c None at lt h each = absurd h
interior_tells levels level bottom depth pages c (Some Free) at lt h each = absurd h
interior_tells levels level bottom depth pages c (Some (Leaf entries)) at lt h each = absurd h
interior_tells levels level bottom depth pages c (Some (Interior first separators)) at lt h each =
    let cs : List Child = children first c.low c.high separators in
    let f : Child → List Visit = visits_below levels pages (depth + 1) in
    let all = join_tell bottom level pages f cs (all_weaker (IsSubtree level pages) (λ d. Tells bottom level pages d (f d)) cs each h.1) in
    record {
      pages_are = ap (λ (xs : List ℕ). c.page ∷ xs) (all.pages_are ∙ ap (λ (x : Option Content). flat_map (pages_below level pages) (children_of c.low c.high x)) (sym at));
      entries_are = all.entries_are ∙ ap (λ (x : Option Content). flat_map (entries_below level pages) (children_of c.low c.high x)) (sym at);
      fine = (record { within = omega arith; fits = h.0; kind = lt }, all.fine);
    }

tells : (level levels bottom depth : ℕ) (pages : List (List ℕ)) (c : Child) → level < levels → depth + level ≡ bottom → IsSubtree level pages c → Tells bottom level pages c (visits_below levels pages depth c)
tells level zero bottom depth pages c lt e h = absurd (omega arith)
tells zero (suc levels) bottom depth pages c lt e h = leaf_tells levels bottom depth pages c (page_at pages c.page) refl (omega arith) h
tells (suc level) (suc levels) bottom depth pages c lt e h =
    interior_tells levels level bottom depth pages c (page_at pages c.page) refl (omega arith) h
    (λ d t. tells level levels bottom (depth + 1) pages d (omega arith) (omega arith) t)

-- the pages that subtrees have are those that are visited
pub visited_pages : (level levels depth : ℕ) (pages : List (List ℕ)) (cs : List Child) → level < levels → AllByRecursion (IsSubtree level pages) cs
    → map (λ v. v.page) (flat_map (visits_below levels pages depth) cs) ≡ flat_map (pages_below level pages) cs
visited_pages level levels depth pages cs low each =
    let f : Child → List Visit = visits_below levels pages depth in
    let all = all_weaker (IsSubtree level pages) (λ d. Tells (depth + level) level pages d (f d)) cs (λ d t. tells level levels (depth + level) depth pages d low refl t) each in
    (join_tell (depth + level) level pages f cs all).pages_are

-- ---- each visit is in shape

no_count : (x : ℕ) (xs : List ℕ) → contains xs x ≡ false → count_by (λ t. t == x) xs ≡ 0
no_count x [] e = refl
no_count x (y ∷ xs) e =
    let parts = or_parts (y == x) (contains xs x) e in
    sum_by-cons (λ (t : ℕ). cond (t == x) 1 0) y xs ∙ ap (λ (b : Bool). cond b 1 0 + count_by (λ t. t == x) xs) parts.0 ∙ zero-add (count_by (λ t. t == x) xs) ∙ no_count x xs parts.1

other_way : (x y : ℕ) → (y == x) ≡ false → (x == y) ≡ false
other_way x y e = grind (arith, nat_tests)

others : (x : ℕ) (xs : List ℕ) → contains xs x ≡ false → AllByRecursion (λ y. (x == y) ≡ false) xs
others x [] e = tt
others x (y ∷ xs) e = let parts = or_parts (y == x) (contains xs x) e in (other_way x y parts.0, others x xs parts.1)

both : {X : Type 0} (P Q R : X → Type 0) (xs : List X) → ((x : X) → P x → Q x → R x) → AllByRecursion P xs → AllByRecursion Q xs → AllByRecursion R xs
both P Q R [] f a b = tt
both P Q R (x ∷ xs) f a b = (f x a.0 b.0, both P Q R xs f a.1 b.1)

counted_once : (xs : List ℕ) → all_differ xs ≡ true → AllByRecursion (λ x. count_by (λ t. t == x) xs ≡ 1) xs
counted_once [] e = tt
counted_once (x ∷ xs) e =
    let parts = and_parts (not (contains xs x)) (all_differ xs) e in
    let absent : contains xs x ≡ false = not-true (contains xs x) parts.0 in (
      sum_by-cons (λ (t : ℕ). cond (t == x) 1 0) x xs ∙ ap (λ (b : Bool). cond b 1 0 + count_by (λ t. t == x) xs) (eq-eqb x x refl) ∙ ap (λ (n : ℕ). 1 + n) (no_count x xs absent),
      both (λ y. (x == y) ≡ false) (λ y. count_by (λ t. t == y) xs ≡ 1) (λ y. count_by (λ t. t == y) (x ∷ xs) ≡ 1) xs
          (λ y ne one. sum_by-cons (λ (t : ℕ). cond (t == y) 1 0) x xs ∙ ap (λ (b : Bool). cond b 1 0 + count_by (λ t. t == y) xs) ne ∙ zero-add (count_by (λ t. t == y) xs) ∙ one)
          (others x xs absent) (counted_once xs parts.1),
    )

pub count_map : (x : ℕ) (all : List Visit) → count_by (λ w. w.page == x) all ≡ count_by (λ t. t == x) (map (λ v. v.page) all)
count_map x [] = refl
count_map x (v ∷ all) =
    sum_by-cons (λ (w : Visit). cond (w.page == x) 1 0) v all
    ∙ ap (λ (n : ℕ). cond (v.page == x) 1 0 + n) (count_map x all)
    ∙ sym (sum_by-cons (λ (t : ℕ). cond (t == x) 1 0) v.page (map (λ v. v.page) all))

unmap : (P : ℕ → Type 0) (all : List Visit) → AllByRecursion P (map (λ v. v.page) all) → AllByRecursion (λ v. P v.page) all
unmap P [] a = tt
unmap P (v ∷ all) a = (a.0, unmap P all a.1)

alike : (bottom d : ℕ) (x y : Option Content) → KindAt bottom d x → KindAt bottom d y → kinds_agree x y ≡ true
alike bottom d None y a b = refl
alike bottom d (Some x) None a b = refl
alike bottom d (Some Free) (Some y) a b = absurd a
alike bottom d (Some (Leaf xs)) (Some Free) a b = absurd b
alike bottom d (Some (Leaf xs)) (Some (Leaf ys)) a b = refl
alike bottom d (Some (Leaf xs)) (Some (Interior first ys)) a b = absurd (omega arith)
alike bottom d (Some (Interior first xs)) (Some Free) a b = absurd b
alike bottom d (Some (Interior first xs)) (Some (Leaf ys)) a b = absurd (omega arith)
alike bottom d (Some (Interior first xs)) (Some (Interior second ys)) a b = refl

as_deep : (bottom m n : ℕ) (x y : Option Content) (b : Bool) → (m == n) ≡ b → KindAt bottom m x → KindAt bottom n y → (not b || kinds_agree x y) ≡ true
as_deep bottom m n x y false e a b = refl
as_deep bottom m n x y true e a b =
    let same : m ≡ n = equal m n e in
    let P : ℕ → Type 0 = λ (k : ℕ). KindAt bottom k x in
    alike bottom n x y (subst P same a) b
  where
    equal : (m n : ℕ) → (m == n) ≡ true → m ≡ n
    equal m n e = grind (arith, nat_tests)

kinds_same : (bottom : ℕ) (v : Visit) (all : List Visit) → Fine bottom v → AllByRecursion (Fine bottom) all → same_kind all v ≡ true
kinds_same bottom v [] f a = refl
kinds_same bottom v (w ∷ all) f a =
    and_from (not (w.depth == v.depth) || kinds_agree w.content v.content) (same_kind all v)
    (as_deep bottom w.depth v.depth w.content v.content (w.depth == v.depth) refl a.0.kind f.kind) (kinds_same bottom v all f a.1)

list_all_from : (p : Visit → Bool) (xs : List Visit) → AllByRecursion (λ v. p v ≡ true) xs → list_all p xs ≡ true
list_all_from p [] a = refl
list_all_from p (x ∷ xs) a = and_from (p x) (list_all p xs) a.0 (list_all_from p xs a.1)

shaped : (bottom level : ℕ) (pages : List (List ℕ)) (c : Child) (all : List Visit) → bottom ≤ max_height → Tells bottom level pages c all → all_differ (pages_below level pages c) ≡ true
    → list_all (in_shape all) all ≡ true
shaped bottom level pages c all most t apart =
    let once = unmap (λ x. count_by (λ t. t == x) (map (λ v. v.page) all) ≡ 1) all (counted_once (map (λ v. v.page) all) (ap all_differ t.pages_are ∙ apart)) in
    list_all_from (in_shape all) all (both (Fine bottom) (λ v. count_by (λ t. t == v.page) (map (λ v. v.page) all) ≡ 1) (λ v. in_shape all v ≡ true) all
    (λ v f one. and_from (visit_fits v && alone all v) (same_kind all v)
    (and_from (visit_fits v) (alone all v)
    (and_from (nat_le v.depth max_height) (content_fits v.low v.high v.content) (le-leb v.depth max_height (deep v.depth bottom f.within most)) f.fits)
    (eq-eqb (count_by (λ w. w.page == v.page) all) 1 (count_map v.page all ∙ one)))
    (kinds_same bottom v all f t.fine))
    t.fine once)
  where
    deep : (d bottom : ℕ) → d ≤ bottom → bottom ≤ max_height → d ≤ max_height
    deep d bottom a b = omega arith

length-of_map : (all : List Visit) → length (map (λ v. v.page) all) ≡ length all
length-of_map [] = refl
length-of_map (v ∷ all) = ap suc (length-of_map all)

-- the visits of a tree
tree_tells : (pages : List (List ℕ)) (height : ℕ) → IsTree pages height → Tells height (height - 1) pages top (visits pages)
unfolding visits
tree_tells pages height t = tells (height - 1) (suc max_height) height 1 pages top (low height t.most) (from_one height t.least) t.subtree
  where
    low : (height : ℕ) → height ≤ max_height → height - 1 < suc max_height
    low height h = omega arith

    from_one : (height : ℕ) → 1 ≤ height → 1 + (height - 1) ≡ height
    from_one height h = omega arith

pub all_in_shape : (pages : List (List ℕ)) (height : ℕ) → IsTree pages height → list_all (in_shape (visits pages)) (visits pages) ≡ true
all_in_shape pages height t = shaped height (height - 1) pages top (visits pages) t.most (tree_tells pages height t) t.apart

-- what a tree tells
pub tree_told : (pages : List (List ℕ)) (height : ℕ) → IsTree pages height → told_in pages ≡ Some (record { entries = table_of pages height; reached = length (pages_of pages height) })
unfolding told_in
tree_told pages height t =
    let all : List Visit = visits pages in
    let tell : Tells height (height - 1) pages top all = tree_tells pages height t in
    ap (λ (b : Bool). cond b (Some (told (entries_in all) (length all))) None) (all_in_shape pages height t)
    ∙ ap (λ (x : List Entry). Some (told x (length all))) tell.entries_are
    ∙ ap (λ (n : ℕ). Some (told (table_of pages height) n)) (sym (length-of_map all) ∙ ap length tell.pages_are)
  where
    told : List Entry → ℕ → Telling
    told entries reached = record { entries = entries; reached = reached }

-- so pages tell one table only
pub one_table : (pages : List (List ℕ)) (h k : ℕ) → IsTree pages h → IsTree pages k → table_of pages h ≡ table_of pages k
one_table pages h k a b = sym (ap told_of (tree_told pages h a)) ∙ ap told_of (tree_told pages k b)
  where
    told_of : Option Telling → List Entry
    told_of (Some t) = t.entries
    told_of None = []
