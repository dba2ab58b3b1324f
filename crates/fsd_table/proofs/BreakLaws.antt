-- Pages that paths from page 0 reach, and how they break a table.
use Rattle.std.proofs.Common.{◌≡◌, ◌⊎◌, inl, inr, ℕ, zero, suc, ◌+◌, ◌≤◌, ◌<◌, Bool, true, false, cond, not, ◌&&◌, ◌||◌, List, [], ◌∷◌, ◌++◌, length, map, Option, Some, None, refl, sym, ap, subst, ◌∙◌, arith}
use Rattle.std.specs.Prelude.{nat_le, slice_index_or, ◌==◌, count_by}
use Rattle.std.specs.List.{list_all, flat_map, AllByRecursion, Contains}
use Rattle.std.proofs.lemmas.Bool.{and_parts, and_left, and_right, eq-eqb}
use Rattle.std.proofs.lemmas.Bool.Decides.{nat_tests}
use Rattle.std.proofs.lemmas.List.Sums.{sum_by-cons}
use Rattle.run_table.specs.Space.{contains}
use Rattle.fsd_formats.specs.declared.page.Separator.{Separator}
use Rattle.fsd_formats.specs.NamePage.{Content, Free, Leaf, Interior}
use Rattle.fsd_table.specs.declared.child.Child.{Child}
use Rattle.fsd_table.specs.Pages.{page_at, children, children_of, content_fits}
use Rattle.fsd_table.specs.Table.{Visit, visit_of, visits_below, visits, max_height, top, visit_fits, alone, kinds_agree, same_kind, in_shape, IsVisited, BreaksTable}
use Rattle.fsd_table.specs.Tree.{IsTree}
use Rattle.fsd_table.proofs.VisitLaws.{all_in_shape}

-- ---- what a list has

-- one after another
abbrev In : {X : Type 0} → X → List X → Type 0
In x [] = ⊥
In x (y ∷ xs) = (y ≡ x) ⊎ In x xs

in_left : {X : Type 0} (x : X) (xs ys : List X) → In x xs → In x (xs ++ ys)
in_left x [] ys h = absurd h
in_left x (y ∷ xs) ys (inl e) = inl e
in_left x (y ∷ xs) ys (inr h) = inr (in_left x xs ys h)

in_right : {X : Type 0} (x : X) (xs ys : List X) → In x ys → In x (xs ++ ys)
in_right x [] ys h = h
in_right x (y ∷ xs) ys h = inr (in_right x xs ys h)

in_parts : {X : Type 0} (x : X) (xs ys : List X) → In x (xs ++ ys) → In x xs ⊎ In x ys
in_parts x [] ys h = inr h
in_parts x (y ∷ xs) ys (inl e) = inl (inl e)
in_parts x (y ∷ xs) ys (inr h) = by (in_parts x xs ys h)
  where
    by : In x xs ⊎ In x ys → ((y ≡ x) ⊎ In x xs) ⊎ In x ys
    by (inl a) = inl (inr a)
    by (inr b) = inr b

contains_by : {X : Type 0} (x : X) (xs : List X) (k : ℕ) → k < length xs → slice_index_or xs k x ≡ x → In x xs
contains_by x [] k low e = absurd (omega arith)
contains_by x (y ∷ xs) zero low e = inl e
contains_by x (y ∷ xs) (suc k) low e = inr (contains_by x xs k (omega arith) e)

in_from : {X : Type 0} (x : X) (xs : List X) → Contains xs x → In x xs
in_from x xs h = contains_by x xs h.0 h.1 h.2

in_to : {X : Type 0} (x : X) (xs : List X) → In x xs → Contains xs x
in_to x [] h = absurd h
in_to x (y ∷ xs) (inl e) = (0, omega arith, e)
in_to x (y ∷ xs) (inr h) = let c = in_to x xs h in (suc c.0, omega arith, c.2)

all_in : {X : Type 0} (P : X → Type 0) (xs : List X) → ((x : X) → In x xs → P x) → AllByRecursion P xs
all_in P [] f = tt
all_in P (x ∷ xs) f = (f x (inl refl), all_in P xs (λ y h. f y (inr h)))

all_has : (p : Visit → Bool) (v : Visit) (xs : List Visit) → In v xs → list_all p xs ≡ true → p v ≡ true
all_has p v [] h e = absurd h
all_has p v (w ∷ xs) (inl same) e = ap p (sym same) ∙ (and_parts (p w) (list_all p xs) e).0
all_has p v (w ∷ xs) (inr h) e = all_has p v xs h (and_parts (p w) (list_all p xs) e).1

-- what comes of one of the children
flat_from : (f : Child → List Visit) (v : Visit) (cs : List Child) → In v (flat_map f cs) → (c : Child) × In c cs × In v (f c)
flat_from f v [] h = absurd h
flat_from f v (c ∷ cs) h = by (flat_from f v cs) (in_parts v (f c) (flat_map f cs) h)
  where
    by : (In v (flat_map f cs) → (d : Child) × In d cs × In v (f d)) → In v (f c) ⊎ In v (flat_map f cs) → (d : Child) × In d (c ∷ cs) × In v (f d)
    by later (inl a) = (c, inl refl, a)
    by later (inr b) = let r = later b in (r.0, inr r.1, r.2)

flat_to : (f : Child → List Visit) (v : Visit) (c : Child) (cs : List Child) → In c cs → In v (f c) → In v (flat_map f cs)
flat_to f v c [] h i = absurd h
flat_to f v c (d ∷ cs) (inl e) i = in_left v (f d) (flat_map f cs) (subst (λ (b : Child). In v (f b)) (sym e) i)
flat_to f v c (d ∷ cs) (inr h) i = in_right v (f d) (flat_map f cs) (flat_to f v c cs h i)

-- ---- the children of what is reached

abbrev child_of : Visit → Child
child_of v = record { page = v.page; low = v.low; high = v.high }

below_of : List (List ℕ) → Child → List Child
below_of pages c = children_of c.low c.high (page_at pages c.page)

first_visit : (levels : ℕ) (pages : List (List ℕ)) (depth : ℕ) (c : Child) → 0 < levels → In (visit_of pages depth c) (visits_below levels pages depth c)
first_visit zero pages depth c some = absurd (omega arith)
first_visit (suc levels) pages depth c some = inl refl

child_below : (levels : ℕ) (pages : List (List ℕ)) (start depth : ℕ) (c0 c d : Child) → In (visit_of pages depth c) (visits_below levels pages start c0) → suc depth < start + levels
    → In d (below_of pages c) → In (visit_of pages (depth + 1) d) (visits_below levels pages start c0)
unfolding below_of
child_below zero pages start depth c0 c d h low i = absurd h
child_below (suc levels) pages start depth c0 c d (inl e) low i =
    let deep : start ≡ depth = ap (λ (v : Visit). v.depth) e in
    let same : c0 ≡ c = ap child_of e in
    let f : Child → List Visit = visits_below levels pages (start + 1) in
    let here : In d (children_of c0.low c0.high (page_at pages c0.page)) = subst (λ (b : Child). In d (children_of b.low b.high (page_at pages b.page))) (sym same) i in
    let some : 0 < levels = omega arith in
    inr (subst (λ (n : ℕ). In (visit_of pages (n + 1) d) (flat_map f (children_of c0.low c0.high (page_at pages c0.page)))) deep
    (flat_to f (visit_of pages (start + 1) d) d (children_of c0.low c0.high (page_at pages c0.page)) here (first_visit levels pages (start + 1) d some)))
child_below (suc levels) pages start depth c0 c d (inr h) low i =
    let f : Child → List Visit = visits_below levels pages (start + 1) in
    let cs : List Child = children_of c0.low c0.high (page_at pages c0.page) in
    let r = flat_from f (visit_of pages depth c) cs h in
    inr (flat_to f (visit_of pages (depth + 1) d) r.0 cs r.1 (child_below levels pages (start + 1) depth r.0 c d r.2 (omega arith) i))

-- ---- paths

pub visited_top : (pages : List (List ℕ)) → IsVisited pages 1 top
unfolding visits
visited_top pages = in_to (visit_of pages 1 top) (visits pages) (inl refl)

-- the children of an interior page are reached, one deeper
pub visited_children : (pages : List (List ℕ)) (depth : ℕ) (c : Child) (first : ℕ) (separators : List Separator) → page_at pages c.page ≡ Some (Interior first separators) → depth ≤ max_height
    → IsVisited pages depth c → AllByRecursion (IsVisited pages (depth + 1)) (children first c.low c.high separators)
unfolding visits below_of
visited_children pages depth c first separators at low h =
    all_in (IsVisited pages (depth + 1)) (children first c.low c.high separators)
    (λ d i. in_to (visit_of pages (depth + 1) d) (visits pages)
    (child_below (suc max_height) pages 1 depth top c d (in_from (visit_of pages depth c) (visits pages) h) (deeper depth low)
    (subst (λ (x : Option Content). In d (children_of c.low c.high x)) (sym at) i)))
  where
    deeper : (depth : ℕ) → depth ≤ max_height → suc depth < 1 + suc max_height
    deeper depth h = omega arith

-- other pages than page 0 are reached where it is interior alone
pub above_visited : (pages : List (List ℕ)) (depth : ℕ) (c : Child) → 1 < depth → IsVisited pages depth c → (first : ℕ) × (separators : List Separator) × (page_at pages 0 ≡ Some (Interior first separators))
unfolding visits
above_visited pages depth c deep h = by (page_at pages 0) refl (in_from (visit_of pages depth c) (visits pages) h)
  where
    none : (x : Option Content) → In (visit_of pages depth c) (record { page = 0; depth = 1; low = None; high = None; content = x } ∷ []) → ⊥
    none x (inl e) = let same : 1 ≡ depth = ap (λ (v : Visit). v.depth) e in omega arith
    none x (inr h) = h

    by : (x : Option Content) → page_at pages 0 ≡ x → In (visit_of pages depth c) (record { page = 0; depth = 1; low = None; high = None; content = x } ∷ flat_map (visits_below max_height pages 2) (children_of None None x))
        → (first : ℕ) × (separators : List Separator) × (page_at pages 0 ≡ Some (Interior first separators))
    by None at h = absurd (none None h)
    by (Some Free) at h = absurd (none (Some Free) h)
    by (Some (Leaf entries)) at h = absurd (none (Some (Leaf entries)) h)
    by (Some (Interior first separators)) at h = (first, separators, at)

-- ---- what breaks a table

unfit_breaks : (pages : List (List ℕ)) (depth : ℕ) (c : Child) → IsVisited pages depth c → visit_fits (visit_of pages depth c) ≡ false → BreaksTable pages c.page
unfit_breaks pages depth c h e = record {
  visit = visit_of pages depth c;
  reached = h;
  page_is = refl;
  broken =
      and_left (visit_fits (visit_of pages depth c) && alone (visits pages) (visit_of pages depth c)) (same_kind (visits pages) (visit_of pages depth c))
      (and_left (visit_fits (visit_of pages depth c)) (alone (visits pages) (visit_of pages depth c)) e);
}

pub misfit_breaks : (pages : List (List ℕ)) (depth : ℕ) (c : Child) → IsVisited pages depth c → content_fits c.low c.high (page_at pages c.page) ≡ false → BreaksTable pages c.page
misfit_breaks pages depth c h e = unfit_breaks pages depth c h (and_right (nat_le depth max_height) (content_fits c.low c.high (page_at pages c.page)) e)

pub too_deep_breaks : (pages : List (List ℕ)) (depth : ℕ) (c : Child) → IsVisited pages depth c → max_height < depth → BreaksTable pages c.page
too_deep_breaks pages depth c h deep = unfit_breaks pages depth c h (and_left (nat_le depth max_height) (content_fits c.low c.high (page_at pages c.page)) (too_deep depth deep))
  where
    too_deep : (n : ℕ) → max_height < n → nat_le n max_height ≡ false
    too_deep n h = grind (arith, nat_tests)

-- ---- a walk through all that is reached

pub visited_between : (pages : List (List ℕ)) (levels depth : ℕ) (c : Child) (cs : List Child) (before after : List Visit) → 0 < levels
    → visits pages ≡ before ++ (flat_map (visits_below levels pages depth) (c ∷ cs) ++ after) → IsVisited pages depth c
visited_between pages levels depth c cs before after some parts =
    let f : Child → List Visit = visits_below levels pages depth in
    let v : Visit = visit_of pages depth c in
    let here = in_left v (f c) (flat_map f cs) (first_visit levels pages depth c some) in
    in_to v (visits pages) (subst (In v) (sym parts) (in_right v before (flat_map f (c ∷ cs) ++ after) (in_left v (flat_map f (c ∷ cs)) after here)))

counts_one : (page : ℕ) (v : Visit) (xs : List Visit) → count_by (λ w. w.page == page) (v ∷ xs) ≡ cond (v.page == page) 1 0 + count_by (λ w. w.page == page) xs
counts_one page v xs = sum_by-cons (λ (w : Visit). cond (w.page == page) 1 0) v xs

counts_here : (page : ℕ) (xs : List Visit) (v : Visit) → In v xs → v.page ≡ page → 1 ≤ count_by (λ w. w.page == page) xs
counts_here page [] v h e = absurd h
counts_here page (w ∷ xs) v (inl same) e =
    let here = ap {B = ℕ} (λ (b : Bool). cond b 1 0) (eq-eqb w.page page (ap (λ (x : Visit). x.page) same ∙ e)) in
    omega (arith, counts_one page w xs, here)
counts_here page (w ∷ xs) v (inr h) e = omega (arith, counts_one page w xs, counts_here page xs v h e)

counts_twice : (page : ℕ) (xs ys : List Visit) (v : Visit) → contains (map (λ w. w.page) xs) page ≡ true → In v ys → v.page ≡ page → 2 ≤ count_by (λ w. w.page == page) (xs ++ ys)
counts_twice page [] ys v has h e = absurd cc
counts_twice page (w ∷ xs) ys v has h e = by (λ more. counts_twice page xs ys v more h e) (w.page == page) refl has
  where
    rest : 1 ≤ count_by (λ w. w.page == page) (xs ++ ys)
    rest = counts_here page (xs ++ ys) v (in_right v xs ys h) e

    by : (contains (map (λ w. w.page) xs) page ≡ true → 2 ≤ count_by (λ w. w.page == page) (xs ++ ys)) → (b : Bool) → (w.page == page) ≡ b → (b || contains (map (λ w. w.page) xs) page) ≡ true
        → 2 ≤ count_by (λ w. w.page == page) (w ∷ (xs ++ ys))
    by later true is h =
        let here = ap {B = ℕ} (λ (b : Bool). cond b 1 0) is in
        omega (arith, counts_one page w (xs ++ ys), here, rest)
    by later false is h = omega (arith, counts_one page w (xs ++ ys), later h)

-- a page that was reached before is reached again
pub again_breaks : (pages : List (List ℕ)) (levels depth : ℕ) (c : Child) (cs : List Child) (before after : List Visit) → 0 < levels
    → visits pages ≡ before ++ (flat_map (visits_below levels pages depth) (c ∷ cs) ++ after) → contains (map (λ v. v.page) before) c.page ≡ true → BreaksTable pages c.page
again_breaks pages levels depth c cs before after some parts has =
    let f : Child → List Visit = visits_below levels pages depth in
    let v : Visit = visit_of pages depth c in
    let later = in_left v (flat_map f (c ∷ cs)) after (in_left v (f c) (flat_map f cs) (first_visit levels pages depth c some)) in
    let twice = counts_twice c.page before (flat_map f (c ∷ cs) ++ after) v has later refl in
    let many : 2 ≤ count_by (λ w. w.page == c.page) (visits pages) = subst (λ (all : List Visit). 2 ≤ count_by (λ w. w.page == c.page) all) (sym parts) twice in
    record {
      visit = v;
      reached = visited_between pages levels depth c cs before after some parts;
      page_is = refl;
      broken = and_left (visit_fits v && alone (visits pages) v) (same_kind (visits pages) v) (and_right (visit_fits v) (alone (visits pages) v) (not_one (count_by (λ w. w.page == c.page) (visits pages)) many));
    }
  where
    not_one : (n : ℕ) → 2 ≤ n → (n == 1) ≡ false
    not_one n h = grind (arith, nat_tests)

-- a page as deep is of another kind
pub kind_breaks : (pages : List (List ℕ)) (depth : ℕ) (c d : Child) → IsVisited pages depth c → IsVisited pages depth d → kinds_agree (page_at pages d.page) (page_at pages c.page) ≡ false → BreaksTable pages c.page
kind_breaks pages depth c d h other unlike =
    let v : Visit = visit_of pages depth c in
    record {
      visit = v;
      reached = h;
      page_is = refl;
      broken = and_right (visit_fits v && alone (visits pages) v) (same_kind (visits pages) v) (by (same_kind (visits pages) v) refl);
    }
  where
    by : (b : Bool) → same_kind (visits pages) (visit_of pages depth c) ≡ b → b ≡ false
    by false e = refl
    by true e =
        let alike : (not (depth == depth) || kinds_agree (page_at pages d.page) (page_at pages c.page)) ≡ true =
        all_has (λ w. not (w.depth == depth) || kinds_agree w.content (page_at pages c.page)) (visit_of pages depth d) (visits pages) (in_from (visit_of pages depth d) (visits pages) other) e in
        let same = eq-eqb depth depth refl in
        cc

-- ---- a tree

pub tree_unbroken : (pages : List (List ℕ)) (height page : ℕ) → IsTree pages height → BreaksTable pages page → ⊥
tree_unbroken pages height page t b =
    let whole : in_shape (visits pages) b.visit ≡ true = all_has (in_shape (visits pages)) b.visit (visits pages) (in_from b.visit (visits pages) b.reached) (all_in_shape pages height t) in
    let broken : in_shape (visits pages) b.visit ≡ false = b.broken in
    cc
