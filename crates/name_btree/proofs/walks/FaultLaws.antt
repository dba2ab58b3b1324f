-- What a walk comes to, and how it breaks the table.
use Rattle.std.proofs.Common.{◌≡◌, ◌⊎◌, inl, inr, ℕ, zero, suc, ◌+◌, ◌≤◌, ◌<◌, Bool, true, false, not, List, [], ◌∷◌, ◌++◌, length, map, take, drop, Option, Some, sym, ap, subst, ◌∙◌, arith, append_assoc}
use Rattle.std.specs.Prelude.{slice_get, slice_set}
use Rattle.std.specs.List.{flat_map}
use Rattle.std.proofs.lemmas.Bool.{cases_lt, not-false}
use Rattle.std.proofs.lemmas.List.{append-nil, length-set, map-append}
use Rattle.std.proofs.lemmas.List.Concat.{flat_map-append}
use Rattle.fsd_formats.specs.declared.entry.Entry.{Entry}
use Rattle.fsd_formats.specs.declared.page.Separator.{Separator}
use Rattle.fsd_formats.specs.NamePage.{Content, Leaf, Interior}
use Rattle.fsd_table.specs.declared.child.Child.{Child}
use Rattle.fsd_table.specs.Pages.{page_at, children, children_of, content_fits}
use Rattle.fsd_table.specs.Table.{Visit, visit_of, visits, visits_below, max_height, top, kinds_agree, IsVisited, BreaksTable}
use Rattle.fsd_table.specs.Tree.{pages_below}
use Rattle.fsd_table.proofs.VisitLaws.{visited_pages}
use Rattle.fsd_table.proofs.BreakLaws.{visited_between, misfit_breaks, again_breaks, kind_breaks}
use Rattle.name_page.proofs.NodeLaws.{past_end}
use Rattle.name_btree.specs.declared.fault.TreeFault.{TreeFault}
use Rattle.name_page.specs.declared.pages.Pages.{Ghosts}
use Rattle.name_btree.specs.Fault.{HasTreeCause, IsMisfit, BarsPage, BarsTable, FailsTable}
use Rattle.name_btree.proofs.steps.CauseLaws.{cause_map, bars_table}
use Rattle.name_btree.specs.Walk.{AreMarksOf, is_marked, marked, HasKinds, IsTopLevel, ComesTo, AreWalked, BreaksWalk, BarsWalk, FailsWalk}
use Rattle.name_btree.proofs.walks.MarkLaws.{marked_at, marks_more, length_marked}
use Rattle.name_btree.proofs.walks.WalkLaws.{cut_at}

-- ---- the child itself

some_levels : (level levels : ℕ) → level < levels → 0 < levels
some_levels level levels h = omega arith

comes_visited : (level : ℕ) (pages : List (List ℕ)) (c : Child) (marks : List Bool) (w : ComesTo pages level (c ∷ []) marks) → IsVisited pages w.depth c
comes_visited level pages c marks w = visited_between pages w.levels w.depth c [] w.before w.after (some_levels level w.levels w.enough) w.parts

pub marked_breaks : (level : ℕ) (pages : List (List ℕ)) (c : Child) (marks : List Bool) → not (is_marked marks c.page) ≡ false → BreaksWalk level pages (c ∷ []) marks c.page
marked_breaks level pages c marks is = λ w. by w (cases_lt c.page (length pages))
  where
    by : ComesTo pages level (c ∷ []) marks → (c.page < length pages) ⊎ (length pages ≤ c.page) → BreaksTable pages c.page
    by w (inl low) =
        let here = marked_at marks (map (λ (v : Visit). v.page) w.before) c.page w.marked (subst (λ (n : ℕ). c.page < n) (sym w.whole) low) in
        again_breaks pages w.levels w.depth c [] w.before w.after (some_levels level w.levels w.enough) w.parts (sym here ∙ not-false (is_marked marks c.page) is)
    by w (inr past) = misfit_breaks pages w.depth c (comes_visited level pages c marks w) (ap (content_fits c.low c.high) (past_end pages c.page past))

-- ---- kinds

pub leaf_breaks : (level : ℕ) (pages : List (List ℕ)) (c : Child) (marks : List Bool) (entries : List Entry) → page_at pages c.page ≡ Some (Leaf entries) → 0 < level
    → BreaksWalk level pages (c ∷ []) marks c.page
leaf_breaks zero pages c marks entries at some = absurd (omega arith)
leaf_breaks (suc level) pages c marks entries at some = λ w.
    let d = w.kinds.0 in
    kind_breaks pages w.depth c d.0 (comes_visited (suc level) pages c marks w) d.1
    (ap (λ (x : Option Content). kinds_agree x (page_at pages c.page)) d.2.2 ∙ ap (kinds_agree (Some (Interior d.2.0 d.2.1))) at)

pub interior_breaks : (level : ℕ) (pages : List (List ℕ)) (c : Child) (marks : List Bool) (first : ℕ) (xs : List Separator) → page_at pages c.page ≡ Some (Interior first xs) → level ≡ 0
    → BreaksWalk level pages (c ∷ []) marks c.page
interior_breaks (suc level) pages c marks first xs at none = absurd (omega arith)
interior_breaks zero pages c marks first xs at none = λ w.
    let d = w.kinds in
    kind_breaks pages w.depth c d.0 (comes_visited zero pages c marks w) d.1
    (ap (λ (x : Option Content). kinds_agree x (page_at pages c.page)) d.2.1 ∙ ap (kinds_agree (Some (Leaf d.2.0))) at)

-- ---- the children of an interior page

comes_down : (level levels depth : ℕ) (pages : List (List ℕ)) (c : Child) (marks : List Bool) (first : ℕ) (xs : List Separator) (before after : List Visit) → page_at pages c.page ≡ Some (Interior first xs)
    → suc level < levels → visits pages ≡ before ++ (flat_map (visits_below levels pages depth) (c ∷ []) ++ after) → length marks ≡ length pages → AreMarksOf (map (λ v. v.page) before) marks
    → HasKinds pages (depth + 1) level → ComesTo pages level (children first c.low c.high xs) (slice_set marks c.page true)
comes_down level zero depth pages c marks first xs before after at enough parts whole are kinds = absurd (omega arith)
comes_down level (suc levels) depth pages c marks first xs before after at enough parts whole are kinds =
    let f : Child → List Visit = visits_below levels pages (depth + 1) in
    let v : Visit = visit_of pages depth c in
    let kids : Option Content → List Visit = λ (x : Option Content). flat_map f (children_of c.low c.high x) in
    let x : Option Content = page_at pages c.page in
    record {
      depth = depth + 1;
      levels = levels;
      enough = omega arith;
      before = before ++ v ∷ [];
      after = after;
      parts = parts
          ∙ ap (λ (zs : List Visit). before ++ (zs ++ after)) (append-nil (v ∷ kids x))
          ∙ sym (append_assoc before (v ∷ []) (kids x ++ after))
          ∙ ap (λ (y : Option Content). (before ++ v ∷ []) ++ (kids y ++ after)) at;
      whole = length-set marks c.page true ∙ whole;
      marked = subst (λ (ps : List ℕ). AreMarksOf ps (slice_set marks c.page true)) (sym (map-append (λ (w : Visit). w.page) before (v ∷ []))) (marks_more marks (map (λ (w : Visit). w.page) before) (c.page ∷ []) are);
      kinds = kinds;
    }

pub comes_below : (level up : ℕ) (pages : List (List ℕ)) (c : Child) (first : ℕ) (xs : List Separator) (marks : List Bool) → suc level ≡ up → page_at pages c.page ≡ Some (Interior first xs)
    → ComesTo pages up (c ∷ []) marks → ComesTo pages level (children first c.low c.high xs) (slice_set marks c.page true)
comes_below level up pages c first xs marks is at = subst (λ (l : ℕ). ComesTo pages l (c ∷ []) marks → ComesTo pages level (children first c.low c.high xs) (slice_set marks c.page true)) is
    (λ w. comes_down level w.levels w.depth pages c marks first xs w.before w.after at w.enough w.parts w.whole w.marked w.kinds.1)

-- ---- one child after another

pub comes_along : (spares : List Bool) (level : ℕ) (pages : List (List ℕ)) (cs : List Child) (i : ℕ) (d : Child) (marks mid : List Bool) (n : ℕ) → slice_get cs i ≡ Some d
    → AreWalked spares level pages (take i cs) marks mid n → ComesTo pages level cs marks → ComesTo pages level (d ∷ []) mid
comes_along spares level pages cs i d marks mid n at a w =
    let f : Child → List Visit = visits_below w.levels pages w.depth in
    let left : List Visit = flat_map f (take i cs) in
    let right : List Visit = flat_map f (drop (i + 1) cs) in
    let split : flat_map f cs ≡ left ++ (f d ++ right) = ap (flat_map f) (cut_at cs i d at) ∙ flat_map-append f (take i cs) (d ∷ drop (i + 1) cs) in
    let pages_are : map (λ (v : Visit). v.page) left ≡ flat_map (pages_below level pages) (take i cs) = visited_pages level w.levels w.depth pages (take i cs) w.enough a.subtrees in
    let marks_are : mid ≡ marked marks (map (λ (v : Visit). v.page) left) = a.marks ∙ ap (marked marks) (sym pages_are) in
    let done : List ℕ = map (λ (v : Visit). v.page) w.before in
    record {
      depth = w.depth;
      levels = w.levels;
      enough = w.enough;
      before = w.before ++ left;
      after = right ++ w.after;
      parts = w.parts
          ∙ ap (λ (zs : List Visit). w.before ++ (zs ++ w.after)) split
          ∙ ap (λ (zs : List Visit). w.before ++ zs) (append_assoc left (f d ++ right) w.after ∙ ap (λ (zs : List Visit). left ++ zs) (append_assoc (f d) right w.after))
          ∙ sym (append_assoc w.before left (f d ++ (right ++ w.after)))
          ∙ ap (λ (zs : List Visit). (w.before ++ left) ++ (zs ++ (right ++ w.after))) (sym (append-nil (f d)));
      whole = ap length marks_are ∙ length_marked marks (map (λ (v : Visit). v.page) left) ∙ w.whole;
      marked = subst (λ (ps : List ℕ). AreMarksOf ps mid) (sym (map-append (λ (v : Visit). v.page) w.before left))
          (subst (AreMarksOf (done ++ map (λ (v : Visit). v.page) left)) (sym marks_are) (marks_more marks done (map (λ (v : Visit). v.page) left) w.marked));
      kinds = w.kinds;
    }

-- ---- the whole

comes_first : (pages : List (List ℕ)) (level : ℕ) (marks : List Bool) → IsTopLevel pages level → length marks ≡ length pages → AreMarksOf [] marks → ComesTo pages level (top ∷ []) marks
unfolding visits
comes_first pages level marks is whole clear =
    let all : List Visit = visits_below (suc max_height) pages 1 top in record {
      depth = 1;
      levels = suc max_height;
      enough = low level is.0;
      before = [];
      after = [];
      parts = sym (append-nil (all ++ []) ∙ append-nil all);
      whole = whole;
      marked = clear;
      kinds = is.1;
    }
  where
    low : (n : ℕ) → n < max_height → n < suc max_height
    low n h = omega arith

-- ---- faults

module _ {D : Type 0} (P : Ghosts D) (new : D) (fault : TreeFault) where
  -- a walk of these children that is among the walk of those
  pub walk_map : (level level' : ℕ) (cs cs' : List Child) (marks marks' : List Bool) → (P.trusted new → ComesTo (P.step new).images level cs marks → ComesTo (P.step new).images level' cs' marks')
      → FailsWalk P new level' cs' marks' fault → FailsWalk P new level cs marks fault
  walk_map level level' cs cs' marks marks' comes h =
      let s = P.step new in
      cause_map s (λ page. P.trusted new → BreaksWalk level' s.images cs' marks' page) (λ page. P.trusted new → BreaksWalk level s.images cs marks page)
      (λ page. P.trusted new → BarsWalk s level' cs' marks' page) (λ page. P.trusted new → BarsWalk s level cs marks page) (λ page x t w. x t (comes t w)) (λ page x t w. x t (comes t w)) fault h

  -- the page itself
  pub walk_here : (level : ℕ) (c : Child) (marks : List Bool) → HasTreeCause (P.step new) (IsMisfit (P.step new).images c) (BarsPage (P.step new) c.page) fault → FailsWalk P new level (c ∷ []) marks fault
  walk_here level c marks h =
      let s = P.step new in
      cause_map s (IsMisfit s.images c) (λ page. P.trusted new → BreaksWalk level s.images (c ∷ []) marks page)
      (BarsPage s c.page) (λ page. P.trusted new → BarsWalk s level (c ∷ []) marks page)
      (λ page x t w. subst (BreaksTable s.images) (sym x.0) (misfit_breaks s.images w.depth c (comes_visited level s.images c marks w) x.1))
      (λ page x t w. bars_table s w.depth c (comes_visited level s.images c marks w) page x) fault h

  pub walk_whole : (level : ℕ) (c : Child) (marks : List Bool) → (P.trusted new → IsTopLevel (P.step new).images level) → c ≡ top → length marks ≡ length (P.step new).images → AreMarksOf [] marks
      → FailsWalk P new level (c ∷ []) marks fault → FailsTable P new fault
  walk_whole level c marks is at whole clear h =
      let s = P.step new in
      let comes : P.trusted new → ComesTo s.images level (c ∷ []) marks = λ t. subst (λ (d : Child). ComesTo s.images level (d ∷ []) marks) (sym at) (comes_first s.images level marks (is t) whole clear) in
      cause_map s (λ page. P.trusted new → BreaksWalk level s.images (c ∷ []) marks page) (λ page. P.trusted new → BreaksTable s.images page)
      (λ page. P.trusted new → BarsWalk s level (c ∷ []) marks page) (λ page. P.trusted new → BarsTable s page) (λ page x t. x t (comes t)) (λ page x t. x t (comes t)) fault h
