-- The way down to a leaf.
use Rattle.std.proofs.Common.{◌≡◌, ◌⊎◌, inl, inr, ℕ, zero, suc, ◌+◌, ◌<◌, Bool, true, false, cond, ◌&&◌, List, [], ◌∷◌, ◌++◌, length, Option, Some, None, refl, sym, ap, subst, ◌∙◌, arith, append_assoc}
use Rattle.std.specs.List.{flat_map, AllByRecursion}
use Rattle.std.proofs.lemmas.Bool.{and_parts}
use Rattle.std.proofs.lemmas.List.{append-nil}
use Rattle.fsd_forest.specs.Ways.{end_of}
use Rattle.fsd_bytes.specs.declared.key.Key.{Key}
use Rattle.fsd_formats.specs.declared.entry.Entry.{Entry}
use Rattle.fsd_formats.specs.declared.page.Separator.{Separator}
use Rattle.fsd_formats.specs.NamePage.{Content, Free, Leaf, Interior, are_ascending}
use Rattle.fsd_table.specs.declared.child.Child.{Child}
use Rattle.fsd_table.specs.Pages.{page_at, children, children_of, entries_of, not_below, below, keys_fit, separator_keys, content_fits}
use Rattle.fsd_table.specs.Table.{max_height}
use Rattle.fsd_table.specs.Tree.{entries_below, IsLeaf, IsInterior, IsSubtree}
use Rattle.fsd_table.proofs.PageLaws.{at_is_page, interior_ascends}
use Rattle.fsd_table.proofs.BoundLaws.{all_append, all_weaker, Fits, parts_fit, later_fit, ascend_tail, entries_between}
use Rattle.name_btree.specs.declared.descent.Way.{Way}
use Rattle.name_btree.specs.declared.descent.Neighbour.{Neighbour}
use Rattle.name_page.specs.Cut.{IsLesser}
use Rattle.name_page.proofs.CutLaws.{IsMonotone, behind}
use Rattle.name_btree.specs.Descent.{way_to, HasChildren, IsNext, IsPrevious, IsAt}

-- ---- one page

-- what stands below the way's child, among what stands below all children and beside them
record Inner (before : Key → Bool) (f : Child → List Entry) (P : Child → Type 0) (Q R : Option Neighbour → List Entry → Type 0) (whole : List Entry) (w : Way) : Type 0 where
  left : List Entry
  right : List Entry
  parts : whole ≡ left ++ (f w.child ++ right)
  lesser : AllByRecursion (IsLesser before) left
  greater : AllByRecursion (λ e. before e.key ≡ false) right
  child : P w.child
  previous_is : Q w.previous left
  next_is : R w.next right

-- what stands below a child is between its keys
abbrev Stands : (Child → List Entry) → (Child → Type 0) → Child → Type 0
Stands f P d = P d × AllByRecursion (Fits d.low d.high) (f d)

module _ (before : Key → Bool) (mono : IsMonotone before) (above : ℕ) (f : Child → List Entry) (P : Child → Type 0) (Q R : Option Neighbour → List Entry → Type 0) (high lo : Option Key) (next : Option Neighbour) (right0 : List Entry)
    (ends : (d : Child) (xs : List Entry) → P d → Q (Some (record { child = d; above = above })) (xs ++ f d)) (begins : (d : Child) (xs : List Entry) → P d → R (Some (record { child = d; above = above })) (f d ++ xs))
    (over : AllByRecursion (λ e. before e.key ≡ false) right0) (next_is : R next right0) where
  head_is : (first : ℕ) (low : Option Key) (separators : List Separator) → AllByRecursion (Stands f P) (children first low high separators)
      → R (Some (record { child = record { page = first; low = low; high = end_of high separators }; above = above })) (flat_map f (children first low high separators) ++ right0)
  head_is first low [] each =
      let c : Child = record { page = first; low = low; high = high } in
      subst (R (Some (record { child = c; above = above }))) (sym (append_assoc (f c) [] right0)) (begins c ([] ++ right0) each.0.0)
  head_is first low (s ∷ separators) each =
      let c : Child = record { page = first; low = low; high = Some s.key } in
      let rest : List Entry = flat_map f (children s.child (Some s.key) high separators) in
      subst (R (Some (record { child = c; above = above }))) (sym (append_assoc (f c) rest right0)) (begins c (rest ++ right0) each.0.0)

  inner : (first : ℕ) (low : Option Key) (separators : List Separator) (previous : Option Neighbour) (left0 : List Entry)
      → AllByRecursion (IsLesser before) left0 → Q previous left0 → keys_fit lo high (separator_keys separators) ≡ true → are_ascending (separator_keys separators) ≡ true
      → AllByRecursion (Stands f P) (children first low high separators)
      → Inner before f P Q R (left0 ++ (flat_map f (children first low high separators) ++ right0)) (way_to before above previous next first low high separators)
  inner first low [] previous left0 under previous_is fit asc each = record {
    left = left0;
    right = right0;
    parts = ap (λ (xs : List Entry). left0 ++ (xs ++ right0)) (append-nil (f (record { page = first; low = low; high = high })));
    lesser = under;
    greater = over;
    child = each.0.0;
    previous_is = previous_is;
    next_is = next_is;
  }
  inner first low (s ∷ separators) previous left0 under previous_is fit asc each =
      let fits = and_parts (not_below lo s.key && below high s.key) (keys_fit lo high (separator_keys separators)) fit in
      by fits.1 (λ left1 under1 previous1. inner s.child (Some s.key) separators (Some (record { child = record { page = first; low = low; high = Some s.key }; above = above })) left1 under1 previous1 fits.1 (ascend_tail s.key (separator_keys separators) asc) each.1) (before s.key) refl
    where
      by : keys_fit lo high (separator_keys separators) ≡ true
          → ((left1 : List Entry) → AllByRecursion (IsLesser before) left1 → Q (Some (record { child = record { page = first; low = low; high = Some s.key }; above = above })) left1
          → Inner before f P Q R (left1 ++ (flat_map f (children s.child (Some s.key) high separators) ++ right0)) (way_to before above (Some (record { child = record { page = first; low = low; high = Some s.key }; above = above })) next s.child (Some s.key) high separators))
          → (b : Bool) → before s.key ≡ b
          → Inner before f P Q R (left0 ++ ((f (record { page = first; low = low; high = Some s.key }) ++ flat_map f (children s.child (Some s.key) high separators)) ++ right0))
          (cond b (way_to before above (Some (record { child = record { page = first; low = low; high = Some s.key }; above = above })) next s.child (Some s.key) high separators)
          (record { child = record { page = first; low = low; high = Some s.key }; previous = previous; next = Some (record { child = record { page = s.child; low = Some s.key; high = end_of high separators }; above = above }) }))
      by fit1 again true is =
          let c : Child = record { page = first; low = low; high = Some s.key } in
          let rest : List Child = children s.child (Some s.key) high separators in
          let r = again (left0 ++ f c)
          (all_append (IsLesser before) left0 (f c) under (all_weaker (Fits low (Some s.key)) (IsLesser before) (f c) (λ e h. (s.key, is, h.1)) each.0.1))
          (ends c left0 each.0.0) in
          record {
            left = r.left;
            right = r.right;
            parts = ap (λ (xs : List Entry). left0 ++ xs) (append_assoc (f c) (flat_map f rest) right0) ∙ sym (append_assoc left0 (f c) (flat_map f rest ++ right0)) ∙ r.parts;
            lesser = r.lesser;
            greater = r.greater;
            child = r.child;
            previous_is = r.previous_is;
            next_is = r.next_is;
          }
      by fit1 again false is =
          let c : Child = record { page = first; low = low; high = Some s.key } in
          let rest : List Child = children s.child (Some s.key) high separators in record {
            left = left0;
            right = flat_map f rest ++ right0;
            parts = ap (λ (xs : List Entry). left0 ++ xs) (append_assoc (f c) (flat_map f rest) right0);
            lesser = under;
            greater =
                all_append (λ e. before e.key ≡ false) (flat_map f rest) right0
                (all_weaker (Fits (Some s.key) high) (λ e. before e.key ≡ false) (flat_map f rest) (λ e h. behind before mono s.key e.key is h.0)
                (parts_fit f (Some s.key) high (Some s.key) s.child separators (λ key h. h) (later_fit s.key lo high (separator_keys separators) asc fit1)
                (all_weaker (Stands f P) (λ d. AllByRecursion (Fits d.low d.high) (f d)) rest (λ d h. h.1) each.1)))
                over;
            child = each.0.0;
            previous_is = previous_is;
            next_is = head_is s.child (Some s.key) separators each.1;
          }

-- ---- the way so far

pub record OnWay (before : Key → Bool) (pages : List (List ℕ)) (start : Child) (level0 i : ℕ) (w : Way) : Type 0 where
  pub level : ℕ
  pub levels : level + i ≡ level0
  pub subtree : IsSubtree level pages w.child
  pub at : IsAt before pages start (entries_below level0 pages start) (entries_below level pages w.child) w.previous w.next
  pub from : (w.child ≡ start) ⊎ HasChildren pages start

-- so many levels down from a subtree
abbrev pub IsOnWay : (Key → Bool) → List (List ℕ) → Child → ℕ → Way → Type 0
IsOnWay before pages start i w = (level0 : ℕ) → level0 < max_height → IsSubtree level0 pages start → OnWay before pages start level0 i w

pub way_begins : (before : Key → Bool) (pages : List (List ℕ)) (start : Child) → IsOnWay before pages start 0 (record { child = start; previous = None; next = None })
way_begins before pages start level0 low sub = record {
  level = level0;
  levels = omega arith;
  subtree = sub;
  at = record {
    left = [];
    right = [];
    parts = sym (append-nil (entries_below level0 pages start));
    lesser = tt;
    greater = tt;
    previous_is = refl;
    next_is = refl;
  };
  from = inl refl;
}

start_above : (pages : List (List ℕ)) (start c : Child) (first : ℕ) (separators : List Separator) → page_at pages c.page ≡ Some (Interior first separators) → (c ≡ start) ⊎ HasChildren pages start → HasChildren pages start
start_above pages start c first separators at (inl e) = (first, separators, ap (λ (d : Child). page_at pages d.page) (sym e) ∙ at)
start_above pages start c first separators at (inr a) = a

down_by : (before : Key → Bool) → IsMonotone before → (pages : List (List ℕ)) (start : Child) (level0 i above : ℕ) (w : Way) (first : ℕ) (separators : List Separator)
    → page_at pages w.child.page ≡ Some (Interior first separators) → level0 < max_height → (level : ℕ) → level + i ≡ level0 → IsSubtree level pages w.child
    → IsAt before pages start (entries_below level0 pages start) (entries_below level pages w.child) w.previous w.next → (w.child ≡ start) ⊎ HasChildren pages start
    → OnWay before pages start level0 (i + 1) (way_to before above w.previous w.next first w.child.low w.child.high separators)
down_by before mono pages start level0 i above w first separators at low zero levels sub is from = absurd (subst (IsLeaf w.child) at sub)
down_by before mono pages start level0 i above w first separators at low (suc level) levels sub is from =
    let c : Child = w.child in
    let f : Child → List Entry = entries_below level pages in
    let h = subst (IsInterior (IsSubtree level pages) c) at sub in
    let asc = interior_ascends c.page (length pages) first separators (at_is_page pages c.page (Interior first separators) at) in
    let up = start_above pages start c first separators at from in
    let few : level < max_height = lower level i level0 levels low in
    let cs : List Child = children first c.low c.high separators in
    let whole : entries_below (suc level) pages c ≡ flat_map f cs = ap (λ (x : Option Content). flat_map f (children_of c.low c.high x)) at in
    let r = inner before mono above f (IsSubtree level pages) (IsPrevious pages start) (IsNext pages start) c.high c.low w.next is.right
    (λ d xs t. (up, (level, few, t, (xs, refl)))) (λ d xs t. (up, (level, few, t, (xs, refl)))) is.greater is.next_is
    first c.low separators w.previous is.left is.lesser is.previous_is h.0 asc
    (all_weaker (IsSubtree level pages) (Stands f (IsSubtree level pages)) cs (λ d t. (t, entries_between level pages d t)) h.1) in
    record {
      level = level;
      levels = omega arith;
      subtree = r.child;
      at = record {
        left = r.left;
        right = r.right;
        parts = is.parts ∙ ap (λ (xs : List Entry). is.left ++ (xs ++ is.right)) whole ∙ r.parts;
        lesser = r.lesser;
        greater = r.greater;
        previous_is = r.previous_is;
        next_is = r.next_is;
      };
      from = inr up;
    }
  where
    lower : (level i level0 : ℕ) → suc level + i ≡ level0 → level0 < max_height → level < max_height
    lower level i level0 e h = omega arith

pub way_down : (before : Key → Bool) → IsMonotone before → (pages : List (List ℕ)) (start : Child) (i above : ℕ) (w : Way) (first : ℕ) (separators : List Separator)
    → page_at pages w.child.page ≡ Some (Interior first separators) → IsOnWay before pages start i w
    → IsOnWay before pages start (i + 1) (way_to before above w.previous w.next first w.child.low w.child.high separators)
way_down before mono pages start i above w first separators at on level0 low sub =
    let o = on level0 low sub in
    down_by before mono pages start level0 i above w first separators at low o.level o.levels o.subtree o.at o.from

-- ---- the end of the way

leaf_level : (before : Key → Bool) (pages : List (List ℕ)) (start : Child) (whole entries : List Entry) (w : Way) (level : ℕ) → page_at pages w.child.page ≡ Some (Leaf entries)
    → IsSubtree level pages w.child → IsAt before pages start whole (entries_below level pages w.child) w.previous w.next → IsAt before pages start whole entries w.previous w.next
leaf_level before pages start whole entries w zero at sub is = subst (λ (xs : List Entry). IsAt before pages start whole xs w.previous w.next) (ap entries_of at) is
leaf_level before pages start whole entries w (suc level) at sub is = absurd (subst (IsInterior (IsSubtree level pages) w.child) at sub)

pub way_ends : (before : Key → Bool) (pages : List (List ℕ)) (start : Child) (i : ℕ) (w : Way) (entries : List Entry) → page_at pages w.child.page ≡ Some (Leaf entries) → IsOnWay before pages start i w
    → (level0 : ℕ) → level0 < max_height → IsSubtree level0 pages start → IsAt before pages start (entries_below level0 pages start) entries w.previous w.next
way_ends before pages start i w entries at on level0 low sub =
    let o = on level0 low sub in
    leaf_level before pages start (entries_below level0 pages start) entries w o.level at o.subtree o.at

-- what does not fit between a child's keys is no leaf of it, and no interior page
pub misfit_leaf : (c : Child) (x : Option Content) → content_fits c.low c.high x ≡ false → IsLeaf c x → ⊥
misfit_leaf c None e h = h
misfit_leaf c (Some Free) e h = h
misfit_leaf c (Some (Leaf entries)) e h = cc
misfit_leaf c (Some (Interior first separators)) e h = h

misfit_interior : (P : Child → Type 0) (c : Child) (x : Option Content) → content_fits c.low c.high x ≡ false → IsInterior P c x → ⊥
misfit_interior P c None e h = h
misfit_interior P c (Some Free) e h = h
misfit_interior P c (Some (Leaf entries)) e h = h
misfit_interior P c (Some (Interior first separators)) e h = let fits = h.0 in cc

pub misfit : (level : ℕ) (pages : List (List ℕ)) (c : Child) → content_fits c.low c.high (page_at pages c.page) ≡ false → IsSubtree level pages c → ⊥
misfit zero pages c e h = misfit_leaf c (page_at pages c.page) e h
misfit (suc level) pages c e h = misfit_interior (IsSubtree level pages) c (page_at pages c.page) e h
