-- What stands below a page, once one of its children has grown.
use Rattle.std.proofs.Common.{◌≡◌, ℕ, suc, ◌+◌, Bool, true, false, cond, ◌&&◌, List, [], ◌∷◌, ◌++◌, take, drop, refl, sym, ap, subst, ◌∙◌, arith, Some, Option, take-append-drop, ◌||◌}
use Rattle.std.specs.Prelude.{◌==◌, ⊤}
use Rattle.std.specs.List.{flat_map, AllByRecursion}
use Rattle.std.proofs.lemmas.Bool.{and_parts, false_from_ne_true, eqb-true, eq-eqb}
use Rattle.std.proofs.lemmas.List.Concat.{flat_map-append}
use Rattle.name_btree.proofs.drafts.ApartLaws.{apart_from, apart_parts}
use Rattle.fsd_forest.proofs.KeepLaws.{in_left, in_right}
use Rattle.run_table.specs.Space.{contains, all_differ}
use Rattle.run_table.proofs.SectorLaws.{each_in}
use Rattle.fsd_bytes.specs.declared.key.Key.{Key}
use Rattle.fsd_bytes.specs.Keys.{key_lt}
use Rattle.fsd_formats.specs.declared.entry.Entry.{Entry}
use Rattle.fsd_formats.specs.declared.page.Separator.{Separator}
use Rattle.fsd_formats.specs.NamePage.{Content, Interior, are_ascending}
use Rattle.fsd_table.specs.declared.child.Child.{Child}
use Rattle.fsd_table.specs.Pages.{page_at, children, children_of, not_below, below, keys_fit, separator_keys}
use Rattle.fsd_table.specs.Tree.{entries_below, pages_below, IsInterior, IsSubtree}
use Rattle.fsd_table.proofs.BoundLaws.{all_weaker, all_split, separator_keys_append}
use Rattle.fsd_forest.specs.Forest.{inner, times_in, forest_pages, IsLocal, Becomes, IsAbove, Disjoint}
use Rattle.fsd_forest.specs.Parts.{left_part, right_part}
use Rattle.fsd_forest.specs.Ways.{children_before, children_from, StandsAround, IsUpToKey, IsBehindKey}
use Rattle.fsd_forest.proofs.PartLaws.{children_part, keys_parted}
use Rattle.fsd_forest.proofs.TreeLaws.{alone}
use Rattle.fsd_forest.proofs.WayLaws.{children_around, children_parted}
use Rattle.name_page.specs.Pages.{Step, is_spare}
use Rattle.name_page.specs.declared.entries.Side.TheVariants.{Lesser, Greater}
use Rattle.name_page.specs.Edits.{is_on, with_entry}
use Rattle.name_page.specs.Lookups.{is_after}
use Rattle.name_page.proofs.CutLaws.{greater}
use Rattle.name_page.proofs.SideLaws.{with_part}
use Rattle.name_btree.specs.declared.growing.Grown.{Grown}
use Rattle.name_btree.specs.declared.growing.Grown.TheVariants.{Whole, Parted}
use Rattle.name_btree.specs.Draft.{WereTaken}
use Rattle.name_btree.specs.Grown.{went_of, parts_of, AreInteriorsOf, StaysInPlace, IsAboveGrown, IsDivided, IsBranch, AreUsed}
use Rattle.name_btree.specs.Trim.{child_of}
use Rattle.name_btree.proofs.growth.LeafGrowthLaws.{behind_low}
use Rattle.name_btree.proofs.growth.WaysGrowthLaws.{between_ascends, between_fits}
use Rattle.name_btree.proofs.mending.NeighbourLaws.{all_top}
use Rattle.std.proofs.lemmas.List.{append-nil}

-- ---- an edit at a key

lesser_on : (key : Key) (xs : List Entry) → AllByRecursion (λ e. key_lt e.key key ≡ true) xs → AllByRecursion (λ e. is_on Lesser key e ≡ true) xs
lesser_on key xs a = all_weaker (λ e. key_lt e.key key ≡ true) (λ e. is_on Lesser key e ≡ true) xs (λ e h. h) a

greater_on : (key : Key) (xs : List Entry) → AllByRecursion (λ e. key_lt key e.key ≡ true) xs → AllByRecursion (λ e. is_on Greater key e ≡ true) xs
greater_on key xs a = all_weaker (λ e. key_lt key e.key ≡ true) (λ e. is_on Greater key e ≡ true) xs (λ e h. greater e.key key ∙ h) a

pub with_entry_local : (e : Entry) → IsLocal e.key (with_entry e)
with_entry_local e left some right a b = sym (with_part e left some right (lesser_on e.key left a) (greater_on e.key right b))

-- ---- a child of a branch

abbrev pub left_children : Child → ℕ → List Separator → ℕ → List Child
left_children c first separators i = children_before first c.low (take i separators)

abbrev pub right_children : Child → List Separator → ℕ → List Child
right_children c separators i = children_from c.high (drop i separators)

abbrev pub StandAround : Key → List Separator → ℕ → Type 0
StandAround key separators i = AllByRecursion (IsUpToKey key) (take i separators) × AllByRecursion (IsBehindKey key) (drop i separators)

pub children_are : (key : Key) (pages : List (List ℕ)) (c : Child) (first : ℕ) (separators : List Separator) (i : ℕ) → page_at pages c.page ≡ Some (Interior first separators) → StandAround key separators i
    → StandsAround key (children_of c.low c.high (page_at pages c.page)) (left_children c first separators i) (child_of c first separators i ∷ []) (right_children c separators i)
children_are key pages c first separators i at around =
    subst (λ (x : Option Content). StandsAround key (children_of c.low c.high x) (left_children c first separators i) (child_of c first separators i ∷ []) (right_children c separators i)) (sym at)
    (children_around key first c.low c.high separators i around.0 around.1)

pub record IsBelow (pages : List (List ℕ)) (level : ℕ) (c d : Child) (left right : List Child) : Type 0 where
  pub pages_are : pages_below (suc level) pages c ≡ c.page ∷ (forest_pages level pages left ++ (pages_below level pages d ++ forest_pages level pages right))
  pub entries_are : entries_below (suc level) pages c ≡ flat_map (entries_below level pages) left ++ (entries_below level pages d ++ flat_map (entries_below level pages) right)
  pub subtree : IsSubtree level pages d

interior_at : (P : Child → Type 0) (c : Child) (x : Option Content) (first : ℕ) (separators : List Separator) → x ≡ Some (Interior first separators) → IsInterior P c x → AllByRecursion P (children first c.low c.high separators)
interior_at P c x first separators e h = (subst (IsInterior P c) e h).1

pub is_below : (key : Key) (pages : List (List ℕ)) (level : ℕ) (c : Child) (first : ℕ) (separators : List Separator) (i : ℕ) → page_at pages c.page ≡ Some (Interior first separators) → StandAround key separators i → IsSubtree (suc level) pages c
    → IsBelow pages level c (child_of c first separators i) (left_children c first separators i) (right_children c separators i)
is_below key pages level c first separators i at around sub =
    let left : List Child = left_children c first separators i in
    let d : Child = child_of c first separators i in
    let right : List Child = right_children c separators i in
    let s = children_are key pages c first separators i at around in
    let f : Child → List ℕ = pages_below level pages in
    let g : Child → List Entry = entries_below level pages in
    let all = children_around key first c.low c.high separators i around.0 around.1 in
    let subs = subst (AllByRecursion (IsSubtree level pages)) all.children_are (interior_at (IsSubtree level pages) c (page_at pages c.page) first separators at sub) in
    record {
      pages_are = ap (λ (cs : List Child). c.page ∷ flat_map f cs) s.children_are ∙ ap (λ (ps : List ℕ). c.page ∷ ps) (flat_map-append f left (d ∷ right));
      entries_are = ap (flat_map g) s.children_are ∙ flat_map-append g left (d ∷ right);
      subtree = (all_split (IsSubtree level pages) left (d ∷ right) subs).1.0;
    }

abbrev pub Within : List ℕ → List ℕ → Type 0
Within xs ys = (p : ℕ) → contains xs p ≡ true → contains ys p ≡ true

-- the pages below the child are among the others, but the page above is none of them
among_below : (above : ℕ) (ls ms rs : List ℕ) → Within ms (above ∷ (ls ++ (ms ++ rs)))
among_below above ls ms rs p h = in_right (above ∷ []) (ls ++ (ms ++ rs)) p (in_right ls (ms ++ rs) p (in_left ms rs p h))

pub branch_below : (key : Key) (pages : List (List ℕ)) (level : ℕ) (c : Child) (first : ℕ) (separators : List Separator) (i : ℕ) → page_at pages c.page ≡ Some (Interior first separators) → StandAround key separators i → IsBranch pages (suc level) c
    → IsBranch pages level (child_of c first separators i) × (Within (pages_below level pages (child_of c first separators i)) (pages_below (suc level) pages c) × (contains (pages_below level pages (child_of c first separators i)) 0 ≡ true → ⊥))
branch_below key pages level c first separators i at around branch =
    let d : Child = child_of c first separators i in
    let b = is_below key pages level c first separators i at around branch.subtree in
    let ls : List ℕ = forest_pages level pages (left_children c first separators i) in
    let ms : List ℕ = pages_below level pages d in
    let rs : List ℕ = forest_pages level pages (right_children c separators i) in
    let apart = ap all_differ (sym b.pages_are) ∙ branch.apart in
    let top = apart_parts (c.page ∷ []) (ls ++ (ms ++ rs)) apart in
    let inner = apart_parts ms rs (apart_parts ls (ms ++ rs) top.second).second in
    let within : Within ms (pages_below (suc level) pages c) = λ p h. ap (λ (ps : List ℕ). contains ps p) b.pages_are ∙ among_below c.page ls ms rs p h in
    let out : contains ms 0 ≡ true → ⊥ = λ h. let zero_is = branch.inner (within 0 h) in
    let there = in_right ls (ms ++ rs) 0 (in_left ms rs 0 h) in
    let never = subst (λ (n : ℕ). contains (ls ++ (ms ++ rs)) n ≡ false) zero_is (top.outside c.page (first_there c.page)) in
    cc in
    (record { subtree = b.subtree; apart = inner.first; inner = λ h. absurd (out h) }, (within, out))
  where
    first_there : (p : ℕ) → contains (p ∷ []) p ≡ true
    first_there p = ap (λ (b : Bool). b || false) (eq-eqb p p refl)

-- ---- the page above

above_with : (pages : List (List ℕ)) (c : Child) (first : ℕ) (separators : List Separator) → page_at pages c.page ≡ Some (Interior first separators) → keys_fit c.low c.high (separator_keys separators) ≡ true → IsAbove pages c
above_with pages c first separators at fit = subst (IsInterior (λ d. ⊤) c) (sym at) (fit, all_top (children first c.low c.high separators))

pub record IsGrownAbove (after : List (List ℕ)) (c : Child) (g : Grown) (cs : List Child) : Type 0 where
  pub inner_are : inner after (parts_of c g) ≡ cs
  pub above : AllByRecursion (IsAbove after) (parts_of c g)
  pub divided : IsDivided c g

-- a page that has some ways, or two
ways_grown : (after : List (List ℕ)) (c : Child) (first : ℕ) (separators : List Separator) (g : Grown) → AreInteriorsOf after c.page first separators g → are_ascending (separator_keys separators) ≡ true
    → keys_fit c.low c.high (separator_keys separators) ≡ true → IsGrownAbove after c g (children first c.low c.high separators)
ways_grown after c first separators Whole is order fit = record {
  inner_are = alone (λ d. children_of d.low d.high (page_at after d.page)) c ∙ ap (children_of c.low c.high) is;
  above = (above_with after c first separators is fit, tt);
  divided = tt;
}
ways_grown after c first separators (Parted left s) is order fit =
    let xs : List Separator = is.x ∷ is.xs in
    let y : Separator = is.y in
    let ys : List Separator = is.ys in
    let same = separator_keys_append xs (y ∷ ys) in
    let asc : are_ascending (separator_keys xs ++ y.key ∷ separator_keys ys) ≡ true = ap are_ascending (sym same) ∙ ap (λ (zs : List Separator). are_ascending (separator_keys zs)) (sym is.parts) ∙ order in
    let fits : keys_fit c.low c.high (separator_keys xs ++ y.key ∷ separator_keys ys) ≡ true =
    ap (keys_fit c.low c.high) (sym same) ∙ ap (λ (zs : List Separator). keys_fit c.low c.high (separator_keys zs)) (sym is.parts) ∙ fit in
    let p = keys_parted c.low c.high (separator_keys xs) (separator_keys ys) y.key asc fits in
    let first_in = and_parts (not_below c.low is.x.key && key_lt is.x.key y.key) (keys_fit c.low (Some y.key) (separator_keys is.xs)) p.left in
    let first_is = and_parts (not_below c.low is.x.key) (key_lt is.x.key y.key) first_in.0 in
    let inside = and_parts (not_below c.low y.key) (below c.high y.key) p.inside in
    let key = sym is.key in
    let front_fit = subst (λ (k : Key). keys_fit c.low (Some k) (separator_keys xs) ≡ true) key p.left in
    let behind_fit = subst (λ (k : Key). keys_fit (Some k) c.high (separator_keys ys) ≡ true) key p.right in
    let Children : Key → List Child = λ (k : Key). children first c.low (Some k) xs ++ children y.child (Some k) c.high ys in
    record {
      inner_are = (λ i. children_of c.low (Some s.key) (is.front i) ++ (children_of (Some s.key) c.high (is.behind i) ++ []))
          ∙ ap (λ (cs : List Child). children first c.low (Some s.key) xs ++ cs) (append-nil (children y.child (Some s.key) c.high ys))
          ∙ ap Children is.key
          ∙ sym (children_part first c.low c.high xs ys y)
          ∙ ap (children first c.low c.high) (sym is.parts);
      above = (above_with after (left_part left c s.key) first xs is.front front_fit, (above_with after (right_part s.child c s.key) y.child ys is.behind behind_fit, tt));
      divided = (subst (λ (k : Key). is_after c.low k ≡ true) key (behind_low c.low is.x.key y.key first_is.0 first_is.1), subst (λ (k : Key). below c.high k ≡ true) key inside.1);
    }

-- the children on both sides are as before, and the grown one has its parts
pub sides_grown : (key : Key) (pages after : List (List ℕ)) (c : Child) (first : ℕ) (separators : List Separator) (i : ℕ) (g above : Grown) → StandAround key separators i → (g ≡ Whole → page_at pages c.page ≡ Some (Interior first separators))
    → are_ascending (separator_keys separators) ≡ true → keys_fit c.low c.high (separator_keys separators) ≡ true → ((child_of c first separators i).page ≡ 0 → ⊥) → StaysInPlace (child_of c first separators i).page g
    → IsDivided (child_of c first separators i) g → IsAboveGrown pages after c.page first separators i g above
    → IsGrownAbove after c above (left_children c first separators i ++ (parts_of (child_of c first separators i) g ++ right_children c separators i))
sides_grown key pages after c first separators i Whole above around at order fit inner place divided is =
    let now : page_at after c.page ≡ Some (Interior first separators) = ap (λ (ps : List (List ℕ)). page_at ps c.page) is.1 ∙ at refl in
    let whole = ways_grown after c first separators Whole now order fit in
    let all = children_around key first c.low c.high separators i around.0 around.1 in
    subst (λ (g : Grown). IsGrownAbove after c g (left_children c first separators i ++ (child_of c first separators i ∷ right_children c separators i))) (sym is.0)
    (subst (IsGrownAbove after c Whole) all.children_are whole)
sides_grown key pages after c first separators i (Parted left s) above around at order fit inner place divided is =
    let front : List Separator = take i separators in
    let behind : List Separator = drop i separators in
    let whole : front ++ behind ≡ separators = take-append-drop i separators in
    let asc = between_ascends first c.low c.high front s behind (ap (λ (xs : List Separator). are_ascending (separator_keys xs)) whole ∙ order) divided.0 divided.1 in
    let fits = between_fits first c.low c.high front s behind (ap (λ (xs : List Separator). keys_fit c.low c.high (separator_keys xs)) whole ∙ fit) divided.0 divided.1 in
    let grown = ways_grown after c first (front ++ s ∷ behind) above is asc fits in
    let d : Child = child_of c first separators i in
    let Parts : ℕ → List Child = λ (n : ℕ). children_before first c.low front ++ ((left_part n d s.key ∷ right_part s.child d s.key ∷ []) ++ children_from c.high behind) in
    subst (IsGrownAbove after c above) (children_parted first c.low c.high front s behind ∙ ap Parts (sym (place inner))) grown

-- ---- how often a page is there

-- the same but for the order of what came and went
pub becomes_by : (edit : List Entry → List Entry) (pages after : List (List ℕ)) (came went came2 went2 : List ℕ) (level : ℕ) (old new : List Child) → ((p : ℕ) → times_in p came2 ≡ times_in p came) → ((p : ℕ) → times_in p went2 ≡ times_in p went)
    → Becomes edit pages after came went level old new → Becomes edit pages after came2 went2 level old new
becomes_by edit pages after came went came2 went2 level old new c w b = record {
  subtrees = b.subtrees;
  pages_are = λ p. same (times_in p (forest_pages level after new)) (times_in p (forest_pages level pages old)) (times_in p came) (times_in p went) (times_in p came2) (times_in p went2) (b.pages_are p) (c p) (w p);
  entries = b.entries;
}
  where
    same : (x y m n k l : ℕ) → x + n ≡ y + m → k ≡ m → l ≡ n → x + l ≡ y + k
    same x y m n k l e a b = omega arith

pub went_nothing : (page : ℕ) (g : Grown) → (page ≡ 0 → ⊥) → went_of page g ≡ []
went_nothing page Whole apart = refl
went_nothing page (Parted left s) apart = by (page == 0) refl
  where
    by : (b : Bool) → (page == 0) ≡ b → cond {A = List ℕ} b (0 ∷ []) [] ≡ []
    by true is = absurd (apart (eqb-true page 0 is))
    by false is = refl

used_apart : (old new : Step) (pages came : List ℕ) → AreUsed old pages → WereTaken old new came → Disjoint pages came
used_apart old new pages came used taken p h =
    false_from_ne_true (contains came p) (λ there. let spare = each_in (λ q. is_spare old.spares q ≡ true) came p taken.spare there in let no_spare = used p h in absurd cc)

pub taken_apart : (old new : Step) (pages came : List ℕ) → all_differ pages ≡ true → AreUsed old pages → WereTaken old new came → all_differ (pages ++ came) ≡ true
taken_apart old new pages came apart used taken = apart_from pages came apart taken.apart (used_apart old new pages came used taken)
