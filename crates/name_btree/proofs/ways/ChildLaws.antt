-- The way to a place goes to the child between whose keys the place stands.
use Rattle.std.proofs.Common.{◌≡◌, ◌∙◌, ◌+◌, inl, inr, ℕ, zero, suc, Bool, true, false, cond, List, [], ◌∷◌, Option, Some, None, refl, sym, ap, subst, arith}
use Rattle.std.specs.Prelude.{IfSome}
use Rattle.std.specs.List.{Contains}
use Rattle.fsd_bytes.specs.declared.key.Key.{Key}
use Rattle.fsd_formats.specs.declared.entry.Entry.{Entry}
use Rattle.fsd_formats.specs.declared.page.Separator.{Separator}
use Rattle.fsd_formats.specs.NamePage.{Content, Leaf, Interior}
use Rattle.fsd_table.specs.declared.child.Child.{Child}
use Rattle.fsd_table.specs.Pages.{page_at, children, children_of}
use Rattle.fsd_table.specs.Table.{top, IsVisited}
use Rattle.fsd_table.proofs.BreakLaws.{visited_top}
use Rattle.fsd_forest.specs.Ways.{end_of}
use Rattle.name_page.specs.Cut.{is_before, AtLow, AtHigh}
use Rattle.name_page.specs.declared.cut.Cut.TheVariants.{End, Start}
use Rattle.name_page.specs.Lookups.{same_name}
use Rattle.name_page.specs.Looks.{Looks, ShowsEach}
use Rattle.name_page.specs.Pages.{Step, is_spare, IsReached}
use Rattle.name_page.proofs.LookLaws.{agrees_at, agrees_before, agrees_now}
use Rattle.name_btree.specs.Descent.{FoundLeaf}
use Rattle.name_btree.specs.declared.descent.Neighbour.{Neighbour}
use Rattle.name_btree.specs.declared.descent.Way.{Way}
use Rattle.name_btree.specs.Descent.{way_to, GoesTo, HasNeighbours, IsNeighbour, LeadsDown}
use Rattle.name_btree.specs.Lookup.{BeginsBehindPlace, BeginsBeside, EndsBeside, EndsUpToPlace, HasOtherLeft, HasRight, IsFirstBeside, IsLastBeside, IsLeafBy, IsLedFrom, IsReadLeaf}
use Rattle.name_btree.proofs.ways.MemoryLaws.{IsOf}
use Rattle.name_btree.proofs.ways.VisitedLaws.{found_beside}

-- ---- one page

child_in : (cs : List Child) (d : Child) → IsOf cs d → Contains cs d
child_in [] d h = absurd h
child_in (c ∷ cs) d (inl e) = (0, omega arith, sym e)
child_in (c ∷ cs) d (inr is) = let at = child_in cs d is in (suc at.0, omega (arith, at.1), at.2)

-- one of some children, between whose keys the place stands
record IsPlaced (before : Key → Bool) (cs : List Child) (d : Child) : Type 0 where
  of : IsOf cs d
  low : AtLow before d.low
  high : AtHigh before d.high

placed : (before : Key → Bool) (above : ℕ) (previous next : Option Neighbour) (first : ℕ) (low high : Option Key) (separators : List Separator) → AtLow before low → AtHigh before high
    → IsPlaced before (children first low high separators) (way_to before above previous next first low high separators).child
placed before above previous next first low high [] at_low at_high = record { of = inl refl; low = at_low; high = at_high }
placed before above previous next first low high (s ∷ separators) at_low at_high =
    by (λ is. placed before above (Some (record { child = c; above = above })) next s.child (Some s.key) high separators is at_high) (before s.key) refl
  where
    c : Child
    c = record { page = first; low = low; high = Some s.key }

    go : Way
    go = way_to before above (Some (record { child = c; above = above })) next s.child (Some s.key) high separators

    stop : Way
    stop = record { child = c; previous = previous; next = Some (record { child = record { page = s.child; low = Some s.key; high = end_of high separators }; above = above }) }

    by : (before s.key ≡ true → IsPlaced before (children s.child (Some s.key) high separators) go.child) → (b : Bool) → before s.key ≡ b
        → IsPlaced before (children first low high (s ∷ separators)) (cond b go stop).child
    by later true is = let p = later is in record { of = inr p.of; low = p.low; high = p.high }
    by later false is = record { of = inl refl; low = at_low; high = is }

-- ---- from page 0

-- the place stands between the keys of the child
pub between : (before : Key → Bool) (pages : List (List ℕ)) (above : ℕ) (c : Child) → LeadsDown before pages above c → AtLow before c.low × AtHigh before c.high
between before pages zero c is = (subst (λ (d : Child). AtLow before d.low) (sym is) tt, subst (λ (d : Child). AtHigh before d.high) (sym is) tt)
between before pages (suc above) c is = (is.2.low, is.2.high)

-- it leads on to the child of the page at the place
pub leads_on : (before : Key → Bool) (pages : List (List ℕ)) (above count : ℕ) (c : Child) (previous next : Option Neighbour) (first : ℕ) (separators : List Separator)
    → page_at pages c.page ≡ Some (Interior first separators) → LeadsDown before pages above c
    → LeadsDown before pages (above + 1) (way_to before count previous next first c.low c.high separators).child
leads_on before pages above count c previous next first separators at is =
    let d : Child = (way_to before count previous next first c.low c.high separators).child in
    let ends = between before pages above c is in
    let p = placed before count previous next first c.low c.high separators ends.0 ends.1 in
    let here : GoesTo before pages c d = record {
      child = subst (λ (o : Option Content). Contains (children_of c.low c.high o) d) (sym at) (child_in (children first c.low c.high separators) d p.of);
      low = p.low;
      high = p.high;
    } in
    let one : suc above ≡ above + 1 = omega arith in
    subst (λ (n : ℕ). LeadsDown before pages n d) one (c, is, here)

-- ---- from a start

-- where the keys of the way's child begin and end
abbrev EndsBetween : (lo hi : Option Key) → Way → Type 0
EndsBetween lo hi w = BeginsBeside lo w.previous w.child.low × EndsBeside hi w.next w.child.high

ends : (before : Key → Bool) (above : ℕ) (lo hi : Option Key) (previous next : Option Neighbour) (first : ℕ) (low high : Option Key) (separators : List Separator)
    → BeginsBeside lo previous low → EndsBeside hi next high → EndsBetween lo hi (way_to before above previous next first low high separators)
ends before above lo hi previous next first low high [] left right = (left, right)
ends before above lo hi previous next first low high (s ∷ separators) left right =
    by (ends before above lo hi (Some (record { child = c; above = above })) next s.child (Some s.key) high separators refl right) (before s.key)
  where
    c : Child
    c = record { page = first; low = low; high = Some s.key }

    go : Way
    go = way_to before above (Some (record { child = c; above = above })) next s.child (Some s.key) high separators

    stop : Way
    stop = record { child = c; previous = previous; next = Some (record { child = record { page = s.child; low = Some s.key; high = end_of high separators }; above = above }) }

    by : EndsBetween lo hi go → (b : Bool) → EndsBetween lo hi (cond b go stop)
    by later true = later
    by later false = (left, refl)

-- the child left of it ends up to the place
ends_left : (before : Key → Bool) (above : ℕ) (previous next : Option Neighbour) (first : ℕ) (low high : Option Key) (separators : List Separator)
    → IfSome previous (EndsUpToPlace before) → IfSome (way_to before above previous next first low high separators).previous (EndsUpToPlace before)
ends_left before above previous next first low high [] left = left
ends_left before above previous next first low high (s ∷ separators) left =
    by (λ is. ends_left before above (Some (record { child = c; above = above })) next s.child (Some s.key) high separators (s.key, refl, is)) (before s.key) refl
  where
    c : Child
    c = record { page = first; low = low; high = Some s.key }

    go : Way
    go = way_to before above (Some (record { child = c; above = above })) next s.child (Some s.key) high separators

    stop : Way
    stop = record { child = c; previous = previous; next = Some (record { child = record { page = s.child; low = Some s.key; high = end_of high separators }; above = above }) }

    by : (before s.key ≡ true → IfSome go.previous (EndsUpToPlace before)) → (b : Bool) → before s.key ≡ b → IfSome (cond b go stop).previous (EndsUpToPlace before)
    by later true is = later is
    by later false is = left

-- so many pages below page 0, where the way leads to the start
pub record IsDownWay (s : Step) (before : Key → Bool) (above0 : ℕ) (start : Child) (above : ℕ) (w : Way) : Type 0 where
  pub way : ShowsEach s (λ pages. LeadsDown before pages above0 start → LeadsDown before pages above w.child)
  pub low : BeginsBeside start.low w.previous w.child.low
  pub high : EndsBeside start.high w.next w.child.high
  pub left : IfSome w.previous (EndsUpToPlace before)

pub down_begins : (s : Step) (before : Key → Bool) (above : ℕ) (start : Child) → IsDownWay s before above start above (record { child = start; previous = None; next = None })
down_begins s before above start = record { way = λ pages agrees h. h; low = refl; high = refl; left = tt }

pub down_goes : (old s : Step) (before : Key → Bool) (above0 : ℕ) (start : Child) (above : ℕ) (w : Way) (first : ℕ) (separators : List Separator) → Looks old s
    → ShowsEach s (λ pages. page_at pages w.child.page ≡ Some (Interior first separators)) → IsDownWay old before above0 start above w
    → IsDownWay s before above0 start (above + 1) (way_to before (above + 1) w.previous w.next first w.child.low w.child.high separators)
down_goes old s before above0 start above w first separators looks at is =
    let both = ends before (above + 1) start.low start.high w.previous w.next first w.child.low w.child.high separators is.low is.high in
    record {
      way = λ pages agrees h. leads_on before pages above (above + 1) w.child w.previous w.next first separators (at pages agrees) (is.way pages (agrees_before old s pages looks agrees) h);
      low = both.0;
      high = both.1;
      left = ends_left before (above + 1) w.previous w.next first w.child.low w.child.high separators is.left;
    }

-- ---- the leaf at its end

module _ (old s : Step) (before : Key → Bool) (above : ℕ) (start : Child) (found : FoundLeaf) (reached : IsReached s found.page) (used : is_spare old.spares found.page ≡ false) (same : s.spares ≡ old.spares)
    (leaf_is : page_at s.images found.page ≡ Some (Leaf found.entries)) (leaf : Child) (led : IsLedFrom s before above start found leaf) where
  pub leaf_read : IsReadLeaf s leaf found.entries
  leaf_read = record {
    reached = subst (IsReached s) (sym led.page) reached;
    used = subst (λ (p : ℕ). is_spare s.spares p ≡ false) (sym led.page) (ap (λ (x : List Bool). is_spare x found.page) same ∙ used);
    has = subst (λ (p : ℕ). page_at s.images p ≡ Some (Leaf found.entries)) (sym led.page) leaf_is;
    fits = led.fits;
  }

  -- from page 0
  pub leaf_by : above ≡ 0 → start ≡ top → IsLeafBy s before leaf found.entries
  leaf_by none is = record {
    is_read = leaf_read;
    above = led.below;
    way = λ pages agrees. led.way pages agrees (subst (λ (n : ℕ). LeadsDown before pages n start) (sym none) is);
    path = λ pages agrees. led.path pages agrees (subst (λ (n : ℕ). IsVisited pages (n + 1) start) (sym none) (subst (IsVisited pages 1) (sym is) (visited_top pages)));
  }

-- what was reached since then shows the same
pub leaf_later : (old s : Step) (before : Key → Bool) (leaf : Child) (entries : List Entry) → Looks old s → IsLeafBy old before leaf entries → IsLeafBy s before leaf entries
leaf_later old s before leaf entries looks is = record {
  is_read = record {
    reached = looks.reached leaf.page is.is_read.reached;
    used = ap (λ (x : List Bool). is_spare x leaf.page) looks.spares ∙ is.is_read.used;
    has = agrees_at old s.images leaf.page is.is_read.reached is.is_read.used (agrees_before old s s.images looks (agrees_now s)) ∙ is.is_read.has;
    fits = is.is_read.fits;
  };
  above = is.above;
  way = λ pages agrees. is.way pages (agrees_before old s pages looks agrees);
  path = λ pages agrees. is.path pages (agrees_before old s pages looks agrees);
}

-- along the last children nothing stands right of the way
pub ends_last : (next : Option Neighbour) (high end : Option Key) → IfSome next (BeginsBehindPlace (is_before End)) → EndsBeside high next end → end ≡ high
ends_last None high end begins is = is
ends_last (Some n) high end begins is = absurd (let no = begins.2 in cc)

-- along the first children nothing stands left of the way
pub begins_first : (previous : Option Neighbour) (low begin : Option Key) → IfSome previous (EndsUpToPlace (is_before Start)) → BeginsBeside low previous begin → begin ≡ low
begins_first None low begin left is = is
begins_first (Some n) low begin left is = absurd (let no = left.2 in cc)

-- the leaf right of one at a place
pub right_of : (mid s : Step) (c leaf : Child) (found : FoundLeaf) (n : Neighbour) (first : Entry) → c ≡ top → Looks mid s → ShowsEach mid (λ pages. HasNeighbours pages 0 c found) → found.next ≡ Some n
    → EndsBeside c.high found.next leaf.high → IsFirstBeside s n first → HasRight s leaf first
right_of mid s c leaf found n first is looks beside at high b = record {
  right = b.leaf;
  rest = b.rest;
  is_read = b.is_read;
  depth = b.depth;
  path = λ pages agrees. b.path pages agrees (subst (λ (o : Option Neighbour). IfSome o (IsNeighbour pages)) at (found_beside pages c found is (beside pages (agrees_before mid s pages looks agrees))).1);
  beside = b.low ∙ subst (λ (o : Option Neighbour). EndsBeside c.high o leaf.high) at high;
}

-- the leaf left of one at the place of a name
pub other_left : (mid s : Step) (name : List ℕ) (c leaf : Child) (found : FoundLeaf) (n : Neighbour) (last : Entry) → c ≡ top → Looks mid s → ShowsEach mid (λ pages. HasNeighbours pages 0 c found) → found.previous ≡ Some n
    → BeginsBeside c.low found.previous leaf.low → IsLastBeside s n last → same_name last.key.name name ≡ false → HasOtherLeft s name leaf
other_left mid s name c leaf found n last is looks beside at low b other = record {
  left = b.leaf;
  rest = b.rest;
  last = last;
  is_read = b.is_read;
  depth = b.depth;
  path = λ pages agrees. b.path pages agrees (subst (λ (o : Option Neighbour). IfSome o (IsNeighbour pages)) at (found_beside pages c found is (beside pages (agrees_before mid s pages looks agrees))).0);
  beside = b.high ∙ subst (λ (o : Option Neighbour). BeginsBeside c.low o leaf.low) at low;
  other = other;
}

-- ---- what has another name
