-- The pages that a look-up meets, where they are in memory.
use Rattle.std.specs.Prelude.{◌≡◌, ℕ, zero, suc, ◌-◌, Bool, true, false, List, [], Option, Some, None, IfSome, IfOk, Result}
use Rattle.std.specs.List.{AllByRecursion, Contains, list_any}
use Rattle.fsd_formats.specs.declared.entry.Entry.{Entry}
use Rattle.fsd_formats.specs.NamePage.{Content, Leaf, Interior}
use Rattle.fsd_bytes.specs.declared.key.Key.{Key}
use Rattle.fsd_bytes.specs.declared.refusal.Refusal.{Refusal}
use Rattle.fsd_table.specs.declared.child.Child.{Child}
use Rattle.fsd_table.specs.Pages.{page_at, content_fits}
use Rattle.fsd_table.specs.Table.{max_height, top}
use Rattle.fsd_forest.specs.Met.{pages_met, search_of}
use Rattle.fsd_forest.specs.Parts.{is_inside}
use Rattle.name_page.specs.Cut.{is_before}
use Rattle.name_page.specs.declared.cut.Cut.TheVariants.{UpTo}
use Rattle.name_page.specs.declared.pages.Pages.{Ghosts}
use Rattle.name_page.specs.Pages.{is_spare, NeedsNoMemory}
use Rattle.name_btree.specs.declared.descent.Neighbour.{Neighbour}
use Rattle.name_btree.specs.declared.fault.TreeFault.{TreeFault}
use Rattle.name_btree.specs.declared.lookup.FoundEntry.{FoundEntry}
use Rattle.name_btree.specs.Descent.{way_to, FoundLeaf}
use Rattle.name_btree.specs.Fault.{outer_told}

-- what is met from a child beside the way on, down its last children
abbrev pub met_beside : (at : ℕ → Option Content) → Option Neighbour → List ℕ
met_beside at None = []
met_beside at (Some n) = pages_met (max_height - n.above) at (λ key. true) [] n.child.page

-- at a page the way of an entry's key goes on, or the entry is there
abbrev pub LeadsOn : (Down : Child → Type 0) → Entry → Child → Option Content → Type 0
LeadsOn Down e c (Some (Leaf entries)) = Contains entries e
LeadsOn Down e c (Some (Interior first separators)) = Down (way_to (is_before (UpTo e.key)) 0 None None first c.low c.high separators).child
LeadsOn Down e c other = ⊥

-- none of these entries stands before a place
abbrev pub HasNoneBefore : (before : Key → Bool) → List Entry → Type 0
HasNoneBefore before entries = list_any (λ e. before e.key) entries ≡ false

module _ {D : Type 0} (P : Ghosts D) where
  -- these pages are in memory
  abbrev pub HasAll : D → List ℕ → Type 0
  HasAll t pages = AllByRecursion (P.in_memory t) pages

  -- all that the search from a child at a place meets is in memory
  abbrev pub HasMet : (above : ℕ) → (before : Key → Bool) → Child → D → Type 0
  HasMet above before start t = HasAll t (pages_met (max_height - above) (page_at (P.step t).images) before [] start.page)

  -- all that the search for the highest version of a name meets is in memory
  abbrev pub HasPath : (name : List ℕ) → D → Type 0
  HasPath name t = HasAll t (search_of (page_at (P.step t).images) name)

  -- a call that needed no memory, since all that it met was there
  abbrev pub TakesNone : Option Refusal → D → D → Type 0
  TakesNone refusal old new = NeedsNoMemory P.step P.in_memory refusal old new

  -- the page of a child is in memory, isn't spare, and has keys between the child's
  pub record IsSafe (t : D) (key : Key) (c : Child) : Type 0 where
    pub there : P.in_memory t c.page
    pub used : is_spare (P.step t).spares c.page ≡ false
    pub inside : is_inside c key ≡ true
    pub fits : content_fits c.low c.high (page_at (P.step t).images c.page) ≡ true

  -- the way of an entry's key leads over such pages to a leaf that has the entry, in so many levels
  abbrev pub Leads : (levels : ℕ) → D → Entry → Child → Type 0
  Leads zero t e c = ⊥
  Leads (suc levels) t e c = IsSafe t e.key c × LeadsOn (Leads levels t e) e c (page_at (P.step t).images c.page)

  -- The way to an entry that was found leads to it again, and so does that to one below the child left of the way,
  -- where the way from that child leads to it later.
  pub record LeadsBack (above : ℕ) (start : Child) (t : D) (found : FoundLeaf) : Type 0 where
    pub here : (e : Entry) → Contains found.entries e → Leads (max_height - above) t e start
    pub beside : IfSome found.previous (λ n. (later : D) → TakesNone None t later → (e : Entry) → Leads (max_height - n.above) later e n.child → Leads (max_height - above) later e start)

  -- the same from page 0
  abbrev pub HasWayTo : Entry → D → Type 0
  HasWayTo e t = Leads max_height t e top

  -- ---- where all that is met is in memory

  -- A way to a leaf takes no memory. Where no entry of the leaf stands before the place, all that is met beside it is
  -- there too; the next way to an entry that it has found leads to the same leaf.
  pub record StaysBelow (before : Key → Bool) (above : ℕ) (start : Child) (old new : D) (result : Result FoundLeaf TreeFault) : Type 0 where
    pub none : TakesNone (outer_told result) old new
    pub left : IfOk result (λ found. HasNoneBefore before found.entries → HasAll old (met_beside (page_at (P.step old).images) found.previous))
    pub back : IfOk result (λ found. LeadsBack above start new found)

  -- the search for the last entry below a child beside the way takes none, and leads there again
  pub record StaysBeside (n : Neighbour) (old new : D) (result : Result FoundEntry TreeFault) : Type 0 where
    pub none : TakesNone (outer_told result) old new
    pub back : IfOk result (λ last. Leads (max_height - n.above) new last.entry n.child)

  -- a search takes none, and the way to the entry that it has found is there then
  pub record StaysOnPath (old new : D) (result : Result (Option FoundEntry) TreeFault) : Type 0 where
    pub none : TakesNone (outer_told result) old new
    pub back : IfOk result (λ found. IfSome found (λ f. HasWayTo f.entry new))
