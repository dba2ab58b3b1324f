-- A look-up whose pages are in memory, step by step.
use Rattle.std.proofs.Common.{◌≡◌, inl, inr, ℕ, zero, suc, ◌+◌, ◌-◌, ◌<◌, ◌≤◌, Bool, true, false, cond, List, [], Option, Some, None, refl, sym, ap, subst, ◌∙◌, arith}
use Rattle.std.specs.Prelude.{IfSome}
use Rattle.std.specs.List.{Contains}
use Rattle.std.proofs.lemmas.List.Elements.{All-contains, All-from_recursion}
use Rattle.std.proofs.lemmas.Bool.{and_from}
use Rattle.fsd_bytes.specs.declared.key.Key.{Key}
use Rattle.fsd_bytes.specs.declared.refusal.Refusal.{Refusal}
use Rattle.fsd_formats.specs.declared.entry.Entry.{Entry}
use Rattle.fsd_formats.specs.declared.page.Separator.{Separator}
use Rattle.fsd_formats.specs.NamePage.{Content, Free, Leaf, Interior}
use Rattle.fsd_table.specs.declared.child.Child.{Child}
use Rattle.fsd_table.specs.Pages.{page_at, children, content_fits, not_below, below}
use Rattle.fsd_table.specs.Table.{max_height, top}
use Rattle.fsd_table.proofs.BoundLaws.{Fits, all_weaker, entries_fit}
use Rattle.fsd_table.proofs.PageLaws.{at_is_page, interior_ascends}
use Rattle.fsd_forest.specs.Met.{met_at, pages_met}
use Rattle.fsd_forest.specs.Parts.{is_inside}
use Rattle.name_page.specs.declared.pages.Pages.{Ghosts}
use Rattle.name_page.specs.declared.cut.Cut.TheVariants.{Named, UpTo}
use Rattle.name_page.specs.Cut.{is_before}
use Rattle.name_page.specs.Pages.{is_spare, IsOuter}
use Rattle.name_page.proofs.LookLaws.{memory_still, memory_then}
use Rattle.name_btree.specs.Descent.{FoundLeaf}
use Rattle.name_btree.specs.declared.descent.Neighbour.{Neighbour}
use Rattle.name_btree.specs.declared.descent.Way.{Way}
use Rattle.name_btree.specs.declared.fault.TreeFault.{TreeFault}
use Rattle.name_btree.specs.declared.fault.TreeFault.TheVariants.{Pages, Broken}
use Rattle.name_btree.specs.Descent.{way_to}
use Rattle.name_btree.specs.Fault.{HasTreeCause, IsMisfit, BarsPage, is_inner}
use Rattle.name_btree.specs.Path.{met_beside, HasAll, HasMet, HasNoneBefore, HasPath, HasWayTo, IsSafe, Leads, LeadsBack, LeadsOn, TakesNone}
use Rattle.name_page.specs.Lookups.{last_that}
use Rattle.name_btree.proofs.finding.LastLaws.{last_none}
use Rattle.name_btree.proofs.ways.MemoryLaws.{any_at, inside_up, met_child, met_way, none_passes, same_way, up_to_itself, way_child, way_is, way_previous, IsOf}
use Rattle.name_btree.proofs.finding.SearchLaws.{inner_untold}

-- one level less below a page
down_one : (above : ℕ) → above < 6 → max_height - above ≡ suc (max_height - (above + 1))
down_one above low = omega (arith, low)

module _ {D : Type 0} (P : Ghosts D) where
  -- ---- what is met

  -- so far no memory was taken, and what is met from here on is there
  pub record IsMet (before : Key → Bool) (first : D) (above : ℕ) (w : Way) (t : D) : Type 0 where
    pub none : TakesNone P None first t
    pub more : HasAll P first (pages_met (max_height - above) (page_at (P.step first).images) before (met_beside (page_at (P.step first).images) w.previous) w.child.page)

  pub met_begins : (before : Key → Bool) (first : D) (above : ℕ) (start : Child) → HasMet P above before start first → IsMet before first above (record { child = start; previous = None; next = None }) first
  met_begins before first above start has = record { none = memory_still P first; more = has }

  module _ (before : Key → Bool) (first : D) (above : ℕ) (w : Way) (t : D) (low : above < 6) (is : IsMet before first above w t) where
    abbrev pub at : ℕ → Option Content
    at = page_at (P.step first).images

    both : HasAll P first (pages_met (suc (max_height - (above + 1))) at before (met_beside at w.previous) w.child.page)
    both = subst (λ (n : ℕ). HasAll P first (pages_met n at before (met_beside at w.previous) w.child.page)) (down_one above low) is.more

    -- the next page is there
    pub met_here : P.in_memory t w.child.page
    met_here = is.none.stays w.child.page both.0

    module _ (t' : D) (takes : TakesNone P None t t') where
      pub met_then : TakesNone P None first t'
      met_then = memory_then P first t t' is.none takes

      met_content : (x : Content) → page_at (P.step t').images w.child.page ≡ Some x → HasAll P first (met_at (pages_met (max_height - (above + 1)) at before) (pages_met (max_height - (above + 1)) at (λ key. true) []) before (met_beside at w.previous) (Some x))
      met_content x has =
          subst (λ (o : Option Content). HasAll P first (met_at (pages_met (max_height - (above + 1)) at before) (pages_met (max_height - (above + 1)) at (λ key. true) []) before (met_beside at w.previous) o))
          (ap (λ (pages : List (List ℕ)). page_at pages w.child.page) (sym met_then.images) ∙ has) both.1

      pub met_down : (page : ℕ) (separators : List Separator) → page_at (P.step t').images w.child.page ≡ Some (Interior page separators)
          → IsMet before first (above + 1) (way_to before (above + 1) w.previous w.next page w.child.low w.child.high separators) t'
      met_down page separators has = record {
        none = met_then;
        more = subst (HasAll P first) (met_way at before (above + 1) w.previous w.next page w.child.low w.child.high separators) (met_content (Interior page separators) has);
      }

      pub met_left : (entries : List Entry) → page_at (P.step t').images w.child.page ≡ Some (Leaf entries) → HasNoneBefore before entries → HasAll P first (met_beside at w.previous)
      met_left entries has none = subst (λ (b : Bool). HasAll P first (cond b [] (met_beside at w.previous))) none (met_content (Leaf entries) has)

  -- ---- where a way leads

  -- the page of a child, as it was reached
  pub record IsReadSafe (t : D) (c : Child) (x : Content) : Type 0 where
    pub there : P.in_memory t c.page
    pub used : is_spare (P.step t).spares c.page ≡ false
    pub fits : content_fits c.low c.high (Some x) ≡ true
    pub has : page_at (P.step t).images c.page ≡ Some x

  pub still_safe : (t later : D) (c : Child) (x : Content) → TakesNone P None t later → IsReadSafe t c x → IsReadSafe later c x
  still_safe t later c x takes is = record {
    there = takes.stays c.page is.there;
    used = ap (λ (spares : List Bool). is_spare spares c.page) takes.spares ∙ is.used;
    fits = is.fits;
    has = ap (λ (pages : List (List ℕ)). page_at pages c.page) takes.images ∙ is.has;
  }

  safe : (t : D) (c : Child) (x : Content) (key : Key) → IsReadSafe t c x → is_inside c key ≡ true → IsSafe P t key c
  safe t c x key is inside = record { there = is.there; used = is.used; inside = inside; fits = ap (content_fits c.low c.high) is.has ∙ is.fits }

  inside_of : (levels : ℕ) (t : D) (e : Entry) (c : Child) → Leads P levels t e c → is_inside c e.key ≡ true
  inside_of zero t e c h = absurd h
  inside_of (suc levels) t e c h = h.0.inside

  -- from a page, where it leads from one of its children
  pub lead_up : (levels : ℕ) (t : D) (e : Entry) (c d : Child) (page : ℕ) (separators : List Separator) → IsReadSafe t c (Interior page separators)
      → IsOf (children page c.low c.high separators) d → Leads P levels t e d → Leads P (suc levels) t e c
  lead_up levels t e c d page separators is of h =
      let inside = inside_of levels t e d h in
      let asc = interior_ascends c.page _ page separators (at_is_page (P.step t).images c.page (Interior page separators) is.has) in
      let next = way_is e.key 0 None None page c.low c.low c.high separators d asc is.fits of inside in (
        safe t c (Interior page separators) e.key is (inside_up e.key c.low c.low c.high page separators d (λ k x. x) is.fits of inside),
        subst (LeadsOn (Leads P levels t e) e c) (sym is.has) (subst (Leads P levels t e) (sym next) h),
      )

  -- from a leaf to each of its entries
  pub lead_leaf : (levels : ℕ) (t : D) (e : Entry) (c : Child) (entries : List Entry) → IsReadSafe t c (Leaf entries) → Contains entries e → Leads P (suc levels) t e c
  lead_leaf levels t e c entries is there =
      let fit = All-contains (Fits c.low c.high) entries e (All-from_recursion (Fits c.low c.high) entries (entries_fit c.low c.high entries is.fits)) there in
      (safe t c (Leaf entries) e.key is (and_from (not_below c.low e.key) (below c.high e.key) fit.0 fit.1), subst (LeadsOn (Leads P levels t e) e c) (sym is.has) there)

  -- ---- the way back

  -- where a way leads from a child later, one leads from the start
  abbrev pub Back : (above : ℕ) (start : Child) (t : D) → Neighbour → Type 0
  Back above start t n = (later : D) → TakesNone P None t later → (e : Entry) → Leads P (max_height - n.above) later e n.child → Leads P (max_height - above) later e start

  -- so it is from the way's child, and from the one left of it
  pub record IsBack (from : ℕ) (start : Child) (above : ℕ) (w : Way) (t : D) : Type 0 where
    pub here : Back from start t (record { child = w.child; above = above })
    pub beside : IfSome w.previous (Back from start t)

  pub back_begins : (above : ℕ) (start : Child) (t : D) → IsBack above start above (record { child = start; previous = None; next = None }) t
  back_begins above start t = record { here = λ later takes e h. h; beside = tt }

  back_later : (above : ℕ) (start : Child) (t t' : D) → TakesNone P None t t' → (n : Neighbour) → Back above start t n → Back above start t' n
  back_later above start t t' takes n back later more e h = back later (memory_then P t t' later takes more) e h

  still_back : (from : ℕ) (start : Child) (t t' : D) → TakesNone P None t t' → (o : Option Neighbour) → IfSome o (Back from start t) → IfSome o (Back from start t')
  still_back from start t t' takes None h = tt
  still_back from start t t' takes (Some n) h = back_later from start t t' takes n h

  module _ (from : ℕ) (start : Child) (above : ℕ) (w : Way) (t t' : D) (low : above < 6) (takes : TakesNone P None t t') (is : IsBack from start above w t) where
    pub back_down : (before : Key → Bool) (page : ℕ) (separators : List Separator) → IsReadSafe t' w.child (Interior page separators)
        → IsBack from start (above + 1) (way_to before (above + 1) w.previous w.next page w.child.low w.child.high separators) t'
    back_down before page separators read =
        let each : (d : Child) → IsOf (children page w.child.low w.child.high separators) d → Back from start t' (record { child = d; above = above + 1 }) = λ d of later more e h.
        is.here later (memory_then P t t' later takes more) e
        (subst (λ (n : ℕ). Leads P n later e w.child) (sym (down_one above low)) (lead_up (max_height - (above + 1)) later e w.child d page separators (still_safe t' later w.child _ more read) of h)) in
        record {
          here = each _ (way_child before (above + 1) w.previous w.next page w.child.low w.child.high separators);
          beside = way_previous (λ o. IfSome o (Back from start t')) before (above + 1) w.previous w.next page w.child.low w.child.high separators (still_back from start t t' takes w.previous is.beside) each;
        }

    pub back_ends : (entries : List Entry) → IsReadSafe t' w.child (Leaf entries) → (next : Option Neighbour) → LeadsBack P from start t' (record { page = w.child.page; entries = entries; previous = w.previous; next = next })
    back_ends entries read next = record {
      here = λ e there. is.here t' takes e (subst (λ (n : ℕ). Leads P n t' e w.child) (sym (down_one above low)) (lead_leaf (max_height - (above + 1)) t' e w.child entries read there));
      beside = still_back from start t t' takes w.previous is.beside;
    }

  -- ---- the way again

  met_on : (levels : ℕ) (t : D) (e : Entry) (c : Child) (left : List ℕ) (x : Option Content)
      → ((d : Child) (other : List ℕ) → Leads P levels t e d → HasAll P t (pages_met levels (page_at (P.step t).images) (is_before (UpTo e.key)) other d.page))
      → LeadsOn (Leads P levels t e) e c x → HasAll P t (met_at (pages_met levels (page_at (P.step t).images) (is_before (UpTo e.key))) (pages_met levels (page_at (P.step t).images) (λ key. true) []) (is_before (UpTo e.key)) left x)
  met_on levels t e c left None f h = absurd h
  met_on levels t e c left (Some Free) f h = absurd h
  met_on levels t e c left (Some (Leaf entries)) f h =
      subst (λ (b : Bool). HasAll P t (cond b [] left)) (sym (any_at (λ x. is_before (UpTo e.key) x.key) entries e h (up_to_itself e.key))) tt
  met_on levels t e c left (Some (Interior page separators)) f h =
      let other = met_child (pages_met levels (page_at (P.step t).images) (is_before (UpTo e.key))) (pages_met levels (page_at (P.step t).images) (λ key. true) []) (is_before (UpTo e.key)) left 0 None None page c.low c.high separators in
      subst (HasAll P t) (sym other.1) (f (way_to (is_before (UpTo e.key)) 0 None None page c.low c.high separators).child other.0 h)

  -- the search for an entry meets no other pages than those of its way
  pub lead_met : (levels : ℕ) (t : D) (e : Entry) (c : Child) (left : List ℕ) → Leads P levels t e c → HasAll P t (pages_met levels (page_at (P.step t).images) (is_before (UpTo e.key)) left c.page)
  lead_met zero t e c left h = absurd h
  lead_met (suc levels) t e c left h = (h.0.there, met_on levels t e c left (page_at (P.step t).images c.page) (λ d other more. lead_met levels t e d other more) h.1)

  -- it goes on from the child that the way leads to
  pub lead_down : (first t' : D) (e : Entry) (above : ℕ) (w : Way) (page : ℕ) (separators : List Separator) → above < 6 → TakesNone P None first t' → page_at (P.step t').images w.child.page ≡ Some (Interior page separators)
      → Leads P (max_height - above) first e w.child → Leads P (max_height - (above + 1)) first e (way_to (is_before (UpTo e.key)) (above + 1) w.previous w.next page w.child.low w.child.high separators).child
  lead_down first t' e above w page separators low takes has h =
      let both = subst (λ (n : ℕ). Leads P n first e w.child) (down_one above low) h in
      let on = subst (LeadsOn (Leads P (max_height - (above + 1)) first e) e w.child) (ap (λ (pages : List (List ℕ)). page_at pages w.child.page) (sym takes.images) ∙ has) both.1 in
      subst (Leads P (max_height - (above + 1)) first e) (same_way (is_before (UpTo e.key)) 0 (above + 1) None None w.previous w.next page w.child.low w.child.high separators) on

  -- the entry is in the leaf
  pub lead_ends : (first t' : D) (e : Entry) (above : ℕ) (c : Child) (entries : List Entry) → above < 6 → TakesNone P None first t' → page_at (P.step t').images c.page ≡ Some (Leaf entries)
      → Leads P (max_height - above) first e c → Contains entries e
  lead_ends first t' e above c entries low takes has h =
      let both = subst (λ (n : ℕ). Leads P n first e c) (down_one above low) h in
      subst (LeadsOn (Leads P (max_height - (above + 1)) first e) e c) (ap (λ (pages : List (List ℕ)). page_at pages c.page) (sym takes.images) ∙ has) both.1

  pub lead_high : (first : D) (e : Entry) (above : ℕ) (c : Child) → 6 ≤ above → Leads P (max_height - above) first e c → ⊥
  lead_high first e above c high h = let none : max_height - above ≡ 0 = omega (arith, high) in subst (λ (n : ℕ). Leads P n first e c) none h

  -- nor is any refused but from outside
  pub lead_outer : (refusal : Option Refusal) (first t' : D) (e : Entry) (above : ℕ) (c : Child) (fault : TreeFault) → above < 6 → TakesNone P refusal first t' → Leads P (max_height - above) first e c
      → HasTreeCause (P.step t') (IsMisfit (P.step t').images c) (BarsPage (P.step t') c.page) fault → is_inner fault ≡ false
  lead_outer refusal first t' e above c fault low takes h cause = by_cause fault cause
    where
      safe_here : IsSafe P first e.key c
      safe_here = (subst (λ (n : ℕ). Leads P n first e c) (down_one above low) h).0

      fits : content_fits c.low c.high (page_at (P.step t').images c.page) ≡ true
      fits = ap (λ (pages : List (List ℕ)). content_fits c.low c.high (page_at pages c.page)) takes.images ∙ safe_here.fits

      used : is_spare (P.step t').spares c.page ≡ false
      used = ap (λ (spares : List Bool). is_spare spares c.page) takes.spares ∙ safe_here.used

      outer : (refused : Refusal) → IsOuter refused → (b : Bool) → is_inner (Pages refused) ≡ b → is_inner (Pages refused) ≡ false
      outer refused out false is = is
      outer refused out true is = absurd (let none = inner_untold (Pages refused) is in let no : Some refused ≡ None = sym out ∙ none in cc)

      barred : (refused : Refusal) (page : ℕ) → BarsPage (P.step t') c.page page → is_inner (Pages refused) ≡ false
      barred refused page (same, inl spare) = absurd (cc (sym spare ∙ used))
      barred refused page (same, inr none) = absurd (let no : false ≡ true = ap (content_fits c.low c.high) (sym none) ∙ fits in cc)

      by_cause : (f : TreeFault) → HasTreeCause (P.step t') (IsMisfit (P.step t').images c) (BarsPage (P.step t') c.page) f → is_inner f ≡ false
      by_cause (Pages refused) (said, inl out) = outer refused out (is_inner (Pages refused)) refl
      by_cause (Pages refused) (said, inr b) = barred refused b.0 b.2
      by_cause (Broken page) (same, misfit) = absurd (let no : false ≡ true = sym misfit ∙ fits in cc)

  -- ---- the highest version of a name

  -- what is met beside the way is there later
  pub beside_later : (t t' : D) → TakesNone P None t t' → (o : Option Neighbour) → HasAll P t (met_beside (page_at (P.step t).images) o) → HasAll P t' (met_beside (page_at (P.step t').images) o)
  beside_later t t' takes o has =
      subst (λ (pages : List (List ℕ)). HasAll P t' (met_beside (page_at pages) o)) (sym takes.images) (all_weaker (P.in_memory t) (P.in_memory t') (met_beside (page_at (P.step t).images) o) takes.stays has)

  pub path_met : (t : D) (name other : List ℕ) (c : Child) → other ≡ name → c ≡ top → HasPath P name t → HasMet P 0 (is_before (Named other)) c t
  path_met t name other c same is has = subst (λ (d : Child). HasMet P 0 (is_before (Named other)) d t) (sym is) (subst (λ (n : List ℕ). HasPath P n t) (sym same) has)

  pub led_here : (t : D) (c : Child) (leaf : FoundLeaf) (e : Entry) → c ≡ top → LeadsBack P 0 c t leaf → Contains leaf.entries e → HasWayTo P e t
  led_here t c leaf e is back there = subst (Leads P max_height t e) is (back.here e there)

  pub led_beside : (t later : D) (c : Child) (leaf : FoundLeaf) (n : Neighbour) (e : Entry) → c ≡ top → leaf.previous ≡ Some n → TakesNone P None t later → LeadsBack P 0 c t leaf → Leads P (max_height - n.above) later e n.child → HasWayTo P e later
  led_beside t later c leaf n e is at takes back h =
      subst (Leads P max_height later e) is (subst (λ (o : Option Neighbour). IfSome o (λ m. (l : D) → TakesNone P None t l → (x : Entry) → Leads P (max_height - m.above) l x m.child → Leads P max_height l x c)) at back.beside later takes e h)

pub none_before : (before : Key → Bool) (entries : List Entry) → last_that (λ e. before e.key) entries ≡ None → HasNoneBefore before entries
none_before before entries h = none_passes (λ e. before e.key) entries (last_none (λ e. before e.key) entries h)
