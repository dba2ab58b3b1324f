-- What a table over a cache leaves where it was looked into.
use Rattle.std.proofs.Common.{◌≡◌, ℕ, ◌<◌, Bool, true, List, length, Option, Some, None, Result, Ok, Err, refl, sym, ap, subst, ◌∙◌, arith, ◌⊎◌, inl, inr, ◌≤◌, false, ◌||◌}
use Rattle.std.specs.Prelude.{IfErr, IfOk, slice_get, slice_index_or, nat_eq, option_and_then}
use Rattle.std.specs.Borrow.{MutBor}
use Rattle.std.specs.Option.{MatchOption, option_or}
use Rattle.std.proofs.lemmas.Bool.{both_ways, eqb-true, or_right}
use Rattle.fsd_bytes.specs.declared.refusal.Refusal.{Refusal}
use Rattle.fsd_bytes.specs.declared.refusal.Refusal.TheVariants.{Unsound}
use Rattle.fsd_formats.specs.declared.entry.Entry.{Entry}
use Rattle.fsd_formats.specs.NamePage.{read_page}
use Rattle.fsd_table.specs.Pages.{page_at}
use Rattle.fsd_table.specs.Table.{BreaksTable}
use Rattle.fsd_table.specs.Tree.{IsTree, table_of}
use Rattle.sector_disk.specs.declared.machine.Machine.{Ghosts as MachineGhosts}
use Rattle.page_cache.specs.declared.source.PageSource.{Ghosts as SourceGhosts}
use Rattle.page_cache.specs.Cache.{CacheValue, is_among, newest_bytes}
use Rattle.name_page.specs.Looks.{Agrees, ShowsEach}
use Rattle.name_page.specs.Pages.{Step, IsBarred, IsOuter, home_sector, is_one_of as among, is_spare}
use Rattle.name_page.proofs.LookLaws.{agrees_at, agrees_now}
use Rattle.name_btree.specs.declared.fault.TreeFault.{TreeFault}
use Rattle.name_btree.specs.declared.fault.TreeFault.TheVariants.{Pages, Broken}
use Rattle.name_btree.specs.Fault.{BarsTable, HasTreeCause, IsOnWay, ShowsCause}
use Rattle.name_btree.specs.declared.lookup.FoundEntry.{FoundEntry}
use Rattle.name_btree.specs.Lookup.{IsLedTo, IsMetAs, StandsIn, found_entry}
use Rattle.table_pages.specs.Bringing.{IsTrusted, given_by, home_in}
use Rattle.table_pages.specs.Kept.{IsReady}
use Rattle.table_pages.specs.ImageLaws.{image_at, image_count}
use Rattle.table_pages.specs.Reads.{HadRefused}
use Rattle.table_pages.specs.Table.{BarsPlace, IsOver, LeavesTable, ReadsOnly, Trusted, fresh_step, step_of}
use Rattle.table_pages.specs.declared.table.Table.{Table}
use Rattle.table_pages.proofs.KeptLaws.{reached_there}
use Rattle.cached_table.proofs.LeftLaws.{clean_left, fills_left, images_left, loses_left, reads_left, ready_left, trusted_left}
use Rattle.cached_table.proofs.ResidentLaws.{in_memory}
use Rattle.cached_table.specs.Finding.{FailsToFind, IsFoundIn, IsOfPages}
use Rattle.cached_table.specs.Looking.{FaultIn, Had, HaveOthers, HavePages, LeadsTo, LooksOnly, ShowsFault, ShowsPlace, images_by}
use Rattle.cached_table.proofs.StayLaws.{StaysStep, agrees_then, kept_then, leads_then}
use Rattle.cached_table.proofs.VisitLaws.{refused_breaks, way_within}

-- homes of pages of a table are not the same
same_home : (count home_a page other : ℕ) → count ≤ 4096 → page < count → other < count → home_in home_a page ≡ home_in home_a other → other ≡ page
same_home count home_a page other small lt lt' is = omega (arith, small, lt, lt', is)

home_named : (home_a page place : ℕ) → Unsound (home_in home_a page) ≡ Unsound place → place ≡ home_in home_a page
home_named home_a page place is = cc is

-- ---- faults

pub fault_there : (s : Step) (f : TreeFault) → HasTreeCause s (BreaksTable s.images) (BarsTable s) f → FaultIn s.images s.spares s.home_a f
fault_there s (Pages refusal) cause = cause.1
fault_there s (Broken page) cause = cause

module _ {D E : Type 0} {M : MachineGhosts D} {S : SourceGhosts E} where
  module _ {refusal : Option Refusal} {m : MutBor D} {cache : MutBor CacheValue} {source : E} {free : MutBor (List Bool)} {home_a : ℕ} {a b : Table D E M S} {m' : D} {cache' : CacheValue} {free' : List Bool}
      (over : IsOver m cache source free a) (begins : step_of a ≡ fresh_step (given_by M S source m.now) cache.now free.now home_a)
      (looks : StaysStep (step_of a) (step_of b)) (outside : ReadsOnly refusal a b) (left : LeavesTable b m' cache' free') where
    free_b : b.free.now ≡ free.now
    free_b = looks.spares ∙ ap (λ (f : MutBor (List Bool)). f.now) over.spared

    free_left : free' ≡ free.now
    free_left = left.flags ∙ free_b

    dirty_b : b.cache.now.dirty ≡ cache.now.dirty
    dirty_b = looks.changed ∙ ap (λ (x : MutBor CacheValue). x.now.dirty) over.cached

    -- the images at first, and in the end
    images_first : (step_of a).images ≡ images_by M S source m.now cache.now (length free.now)
    images_first = ap (λ (s : Step). s.images) begins

    images_last : images_by M S source m' cache' (length free.now) ≡ (step_of b).images
    images_last = ap (λ (f : List Bool). images_by M S source m' cache' (length f)) (sym free_left) ∙ images_left over outside left

    within : (page : ℕ) → page < length (step_of b).images → page < length free.now
    within page lt = omega (arith, lt, image_count (newest_bytes b.cache.now (given_by M S b.source.now b.m.now)) (length b.free.now), ap (λ (f : List Bool). length f) free_b)

    -- what was found in the table, where the outside is trusted
    pub found_left : (look : List Entry → Option Entry) (r : Result (Option FoundEntry) TreeFault) → IfOk r (λ found. Trusted b → (height : ℕ) → IsTree (step_of a).images height → found_entry found ≡ look (table_of (step_of a).images height))
        → IfOk r (λ found. IsTrusted M S source m.now cache.now m' → (height : ℕ) → IsTree (images_by M S source m.now cache.now (length free.now)) height → found_entry found ≡ look (table_of (images_by M S source m.now cache.now (length free.now)) height))
    found_left look (Err fault) found = tt
    found_left look (Ok o) found = λ t height. subst (λ (pages : List (List ℕ)). IsTree pages height → found_entry o ≡ look (table_of pages height)) images_first (found (trusted_left over outside left t) height)

    -- pages with what is in the cache in the end have what was in it then
    have_before : (pages : List (List ℕ)) → HavePages cache' (length free.now) pages → HavePages b.cache.now (length free.now) pages
    have_before pages have = record { size = have.size; same = λ page bytes lt is. have.same page bytes lt (left.pins.bytes page ∙ is) }

    agrees : (pages : List (List ℕ)) → HavePages cache' (length free.now) pages → Agrees pages (step_of b)
    agrees pages have = agrees_then m cache source free a b over looks pages (have_before pages have)

    leads : (f : FoundEntry) → StandsIn (step_of b) f → IsLedTo (step_of b) f → (pages : List (List ℕ)) → HavePages cache' (length free.now) pages → LeadsTo pages f
    leads f there way pages have = leads_then m cache source free a b over looks f there way pages (have_before pages have)

    -- an entry that is met is found there
    pub met_left : {Suits Is : Entry → Type 0} → ((e : Entry) → ((pages : List (List ℕ)) → HavePages cache' (length free.now) pages → Agrees pages (step_of b)) → Suits e → Is e)
        → (f : FoundEntry) → IsMetAs (step_of b) Suits f → IsFoundIn cache' (length free.now) Is f
    met_left is f met = record {
      page = within f.page met.there.reached.0;
      entry = met.entry;
      suits = is f.entry agrees met.suits;
      way = leads f met.there met.way;
    }

    -- what is found, or where nothing is, what is in the cache in the end shows why
    pub tells_left : {Lacks : Type 0} {Suits Is : Entry → Type 0} {Absent : List (List ℕ) → Type 0}
        → ((pages : List (List ℕ)) → Agrees pages (step_of b) → Lacks → Absent pages)
        → ((e : Entry) → ((pages : List (List ℕ)) → HavePages cache' (length free.now) pages → Agrees pages (step_of b)) → Suits e → Is e)
        → (r : Result (Option FoundEntry) TreeFault) → IfOk r (λ found. MatchOption found Lacks (IsMetAs (step_of b) Suits))
        → IfOk r (λ found. MatchOption found (IsOfPages cache' (length free.now) Absent) (IsFoundIn cache' (length free.now) Is))
    tells_left lacks is (Err fault) told = tt
    tells_left lacks is (Ok None) told = λ pages have. lacks pages (agrees pages have) told
    tells_left lacks is (Ok (Some f)) told = met_left is f told

    -- ---- what shows that a page breaks

    home_b : (step_of b).home_a ≡ home_a
    home_b = looks.home_a ∙ ap (λ (s : Step). s.home_a) begins

    count_b : length (step_of b).images ≡ length free.now
    count_b = image_count (newest_bytes b.cache.now (given_by M S b.source.now b.m.now)) (length b.free.now) ∙ ap (λ (f : List Bool). length f) free_b

    -- the page was reached, or is dirty
    abbrev was_reached : ℕ → Bool
    was_reached page = among b.reached.items page || among b.cache.now.dirty page

    -- pages with what is in the cache in the end have what was reached, whatever another page has
    agrees_beside : (page : ℕ) (bytes : List ℕ) → was_reached page ≡ false → (pages : List (List ℕ)) → HaveOthers cache' (length free.now) page bytes pages → Agrees pages (step_of b)
    agrees_beside page bytes out pages have = record {
      count = have.size ∙ sym count_b;
      reached = λ q is used.
          let there = in_memory b.cache.now q (reached_there M S b.source.now b.made_over.value b.made_with.value b.m.now b.cache.now b.free.now b.reached.items b.spares.items b.promised b.kept q is.1) in
          let lt : q < length free.now = within q is.0 in
          let lt_b : q < length b.free.now = omega (arith, lt, ap (λ (f : List Bool). length f) free_b) in
          have.same q there.0 lt (other q is.1) (left.pins.bytes q ∙ there.1)
          ∙ sym (image_at (newest_bytes b.cache.now (given_by M S b.source.now b.m.now)) (length b.free.now) q there.0 lt_b (ap (λ (o : Option (List ℕ)). option_or o (given_by M S b.source.now b.m.now q)) there.1));
    }
      where
        other : (q : ℕ) → was_reached q ≡ true → nat_eq q page ≡ false
        other q is = by (nat_eq q page) refl
          where
            by : (x : Bool) → nat_eq q page ≡ x → x ≡ false
            by false e = refl
            by true e = absurd (both_ways (was_reached page) out (subst (λ (n : ℕ). was_reached n ≡ true) (eqb-true q page e) is))

    -- it was reached, and is refused by the grammar
    reached_refused : (page : ℕ) → page < length free.now → is_spare (step_of b).spares page ≡ false → was_reached page ≡ true → page_at (step_of b).images page ≡ None → ShowsEach (step_of b) (λ pages. IsOnWay pages page)
        → (pages : List (List ℕ)) → HavePages cache' (length free.now) pages → BreaksTable pages page
    reached_refused page lt used is none way pages have =
        let agree = agrees pages have in
        refused_breaks pages page (way pages agree) (agrees_at (step_of b) pages page (omega (arith, lt, count_b), is) used agree ∙ none)

    -- so are bytes that it had
    had_refused : (page : ℕ) (bytes : List ℕ) → was_reached page ≡ false → read_page page (length free.now) bytes ≡ None → ShowsEach (step_of b) (λ pages. IsOnWay pages page)
        → (pages : List (List ℕ)) → HaveOthers cache' (length free.now) page bytes pages → BreaksTable pages page
    unfolding page_at
    had_refused page bytes out none way pages have =
        refused_breaks pages page (way pages (agrees_beside page bytes out pages have))
        (ap (λ (n : ℕ). option_and_then (read_page page n) (slice_get pages page)) have.size ∙ ap (λ (o : Option (List ℕ)). option_and_then (read_page page (length free.now)) o) have.here ∙ none)

    -- why it was refused
    was_had : (page : ℕ) → HadRefused M S a.source.now (M.now a.m.now) a.cache.now (length b.free.now) page → (bytes : List ℕ) × Had M S source (M.now m.now) cache.now page bytes × (read_page page (length free.now) bytes ≡ None)
    was_had page had = (
      had.bytes,
      subst (λ (e : E). Had M S e (M.now m.now) cache.now page had.bytes) over.from
          (subst (λ (x : MutBor D). Had M S a.source.now (M.now x.now) cache.now page had.bytes) over.machine
          (subst (λ (x : MutBor CacheValue). Had M S a.source.now (M.now a.m.now) x.now page had.bytes) over.cached had.had)),
      ap (λ (f : List Bool). read_page page (length f) had.bytes) (sym free_b) ∙ had.none,
    )

    abbrev How : ℕ → Type 0
    How page = ((is_spare free.now page ≡ true) × ((pages : List (List ℕ)) → HavePages cache' (length free.now) pages → IsOnWay pages page))
        ⊎ (((pages : List (List ℕ)) → HavePages cache' (length free.now) pages → BreaksTable pages page)
        ⊎ ((bytes : List ℕ) × (page < length free.now) × Had M S source (M.now m.now) cache.now page bytes × ((pages : List (List ℕ)) → HaveOthers cache' (length free.now) page bytes pages → BreaksTable pages page)))

    barred_how : (page : ℕ) → page < length free.now → IsBarred (step_of b) page → ShowsEach (step_of b) (λ pages. IsOnWay pages page)
        → (slice_index_or b.free.now page false ≡ true) ⊎ ((is_among b.cache.now.dirty page ≡ true) ⊎ HadRefused M S a.source.now (M.now a.m.now) a.cache.now (length b.free.now) page)
        → (place : ℕ) → place ≡ home_in home_a page → ShowsPlace M S source (M.now m.now) cache.now cache' free.now home_a place
    barred_how page lt bars way why place home = record { page = page; home = home; how = by (is_spare (step_of b).spares page) refl }
      where
        spared : is_spare (step_of b).spares page ≡ true → is_spare free.now page ≡ true
        spared is = ap (λ (f : List Bool). is_spare f page) (sym free_b) ∙ is

        unread : is_spare (step_of b).spares page ≡ false → IsBarred (step_of b) page → page_at (step_of b).images page ≡ None
        unread used (inl spare) = absurd (both_ways (is_spare (step_of b).spares page) used spare)
        unread used (inr none) = none

        beside : is_spare (step_of b).spares page ≡ false → was_reached page ≡ false
            → (slice_index_or b.free.now page false ≡ true) ⊎ ((is_among b.cache.now.dirty page ≡ true) ⊎ HadRefused M S a.source.now (M.now a.m.now) a.cache.now (length b.free.now) page) → How page
        beside used out (inl free) = absurd (both_ways (is_spare (step_of b).spares page) used free)
        beside used out (inr (inl dirty)) = absurd (both_ways (was_reached page) out (or_right (among b.reached.items page) (among b.cache.now.dirty page) dirty))
        beside used out (inr (inr had)) = let was = was_had page had in inr (inr (was.0, lt, was.1, had_refused page was.0 out was.2 way))

        at : is_spare (step_of b).spares page ≡ false → (x : Bool) → was_reached page ≡ x → How page
        at used true is = inr (inl (reached_refused page lt used is (unread used bars) way))
        at used false out = beside used out why

        by : (x : Bool) → is_spare (step_of b).spares page ≡ x → How page
        by true spare = inl (spared spare, λ pages have. way pages (agrees pages have))
        by false used = at used (was_reached page) refl

    -- the page that is refused is the one that the outside has barred
    same_page : (page other place : ℕ) → page < length b.free.now → other < length b.free.now → place ≡ home_in b.home_a page → place ≡ home_sector (step_of b) other → other ≡ page
    same_page page other place lt lt' is is' = same_home (length b.free.now) b.home_a page other b.kept.small lt lt' (sym is ∙ is')

    refused_place : M.honest m' → (refused : Refusal) → (step_of b).refusal ≡ Some refused → (place : ℕ) → refused ≡ Unsound place
        → IsOuter refused ⊎ ((page : ℕ) × (refused ≡ Unsound (home_sector (step_of b) page)) × IsBarred (step_of b) page × ShowsEach (step_of b) (λ pages. IsOnWay pages page))
        → ShowsPlace M S source (M.now m.now) cache.now cache' free.now home_a place
    refused_place honest refused told place is (inl outer) = absurd (cc (subst IsOuter is outer))
    refused_place honest refused told place is (inr x) = by (outside.barred (subst M.honest left.machine honest) place (told ∙ ap (λ (r : Refusal). Some r) is))
      where
        place_is : place ≡ home_sector (step_of b) x.0
        place_is = cc (is, x.1)

        by : (a.refusal ≡ Some (Unsound place)) ⊎ BarsPlace a b place → ShowsPlace M S source (M.now m.now) cache.now cache' free.now home_a place
        by (inl was) = absurd (cc (was, ap (λ (s : Step). s.refusal) begins))
        by (inr bars) =
            let lt : x.0 < length b.free.now = omega (arith, way_within (step_of b).images (omega (arith, bars.within, count_b, ap (λ (f : List Bool). length f) free_b)) x.0 (x.3 (step_of b).images (agrees_now (step_of b))), count_b, ap (λ (f : List Bool). length f) free_b) in
            let same : x.0 ≡ bars.page = same_page bars.page x.0 place bars.within lt bars.home place_is in
            barred_how x.0 (omega (arith, lt, ap (λ (f : List Bool). length f) free_b)) x.2 x.3
            (subst (λ (page : ℕ). (slice_index_or b.free.now page false ≡ true) ⊎ ((is_among b.cache.now.dirty page ≡ true) ⊎ HadRefused M S a.source.now (M.now a.m.now) a.cache.now (length b.free.now) page)) (sym same) bars.why)
            place (place_is ∙ ap (λ (h : ℕ). home_in h x.0) home_b)

    pub shows_fault : (f : TreeFault) → HasTreeCause (step_of b) (BreaksTable (step_of b).images) (BarsTable (step_of b)) f → ShowsCause (step_of b) BreaksTable IsOnWay f → ShowsFault M S source m.now m' cache.now cache' free.now home_a f
    shows_fault (Broken page) cause shown = λ honest place is. record { page = page; home = home_named home_a page place is; how = inr (inl (λ pages have. shown pages (agrees pages have))) }
    shows_fault (Pages refused) cause shown = λ honest place is. refused_place honest refused cause.0 place is shown

    pub fails_left : {T : Type 0} → (r : Result T TreeFault) → IfErr r (HasTreeCause (step_of b) (BreaksTable (step_of b).images) (BarsTable (step_of b)))
        → IfErr r (ShowsCause (step_of b) BreaksTable IsOnWay) → IfErr r (FailsToFind M S source m.now m' cache.now cache' free.now home_a)
    fails_left (Ok x) cause shown = tt
    fails_left (Err f) cause shown = record {
      cause = record {
        cause = subst (λ (images : List (List ℕ)). FaultIn images free.now home_a f) (sym images_last)
            (subst (λ (flags : List Bool). FaultIn (step_of b).images flags home_a f) free_b
            (subst (λ (h : ℕ). FaultIn (step_of b).images (step_of b).spares h f) home_b (fault_there (step_of b) f cause)));
      };
      shown = shows_fault f cause shown;
    }

    pub looks_left : (Trusted b → (step_of b).images ≡ (step_of a).images) → LooksOnly M S source refusal m.now m' cache.now cache' free.now
    looks_left stays = record {
      reads = reads_left over outside left;
      loses = loses_left over outside left;
      fills = fills_left over outside left;
      ready = subst (λ (f : List Bool). IsReady M S m' cache' source f) free_left (ready_left over outside left);
      dirty = left.pins.dirty ∙ dirty_b;
      kept = λ page lt waits. left.pins.bytes page ∙ kept_then m cache source free a b over looks page lt waits;
      clean = clean_left over outside left;
      stays = λ t. images_last ∙ stays (trusted_left over outside left t) ∙ images_first;
    }
