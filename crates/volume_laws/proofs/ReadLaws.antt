-- What a look-up has read of a volume's table, and what that shows.
use Rattle.std.proofs.Common.{◌≡◌, ◌⊎◌, inl, inr, ℕ, ◌<◌, Bool, true, false, cond, nat_lt, List, [], length, Option, Some, None, Result, Ok, Err, refl, sym, ap, subst, ◌∙◌, arith}
use Rattle.std.specs.Prelude.{IfOk, IfSome, IfNone, Contains, IfErr, nat_eq, slice_get, slice_index_or}
use Rattle.std.proofs.lemmas.Bool.{lt-ltb, ltb-true, eq-eqb, eqb-true}
use Rattle.std.proofs.lemmas.Option.{slice_get-get_or}
use Rattle.std.proofs.Math.Nat.{mod-eq_of_lt}
use Rattle.volume_layout.specs.declared.layout.Layout.{Layout}
use Rattle.volume_layout.specs.Layout.{home_a, home_b}
use Rattle.volume_layout.proofs.RootLaws.{planned_bounds}
use Rattle.run_table.specs.Space.{contains}
use Rattle.sector_set.proofs.FreeLaws.{contains_where}
use Rattle.sector_disk.specs.declared.machine.Machine.{Ghosts as MachineGhosts}
use Rattle.sector_disk.specs.Machine.{Moment}
use Rattle.fsd_bytes.specs.declared.refusal.Refusal.{Refusal}
use Rattle.fsd_bytes.specs.declared.refusal.Refusal.TheVariants as Why
use Rattle.fsd_table.specs.Table.{BreaksTable, Visit, visits}
use Rattle.fsd_files.specs.Disk.{Image}
use Rattle.fsd_sound.specs.Mounted.{image_at}
use Rattle.log_thirds.specs.LogValue.{LogValue}
use Rattle.group_commit.specs.Newest.{StandsAtHome, StandsByLog as StandsBy}
use Rattle.group_commit.specs.contracts.newest.NewestPageSource.TheImpl as by_log
use Rattle.page_cache.specs.Cache.{CacheValue, cached_bytes, is_among}
use Rattle.name_btree.specs.declared.fault.TreeFault.{TreeFault}
use Rattle.name_btree.specs.declared.lookup.FoundEntry.{FoundEntry}
use Rattle.name_page.specs.Pages.{is_spare}
use Rattle.name_btree.specs.Fault.{IsOnWay, outer_told}
use Rattle.table_pages.specs.Bringing.{home_in}
use Rattle.table_pages.specs.Reads.{StoodWhole}
use Rattle.volume_contract.specs.Causes.{BreaksMounted, HaveRead, IsRead, ShowsOfPages, ShowsBreak, StandsInCopy, StoodInCopy}
use Rattle.volume_contract.specs.State.{State}
use Rattle.cached_table.specs.Looking.{Had, HaveOthers, HavePages, LeadsTo, LooksOnly, ShowsFault, ShowsPlace, refusal_in, told_from}
use Rattle.volume_laws.specs.Behind.{IsBehind}
use Rattle.volume_laws.specs.Meeting.{ShowsEntry}
use Rattle.volume_laws.specs.State.{resident, spare_pages, state}
use Rattle.volume_laws.specs.Taken.{are_taken}
use Rattle.volume_laws.specs.Volume.{IsWholeVolume, VolumeValue}
use Rattle.volume_laws.proofs.TakenLaws.{untaken_breaks}
use Rattle.cached_table.proofs.VisitLaws.{visit_within}

-- ---- what was read

-- what stands in a copy by the log stands there by what the volume tells
stands_told : (v : VolumeValue) → IsWholeVolume v → (page : ℕ) (i : Image) (bytes : List ℕ) → StandsBy v.log page i bytes → StandsInCopy (state v) i page bytes
stands_told v whole page i bytes (inl s) = record { a = s.a; b = s.b; copies = inl s.lies; whole = s.stands }
stands_told v whole page i bytes (inr (none, stands)) =
    record { a = home_a v.layout page; b = home_b v.layout page; copies = inr (none, record { first = refl; second = refl }); whole = subst (λ (l : Layout). StandsAtHome l page i bytes) whole.log stands }

-- a path reaches pages of the table alone
reached_within : (v : VolumeValue) → IsWholeVolume v → (pages : List (List ℕ)) → length pages ≡ v.layout.pages → (visit : Visit) → Contains (visits pages) visit → visit.page < v.layout.pages
reached_within v whole pages size visit has =
    let lt : visit.page < length pages = visit_within pages (omega (arith, size, (planned_bounds v.layout whole.planned).pages_least)) visit has in
    omega (arith, lt, size)

module _ {D : Type 0} (M : MachineGhosts D) (m m' : D) (v : VolumeValue) (whole : IsWholeVolume v) (c : CacheValue) (refusal : Option Refusal) (looks : LooksOnly M by_log.ghosts v.log refusal m m' v.cache c v.free_pages) (honest : M.honest m') (new : State) where
  pub stood_there : (page : ℕ) (bytes : List ℕ) → StoodWhole M by_log.ghosts v.log (M.now m) page bytes → StoodInCopy (state v) new (M.now m) (M.now m') page bytes
  stood_there page bytes s = (s.image, inl (s.worn, stands_told v whole page s.image bytes s.stands))

  is_read : (page : ℕ) (bytes : List ℕ) → page < v.layout.pages → cached_bytes c page ≡ Some bytes → IsRead (state v) new (resident v) (M.now m) (M.now m') page bytes
  is_read page bytes lt is = record { within = lt; source = by (is_among c.dirty page) refl }
    where
      by : (b : Bool) → is_among c.dirty page ≡ b → (cached_bytes v.cache page ≡ Some bytes) ⊎ StoodInCopy (state v) new (M.now m) (M.now m') page bytes
      by true waits = inl (sym (looks.kept page (omega (arith, lt, whole.pages)) (ap (λ (d : List ℕ). is_among d page) (sym looks.dirty) ∙ waits)) ∙ is)
      by false rests = elim (looks.fills.stood honest page bytes rests is) [
        | inl had ↦ inl had
        | inr stood ↦ inr (stood_there page bytes stood)
      ]

  -- the pages of the table that are in memory now
  abbrev read_now : ℕ → Option (List ℕ)
  read_now page = cond (nat_lt page v.layout.pages) (cached_bytes c page) None

  all_read : (page : ℕ) → IfSome (read_now page) (IsRead (state v) new (resident v) (M.now m) (M.now m') page)
  all_read page = by (nat_lt page v.layout.pages) refl (cached_bytes c page) refl
    where
      by : (b : Bool) → nat_lt page v.layout.pages ≡ b → (o : Option (List ℕ)) → cached_bytes c page ≡ o → IfSome (cond b o None) (IsRead (state v) new (resident v) (M.now m) (M.now m') page)
      by false past o is = tt
      by true lt None is = tt
      by true lt (Some bytes) is = is_read page bytes (ltb-true page v.layout.pages lt) is

  -- pages that have what was read have what the cache has
  was_read : (page : ℕ) (bytes : List ℕ) → page < v.layout.pages → cached_bytes c page ≡ Some bytes → read_now page ≡ Some bytes
  was_read page bytes lt is = ap (λ (b : Bool). cond b (cached_bytes c page) None) (lt-ltb page v.layout.pages lt) ∙ is

  pub have_one : (read : ℕ → Option (List ℕ)) (pages : List (List ℕ)) → HaveRead (state v) read pages → (page : ℕ) (bytes : List ℕ) → page < v.layout.pages → read page ≡ Some bytes → slice_get pages page ≡ Some bytes
  have_one read pages have page bytes lt is =
      let here : image_at pages page ≡ bytes = subst (λ (o : Option (List ℕ)). IfSome o (λ x. image_at pages page ≡ x)) is (have.same page) in
      slice_get-get_or pages page [] (omega (arith, lt, have.size)) ∙ ap (λ (x : List ℕ). Some x) here

  have_pages : (pages : List (List ℕ)) → HaveRead (state v) read_now pages → HavePages c (length v.free_pages) pages
  have_pages pages have = record {
    size = have.size ∙ sym whole.pages;
    same = λ page bytes lt is.
        let within : page < v.layout.pages = omega (arith, lt, whole.pages) in
        have_one read_now pages have page bytes within (was_read page bytes within is);
  }

  -- what the pages in memory show is shown by what was read
  pub shows_now : (Is : List (List ℕ) → Type 0) → ((pages : List (List ℕ)) → HavePages c (length v.free_pages) pages → Is pages) → ShowsOfPages (state v) new (resident v) (M.now m) (M.now m') Is
  shows_now Is is = record { read = read_now; are_read = all_read; is = λ pages have. is pages (have_pages pages have) }

  -- an entry that is found
  shows_found : (home_a : ℕ) (r : Result (Option FoundEntry) TreeFault) (result : Result (Option FoundEntry) Refusal) → result ≡ told_from home_a r
      → IfOk r (λ found. IfSome found (λ f. (pages : List (List ℕ)) → HavePages c (length v.free_pages) pages → LeadsTo pages f))
      → IfOk result (λ found. IfSome found (ShowsEntry (state v) new (resident v) (M.now m) (M.now m')))
  shows_found home_a r result is way = subst (λ (x : Result (Option FoundEntry) Refusal). IfOk x (λ found. IfSome found (ShowsEntry (state v) new (resident v) (M.now m) (M.now m')))) (sym is) (by r way)
    where
      by : (r : Result (Option FoundEntry) TreeFault) → IfOk r (λ found. IfSome found (λ f. (pages : List (List ℕ)) → HavePages c (length v.free_pages) pages → LeadsTo pages f))
          → IfOk (told_from home_a r) (λ found. IfSome found (ShowsEntry (state v) new (resident v) (M.now m) (M.now m')))
      by (Err fault) way = tt
      by (Ok None) way = tt
      by (Ok (Some f)) way = shows_now (λ pages. LeadsTo pages f) way

  -- ---- a place that is told as unsound

  module _ (home place : ℕ) (first : home ≡ home_a v.layout 0) (shows : ShowsPlace M by_log.ghosts v.log (M.now m) v.cache c v.free_pages home place) where
    home_told : (page : ℕ) → page < v.layout.pages → home_in home page ≡ home_a v.layout page
    home_told page lt =
        let bounds = planned_bounds v.layout whole.planned in
        mod-eq_of_lt (omega (arith, first, lt, bounds.pages_most, bounds.third_most)) ∙ omega (arith, first)

    -- the home of a page that a path reaches
    visit_home : (visit : Visit) → visit.page < v.layout.pages → visit.page ≡ shows.page → place ≡ home_a v.layout visit.page
    visit_home visit within at = shows.home ∙ ap (home_in home) (sym at) ∙ home_told visit.page within

    broken : (pages : List (List ℕ)) → length pages ≡ v.layout.pages → BreaksTable pages shows.page → BreaksMounted (state v) pages place
    broken pages size breaks =
        let within = reached_within v whole pages size breaks.visit breaks.reached in
        record {
          visit = breaks.visit;
          reached = breaks.reached;
          within = within;
          home = visit_home breaks.visit within breaks.page_is;
          how = inl (inl (subst (BreaksTable pages) (sym breaks.page_is) breaks));
        }

    listed : (page : ℕ) → page < length v.free_pages → is_spare v.free_pages page ≡ true → contains (spare_pages v) page ≡ true
    listed page lt spare = contains_where (λ p. slice_index_or v.free_pages p false) 0 (length v.free_pages) page (omega arith) lt ∙ spare

    freed : (pages : List (List ℕ)) → length pages ≡ v.layout.pages → is_spare v.free_pages shows.page ≡ true → IsOnWay pages shows.page → BreaksMounted (state v) pages place
    freed pages size spare way =
        let within = reached_within v whole pages size way.0 way.1 in
        record {
          visit = way.0;
          reached = way.1;
          within = within;
          home = visit_home way.0 within way.2;
          how = inr (inl (listed way.0.page (omega (arith, within, whole.pages)) (ap (is_spare v.free_pages) way.2 ∙ spare)));
        }

    -- what was read, with bytes that the page had
    module _ (bytes : List ℕ) (within : shows.page < length v.free_pages) (had : Had M by_log.ghosts v.log (M.now m) v.cache shows.page bytes) where
      inside : shows.page < v.layout.pages
      inside = omega (arith, within, whole.pages)

      abbrev read_with : ℕ → Option (List ℕ)
      read_with page = cond (nat_eq page shows.page) (Some bytes) (read_now page)

      had_read : IsRead (state v) new (resident v) (M.now m) (M.now m') shows.page bytes
      had_read = record {
        within = inside;
        source = elim had [
          | inl was ↦ inl was
          | inr stood ↦ inr (stood_there shows.page bytes stood)
        ];
      }

      all_with : (page : ℕ) → IfSome (read_with page) (IsRead (state v) new (resident v) (M.now m) (M.now m') page)
      all_with page = by (nat_eq page shows.page) refl
        where
          by : (b : Bool) → nat_eq page shows.page ≡ b → IfSome (cond b (Some bytes) (read_now page)) (IsRead (state v) new (resident v) (M.now m) (M.now m') page)
          by true is = subst (λ (p : ℕ). IsRead (state v) new (resident v) (M.now m) (M.now m') p bytes) (sym (eqb-true page shows.page is)) had_read
          by false is = all_read page

      have_others : (pages : List (List ℕ)) → HaveRead (state v) read_with pages → HaveOthers c (length v.free_pages) shows.page bytes pages
      have_others pages have = record {
        size = have.size ∙ sym whole.pages;
        here = have_one read_with pages have shows.page bytes inside (ap (λ (b : Bool). cond b (Some bytes) (read_now shows.page)) (eq-eqb shows.page shows.page refl));
        same = λ page x lt other is.
            let there : page < v.layout.pages = omega (arith, lt, whole.pages) in
            have_one read_with pages have page x there (ap (λ (b : Bool). cond b (Some bytes) (read_now page)) other ∙ was_read page x there is);
      }

    pub unsound_shown : ShowsBreak (state v) new (resident v) (M.now m) (M.now m') place
    unsound_shown = elim shows.how [
      | inl free ↦ record { read = read_now; are_read = all_read; is = λ pages have. freed pages have.size free.0 (free.1 pages (have_pages pages have)) }
      | inr other ↦ elim other [
        | inl breaks ↦ record { read = read_now; are_read = all_read; is = λ pages have. broken pages have.size (breaks pages (have_pages pages have)) }
        | inr x ↦ record { read = read_with x.0 x.1 x.2; are_read = all_with x.0 x.1 x.2; is = λ pages have. broken pages have.size (x.3 pages (have_others x.0 x.1 x.2 pages have)) }
      ]
    ]

  unsound_found : (home : ℕ) → home ≡ home_a v.layout 0 → (r : Result (Option FoundEntry) TreeFault) (place : ℕ) → told_from home r ≡ Err (Why.Unsound place)
      → IfErr r (ShowsFault M by_log.ghosts v.log m m' v.cache c v.free_pages home) → ShowsBreak (state v) new (resident v) (M.now m) (M.now m') place
  unsound_found home first (Ok found) place is shown = absurd (cc is)
  unsound_found home first (Err f) place is shown = let same : refusal_in home f ≡ Why.Unsound place = cc is in unsound_shown home place first (shown honest place same)

-- so it is by the parts of a volume
pub unsound_by : {D : Type 0} (M : MachineGhosts D) (m m' : D) (v w : VolumeValue) → v ≡ w → IsWholeVolume v → (c : CacheValue) (log : LogValue) → log ≡ v.log → (new : State) (home : ℕ) → home ≡ home_a v.layout 0 → (r : Result (Option FoundEntry) TreeFault)
    (result : Result (Option FoundEntry) Refusal) → result ≡ told_from home r → LooksOnly M by_log.ghosts log (outer_told r) m m' v.cache c v.free_pages → IfErr r (ShowsFault M by_log.ghosts log m m' v.cache c v.free_pages home)
    → (place : ℕ) → result ≡ Err (Why.Unsound place) → M.honest m' → ShowsBreak (state w) new (resident w) (M.now m) (M.now m') place
unsound_by M m m' v w is whole c log of_log new home first r result told_is looks shown place told_so honest =
    subst (λ (x : VolumeValue). ShowsBreak (state x) new (resident x) (M.now m) (M.now m') place) is
    (unsound_found M m m' v whole c (outer_told r) (subst (λ (l : LogValue). LooksOnly M by_log.ghosts l (outer_told r) m m' v.cache c v.free_pages) of_log looks) honest new home first r place (sym told_is ∙ told_so)
    (subst (λ (l : LogValue). IfErr r (ShowsFault M by_log.ghosts l m m' v.cache c v.free_pages home)) of_log shown))

-- what is in memory behind a look-up was there before, or stood in a copy
pub looked_behind : {D : Type 0} (M : MachineGhosts D) (m m' : D) (v w : VolumeValue) → v ≡ w → IsWholeVolume v → (c : CacheValue) (free : List Bool) → free ≡ v.free_pages → (log : LogValue) → log ≡ v.log → (refusal : Option Refusal)
    → LooksOnly M by_log.ghosts log refusal m m' v.cache c v.free_pages → M.honest m'
    → IsBehind (state w) (state (record v { cache = c; free_pages = free })) (resident w) (resident (record v { cache = c; free_pages = free })) (M.now m) (M.now m')
looked_behind M m m' v w is whole c free same log of_log refusal looks honest =
    let left : VolumeValue = record v { cache = c; free_pages = free } in
    let here = subst (λ (l : LogValue). LooksOnly M by_log.ghosts l refusal m m' v.cache c v.free_pages) of_log looks in
    subst (λ (x : VolumeValue). IsBehind (state x) (state left) (resident x) (resident left) (M.now m) (M.now m')) is
    (record {
      layout = refl;
      free_pages = ap (λ (flags : List Bool). spare_pages (record v { free_pages = flags })) same;
      pages = λ page bytes lt there. (is_read M m m' v whole c refusal here honest (state left) page bytes lt there).source;
      untaken = λ e untaken. untaken;
    })

-- an entry that is met, and whose sectors aren't taken
pub untaken_by : (v w : VolumeValue) → v ≡ w → IsWholeVolume v → (before now : Moment) (new : State) (f : FoundEntry) → ShowsEntry (state w) new (resident w) before now f → are_taken w f.entry.runs ≡ false
    → ShowsBreak (state w) new (resident w) before now (home_a w.layout f.page)
untaken_by v w is whole before now new f shows untaken = record { read = shows.read; are_read = shows.are_read; is = breaks }
  where
    breaks : (pages : List (List ℕ)) → HaveRead (state w) shows.read pages → BreaksMounted (state w) pages (home_a w.layout f.page)
    breaks pages have =
        let led = shows.is pages have in
        record {
          visit = led.0;
          reached = led.1;
          within = reached_within w (subst IsWholeVolume is whole) pages have.size led.0 led.1;
          home = ap (home_a w.layout) (sym led.2);
          how = elim (untaken_breaks w (subst IsWholeVolume is whole) pages led.0 led.1 f.entry led.3 untaken) [
            | inl broken ↦ inl broken
            | inr taken ↦ inr (inr (f.entry, led.3, taken))
          ];
        }

-- the same by the parts of a volume
pub shows_by : {D : Type 0} (M : MachineGhosts D) (m m' : D) (v w : VolumeValue) → v ≡ w → IsWholeVolume v → (c : CacheValue) (log : LogValue) → log ≡ v.log → (new : State) (home_a : ℕ) (r : Result (Option FoundEntry) TreeFault)
    (result : Result (Option FoundEntry) Refusal) → result ≡ told_from home_a r → LooksOnly M by_log.ghosts log (outer_told r) m m' v.cache c v.free_pages → M.honest m'
    → IfOk r (λ found. IfSome found (λ f. (pages : List (List ℕ)) → HavePages c (length v.free_pages) pages → LeadsTo pages f))
    → IfOk result (λ found. IfSome found (ShowsEntry (state w) new (resident w) (M.now m) (M.now m')))
shows_by M m m' v w is whole c log of_log new home_a r result told_is looks honest way =
    subst (λ (x : VolumeValue). IfOk result (λ found. IfSome found (ShowsEntry (state x) new (resident x) (M.now m) (M.now m')))) is
    (shows_found M m m' v whole c (outer_told r) (subst (λ (l : LogValue). LooksOnly M by_log.ghosts l (outer_told r) m m' v.cache c v.free_pages) of_log looks) honest new home_a r result told_is way)

-- where nothing is found, what was read shows why
pub absent_by : {D : Type 0} (M : MachineGhosts D) (m m' : D) (v w : VolumeValue) → v ≡ w → IsWholeVolume v → (c : CacheValue) (log : LogValue) → log ≡ v.log → (new : State) (home_a : ℕ) (Is : List (List ℕ) → Type 0) (r : Result (Option FoundEntry) TreeFault)
    (result : Result (Option FoundEntry) Refusal) → result ≡ told_from home_a r → LooksOnly M by_log.ghosts log (outer_told r) m m' v.cache c v.free_pages
    → IfOk r (λ found. IfNone found ((pages : List (List ℕ)) → HavePages c (length v.free_pages) pages → Is pages))
    → IfOk result (λ found. IfNone found (M.honest m' → ShowsOfPages (state w) new (resident w) (M.now m) (M.now m') Is))
absent_by M m m' v w is whole c log of_log new home_a Is r result told_is looks absent =
    subst (λ (x : Result (Option FoundEntry) Refusal). IfOk x (λ found. IfNone found (M.honest m' → ShowsOfPages (state w) new (resident w) (M.now m) (M.now m') Is))) (sym told_is) (by r looks absent)
  where
    by : (r : Result (Option FoundEntry) TreeFault) → LooksOnly M by_log.ghosts log (outer_told r) m m' v.cache c v.free_pages → IfOk r (λ found. IfNone found ((pages : List (List ℕ)) → HavePages c (length v.free_pages) pages → Is pages))
        → IfOk (told_from home_a r) (λ found. IfNone found (M.honest m' → ShowsOfPages (state w) new (resident w) (M.now m) (M.now m') Is))
    by (Err fault) looks absent = tt
    by (Ok (Some f)) looks absent = tt
    by (Ok None) looks absent = λ honest.
        subst (λ (x : VolumeValue). ShowsOfPages (state x) new (resident x) (M.now m) (M.now m') Is) is
        (shows_now M m m' v whole c None (subst (λ (l : LogValue). LooksOnly M by_log.ghosts l None m m' v.cache c v.free_pages) of_log looks) honest new Is absent)
