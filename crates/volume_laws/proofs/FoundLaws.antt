-- What a look-up has found, as the pages that were read show it.
use Rattle.std.proofs.Common.{◌≡◌, ℕ, Bool, true, false, cond, ◌||◌, List, length, Option, Some, None, Result, Ok, Err, refl, sym, subst}
use Rattle.std.specs.Prelude.{IfOk, IfSome}
use Rattle.std.specs.List.{AllByRecursion}
use Rattle.std.proofs.lemmas.Bool.{or_left, or_right}
use Rattle.volume_layout.specs.Layout.{home_a}
use Rattle.run_table.specs.declared.run.Run.{Run}
use Rattle.sector_disk.specs.declared.machine.Machine.{Ghosts as MachineGhosts}
use Rattle.sector_disk.specs.Calls.{OnlyReads}
use Rattle.sector_disk.specs.Image.{IsWorn, open_damage}
use Rattle.sector_disk.specs.Machine.{Wears}
use Rattle.sector_disk.proofs.Wear.{worn_more}
use Rattle.fsd_bytes.specs.declared.key.Key.{Key}
use Rattle.fsd_bytes.specs.declared.refusal.Refusal.{Refusal}
use Rattle.fsd_bytes.specs.declared.refusal.Refusal.TheVariants as Why
use Rattle.fsd_formats.specs.declared.entry.Entry.{Entry}
use Rattle.fsd_files.specs.Disk.{Image, Sectors}
use Rattle.fsd_files.specs.Files.{File}
use Rattle.fsd_files.specs.Kept.{IsWhole as IsSectorWhole, KeptIn, data_sectors, range_sectors, filled_slices}
use Rattle.fsd_files.proofs.KeptLaws.{kept_in_worn}
use Rattle.log_thirds.specs.LogValue.{LogValue}
use Rattle.group_commit.specs.contracts.newest.NewestPageSource.TheImpl as by_log
use Rattle.page_cache.specs.Cache.{CacheValue}
use Rattle.name_btree.specs.declared.fault.TreeFault.{TreeFault}
use Rattle.name_btree.specs.declared.lookup.FoundEntry.{FoundEntry}
use Rattle.name_btree.specs.Fault.{outer_told}
use Rattle.fsd_table.specs.Reached.{ReachesPage, HasEntry}
use Rattle.volume_contract.specs.Found.{ShowsReached, HasRange}
use Rattle.volume_contract.specs.Causes.{IsTaken, ShowsOfPages}
use Rattle.volume_contract.specs.Ends.{ReadsRange, count_in, found_one}
use Rattle.volume_contract.specs.State.{State}
use Rattle.cached_table.specs.Looking.{HavePages, LeadsTo, LooksOnly, told_from}
use Rattle.volume_laws.specs.Meeting.{met_found}
use Rattle.volume_laws.specs.State.{resident, state}
use Rattle.volume_laws.specs.Taken.{are_taken, met_entry}
use Rattle.volume_laws.specs.Volume.{IsWholeVolume, VolumeValue}
use Rattle.volume_laws.proofs.BehindLaws.{shows_after}
use Rattle.volume_laws.proofs.RangeLaws.{met_good, reads_found, whole_before}
use Rattle.volume_laws.proofs.NewVersionLaws.{zip_wider}
use Rattle.volume_laws.proofs.ReadLaws.{shows_now}

-- ---- what is found

module _ {D : Type 0} (M : MachineGhosts D) (m m' : D) (v w : VolumeValue) (is : v ≡ w) (whole : IsWholeVolume v) (c : CacheValue) (log : LogValue) (of_log : log ≡ v.log) (new : State) (home_a : ℕ) where
  -- what the pages in memory show of it, those that were read do
  pub found_by : (Is : FoundEntry → List (List ℕ) → Type 0) (r : Result (Option FoundEntry) TreeFault) (result : Result (Option FoundEntry) Refusal) → result ≡ told_from home_a r → LooksOnly M by_log.ghosts log (outer_told r) m m' v.cache c v.free_pages
      → IfOk r (λ found. IfSome found (λ f. (pages : List (List ℕ)) → HavePages c (length v.free_pages) pages → Is f pages))
      → IfOk result (λ found. IfSome found (λ f. M.honest m' → ShowsOfPages (state w) new (resident w) (M.now m) (M.now m') (Is f)))
  found_by Is r result told_is looks shown =
      subst (λ (x : Result (Option FoundEntry) Refusal). IfOk x (λ found. IfSome found (λ f. M.honest m' → ShowsOfPages (state w) new (resident w) (M.now m) (M.now m') (Is f)))) (sym told_is) (by r looks shown)
    where
      by : (r : Result (Option FoundEntry) TreeFault) → LooksOnly M by_log.ghosts log (outer_told r) m m' v.cache c v.free_pages → IfOk r (λ found. IfSome found (λ f. (pages : List (List ℕ)) → HavePages c (length v.free_pages) pages → Is f pages))
          → IfOk (told_from home_a r) (λ found. IfSome found (λ f. M.honest m' → ShowsOfPages (state w) new (resident w) (M.now m) (M.now m') (Is f)))
      by (Err fault) looks shown = tt
      by (Ok None) looks shown = tt
      by (Ok (Some f)) looks shown = λ honest.
          subst (λ (x : VolumeValue). ShowsOfPages (state x) new (resident x) (M.now m) (M.now m') (Is f)) is
          (shows_now M m m' v whole c None (subst (λ (l : LogValue). LooksOnly M by_log.ghosts l None m m' v.cache c v.free_pages) of_log looks) honest new (Is f) shown)

  -- a path reaches its leaf
  pub leaf_by : (r : Result (Option FoundEntry) TreeFault) (result : Result (Option FoundEntry) Refusal) → result ≡ told_from home_a r → LooksOnly M by_log.ghosts log (outer_told r) m m' v.cache c v.free_pages
      → IfOk r (λ found. IfSome found (λ f. (pages : List (List ℕ)) → HavePages c (length v.free_pages) pages → LeadsTo pages f))
      → IfOk result (λ found. IfSome found (λ f. ShowsReached M (resident w) (state w) new m m' (HasEntry f.entry)))
  leaf_by r result told_is looks way = found_by (λ f. ReachesPage (HasEntry f.entry)) r result told_is looks (by r way)
    where
      by : (r : Result (Option FoundEntry) TreeFault) → IfOk r (λ found. IfSome found (λ f. (pages : List (List ℕ)) → HavePages c (length v.free_pages) pages → LeadsTo pages f))
          → IfOk r (λ found. IfSome found (λ f. (pages : List (List ℕ)) → HavePages c (length v.free_pages) pages → ReachesPage (HasEntry f.entry) pages))
      by (Err fault) way = tt
      by (Ok None) way = tt
      by (Ok (Some f)) way = λ pages have. let led = way pages have in (led.0, led.1, record { there = led.3; fits = led.4 })

-- what holds of what was found holds of what is met
module _ (P : Entry → Type 0) (v : VolumeValue) where
  pub found_met : (found : Option FoundEntry) (f : FoundEntry) → found ≡ Some f → IfSome found (λ x. P x.entry) → (r : Result Entry Refusal) → r ≡ met_entry v f.page f.entry → IfOk r P
  found_met found f is there r met =
      let here : P f.entry = subst (λ (o : Option FoundEntry). IfSome o (λ x. P x.entry)) is there in
      subst (λ (x : Result Entry Refusal). IfOk x P) (sym met) (met_good P v f.page f.entry (λ taken. here))

  pub one_met : (found : Option FoundEntry) → IfSome found (λ f. P f.entry) → IfOk (met_found v found) (λ o. IfSome o P)
  one_met None there = tt
  one_met (Some f) there = by (are_taken v f.entry.runs)
    where
      by : (b : Bool) → IfOk (found_one (cond b (Ok f.entry) (Err (Why.Unsound (home_a v.layout f.page))))) (λ o. IfSome o P)
      by true = there
      by false = tt

-- ---- the range of a version

-- what sectors keep is kept as they are worn
kept_later : (may hurt : Sectors) (i j : Image) → IsWorn may i j → (bytes : List ℕ) (runs : List Run) → KeptIn i hurt bytes runs → KeptIn j (λ s. hurt s || may s) bytes runs
kept_later may hurt i j worn bytes runs kept =
    let more : Sectors = λ s. hurt s || may s in
    kept_in_worn more i j bytes runs (λ s there. (worn_more may more i j (λ t h. or_right (hurt t) (may t) h) worn).each s)
    (zip_wider hurt more i (filled_slices bytes) (data_sectors runs) (λ s h. or_left (hurt s) (may s) h) kept)

module _ {D : Type 0} (M : MachineGhosts D) (resident : ℕ → Option (List ℕ)) (old new : State) (m mid m' : D) (key : Key) (e : Entry) (from : ℕ) (buf left : List ℕ) where
  -- so many bytes of the entry are read, whose leaf is reached
  pub range_found : (fault : Option ℕ) → e.key ≡ key → IsTaken new e → ShowsReached M resident old new m mid (HasEntry e) → (M.honest mid → Wears (M.now m) (M.now mid)) → OnlyReads M fault mid m' → (r : Result ℕ Refusal)
      → IfOk r (λ n. n ≡ count_in e.length from (length buf)) → IfOk r (λ n. M.honest m' → AllByRecursion (IsSectorWhole (M.now mid).image) (range_sectors e.runs from n))
      → (M.honest m' → (file : File) (hurt : Sectors) → e.length ≡ length file.bytes → KeptIn (M.now mid).image hurt file.bytes e.runs → ReadsRange (M.now mid).image (M.now m').image (Some file) (Some e) from buf left r)
      → IfOk r (λ n. ShowsReached M resident old new m m' (HasRange new (M.now m).image key from buf left n))
  range_found fault same taken there wears reads (Err why) count whole gives = tt
  range_found fault same taken there wears reads (Ok n) count whole gives = λ honest.
      let back = reads.trust.honest honest in
      let may = open_damage (M.now m).windows in
      let i = (M.now m).image in
      let seen = (M.now mid).image in
      let j = (M.now m').image in
      let worn = (wears back).image in
      let range : (v : _) → HasEntry e v → HasRange new i key from buf left n v = λ v has. record {
        entry = e;
        there = has;
        key_is = same;
        taken = taken;
        range = record {
          count = count;
          whole = whole_before may i seen j worn (range_sectors e.runs from n) (whole honest);
          gives = λ file hurt len kept. reads_found may i seen j worn (λ s. hurt s || may s) (Some file) (Some e) e from buf left (Ok n) refl (len, kept_later may hurt i seen worn file.bytes e.runs kept) (λ f l k. gives honest f (λ s. hurt s || may s) l k);
        };
      } in
      shows_after old new new (M.now m) (M.now mid) (M.now m') refl refl (reads.worn honest) resident _ _ (λ pages led. (led.0, led.1, range led.0 led.2)) (there back)
