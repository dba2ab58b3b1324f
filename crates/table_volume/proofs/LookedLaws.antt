-- What a volume says of a look-up in its table.
use Rattle.std.proofs.Common.{◌≡◌, ◌∙◌, inl, inr, ℕ, ◌<◌, Bool, true, List, length, Option, Result, Ok, Err, refl, sym, ap, subst}
use Rattle.std.specs.Prelude.{IfErr, IfOk, IfSome}
use Rattle.std.specs.Option.{MatchOption}
use Rattle.volume_layout.specs.Layout.{home_a as home_of}
use Rattle.fsd_bytes.specs.declared.refusal.Refusal.{Refusal}
use Rattle.fsd_formats.specs.declared.entry.Entry.{Entry}
use Rattle.fsd_formats.specs.NamePage.{is_entry}
use Rattle.sector_disk.specs.declared.machine.Machine.{Ghosts as MachineGhosts}
use Rattle.sector_disk.specs.Calls.{device_in}
use Rattle.sector_disk.specs.Image.{AreShort}
use Rattle.sector_disk.proofs.CallLaws.{reads_told}
use Rattle.group_commit.specs.contracts.newest.NewestPageSource.TheImpl as by_log
use Rattle.log_thirds.specs.LogValue.{LogValue}
use Rattle.page_cache.specs.declared.source.PageSource.{Ghosts as SourceGhosts}
use Rattle.page_cache.specs.Cache.{CacheValue, IsCache}
use Rattle.table_pages.specs.Reads.{outer_device as device_told}
use Rattle.name_page.specs.Pages.{IsOuter}
use Rattle.name_btree.specs.declared.fault.TreeFault.{TreeFault}
use Rattle.name_btree.specs.declared.fault.TreeFault.TheVariants.{Pages, Broken}
use Rattle.name_btree.specs.declared.lookup.FoundEntry.{FoundEntry}
use Rattle.name_btree.specs.Fault.{outer_told}
use Rattle.volume_contract.specs.Ends.{device_of}
use Rattle.volume_contract.specs.Order.{IsLookUp}
use Rattle.cached_table.specs.Finding.{FailsToFind, IsFoundIn}
use Rattle.cached_table.specs.Looking.{FaultsOver, LooksOnly, refusal_in, told_from}
use Rattle.cached_table.proofs.RefusalLaws.{outer_cases}
use Rattle.volume_laws.specs.State.{resident, state}
use Rattle.volume_laws.specs.Volume.{IsWholeVolume, VolumeValue}
use Rattle.volume_laws.proofs.CauseLaws.{causes_by, met_left}
use Rattle.volume_laws.proofs.EnteredCalls.{place_told}
use Rattle.volume_laws.proofs.EntryLaws.{lost_found, taken_there}
use Rattle.volume_laws.proofs.FindLaws.{stands_found}
use Rattle.volume_laws.proofs.ReadLaws.{looked_behind, shows_by, unsound_by}
use Rattle.volume_laws.proofs.TakenLaws.{taken_is_told}
use Rattle.table_volume.specs.Looks.{LooksInto}
use Rattle.table_volume.proofs.TableCallLaws.{failed_each, found_each}

outer_look : (why : Refusal) → IsOuter why → IsLookUp why
outer_look why outer = outer_cases IsLookUp (λ s. tt) (λ a b. tt) tt why outer

told_place : {T : Type 0} (home_a : ℕ) (r : Result T TreeFault) → device_in device_of (told_from home_a r) ≡ device_told (outer_told r)
told_place home_a (Ok x) = refl
told_place home_a (Err (Broken page)) = refl
told_place home_a (Err (Pages why)) = place_told why

told_ok : {T : Type 0} (home_a : ℕ) (r : Result T TreeFault) (P : T → Type 0) → IfOk r P → IfOk (told_from home_a r) P
told_ok home_a (Ok x) P so = so
told_ok home_a (Err fault) P so = tt

module _ {D E : Type 0} (M : MachineGhosts D) (S : SourceGhosts E) (source : E) (m : D) (c : CacheValue) (free : List Bool) (home_a : ℕ) where
  fault_look : (fault : TreeFault) → FaultsOver M S source m c free home_a fault → IsLookUp (refusal_in home_a fault)
  fault_look (Broken page) over = tt
  fault_look (Pages why) over = elim over.cause [ inl outer ↦ outer_look why outer | inr bars ↦ subst IsLookUp (sym bars.1) tt ]

  told_cause : {T : Type 0} (r : Result T TreeFault) → IfErr r (FaultsOver M S source m c free home_a) → IfErr (told_from home_a r) IsLookUp
  told_cause (Ok x) over = tt
  told_cause (Err fault) over = fault_look fault over

  pub looked_cause : {T : Type 0} (r : Result T TreeFault) (result : Result T Refusal) → result ≡ told_from home_a r → IfErr r (FaultsOver M S source m c free home_a) → IfErr result IsLookUp
  looked_cause {T = T} r result is over = subst (λ (x : Result T Refusal). IfErr x IsLookUp) (sym is) (told_cause r over)

module _ {T : Type 0} (home_a : ℕ) (r : Result T TreeFault) (result : Result T Refusal) (is : result ≡ told_from home_a r) where
  pub looked_place : device_in device_of result ≡ device_told (outer_told r)
  looked_place = ap (device_in device_of) is ∙ told_place home_a r

  pub looked_ok : (P : T → Type 0) → IfOk r P → IfOk result P
  looked_ok P so = subst (λ (x : Result T Refusal). IfOk x P) (sym is) (told_ok home_a r P so)

-- nothing is changed but what is in memory
pub cache_alone : (v w : VolumeValue) → v ≡ w → (c : CacheValue) (free : List Bool) → free ≡ v.free_pages → record v { cache = c; free_pages = free } ≡ record w { cache = c }
cache_alone v w is c free same = (λ i. record v { cache = c; free_pages = same i }) ∙ ap (λ (x : VolumeValue). record x { cache = c }) is

-- so a look-up in the table leaves a volume, and tells what it finds
module _ {D : Type 0} (M : MachineGhosts D) (short : (m : D) → M.honest m → AreShort (M.now m).windows) (m m' : D) (v w : VolumeValue) (is : v ≡ w) (whole : IsWholeVolume v) (cached : IsCache v.cache)
    (c : CacheValue) (free : List Bool) (same : free ≡ v.free_pages) (log : LogValue) (of_log : log ≡ v.log) (home : ℕ) (first : home ≡ home_of v.layout 0) where
  pub looks_into : (A : Type 0) (Suits : Entry → Type 0) (r : Result (Option FoundEntry) TreeFault) (result : Result (Option FoundEntry) Refusal) → result ≡ told_from home r → LooksOnly M by_log.ghosts log (outer_told r) m m' v.cache c v.free_pages
      → IfErr r (FailsToFind M by_log.ghosts log m m' v.cache c v.free_pages home) → IfOk r (λ found. MatchOption found A (IsFoundIn c (length v.free_pages) Suits)) → LooksInto M w (record v { cache = c; free_pages = free }) m m' result
  looks_into A Suits r result says looks failed told =
      let left : VolumeValue = record v { cache = c; free_pages = free } in
      record {
        disk = reads_told (looked_place home r result says) looks.reads;
        cache = cache_alone v w is c free same;
        dirty = looks.dirty ∙ ap (λ (x : VolumeValue). x.cache.dirty) is;
        stands = stands_found M short m m' v w is whole cached c log of_log free (outer_told r) looks same;
        cause = looked_cause M by_log.ghosts log m' c v.free_pages home r result says (failed_each r (λ fault x. x.cause) failed);
        causes = causes_by M (resident w) (state w) (state left) m m' result (λ a b lost h. lost_found M m m' v w is whole c log of_log home a b (state left) r result says looks lost h)
            (unsound_by M m m' v w is whole c log of_log (state left) home first r result says looks (failed_each r (λ fault x. x.shown) failed));
        behind = looked_behind M m m' v w is whole c free same log of_log (outer_told r) looks;
        page = looked_ok home r result says (λ found. IfSome found (λ f. f.page < w.layout.pages))
            (subst (λ (n : ℕ). IfOk r (λ found. IfSome found (λ f. f.page < n))) (whole.pages ∙ ap (λ (x : VolumeValue). x.layout.pages) is) (found_each A r (λ f x. x.page) told));
        entry = looked_ok home r result says (λ found. IfSome found (λ f. is_entry f.entry ≡ true)) (found_each A r (λ f x. x.entry) told);
        met = met_left M m m' v w is whole c (state left) left free refl result (λ h. shows_by M m m' v w is whole c log of_log (state left) home r result says looks h (found_each A r (λ f x. x.way) told));
        taken = λ honest k stands e has. taken_there v w is whole k (M.now m) stands e has;
        told = λ e taken. taken_is_told v whole e taken;
      }
