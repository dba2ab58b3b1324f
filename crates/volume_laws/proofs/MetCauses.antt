-- Why a volume tells a page as unsound where a version is entered: a fault of the look-up, or a version that goes and was met.
use Rattle.std.proofs.Common.{◌≡◌, inl, inr, ℕ, ◌<◌, Bool, true, false, cond, nat_lt, List, length, Option, Some, None, refl, sym, ap, subst, ◌∙◌, arith}
use Rattle.std.specs.Prelude.{IfSome}
use Rattle.std.proofs.lemmas.Bool.{false_from_ne_true, lt-ltb, ltb-true}
use Rattle.std.proofs.Math.Nat.{mod-eq_of_lt}
use Rattle.volume_layout.specs.Layout.{home_a}
use Rattle.volume_layout.proofs.RootLaws.{planned_bounds}
use Rattle.sector_disk.specs.declared.machine.Machine.{Ghosts as MachineGhosts}
use Rattle.fsd_bytes.specs.declared.refusal.Refusal.{Refusal}
use Rattle.fsd_bytes.specs.declared.refusal.Refusal.TheVariants as Why
use Rattle.group_commit.specs.contracts.newest.NewestPageSource.TheImpl as by_log
use Rattle.log_thirds.specs.LogValue.{LogValue}
use Rattle.page_cache.specs.Cache.{CacheValue, cached_bytes}
use Rattle.name_page.specs.Pages.{outer_refusal}
use Rattle.name_btree.specs.declared.lookup.FoundEntry.{FoundEntry}
use Rattle.table_pages.specs.Bringing.{home_in}
use Rattle.volume_contract.specs.Causes.{HasCallCause as HasReason, HaveRead, IsRead, ShowsBreak}
use Rattle.volume_contract.specs.State.{State}
use Rattle.cached_table.specs.Editing.{EditsOnly}
use Rattle.cached_table.specs.Entering.{AreTaken, ShowsMet, ShowsUnsound}
use Rattle.cached_table.specs.Looking.{HavePages, LooksOnly}
use Rattle.volume_laws.specs.Meeting.{ShowsEntry}
use Rattle.volume_laws.specs.State.{resident, state}
use Rattle.volume_laws.specs.Taken.{are_taken, data_map}
use Rattle.volume_laws.specs.Volume.{IsWholeVolume, VolumeValue}
use Rattle.volume_laws.proofs.CauseLaws.{cause_of}
use Rattle.volume_laws.proofs.EditedLaws.{lost_copies}
use Rattle.volume_laws.proofs.ReadLaws.{have_one, stood_there, unsound_shown, untaken_by}
use Rattle.volume_laws.proofs.TakenLaws.{taken_is_out}

module _ {D : Type 0} (M : MachineGhosts D) (m m' : D) (v : VolumeValue) (whole : IsWholeVolume v) (c : CacheValue) (refusal : Option Refusal) (looks : LooksOnly M by_log.ghosts v.log refusal m m' v.cache c v.free_pages) (honest : M.honest m') (new : State)
    (f : FoundEntry) (met : ShowsMet M by_log.ghosts v.log (M.now m) v.cache (length v.free_pages) f) where
  -- the pages of the table that were in memory as it was met
  abbrev read_then : ℕ → Option (List ℕ)
  read_then page = cond (nat_lt page v.layout.pages) (cached_bytes met.cache page) None

  all_read : (page : ℕ) → IfSome (read_then page) (IsRead (state v) new (resident v) (M.now m) (M.now m') page)
  all_read page = by (nat_lt page v.layout.pages) refl (cached_bytes met.cache page) refl
    where
      by : (b : Bool) → nat_lt page v.layout.pages ≡ b → (o : Option (List ℕ)) → cached_bytes met.cache page ≡ o → IfSome (cond b o None) (IsRead (state v) new (resident v) (M.now m) (M.now m') page)
      by false past o is = tt
      by true lt None is = tt
      by true lt (Some bytes) is =
          let within = ltb-true page v.layout.pages lt in
          record {
            within = within;
            source = elim (met.had page bytes (omega (arith, within, whole.pages)) is) [
              | inl was ↦ inl was
              | inr stood ↦ inr (stood_there M m m' v whole c refusal looks honest new page bytes stood)
            ];
          }

  have_then : (pages : List (List ℕ)) → HaveRead (state v) read_then pages → HavePages met.cache (length v.free_pages) pages
  have_then pages have = record {
    size = have.size ∙ sym whole.pages;
    same = λ page bytes lt is.
        let within : page < v.layout.pages = omega (arith, lt, whole.pages) in
        have_one M m m' v whole c refusal looks honest new read_then pages have page bytes within (ap (λ (b : Bool). cond b (cached_bytes met.cache page) None) (lt-ltb page v.layout.pages within) ∙ is);
  }

  shows_met : ShowsEntry (state v) new (resident v) (M.now m) (M.now m') f
  shows_met = record { read = read_then; are_read = all_read; is = λ pages have. met.leads pages (have_then pages have) }

  met_breaks : (home place : ℕ) → home ≡ home_a v.layout 0 → f.page < length v.free_pages → place ≡ home_in home f.page → (AreTaken (data_map v) v.shadow f.entry.runs → ⊥) → ShowsBreak (state v) new (resident v) (M.now m) (M.now m') place
  met_breaks home place first within is untaken =
      let bounds = planned_bounds v.layout whole.planned in
      let lt : f.page < v.layout.pages = omega (arith, within, whole.pages) in
      let told : home_in home f.page ≡ home_a v.layout f.page = mod-eq_of_lt (omega (arith, first, lt, bounds.pages_most, bounds.third_most)) ∙ omega (arith, first) in
      let none : are_taken v f.entry.runs ≡ false = false_from_ne_true (are_taken v f.entry.runs) (λ taken. untaken (taken_is_out v whole f.entry.runs taken)) in
      subst (ShowsBreak (state v) new (resident v) (M.now m) (M.now m')) (sym (is ∙ told)) (untaken_by v v refl whole (M.now m) (M.now m') new f shows_met none)

module _ {D : Type 0} (M : MachineGhosts D) (m m' : D) (v w : VolumeValue) (is : v ≡ w) (whole : IsWholeVolume v) (c : CacheValue) (flags : List Bool) (log : LogValue) (of_log : log ≡ v.log) (home : ℕ) (first : home ≡ home_a v.layout 0) (why : Refusal)
    (edits : EditsOnly M by_log.ghosts log (outer_refusal why) m m' v.cache c v.free_pages flags) (looks : LooksOnly M by_log.ghosts log (outer_refusal why) m m' v.cache c v.free_pages)
    (shown : ShowsUnsound M by_log.ghosts log (data_map v) v.shadow m m' v.cache c v.free_pages home why) (honest : M.honest m') where
  abbrev left : VolumeValue
  left = record v { cache = c; free_pages = flags }

  looks_here : LooksOnly M by_log.ghosts v.log (outer_refusal why) m m' v.cache c v.free_pages
  looks_here = subst (λ (l : LogValue). LooksOnly M by_log.ghosts l (outer_refusal why) m m' v.cache c v.free_pages) of_log looks

  unsound_here : (place : ℕ) → why ≡ Why.Unsound place → ShowsBreak (state v) (state left) (resident v) (M.now m) (M.now m') place
  unsound_here place same =
      let here = subst (λ (l : LogValue). ShowsUnsound M by_log.ghosts l (data_map v) v.shadow m m' v.cache c v.free_pages home (Why.Unsound place)) of_log
      (subst (λ (r : Refusal). ShowsUnsound M by_log.ghosts log (data_map v) v.shadow m m' v.cache c v.free_pages home r) same shown) in
      elim (here honest) [
        | inl shows ↦ unsound_shown M m m' v whole c (outer_refusal why) looks_here honest (state left) home place first shows
        | inr met ↦ met_breaks M m m' v whole c (outer_refusal why) looks_here honest (state left) met.0 met.1 home place first met.2 met.3 met.4
      ]

  -- a refusal has its cause
  pub enter_cause : HasReason (state w) (state left) (resident w) (M.now m) (M.now m') why
  enter_cause = cause_of (state w) (state left) (resident w) (M.now m) (M.now m') why
      (λ a b lost. lost_copies v w is c flags M m m' log whole of_log (outer_refusal why) edits a b (ap outer_refusal lost) honest)
      (λ place unsound. subst (λ (x : VolumeValue). ShowsBreak (state x) (state left) (resident x) (M.now m) (M.now m') place) is (unsound_here place unsound))
