-- The volume that a mount makes of the pages at home is that of the table that they are.
use Rattle.std.proofs.Common.{◌≡◌, ◌⊎◌, inl, inr, ℕ, ◌<◌, ◌≤◌, Bool, true, false, not, ◌&&◌, ◌||◌, nat_le, nat_lt, List, [], length, refl, sym, ap, subst, ◌∙◌, arith}
use Rattle.std.proofs.lemmas.Bool.{and_from, and_parts, cases_Bool, le-leb, leb-true, lt-ltb, ltb-true, true≢false}
use Rattle.volume_layout.specs.declared.layout.Layout.{Layout}
use Rattle.volume_layout.specs.Layout.{data_start, is_data, IsPlanned}
use Rattle.run_table.specs.Space.{contains, runs_of, where_free}
use Rattle.sector_set.specs.Area.{Area}
use Rattle.sector_set.proofs.AreaLaws.{free_within}
use Rattle.sector_set.proofs.FreeLaws.{contains_where, where_same}
use Rattle.fsd_files.specs.Files.{Files}
use Rattle.fsd_files.specs.Volume.{free_runs, is_free, is_in, plans_of, waits}
use Rattle.log_thirds.specs.LogValue.{LogValue}
use Rattle.table_survey.proofs.DataLaws.{data_sectors}
use Rattle.volume_contract.specs.State.{Fits, IsNew}
use Rattle.table_volume.specs.Mounting.{IsAssembled, assembled, fresh_mounted, opened_of}
use Rattle.cached_table.specs.Opening.{IsTableOf}
use Rattle.volume_laws.specs.State.{IsMemoryOf, state}
use Rattle.volume_laws.specs.Volume.{VolumeValue}
use Rattle.table_volume.proofs.AssembleLaws.{none_of_area}
use Rattle.volume_laws.proofs.CountLaws.{count_of_flags}
use Rattle.volume_laws.proofs.FreeLaws.{nothing}
use Rattle.table_volume.proofs.MountLaws.{is_new}

-- ---- where nothing waits

no_wait : (taken : Bool) → (not taken && (false || false || false)) ≡ false
no_wait true = refl
no_wait false = refl

free_there : (inside taken : Bool) → inside ≡ true → (inside && not taken && not (not taken && (false || false || false))) ≡ not taken
free_there true true e = refl
free_there true false e = refl
free_there false taken e = absurd (cc e)

not_free : (inside taken : Bool) → inside ≡ false → (inside && not taken && not (not taken && (false || false || false))) ≡ false
not_free false taken e = refl
not_free true taken e = absurd (cc e)

pub in_data : (l : Layout) (s : ℕ) → data_start l ≤ s → s < l.sectors → is_data l s ≡ true
in_data l s low high = and_from (nat_le (data_start l) s) (nat_lt s l.sectors) (le-leb (data_start l) s low) (lt-ltb s l.sectors high)

-- ---- the volume

module _ (l : Layout) (planned : IsPlanned l) (log : LogValue) (v : VolumeValue) (a : IsAssembled l log v) (pages : List (List ℕ)) (t : IsTableOf l pages (opened_of v)) (files : Files) (count : length files ≡ length t.telling.entries) where
  taken : ℕ → Bool
  taken s = is_in (plans_of t.telling.entries) s

  own : v.map.sectors ≡ where_free (λ s. not (is_in (plans_of t.telling.entries) s)) (data_start l) l.sectors
  own = ap (λ (m : Area). m.sectors) t.map ∙ data_sectors l planned (λ s. not (is_in (plans_of t.telling.entries) s))

  frees : free_runs (fresh_mounted l log pages t.telling files).volume ≡ runs_of v.map.sectors
  frees = ap runs_of (where_same (is_free (fresh_mounted l log pages t.telling files).volume) (λ s. not (is_in (plans_of t.telling.entries) s)) (data_start l) l.sectors
      (λ s low high. free_there (is_data l s) (is_in (plans_of t.telling.entries) s) (in_data l s low high)) ∙ sym own)

  none_waits_there : where_free (waits (fresh_mounted l log pages t.telling files).volume) (data_start l) l.sectors ≡ []
  none_waits_there = where_same (waits (fresh_mounted l log pages t.telling files).volume) (λ s. false) (data_start l) l.sectors (λ s low high. no_wait (is_in (plans_of t.telling.entries) s)) ∙ nothing (data_start l) l.sectors

  same_free : (s : ℕ) → contains v.map.sectors s ≡ is_free (fresh_mounted l log pages t.telling files).volume s
  same_free s = ap (λ (xs : List ℕ). contains xs s) own ∙ by (cases_Bool (is_data l s))
    where
      out : is_data l s ≡ false → (b : Bool) → contains (where_free (λ x. not (is_in (plans_of t.telling.entries) x)) (data_start l) l.sectors) s ≡ b → b ≡ false
      out e false is = refl
      out e true is =
          let within = free_within (data_start l) l.sectors (λ x. not (is_in (plans_of t.telling.entries) x)) s is in
          absurd (true≢false (sym (in_data l s within.0 within.1) ∙ e))

      by : (is_data l s ≡ true) ⊎ (is_data l s ≡ false) → contains (where_free (λ x. not (is_in (plans_of t.telling.entries) x)) (data_start l) l.sectors) s ≡ is_free (fresh_mounted l log pages t.telling files).volume s
      by (inl inside) =
          let parts = and_parts (nat_le (data_start l) s) (nat_lt s l.sectors) inside in
          contains_where (λ x. not (is_in (plans_of t.telling.entries) x)) (data_start l) l.sectors s (leb-true (data_start l) s parts.0) (ltb-true s l.sectors parts.1) ∙ sym (free_there (is_data l s) (is_in (plans_of t.telling.entries) s) inside)
      by (inr outside) = out outside (contains (where_free (λ x. not (is_in (plans_of t.telling.entries) x)) (data_start l) l.sectors) s) refl ∙ sym (not_free (is_data l s) (is_in (plans_of t.telling.entries) s) outside)

  fits_there : Fits (state (assembled l log (opened_of v))) (fresh_mounted l log pages t.telling files)
  fits_there =
      let new = subst (λ (x : VolumeValue). IsNew (state x)) a.is (is_new l log v a) in
      record {
        layout = refl;
        serial = refl;
        anchor = refl;
        head = refl;
        dirty = sym a.opened.dirty;
        free = frees;
        freed = frees ∙ sym new.freed;
        waiting = none_waits_there ∙ sym new.waiting;
        waits = sym new.waits;
        held = refl;
        unfinished = nothing (data_start l) l.sectors ∙ sym (none_of_area l);
        pages_free = omega (arith, count_of_flags v.free_pages, t.spare);
        versions = count ∙ t.versions;
        up = refl;
      }

  pub fresh_fits : Fits (state v) (fresh_mounted l log pages t.telling files)
  fresh_fits = subst (λ (x : VolumeValue). Fits (state x) (fresh_mounted l log pages t.telling files)) (sym a.is) fits_there

  holds_there : IsMemoryOf (assembled l log (opened_of v)) (fresh_mounted l log pages t.telling files) []
  holds_there = record {
    planned = planned;
    pages = t.memory;
    inside = t.inside;
    map = same_free;
    removed = λ s. ap (λ (xs : List ℕ). contains xs s) (none_of_area l);
    kept = λ s. ap (λ (xs : List ℕ). contains xs s) (none_of_area l);
    unfinished = λ s. ap (λ (xs : List ℕ). contains xs s) (none_of_area l);
    free_pages = t.free_pages;
    log = a.fresh.layout;
    fits = a.fits;
    indexed = a.fresh.indexed;
  }

  pub fresh_holds : IsMemoryOf v (fresh_mounted l log pages t.telling files) []
  fresh_holds = subst (λ (x : VolumeValue). IsMemoryOf x (fresh_mounted l log pages t.telling files) []) (sym a.is) holds_there
