-- A volume is whole once the sectors of a version that was taken out of its table wait.
use Rattle.std.proofs.Common.{◌≡◌, inl, inr, ℕ, ◌≤◌, true, false, ◌||◌, List, length, sym, ap, subst, ◌∙◌, arith}
use Rattle.std.specs.Prelude.{All, IsFalse, IsTrue}
use Rattle.std.proofs.lemmas.Bool.{both_ways, cases_lt, false_from_ne_true, or_cases, or_from, or_parts}
use Rattle.run_table.specs.declared.run.Run.{Run}
use Rattle.run_table.specs.RunTable.{sectors_of}
use Rattle.run_table.specs.Space.{contains}
use Rattle.sector_set.specs.Area.{Area, together}
use Rattle.sector_set.proofs.AreaLaws.{free_passes}
use Rattle.sector_set.proofs.FreeLaws.{contains_where, contains_where_outside}
use Rattle.shadow_frees.specs.Readers.{IsSameOrApart, Slots, is_held}
use Rattle.shadow_frees.specs.Waits.{AreIdle, Waits, waits_in}
use Rattle.volume_laws.specs.Ending.{GivesUp, Waited}
use Rattle.volume_laws.specs.Taken.{are_taken}
use Rattle.volume_laws.specs.Volume.{IsWholeVolume, VolumeValue, WaitsOnce}
use Rattle.table_survey.specs.Claims.{IsOfData}
use Rattle.volume_laws.proofs.SpaceLaws.{of_more}
use Rattle.volume_laws.proofs.TakenLaws.{taken_is_out}

module _ (v : VolumeValue) (whole : IsWholeVolume v) (runs : List Run) (taken : are_taken v runs ≡ true) where
  -- the sectors don't wait, and no reader holds some of them beside others
  pub idle_runs : AreIdle v.shadow runs
  idle_runs = (taken_is_out v whole runs taken).1

  pub agree_runs : All (IsSameOrApart runs) v.shadow.held
  agree_runs = (taken_is_out v whole runs taken).2

  module _ (w : Waits) (n : ℕ) (gives : GivesUp v.cache.dirty runs v.shadow v.versions w n) where
    -- what waits now waited before, or is of the version
    still_apart : Waited runs v.shadow w → (s : ℕ) → IsTrue (contains v.map.sectors s) → IsFalse (waits_in w s)
    still_apart is s free =
        let out = (taken_is_out v whole runs taken).0 in
        let none : (contains v.shadow.removed.sectors s || (contains v.shadow.kept.sectors s || contains v.shadow.unfinished.sectors s)) ≡ false = whole.apart s free in
        let parts = or_parts (contains v.shadow.removed.sectors s) _ none in
        let mine : contains (sectors_of runs) s ≡ false = false_from_ne_true (contains (sectors_of runs) s) (λ there. both_ways (contains v.map.sectors s) (out.outside s there) free) in
        let tested : (contains v.shadow.removed.sectors s || contains (sectors_of runs) s) ≡ false = or_from _ _ parts.0 mine in
        let removed : contains w.removed.sectors s ≡ false = ap (λ (a : Area). contains a.sectors s) is.removed ∙ none_there s tested in
        or_from _ _ removed (or_from _ _ (ap (λ (a : Area). contains a.sectors s) is.kept ∙ (or_parts _ _ parts.1).0) (ap (λ (a : Area). contains a.sectors s) is.unfinished ∙ (or_parts _ _ parts.1).1))
      where
        none_there : (s : ℕ) → (contains v.shadow.removed.sectors s || contains (sectors_of runs) s) ≡ false → contains (together v.shadow.removed runs).sectors s ≡ false
        none_there s none = elim (cases_lt s v.shadow.removed.from) [
          | inl below ↦ contains_where_outside _ v.shadow.removed.from v.shadow.removed.to s (λ low high. absurd (omega (arith, below, low)))
          | inr low ↦ elim (cases_lt s v.shadow.removed.to) [
            | inl high ↦ contains_where _ v.shadow.removed.from v.shadow.removed.to s low high ∙ none
            | inr past ↦ contains_where_outside _ v.shadow.removed.from v.shadow.removed.to s (λ from to. absurd (omega (arith, past, to)))
          ]
        ]

    -- none of the version's waits already
    once_waited : Waited runs v.shadow w → WaitsOnce w
    once_waited is = record {
      removed = λ s there. (λ i. contains (is.kept i).sectors s || contains (is.unfinished i).sectors s) ∙ elim (or_cases (contains v.shadow.removed.sectors s) (contains (sectors_of runs) s)
          (free_passes v.shadow.removed.from v.shadow.removed.to (λ t. contains v.shadow.removed.sectors t || contains (sectors_of runs) t) s (ap (λ (a : Area). contains a.sectors s) (sym is.removed) ∙ there))) [
            | inl was ↦ whole.once.removed s was
            | inr mine ↦ or_from (contains v.shadow.kept.sectors s) (contains v.shadow.unfinished.sectors s) (idle_runs.1.outside s mine) (idle_runs.2.outside s mine)
          ];
      kept = λ s there. ap (λ (a : Area). contains a.sectors s) is.unfinished ∙ whole.once.kept s (ap (λ (a : Area). contains a.sectors s) (sym is.kept) ∙ there);
      readers = λ s there. ap (λ (slots : Slots). is_held slots s) is.held ∙ whole.once.readers s (ap (λ (a : Area). contains a.sectors s) (sym is.kept) ∙ there);
      slots = ap (λ (slots : Slots). length slots) is.held ∙ whole.once.slots;
    }

    whole_waited : 1 ≤ length v.cache.dirty → Waited runs v.shadow w → IsWholeVolume (record v { shadow = w; versions = n })
    whole_waited some is = record {
      planned = whole.planned;
      map = whole.map;
      removed = subst (IsOfData v.layout) (sym is.removed) (of_more v.layout v.shadow.removed runs whole.removed (λ s there. let out = (taken_is_out v whole runs taken).0.within s there in omega (arith, out.1)));
      kept = subst (IsOfData v.layout) (sym is.kept) whole.kept;
      unfinished = subst (IsOfData v.layout) (sym is.unfinished) whole.unfinished;
      apart = still_apart is;
      once = once_waited is;
      log = whole.log;
      epoch = whole.epoch;
      pages = whole.pages;
      room = whole.room;
      unpinned = whole.unpinned;
      waiting = whole.waiting;
      numbered = whole.numbered;
      still = λ none. absurd (omega (arith, some, ap (λ (d : List ℕ). length d) none));
    }

    pub whole_given : IsWholeVolume (record v { shadow = w; versions = n })
    whole_given = elim gives [
      | inl none ↦ subst (λ (x : Waits). IsWholeVolume (record v { shadow = x; versions = n })) (sym none.1) (subst (λ (x : ℕ). IsWholeVolume (record v { versions = x })) (sym none.2) whole)
      | inr some ↦ whole_waited some.0 some.1
    ]
