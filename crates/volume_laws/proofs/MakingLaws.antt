-- What a volume is, and in which order it refuses, where a version is entered.
use Rattle.std.proofs.Common.{◌≡◌, inl, inr, ℕ, ◌<◌, ◌≤◌, Bool, true, false, cond, not, ◌&&◌, ◌||◌, List, [], ◌∷◌, ◌++◌, length, None, Some, refl, sym, ap, subst, ◌∙◌, arith}
use Rattle.std.proofs.lemmas.Bool.{and_parts, both_ways, false_from_ne_true, le-ltb, lt-ltb, or_cases, or_from, or_parts}
use Rattle.volume_layout.specs.declared.layout.Layout.{Layout}
use Rattle.volume_layout.proofs.GrownLaws.{most_least}
use Rattle.run_table.specs.declared.run.Run.{Run}
use Rattle.run_table.specs.RunTable.{sectors_of}
use Rattle.run_table.specs.Space.{contains}
use Rattle.sector_set.specs.Area.{Area, together, without_sectors}
use Rattle.sector_set.proofs.AreaLaws.{free_passes}
use Rattle.shadow_frees.specs.Readers.{Slots, is_held}
use Rattle.shadow_frees.specs.Waits.{Waits, waits_in}
use Rattle.fsd_bytes.specs.declared.refusal.Refusal.{Refusal}
use Rattle.fsd_bytes.specs.declared.refusal.Refusal.TheVariants as Why
use Rattle.fsd_files.specs.Volume.{is_in, plans_of}
use Rattle.page_cache.specs.Cache.{CacheValue}
use Rattle.version_table.specs.declared.oldest.Leaving.{Leaving}
use Rattle.version_table.specs.Met.{entries_left}
use Rattle.volume_contract.specs.Order.{Comes, Through}
use Rattle.volume_contract.specs.State.{State}
use Rattle.cached_table.specs.Entering.{AreInTurn, RefusesFor, with_gone}
use Rattle.volume_laws.specs.Entered.{entering_steps}
use Rattle.volume_laws.specs.Taken.{data_map}
use Rattle.volume_laws.specs.Volume.{IsWholeVolume, VolumeValue, WaitsOnce}
use Rattle.table_survey.specs.Claims.{IsOfData}
use Rattle.table_survey.proofs.DataLaws.{of_data_within}
use Rattle.volume_laws.proofs.EnteredSpace.{gone_at, in_first}
use Rattle.volume_laws.proofs.SpaceLaws.{of_fewer, of_more}

-- ---- the order of refusals

module _ (s : State) where
  pub refuses_comes : (A B C E : Type 0) (free : ℕ) → length s.free_pages ≡ free → (r : Refusal) → RefusesFor A B C E free r → Comes (entering_steps s) r
  refuses_comes A B C E free same (Why.Device p) h = inl tt
  refuses_comes A B C E free same (Why.Lost a b) h = inl tt
  refuses_comes A B C E free same Why.Memory h = inl tt
  refuses_comes A B C E free same (Why.Unsound p) h = inl tt
  refuses_comes A B C E free same Why.VersionsUsedUp h = inr (tt, inl refl)
  refuses_comes A B C E free same (Why.NameTableFull n) h =
      let is : length s.free_pages ≡ n = same ∙ sym h.0 in
      inr (
        tt,
        inr (
          tt,
          inl (
              ap (λ (b : Bool). cond b (Some (Why.NameTableFull (length s.free_pages))) None) (lt-ltb (length s.free_pages) 8 (omega (arith, is, h.1)))
              ∙ ap (λ (k : ℕ). Some (Why.NameTableFull k)) is),
        ),
      )
  refuses_comes A B C E free same other h = absurd h

  pub enters_through : (free : ℕ) → length s.free_pages ≡ free → 8 ≤ free → Through (entering_steps s)
  enters_through free same many = (tt, (tt, (ap (λ (b : Bool). cond b (Some (Why.NameTableFull (length s.free_pages))) None) (le-ltb (length s.free_pages) 8 (omega (arith, same, many))), (tt, tt))))

-- ---- the parts of a volume

-- what goes lies where the map ends at the latest
of_gone : (l : Layout) (map : Area) (w : Waits) (m : Area) (seen gone : List Leaving) → map.to ≤ l.sectors → AreInTurn map w seen gone → IsOfData l m → IsOfData l (with_gone m gone)
of_gone l map w m seen [] ends turn of_data = of_data
of_gone l map w m seen (g ∷ gone) ends turn of_data =
    of_gone l map w (together m g.entry.runs) (seen ++ g ∷ []) gone ends turn.1 (of_more l m g.entry.runs of_data (λ s here. let at = turn.0.0.0.within s here in omega (arith, at.1, ends)))

-- what goes is none of the free sectors
gone_taken : (map : Area) (w : Waits) (seen gone : List Leaving) (s : ℕ) → AreInTurn map w seen gone → contains map.sectors s ≡ true → is_in (plans_of (entries_left gone)) s ≡ false
gone_taken map w seen [] s turn free = refl
gone_taken map w seen (g ∷ gone) s turn free =
    in_first s g.entry (entries_left gone)
    ∙ or_from (contains (sectors_of g.entry.runs) s) (is_in (plans_of (entries_left gone)) s)
    (false_from_ne_true (contains (sectors_of g.entry.runs) s) (λ here. both_ways (contains map.sectors s) (turn.0.0.0.outside s here) free))
    (gone_taken map w _ gone s turn.1 free)

-- what goes waits nowhere else
gone_once : (map : Area) (w : Waits) (removed : Area) (seen gone : List Leaving) (s : ℕ) → (contains removed.sectors s ≡ true → (contains w.kept.sectors s || contains w.unfinished.sectors s) ≡ false) → AreInTurn map w seen gone
    → contains (with_gone removed gone).sectors s ≡ true → (contains w.kept.sectors s || contains w.unfinished.sectors s) ≡ false
gone_once map w removed seen [] s were turn there = were there
gone_once map w removed seen (g ∷ gone) s were turn there = gone_once map w (together removed g.entry.runs) (seen ++ g ∷ []) gone s more turn.1 there
  where
    more : contains (together removed g.entry.runs).sectors s ≡ true → (contains w.kept.sectors s || contains w.unfinished.sectors s) ≡ false
    more is = elim (or_cases (contains removed.sectors s) (contains (sectors_of g.entry.runs) s) (free_passes removed.from removed.to (λ t. contains removed.sectors t || contains (sectors_of g.entry.runs) t) s is)) [
      | inl was ↦ were was
      | inr mine ↦ or_from (contains w.kept.sectors s) (contains w.unfinished.sectors s) (turn.0.0.1.1.outside s mine) (turn.0.0.1.2.outside s mine)
    ]

-- the sectors that wait, with those of versions that went, if a page waits
abbrev pub with_if : Bool → Area → List Leaving → Area
with_if b removed gone = cond b (with_gone removed gone) removed

module _ (v : VolumeValue) (whole : IsWholeVolume v) (c : CacheValue) (flags : List Bool) (edited : IsWholeVolume (record v { cache = c; free_pages = flags })) (gone : List Leaving) (turn : AreInTurn (data_map v) v.shadow [] gone)
    (b : Bool) (dry : c.dirty ≡ [] → b ≡ false) (free : Area) (of_free : IsOfData v.layout free) (was_free : (s : ℕ) → contains free.sectors s ≡ true → contains v.map.sectors s ≡ true) (w : Waits) (versions : ℕ)
    (removed : w.removed ≡ with_if b v.shadow.removed gone) (kept : w.kept ≡ v.shadow.kept) (unfinished : w.unfinished ≡ v.shadow.unfinished) (held : w.held ≡ v.shadow.held) where
  of_removed : (x : Bool) → IsOfData v.layout (with_if x v.shadow.removed gone)
  of_removed true = of_gone v.layout (data_map v) v.shadow v.shadow.removed [] gone (omega arith) turn whole.removed
  of_removed false = whole.removed

  apart : (s : ℕ) → contains free.sectors s ≡ true → waits_in w s ≡ false
  apart s is =
      let old = was_free s is in
      let none = or_parts (contains v.shadow.removed.sectors s) (contains v.shadow.kept.sectors s || contains v.shadow.unfinished.sectors s) (whole.apart s old) in
      let at = of_data_within v.layout v.map whole.map s old in
      let low : v.shadow.removed.from ≤ s = omega (arith, at.0, ap (λ (m : Area). m.from) whole.removed) in
      let high : s < v.shadow.removed.to = omega (arith, at.1, most_least v.layout whole.planned, ap (λ (m : Area). m.to) whole.removed) in
      or_from (contains w.removed.sectors s) (contains w.kept.sectors s || contains w.unfinished.sectors s)
      (ap (λ (m : Area). contains m.sectors s) removed ∙ by b none.0 low high old)
      ((λ i. contains (kept i).sectors s || contains (unfinished i).sectors s) ∙ none.1)
    where
      by : (x : Bool) → contains v.shadow.removed.sectors s ≡ false → v.shadow.removed.from ≤ s → s < v.shadow.removed.to → contains v.map.sectors s ≡ true → contains (with_if x v.shadow.removed gone).sectors s ≡ false
      by false none low high old = none
      by true none low high old = gone_at v.shadow.removed gone s low high ∙ or_from (contains v.shadow.removed.sectors s) (is_in (plans_of (entries_left gone)) s) none (gone_taken (data_map v) v.shadow [] gone s turn old)

  -- what goes does not wait already
  once_entered : WaitsOnce w
  once_entered = record {
    removed = λ s there. (λ i. contains (kept i).sectors s || contains (unfinished i).sectors s) ∙ by b s (ap (λ (m : Area). contains m.sectors s) (sym removed) ∙ there);
    kept = λ s there. ap (λ (m : Area). contains m.sectors s) unfinished ∙ whole.once.kept s (ap (λ (m : Area). contains m.sectors s) (sym kept) ∙ there);
    readers = λ s there. ap (λ (slots : Slots). is_held slots s) held ∙ whole.once.readers s (ap (λ (m : Area). contains m.sectors s) (sym kept) ∙ there);
    slots = ap (λ (slots : Slots). length slots) held ∙ whole.once.slots;
  }
    where
      by : (x : Bool) (s : ℕ) → contains (with_if x v.shadow.removed gone).sectors s ≡ true → (contains v.shadow.kept.sectors s || contains v.shadow.unfinished.sectors s) ≡ false
      by false s there = whole.once.removed s there
      by true s there = gone_once (data_map v) v.shadow v.shadow.removed [] gone s (whole.once.removed s) turn there

  -- it is whole once what goes waits
  pub whole_going : IsWholeVolume (record v { map = free; shadow = w; cache = c; free_pages = flags; versions = versions })
  whole_going = record {
    planned = whole.planned;
    map = of_free;
    removed = subst (IsOfData v.layout) (sym removed) (of_removed b);
    kept = subst (IsOfData v.layout) (sym kept) whole.kept;
    unfinished = subst (IsOfData v.layout) (sym unfinished) whole.unfinished;
    apart = apart;
    once = once_entered;
    log = whole.log;
    epoch = whole.epoch;
    pages = edited.pages;
    room = edited.room;
    unpinned = edited.unpinned;
    waiting = edited.waiting;
    numbered = edited.numbered;
    still = λ none. ap (λ (m : Area). m.sectors) removed ∙ ap (λ (x : Bool). (with_if x v.shadow.removed gone).sectors) (dry none) ∙ edited.still none;
  }

module _ (v : VolumeValue) (whole : IsWholeVolume v) (c : CacheValue) (flags : List Bool) (edited : IsWholeVolume (record v { cache = c; free_pages = flags })) (runs : List Run) (gone : List Leaving) (turn : AreInTurn (data_map v) v.shadow [] gone)
    (b : Bool) (dry : c.dirty ≡ [] → b ≡ false) (free : Area) (w : Waits) (versions : ℕ) (taken : free ≡ without_sectors v.map runs) (removed : w.removed ≡ with_if b v.shadow.removed gone)
    (kept : w.kept ≡ v.shadow.kept) (unfinished : w.unfinished ≡ v.shadow.unfinished) (held : w.held ≡ v.shadow.held) where
  -- a free sector was free
  was_free : (s : ℕ) → contains free.sectors s ≡ true → contains v.map.sectors s ≡ true
  was_free s is = (and_parts (contains v.map.sectors s) (not (contains (sectors_of runs) s))
      (free_passes v.map.from v.map.to (λ t. contains v.map.sectors t && not (contains (sectors_of runs) t)) s (ap (λ (m : Area). contains m.sectors s) (sym taken) ∙ is))).0

  -- it is whole once the version's sectors are taken, and what goes waits
  pub whole_entered : IsWholeVolume (record v { map = free; shadow = w; cache = c; free_pages = flags; versions = versions })
  whole_entered =
      whole_going v whole c flags edited gone turn b dry free (subst (IsOfData v.layout) (sym taken) (of_fewer v.layout v.map (λ s. not (contains (sectors_of runs) s)) whole.map)) was_free
      w versions removed kept unfinished held
