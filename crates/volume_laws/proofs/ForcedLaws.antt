-- A volume is whole behind a force.
use Rattle.std.proofs.Common.{◌≡◌, ◌⊎◌, inl, inr, ℕ, ◌<◌, Bool, true, false, cond, not, ◌&&◌, ◌||◌, List, [], ◌∷◌, length, option_map, Option, Some, None, refl, sym, ap, subst, ◌∙◌}
use Rattle.std.specs.Option.{option_map_or}
use Rattle.std.proofs.lemmas.Bool.{and_parts, both_ways, false_from_ne_true, not-true, or_cases, or_from, or_parts, and_right}
use Rattle.volume_layout.specs.Layout.{data_start, most_of}
use Rattle.run_table.specs.Space.{contains}
use Rattle.sector_set.specs.Area.{Area, area}
use Rattle.sector_set.proofs.AreaLaws.{free_passes}
use Rattle.shadow_frees.specs.Readers.{Slots, is_held, unheld, with_held}
use Rattle.shadow_frees.specs.Waits.{Waits, waits_in}
use Rattle.log_thirds.specs.LogValue.{LogValue}
use Rattle.log_thirds.specs.Append.{stamp_now}
use Rattle.log_thirds.specs.Moving.{moved}
use Rattle.page_cache.specs.Cache.{CacheValue, Held, cleaned, held, is_among, pins_of}
use Rattle.group_commit.specs.Cached.{ascending_of, held_stamped, stamped_for}
use Rattle.group_commit.specs.Force.{log_forced}
use Rattle.group_commit.specs.Room.{goes_before, log_before}
use Rattle.group_commit.proofs.CachedLaws.{before_layout}
use Rattle.group_commit.proofs.FrameLaws.{held_then}
use Rattle.volume_laws.specs.Volume.{IsWholeVolume, VolumeValue, WaitsOnce}
use Rattle.table_survey.specs.Claims.{IsOfData}
use Rattle.table_survey.proofs.DataLaws.{of_data_within}
use Rattle.volume_laws.proofs.FreeLaws.{nothing}
use Rattle.volume_laws.proofs.SpaceLaws.{freed_within, of_test}

-- ---- the log

before_epoch : (log : LogValue) (b : Bool) → (cond b log (moved log)).anchor.epoch ≡ log.anchor.epoch
before_epoch log true = refl
before_epoch log false = refl

forced_layout : (log : LogValue) (xs : List ℕ) → (log_forced log xs).layout ≡ log.layout
forced_layout log [] = refl
forced_layout log (x ∷ xs) = before_layout log (length (x ∷ xs))

forced_epoch : (log : LogValue) (xs : List ℕ) → (log_forced log xs).anchor.epoch ≡ log.anchor.epoch
forced_epoch log [] = refl
forced_epoch log (x ∷ xs) = before_epoch log (goes_before log (length (x ∷ xs)))

pub entered_epoch : (log : LogValue) (n : ℕ) → (log_before log n).anchor.epoch ≡ log.anchor.epoch
entered_epoch log n = before_epoch log (goes_before log n)

-- ---- the cache

pub stamped_pins : (log : LogValue) (c : CacheValue) (page : ℕ) → pins_of (stamped_for log c) page ≡ pins_of c page
stamped_pins log c page = ap (λ (o : Option Held). option_map_or (λ h. h.pins) o 0) (held_then (stamp_now log) c.dirty c page) ∙ by (is_among c.dirty page) (held c page)
  where
    by : (b : Bool) (o : Option Held) → option_map_or (λ h. h.pins) (option_map (held_stamped (stamp_now log) b) o) 0 ≡ option_map_or (λ h. h.pins) o 0
    by b None = refl
    by true (Some h) = refl
    by false (Some h) = refl

-- ---- areas

module _ (v : VolumeValue) (whole : IsWholeVolume v) where
  pub from_is : v.map.from ≡ data_start v.layout
  from_is = ap (λ (a : Area). a.from) whole.map

  pub to_is : v.map.to ≡ most_of v.layout
  to_is = ap (λ (a : Area). a.to) whole.map

  module _ (map : Area) (w : Waits) (log : LogValue) (cache : CacheValue)
      (map_is : map ≡ area v.map.from v.map.to (λ s. contains v.map.sectors s || contains (unheld v.shadow.held v.shadow.removed).sectors s))
      (removed : w.removed ≡ record { from = v.map.from; to = v.map.to; sectors = [] })
      (kept : w.kept ≡ with_held v.shadow.held v.shadow.kept v.shadow.removed) (unfinished : w.unfinished ≡ v.shadow.unfinished) (held : w.held ≡ v.shadow.held)
      (log_is : log ≡ log_forced v.log (ascending_of v.cache.dirty)) (cache_is : cache ≡ cleaned (stamped_for v.log v.cache)) where
    abbrev was_kept : ℕ → Bool
    was_kept s = contains v.shadow.kept.sectors s || contains v.shadow.removed.sectors s && is_held v.shadow.held s

    -- what is kept now was kept, or a reader holds it
    kept_passes : (s : ℕ) → contains w.kept.sectors s ≡ true → was_kept s ≡ true
    kept_passes s there = free_passes v.shadow.kept.from v.shadow.kept.to was_kept s (ap (λ (a : Area). contains a.sectors s) (sym kept) ∙ there)

    kept_below : (s : ℕ) → was_kept s ≡ true → s < v.layout.sectors
    kept_below s there = elim (or_cases (contains v.shadow.kept.sectors s) (contains v.shadow.removed.sectors s && is_held v.shadow.held s) there) [
      | inl so ↦ (of_data_within v.layout v.shadow.kept whole.kept s so).1
      | inr went ↦ (of_data_within v.layout v.shadow.removed whole.removed s (and_parts (contains v.shadow.removed.sectors s) (is_held v.shadow.held s) went).0).1
    ]

    none_of_data : IsOfData v.layout (area v.map.from v.map.to (λ s. false))
    none_of_data = of_test v.layout v.map (λ s. false) whole.map (λ s there. absurd (both_ways false refl there))

    none_removed : (s : ℕ) → contains w.removed.sectors s ≡ false
    none_removed s = ap (λ (a : Area). contains a.sectors s) removed

    same_unfinished : (s : ℕ) → contains w.unfinished.sectors s ≡ contains v.shadow.unfinished.sectors s
    same_unfinished s = ap (λ (a : Area). contains a.sectors s) unfinished

    kept_out : (s : ℕ) → contains w.kept.sectors s ≡ true → contains v.shadow.unfinished.sectors s ≡ false
    kept_out s there = elim (or_cases (contains v.shadow.kept.sectors s) (contains v.shadow.removed.sectors s && is_held v.shadow.held s) (kept_passes s there)) [
      | inl so ↦ whole.once.kept s so
      | inr went ↦ (or_parts (contains v.shadow.kept.sectors s) (contains v.shadow.unfinished.sectors s) (whole.once.removed s (and_parts (contains v.shadow.removed.sectors s) (is_held v.shadow.held s) went).0)).1
    ]

    kept_read : (s : ℕ) → contains w.kept.sectors s ≡ true → is_held w.held s ≡ true
    kept_read s there = ap (λ (slots : Slots). is_held slots s) held ∙ elim (or_cases (contains v.shadow.kept.sectors s) (contains v.shadow.removed.sectors s && is_held v.shadow.held s) (kept_passes s there)) [
      | inl so ↦ whole.once.readers s so
      | inr went ↦ (and_parts (contains v.shadow.removed.sectors s) (is_held v.shadow.held s) went).1
    ]

    pub once_then : WaitsOnce w
    once_then = record {
      removed = λ s there. absurd (both_ways (contains w.removed.sectors s) (none_removed s) there);
      kept = λ s there. same_unfinished s ∙ kept_out s there;
      readers = kept_read;
      slots = ap (λ (slots : Slots). length slots) held ∙ whole.once.slots;
    }

    -- a sector that is free now was free, or went and nobody holds it
    apart_then : (s : ℕ) → contains map.sectors s ≡ true → waits_in w s ≡ false
    apart_then s is = or_from (contains w.removed.sectors s) (contains w.kept.sectors s || contains w.unfinished.sectors s) (none_removed s)
        (elim (or_cases (contains v.map.sectors s) (contains (unheld v.shadow.held v.shadow.removed).sectors s)
        (free_passes v.map.from v.map.to (λ t. contains v.map.sectors t || contains (unheld v.shadow.held v.shadow.removed).sectors t) s (ap (λ (a : Area). contains a.sectors s) (sym map_is) ∙ is))) [
          | inl was ↦
              let none = or_parts (contains v.shadow.removed.sectors s) (contains v.shadow.kept.sectors s || contains v.shadow.unfinished.sectors s) (whole.apart s was) in
              let rest = or_parts (contains v.shadow.kept.sectors s) (contains v.shadow.unfinished.sectors s) none.1 in
              or_from (contains w.kept.sectors s) (contains w.unfinished.sectors s)
              (false_from_ne_true (contains w.kept.sectors s) (λ there. both_ways (was_kept s) (or_from (contains v.shadow.kept.sectors s) _ rest.0 (ap (λ (b : Bool). b && is_held v.shadow.held s) none.0)) (kept_passes s there)))
              (same_unfinished s ∙ rest.1)
          | inr went ↦
              let parts = and_parts (contains v.shadow.removed.sectors s) (not (is_held v.shadow.held s)) (free_passes v.shadow.removed.from v.shadow.removed.to (λ t. contains v.shadow.removed.sectors t && not (is_held v.shadow.held t)) s went) in
              let rest = or_parts (contains v.shadow.kept.sectors s) (contains v.shadow.unfinished.sectors s) (whole.once.removed s parts.0) in
              or_from (contains w.kept.sectors s) (contains w.unfinished.sectors s)
              (false_from_ne_true (contains w.kept.sectors s) (λ there. both_ways (was_kept s) (or_from (contains v.shadow.kept.sectors s) _ rest.0 (and_right (contains v.shadow.removed.sectors s) (is_held v.shadow.held s) (not-true (is_held v.shadow.held s) parts.1))) (kept_passes s there)))
              (same_unfinished s ∙ rest.1)
        ])

    pub whole_forced : IsWholeVolume (record v { map = map; shadow = w; log = log; cache = cache })
    whole_forced = record {
      planned = whole.planned;
      map = subst (IsOfData v.layout) (sym map_is)
          (of_test v.layout v.map (λ s. contains v.map.sectors s || contains (unheld v.shadow.held v.shadow.removed).sectors s) whole.map (λ s there. (freed_within v whole s there).1));
      removed = subst (IsOfData v.layout) ((λ i. record { from = v.map.from; to = v.map.to; sectors = nothing v.map.from v.map.to i }) ∙ sym removed) none_of_data;
      kept = subst (IsOfData v.layout) (sym kept) (of_test v.layout v.shadow.kept was_kept whole.kept kept_below);
      unfinished = subst (IsOfData v.layout) (sym unfinished) whole.unfinished;
      apart = apart_then;
      once = once_then;
      log = ap (λ (x : LogValue). x.layout) log_is ∙ forced_layout v.log (ascending_of v.cache.dirty) ∙ whole.log;
      epoch = whole.epoch ∙ sym (ap (λ (x : LogValue). x.anchor.epoch) log_is ∙ forced_epoch v.log (ascending_of v.cache.dirty));
      pages = whole.pages;
      room = ap (λ (c : CacheValue). c.frames) cache_is ∙ whole.room;
      unpinned = λ page. ap (λ (c : CacheValue). pins_of c page) cache_is ∙ stamped_pins v.log v.cache page ∙ whole.unpinned page;
      waiting = λ up page is. absurd (let e : is_among cache.dirty page ≡ false = ap (λ (c : CacheValue). is_among c.dirty page) cache_is in cc (is, e));
      numbered = λ up. inl (ap (λ (c : CacheValue). c.dirty) cache_is);
      still = λ e. ap (λ (a : Area). a.sectors) removed;
    }

  -- and where one has failed
  module _ (log : LogValue) (cache : CacheValue) (place n : ℕ) (Q : Type 0) (log_is : (log ≡ v.log) ⊎ ((log ≡ log_before v.log n) × Q)) (cache_is : cache ≡ stamped_for v.log v.cache) where
    layout_then : (log ≡ v.log) ⊎ ((log ≡ log_before v.log n) × Q) → log.layout ≡ v.log.layout
    layout_then (inl same) = ap (λ (x : LogValue). x.layout) same
    layout_then (inr entered) = ap (λ (x : LogValue). x.layout) entered.0 ∙ before_layout v.log n

    epoch_then : (log ≡ v.log) ⊎ ((log ≡ log_before v.log n) × Q) → log.anchor.epoch ≡ v.log.anchor.epoch
    epoch_then (inl same) = ap (λ (x : LogValue). x.anchor.epoch) same
    epoch_then (inr entered) = ap (λ (x : LogValue). x.anchor.epoch) entered.0 ∙ entered_epoch v.log n

    pub whole_down : IsWholeVolume (record v { log = log; cache = cache; down = Some place })
    whole_down = record {
      planned = whole.planned;
      map = whole.map;
      removed = whole.removed;
      kept = whole.kept;
      unfinished = whole.unfinished;
      apart = whole.apart;
      once = whole.once;
      log = layout_then log_is ∙ whole.log;
      epoch = whole.epoch ∙ sym (epoch_then log_is);
      pages = whole.pages;
      room = ap (λ (c : CacheValue). c.frames) cache_is ∙ whole.room;
      unpinned = λ page. ap (λ (c : CacheValue). pins_of c page) cache_is ∙ stamped_pins v.log v.cache page ∙ whole.unpinned page;
      waiting = λ up. absurd (cc up);
      numbered = λ up. absurd (cc up);
      still = λ e. whole.still (sym (ap (λ (c : CacheValue). c.dirty) cache_is) ∙ e);
    }
