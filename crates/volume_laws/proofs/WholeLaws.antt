-- A volume is whole once its table was edited in the cache.
use Rattle.std.proofs.Common.{◌≡◌, inr, ℕ, ◌-◌, ◌^◌, ◌<◌, Bool, true, false, List, [], ◌∷◌, length, Option, None, refl, sym, ap, subst, ◌∙◌}
use Rattle.std.specs.Prelude.{nat_eq}
use Rattle.std.proofs.lemmas.Bool.{eq-eqb, or_left}
use Rattle.fsd_bytes.specs.declared.refusal.Refusal.{Refusal}
use Rattle.sector_disk.specs.declared.machine.Machine.{Ghosts as MachineGhosts}
use Rattle.page_cache.specs.declared.source.PageSource.{Ghosts as SourceGhosts}
use Rattle.page_cache.specs.Cache.{CacheValue, is_among}
use Rattle.group_commit.specs.Cached.{AreWaiting}
use Rattle.cached_table.specs.Editing.{EditsOnly}
use Rattle.volume_laws.specs.Volume.{IsWholeVolume, VolumeValue}

-- no page is dirty now, so none was
none_were : (old new : List ℕ) → ((page : ℕ) → is_among old page ≡ true → is_among new page ≡ true) → new ≡ [] → old ≡ []
none_were [] new more none = refl
none_were (page ∷ old) new more none = absurd (by (more page (here page old)))
  where
    here : (page : ℕ) (old : List ℕ) → is_among (page ∷ old) page ≡ true
    here page old = or_left (nat_eq page page) _ (eq-eqb page page refl)

    by : is_among new page ≡ true → ⊥
    by is = let none_is : is_among new page ≡ false = ap (λ (d : List ℕ). is_among d page) none in absurd (cc (is, none_is))

module _ {D E : Type 0} (M : MachineGhosts D) (S : SourceGhosts E) (source : E) (m m' : D) (v w : VolumeValue) (is : v ≡ w) (whole : IsWholeVolume v) (refusal : Option Refusal) (c : CacheValue) (flags : List Bool)
    (edits : EditsOnly M S source refusal m m' v.cache c v.free_pages flags) (waits : AreWaiting (length v.free_pages) v.cache → AreWaiting (length v.free_pages) c)
    (up : w.down ≡ None) (numbered : w.log.head.number < 2 ^ 32 - 1) where
  -- its pages were edited in the cache, and nothing else
  pub whole_edited : IsWholeVolume (record v { cache = c; free_pages = flags })
  whole_edited = record {
    planned = whole.planned;
    map = whole.map;
    removed = whole.removed;
    kept = whole.kept;
    unfinished = whole.unfinished;
    apart = whole.apart;
    once = whole.once;
    log = whole.log;
    epoch = whole.epoch;
    pages = edits.size ∙ whole.pages;
    room = edits.fills.frames ∙ whole.room;
    unpinned = edits.ready.unpinned;
    waiting = λ still_up.
        subst (λ (n : ℕ). AreWaiting n c) whole.pages
        (waits (subst (λ (n : ℕ). AreWaiting n v.cache) (sym whole.pages) (whole.waiting (ap (λ (x : VolumeValue). x.down) is ∙ up))));
    numbered = λ still_up. inr (subst (λ (x : VolumeValue). x.log.head.number < 2 ^ 32 - 1) (sym is) numbered);
    still = λ none. whole.still (none_were v.cache.dirty c.dirty edits.fills.dirty none);
  }
