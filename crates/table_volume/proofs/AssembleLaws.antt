-- The volume that a mount assembles.
use Rattle.std.proofs.Common.{inl, ◌≡◌, ℕ, false, ◌&&◌, ◌||◌, List, [], replicate, None, refl, sym, ap, ◌∙◌}
use Rattle.std.specs.Prelude.{nat_lt}
use Rattle.std.proofs.Math.Bool.{and-false}
use Rattle.std.proofs.lemmas.Bool.{true≢false}
use Rattle.page_cache.specs.Cache.{is_among}
use Rattle.volume_layout.specs.declared.layout.Layout.{Layout}
use Rattle.volume_layout.specs.Layout.{data_start, most_of, IsPlanned}
use Rattle.run_table.specs.Space.{contains}
use Rattle.sector_set.specs.Area.{area}
use Rattle.sector_set.proofs.FreeLaws.{where_same}
use Rattle.shadow_frees.specs.Waits.{Waits, waits_in}
use Rattle.log_thirds.specs.LogValue.{LogValue}
use Rattle.table_volume.specs.Mounting.{assembled, no_area, none_waits}
use Rattle.cached_table.specs.Opening.{IsOpened}
use Rattle.volume_laws.specs.Volume.{IsWholeVolume}
use Rattle.volume_laws.proofs.FreeLaws.{nothing}
use Rattle.table_survey.specs.Claims.{IsOfData}
use Rattle.cached_table.specs.declared.opening.Opened.{Opened}

-- ---- no sector

module _ (l : Layout) where
  pub none_of_area : (no_area l).sectors ≡ []
  none_of_area = nothing (data_start l) (most_of l)

  none_of_data : IsOfData l (no_area l)
  none_of_data = ap (λ (xs : List ℕ). record { from = data_start l; to = most_of l; sectors = xs })
      (where_same (λ s. false) (λ s. nat_lt s l.sectors && contains (no_area l).sectors s) (data_start l) (most_of l)
      (λ s low high. sym (ap (λ (xs : List ℕ). nat_lt s l.sectors && contains xs s) none_of_area ∙ and-false (nat_lt s l.sectors))))

  pub none_wait : (s : ℕ) → waits_in (none_waits l) s ≡ false
  none_wait s = ap (λ (xs : List ℕ). contains xs s || (contains xs s || contains xs s)) none_of_area

  -- ---- the parts

  pub no_waits : (w : Waits) (a b : ℕ) → a ≡ data_start l → b ≡ most_of l → w.removed ≡ area a b (λ s. false) → w.kept ≡ area a b (λ s. false) → w.unfinished ≡ area a b (λ s. false) → w.held ≡ replicate 8 None → w ≡ none_waits l
  no_waits w a b start end removed kept unfinished held =
      let same : area a b (λ s. false) ≡ no_area l = ap (λ (n : ℕ). area n b (λ s. false)) start ∙ ap (λ (n : ℕ). area (data_start l) n (λ s. false)) end in
      let r = removed ∙ same in let k = kept ∙ same in let u = unfinished ∙ same in
      λ i. record { removed = r i; kept = k i; unfinished = u i; held = held i }

  module _ (log : LogValue) (o : Opened) where
    pub made : (w : Waits) (epoch : ℕ) → w ≡ none_waits l → epoch ≡ log.anchor.epoch
        → record { layout = l; map = o.map; shadow = w; log = log; cache = o.cache; free_pages = o.free_pages; serial = record { epoch = epoch; count = 1 }; versions = o.versions; down = None } ≡ assembled l log o
    made w epoch none same = λ i. record {
      layout = l;
      map = o.map;
      shadow = none i;
      log = log;
      cache = o.cache;
      free_pages = o.free_pages;
      serial = record { epoch = same i; count = 1 };
      versions = o.versions;
      down = None;
    }

    pub whole_assembled : IsPlanned l → log.layout ≡ l → IsOpened l o → IsWholeVolume (assembled l log o)
    whole_assembled planned layout opened = record {
      planned = planned;
      map = opened.map;
      removed = none_of_data;
      kept = none_of_data;
      unfinished = none_of_data;
      apart = λ s there. none_wait s;
      once = record {
        removed = λ s there. ap (λ (xs : List ℕ). contains xs s || contains xs s) none_of_area;
        kept = λ s there. ap (λ (xs : List ℕ). contains xs s) none_of_area;
        readers = λ s there. absurd (let none : contains (no_area l).sectors s ≡ false = ap (λ (xs : List ℕ). contains xs s) none_of_area in cc (there, none));
        slots = refl;
      };
      log = layout;
      epoch = refl;
      pages = opened.pages;
      room = opened.frames_are;
      unpinned = opened.unpinned;
      waiting = λ up page dirty. absurd (true≢false (sym dirty ∙ ap (λ (d : List ℕ). is_among d page) opened.dirty));
      numbered = λ up. inl opened.dirty;
      still = λ none. none_of_area;
    }
