-- What a table over a cache leaves where it was surveyed.
use Rattle.std.proofs.Common.{◌≡◌, inl, inr, ℕ, ◌<◌, Bool, List, length, Option, Result, Ok, Err, sym, ap, subst, ◌∙◌, arith}
use Rattle.std.specs.Prelude.{IfErr, IfOk}
use Rattle.std.specs.Borrow.{MutBor}
use Rattle.fsd_bytes.specs.declared.refusal.Refusal.{Refusal}
use Rattle.fsd_bytes.specs.declared.refusal.Refusal.TheVariants as Why
use Rattle.volume_layout.specs.declared.layout.Layout.{Layout}
use Rattle.fsd_table.specs.Breaks.{Breaks}
use Rattle.sector_disk.specs.declared.machine.Machine.{Ghosts as MachineGhosts}
use Rattle.page_cache.specs.declared.source.PageSource.{Ghosts as SourceGhosts}
use Rattle.page_cache.specs.Cache.{CacheValue, newest_bytes}
use Rattle.name_page.specs.Pages.{Step}
use Rattle.name_btree.specs.declared.fault.TreeFault.{TreeFault}
use Rattle.name_btree.specs.declared.fault.TreeFault.TheVariants.{Pages, Broken}
use Rattle.name_btree.specs.Fault.{BarsTable, HasTreeCause, IsAmong, IsCaused}
use Rattle.sector_set.specs.Area.{Area}
use Rattle.table_pages.specs.Bringing.{IsTrusted, given_by, home_in}
use Rattle.table_pages.specs.ImageLaws.{image_count}
use Rattle.table_pages.specs.Table.{IsOver, LeavesTable, ReadsOnly, Trusted, fresh_step, step_of}
use Rattle.table_pages.specs.declared.table.Table.{Table}
use Rattle.table_survey.specs.Survey.{IsSurveyed, SurveysWhole}
use Rattle.table_survey.specs.declared.surveying.TableCounts.{TableCounts}
use Rattle.cached_table.specs.Looking.{BarsPages, images_by}
use Rattle.cached_table.proofs.LeftLaws.{clean_left, fills_left, images_left, loses_left, reads_left, trusted_left}
use Rattle.cached_table.specs.Surveying.{SurveyFails, SurveyFaultIn, SurveysOnly, SurveysTable}

module _ {D E : Type 0} {M : MachineGhosts D} {S : SourceGhosts E} where
  -- a table has as many pages as can be free
  pub as_long : (t : Table D E M S) → length (step_of t).images ≡ length t.free.now
  as_long t = image_count (newest_bytes t.cache.now (given_by M S t.source.now t.m.now)) (length t.free.now)

  module _ {refusal : Option Refusal} {m : MutBor D} {cache : MutBor CacheValue} {source : E} {free : MutBor (List Bool)} {home_a : ℕ} {a b : Table D E M S} {m' : D} {cache' : CacheValue} {free' : List Bool}
      (over : IsOver m cache source free a) (begins : step_of a ≡ fresh_step (given_by M S source m.now) cache.now free.now home_a)
      (spares : (step_of b).spares ≡ (step_of a).spares) (home : (step_of b).home_a ≡ (step_of a).home_a) (changed : (step_of b).changed ≡ (step_of a).changed)
      (stays : Trusted b → (step_of b).images ≡ (step_of a).images) (outside : ReadsOnly refusal a b) (left : LeavesTable b m' cache' free') where
    free_b : b.free.now ≡ free.now
    free_b = spares ∙ ap (λ (f : MutBor (List Bool)). f.now) over.spared

    trusted_b : IsTrusted M S source m.now cache.now m' → Trusted b
    trusted_b = trusted_left over outside left

    -- the images at first, and in the end
    images_first : (step_of a).images ≡ images_by M S source m.now cache.now (length free.now)
    images_first = ap (λ (s : Step). s.images) begins

    images_last : images_by M S source m' cache' (length free.now) ≡ (step_of b).images
    images_last = ap (λ (f : List Bool). images_by M S source m' cache' (length f)) (sym (left.flags ∙ free_b)) ∙ images_left over outside left

    images_still : Trusted b → (step_of b).images ≡ images_by M S source m.now cache.now (length free.now)
    images_still t = stays t ∙ images_first

    -- ---- what is told

    pub told_of : (l : Layout) (map : Area) (marks : List Bool) (r : Result TableCounts TreeFault) → IfOk r (SurveysWhole (Trusted b) l (step_of a) map marks)
        → IfOk r (SurveysTable M S source l m.now m' cache.now free.now home_a map marks)
    told_of l map marks (Err f) surveys = tt
    told_of l map marks (Ok s) surveys = record {
      area_is = surveys.area_is;
      counted = surveys.counted;
      surveyed = λ t. subst (λ (step : Step). IsSurveyed l step map marks s) begins (surveys.told (trusted_b t));
      unbroken = λ t page breaks. surveys.unbroken (trusted_b t) page (subst (λ (images : List (List ℕ)). Breaks l images page) (sym images_first) breaks);
    }

    -- ---- why it fails

    module _ (l : Layout) (some : 0 < length free.now) where
      count_first : length (step_of a).images ≡ length free.now
      count_first = ap (λ (images : List (List ℕ)). length images) images_first ∙ image_count (newest_bytes cache.now (given_by M S source m.now)) (length free.now)

      abbrev Fault : TreeFault → Type 0
      Fault f = SurveyFaultIn (IsTrusted M S source m.now cache.now m') l (images_by M S source m.now cache.now (length free.now)) free.now home_a f

      home_is : (step_of b).home_a ≡ home_a
      home_is = home ∙ ap (λ (s : Step). s.home_a) begins

      fault_there : (f : TreeFault) → HasTreeCause (step_of b) (λ page. Trusted b → Breaks l (step_of b).images page) (λ page. Trusted b → BarsTable (step_of b) page) f
          → (0 < length (step_of a).images → IsAmong (length (step_of a).images) f) → Fault f
      fault_there (Broken page) cause among =
          let there : page < length (step_of a).images = among (omega (arith, some, count_first)) in (
            omega (arith, there, count_first),
            λ t. subst (λ (images : List (List ℕ)). Breaks l images page) (images_still (trusted_b t)) (cause (trusted_b t)),
          )
      fault_there (Pages r) cause among = by cause.1
        where
          by : IsCaused (step_of b) (λ page. Trusted b → BarsTable (step_of b) page) r → Fault (Pages r)
          by (inl outer) = inl outer
          by (inr bars) = inr (
            bars.0,
            bars.1 ∙ ap (λ (h : ℕ). Why.Unsound (home_in h bars.0)) home_is,
            λ t. subst (λ (images : List (List ℕ)). BarsPages images free.now bars.0) (images_still (trusted_b t))
                (subst (λ (flags : List Bool). BarsPages (step_of b).images flags bars.0) free_b (bars.2 (trusted_b t))),
          )

      pub fails_of : {T : Type 0} → (r : Result T TreeFault) → IfErr r (HasTreeCause (step_of b) (λ page. Trusted b → Breaks l (step_of b).images page) (λ page. Trusted b → BarsTable (step_of b) page))
          → (0 < length (step_of a).images → IfErr r (IsAmong (length (step_of a).images))) → IfErr r (SurveyFails M S source l m.now m' cache.now free.now home_a)
      fails_of (Ok x) cause among = tt
      fails_of (Err f) cause among = record { cause = fault_there f cause among }

    -- ---- what is left

    pub surveys_left : SurveysOnly M S source refusal m.now m' cache.now cache' (length free.now)
    surveys_left = record {
      reads = reads_left over outside left;
      loses = loses_left over outside left;
      frames = (fills_left over outside left).frames;
      dirty = left.pins.dirty ∙ changed ∙ ap (λ (x : MutBor CacheValue). x.now.dirty) over.cached;
      unpinned = left.ready.unpinned;
      clean = clean_left over outside left;
      stays = λ t. images_last ∙ images_still (trusted_b t);
    }
