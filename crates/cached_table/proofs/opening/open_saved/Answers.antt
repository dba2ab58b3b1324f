use Rattle.std.proofs.Common.{◌≡◌, Bool, List, length, sym, ap, subst, ◌∙◌, arith}
use Rattle.volume_layout.proofs.RootLaws.{planned_bounds}
use Rattle.page_cache.specs.Cache.{CacheValue, pins_of}
use Rattle.fsd_formats.specs.SavedMap.{is_set_in}
use Rattle.table_survey.specs.Claims.{IsOfData}
use Rattle.table_survey.proofs.DataLaws.{data_own}
use Rattle.cached_table.proofs.opening.open_saved.Goals as goal

pub of-requires : goal.of-requires
of-requires c = let bounds = planned_bounds c.args.l.now c.requires.planned in omega (arith, c.requires.of.is.pages, bounds.pages_most)

pub returns-in-Ok-clause-opened : goal.returns-in-Ok-clause-opened
returns-in-Ok-clause-opened c =
    let l = c.args.l.now in
    let fresh = c.in-Ok.ensures.ok in
    let of = c.requires.of in
    record {
      frames_are = ap (λ (x : CacheValue). x.frames) fresh;
      dirty = ap (λ (x : CacheValue). x.dirty) fresh;
      unpinned = λ page. ap (λ (x : CacheValue). pins_of x page) fresh;
      pages = ap (λ (flags : List Bool). length flags) c.of.ensures ∙ of.is.pages;
      map = subst (IsOfData l) (sym of.is.map) (data_own l (is_set_in of.sectors));
    }

pub returns-in-Ok-clause-is : goal.returns-in-Ok-clause-is
returns-in-Ok-clause-is c = λ i. record { cache = c.in-Ok.ensures.ok i; free_pages = c.of.ensures i; map = c.args.saved.map; versions = c.args.saved.versions }
