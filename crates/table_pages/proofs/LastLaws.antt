-- What a source knows lasts while the disk wears, and so do the newest images of its pages.
use Rattle.std.proofs.Common.{◌≡◌, ℕ}
use Rattle.sector_disk.specs.Image.{IsWorn, open_damage}
use Rattle.sector_disk.specs.Machine.{Moment, Wears}
use Rattle.page_cache.specs.declared.source.PageSource.{Ghosts as SourceGhosts}

-- the laws of a source
pub record Lasts {E : Type 0} (S : SourceGhosts E) : Type 0 where
  pub knows : (s : E) (old new : Moment) → IsWorn (open_damage old.windows) old.image new.image → new.windows ≡ old.windows → S.knows s old → S.knows s new
  pub newest : (s : E) (old new : Moment) (page : ℕ) → IsWorn (open_damage old.windows) old.image new.image → new.windows ≡ old.windows → S.knows s old
      → S.newest s new.image page ≡ S.newest s old.image page

module _ {E : Type 0} (S : SourceGhosts E) (lasts : Lasts S) (source : E) (old new : Moment) (worn : Wears old new) (known : S.knows source old) where
  pub knows_on : S.knows source new
  knows_on = lasts.knows source old new worn.image worn.windows known

  pub newest_on : (page : ℕ) → S.newest source new.image page ≡ S.newest source old.image page
  newest_on page = lasts.newest source old new page worn.image worn.windows known

  pub same_newest : S.newest source new.image ≡ S.newest source old.image
  same_newest = λ i page. newest_on page i
