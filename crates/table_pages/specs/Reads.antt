-- What pages that are read from a source leave of the machine and of the cache.
use Rattle.std.specs.Prelude.{◌≡◌, ◌⊎◌, ⊤, ℕ, ◌<◌, false, true, List, Option, Some, None}
use Rattle.fsd_bytes.specs.declared.refusal.Refusal.{Refusal}
use Rattle.fsd_bytes.specs.declared.refusal.Refusal.TheVariants.{Device, Lost}
use Rattle.fsd_formats.specs.NamePage.{read_page}
use Rattle.sector_disk.specs.declared.machine.Machine.{Ghosts as MachineGhosts}
use Rattle.sector_disk.specs.declared.sector.Sector.{Sector}
use Rattle.sector_disk.specs.Damage.{AreLost}
use Rattle.sector_disk.specs.Image.{IsWorn, open_damage}
use Rattle.sector_disk.specs.Machine.{Moment}
use Rattle.page_cache.specs.declared.source.PageSource.{Ghosts as SourceGhosts}
use Rattle.page_cache.specs.Cache.{CacheValue, cached_bytes, is_among}

-- the place of the call of the disk that failed, where the outside refused so
abbrev pub outer_device : Option Refusal → Option ℕ
outer_device (Some (Device place)) = Some place
outer_device other = None

module _ {D E : Type 0} (M : MachineGhosts D) (S : SourceGhosts E) (source : E) where
  -- both copies of a page of the source are damaged
  pub record LosesPage (m : D) (a b : ℕ) : Type 0 where
    pub page : ℕ
    pub within : page < S.pages source
    pub lost : M.honest m → AreLost (S.copies source page) (M.now m).image a b

  -- so it is where the outside refused a page as lost
  abbrev pub LosesFor : Option Refusal → D → Type 0
  LosesFor (Some (Lost a b)) m = LosesPage m a b
  LosesFor other m = ⊤

  -- the bytes stood whole in one of a page's two copies, as the disk of this moment was worn since
  pub record StoodWhole (from : Moment) (page : ℕ) (bytes : List ℕ) : Type 0 where
    pub image : List Sector
    pub worn : IsWorn (open_damage from.windows) from.image image
    pub stands : S.stands source page image bytes

  -- No page becomes clean. One that is not dirty has the bytes that it had in the cache,
  -- or such as stood in one of its copies.
  pub record Fills (m m' : D) (old new : CacheValue) : Type 0 where
    pub frames : new.frames ≡ old.frames
    pub dirty : (page : ℕ) → is_among old.dirty page ≡ true → is_among new.dirty page ≡ true
    pub stood : M.honest m' → (page : ℕ) (bytes : List ℕ) → is_among new.dirty page ≡ false → cached_bytes new page ≡ Some bytes
        → (cached_bytes old page ≡ Some bytes) ⊎ StoodWhole (M.now m) page bytes

  -- the grammar refuses bytes that a page had in the cache, or in one of its copies, in a table of so many pages
  pub record HadRefused (from : Moment) (old : CacheValue) (pages page : ℕ) : Type 0 where
    pub bytes : List ℕ
    pub had : (cached_bytes old page ≡ Some bytes) ⊎ StoodWhole from page bytes
    pub none : read_page page pages bytes ≡ None
