-- What a fetch of a page says.
use Rattle.std.specs.Prelude.{◌≡◌, ℕ, List, IfSome}
use Rattle.sector_disk.specs.declared.machine.Machine.{Ghosts as MachineGhosts}
use Rattle.page_cache.specs.declared.fault.CacheFault.{CacheFault}
use Rattle.page_cache.specs.declared.source.PageSource.{Ghosts as SourceGhosts}
use Rattle.page_cache.specs.Cache.{CacheValue, busy, cached_bytes, entered_page, frame_for}
use Rattle.page_cache.specs.Fetch.{IsNotLost, LostAsTold}

-- As many frames as before, and as many of them in use.
pub record KeepsFrames (old new : CacheValue) : Type 0 where
  pub in_use : busy new ≡ busy old
  pub frames : new.frames ≡ old.frames

module _ {D E : Type 0} (M : MachineGhosts D) (S : SourceGhosts E) (source : E) (page : ℕ) where
  -- The page has entered, with what the source gave: it stood in one of its copies, and is the newest image.
  pub record TakesIn (m m' : D) (old new : CacheValue) (at : ℕ) : Type 0 where
    pub frame : at ≡ frame_for old
    pub enters : (bytes : List ℕ) × (new ≡ entered_page page bytes old)
    pub whole : M.honest m' → IfSome (cached_bytes new page) (S.stands source page (M.now m).image)
    pub given : M.honest m' → S.knows source (M.now m) → S.newest source (M.now m).image page ≡ cached_bytes new page

  -- The cache is as it was. The page is lost only where both of its copies are damaged, and never where the source knows.
  pub record FetchesNone (m m' : D) (old new : CacheValue) (fault : CacheFault) : Type 0 where
    pub kept : new ≡ old
    pub lost : M.honest m' → LostAsTold (S.copies source page) (M.now m').image fault
    pub never_lost : M.honest m' → S.knows source (M.now m) → IsNotLost fault
