-- What a scan finds, and what a read of a page's last image gives.
use Rattle.std.specs.Prelude.{◌≡◌, ◌-◌, ◌<◌, ◌^◌, ℕ, Bool, List, Some, None, if◌then◌else◌, slice_index_or}
use Rattle.volume_layout.specs.declared.layout.Layout.{Layout}
use Rattle.sector_disk.specs.declared.machine.LoadFault.{LoadFault}
use Rattle.sector_disk.specs.declared.machine.Machine.{Ghosts}
use Rattle.sector_disk.specs.declared.sector.Sector.{Sector}
use Rattle.sector_disk.specs.Damage.{IsDevice, LostCause}
use Rattle.sector_disk.specs.Image.{IsWorn, open_damage}
use Rattle.fsd_log.specs.Images.{last_image}
use Rattle.fsd_log.specs.Scan.{Placed}
use Rattle.log_thirds.specs.Append.{IsCalmNow, IsIndexed, scan_of}
use Rattle.log_thirds.specs.Images.{AreLogged, GivesLast, NamesSlot}
use Rattle.log_thirds.specs.LogValue.{LogValue}
use Rattle.log_thirds.specs.Reading.{SeesAnchor}
use Rattle.log_thirds.specs.Seen.{LogOn}

module _ {D : Type 0} (M : Ghosts D) where
  -- The log has this layout, in an epoch that is not the last. Its anchor was seen, and its records are those of any image
  -- that the disk may have been worn from.
  pub record Scans (l : Layout) (old new : D) (log : LogValue) : Type 0 where
    pub layout : log.layout ≡ l
    pub epoch : log.anchor.epoch < 2 ^ 32 - 1
    pub anchor : M.honest new → SeesAnchor (M.now old) (Some log.anchor)
    pub seen : (j : List Sector) → M.honest new → IsWorn (open_damage (M.now old).windows) j (M.now old).image → LogOn log (open_damage (M.now old).windows) j (M.now new).image

  module _ (log : LogValue) (page : ℕ) (old new : D) where
    -- Where nothing wears the page's last image is given, or the log has none. It is enough that a scan still gives the
    -- log's records, or that the page's own sectors still give its image, whatever a scan gives.
    pub record GivesImage (buf : List ℕ) (there : Bool) : Type 0 where
      pub image : (records : List Placed) → M.honest new → IsCalmNow (M.now old) → IsIndexed log records → (scan_of log (M.now old)).records ≡ records
          → last_image page records ≡ (if there then Some buf else None)
      pub given : (records : List Placed) → M.honest new → IsCalmNow (M.now old) → IsIndexed log records → GivesLast log records page (M.now old).image
          → last_image page records ≡ (if there then Some buf else None)

    -- What is lost lies at the page's slot, and both its copies are damaged. Where nothing wears the disk alone fails.
    pub record LosesImage (before after : List ℕ) (fault : LoadFault) : Type 0 where
      pub named : NamesSlot (slice_index_or log.slots page None) fault
      pub lost : M.honest new → LostCause (AreLogged log page) (M.now new).image fault
      pub never_lost : (records : List Placed) → M.honest new → IsCalmNow (M.now old) → IsIndexed log records → (scan_of log (M.now old)).records ≡ records → IsDevice fault
      pub none_lost : (records : List Placed) → M.honest new → IsCalmNow (M.now old) → IsIndexed log records → GivesLast log records page (M.now old).image → IsDevice fault
      pub kept : after ≡ before

-- No record of the log has the page, and nothing is read.
pub record LacksImage (log : LogValue) (page : ℕ) (before after : List ℕ) : Type 0 where
  pub nowhere : (records : List Placed) → IsIndexed log records → last_image page records ≡ None
  pub kept : after ≡ before
