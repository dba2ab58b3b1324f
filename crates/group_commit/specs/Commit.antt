-- What a force of a cache says.
use Rattle.std.specs.Prelude.{◌≡◌, ◌⊎◌, IsTrue, ℕ, ◌+◌, List, [], length, Some}
use Rattle.run_table.specs.Space.{contains}
use Rattle.sector_disk.specs.declared.machine.LoadFault.{LoadFault}
use Rattle.sector_disk.specs.declared.machine.Machine.{Ghosts}
use Rattle.sector_disk.specs.declared.sector.WeakRun.{WeakRun}
use Rattle.sector_disk.specs.Damage.{IsDevice}
use Rattle.sector_disk.specs.Written.{WroteMost}
use Rattle.volume_layout.specs.Kinds.{gap_of}
use Rattle.fsd_formats.specs.Record.{record_len}
use Rattle.fsd_log.specs.Scan.{Placed}
use Rattle.fsd_sound.specs.Sound.{EndIn}
use Rattle.log_thirds.specs.Append.{stamp_now, log_with}
use Rattle.log_thirds.specs.LogValue.{LogValue}
use Rattle.page_cache.specs.Cache.{CacheValue, cached_bytes, cleaned}
use Rattle.group_commit.specs.declared.force.ForcedPages.{ForcedPages}
use Rattle.group_commit.specs.Cached.{AgreesWith, ascending_of, stamped_for, with_waiting}
use Rattle.group_commit.specs.Entering.{LosesLogged, RecordCause}
use Rattle.group_commit.specs.Force.{Committed, StandsOverDisk, log_forced, sectors_written, stamped_by}
use Rattle.fsd_sound.specs.Logged.{StandsLogged}
use Rattle.group_commit.specs.Newest.{KnowsImages}
use Rattle.group_commit.specs.Resident.{stamped}
use Rattle.group_commit.specs.Room.{log_before, sectors_before}

-- A record of so many pages fails: the log is the old one; or, where the write of the record itself failed, the one that
-- it goes behind. A page is lost only where both sectors of its last image in the log read damaged.
pub record RecordFails {D : Type 0} (M : Ghosts D) (log after : LogValue) (n : ℕ) (old new : D) (fault : LoadFault) : Type 0 where
  pub cause : RecordCause log n fault
  pub past : (after ≡ log) ⊎ ((after ≡ log_before log n) × (M.tells new → (M.ledger new).written ≡ (M.ledger old).written + sectors_before log n))
  pub counted : M.tells new → WroteMost (sectors_before log n) (M.ledger old) (M.ledger new)
  pub lost : M.honest new → LosesLogged log (M.now new).image fault

-- The record of these pages stands behind the log's others. Of whatever table they are the images for, at the end the disk
-- shows it with them stamped, and the log knows where each page's last image lies, as it did before.
pub record LogsPages {D : Type 0} (M : Ghosts D) (log after : LogValue) (AreFor : List (List ℕ) → Type 0) (dirty : List ℕ) (old new : D) : Type 0 where
  pub past : after ≡ log_with (log_before log (length dirty)) dirty
  pub counted : M.tells new → (M.ledger new).written ≡ (M.ledger old).written + (sectors_before log (length dirty) + record_len (gap_of log.layout) (length dirty))
  pub shows : (pages : List (List ℕ)) (windows : List WeakRun) (records : List Placed) (disk : List (List ℕ)) →
      AreFor pages → M.honest new → EndIn (M.now old).windows windows →
      StandsOverDisk log records disk (record { pages = pages; dirty = dirty }) windows (M.now old).image →
      KnowsImages log (M.now old).image →
      Committed after (record { pages = stamped (stamp_now log) dirty pages; dirty = [] }) windows (M.now new).image
  pub knows : (pages : List (List ℕ)) (windows : List WeakRun) (records : List Placed) (disk : List (List ℕ)) →
      AreFor pages → M.honest new → EndIn (M.now old).windows windows →
      StandsOverDisk log records disk (record { pages = pages; dirty = dirty }) windows (M.now old).image →
      KnowsImages log (M.now old).image → KnowsImages after (M.now new).image

-- It fails, and over a disk that shows such a table none is lost.
pub record LogsNoPages {D : Type 0} (M : Ghosts D) (log after : LogValue) (AreFor : List (List ℕ) → Type 0) (dirty : List ℕ) (old new : D) (fault : LoadFault) : Type 0 where
  pub write : RecordFails M log after (length dirty) old new fault
  pub never_lost : (pages : List (List ℕ)) (windows : List WeakRun) (records : List Placed) (disk : List (List ℕ)) →
      AreFor pages → M.honest new → EndIn (M.now old).windows windows →
      StandsOverDisk log records disk (record { pages = pages; dirty = dirty }) windows (M.now old).image →
      KnowsImages log (M.now old).image → IsDevice fault

-- The dirty pages are stamped, in a record behind the log's others, and are dirty no more. At the end the disk shows the
-- pages as they are now, and the log knows where each page's last image lies, as it did before. Whatever the disk shows,
-- the bytes of each page that was dirty stand in the log.
pub record Forces {D : Type 0} (M : Ghosts D) (log after : LogValue) (c d : CacheValue) (old new : D) (forced : ForcedPages) : Type 0 where
  pub pages : forced.pages ≡ length c.dirty
  pub cache : d ≡ cleaned (stamped_for log c)
  pub past : after ≡ log_forced log (ascending_of c.dirty)
  pub counted : M.tells new → (M.ledger new).written ≡ (M.ledger old).written + sectors_written log c.dirty
  pub shows : (pages : List (List ℕ)) (windows : List WeakRun) (records : List Placed) (disk : List (List ℕ)) →
      AgreesWith log.layout c pages → M.honest new → EndIn (M.now old).windows windows →
      StandsOverDisk log records disk (with_waiting c pages) windows (M.now old).image →
      KnowsImages log (M.now old).image →
      Committed after (record { pages = stamped_by log (with_waiting c pages); dirty = [] }) windows (M.now new).image
  pub knows : (pages : List (List ℕ)) (windows : List WeakRun) (records : List Placed) (disk : List (List ℕ)) →
      AgreesWith log.layout c pages → M.honest new → EndIn (M.now old).windows windows →
      StandsOverDisk log records disk (with_waiting c pages) windows (M.now old).image →
      KnowsImages log (M.now old).image → KnowsImages after (M.now new).image
  pub logged : M.honest new → (page : ℕ) (bytes : List ℕ) → IsTrue (contains c.dirty page) → cached_bytes d page ≡ Some bytes → StandsLogged after.layout after.slots (M.now new) page bytes

-- The dirty pages are stamped and stay dirty. Over a disk that shows pages none is lost.
pub record ForceFails {D : Type 0} (M : Ghosts D) (log after : LogValue) (c d : CacheValue) (old new : D) (fault : LoadFault) : Type 0 where
  pub cache : d ≡ stamped_for log c
  pub write : RecordFails M log after (length c.dirty) old new fault
  pub never_lost : (pages : List (List ℕ)) (windows : List WeakRun) (records : List Placed) (disk : List (List ℕ)) →
      AgreesWith log.layout c pages → M.honest new → EndIn (M.now old).windows windows →
      StandsOverDisk log records disk (with_waiting c pages) windows (M.now old).image →
      KnowsImages log (M.now old).image → IsDevice fault
