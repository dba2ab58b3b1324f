-- A volume that stands still stands where its free sectors are written, and once its next serial is drawn.
use Rattle.std.proofs.Common.{◌≡◌, inl, ℕ, zero, suc, Bool, true, false, cond, nat_le, nat_lt, List, [], ◌∷◌, length, refl, sym, ap, subst, ◌∙◌, arith}
use Rattle.std.specs.Prelude.{◌⊎◌, IsTrue}
use Rattle.std.proofs.lemmas.Bool.{and_from, both_ways, le-leb, lt-ltb, or_left}
use Rattle.volume_layout.specs.Layout.{data_start, is_data}
use Rattle.fsd_bytes.specs.declared.key.Serial.{Serial}
use Rattle.run_table.specs.Space.{contains}
use Rattle.table_survey.proofs.DataLaws.{of_data_within}
use Rattle.sector_disk.specs.declared.sector.Sector.{Sector}
use Rattle.sector_disk.specs.declared.sector.Sector.TheVariants.{Damaged}
use Rattle.sector_disk.specs.Image.{AreShort, IsWorn, open_damage, sector_at}
use Rattle.sector_disk.specs.Machine.{Moment}
use Rattle.fsd_log.specs.Scan.{Walked}
use Rattle.fsd_files.specs.Disk.{Image, Sectors}
use Rattle.fsd_files.specs.Volume.{is_in}
use Rattle.fsd_files.proofs.WaitLaws.{open_taken}
use Rattle.fsd_sound.specs.Mounted.{IsMounted, SameTaken}
use Rattle.fsd_sound.specs.Shown.{records_by}
use Rattle.fsd_sound.proofs.MountedLaws.{drawn_mounted, mounted_sound, still_mounted, still_records}
use Rattle.fsd_sound.proofs.OpenLaws.{drafts_worn}
use Rattle.version_data.specs.Writing.{WritesIn}
use Rattle.volume_contract.specs.State.{Known, Leaves, LeavesSound, ListsPages, Stands, forced_of}
use Rattle.volume_laws.specs.Placing.{drawn_known, drawn_volume}
use Rattle.volume_laws.specs.State.{IsMemoryOf, state}
use Rattle.volume_laws.specs.Volume.{VolumeValue, IsWholeVolume}
use Rattle.volume_laws.specs.WearLaws.{stands_worn}

-- ---- an image with some sectors of another

-- the old image, but the sectors that pass the test are as they are left
abbrev pub merged : Sectors → Image → Image → Image
merged may [] left = []
merged may (x ∷ old) [] = x ∷ merged (λ s. may (suc s)) old []
merged may (x ∷ old) (y ∷ left) = cond (may 0) y x ∷ merged (λ s. may (suc s)) old left

pub merged_size : (may : Sectors) (old left : Image) → length (merged may old left) ≡ length old
merged_size may [] left = refl
merged_size may (x ∷ old) [] = ap suc (merged_size (λ s. may (suc s)) old [])
merged_size may (x ∷ old) (y ∷ left) = ap suc (merged_size (λ s. may (suc s)) old left)

pub merged_at : (may : Sectors) (old left : Image) → length left ≡ length old → (s : ℕ) → sector_at (merged may old left) s ≡ cond (may s) (sector_at left s) (sector_at old s)
merged_at may [] [] size s = by (may s)
  where
    by : (b : Bool) → sector_at [] s ≡ cond b (sector_at [] s) (sector_at [] s)
    by true = refl
    by false = refl
merged_at may [] (y ∷ left) size s = absurd (cc size)
merged_at may (x ∷ old) [] size s = absurd (cc size)
merged_at may (x ∷ old) (y ∷ left) size zero = by (may 0)
  where
    by : (b : Bool) → cond b y x ≡ cond b y x
    by b = refl
merged_at may (x ∷ old) (y ∷ left) size (suc s) = merged_at (λ s. may (suc s)) old left (omega (arith, size)) s

-- ---- free sectors are written

module _ (v : VolumeValue) (k : Known) (old left : Moment) (may : Sectors) (free : (s : ℕ) → IsTrue (may s) → IsTrue (contains v.map.sectors s)) (writes : WritesIn may old left) (stands : Stands state IsMemoryOf v k old) where
  abbrev between : Image
  between = merged may old.image left.image

  at : (s : ℕ) → sector_at between s ≡ cond (may s) (sector_at left.image s) (sector_at old.image s)
  at = merged_at may old.image left.image writes.touches.size

  taken_same : SameTaken k.mounted.volume old.image between
  taken_same s taken = by (may s) refl (at s)
    where
      by : (b : Bool) → may s ≡ b → sector_at between s ≡ cond b (sector_at left.image s) (sector_at old.image s) → sector_at between s ≡ sector_at old.image s
      by false is e = e
      by true is e = absurd (cc (free s is, stands.holds.map s, taken))

  size : length between ≡ length old.image
  size = merged_size may old.image left.image

  mounted : IsMounted k.mounted k.windows k.changes (forced_of k) between
  mounted = still_mounted k.mounted k.windows k.changes (forced_of k) old.image between size taken_same stands.disk

  same_records : records_by k.mounted.volume.layout old.image k.mounted.anchor ≡ records_by k.mounted.volume.layout between k.mounted.anchor
  unfolding mounted
  same_records =
      ap (λ (w : Walked). w.records) stands.disk.over.own.log.scanned
      ∙ sym (still_records k.mounted k.windows k.changes (forced_of k) old.image between size taken_same stands.disk)
      ∙ sym (ap (λ (w : Walked). w.records) mounted.over.own.log.scanned)

  -- as they are written and nothing wears
  stands_between : Stands state IsMemoryOf v k (record old { image = between })
  stands_between = record {
    fits = stands.fits;
    opened = stands.opened;
    holds = subst (IsMemoryOf v k.mounted) same_records stands.holds;
    lists = subst (ListsPages (state v) k.mounted.pages) same_records stands.lists;
    ends = stands.ends;
    disk = mounted;
    written = drafts_worn (open_damage old.windows) old.image between k.mounted.slices k.mounted.volume.drafts
        (λ s there. inl (taken_same s (open_taken k.mounted.volume s (or_left (is_in k.mounted.volume.drafts s) (is_in k.mounted.volume.held s) there)))) stands.written;
  }

  wears : IsWorn (open_damage old.windows) between left.image
  wears = record {
    size = writes.touches.size ∙ sym size;
    each = λ s. by s (may s) refl (at s);
  }
    where
      by : (s : ℕ) (b : Bool) → may s ≡ b → sector_at between s ≡ cond b (sector_at left.image s) (sector_at old.image s) → (sector_at left.image s ≡ sector_at between s) ⊎ (IsTrue (open_damage old.windows s) × (sector_at left.image s ≡ Damaged))
      by s true is e = inl (sym e)
      by s false is e = subst (λ (x : Sector). (sector_at left.image s ≡ x) ⊎ (IsTrue (open_damage old.windows s) × (sector_at left.image s ≡ Damaged))) (sym e) (writes.touches.others s is)

  pub stands_written : AreShort old.windows → Stands state IsMemoryOf v k left
  stands_written short = stands_worn v k (record old { image = between }) left short (record { image = wears; windows = writes.windows }) stands_between

  -- a stop leaves a sound disk
  pub leaves_written : AreShort old.windows → LeavesSound k may old left
  leaves_written short = record {
    sound = mounted_sound k.mounted k.windows k.changes (forced_of k) left.image (stands_written short).disk;
    roots = (stands_written short).disk.over.own.roots;
    windows = writes.windows;
    said = writes.said;
    touches = writes.touches;
  }

-- so it does of all that it may have been over
pub leaves_free : (v : VolumeValue) (old left : Moment) (may : Sectors) → AreShort old.windows → ((s : ℕ) → IsTrue (may s) → IsTrue (contains v.map.sectors s)) → WritesIn may old left → Leaves state IsMemoryOf v may old left
leaves_free v old left may short free writes k stands = leaves_written v k old left may free writes stands short

-- free sectors lie in the data area
pub writes_data : (v : VolumeValue) → IsWholeVolume v → (sectors : List ℕ) → ((s : ℕ) → IsTrue (contains sectors s) → IsTrue (contains v.map.sectors s)) → (old left : Moment) → WritesIn (contains sectors) old left → WritesIn (is_data v.layout) old left
writes_data v whole sectors free old left writes = record {
  touches = record { size = writes.touches.size; others = λ s out. writes.touches.others s (by s (contains sectors s) refl out) };
  windows = writes.windows;
  said = writes.said;
}
  where
    in_data : (s : ℕ) → contains v.map.sectors s ≡ true → is_data v.layout s ≡ true
    in_data s there =
        let within = of_data_within v.layout v.map whole.map s there in
        and_from (nat_le (data_start v.layout) s) (nat_lt s v.layout.sectors) (le-leb (data_start v.layout) s within.0) (lt-ltb s v.layout.sectors within.1)

    by : (s : ℕ) (b : Bool) → contains sectors s ≡ b → is_data v.layout s ≡ false → contains sectors s ≡ false
    by s false is out = is
    by s true is out = absurd (both_ways (is_data v.layout s) out (in_data s (free s is)))

-- ---- the next serial is drawn

pub stands_drawn : (v : VolumeValue) (k : Known) (now : Moment) → Stands state IsMemoryOf v k now → Stands state IsMemoryOf (drawn_volume v) (drawn_known k) now
stands_drawn v k now stands = record {
  fits = record {
    layout = stands.fits.layout;
    serial = ap (λ (s : Serial). record { epoch = s.epoch; count = suc s.count }) stands.fits.serial;
    anchor = stands.fits.anchor;
    head = stands.fits.head;
    dirty = stands.fits.dirty;
    free = stands.fits.free;
    freed = stands.fits.freed;
    waiting = stands.fits.waiting;
    waits = stands.fits.waits;
    held = stands.fits.held;
    unfinished = stands.fits.unfinished;
    pages_free = stands.fits.pages_free;
    versions = stands.fits.versions;
    up = stands.fits.up;
  };
  opened = record { drafts = stands.opened.drafts; slices = stands.opened.slices; places = stands.opened.places; bytes = stands.opened.bytes };
  holds = record {
    planned = stands.holds.planned;
    pages = stands.holds.pages;
    inside = stands.holds.inside;
    map = stands.holds.map;
    removed = stands.holds.removed;
    kept = stands.holds.kept;
    unfinished = stands.holds.unfinished;
    free_pages = stands.holds.free_pages;
    log = stands.holds.log;
    fits = stands.holds.fits;
    indexed = stands.holds.indexed;
  };
  lists = record { table = stands.lists.table; slots = stands.lists.slots; free_pages = stands.lists.free_pages };
  ends = stands.ends;
  disk = drawn_mounted k.mounted k.windows k.changes (forced_of k) now.image stands.disk;
  written = stands.written;
}

-- ---- nothing is written

pub leaves_still : (v : VolumeValue) (now : Moment) (may : Sectors) → Leaves state IsMemoryOf v may now now
leaves_still v now may k stands = record {
  sound = mounted_sound k.mounted k.windows k.changes (forced_of k) now.image stands.disk;
  roots = stands.disk.over.own.roots;
  windows = refl;
  said = refl;
  touches = record { size = refl; others = λ s out. inl refl };
}
