-- A volume that stands stands after one change more, once its pages are those of the table that the change makes.
use Rattle.std.proofs.Common.{◌≡◌, ℕ, ◌+◌, ◌-◌, not, List, [], ◌∷◌, ◌++◌, length, Some, refl, sym, ap, subst, ◌∙◌, arith, length-append}
use Rattle.std.specs.Prelude.{IsFalse}
use Rattle.std.specs.List.{AllZip}
use Rattle.volume_layout.specs.declared.layout.Layout.{Layout}
use Rattle.run_table.specs.declared.run.Run.{Run}
use Rattle.run_table.specs.Space.{contains}
use Rattle.sector_disk.specs.Image.{open_damage}
use Rattle.sector_disk.specs.Machine.{Moment}
use Rattle.fsd_table.specs.Table.{Telling, told_in}
use Rattle.fsd_table.specs.Tree.{pages_of, table_of}
use Rattle.fsd_table.proofs.VisitLaws.{tree_told}
use Rattle.fsd_files.specs.Disk.{in_runs}
use Rattle.fsd_files.specs.Files.{Change, Files, step}
use Rattle.fsd_files.specs.Kept.{KeptIn, data_sectors}
use Rattle.fsd_files.specs.Volume.{Volume}
use Rattle.fsd_files.proofs.HistoryLaws.{after_one_more}
use Rattle.fsd_sound.specs.Mounted.{ChangesTo, IsMounted, Wrote, telling_of}
use Rattle.fsd_sound.specs.Shown.{records_by}
use Rattle.fsd_sound.proofs.MountedLaws.{change_mounted}
use Rattle.log_thirds.specs.Append.{IsIndexed}
use Rattle.log_thirds.specs.LogValue.{FitsLayout, LogValue}
use Rattle.volume_contract.specs.State.{Fits, HasOpened, Known, StandWritten, Stands, forced_of, volume_of}
use Rattle.volume_laws.specs.Changing.{HasSpace, IsAfter, IsSameVolume, MakesPages, known_after}
use Rattle.volume_laws.specs.State.{IsMemoryOf, state}
use Rattle.volume_laws.specs.Volume.{IsWholeVolume, VolumeValue}
use Rattle.volume_laws.proofs.FlagLaws.{free_flags, reached_is}
use Rattle.volume_laws.proofs.SpaceLaws.{same_free, same_freed, same_unfinished, same_waiting, same_waits}
use Rattle.volume_laws.proofs.TableLaws.{as_many}
use Rattle.volume_laws.proofs.ListLaws.{lists_of}

module _ (v w : VolumeValue) (k : Known) (now : Moment) (c : Change) (volume : Volume) (pages : List (List ℕ)) (height : ℕ) (was : IsWholeVolume v) (whole : IsWholeVolume w) (stands : Stands state IsMemoryOf v k now) where
  abbrev next : Known
  next = known_after k c volume pages w.cache.dirty

  module _ (same : IsSameVolume v w) (changed : IsAfter c (in_runs k.windows) now.image (volume_of k) volume) (makes : MakesPages v.cache w.cache w.free_pages k.mounted.pages pages height) (entries : table_of pages height ≡ volume.entries) (reached : volume.reached ≡ length (pages_of pages height)) (space : HasSpace w volume) where
    same_layout : volume.layout ≡ w.layout
    same_layout = changed.changes.layout ∙ stands.fits.layout ∙ sym same.layout

    -- ---- the pages

    told : told_in pages ≡ Some (telling_of volume)
    told =
        let both : (record { entries = table_of pages height; reached = length (pages_of pages height) }) ≡ telling_of volume = λ i. record { entries = entries i; reached = sym reached i } in
        tree_told pages height makes.tree ∙ ap (λ (t : Telling). Some t) both

    size : length w.free_pages ≡ length pages
    size =
        let before = as_many v k now was stands in
        omega (arith, whole.pages, was.pages, ap (λ (l : Layout). l.pages) same.layout, before, makes.clean.size)

    pages_free : volume.layout.pages - volume.reached ≡ length (state w).free_pages
    pages_free =
        let left = free_flags w.free_pages pages height makes.tree size makes.free in
        let most : length pages ≡ volume.layout.pages = omega (arith, size, whole.pages, ap (λ (l : Layout). l.pages) same_layout) in
        (λ i. sym most i - reached i) ∙ sym left

    -- ---- what is told

    fits : Fits (state w) next.mounted
    fits = record {
      layout = same_layout;
      serial = space.serial;
      anchor = stands.fits.anchor ∙ ap (λ (log : LogValue). log.anchor) (sym same.log);
      head = stands.fits.head ∙ ap (λ (log : LogValue). log.head) (sym same.log);
      dirty = refl;
      free = same_free w volume whole same_layout space.map space.removed space.kept space.unfinished space.held changed.changes.spaced;
      freed = same_freed w volume whole same_layout space.map space.removed space.kept space.unfinished space.held changed.changes.spaced;
      waiting = same_waiting w volume whole same_layout space.map space.removed space.kept space.unfinished space.held changed.changes.spaced;
      waits = same_waits w volume whole same_layout space.map space.removed space.kept space.unfinished space.held changed.changes.spaced;
      held = space.held;
      unfinished = same_unfinished w volume whole same_layout space.map space.removed space.kept space.unfinished space.held changed.changes.spaced;
      pages_free = pages_free;
      versions = space.versions;
      up = same.down ∙ stands.fits.up;
    }

    -- what is open stays
    opened : HasOpened (state w) k.opened next.mounted
    opened = record {
      drafts = changed.drafts ∙ stands.opened.drafts;
      slices = stands.opened.slices;
      places = same.readers ∙ stands.opened.places;
      bytes = stands.opened.bytes;
    }

    holds : IsMemoryOf w next.mounted (records_by volume.layout now.image k.mounted.anchor)
    holds = record {
      planned = whole.planned;
      pages = makes.there;
      inside = λ page bytes there. omega (arith, makes.inside page bytes there, whole.pages);
      map = space.map;
      removed = space.removed;
      kept = space.kept;
      unfinished = space.unfinished;
      free_pages = λ page lt. makes.free page (omega (arith, lt, whole.pages, size)) ∙ ap not (sym (reached_is pages height page makes.tree));
      log = whole.log;
      fits = subst FitsLayout (sym same.log) stands.holds.fits;
      indexed = subst (λ (log : LogValue). IsIndexed log (records_by volume.layout now.image k.mounted.anchor)) (sym same.log)
          (subst (λ (l : Layout). IsIndexed v.log (records_by l now.image k.mounted.anchor)) (sym changed.changes.layout) stands.holds.indexed);
    }

    -- ---- the disk

    changes_to : ChangesTo (k.changes ++ c ∷ []) k.windows now.image k.mounted next.mounted
    changes_to = record {
      volume = changed.changes;
      anchor = refl;
      head = refl;
      files = changed.files ∙ ap (λ (fs : Files). step fs c) stands.disk.files ∙ sym (after_one_more k.changes c);
      described = changed.described;
      told = told;
      open_ones = record {
        drafts = subst (λ (plans : List (List Run)). AllZip (λ slices runs. AllZip (Wrote (in_runs k.windows) now.image) slices (data_sectors runs)) k.mounted.slices plans) (sym changed.drafts) stands.disk.open_ones.drafts;
        held = subst (λ (plans : List (List Run)). AllZip (KeptIn now.image (in_runs k.windows)) k.mounted.bytes plans) (sym changed.held) stands.disk.open_ones.held;
      };
      still = λ page out. subst (λ (dirty : List ℕ). IsFalse (contains dirty page)) (sym stands.fits.dirty) (makes.still page out);
      few = omega (arith, makes.few, ap (λ (dirty : List ℕ). length dirty) stands.fits.dirty);
      clean = makes.clean;
    }

    as_forced : forced_of next ≡ forced_of k
    as_forced =
        let long : length (k.changes ++ c ∷ []) ≡ length k.changes + 1 = length-append k.changes (c ∷ []) in
        omega (arith, long, changed.changes.unforced)

    pub stands_changed : Stands state IsMemoryOf w next now
    stands_changed = record {
      fits = fits;
      opened = opened;
      holds = holds;
      lists = lists_of w next.mounted (records_by volume.layout now.image k.mounted.anchor) holds;
      ends = stands.ends;
      disk = subst (λ (f : ℕ). IsMounted next.mounted k.windows (k.changes ++ c ∷ []) f now.image) (sym as_forced)
          (change_mounted k.mounted next.mounted k.windows k.changes (forced_of k) now.image c stands.disk changes_to);
      written = subst (λ (plans : List (List Run)). StandWritten (open_damage now.windows) now.image k.mounted.slices plans) (sym changed.drafts) stands.written;
    }
