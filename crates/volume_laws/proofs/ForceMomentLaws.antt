-- What a force leaves of the disk of a volume that stands over it: at each moment its pages are those of before or the stamped ones, which tell the
-- same table.
use Rattle.std.proofs.Common.{◌≡◌, inl, inr, ⊎_elim, ℕ, ◌≤◌, Bool, true, ◌&&◌, nat_lt, List, [], ◌∷◌, length, Some, None, refl, sym, ap, subst, ◌∙◌, arith}
use Rattle.std.specs.Prelude.{IsFalse}
use Rattle.std.specs.List.{last_or}
use Rattle.std.proofs.lemmas.Bool.{eq-eqb, or_left, or_right, le-leb, lt-ltb, and_from}
use Rattle.volume_layout.specs.declared.layout.Layout.{Layout}
use Rattle.volume_layout.specs.Layout.{home_a, home_b, map_start}
use Rattle.volume_layout.specs.Root.{root_bytes}
use Rattle.run_table.specs.Space.{contains}
use Rattle.sector_disk.specs.Machine.{Moment}
use Rattle.fsd_formats.specs.Record.{ascending}
use Rattle.fsd_log.specs.Borne.{FitsStamp}
use Rattle.fsd_table.specs.Table.{told_in, visits}
use Rattle.fsd_files.specs.Disk.{Has, Sectors, Touches, in_runs}
use Rattle.fsd_files.proofs.KeptLaws.{has_on}
use Rattle.fsd_sound.specs.Mounted.{SameData, telling_of}
use Rattle.fsd_sound.specs.Sound.{ShowsPages, is_home, weak_of}
use Rattle.fsd_sound.proofs.MountedLaws.{force_sound, mounted_sound}
use Rattle.fsd_sound.proofs.SoundLaws.{weak_within_hurt}
use Rattle.fsd_sound.proofs.WindowLaws.{fewer}
use Rattle.log_thirds.specs.Append.{stamp_now}
use Rattle.page_cache.specs.Cache.{IsCache}
use Rattle.group_commit.specs.Cached.{AgreesWith, AreWaiting, CacheLeaves, ascending_of, with_waiting}
use Rattle.group_commit.specs.Force.{Commits, IsSomeHome, KeepsData, KeepsOutside, MayWrite, StandsOverDisk, stamped_by}
use Rattle.group_commit.specs.Newest.{KnowsImages}
use Rattle.group_commit.proofs.CachedLaws.{all_accepted}
use Rattle.group_commit.proofs.CleanLaws.{stands_ascending}
use Rattle.group_commit.proofs.ImageLaws.{pages_of}
use Rattle.fsd_sound.specs.Writes.{force_writes}
use Rattle.volume_contract.specs.State.{Known, Leaves, LeavesSound, Stands, forced_of}
use Rattle.volume_laws.specs.Saving.{LeavesOpen, may_force}
use Rattle.volume_laws.specs.State.{IsMemoryOf, state}
use Rattle.volume_laws.specs.Volume.{IsWholeVolume, VolumeValue}
use Rattle.volume_laws.proofs.PageLaws.{indexed, over}
use Rattle.volume_laws.proofs.SameTableLaws.{told_same, visits_same}
use Rattle.volume_laws.proofs.StampedLaws.{reads_stamped}
use Rattle.volume_laws.proofs.TableLaws.{as_many}

-- ---- where it writes

home_there : (l : Layout) (s : ℕ) → IsSomeHome l s → is_home l s ≡ true
home_there l s (page, lt, inl first) = or_left _ _ (and_from _ _ (le-leb (home_a l 0) s (omega (arith, first))) (lt-ltb s (home_a l l.pages) (omega (arith, first, lt))))
home_there l s (page, lt, inr second) = or_right _ _ (and_from _ _ (le-leb (home_b l 0) s (omega (arith, second))) (lt-ltb s (home_b l l.pages) (omega (arith, second, lt))))

writes_there : (l : Layout) (s : ℕ) → MayWrite l s → force_writes l s ≡ true
writes_there l s (inl log) =
    or_left _ _ (or_right _ _ (and_from _ _ (le-leb 16 s (omega (arith, log.0))) (lt-ltb s (home_a l 0) (omega (arith, log.1)))))
writes_there l s (inr (inl (inl eight))) = or_left _ _ (or_left _ _ (or_left _ _ (eq-eqb s 8 eight)))
writes_there l s (inr (inl (inr twelve))) = or_left _ _ (or_left _ _ (or_right _ _ (eq-eqb s 12 twelve)))
writes_there l s (inr (inr home)) = or_right _ _ (home_there l s home)

outside : (l : Layout) (s : ℕ) → IsFalse (force_writes l s) → MayWrite l s → ⊥
outside l s out may = absurd (let is = writes_there l s may in cc (is, out))

-- no root among them
roots_outside : (l : Layout) (s : ℕ) → s ≤ 4 → MayWrite l s → ⊥
roots_outside l s low (inl log) = omega (arith, low, log.0)
roots_outside l s low (inr (inl (inl eight))) = omega (arith, low, eight)
roots_outside l s low (inr (inl (inr twelve))) = omega (arith, low, twelve)
roots_outside l s low (inr (inr (page, lt, inl first))) = omega (arith, low, first)
roots_outside l s low (inr (inr (page, lt, inr second))) = omega (arith, low, second)

-- a force writes nowhere else, whatever the disk shows
pub force_touches : (v : VolumeValue) (old new : Moment) → IsWholeVolume v → KeepsOutside v.log.layout old new → Touches (force_writes v.layout) old new
force_touches v old new whole keeps = record {
  size = keeps.size;
  others = λ s out. keeps.others s (outside v.log.layout s (subst (λ (l : Layout). IsFalse (force_writes l s)) (sym whole.log) out));
}

-- ---- nothing is written

pub touches_none : (may : Sectors) (at : Moment) → Touches may at at
touches_none may at = record { size = refl; others = λ s out. inl refl }

pub leaves_itself : (v : VolumeValue) (at : Moment) → Leaves state IsMemoryOf v (force_writes v.layout) at at
leaves_itself v at k stands = record {
  sound = mounted_sound k.mounted k.windows k.changes (forced_of k) at.image stands.disk;
  roots = stands.disk.over.own.roots;
  windows = refl;
  said = refl;
  touches = record { size = refl; others = λ s out. inl refl };
}

-- ---- the pages then

module _ (v : VolumeValue) (k : Known) (old : Moment) (whole : IsWholeVolume v) (valid : IsCache v.cache) (stands : Stands state IsMemoryOf v k old) where
  abbrev pub now : List (List ℕ)
  now = stamped_by v.log (with_waiting v.cache k.mounted.pages)

  pub agrees : AgreesWith v.log.layout v.cache k.mounted.pages
  agrees = record {
    table = let many = as_many v k old whole stands in omega (arith, many, whole.pages, ap (λ (l : Layout). l.pages) whole.log);
    frames = stands.holds.pages;
  }

  pub waiting : AreWaiting v.log.layout.pages v.cache
  waiting = subst (λ (l : Layout). AreWaiting l.pages v.cache) (sym whole.log) (whole.waiting stands.fits.up)

  some : (xs : List ℕ) (p : ℕ) → contains xs p ≡ true → 1 ≤ length xs
  some [] p is = absurd (cc is)
  some (x ∷ xs) p is = omega arith

  ascends : (p : ℕ) → contains (ascending_of v.cache.dirty) p ≡ true → ascending (ascending_of v.cache.dirty) ≡ true
  ascends p is = (pages_of v.log.layout.pages (ascending_of v.cache.dirty) (all_accepted v.cache valid (ascending_of v.cache.dirty) refl v.log.layout.pages waiting (some (ascending_of v.cache.dirty) p is))).ascends

  small : FitsStamp (stamp_now v.log)
  small = record { epoch = stands.holds.fits.epoch; number = stands.holds.fits.number }

  -- the stamped pages tell the same table
  pub visits_now : visits now ≡ visits k.mounted.pages
  visits_now = visits_same k.mounted.pages now (reads_stamped (stamp_now v.log) (ascending_of v.cache.dirty) k.mounted.pages small ascends) (telling_of k.mounted.volume) stands.disk.in_memory

  pub told_now : told_in now ≡ Some (telling_of k.mounted.volume)
  told_now = told_same k.mounted.pages now (reads_stamped (stamp_now v.log) (ascending_of v.cache.dirty) k.mounted.pages small ascends) (telling_of k.mounted.volume) stands.disk.in_memory

  -- ---- what a force asks

  pub over_waiting : StandsOverDisk v.log stands.disk.records stands.disk.disk (with_waiting v.cache k.mounted.pages) k.windows old.image
  over_waiting = stands_ascending v.log stands.disk.records stands.disk.disk k.mounted.pages v.cache.dirty k.windows old.image (over v k old whole stands)

  pub knows : KnowsImages v.log old.image
  knows = indexed v k old whole stands

  pub layout_is : k.mounted.volume.layout ≡ v.log.layout
  layout_is = stands.fits.layout ∙ sym whole.log

  -- ---- the disk

  pub same_data : (left : Moment) → KeepsData v.log.layout old left → SameData k.mounted.volume.layout (in_runs k.windows) old.image left.image
  same_data left keeps t from =
      elim (keeps t (subst (λ (l : Layout). map_start l ≤ t) layout_is from)) [
        | inl same ↦ inl same
        | inr hurt ↦ inr (weak_within_hurt k.windows t (fewer (last_or None k.windows) old.windows.present old.windows.next stands.ends.last stands.ends.some t hurt.0), hurt.1)
      ]

  module _ (left : Moment) (leaves : CacheLeaves v.log v.cache old left) where
    pub commits : Commits v.log.layout k.windows stands.disk.disk now old left
    commits = leaves k.mounted.pages agrees k.windows stands.disk.records stands.disk.disk stands.ends over_waiting knows

    shows : ShowsPages k.mounted.volume.layout k.windows (stands.disk.disk ∷ now ∷ []) left.image
    shows = subst (λ (l : Layout). ShowsPages l k.windows (stands.disk.disk ∷ now ∷ []) left.image) (sym layout_is) commits.shows

    root_left : (s : ℕ) → s ≤ 4 → Has (weak_of k.windows) old.image (root_bytes k.mounted.volume.layout) s → Has (weak_of k.windows) left.image (root_bytes k.mounted.volume.layout) s
    root_left s low =
        has_on (weak_of k.windows) old.image left.image (root_bytes k.mounted.volume.layout) s
        (⊎_elim (λ same. inl same) (λ hurt. inr (fewer (last_or None k.windows) old.windows.present old.windows.next stands.ends.last stands.ends.some s hurt.0, hurt.1))
        (commits.outside.others s (roots_outside v.log.layout s low)))

    pub leaves_sound : LeavesSound k (force_writes v.layout) old left
    leaves_sound = record {
      sound = force_sound k.mounted k.windows k.changes (forced_of k) old.image left.image now stands.disk (same_data left commits.kept) commits.opened told_now shows;
      roots = let own = stands.disk.over.own.roots in (root_left 0 (omega arith) own.0, root_left 4 (omega arith) own.1);
      windows = commits.windows;
      said = commits.said;
      touches = record { size = commits.outside.size; others = λ s out. commits.outside.others s (outside v.log.layout s (subst (λ (l : Layout). IsFalse (force_writes l s)) (sym whole.log) out)) };
    }

-- what a force of the cache's pages leaves is sound
pub leaves_forced : (v : VolumeValue) (old left : Moment) → IsWholeVolume v → IsCache v.cache → CacheLeaves v.log v.cache old left → Leaves state IsMemoryOf v (force_writes v.layout) old left
leaves_forced v old left whole valid leaves k stands = leaves_sound v k old whole valid stands left leaves

-- ---- no anchor says that the volume was closed

pub open_itself : (v : VolumeValue) (at : Moment) → LeavesOpen v at at
open_itself v at k stands =
    let still = leaves_itself v at k stands in
    record {
      sound = record { sound = still.sound; roots = still.roots; windows = refl; said = refl; touches = touches_none (may_force (state v)) at };
      opened = stands.disk.over.own.opened;
    }

pub open_forced : (v : VolumeValue) (old left : Moment) → IsWholeVolume v → IsCache v.cache → 1 ≤ length v.cache.dirty → CacheLeaves v.log v.cache old left → LeavesOpen v old left
open_forced v old left whole valid some leaves k stands =
    let sound = leaves_sound v k old whole valid stands left leaves in
    let waits : nat_lt 0 (length v.cache.dirty) ≡ true = lt-ltb 0 (length v.cache.dirty) (omega (arith, some)) in
    record {
      sound = record {
        sound = sound.sound;
        roots = sound.roots;
        windows = sound.windows;
        said = sound.said;
        touches = record { size = sound.touches.size; others = λ s out. sound.touches.others s (ap (λ (b : Bool). b && force_writes v.layout s) (sym waits) ∙ out) };
      };
      opened = (commits v k old whole valid stands left leaves).opened;
    }
