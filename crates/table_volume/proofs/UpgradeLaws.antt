-- A volume without a record in its log is upgraded: it stands with layout 2 then, and each moment is sound as before.
use Rattle.std.proofs.Common.{◌≡◌, ◌≢◌, inl, inr, ⊎_elim, option_map, ℕ, zero, suc, ◌^◌, ◌<◌, ◌≤◌, true, false, not, ◌&&◌, List, [], ◌∷◌, length, Option, Some, None, refl, sym, ap, subst, ◌∙◌, arith, eqb-true}
use Rattle.std.specs.Prelude.{IfSome, IsTrue, is_some, nat_le, nat_lt, slice_index_or, ◌==◌}
use Rattle.std.specs.List.{last_or, list_any}
use Rattle.std.proofs.lemmas.List.{length-set}
use Rattle.std.proofs.lemmas.Bool.{and_parts, both_ways, leb-true, not-true, or_left}
use Rattle.volume_layout.specs.declared.kind.Kind.{Kind}
use Rattle.volume_layout.specs.declared.kind.Kind.TheVariants.{Two, Three}
use Rattle.volume_layout.specs.declared.layout.Layout.{Layout}
use Rattle.fsd_bytes.specs.declared.refusal.Refusal.TheVariants as Why
use Rattle.volume_layout.specs.Kinds.{longest_of, other}
use Rattle.volume_layout.specs.Layout.{IsPlanned, data_start, turned, with_kind}
use Rattle.volume_layout.specs.Root.{root_bytes}
use Rattle.volume_layout.proofs.RootLaws.{planned_alike, planned_bounds}
use Rattle.sector_disk.specs.declared.sector.WeakRun.{WeakRun}
use Rattle.sector_disk.specs.declared.sector.Sector.TheVariants.{Whole}
use Rattle.sector_disk.specs.Image.{IsWorn, Windows, open_damage, sector_at, stand, with_sector}
use Rattle.sector_disk.specs.Machine.{Holds as HoldsImage, Moment}
use Rattle.sector_disk.proofs.Calm.{stand_one}
use Rattle.sector_disk.proofs.Wear.{length-stand, stand_other}
use Rattle.fsd_log.specs.Scan.{Head, Placed, Walked}
use Rattle.fsd_files.specs.Disk.{Has, Image, SectorWorn, Touches}
use Rattle.fsd_files.specs.Volume.{is_in}
use Rattle.fsd_files.proofs.KeptLaws.{has_on}
use Rattle.fsd_files.proofs.WaitLaws.{open_in_area}
use Rattle.fsd_sound.specs.Laid.{StandsTwice}
use Rattle.fsd_sound.specs.Mounted.{IsMounted}
use Rattle.fsd_sound.specs.Shown.{records_by}
use Rattle.fsd_sound.specs.Sound.{BearsLast, EachBeside, EndIn, weak_of}
use Rattle.fsd_sound.proofs.CommuteLaws.{with_other, with_same}
use Rattle.fsd_sound.proofs.EmptyLaws.{none_yet}
use Rattle.fsd_sound.proofs.MountedLaws.{mounted_sound}
use Rattle.fsd_sound.proofs.OpenLaws.{drafts_worn}
use Rattle.fsd_sound.proofs.SaidLaws.{own_alone}
use Rattle.fsd_sound.proofs.TurningLaws.{own_turned, turned_mounted, turning_says, turning_sound}
use Rattle.fsd_sound.proofs.WindowLaws.{open_is_weak}
use Rattle.fsd_sound.proofs.WritesLaws.{beside}
use Rattle.fsd_log.specs.declared.slot.Slot.{Slot}
use Rattle.log_thirds.specs.Append.{of_kind}
use Rattle.log_thirds.specs.Firsts.{AreFirsts}
use Rattle.twin_home.specs.Heal.{RootsIn}
use Rattle.volume_contract.specs.Order.{Roots, Test, is_idle, is_root, layout_is, upgrade_steps}
use Rattle.volume_contract.specs.State.{Known, LeavesRelaid, StandWritten, Stands, State, forced_of}
use Rattle.volume_contract.specs.Upgrade.{LeavesUpgraded, is_fresh, upgraded_known}
use Rattle.volume_laws.specs.State.{IsMemoryOf, state}
use Rattle.volume_laws.specs.Volume.{IsWholeVolume, VolumeValue}
use Rattle.volume_laws.proofs.ForceMomentLaws.{touches_none}
use Rattle.volume_laws.proofs.ListLaws.{lists_of}

-- the volume with layout 2
abbrev pub with_kind_three : VolumeValue → VolumeValue
with_kind_three v = record v { layout = with_kind Three v.layout; log = of_kind Three v.log }

pub whole_upgraded : (v : VolumeValue) → IsWholeVolume v → IsWholeVolume (with_kind_three v)
whole_upgraded v whole = record {
  planned = planned_alike v.layout Three whole.planned;
  map = whole.map;
  removed = whole.removed;
  kept = whole.kept;
  unfinished = whole.unfinished;
  apart = whole.apart;
  once = whole.once;
  log = ap (with_kind Three) whole.log;
  epoch = whole.epoch;
  pages = whole.pages;
  room = whole.room;
  unpinned = whole.unpinned;
  waiting = whole.waiting;
  numbered = whole.numbered;
  still = whole.still;
}

-- ---- a fresh volume

none_there : (slots : List (Option Slot)) → list_any is_some slots ≡ false → (page : ℕ) → slice_index_or slots page None ≡ None
none_there [] none page = refl
none_there (Some slot ∷ slots) none page = absurd (cc none)
none_there (None ∷ slots) none zero = refl
none_there (None ∷ slots) none (suc page) = none_there slots none page

module _ (s : State) (fresh : IsTrue (is_fresh s)) where
  fresh_parts : IsTrue ((s.head.number == 1) && not (list_any is_some s.slots))
  fresh_parts = (and_parts ((s.head.number == 1) && not (list_any is_some s.slots)) (length s.dirty == 0) fresh).0

  pub first_number : s.head.number ≡ 1
  first_number = eqb-true s.head.number 1 (and_parts (s.head.number == 1) (not (list_any is_some s.slots)) fresh_parts).0

  pub no_pages : (page : ℕ) → slice_index_or s.slots page None ≡ None
  no_pages = none_there s.slots (not-true (list_any is_some s.slots) (and_parts (s.head.number == 1) (not (list_any is_some s.slots)) fresh_parts).1)

-- ---- what is written

module _ (bytes : List ℕ) (old left : Moment) (roots : RootsIn bytes old left) where
  -- behind the roots the image is only worn
  other_worn : (s : ℕ) → s ≢ 0 → s ≢ 4 → SectorWorn (open_damage old.windows s) (sector_at old.image s) (sector_at left.image s)
  other_worn s first second = ⊎_elim
      (λ same. inl (same ∙ stand_other (stand old.image 0 bytes roots.first) 4 bytes roots.second s (beside s 4 roots.second second roots.once_more) ∙ stand_other old.image 0 bytes roots.first s (beside s 0 roots.first first roots.once)))
      (λ hurt. inr hurt) (roots.holds.worn.each s)

  pub roots_touch : Touches is_root old left
  roots_touch = record {
    size = roots.holds.worn.size ∙ length-stand (stand old.image 0 bytes roots.first) 4 bytes roots.second ∙ length-stand old.image 0 bytes roots.first;
    others = λ s out. other_worn s (λ e. both_ways (is_root s) out (ap is_root e)) (λ e. both_ways (is_root s) out (ap is_root e));
  }

-- both stand at the end, whatever the image was
module _ (l : Layout) (old new : Moment) (room : 4 < length old.image) (holds : HoldsImage old (stand (stand old.image 0 (root_bytes l) 1) 4 (root_bytes l) 1) new) where
  two_is : stand (stand old.image 0 (root_bytes l) 1) 4 (root_bytes l) 1 ≡ with_sector (with_sector old.image 0 (root_bytes l)) 4 (root_bytes l)
  two_is = ap (λ (c : Image). stand c 4 (root_bytes l) 1) (stand_one old.image 0 (root_bytes l) refl) ∙ stand_one (with_sector old.image 0 (root_bytes l)) 4 (root_bytes l) refl

  root_now : (s : ℕ) → sector_at (with_sector (with_sector old.image 0 (root_bytes l)) 4 (root_bytes l)) s ≡ Whole (root_bytes l) → Has (open_damage new.windows) new.image (root_bytes l) s
  root_now s there = subst (λ (w : Windows). Has (open_damage w) new.image (root_bytes l) s) (sym holds.windows)
      (has_on (open_damage old.windows) (stand (stand old.image 0 (root_bytes l) 1) 4 (root_bytes l) 1) new.image (root_bytes l) s (holds.worn.each s) (inl (ap (λ (c : Image). sector_at c s) two_is ∙ there)))

  pub roots_stand : StandsTwice 1 (open_damage new.windows) new.image (root_bytes l) 0 4
  roots_stand = record {
    first = root_now 0 (with_other (with_sector old.image 0 (root_bytes l)) 4 0 (root_bytes l) (λ e. omega (arith, e)) ∙ with_same old.image 0 (root_bytes l) (omega (arith, room)));
    second = root_now 4 (with_same (with_sector old.image 0 (root_bytes l)) 4 (root_bytes l) (omega (arith, room, length-set old.image 0 (Whole (root_bytes l)))));
    apart = omega arith;
  }

-- ---- the steps

-- an upgrade that writes is not idle
pub busy_upgrade : (s : State) → s.down ≡ None → s.layout.kind ≡ Two → is_idle (upgrade_steps s) ≡ true → ⊥
busy_upgrade s up two idle =
    let no : is_idle (upgrade_steps s) ≡ false = (λ i. is_idle (Test (option_map Why.Down (up i)) ∷ Test (layout_is s (two i)) ∷ Roots ∷ [])) in
    absurd (cc (no, idle))

-- ---- a volume that stands

pub planned_own : (v : VolumeValue) (k : Known) (now : Moment) → Stands state IsMemoryOf v k now → IsPlanned k.mounted.volume.layout
planned_own v k now stands = subst IsPlanned (sym stands.fits.layout) stands.holds.planned

-- where nothing is written no root says another layout
pub still_relaid : (v : VolumeValue) (k : Known) (now : Moment) (l : Layout) (Touched : Type 0) → Stands state IsMemoryOf v k now → Touched → LeavesRelaid k l Touched now now
still_relaid v k now l Touched stands touched = record {
  sound = mounted_sound k.mounted k.windows k.changes (forced_of k) now.image stands.disk;
  says = λ x beside says. absurd (own_alone k.mounted.volume.layout x (weak_of k.windows) now.image (planned_own v k now stands) stands.disk.over.own.roots beside says);
  windows = refl;
  said = refl;
  touches = touched;
}

pub upgrade_still : (v : VolumeValue) (now : Moment) → LeavesUpgraded state IsMemoryOf v is_root now now
upgrade_still v now k stands = still_relaid v k now (with_kind Three k.mounted.volume.layout) (Touches is_root now now) stands (touches_none is_root now)

module _ (v : VolumeValue) (k : Known) (old : Moment) (two : v.layout.kind ≡ Two) (fresh : IsTrue (is_fresh (state v))) (stands : Stands state IsMemoryOf v k old) where
  kind_is : k.mounted.volume.layout.kind ≡ Two
  kind_is = ap (λ (l : Layout). l.kind) stands.fits.layout ∙ two

  turned_is : turned k.mounted.volume.layout ≡ with_kind Three k.mounted.volume.layout
  turned_is = ap (λ (kind : Kind). with_kind (other kind) k.mounted.volume.layout) kind_is

  root_is : root_bytes (with_kind Three v.layout) ≡ root_bytes (turned k.mounted.volume.layout)
  root_is = ap root_bytes (ap (with_kind Three) (sym stands.fits.layout) ∙ sym turned_is)

  both : BearsLast (turned k.mounted.volume.layout) k.windows
  both = by (last_or None k.windows) stands.disk.over.shows.readable.borne
    where
      by : (o : Option WeakRun) → IfSome o (λ run. run.count ≤ longest_of k.mounted.volume.layout.kind) → IfSome o (λ run. run.count ≤ longest_of (other k.mounted.volume.layout.kind))
      by None borne = tt
      by (Some run) borne =
          let now : longest_of k.mounted.volume.layout.kind ≡ 2 = ap longest_of kind_is in
          let then : longest_of (other k.mounted.volume.layout.kind) ≡ 3 = ap (λ (kind : Kind). longest_of (other kind)) kind_is in
          omega (arith, borne, now, then)

  few : k.mounted.volume.layout.pages ≤ 2 ^ 32
  few = omega (arith, (planned_bounds v.layout stands.holds.planned).pages_most, ap (λ (l : Layout). l.pages) stands.fits.layout)

  first : k.mounted.head.number ≡ 1
  first = ap (λ (h : Head). h.number) stands.fits.head ∙ first_number (state v) fresh

  -- ---- each moment

  pub upgrade_leaves : (left : Moment) → RootsIn (root_bytes (with_kind Three v.layout)) old left → LeavesRelaid k (with_kind Three k.mounted.volume.layout) (Touches is_root old left) old left
  upgrade_leaves left roots =
      let written : RootsIn (root_bytes (turned k.mounted.volume.layout)) old left = subst (λ (b : List ℕ). RootsIn b old left) root_is roots in
      record {
        sound = turning_sound k.mounted k.windows k.changes (forced_of k) old.image stands.disk few first both written.first written.second written.once written.once_more left.image (open_is_weak old.windows k.windows _ left.image stands.ends written.holds.worn);
        says = subst (λ (l : Layout). EachBeside k.mounted.volume.layout left.image (λ x. x ≡ l)) turned_is
            (turning_says k.mounted k.windows k.changes (forced_of k) old.image stands.disk few first both written.first written.second written.once written.once_more left.image (open_is_weak old.windows k.windows _ left.image stands.ends written.holds.worn));
        windows = roots.holds.windows;
        said = roots.holds.said;
        touches = roots_touch (root_bytes (with_kind Three v.layout)) old left roots;
      }

  -- ---- the end

  module _ (new : Moment) (holds : HoldsImage old (stand (stand old.image 0 (root_bytes (with_kind Three v.layout)) 1) 4 (root_bytes (with_kind Three v.layout)) 1) new) where
    done : RootsIn (root_bytes (with_kind Three v.layout)) old new
    done = record { first = 1; second = 1; in_order = omega arith; once = omega arith; once_more = omega arith; holds = holds }

    worn : IsWorn (weak_of k.windows) (stand (stand old.image 0 (root_bytes (turned k.mounted.volume.layout)) 1) 4 (root_bytes (turned k.mounted.volume.layout)) 1) new.image
    worn = subst (λ (b : List ℕ). IsWorn (weak_of k.windows) (stand (stand old.image 0 b 1) 4 b 1) new.image) root_is (open_is_weak old.windows k.windows _ new.image stands.ends holds.worn)

    -- the volume with that layout
    abbrev known_by : Layout → Known
    known_by l = record k { mounted = record k.mounted { volume = record k.mounted.volume { layout = l } } }

    disk_new : IsMounted (known_by (with_kind Three k.mounted.volume.layout)).mounted k.windows k.changes (forced_of k) new.image
    disk_new = subst (λ (l : Layout). IsMounted (known_by l).mounted k.windows k.changes (forced_of k) new.image) turned_is
        (turned_mounted k.mounted k.windows k.changes (forced_of k) old.image stands.disk few first both new.image worn)

    none_new : records_by (with_kind Three k.mounted.volume.layout) new.image k.mounted.anchor ≡ []
    none_new = subst (λ (l : Layout). records_by l new.image k.mounted.anchor ≡ []) turned_is
        (ap (λ (w : Walked). w.records) (own_turned k.mounted k.windows k.changes (forced_of k) old.image stands.disk few first both new.image worn).log.scanned)

    none_old : records_by k.mounted.volume.layout old.image k.mounted.anchor ≡ []
    none_old =
        let over = stands.disk.over in
        ap (λ (w : Walked). w.records) over.own.log.scanned
        ∙ none_yet k.mounted.volume.layout k.windows (stands.disk.disk ∷ []) k.mounted.anchor stands.disk.records k.mounted.head old.image over.shows over.own first

    holds_empty : IsMemoryOf (with_kind_three v) (known_by (with_kind Three k.mounted.volume.layout)).mounted []
    holds_empty = record {
      planned = planned_alike v.layout Three stands.holds.planned;
      pages = stands.holds.pages;
      inside = stands.holds.inside;
      map = stands.holds.map;
      removed = stands.holds.removed;
      kept = stands.holds.kept;
      unfinished = stands.holds.unfinished;
      free_pages = stands.holds.free_pages;
      log = ap (with_kind Three) stands.holds.log;
      fits = let fits = stands.holds.fits in record {
        least = fits.least;
        inside = fits.inside;
        third = fits.third;
        is_in = record { before = fits.is_in.before; from = fits.is_in.from; ends = fits.is_in.ends };
        begun = fits.begun;
        epoch = fits.epoch;
        number = fits.number;
        numbers = fits.numbers;
        pages = fits.pages;
        table = fits.table;
      };
      indexed = record {
        slots = λ page within. no_pages (state v) fresh page;
        firsts = subst (λ (records : List Placed). AreFirsts v.log.layout.third v.log.anchor.first records v.log.firsts) none_old stands.holds.indexed.firsts;
      };
    }

    holds_new : IsMemoryOf (with_kind_three v) (upgraded_known k).mounted (records_by (with_kind Three k.mounted.volume.layout) new.image k.mounted.anchor)
    holds_new = subst (IsMemoryOf (with_kind_three v) (upgraded_known k).mounted) (sym none_new) holds_empty

    written_new : StandWritten (open_damage new.windows) new.image k.mounted.slices k.mounted.volume.drafts
    written_new = subst (λ (w : Windows). StandWritten (open_damage w) new.image k.mounted.slices k.mounted.volume.drafts) (sym holds.windows)
        (drafts_worn (open_damage old.windows) old.image new.image k.mounted.slices k.mounted.volume.drafts (λ p there.
        let area = open_in_area k.mounted.volume stands.disk.spaced p (or_left (is_in k.mounted.volume.drafts p) (is_in k.mounted.volume.held p) there) in
        let from = leb-true (data_start k.mounted.volume.layout) p (and_parts (nat_le (data_start k.mounted.volume.layout) p) (nat_lt p k.mounted.volume.layout.sectors) area).0 in
        other_worn (root_bytes (with_kind Three v.layout)) old new done p (λ e. omega (arith, from, e)) (λ e. omega (arith, from, e))) stands.written)

    pub stands_upgraded : Stands state IsMemoryOf (with_kind_three v) (upgraded_known k) new
    stands_upgraded = record {
      fits = record {
        layout = ap (with_kind Three) stands.fits.layout;
        serial = stands.fits.serial;
        anchor = stands.fits.anchor;
        head = stands.fits.head;
        dirty = stands.fits.dirty;
        free = stands.fits.free;
        freed = stands.fits.freed;
        waiting = stands.fits.waiting;
        waits = stands.fits.waits;
        unfinished = stands.fits.unfinished;
        held = stands.fits.held;
        pages_free = stands.fits.pages_free;
        versions = stands.fits.versions;
        up = stands.fits.up;
      };
      opened = record { drafts = stands.opened.drafts; slices = stands.opened.slices; places = stands.opened.places; bytes = stands.opened.bytes };
      holds = holds_new;
      lists = lists_of (with_kind_three v) (upgraded_known k).mounted (records_by (with_kind Three k.mounted.volume.layout) new.image k.mounted.anchor) holds_new;
      ends = subst (λ (w : Windows). EndIn w k.windows) (sym holds.windows) stands.ends;
      disk = disk_new;
      written = written_new;
    }
