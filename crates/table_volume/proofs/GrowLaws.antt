-- A volume that grows: each moment is sound as before, and at the end it stands with more sectors.
use Rattle.std.proofs.Common.{◌≡◌, inl, inr, ℕ, ◌^◌, ◌<◌, ◌≤◌, ◌∷◌, [], cond, Bool, true, false, List, length, Option, Some, None, option_map, refl, sym, ap, subst, ◌∙◌, arith}
use Rattle.std.specs.Prelude.{nat_le, nat_lt}
use Rattle.std.proofs.lemmas.Bool.{and_parts, leb-false, leb-true, ltb-false, or_left}
use Rattle.volume_layout.specs.declared.layout.Layout.{Layout}
use Rattle.volume_layout.specs.Layout.{IsPlanned, IsSized, data_start, most_of, with_sectors}
use Rattle.volume_layout.specs.Root.{root_bytes}
use Rattle.volume_layout.proofs.GrownLaws.{is_sized}
use Rattle.volume_layout.proofs.RootLaws.{planned_bounds}
use Rattle.fsd_bytes.specs.declared.refusal.Refusal.{Refusal}
use Rattle.fsd_bytes.specs.declared.refusal.Refusal.TheVariants as Why
use Rattle.sector_disk.specs.declared.sector.Sector.{Sector}
use Rattle.sector_disk.specs.Image.{AreShort, IsWorn, extended, open_damage, sector_at, stand}
use Rattle.sector_disk.specs.Machine.{Extends, Grows, Holds as HoldsImage, Moment}
use Rattle.sector_disk.proofs.Extended.{extended_at, length-extended}
use Rattle.sector_disk.proofs.Holding.{over_two}
use Rattle.sector_disk.proofs.Wear.{stand_other, worn_refl}
use Rattle.fsd_log.specs.Scan.{Walked}
use Rattle.fsd_files.specs.Answers.{grow_fault}
use Rattle.fsd_files.specs.Disk.{Image, SectorWorn, TouchesLonger}
use Rattle.fsd_files.specs.Volume.{is_in}
use Rattle.fsd_files.proofs.WaitLaws.{open_in_area}
use Rattle.fsd_sound.specs.Mounted.{IsMounted}
use Rattle.fsd_sound.specs.Shown.{records_by}
use Rattle.fsd_sound.specs.Sound.{weak_of}
use Rattle.fsd_sound.proofs.GrowingLaws.{grown_mounted, growing_says, growing_sound}
use Rattle.fsd_sound.proofs.LogPlaces.{SameLog, same_scan}
use Rattle.fsd_sound.proofs.MountedLaws.{longer_mounted, mounted_sound}
use Rattle.fsd_sound.proofs.OpenLaws.{drafts_worn}
use Rattle.fsd_sound.proofs.SaidLaws.{own_alone, says_worn}
use Rattle.fsd_sound.proofs.SizedLaws.{records_sized}
use Rattle.fsd_sound.proofs.WindowLaws.{open_is_weak}
use Rattle.twin_home.specs.Heal.{RootsIn}
use Rattle.volume_contract.specs.Growth.{LeavesGrown, grown_known}
use Rattle.volume_contract.specs.Order.{Comes, Roots, Test, grow_steps, is_idle, is_root}
use Rattle.volume_contract.specs.State.{Known, LeavesRelaid, StandWritten, Stands, State, forced_of}
use Rattle.volume_laws.specs.Grown.{value_grown}
use Rattle.volume_laws.specs.State.{IsMemoryOf, state}
use Rattle.volume_laws.specs.Volume.{IsWholeVolume, VolumeValue}
use Rattle.volume_laws.specs.WearLaws.{stands_worn}
use Rattle.volume_laws.proofs.GrowthLaws.{memory_grown, whole_grown}
use Rattle.volume_laws.proofs.ListLaws.{lists_of}
use Rattle.volume_laws.proofs.SpaceLaws.{same_free, same_freed, same_unfinished, same_waiting}
use Rattle.table_volume.proofs.UpgradeLaws.{planned_own, roots_touch, still_relaid}
use Rattle.table_volume.specs.Growing.{GrowsRoots, HasGrownRoots, grow_tests, longer}

-- ---- the tests

grow_told : (P : Refusal → Type 0) (l : Layout) (n : ℕ) → P (Why.NotLarger n) → P (Why.PastMost (most_of l)) → (why : Refusal) → grow_fault l n ≡ Some why → P why
grow_told P l n small large why is = first (nat_le n l.sectors) is
  where
    second : (b : Bool) → cond b (Some (Why.PastMost (most_of l))) None ≡ Some why → P why
    second true is = let same : Why.PastMost (most_of l) ≡ why = cc is in subst P same large
    second false is = absurd (cc is)

    first : (b : Bool) → cond b (Some (Why.NotLarger n)) (cond (nat_lt (most_of l) n) (Some (Why.PastMost (most_of l))) None) ≡ Some why → P why
    first true is = let same : Why.NotLarger n ≡ why = cc is in subst P same small
    first false is = second (nat_lt (most_of l) n) is

-- where none refuses, it gets more sectors, and no more than it may have
pub grows_between : (l : Layout) (n : ℕ) → grow_fault l n ≡ None → (l.sectors < n) × (n ≤ most_of l)
grows_between l n is = first (nat_le n l.sectors) refl is
  where
    second : (b : Bool) → nat_lt (most_of l) n ≡ b → cond b (Some (Why.PastMost (most_of l))) None ≡ None → n ≤ most_of l
    second true same is = absurd (cc is)
    second false same is = ltb-false (most_of l) n same

    first : (b : Bool) → nat_le n l.sectors ≡ b → cond b (Some (Why.NotLarger n)) (cond (nat_lt (most_of l) n) (Some (Why.PastMost (most_of l))) None) ≡ None → (l.sectors < n) × (n ≤ most_of l)
    first true same is = absurd (cc is)
    first false same is = (leb-false n l.sectors same, second (nat_lt (most_of l) n) refl is)

from_down : (P : Refusal → Type 0) (d : Option ℕ) → ((place : ℕ) → d ≡ Some place → P (Why.Down place)) → (why : Refusal) → option_map Why.Down d ≡ Some why → P why
from_down P None down why is = absurd (cc is)
from_down P (Some place) down why is = let same : Why.Down place ≡ why = cc is in subst P same (down place refl)

pub grow_tested : (P : Refusal → Type 0) (s : State) (n : ℕ) → ((place : ℕ) → s.down ≡ Some place → P (Why.Down place)) → P (Why.NotLarger n) → P (Why.PastMost (most_of s.layout))
    → (why : Refusal) → Comes (grow_tests s n) why → P why
grow_tested P s n down small large why (inl is) = from_down P s.down down why is
grow_tested P s n down small large why (inr (up, inl is)) = grow_told P s.layout n small large why is
grow_tested P s n down small large why (inr (up, inr (fits, none))) = absurd none

-- a growth that writes is not idle
pub busy_growth : (s : State) (n : ℕ) → option_map Why.Down s.down ≡ None → grow_fault s.layout n ≡ None → is_idle (grow_steps s n) ≡ true → ⊥
busy_growth s n up fits idle =
    let no : is_idle (grow_steps s n) ≡ false = (λ i. is_idle (Test (up i) ∷ Test (fits i) ∷ Roots ∷ [])) in
    absurd (cc (no, idle))

-- ---- what is written

pub grow_touches : (n : ℕ) (bytes : List ℕ) (old left : Moment) → GrowsRoots n bytes old left → TouchesLonger n is_root old left
grow_touches n bytes old left (inl wears) = record { size = omega (arith, wears.image.size); most = omega (arith, wears.image.size); others = λ s out. wears.image.each s }
grow_touches n bytes old left (inr roots) =
    let touches = roots_touch bytes (longer n old) left roots in record {
      size = omega (arith, touches.size, length-extended n old.image);
      most = omega (arith, touches.size, length-extended n old.image);
      others = λ s out. subst (λ (x : Sector). SectorWorn (open_damage old.windows s) x (sector_at left.image s)) (extended_at n old.image s) (touches.others s out);
    }

-- the image has its sectors first, and no root is written before
pub grow_first : (n : ℕ) (bytes : List ℕ) (old left : Moment) → Grows n old left → GrowsRoots n bytes old left
grow_first n bytes old left (inl wears) = inl wears
grow_first n bytes old left (inr extends) = inr (record {
  first = 0;
  second = 0;
  in_order = omega arith;
  once = omega arith;
  once_more = omega arith;
  holds = record { worn = extends.image; windows = extends.windows; said = extends.said };
})

-- roots that are written behind that
module _ (n : ℕ) (old mid left : Moment) (extends : Extends n old mid) where
  pub over_longer : (bytes : List ℕ) (first second : ℕ) → HoldsImage mid (stand (stand mid.image 0 bytes first) 4 bytes second) left → HoldsImage (longer n old) (stand (stand (longer n old).image 0 bytes first) 4 bytes second) left
  over_longer bytes first second = over_two (longer n old) mid left (longer n old).image 0 4 bytes first second (record { worn = extends.image; windows = extends.windows; said = extends.said })

  pub grow_then : (bytes : List ℕ) → RootsIn bytes mid left → RootsIn bytes (longer n old) left
  grow_then bytes roots = record {
    first = roots.first;
    second = roots.second;
    in_order = roots.in_order;
    once = roots.once;
    once_more = roots.once_more;
    holds = over_longer bytes roots.first roots.second roots.holds;
  }

-- ---- a volume that stands

-- nothing is done
pub grow_still : (n : ℕ) (v : VolumeValue) (now : Moment) → LeavesGrown state IsMemoryOf n v is_root now now
grow_still n v now k stands =
    still_relaid v k now (with_sectors n k.mounted.volume.layout) (TouchesLonger n is_root now now) stands (record { size = omega arith; most = omega arith; others = λ s out. inl refl })

module _ (v : VolumeValue) (k : Known) (old : Moment) (n : ℕ) (larger : v.layout.sectors < n) (most : n ≤ most_of v.layout) (short : AreShort old.windows) (stands : Stands state IsMemoryOf v k old) where
  abbrev own : Layout
  own = k.mounted.volume.layout

  -- the image with so many sectors
  abbrev long : Image
  long = extended n old.image

  larger_own : k.mounted.volume.layout.sectors < n
  larger_own = omega (arith, larger, ap (λ (l : Layout). l.sectors) stands.fits.layout)

  few : k.mounted.volume.layout.pages ≤ 2 ^ 32
  few = omega (arith, (planned_bounds v.layout stands.holds.planned).pages_most, ap (λ (l : Layout). l.pages) stands.fits.layout)

  sized : IsSized k.mounted.volume.layout (with_sectors n k.mounted.volume.layout)
  sized = is_sized k.mounted.volume.layout (subst IsPlanned (sym stands.fits.layout) stands.holds.planned) n (omega (arith, larger_own)) (subst (λ (l : Layout). n ≤ most_of l) (sym stands.fits.layout) most) larger_own

  has_room : n ≤ length (extended n old.image)
  has_room = omega (arith, length-extended n old.image)

  mounted_long : IsMounted k.mounted k.windows k.changes (forced_of k) (extended n old.image)
  mounted_long = longer_mounted k.mounted k.windows k.changes (forced_of k) old.image (extended n old.image) (omega (arith, length-extended n old.image)) (λ s. extended_at n old.image s) stands.disk

  root_is : root_bytes (with_sectors n v.layout) ≡ root_bytes (with_sectors n k.mounted.volume.layout)
  root_is = ap (λ (l : Layout). root_bytes (with_sectors n l)) (sym stands.fits.layout)

  -- ---- each moment

  pub grow_leaves : (left : Moment) → GrowsRoots n (root_bytes (with_sectors n v.layout)) old left → LeavesRelaid k (with_sectors n k.mounted.volume.layout) (TouchesLonger n is_root old left) old left
  grow_leaves left (inl wears) = record {
    sound = mounted_sound k.mounted k.windows k.changes (forced_of k) left.image (stands_worn v k old left short (record { image = wears.image; windows = wears.windows }) stands).disk;
    says = λ l beside says. absurd (own_alone k.mounted.volume.layout l (weak_of k.windows) old.image (planned_own v k old stands) stands.disk.over.own.roots beside
        (says_worn l old.image left.image (open_damage old.windows) wears.image says));
    windows = wears.windows;
    said = wears.said;
    touches = grow_touches n (root_bytes (with_sectors n v.layout)) old left (inl wears);
  }
  grow_leaves left (inr roots) =
      let written : RootsIn (root_bytes (with_sectors n k.mounted.volume.layout)) (longer n old) left = subst (λ (b : List ℕ). RootsIn b (longer n old) left) root_is roots in
      record {
        sound = growing_sound k.mounted k.windows k.changes (forced_of k) (extended n old.image) mounted_long few n sized (omega (arith, larger_own)) has_room written.first written.second written.once written.once_more left.image
            (open_is_weak old.windows k.windows _ left.image stands.ends written.holds.worn);
        says = growing_says k.mounted k.windows k.changes (forced_of k) (extended n old.image) mounted_long few n sized (omega (arith, larger_own)) has_room written.first written.second written.once written.once_more left.image
            (open_is_weak old.windows k.windows _ left.image stands.ends written.holds.worn);
        windows = roots.holds.windows;
        said = roots.holds.said;
        touches = grow_touches n (root_bytes (with_sectors n v.layout)) old left (inr roots);
      }

  -- ---- the end

  abbrev root : List ℕ
  root = root_bytes (with_sectors n v.layout)

  -- both roots stand
  abbrev end : Image
  end = stand (stand long 0 root 1) 4 root 1

  end_at : (s : ℕ) → 5 ≤ s → sector_at end s ≡ sector_at old.image s
  end_at s from = stand_other (stand long 0 root 1) 4 root 1 s (inr (omega (arith, from))) ∙ stand_other long 0 root 1 s (inr (omega (arith, from))) ∙ extended_at n old.image s

  same_log : SameLog k.mounted.volume.layout old.image end
  same_log s within = let from = within.0 in end_at s (omega (arith, from))

  mounted_end : IsMounted (grown_known n k).mounted k.windows k.changes (forced_of k) end
  mounted_end =
      grown_mounted k.mounted k.windows k.changes (forced_of k) (extended n old.image) mounted_long few n sized (omega (arith, larger_own)) has_room end
      (subst (λ (b : List ℕ). IsWorn (weak_of k.windows) (stand (stand long 0 b 1) 4 b 1) end) root_is (worn_refl (weak_of k.windows) end))

  same_records : records_by k.mounted.volume.layout old.image k.mounted.anchor ≡ records_by (with_sectors n k.mounted.volume.layout) end k.mounted.anchor
  same_records = sym (records_sized k.mounted.volume.layout n end k.mounted.anchor ∙ ap (λ (w : Walked). w.records) (same_scan k.mounted.volume.layout old.image end same_log k.mounted.anchor stands.disk.third))

  written_end : StandWritten (open_damage old.windows) end k.mounted.slices k.mounted.volume.drafts
  written_end = drafts_worn (open_damage old.windows) old.image end k.mounted.slices k.mounted.volume.drafts (λ p there.
      let area = open_in_area k.mounted.volume stands.disk.spaced p (or_left (is_in k.mounted.volume.drafts p) (is_in k.mounted.volume.held p) there) in
      let from = leb-true (data_start k.mounted.volume.layout) p (and_parts (nat_le (data_start k.mounted.volume.layout) p) (nat_lt p k.mounted.volume.layout.sectors) area).0 in
      inl (end_at p (omega (arith, from)))) stands.written

  module _ (whole : IsWholeVolume v) where
    abbrev after : VolumeValue
    after = value_grown n v

    whole_after : IsWholeVolume (value_grown n v)
    whole_after = whole_grown v n larger most whole

    holds_after : IsMemoryOf (value_grown n v) (grown_known n k).mounted (records_by (with_sectors n k.mounted.volume.layout) end k.mounted.anchor)
    holds_after = subst (IsMemoryOf (value_grown n v) (grown_known n k).mounted) same_records (memory_grown v n larger most whole k.mounted (records_by k.mounted.volume.layout old.image k.mounted.anchor) stands.fits.layout stands.disk.spaced stands.holds)

    stands_end : Stands state IsMemoryOf (value_grown n v) (grown_known n k) (record old { image = end })
    stands_end =
        let h = holds_after in
        let m = (grown_known n k).mounted.volume in
        let layout : m.layout ≡ with_sectors n v.layout = ap (with_sectors n) stands.fits.layout in record {
          fits = record {
            layout = layout;
            serial = stands.fits.serial;
            anchor = stands.fits.anchor;
            head = stands.fits.head;
            dirty = stands.fits.dirty;
            free = same_free after m whole_after layout h.map h.removed h.kept h.unfinished stands.fits.held mounted_end.spaced;
            freed = same_freed after m whole_after layout h.map h.removed h.kept h.unfinished stands.fits.held mounted_end.spaced;
            waiting = same_waiting after m whole_after layout h.map h.removed h.kept h.unfinished stands.fits.held mounted_end.spaced;
            waits = stands.fits.waits;
            unfinished = same_unfinished after m whole_after layout h.map h.removed h.kept h.unfinished stands.fits.held mounted_end.spaced;
            held = stands.fits.held;
            pages_free = stands.fits.pages_free;
            versions = stands.fits.versions;
            up = stands.fits.up;
          };
          opened = record { drafts = stands.opened.drafts; slices = stands.opened.slices; places = stands.opened.places; bytes = stands.opened.bytes };
          holds = h;
          lists = lists_of after (grown_known n k).mounted (records_by (with_sectors n k.mounted.volume.layout) end k.mounted.anchor) h;
          ends = stands.ends;
          disk = mounted_end;
          written = written_end;
        }

    pub stands_grown : (new : Moment) → HasGrownRoots n (root_bytes (with_sectors n v.layout)) old new → Stands state IsMemoryOf (value_grown n v) (grown_known n k) new
    stands_grown new holds = stands_worn (value_grown n v) (grown_known n k) (record old { image = end }) new short (record { image = holds.worn; windows = holds.windows }) stands_end
