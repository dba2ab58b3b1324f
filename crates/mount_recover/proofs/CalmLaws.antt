-- A mount of any image, where nothing wears.
use Rattle.std.proofs.Common.{◌≡◌, ◌⊎◌, inl, inr, ⊎_elim, ℕ, ◌+◌, ◌*◌, ◌<◌, ◌≤◌, false, List, length, Option, Some, None, refl, sym, ap, subst, ◌∙◌, arith, zero, suc}
use Rattle.std.specs.Prelude.{IfSome, option_and_then}
use Rattle.std.specs.List.{AllByRecursion}
use Rattle.std.specs.Option.{option_or}
use Rattle.volume_layout.specs.declared.layout.Layout.{Layout}
use Rattle.volume_layout.specs.Layout.{home_a, home_b}
use Rattle.sector_disk.specs.declared.machine.LoadFault.{LoadFault}
use Rattle.sector_disk.specs.declared.machine.LoadFault.TheVariants as load
use Rattle.sector_disk.specs.declared.sector.Sector.{Sector}
use Rattle.sector_disk.specs.declared.sector.Sector.TheVariants.{Whole, Damaged}
use Rattle.sector_disk.specs.declared.sector.WeakRun.{WeakRun}
use Rattle.sector_disk.specs.Damage.{LostCause, IsDevice}
use Rattle.sector_disk.specs.Image.{Windows, IsEmpty, IsCalm, IsWorn, sector_at, slice_of, with_sector, stand, open_damage, settled, bytes_of}
use Rattle.sector_disk.specs.Machine.{Moment, Holds, Wears, Names}
use Rattle.sector_disk.proofs.Calm.{calm_worn, worn_not, stand_one}
use Rattle.sector_disk.proofs.Wear.{stand_in, stand_other, length-stand}
use Rattle.fsd_log.specs.Images.{last_image}
use Rattle.fsd_log.specs.Judged.{Reader}
use Rattle.fsd_log.specs.Scan.{Placed}
use Rattle.fsd_files.specs.Disk.{Image, bytes_at, first_whole}
use Rattle.fsd_sound.specs.Homes.{home_of}
use Rattle.fsd_formats.specs.declared.anchor.Anchor.{Anchor}
use Rattle.volume_layout.specs.Root.{read_root}
use Rattle.fsd_sound.specs.Anchors.{anchor_of}
use Rattle.fsd_sound.specs.Roots.{counted_root, root_of}
use Rattle.fsd_sound.specs.Shown.{records_by, newest}
use Rattle.fsd_sound.proofs.LogPlaces.{scan_records}
use Rattle.log_thirds.specs.Append.{IsCalmNow, IsIndexed}
use Rattle.fsd_log.specs.declared.slot.Slot.{Slot}
use Rattle.log_thirds.specs.Disk.{reads}
use Rattle.log_thirds.specs.Images.{GivesSlot, GivesLast}
use Rattle.log_thirds.specs.LogValue.{LogValue}
use Rattle.log_thirds.specs.Copies.{copies_count}
use Rattle.fsd_log.specs.Slots.{last_slot}
use Rattle.log_thirds.proofs.RunLaws.{calm_runs}
use Rattle.fsd_files.specs.Scrub.{ReadsDamaged}
use Rattle.twin_home.specs.Heal.{Mends, Heals, Healed, HealsRoots}
use Rattle.fsd_sound.proofs.CommuteLaws.{with_same, with_other}
use Rattle.fsd_sound.specs.declared.fault.MountFault.{MountFault}
use Rattle.fsd_sound.specs.declared.fault.MountFault.TheVariants.{Lost}
use Rattle.mount_recover.specs.Finding.{IsExcuse, HasSeenLog}
use Rattle.mount_recover.specs.Lost.{StandAsShown}
use Rattle.fsd_sound.specs.Lost.{LosesShown}
use Rattle.mount_recover.specs.Mending.{KnowsLog, StaysBut}
use Rattle.fsd_sound.specs.Mounting.{IsVolume, load_fault_of}
use Rattle.mount_recover.specs.Showing.{GivesPages, shows_of, ChangesHome, HasNoRoot, IsLaidAgain, LosesNone, LosesHome}
use Rattle.mount_recover.proofs.AgainLaws.{again_stand}
use Rattle.mount_recover.proofs.CompletingLaws.{low_third, copies_inside, copies_behind}
use Rattle.mount_recover.proofs.GivenLaws.{RecordAgain, last_again, gives_again, gives_same, slot_inside, scan_gives}
use Rattle.mount_recover.proofs.SeenLaws.{reads_bytes}

-- ---- where no sector may be damaged now

pub still_worn : (at : Moment) (i j : Image) → IsCalmNow at → IsWorn (open_damage at.windows) i j → j ≡ i
still_worn at i j still worn = worn_not (open_damage at.windows) i j (λ place h. absurd (cc (still place, h))) worn

pub still_holds : (old : Moment) (image : Image) (left : Moment) → IsCalmNow old → Holds old image left → left.image ≡ image
still_holds old image left still holds = still_worn old image left.image still holds.worn

pub still_next : (old new : Moment) → new.windows ≡ old.windows → IsCalmNow old → IsCalmNow new
still_next old new same still = subst (λ (w : Windows). (place : ℕ) → open_damage w place ≡ false) (sym same) still

-- ---- the slots

if_some : {A : Type 0} (P : A → Type 0) (o : Option A) → ((x : A) → o ≡ Some x → P x) → IfSome o P
if_some P None each = tt
if_some P (Some x) each = each x refl

-- an image gives the pages of its own records
pub gives_pages : (l : Layout) (log : LogValue) (i : Image) → log.layout ≡ l → log.anchor.third ≤ 2 → IsIndexed log (records_by l i log.anchor) → GivesPages log (records_by l i log.anchor) i
gives_pages l log i same third indexed =
    subst (λ (k : Layout). GivesPages log (records_by k i log.anchor) i) same
    (by_own (subst (λ (k : Layout). IsIndexed log (records_by k i log.anchor)) (sym same) indexed))
  where
    by_own : IsIndexed log (records_by log.layout i log.anchor) → GivesPages log (records_by log.layout i log.anchor) i
    by_own indexed = record {
      indexed = indexed;
      inside = λ page. if_some (λ slot. (slot.place < 16 + 3 * log.layout.third) × (slot.copy < 16 + 3 * log.layout.third)) (last_slot log.layout log.anchor.third page (records_by log.layout i log.anchor))
          (λ slot is. slot_inside log.layout log.anchor.third page (records_by log.layout i log.anchor) slot (scan_records log.layout i log.anchor third) is);
      gives = λ page. if_some (λ slot. GivesSlot page log.anchor.epoch (reads i) slot (last_image page (records_by log.layout i log.anchor))) (last_slot log.layout log.anchor.third page (records_by log.layout i log.anchor))
          (λ slot is. subst (λ (r : Reader). GivesSlot page log.anchor.epoch r slot (last_image page (records_by log.layout i log.anchor))) (sym (reads_bytes i)) (scan_gives log.layout i log.anchor page slot third is));
    }

-- what the slots gave they give, where each record is as it was but maybe for copies of its images
pub pages_again : (l : Layout) (log : LogValue) (i j : Image) (records : List Placed) → log.layout ≡ l → AllByRecursion (RecordAgain l log.anchor.third (bytes_at i) (bytes_at j)) records → GivesPages log records i → GivesPages log records j
pages_again l log i j records same all given = record { indexed = given.indexed; inside = given.inside; gives = λ page. by_slot page (last_slot log.layout log.anchor.third page records) refl (given.gives page) }
  where
    again : AllByRecursion (RecordAgain log.layout log.anchor.third (bytes_at i) (bytes_at j)) records
    again = subst (λ (k : Layout). AllByRecursion (RecordAgain k log.anchor.third (bytes_at i) (bytes_at j)) records) (sym same) all

    by_slot : (page : ℕ) (o : Option Slot) → last_slot log.layout log.anchor.third page records ≡ o → IfSome o (λ slot. GivesSlot page log.anchor.epoch (reads i) slot (last_image page records))
        → IfSome o (λ slot. GivesSlot page log.anchor.epoch (reads j) slot (last_image page records))
    by_slot page None is gives = tt
    by_slot page (Some slot) is gives =
        subst (λ (r : Reader). GivesSlot page log.anchor.epoch r slot (last_image page records)) (sym (reads_bytes j))
        (gives_again page log.anchor.epoch (bytes_at i) (bytes_at j) slot (last_image page records) (last_again log.layout log.anchor.third page (bytes_at i) (bytes_at j) records slot again is)
        (subst (λ (r : Reader). GivesSlot page log.anchor.epoch r slot (last_image page records)) (reads_bytes i) gives))

-- they give it of each image with the same log
pub given_on : (l : Layout) (log : LogValue) (same : log.layout ≡ l) (records : List Placed) (i j : Image) (page : ℕ) → ((s : ℕ) → s < 16 + 3 * l.third → sector_at j s ≡ sector_at i s) → GivesPages log records i → GivesLast log records page j
given_on l log same records i j page front given = by_slot (last_slot log.layout log.anchor.third page records) (given.inside page) (given.gives page)
  where
    reads_same : (s : ℕ) → s < 16 + 3 * log.layout.third → reads j s ≡ reads i s
    reads_same s within = let third : log.layout.third ≡ l.third = ap (λ (k : Layout). k.third) same in ap bytes_of (front s (omega (arith, within, third)))

    by_slot : (o : Option Slot) → IfSome o (λ slot. (slot.place < 16 + 3 * log.layout.third) × (slot.copy < 16 + 3 * log.layout.third))
        → IfSome o (λ slot. GivesSlot page log.anchor.epoch (reads i) slot (last_image page records)) → IfSome o (λ slot. GivesSlot page log.anchor.epoch (reads j) slot (last_image page records))
    by_slot None inside gives = tt
    by_slot (Some slot) inside gives = gives_same page log.anchor.epoch (reads i) (reads j) slot (last_image page records) (reads_same slot.place inside.0) (reads_same slot.copy inside.1) gives

-- ---- one page

pub home_same : (l : Layout) (i j : Image) (page : ℕ) → sector_at j (home_a l page) ≡ sector_at i (home_a l page) → sector_at j (home_b l page) ≡ sector_at i (home_b l page) → home_of l j page ≡ home_of l i page
home_same l i j page first second = λ x. first_whole (bytes_of (first x)) (bytes_of (second x))

pub first_home : (l : Layout) (i : Image) (page : ℕ) (bytes : List ℕ) → sector_at i (home_a l page) ≡ Whole bytes → home_of l i page ≡ Some bytes
first_home l i page bytes is = ap (λ (s : Sector). first_whole (bytes_of s) (bytes_at i (home_b l page))) is

second_home : (l : Layout) (i : Image) (page : ℕ) (bytes : List ℕ) → sector_at i (home_a l page) ≡ Damaged → sector_at i (home_b l page) ≡ Whole bytes → home_of l i page ≡ Some bytes
second_home l i page bytes hurt is = ap (λ (s : Sector). first_whole (bytes_of s) (bytes_at i (home_b l page))) hurt ∙ ap bytes_of is

module _ (l : Layout) (page : ℕ) (lt : page < l.pages) (old new : Moment) (still : IsCalmNow old) (long : home_b l l.pages ≤ length old.image) where
  may_damaged : (s : ℕ) → ReadsDamaged old s → sector_at old.image s ≡ Damaged
  may_damaged s (inl hurt) = hurt
  may_damaged s (inr may) = absurd (cc (still s, may))

  pub heal_changes : (count : ℕ) → Healed (home_a l page) (home_b l page) count old new → ChangesHome l page old.image new.image (home_of l old.image page)
  heal_changes count (inl (none, a, b, holds)) =
      let is : new.image ≡ old.image = still_holds old old.image new still holds in
      record { others = λ s a b. ap (λ (i : Image). sector_at i s) is; is = ap (λ (i : Image). home_of l i page) is }
  heal_changes count (inr (one, inl mended)) =
      let is : new.image ≡ with_sector old.image (home_a l page) mended.bytes = still_holds old (stand old.image (home_a l page) mended.bytes 1) new still mended.stands ∙ stand_one old.image (home_a l page) mended.bytes mended.long in
      record {
        others = λ s a b. ap (λ (i : Image). sector_at i s) is ∙ with_other old.image (home_a l page) s mended.bytes a;
        is = first_home l new.image page mended.bytes (ap (λ (i : Image). sector_at i (home_a l page)) is ∙ with_same old.image (home_a l page) mended.bytes (omega (arith, long, lt)))
            ∙ sym (second_home l old.image page mended.bytes (may_damaged (home_a l page) mended.hurt) mended.whole);
      }
  heal_changes count (inr (one, inr mended)) =
      let is : new.image ≡ with_sector old.image (home_b l page) mended.bytes = still_holds old (stand old.image (home_b l page) mended.bytes 1) new still mended.stands ∙ stand_one old.image (home_b l page) mended.bytes mended.long in
      record {
        others = λ s a b. ap (λ (i : Image). sector_at i s) is ∙ with_other old.image (home_b l page) s mended.bytes b;
        is = first_home l new.image page mended.bytes (ap (λ (i : Image). sector_at i (home_a l page)) is ∙ with_other old.image (home_b l page) (home_a l page) mended.bytes (λ e. omega (arith, e, lt)) ∙ mended.whole)
            ∙ sym (first_home l old.image page mended.bytes mended.whole);
      }

  -- both are damaged, so nothing was written
  mends_whole : (place twin : ℕ) → (place < twin) ⊎ (twin < place) → (mends : Mends place twin old new) → sector_at new.image twin ≡ Damaged → ⊥
  mends_whole place twin apart mends hurt =
      let is : new.image ≡ stand old.image place mends.bytes mends.part.stood = still_holds old (stand old.image place mends.bytes mends.part.stood) new still mends.part.holds in
      let same : sector_at new.image twin ≡ sector_at old.image twin = ap (λ (i : Image). sector_at i twin) is
      ∙ stand_other old.image place mends.bytes mends.part.stood twin (⊎_elim (λ below. inr (omega (arith, below, mends.part.within))) (λ above. inl above) apart) in
      absurd (cc (sym same ∙ hurt, mends.whole))

  pub heal_loses : Heals (home_a l page) (home_b l page) old new → (fault : LoadFault) → LostCause (λ x y. (x ≡ home_a l page) × (y ≡ home_b l page)) new.image fault → LosesHome l page old.image (load_fault_of fault)
  heal_loses heals (load.Device s) lost = tt
  heal_loses heals (load.Lost a b) lost =
      let first : sector_at new.image (home_a l page) ≡ Damaged = ap (sector_at new.image) (sym lost.copies.0) ∙ lost.first in
      let second : sector_at new.image (home_b l page) ≡ Damaged = ap (sector_at new.image) (sym lost.copies.1) ∙ lost.second in
      (lost.copies, by_way heals first second)
    where
      by_way : Heals (home_a l page) (home_b l page) old new → sector_at new.image (home_a l page) ≡ Damaged → sector_at new.image (home_b l page) ≡ Damaged → home_of l old.image page ≡ None
      by_way (inl holds) first second =
          let is : new.image ≡ old.image = still_holds old old.image new still holds in
          ap (λ (i : Image). home_of l i page) (sym is) ∙ λ x. first_whole (bytes_of (first x)) (bytes_of (second x))
      by_way (inr (inl mends)) first second = absurd (mends_whole (home_a l page) (home_b l page) (inl (omega (arith, lt))) mends second)
      by_way (inr (inr mends)) first second = absurd (mends_whole (home_b l page) (home_a l page) (inr (omega (arith, lt))) mends first)

-- ---- faults

-- what was read is not lost
pub device_loses : (l : Layout) (records : List Placed) (first : Image) (fault : LoadFault) (told : MountFault) → told ≡ load_fault_of fault → IsDevice fault → LosesNone l records first told
device_loses l records first (load.Device s) told is device = subst (LosesNone l records first) (sym is) tt
device_loses l records first (load.Lost a b) told is device = absurd device

pub excuse_loses : (l : Layout) (records : List Placed) (first : Image) (fault : MountFault) → IsExcuse fault → LosesNone l records first fault
excuse_loses l records first (Lost a b) excuse = absurd excuse
excuse_loses l records first other excuse = tt

-- ---- the last record

pub laid_again : {longest : ℕ} (l : Layout) (log : LogValue) (old mid new : Moment) → log.layout ≡ l → KnowsLog l log old.image → IsCalmNow old → 16 + 3 * l.third ≤ length old.image
    → Holds old (stand old.image log.copies.place log.copies.bytes (copies_count log.copies)) mid → Names longest mid new → IsLaidAgain l log old.image new.image
laid_again l log old mid new same knows still long holds names =
    let low = low_third l old.image log.anchor knows.taken in
    let is : new.image ≡ stand old.image log.copies.place log.copies.bytes (copies_count log.copies) =
    still_worn mid mid.image new.image (still_next old mid holds.windows still) names.image ∙ still_holds old (stand old.image log.copies.place log.copies.bytes (copies_count log.copies)) mid still holds in
    record {
      gives = subst (GivesPages log (records_by l old.image log.anchor)) (sym is)
          (pages_again l log old.image (stand old.image log.copies.place log.copies.bytes (copies_count log.copies)) (records_by l old.image log.anchor) same
          (again_stand l old.image log.anchor log.copies low long knows.last)
          (gives_pages l log old.image same low knows.slots));
      rest = λ s out. ap (λ (i : Image). sector_at i s) is ∙ ⊎_elim (λ below. copies_behind l log old.image knows (copies_count log.copies) (omega arith) s below old.image) (λ above. copies_inside l log old.image knows (copies_count log.copies) (omega arith) s above old.image) out;
    }

-- ---- the roots

-- what is damaged was not written
not_written : (i : Image) (s k : ℕ) (bytes : List ℕ) → k ≤ 1 → s < length i → sector_at (stand i s bytes k) s ≡ Damaged → sector_at i s ≡ Damaged
not_written i s zero bytes once room hurt = hurt
not_written i s (suc zero) bytes once room hurt =
    let here : s + 0 ≡ s = omega arith in
    let there : sector_at (stand i s bytes 1) s ≡ Whole (slice_of bytes 0) = ap (sector_at (stand i s bytes 1)) (sym here) ∙ stand_in i s bytes 1 0 (omega arith) (omega (arith, room)) in
    absurd (cc (there, hurt))
not_written i s (suc (suc k)) bytes once room hurt = absurd (omega (arith, once))

pub roots_lose : (bytes : List ℕ) (old new : Moment) → 4 < length old.image → IsCalmNow old → HealsRoots bytes old new → (HasNoRoot old.image → ⊥) → (fault : LoadFault) → LostCause (λ x y. (x ≡ 0) × (y ≡ 4)) new.image fault → IsDevice fault
roots_lose bytes old new room still roots some (load.Device s) lost = tt
roots_lose bytes old new room still roots some (load.Lost a b) lost =
    let is : new.image ≡ stand (stand old.image 0 bytes roots.first) 4 bytes roots.second = still_holds old (stand (stand old.image 0 bytes roots.first) 4 bytes roots.second) new still roots.holds in
    let first : sector_at (stand old.image 0 bytes roots.first) 0 ≡ Damaged =
    sym (stand_other (stand old.image 0 bytes roots.first) 4 bytes roots.second 0 (inl (omega arith))) ∙ ap (λ (i : Image). sector_at i 0) (sym is) ∙ ap (sector_at new.image) (sym lost.copies.0) ∙ lost.first in
    let second : sector_at (stand (stand old.image 0 bytes roots.first) 4 bytes roots.second) 4 ≡ Damaged = ap (λ (i : Image). sector_at i 4) (sym is) ∙ ap (sector_at new.image) (sym lost.copies.1) ∙ lost.second in
    some (
      not_written old.image 0 roots.first bytes roots.once (omega (arith, room)) first,
      sym (stand_other old.image 0 bytes roots.first 4 (inr (omega (arith, roots.once))))
          ∙ not_written (stand old.image 0 bytes roots.first) 4 roots.second bytes roots.once_more (omega (arith, room, length-stand old.image 0 bytes roots.first)) second,
    )

-- ---- the windows of a mount that is calm at its end

pub calm_now : (w : Windows) → IsCalm w → (place : ℕ) → open_damage w place ≡ false
calm_now w calm = calm_runs w.present w.next calm.present calm.next

settled_empty : (present next : Option WeakRun) → IfSome (settled present next).present IsEmpty → IfSome next IsEmpty
settled_empty present None h = tt
settled_empty present (Some run) h = h

-- a run that was settled is empty where the windows are calm behind it
pub next_settled : (old new : Windows) → new ≡ settled old.present old.next → IsCalm new → IfSome old.next IsEmpty
next_settled old new is calm = settled_empty old.present old.next (subst (λ (w : Windows). IfSome w.present IsEmpty) is calm.present)

pub next_kept : (old new : Windows) → new ≡ old → IsCalm new → IfSome old.next IsEmpty
next_kept old new is calm = subst (λ (w : Windows). IfSome w.next IsEmpty) is calm.next

pub calm_on : (one two : Windows) → IsCalm one → two.present ≡ one.present → IfSome two.next IsEmpty → IsCalm two
calm_on one two calm present next = record { present = subst (λ (o : Option WeakRun). IfSome o IsEmpty) (sym present) calm.present; next = next }

-- ---- the whole mount

-- the calls of a mount of an image on which nothing wears, up to the homes
module _ (sectors : ℕ) (l : Layout) (log : LogValue) (old one two : Moment) (calm : IsCalm old.windows) (wears : Wears old one) (is : HasSeenLog sectors l log old one) where
  as_old : one.image ≡ old.image
  as_old = calm_worn old.windows old.image one.image calm wears.image

  seen_old : is.seen ≡ old.image
  seen_old = calm_worn old.windows old.image is.seen calm is.from

  pub volume_old : IsVolume sectors old.image l log.anchor
  volume_old = record { root = ap (root_of sectors) (sym seen_old) ∙ is.root; anchor = ap anchor_of (sym seen_old) ∙ is.knows.taken }

  pub knows_one : KnowsLog l log one.image
  knows_one = subst (KnowsLog l log) (seen_old ∙ sym as_old) is.knows

  pub still_one : IsCalmNow one
  still_one = calm_now one.windows (subst (λ (w : Windows). IsCalm w) (sym wears.windows) calm)

  pub calm_two : two.windows.present ≡ one.windows.present → IfSome two.windows.next IsEmpty → IsCalm two.windows
  calm_two present next = calm_on old.windows two.windows calm (present ∙ ap (λ (w : Windows). w.present) wears.windows) next

  module _ (laid : IsLaidAgain l log one.image two.image) where
    shows_same : (page : ℕ) → shows_of l (records_by l one.image log.anchor) two.image page ≡ newest l old.image (records_by l old.image log.anchor) page
    shows_same page =
        ap (option_or (last_image page (records_by l one.image log.anchor))) (home_same l one.image two.image page (laid.rest (home_a l page) (inr (omega arith))) (laid.rest (home_b l page) (inr (omega arith))))
        ∙ ap (λ (i : Image). newest l i (records_by l i log.anchor) page) as_old

    pub some_root : HasNoRoot two.image → ⊥
    some_root none =
        let first : sector_at old.image 0 ≡ Damaged = ap (λ (i : Image). sector_at i 0) (sym as_old) ∙ sym (laid.rest 0 (inl (omega arith))) ∙ none.0 in
        let second : sector_at old.image 4 ≡ Damaged = ap (λ (i : Image). sector_at i 4) (sym as_old) ∙ sym (laid.rest 4 (inl (omega arith))) ∙ none.1 in
        let at : Sector → Option Layout = λ s. option_and_then (counted_root sectors) (option_and_then read_root (bytes_of s)) in
        let nothing : root_of sectors old.image ≡ None = λ x. first_whole (at (first x)) (at (second x)) in
        absurd (cc (nothing, volume_old.root))

    pub loses_shown : (fault : MountFault) → LosesNone l (records_by l one.image log.anchor) two.image fault → LosesShown sectors old.image fault
    loses_shown (Lost a b) lost = record {
      layout = l;
      anchor = log.anchor;
      found = volume_old;
      page = lost.page;
      within = lost.within;
      homes = record { first = lost.first; second = lost.second };
      none = sym (shows_same lost.page) ∙ lost.none;
    }
    loses_shown other lost = tt

    pub stand_shown : (three new : Moment) (a : Anchor) → anchor_of old.image ≡ Some a → ((page : ℕ) → page < l.pages → home_of l three.image page ≡ shows_of l (records_by l one.image log.anchor) two.image page) → IsCalmNow three → StaysBut 8 12 three new
        → StandAsShown l a old.image new.image
    stand_shown three new a taken shown still kept page lt =
        let both : Some log.anchor ≡ Some a = sym volume_old.anchor ∙ taken in
        let anchor : log.anchor ≡ a = cc both in
        home_same l three.image new.image page (same (home_a l page) (omega arith)) (same (home_b l page) (omega arith)) ∙ shown page lt ∙ shows_same page ∙ ap (λ (b : Anchor). newest l old.image (records_by l old.image b) page) anchor
      where
        same : (s : ℕ) → 16 ≤ s → sector_at new.image s ≡ sector_at three.image s
        same s from = ⊎_elim (λ is. is) (λ hurt. absurd (cc (still s, hurt.0))) (kept s (λ e. omega (arith, e, from)) (λ e. omega (arith, e, from)))
