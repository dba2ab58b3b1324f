-- A volume stands over what a call leaves that heals.
use Rattle.std.proofs.Common.{◌≡◌, ◌≢◌, inl, inr, ⊎_elim, ℕ, zero, suc, ◌+◌, ◌<◌, ◌≤◌, true, false, List, [], ◌∷◌, Option, None, option_map, Result, Ok, Err, refl, sym, ap, subst, ◌∙◌, arith}
use Rattle.std.specs.Prelude.{IfErr, IfOk, OnOk, IsFalse, IsTrue, nat_le, nat_lt}
use Rattle.std.proofs.lemmas.Bool.{and_parts, both_ways, leb-true, or_left}
use Rattle.volume_layout.specs.declared.layout.Layout.{Layout}
use Rattle.volume_layout.specs.Layout.{InLog, data_start, home_a, home_b}
use Rattle.fsd_bytes.specs.declared.refusal.Refusal.{Refusal}
use Rattle.fsd_bytes.specs.declared.refusal.Refusal.TheVariants as Why
use Rattle.sector_disk.specs.declared.machine.LoadFault.{LoadFault}
use Rattle.sector_disk.specs.declared.machine.LoadFault.TheVariants as fault
use Rattle.sector_disk.specs.declared.sector.Sector.TheVariants.{Damaged}
use Rattle.sector_disk.specs.Calls.{device_in, load_failed_at}
use Rattle.sector_disk.specs.Damage.{AreLost, LostCause}
use Rattle.sector_disk.specs.Image.{AreShort, open_damage, sector_at, stand}
use Rattle.sector_disk.specs.Machine.{Holds as HoldsImage, Moment}
use Rattle.sector_disk.proofs.Calm.{stand_one}
use Rattle.sector_disk.proofs.Wear.{stand_other}
use Rattle.fsd_log.specs.Scan.{Walked}
use Rattle.fsd_files.specs.Disk.{Image, Touches}
use Rattle.fsd_files.specs.Volume.{is_in}
use Rattle.fsd_files.proofs.WaitLaws.{open_in_area}
use Rattle.fsd_sound.specs.Mounted.{IsMounted}
use Rattle.fsd_sound.specs.Shown.{records_by}
use Rattle.fsd_sound.specs.Sound.{is_twin, weak_of}
use Rattle.fsd_sound.specs.Windows.{IsNarrow}
use Rattle.fsd_sound.proofs.LogPlaces.{SameLog, same_scan}
use Rattle.fsd_sound.proofs.MountedLaws.{mounted_sound}
use Rattle.fsd_sound.proofs.OpenLaws.{drafts_worn}
use Rattle.fsd_sound.proofs.TwinLaws.{twin_a, twin_b}
use Rattle.fsd_sound.proofs.TwinMendLaws.{ArePair, twin_mounted}
use Rattle.fsd_sound.proofs.WindowLaws.{borne_narrow}
use Rattle.fsd_sound.proofs.WritesLaws.{beside}
use Rattle.twin_home.specs.Heal.{Heals, Mends}
use Rattle.fsd_sound.specs.Lost.{AreTwinCopies}
use Rattle.twin_home.specs.Twins.{HealsPages, HealsTwins, TwinsHaveSome}
use Rattle.twin_home.proofs.TwinsLaws.{IsNoHome, Stays, heals_length, heals_said, heals_stay, heals_windows, pages_length, pages_said, pages_stay, pages_windows, stays_on}
use Rattle.volume_contract.specs.Ends.{device_of}
use Rattle.volume_contract.specs.Healing.{LosesTwins, StandsStill, TwinsStand as AllStand}
use Rattle.volume_contract.specs.Order.{Follows, Heal, Test, heal_steps, is_idle}
use Rattle.volume_contract.specs.State.{Known, Leaves, ListsPages, StandWritten, Stands, State, forced_of}
use Rattle.volume_laws.specs.Forcing.{force_refusal}
use Rattle.volume_laws.specs.State.{IsMemoryOf, state}
use Rattle.volume_laws.specs.Volume.{VolumeValue}
use Rattle.volume_laws.specs.WearLaws.{stands_worn}
use Rattle.volume_laws.proofs.ForceLeavesLaws.{tells_place}

-- ---- over an image that is written outside the log

module _ (v : VolumeValue) (k : Known) (old : Moment) (stands : Stands state IsMemoryOf v k old) where
  records_same : (j : Image) → SameLog k.mounted.volume.layout old.image j → records_by k.mounted.volume.layout old.image k.mounted.anchor ≡ records_by k.mounted.volume.layout j k.mounted.anchor
  records_same j same = ap (λ (w : Walked). w.records) (sym (same_scan k.mounted.volume.layout old.image j same k.mounted.anchor stands.disk.third))

  -- it stands there, and so it does as that is worn
  pub stands_written : AreShort old.windows → (j : Image) → SameLog k.mounted.volume.layout old.image j → IsMounted k.mounted k.windows k.changes (forced_of k) j → StandWritten (open_damage old.windows) j k.mounted.slices k.mounted.volume.drafts
      → (left : Moment) → HoldsImage old j left → Stands state IsMemoryOf v k left
  stands_written short j same disk written left holds =
      let mid : Moment = record old { image = j } in
      let here : Stands state IsMemoryOf v k mid = record {
        fits = stands.fits;
        opened = stands.opened;
        holds = subst (IsMemoryOf v k.mounted) (records_same j same) stands.holds;
        lists = subst (ListsPages (state v) k.mounted.pages) (records_same j same) stands.lists;
        ends = stands.ends;
        disk = disk;
        written = written;
      } in
      stands_worn v k mid left short (record { image = holds.worn; windows = holds.windows }) here

  -- ---- a copy that is written from its twin

  narrow : AreShort old.windows → IsNarrow (weak_of k.windows)
  narrow short = borne_narrow k.mounted.volume.layout k.windows stands.disk.over.shows.readable.borne

  pair_outside : (s t p : ℕ) → ArePair k.mounted.volume.layout s t → InLog k.mounted.volume.layout p → p ≡ s → ⊥
  pair_outside s t p (inl (inl r)) within e = let from = within.0 in omega (arith, r.0, from, e)
  pair_outside s t p (inl (inr r)) within e = let from = within.0 in omega (arith, r.0, from, e)
  pair_outside s t p (inr (inl (inl a))) within e = let from = within.0 in omega (arith, a.0, from, e)
  pair_outside s t p (inr (inl (inr a))) within e = let from = within.0 in omega (arith, a.0, from, e)
  pair_outside s t p (inr (inr (page, lt, inl o))) within e = let high = within.1 in omega (arith, o.0, high, e)
  pair_outside s t p (inr (inr (page, lt, inr o))) within e = let high = within.1 in omega (arith, o.0, high, e)

  copy_log : (s t : ℕ) → ArePair k.mounted.volume.layout s t → (bytes : List ℕ) (stood : ℕ) → stood ≤ 1 → SameLog k.mounted.volume.layout old.image (stand old.image s bytes stood)
  copy_log s t pair bytes stood once p within = stand_other old.image s bytes stood p (beside p s stood (λ e. pair_outside s t p pair within e) once)

  mended_mounted : AreShort old.windows → (s t stood : ℕ) → stood ≤ 1 → ArePair k.mounted.volume.layout s t → (left : Moment) → (mends : Mends s t old left) → IsMounted k.mounted k.windows k.changes (forced_of k) (stand old.image s mends.bytes stood)
  mended_mounted short s t zero once pair left mends = stands.disk
  mended_mounted short s t (suc zero) once pair left mends = subst (IsMounted k.mounted k.windows k.changes (forced_of k)) (sym (stand_one old.image s mends.bytes mends.long))
      (twin_mounted k.mounted k.windows (narrow short) k.changes (forced_of k) old.image stands.disk s t pair mends.bytes mends.whole)
  mended_mounted short s t (suc (suc n)) once pair left mends = absurd (omega (arith, once))

  -- no creation lies in a copy
  pair_before : (s t p : ℕ) → ArePair k.mounted.volume.layout s t → data_start k.mounted.volume.layout ≤ p → p ≡ s → ⊥
  pair_before s t p (inl (inl r)) from e = omega (arith, r.0, from, e)
  pair_before s t p (inl (inr r)) from e = omega (arith, r.0, from, e)
  pair_before s t p (inr (inl (inl a))) from e = omega (arith, a.0, from, e)
  pair_before s t p (inr (inl (inr a))) from e = omega (arith, a.0, from, e)
  pair_before s t p (inr (inr (page, lt, inl o))) from e = omega (arith, o.0, lt, from, e)
  pair_before s t p (inr (inr (page, lt, inr o))) from e = omega (arith, o.0, lt, from, e)

  mended_written : (s t stood : ℕ) → stood ≤ 1 → ArePair k.mounted.volume.layout s t → (bytes : List ℕ) → StandWritten (open_damage old.windows) (stand old.image s bytes stood) k.mounted.slices k.mounted.volume.drafts
  mended_written s t stood once pair bytes =
      drafts_worn (open_damage old.windows) old.image (stand old.image s bytes stood) k.mounted.slices k.mounted.volume.drafts (λ p there.
      let area = open_in_area k.mounted.volume stands.disk.spaced p (or_left (is_in k.mounted.volume.drafts p) (is_in k.mounted.volume.held p) there) in
      let from = leb-true (data_start k.mounted.volume.layout) p (and_parts (nat_le (data_start k.mounted.volume.layout) p) (nat_lt p k.mounted.volume.layout.sectors) area).0 in
      inl (stand_other old.image s bytes stood p (beside p s stood (pair_before s t p pair from) once))) stands.written

  stands_mended : AreShort old.windows → (s t : ℕ) → ArePair k.mounted.volume.layout s t → (left : Moment) → Mends s t old left → Stands state IsMemoryOf v k left
  stands_mended short s t pair left mends =
      stands_written short (stand old.image s mends.bytes mends.part.stood) (copy_log s t pair mends.bytes mends.part.stood mends.part.within)
      (mended_mounted short s t mends.part.stood mends.part.within pair left mends) (mended_written s t mends.part.stood mends.part.within pair mends.bytes) left mends.part.holds

  pub stands_healed : AreShort old.windows → (a b : ℕ) → ArePair k.mounted.volume.layout a b → ArePair k.mounted.volume.layout b a → (left : Moment) → Heals a b old left → Stands state IsMemoryOf v k left
  stands_healed short a b pair turned left (inl holds) = stands_written short old.image (λ p within. refl) stands.disk stands.written left holds
  stands_healed short a b pair turned left (inr (inl mends)) = stands_mended short a b pair left mends
  stands_healed short a b pair turned left (inr (inr mends)) = stands_mended short b a turned left mends

-- ---- all that stands twice

module _ (v : VolumeValue) (k : Known) where
  stands_paged : (count : ℕ) → count ≤ k.mounted.volume.layout.pages → (old left : Moment) → AreShort old.windows → Stands state IsMemoryOf v k old → HealsPages k.mounted.volume.layout count old left → Stands state IsMemoryOf v k left
  stands_paged zero le old left short stands holds = stands_written v k old stands short old.image (λ p within. refl) stands.disk stands.written left holds
  stands_paged (suc page) le old left short stands (mid, before, here) =
      let lt : page < k.mounted.volume.layout.pages = omega (arith, le) in
      stands_healed v k mid (stands_paged page (omega (arith, le)) old mid short stands before)
      (subst AreShort (sym (pages_windows k.mounted.volume.layout page old mid before)) short)
      (home_a k.mounted.volume.layout page) (home_b k.mounted.volume.layout page) (inr (inr (page, lt, inl (refl, refl)))) (inr (inr (page, lt, inr (refl, refl)))) left here

  stands_twins : (old left : Moment) → AreShort old.windows → Stands state IsMemoryOf v k old → HealsTwins k.mounted.volume.layout old left → Stands state IsMemoryOf v k left
  stands_twins old left short stands heals =
      let one = stands_healed v k old stands short 0 4 (inl (inl (refl, refl))) (inl (inr (refl, refl))) heals.roots_at heals.roots in
      let short_1 : AreShort heals.roots_at.windows = subst AreShort (sym (heals_windows 0 4 old heals.roots_at heals.roots)) short in
      let two = stands_healed v k heals.roots_at one short_1 8 12 (inr (inl (inl (refl, refl)))) (inr (inl (inr (refl, refl)))) heals.anchors_at heals.anchors in
      let short_2 : AreShort heals.anchors_at.windows = subst AreShort (sym (heals_windows 8 12 heals.roots_at heals.anchors_at heals.anchors)) short_1 in
      stands_paged k.mounted.volume.layout.pages (omega arith) heals.anchors_at left short_2 two heals.pages

-- what a stop leaves, and the end
pub stands_all : (v : VolumeValue) (k : Known) (old left : Moment) → AreShort old.windows → HealsTwins v.layout old left → Stands state IsMemoryOf v k old → Stands state IsMemoryOf v k left
stands_all v k old left short heals stands = stands_twins v k old left short stands (subst (λ (l : Layout). HealsTwins l old left) (sym stands.fits.layout) heals)

-- ---- what is written

twin_beside : (l : Layout) (s p : ℕ) → IsFalse (is_twin l s) → IsTrue (is_twin l p) → s ≢ p
twin_beside l s p out is e = both_ways (is_twin l s) out (subst (λ (x : ℕ). IsTrue (is_twin l x)) (sym e) is)

twins_windows : (l : Layout) (old left : Moment) → HealsTwins l old left → left.windows ≡ old.windows
twins_windows l old left heals = pages_windows l l.pages heals.anchors_at left heals.pages ∙ heals_windows 8 12 heals.roots_at heals.anchors_at heals.anchors ∙ heals_windows 0 4 old heals.roots_at heals.roots

twins_said : (l : Layout) (old left : Moment) → HealsTwins l old left → left.said ≡ old.said
twins_said l old left heals = pages_said l l.pages heals.anchors_at left heals.pages ∙ heals_said 8 12 heals.roots_at heals.anchors_at heals.anchors ∙ heals_said 0 4 old heals.roots_at heals.roots

pub twins_touch : (l : Layout) (old left : Moment) → HealsTwins l old left → Touches (is_twin l) old left
twins_touch l old left heals = record {
  size = pages_length l l.pages heals.anchors_at left heals.pages ∙ heals_length 8 12 heals.roots_at heals.anchors_at heals.anchors ∙ heals_length 0 4 old heals.roots_at heals.roots;
  others = λ s out.
      let one : Stays old heals.roots_at s = heals_stay 0 4 old heals.roots_at heals.roots s (twin_beside l s 0 out refl) (twin_beside l s 4 out refl) in
      let two : Stays heals.roots_at heals.anchors_at s = heals_stay 8 12 heals.roots_at heals.anchors_at heals.anchors s (twin_beside l s 8 out refl) (twin_beside l s 12 out refl) in
      let none : IsNoHome l l.pages s = λ page lt. (twin_beside l s (home_a l page) out (twin_a l page lt), twin_beside l s (home_b l page) out (twin_b l page lt)) in
      let three = pages_stay l l.pages heals.anchors_at left heals.pages s none in
      stays_on old heals.roots_at left s (heals_windows 0 4 old heals.roots_at heals.roots) one
      (stays_on heals.roots_at heals.anchors_at left s (heals_windows 8 12 heals.roots_at heals.anchors_at heals.anchors) two three);
}

pub twins_leave : (v : VolumeValue) (old left : Moment) → AreShort old.windows → HealsTwins v.layout old left → Leaves state IsMemoryOf v (is_twin v.layout) old left
twins_leave v old left short heals k stands = record {
  sound = mounted_sound k.mounted k.windows k.changes (forced_of k) left.image (stands_all v k old left short heals stands).disk;
  roots = (stands_all v k old left short heals stands).disk.over.own.roots;
  windows = twins_windows v.layout old left heals;
  said = twins_said v.layout old left heals;
  touches = twins_touch v.layout old left heals;
}

-- ---- what is told

pub all_stand : (l : Layout) (now : Moment) → TwinsHaveSome l now → AllStand l now
all_stand l now stand s is = let some = stand s is in ⊎_elim (λ whole. inl (some.0, whole)) (λ hurt. inr hurt) some.1

-- two copies are never both damaged while the volume stands
never_lost : (v : VolumeValue) (k : Known) (now : Moment) → AreShort now.windows → Stands state IsMemoryOf v k now → (a b : ℕ) → AreLost (AreTwinCopies k.mounted.volume.layout) now.image a b → ⊥
never_lost v k now short stands a b lost = by lost.copies
  where
    weak : (s : ℕ) → IsTrue (is_twin k.mounted.volume.layout s) → sector_at now.image s ≡ Damaged → IsTrue (weak_of k.windows s)
    weak s is hurt = stands.disk.over.shows.readable.roots.twins s is hurt

    far : (s t : ℕ) → s + 4 ≤ t → IsTrue (is_twin k.mounted.volume.layout s) → IsTrue (is_twin k.mounted.volume.layout t) → sector_at now.image s ≡ Damaged → sector_at now.image t ≡ Damaged → ⊥
    far s t apart one two first second = narrow v k now stands short s t apart (weak s one first) (weak t two second)

    hurt : (s t : ℕ) → s ≡ t → sector_at now.image s ≡ Damaged → sector_at now.image t ≡ Damaged
    hurt s t e is = subst (λ (p : ℕ). sector_at now.image p ≡ Damaged) e is

    by : AreTwinCopies k.mounted.volume.layout a b → ⊥
    by (inl r) = far 0 4 (omega arith) refl refl (hurt a 0 r.0 lost.first) (hurt b 4 r.1 lost.second)
    by (inr (inl r)) = far 8 12 (omega arith) refl refl (hurt a 8 r.0 lost.first) (hurt b 12 r.1 lost.second)
    by (inr (inr homes)) =
        let l = k.mounted.volume.layout in let page = homes.page in
        far (home_a l page) (home_b l page) (omega arith) (twin_a l page homes.within) (twin_b l page homes.within) (hurt a (home_a l page) homes.homes.first lost.first) (hurt b (home_b l page) homes.homes.second lost.second)

stands_still : (T : Type 0) (v : VolumeValue) (k : Known) (now : Moment) → AreShort now.windows → Stands state IsMemoryOf v k now → (f : LoadFault) → LostCause (AreTwinCopies v.layout) now.image f → StandsStill state IsMemoryOf {T = T} k v now (Err (force_refusal f))
stands_still T v k now short stands (fault.Device s) lost = stands
stands_still T v k now short stands (fault.Lost a b) lost = absurd (never_lost v k now short stands a b (subst (λ (l : Layout). AreLost (AreTwinCopies l) now.image a b) (sym stands.fits.layout) lost))

-- ---- the answer

-- what is said of what was healed, or lost
abbrev pub told_of : Result ℕ LoadFault → Result ℕ Refusal
told_of (Ok count) = Ok count
told_of (Err f) = Err (force_refusal f)

pub told_place : (r : Result ℕ LoadFault) → device_in device_of (told_of r) ≡ device_in load_failed_at r
told_place (Ok count) = refl
told_place (Err f) = tells_place f

pub told_ok : (r : Result ℕ LoadFault) (P Q : ℕ → Type 0) → ((n : ℕ) → P n → Q n) → IfOk r P → IfOk (told_of r) Q
told_ok (Ok count) P Q more so = more count so
told_ok (Err f) P Q more so = tt

pub told_on : (r : Result ℕ LoadFault) (P Q : Type 0) → (P → Q) → OnOk r P → OnOk (told_of r) Q
told_on (Ok count) P Q more so = more so
told_on (Err f) P Q more so = tt

pub told_follows : (s : State) → option_map Why.Down s.down ≡ None → (r : Result ℕ LoadFault) → Follows (heal_steps s) (told_of r)
told_follows s up (Ok count) = (up, (tt, tt))
told_follows s up (Err (fault.Device place)) = inr (up, inl tt)
told_follows s up (Err (fault.Lost a b)) = inr (up, inl tt)

-- a heal that is up is not idle
pub busy_heal : (s : State) → option_map Why.Down s.down ≡ None → is_idle (heal_steps s) ≡ true → ⊥
busy_heal s up idle =
    let no : is_idle (heal_steps s) ≡ false = ap (λ (why : Option Refusal). is_idle (Test why ∷ Heal ∷ [])) up in
    absurd (cc (no, idle))

pub told_lost : (l : Layout) (i : Image) (P : Type 0) → P → (r : Result ℕ LoadFault) → IfErr r (λ f. P → LostCause (AreTwinCopies l) i f) → IfErr (told_of r) (LosesTwins l i)
told_lost l i P here (Ok count) lost = tt
told_lost l i P here (Err (fault.Device s)) lost = tt
told_lost l i P here (Err (fault.Lost a b)) lost = lost here

pub told_still : (v : VolumeValue) (k : Known) (now : Moment) → AreShort now.windows → Stands state IsMemoryOf v k now → (P : Type 0) → P → (r : Result ℕ LoadFault) → IfErr r (λ f. P → LostCause (AreTwinCopies v.layout) now.image f) → StandsStill state IsMemoryOf k v now (told_of r)
told_still v k now short stands P here (Ok count) lost = stands
told_still v k now short stands P here (Err f) lost = stands_still ℕ v k now short stands f (lost here)
