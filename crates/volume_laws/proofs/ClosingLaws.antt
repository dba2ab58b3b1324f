-- A close: behind its force it saves the map, if nothing waits on and a mount will believe it.
use Rattle.std.proofs.Common.{◌≡◌, inl, inr, ℕ, ◌+◌, ◌<◌, Bool, true, false, cond, ◌&&◌, nat_lt, List, [], ◌∷◌, length, option_map, Option, Some, None, Result, Err, refl, sym, ap, subst, ◌∙◌, arith, if◌then◌else◌}
use Rattle.std.specs.Prelude.{IsFalse, IsTrue}
use Rattle.std.proofs.lemmas.Bool.{or_parts}
use Rattle.volume_layout.specs.declared.layout.Layout.{Layout}
use Rattle.volume_layout.specs.Layout.{map_sectors, map_start}
use Rattle.run_table.specs.RunTable.{sectors_of}
use Rattle.run_table.specs.Space.{contains}
use Rattle.fsd_bytes.specs.declared.refusal.Refusal.{Refusal}
use Rattle.fsd_bytes.specs.declared.refusal.Refusal.TheVariants as Why
use Rattle.fsd_formats.specs.SavedMap.{saved_sector}
use Rattle.sector_disk.specs.Image.{open_damage}
use Rattle.sector_disk.specs.Machine.{Ledger, Moment}
use Rattle.fsd_files.specs.Answers.{force_outcome}
use Rattle.fsd_files.specs.declared.reply.Reply.TheVariants.{Forced as IsForcedReply}
use Rattle.fsd_files.specs.Disk.{Has, Touches}
use Rattle.fsd_sound.specs.Writes.{force_writes, saving_writes}
use Rattle.volume_contract.specs.Closing.{HasMap, HasSaved, LeavesClosing, close_len, close_steps, counts_of, may_close, saves, saving_len}
use Rattle.volume_contract.specs.Ends.{AnswersAndStands, Closes}
use Rattle.volume_contract.specs.Order.{CallStep, Comes, Disk, Force, Test, Through, force_steps, is_idle}
use Rattle.volume_contract.specs.State.{Counted, IsForced, Known, Stands, State, force_len, volume_of}
use Rattle.volume_contract.proofs.CountedLaws.{counted_then}
use Rattle.volume_laws.specs.Saving.{HasMapClosed, LeavesOpen, LeavesSaved, may_force, saves_now, with_free}
use Rattle.volume_laws.specs.State.{IsMemoryOf, state}
use Rattle.volume_laws.specs.Volume.{IsWholeVolume, VolumeValue}
use Rattle.volume_laws.proofs.CloseLaws.{closes_on, forced_on, none_unforced, same_telling}
use Rattle.volume_laws.proofs.ForceMomentLaws.{touches_none}
use Rattle.volume_laws.proofs.StepLaws.{comes_behind, comes_more, idle_behind, idle_front, through_more}
use Rattle.volume_laws.proofs.StoreLaws.{sound_on, touches_then}

-- ---- the state behind the force

module _ (s t : State) (forced : IsForced s t) where
  -- it saves the map then where the close does
  pub saves_same : saves_now t ≡ saves s
  saves_same = ap saves_now forced.is

  pub forced_layout : t.layout ≡ s.layout
  forced_layout = ap (λ (x : State). x.layout) forced.is

  module _ (epoch : t.anchor.epoch ≡ s.anchor.epoch) (now : Moment) where
    -- the map is that of the state before
    pub map_before : HasMap (with_free t) now → HasMap s now
    map_before map =
        subst (λ (e : ℕ). (n : ℕ) → n < map_sectors s.layout → Has (open_damage now.windows) now.image (saved_sector s.layout (contains (sectors_of s.freed)) (contains s.free_pages) e (counts_of s) n) (map_start s.layout + n)) epoch
        (subst (λ (x : State). HasMap (with_free x) now) forced.is map)

    pub saved_before : HasMapClosed t now → HasSaved s now
    saved_before saved = record { map = map_before saved.map; forced = t; ends = forced; closed = saved.closed }

pub forced_epoch : (v w : VolumeValue) → IsWholeVolume v → IsWholeVolume w → IsForced (state v) (state w) → w.log.anchor.epoch ≡ v.log.anchor.epoch
forced_epoch v w whole whole_then forced = sym whole_then.epoch ∙ ap (λ (x : State). x.serial.epoch) forced.is ∙ whole.epoch

-- ---- the order

module _ (s : State) where
  abbrev closing : List CallStep
  closing = if saves s then Disk (saving_writes s.layout) ∷ [] else []

  pub through_close : Through (force_steps s) → Through (close_steps s)
  through_close through = through_more (force_steps s) closing through (by (saves s))
    where
      by : (b : Bool) → Through (if b then Disk (saving_writes s.layout) ∷ [] else [])
      by true = (tt, tt)
      by false = tt

  pub comes_first : (why : Refusal) → Comes (force_steps s) why → Comes (close_steps s) why
  comes_first why comes = comes_more (force_steps s) closing why comes

  -- where the force does nothing
  pub idle_first : is_idle (close_steps s) ≡ true → is_idle (force_steps s) ≡ true
  idle_first idle = idle_front (force_steps s) closing idle

  module _ (saved : saves s ≡ true) (through : Through (force_steps s)) where
    pub comes_then : (place : ℕ) → IsTrue (saving_writes s.layout place) → Comes (close_steps s) (Why.Device place)
    comes_then place within =
        comes_behind (force_steps s) closing (Why.Device place) through
        (subst (λ (b : Bool). Comes (if b then Disk (saving_writes s.layout) ∷ [] else []) (Why.Device place)) (sym saved) (inl within))

    pub never_idle : is_idle (close_steps s) ≡ true → ⊥
    never_idle idle =
        let no : is_idle (Disk (saving_writes s.layout) ∷ []) ≡ true = subst (λ (b : Bool). is_idle (if b then Disk (saving_writes s.layout) ∷ [] else []) ≡ true) saved (idle_behind (force_steps s) closing through idle) in
        absurd (cc no)

-- ---- where it writes

idle_none : (s : State) → nat_lt 0 (length s.dirty) ≡ false → is_idle (force_steps s) ≡ true
idle_none s none = ap (λ (b : Bool). is_idle (Test (option_map Why.Down s.down) ∷ Force b ∷ [])) none ∙ by s.down
  where
    by : (down : Option ℕ) → is_idle (Test (option_map Why.Down down) ∷ Force false ∷ []) ≡ true
    by None = refl
    by (Some place) = refl

-- a force writes nothing where no page waits
pub touches_force : {D : Type 0} (now : D → Moment) (s : State) (a b : D) → (is_idle (force_steps s) ≡ true → b ≡ a) → Touches (force_writes s.layout) (now a) (now b) → Touches (may_force s) (now a) (now b)
touches_force {D} now s a b still touches = by (nat_lt 0 (length s.dirty)) refl
  where
    by : (c : Bool) → nat_lt 0 (length s.dirty) ≡ c → Touches (may_force s) (now a) (now b)
    by true some = record { size = touches.size; others = λ t out. touches.others t (ap (λ (x : Bool). x && force_writes s.layout t) (sym some) ∙ out) }
    by false none = subst (λ (x : D). Touches (may_force s) (now a) (now x)) (sym (still (idle_none s none))) (touches_none (may_force s) (now a))

module _ (s : State) where
  out_first : (t : ℕ) → IsFalse (may_close s t) → IsFalse (may_force s t)
  out_first t out = (or_parts (may_force s t) (saves s && saving_writes s.layout t) out).0

  out_then : saves s ≡ true → (t : ℕ) → IsFalse (may_close s t) → IsFalse (saving_writes s.layout t)
  out_then saved t out = ap (λ (b : Bool). b && saving_writes s.layout t) (sym saved) ∙ (or_parts (may_force s t) (saves s && saving_writes s.layout t) out).1

  pub touches_first : (old left : Moment) → Touches (may_force s) old left → Touches (may_close s) old left
  touches_first old left touches = record { size = touches.size; others = λ t out. touches.others t (out_first t out) }

  pub touches_close : saves s ≡ true → (old mid left : Moment) → mid.windows ≡ old.windows → Touches (may_force s) old mid → Touches (saving_writes s.layout) mid left → Touches (may_close s) old left
  touches_close saved old mid left windows first second = touches_then (may_force s) (saving_writes s.layout) (may_close s) old mid left windows out_first (out_then saved) first second

-- ---- what a stop leaves

pub leaves_first : (v : VolumeValue) (old left : Moment) → LeavesOpen v old left → LeavesClosing state IsMemoryOf v old left
leaves_first v old left leaves k stands =
    let u = leaves k stands in
    record {
      sound = record { sound = u.sound.sound; roots = u.sound.roots; windows = u.sound.windows; said = u.sound.said; touches = touches_first (state v) old left u.sound.touches };
      first = inl u.opened;
    }

-- the force has ended with this volume, which stands then
module _ (v w : VolumeValue) (whole : IsWholeVolume v) (whole_then : IsWholeVolume w) (forced : IsForced (state v) (state w)) (saved : saves (state v) ≡ true) (old mid : Moment)
    (ends : (k : Known) → Stands state IsMemoryOf v k old → AnswersAndStands state IsMemoryOf (λ met. force_outcome (volume_of k)) IsForcedReply [] k w mid) where
  pub leaves_close : (left : Moment) → mid.windows ≡ old.windows → mid.said ≡ old.said → LeavesOpen v old mid → LeavesSaved w mid left → LeavesClosing state IsMemoryOf v old left
  leaves_close left windows said first second k stands =
      let there = ends k stands in
      let map = second there.0 there.2 (none_unforced k w mid there) in
      record {
        sound = sound_on k there.0 (saving_writes w.layout) (may_close (state v)) old mid left (forced_on k w mid there) windows said
            (λ t out. subst (λ (l : Layout). IsFalse (saving_writes l t)) (sym (forced_layout (state v) (state w) forced)) (out_then (state v) saved t out))
            (leaves_first v old mid first k stands).sound map.sound;
        first = elim map.first [
          | inl opened ↦ inl opened
          | inr stood ↦ inr (map_before (state v) (state w) forced (forced_epoch v w whole whole_then forced) left stood)
        ];
      }

  -- and it has closed where that has
  pub closes_then : (now : Moment) → ((k : Known) → Stands state IsMemoryOf w k mid → (volume_of k).unforced ≡ 0 → Closes k now.image) → (k : Known) → Stands state IsMemoryOf v k old → Closes k now.image
  closes_then now closes k stands =
      let there = ends k stands in
      closes_on k there.0 now.image (forced_on k w mid there) (same_telling k w mid there) (closes there.0 there.2 (none_unforced k w mid there))

-- ---- how much it writes

pub counted_unsaved : (s : State) → saves s ≡ false → (a b : Ledger) → b.written ≡ a.written + force_len s → b.written ≡ a.written + close_len s
counted_unsaved s unsaved a b counted =
    let none : saving_len s ≡ 0 = ap (λ (x : Bool). cond x (map_sectors s.layout + 2) 0) unsaved in
    omega (arith, counted, none)

pub counted_failed : (s : State) (T : Type 0) {E : Type 0} (why : E) (a b : Ledger) → Counted {T = T} {E = E} (Err why) (force_len s) a b → Counted {T = Unit {0}} {E = E} (Err why) (close_len s) a b
counted_failed s T why a b counted = (counted.0, omega (arith, counted.1))

pub counted_saved : {T E : Type 0} (s t : State) → IsForced s t → saves s ≡ true → (r : Result T E) (a b c : Ledger) → b.written ≡ a.written + force_len s → Counted r (map_sectors t.layout + 2) b c → Counted r (close_len s) a c
counted_saved s t forced saved r a b c first second =
    let some : saving_len s ≡ map_sectors t.layout + 2 =
    ap (λ (x : Bool). cond x (map_sectors s.layout + 2) 0) saved ∙ ap (λ (l : Layout). map_sectors l + 2) (sym (forced_layout s t forced)) in
    subst (λ (n : ℕ). Counted r (force_len s + n) a c) (sym some) (counted_then r (force_len s) (map_sectors t.layout + 2) a b c first second)
