-- What a put does before it looks its name up: a place, the version on the disk, and the forces that come.
use Rattle.std.proofs.Common.{◌≡◌, ◌⊎◌, inl, inr, ℕ, suc, ◌*◌, ◌<◌, ◌≤◌, Bool, true, false, cond, ◌&&◌, ◌||◌, List, [], ◌∷◌, length, nat_lt, nat_le, None, Ok, Err, refl, sym, ap, subst, ◌∙◌, arith}
use Rattle.std.specs.Prelude.{IsFalse, is_none, not, ◌==◌}
use Rattle.std.proofs.lemmas.Bool.{le-leb, ltb-false, ltb-true}
use Rattle.std.proofs.lemmas.List.{append-nil}
use Rattle.std.proofs.Math.Bool.{and-false, and-true}
use Rattle.volume_layout.specs.declared.layout.Layout.{Layout}
use Rattle.fsd_bytes.specs.declared.refusal.Refusal.{Refusal}
use Rattle.fsd_bytes.specs.declared.refusal.Refusal.TheVariants as Why
use Rattle.fsd_formats.specs.declared.entry.Entry.{Entry}
use Rattle.run_table.specs.declared.run.Run.{Run}
use Rattle.sector_disk.specs.Machine.{Moment}
use Rattle.fsd_files.specs.Answers.{HasVersion, Met, Outcome, force_outcome}
use Rattle.fsd_files.specs.declared.reply.Reply.{Reply}
use Rattle.fsd_files.specs.declared.reply.Reply.TheVariants.{Forced}
use Rattle.fsd_files.specs.Volume.{Volume, drawn, forced, forced_for_place, forced_if, place_for}
use Rattle.fsd_sound.specs.Mounted.{forces_by_itself, most_waiting}
use Rattle.sector_disk.specs.Image.{open_damage}
use Rattle.volume_contract.specs.Ends.{AnswersAndStands, EndsForce, IsAsBefore}
use Rattle.volume_contract.specs.Order.{Comes, Disk, Draw, Force, KeepsRefused, CallStep, by_itself, force_steps, place, with_drawn}
use Rattle.fsd_sound.specs.Writes.{force_writes}
use Rattle.volume_contract.specs.State.{GoesOn, HasCounted, IsForced, Known, Leaves, Stands, State, downs_for, forces_first, forces_for_place, in_place, place_in, put_writes, volume_of}
use Rattle.volume_laws.specs.Placing.{EndsStore, HasPlace, StandsDrawn, Stores, place_steps, store_steps}
use Rattle.volume_laws.specs.Preparing.{EndsForced, EndsPrepare, ForcesByItself, Prepares, prepare_steps}
use Rattle.volume_laws.specs.State.{IsMemoryOf, state}
use Rattle.volume_laws.specs.Steps.{Went}
use Rattle.volume_laws.specs.Volume.{VolumeValue}
use Rattle.volume_laws.proofs.LogLaws.{keeps_drawn, keeps_same, logged_drawn, logged_forced, logged_none, logged_still}
use Rattle.volume_laws.proofs.PlaceSteps.{down_so, forced_is, lost_so, stays}
use Rattle.volume_laws.proofs.StepLaws.{comes_behind, comes_more, goes_then, keeps_behind, keeps_more, through_more, went_then}
use Rattle.volume_laws.proofs.StoreLaws.{on_drawn, out_first, same_serial, sound_on, went_place}

-- ---- a force where many pages wait

pub forces_not : (s : State) → forces_first s ≡ false → ForcesByItself s s (Ok tt)
forces_not s few = record { order = (tt, tt); state = stays s; kept = subst (λ (b : Bool). Went (Force b ∷ []) s s) (sym few) (tt, refl) }

module _ (s t : State) (many : forces_first s ≡ true) where
  pub forces_done : GoesOn None s t → IsForced s t → ForcesByItself s t (Ok tt)
  forces_done goes is = record { order = (tt, tt); state = goes; kept = subst (λ (b : Bool). Went (Force b ∷ []) s t) (sym many) (t, is, refl) }

  pub forces_failed : (why : Refusal) → s.down ≡ None → GoesOn (downs_for why) s t → Comes (force_steps s) why → KeepsRefused (force_steps s) why s t → ForcesByItself s t (Err why)
  forces_failed why up goes comes keeps = record {
    order = subst (λ (b : Bool). Comes (Force b ∷ []) why) (sym many) (inl (refl, lost_so s t why up comes));
    state = goes;
    kept = subst (λ (b : Bool). KeepsRefused (Force b ∷ []) why s t) (sym many) (inl (down_so s t why up keeps));
  }

-- no more pages wait than one change leaves room for
pub few_not : (s : State) → forces_first s ≡ false → length s.dirty ≤ 56
few_not s few = ltb-false most_waiting (length s.dirty) few

pub few_forced : (s t : State) → IsForced s t → length t.dirty ≤ 56
few_forced s t is = let none = ap (λ (x : State). length x.dirty) is.is in omega (arith, none)

-- over an honest machine

at_least_two : (n u : ℕ) → most_waiting < n → n ≤ 40 * u → 2 ≤ u
at_least_two n u many few = omega arith

by_itself_is : (v : VolumeValue) (k : Known) (now : Moment) → Stands state IsMemoryOf v k now → forces_by_itself k.mounted ≡ forces_first (state v)
by_itself_is v k now stands = ap (λ (d : List ℕ). nat_lt most_waiting (length d)) stands.fits.dirty

pub ends_not : (v : VolumeValue) (k : Known) (now : Moment) → forces_first (state v) ≡ false → Stands state IsMemoryOf v k now → EndsForced k v now (Ok tt)
ends_not v k now few stands = record {
  after = k;
  volume = sym (ap (λ (b : Bool). forced_if b (volume_of k)) (by_itself_is v k now stands ∙ few));
  opened = refl;
  windows = refl;
  changes = refl;
  stands = stands;
}

pub ends_forced : (v w : VolumeValue) (k : Known) (old now : Moment) → forces_first (state v) ≡ true → Stands state IsMemoryOf v k old → AnswersAndStands state IsMemoryOf (λ met. force_outcome (volume_of k)) Forced [] k w now → EndsForced k w now (Ok tt)
ends_forced v w k old now many stands (after, answers, there) =
    let is = by_itself_is v k old stands ∙ many in
    let two : nat_le 2 (volume_of k).unforced ≡ true = le-leb 2 (volume_of k).unforced (at_least_two (length k.mounted.dirty) (volume_of k).unforced (ltb-true most_waiting (length k.mounted.dirty) is) stands.disk.few) in
    let both : forced_if (forces_by_itself k.mounted) (volume_of k) ≡ forced (volume_of k) =
    ap (λ (b : Bool). forced_if b (volume_of k)) is ∙ ap (λ (b : Bool). cond b (forced (volume_of k)) (volume_of k)) two in
    record {
      after = after;
      volume = sym (ap (λ (o : Outcome). o.1) answers.is) ∙ sym both;
      opened = answers.opened;
      windows = answers.windows;
      changes = answers.changes ∙ append-nil k.changes;
      stands = there;
    }

pub ends_down_first : (T : Type 0) (outcome : Met → Outcome) (reply : Reply) (why : Refusal) (k : Known) (new : VolumeValue) (now : Moment) → EndsForce state IsMemoryOf {T = T} outcome reply k new now (Err why) → EndsForced k new now (Err why)
ends_down_first T outcome reply (Why.Device s) k new now down = down
ends_down_first T outcome reply why k new now none = absurd none

-- ---- the steps

-- many pages wait behind a place where they did and none was forced for it
pub first_behind : (s m : State) (need : ℕ) (runs : List Run) → HasPlace need s m runs → forces_first m ≡ (forces_first s && not (forces_for_place s need))
first_behind s m need runs has = by (forces_for_place s need) has.went
  where
    by : (b : Bool) → ((b ≡ false) × (m ≡ s)) ⊎ ((b ≡ true) × IsForced s m) → forces_first m ≡ (forces_first s && not b)
    by true (inl way) = absurd (cc way.0)
    by true (inr way) = ap (λ (d : List ℕ). nat_lt most_waiting (length d)) (ap (λ (x : State). x.dirty) way.1.is) ∙ sym (and-false (forces_first s))
    by false (inl way) = ap (λ (x : State). forces_first x) way.1 ∙ sym (and-true (forces_first s))
    by false (inr way) = absurd (cc way.0)

module _ (s : State) (need : ℕ) where
  abbrev pub last : CallStep
  last = Force (forces_first s && not (forces_for_place s need))

  pub prepares_refused : (why : Refusal) (t : State) → Stores need s t (Err why) → Prepares need s t (Err why)
  prepares_refused why t stores = record {
    order = comes_more (store_steps s need) (last ∷ []) why stores.order;
    state = stores.state;
    kept = keeps_more (store_steps s need) (last ∷ []) why s t stores.kept;
  }

  module _ (t : State) (e : Entry) (stores : Stores need s t (Ok e)) where
    first_is : by_itself t ≡ last
    first_is = ap Force (ap (λ (x : State). forces_first x) stores.kept.is ∙ first_behind s stores.kept.middle need e.runs stores.kept.place)

    went : Went (store_steps s need) s t
    went = went_then (place_steps s need) (Draw ∷ Disk (in_place (place_in s need)) ∷ []) s stores.kept.middle t
        (went_place s need stores.kept.middle e.runs stores.kept.place (stores.order.1).0) (tt, stores.kept.is)

    module _ (u : State) where
      pub prepares_failed : (why : Refusal) → ForcesByItself t u (Err why) → Prepares need s u (Err why)
      prepares_failed why forces = record {
        order = comes_behind (store_steps s need) (last ∷ []) why stores.order (subst (λ (step : CallStep). Comes (step ∷ []) why) first_is forces.order);
        state = goes_then (downs_for why) s t u stores.state forces.state;
        kept = keeps_behind (store_steps s need) (last ∷ []) why s t u went (subst (λ (step : CallStep). KeepsRefused (step ∷ []) why t u) first_is forces.kept);
      }

      pub prepares_done : ForcesByItself t u (Ok tt) → Prepares need s u (Ok e)
      prepares_done forces = record {
        order = through_more (store_steps s need) (last ∷ []) stores.order (tt, tt);
        state = goes_then None s t u stores.state forces.state;
        kept = record {
          went = went_then (store_steps s need) (last ∷ []) s t u went (subst (λ (step : CallStep). Went (step ∷ []) t u) first_is forces.kept);
          place = stores.kept.place.place;
          serial = stores.kept.serial ∙ same_serial need s stores.kept.middle e.runs stores.kept.place;
        };
      }

-- what is drawn and numbered then
pub prepared_counts : (s t : State) (need : ℕ) → Went (prepare_steps s need) s t → HasCounted true (forces_for_place s need || forces_first s) s t
prepared_counts s t need through = by (forces_for_place s need) (forces_first s) through
  where
    behind_place : (next : State) → IsForced s next → t ≡ with_drawn next → HasCounted true true s t
    behind_place next is same = record {
      count = ap (λ (x : State). x.serial.count) same ∙ ap (λ (x : State). suc x.serial.count) is.is;
      number = ap (λ (x : State). x.head.number) same ∙ is.number;
      log = logged_still next t (keeps_drawn next t same) true s (logged_forced s next is);
    }

    by : (b c : Bool) → Went (Force b ∷ place s need ∷ Draw ∷ Disk (in_place (place_in s need)) ∷ Force (c && not b) ∷ []) s t → HasCounted true (b || c) s t
    by true true (next, is, (passes, (free, (quiet, same)))) = behind_place next is same
    by true false (next, is, (passes, (free, (quiet, same)))) = behind_place next is same
    by false true (none, (passes, (free, (next, is, same)))) = record {
      count = ap (λ (x : State). x.serial.count) same ∙ ap (λ (x : State). x.serial.count) is.is;
      number = ap (λ (x : State). x.head.number) same ∙ is.number;
      log = logged_drawn true s t (logged_still next t (keeps_same next t same) true (with_drawn s) (logged_forced (with_drawn s) next is));
    }
    by false false (none, (passes, (free, (quiet, same)))) = record {
      count = ap (λ (x : State). x.serial.count) same;
      number = ap (λ (x : State). x.head.number) same;
      log = logged_none s t (keeps_drawn s t same);
    }

pub prepared_number : (s t : State) (need : ℕ) → Went (prepare_steps s need) s t → t.head.number ≤ suc s.head.number
prepared_number s t need through = by (forces_for_place s need || forces_first s) (length s.dirty == 0) (prepared_counts s t need through).number
  where
    by : (b c : Bool) → t.head.number ≡ cond b (cond c s.head.number (suc s.head.number)) s.head.number → t.head.number ≤ suc s.head.number
    by true true e = omega (arith, e)
    by true false e = omega (arith, e)
    by false c e = omega (arith, e)

-- ---- over an honest machine

-- what a stop leaves of the force that comes by itself
pub leaves_ready : (v m : VolumeValue) (need : ℕ) (old now left : Moment) → m.layout ≡ v.layout → now.windows ≡ old.windows → now.said ≡ old.said → ((k : Known) → Stands state IsMemoryOf v k old → StandsDrawn need k m now)
    → Leaves state IsMemoryOf v (put_writes (state v) need) old now → Leaves state IsMemoryOf m (force_writes m.layout) now left → Leaves state IsMemoryOf v (put_writes (state v) need) old left
leaves_ready v m need old now left layout windows quiet goes first second k stands =
    let p = goes k stands in
    sound_on k p.after (force_writes m.layout) (put_writes (state v) need) old now left (on_drawn need k m now p) windows quiet (λ s out. subst (λ (l : Layout). IsFalse (force_writes l s)) (sym layout) (out_first v need s out)) (first k stands) (second p.after p.stands)

as_before : (need : ℕ) (v : Volume) → IsAsBefore v (drawn (forced_for_place need v))
as_before need v = by (is_none (place_for v need) && not (length v.removed == 0))
  where
    by : (b : Bool) → IsAsBefore v (drawn (cond b (forced v) v))
    by true = inr (inr refl)
    by false = inl (inr refl)

pub ends_stored : (need : ℕ) (bytes : List ℕ) (k : Known) (new : VolumeValue) (now : Moment) (why : Refusal) → EndsStore need bytes k new now (Err why) → EndsPrepare need bytes k new now (Err why)
ends_stored need bytes k new now (Why.Device s) (inl down) = inl down
ends_stored need bytes k new now (Why.Device s) (inr p) =
    inr (p.after, record { volume = subst (λ (w : Volume). IsAsBefore (volume_of k) w) (sym p.volume) (as_before need (volume_of k)); opened = p.opened; windows = p.windows; changes = p.changes }, p.stands)
ends_stored need bytes k new now (Why.Lost a b) none = none
ends_stored need bytes k new now why stands = stands

pub ends_behind : (need : ℕ) (bytes : List ℕ) (k after : Known) (new : VolumeValue) (now : Moment) (why : Refusal) → EndsForced after new now (Err why) → EndsPrepare need bytes k new now (Err why)
ends_behind need bytes k after new now (Why.Device s) down = inl down
ends_behind need bytes k after new now why none = absurd none

-- once one was forced for its place a volume forces no more
forced_once : (x b : Bool) (v : Volume) → forced_if (x && not b) (drawn (cond b (forced v) v)) ≡ forced_if x (drawn (cond b (forced v) v))
forced_once true true v = refl
forced_once true false v = refl
forced_once false b v = refl

pub ends_ready : (v m w : VolumeValue) (need : ℕ) (bytes : List ℕ) (k : Known) (old mid now : Moment) (e : Entry) → Stands state IsMemoryOf v k old → Stores need (state v) (state m) (Ok e) → (p : StandsDrawn need k m mid) → EndsForced p.after w now (Ok tt)
    → HasVersion (open_damage now.windows) now.image bytes e → EndsPrepare need bytes k w now (Ok e)
ends_ready v m w need bytes k old mid now e stands stores p f version =
    let s = state v in
    let b = forces_for_place s need in
    let at = drawn (forced_for_place need (volume_of k)) in
    let behind : forces_first (state m) ≡ (forces_first s && not b) = ap (λ (x : State). forces_first x) stores.kept.is ∙ first_behind s stores.kept.middle need e.runs stores.kept.place in
    let then : forces_by_itself p.after.mounted ≡ (forces_first s && not b) = by_itself_is m p.after mid p.stands ∙ behind in
    let is : at ≡ drawn (cond b (forced (volume_of k)) (volume_of k)) = ap drawn (forced_is s k.mounted need b stands.fits refl) in
    let once : forced_if (forces_first s && not b) at ≡ forced_if (forces_first s) at =
    ap (λ (x : Volume). forced_if (forces_first s && not b) x) is ∙ forced_once (forces_first s) b (volume_of k) ∙ ap (λ (x : Volume). forced_if (forces_first s) x) (sym is) in (
      record {
        after = f.after;
        volume = f.volume ∙ ap (λ (x : Volume). forced_if (forces_by_itself p.after.mounted) x) p.volume ∙ ap (λ (c : Bool). forced_if c at) then ∙ once ∙ ap (λ (c : Bool). forced_if c at) (sym (by_itself_is v k old stands));
        opened = f.opened ∙ p.opened;
        windows = f.windows ∙ p.windows;
        changes = f.changes ∙ p.changes;
        stands = f.stands;
      },
      version,
    )
