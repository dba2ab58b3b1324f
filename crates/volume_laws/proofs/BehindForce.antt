-- A change of a version behind the tests of its call and the force that it makes by itself.
use Rattle.std.proofs.Common.{◌≡◌, ◌⊎◌, inl, inr, ℕ, suc, ◌+◌, ◌-◌, ◌^◌, ◌<◌, ◌≤◌, Bool, true, false, cond, ◌&&◌, nat_le, List, [], ◌∷◌, ◌++◌, length, map, Option, Some, None, Result, Ok, Err, refl, sym, ap, subst, ◌∙◌, arith}
use Rattle.std.specs.Prelude.{MatchResult, option_map, ◌==◌}
use Rattle.std.proofs.lemmas.Bool.{le-ltb, leb-false, or_parts}
use Rattle.sector_disk.specs.Image.{AreShort}
use Rattle.sector_disk.specs.Machine.{Ledger, Moment, Wears}
use Rattle.fsd_bytes.specs.declared.refusal.Refusal.{Refusal}
use Rattle.fsd_bytes.specs.declared.refusal.Refusal.TheVariants as Why
use Rattle.fsd_files.specs.Answers.{Met, Outcome}
use Rattle.fsd_files.specs.Files.{Change}
use Rattle.fsd_files.specs.declared.reply.Reply.{Reply}
use Rattle.fsd_files.specs.declared.reply.Reply.TheVariants.{Refused}
use Rattle.fsd_files.specs.Volume.{Volume, forced, forced_if}
use Rattle.fsd_sound.specs.Mounted.{forces_by_itself}
use Rattle.fsd_sound.specs.Writes.{force_writes}
use Rattle.fsd_sound.proofs.MountedLaws.{mounted_sound}
use Rattle.fsd_runs.specs.Runs.{last_count}
use Rattle.volume_contract.specs.Ends.{AnswersAndStands, Ends, Unchanged}
use Rattle.volume_contract.specs.Order.{Asks, Comes, Fetch, Follows, Force, KeepsRefused, LookUp, PassesTest, CallStep, Test, Through, by_itself, is_idle, table_full, worn}
use Rattle.volume_contract.specs.State.{Counted, GoesOn, HasCounted, HasLogged, IsForced, KeepsLog, Known, Leaves, Stands, State, downs, forced_of, forces_first, is_worn, numbered, volume_of}
use Rattle.volume_laws.specs.Ending.{Edits, EndsEdit, IsEdited, look_steps, moving_steps}
use Rattle.volume_laws.specs.Preparing.{EndsForced, ForcesByItself, StandsForced}
use Rattle.volume_laws.specs.State.{IsMemoryOf, state}
use Rattle.volume_laws.specs.Steps.{Went}
use Rattle.volume_laws.specs.Volume.{VolumeValue}
use Rattle.volume_laws.proofs.LogLaws.{keeps_same, logged_forced, logged_none, logged_still}
use Rattle.volume_laws.proofs.StepLaws.{comes_behind, comes_more, idle_behind, keeps_behind, keeps_more, through_more, went_pages}
use Rattle.volume_laws.proofs.StoreLaws.{IsOn, sound_on}
use Rattle.volume_laws.specs.WearLaws.{stands_worn}

-- ---- what the tests say

pub is_up : (d : Option ℕ) → option_map Why.Down d ≡ None → d ≡ None
is_up None passes = refl
is_up (Some place) passes = absurd (cc passes)

pub not_worn : (s : State) → PassesTest (worn s) → s.head.number < last_count
not_worn s passes =
    let fresh : is_worn s ≡ false = by (is_worn s) passes in
    let parts = or_parts (nat_le last_count s.serial.count) (nat_le last_count s.head.number) fresh in
    leb-false last_count s.head.number parts.1
  where
    by : (b : Bool) → cond b (Some Why.WornOut) None ≡ None → b ≡ false
    by true is = absurd (cc is)
    by false is = refl

one_more : (b : Bool) (n : ℕ) → cond b n (suc n) ≤ suc n
one_more true n = omega arith
one_more false n = omega arith

-- ---- tests that come first

abbrev tests_of : List (Option Refusal) → List CallStep
tests_of tests = map Test tests

pub keeps_refused : (tests : List (Option Refusal)) (more : List CallStep) (r : Refusal) (s : State) → Comes (tests_of tests) r → KeepsRefused (tests_of tests ++ more) r s s
keeps_refused [] more r s comes = absurd comes
keeps_refused (o ∷ tests) more r s (inl here) = inl (here, refl)
keeps_refused (o ∷ tests) more r s (inr later) = inr (later.0, keeps_refused tests more r s later.1)

-- nothing has changed behind them
went_tests : (tests : List (Option Refusal)) (s : State) → Through (tests_of tests) → Went (tests_of tests) s s
went_tests [] s through = refl
went_tests (o ∷ tests) s through = (through.0, went_tests tests s through.1)

-- ---- what comes behind the force

-- A call that comes to these steps is not idle, and none of them changes what it refuses.
pub record CanFollow (more : List CallStep) : Type 0 where
  busy : (b : Bool) → is_idle (Force b ∷ more) ≡ true → ⊥
  keeps : (why : Refusal) (t : State) → Comes more why → KeepsRefused more why t t

busy_look : (more : List CallStep) (b : Bool) → is_idle (Force b ∷ LookUp ∷ more) ≡ true → ⊥
busy_look more true idle = absurd (cc idle)
busy_look more false idle = absurd (cc idle)

look_keeps : (why : Refusal) (t : State) → Comes look_steps why → KeepsRefused look_steps why t t
look_keeps why t (inl look) = inl (look, refl)
look_keeps why t (inr (passes, inl none)) = inr (passes, inl (none, refl))
look_keeps why t (inr (passes, inr more)) = absurd more.1

pub look_follows : CanFollow look_steps
look_follows = record { busy = busy_look (Asks Why.NoSuch ∷ []); keeps = look_keeps }

moving_keeps : (s : State) (why : Refusal) (t : State) → Comes (moving_steps s) why → KeepsRefused (moving_steps s) why t t
moving_keeps s why t (inl look) = inl (look, refl)
moving_keeps s why t (inr (passes, inl none)) = inr (passes, inl (none, refl))
moving_keeps s why t (inr (passes, inr (other, inl used))) = inr (passes, inr (other, inl (used, refl)))
moving_keeps s why t (inr (passes, inr (other, inr (usable, inl full)))) = inr (passes, inr (other, inr (usable, inl (full, refl))))
moving_keeps s why t (inr (passes, inr (other, inr (usable, inr (room, inl fetch))))) = inr (passes, inr (other, inr (usable, inr (room, inl (fetch, refl)))))
moving_keeps s why t (inr (passes, inr (other, inr (usable, inr (room, inr more))))) = absurd more.1

pub move_follows : (s : State) → CanFollow (moving_steps s)
move_follows s = record { busy = busy_look (Asks Why.NoSuch ∷ Asks Why.VersionsUsedUp ∷ table_full s ∷ Fetch ∷ []); keeps = moving_keeps s }

-- behind the force as before it
pub moving_same : (s t : State) → ForcesByItself s t (Ok tt) → moving_steps t ≡ moving_steps s
moving_same s t forces = ap (λ (pages : List ℕ). moving_steps (record s { free_pages = pages })) (went_pages (by_itself s ∷ []) s t forces.kept)

-- ---- the force has come

module _ (s : State) (tests : List (Option Refusal)) (through : Through (tests_of tests)) (t u : State) (forces : ForcesByItself s t (Ok tt)) where
  went : ((forces_first s ≡ false) × (t ≡ s)) ⊎ ((forces_first s ≡ true) × IsForced s t)
  went = by (forces_first s) refl forces.kept
    where
      by : (b : Bool) → forces_first s ≡ b → Went (Force b ∷ []) s t → ((forces_first s ≡ false) × (t ≡ s)) ⊎ ((forces_first s ≡ true) × IsForced s t)
      by true is kept = inr (is, subst (IsForced s) (sym kept.2) kept.1)
      by false is kept = inl (is, kept.1)

  still_down : t.down ≡ s.down
  still_down = elim forces.state.down [
    | inl same ↦ same
    | inr gone ↦ absurd (cc gone.0)
  ]

  -- it is up, and the next record can be numbered
  pub up_behind : s.down ≡ None → t.down ≡ None
  up_behind up = still_down ∙ up

  pub number_behind : s.head.number < last_count → t.head.number < 2 ^ 32 - 1
  number_behind small = elim went [
    | inl none ↦ omega (arith, small, ap (λ (x : State). x.head.number) none.1)
    | inr came ↦ omega (arith, small, came.1.number, one_more (length s.dirty == 0) s.head.number)
  ]

  log_edited : IsEdited t u → KeepsLog t u
  log_edited edited = record { anchor = ap (λ (x : State). x.anchor) edited.is; head = ap (λ (x : State). x.head) edited.is; slots = ap (λ (x : State). x.slots) edited.is }

  counted_ok : IsEdited t u → HasCounted false (forces_first s) s u
  counted_ok edited = elim went [
    | inl none ↦ record {
      count = ap (λ (x : State). x.serial.count) edited.is ∙ ap (λ (x : State). x.serial.count) none.1;
      number = ap (λ (x : State). x.head.number) edited.is ∙ ap (λ (x : State). x.head.number) none.1 ∙ ap (λ (b : Bool). cond b (numbered s) s.head.number) (sym none.0);
      log = subst (λ (b : Bool). HasLogged b s u) (sym none.0) (logged_still t u (log_edited edited) false s (logged_none s t (keeps_same s t none.1)));
    }
    | inr came ↦ record {
      count = ap (λ (x : State). x.serial.count) edited.is ∙ ap (λ (x : State). x.serial.count) came.1.is;
      number = ap (λ (x : State). x.head.number) edited.is ∙ came.1.number ∙ ap (λ (b : Bool). cond b (numbered s) s.head.number) (sym came.0);
      log = subst (λ (b : Bool). HasLogged b s u) (sym came.0) (logged_still t u (log_edited edited) true s (logged_forced s t came.1));
    }
  ]

  pub change_goes : {T : Type 0} (r : Result T Refusal) → Edits t u r → GoesOn (downs r) s u
  change_goes (Ok x) edited = record {
    layout = ap (λ (y : State). y.layout) edited.is ∙ forces.state.layout;
    epoch = ap (λ (y : State). y.serial.epoch) edited.is ∙ forces.state.epoch;
    readers = ap (λ (y : State). y.readers) edited.is ∙ forces.state.readers;
    unfinished = ap (λ (y : State). y.unfinished) edited.is ∙ forces.state.unfinished;
    down = inl (ap (λ (y : State). y.down) edited.is ∙ still_down);
  }
  change_goes (Err why) same = record {
    layout = ap (λ (y : State). y.layout) same ∙ forces.state.layout;
    epoch = ap (λ (y : State). y.serial.epoch) same ∙ forces.state.epoch;
    readers = ap (λ (y : State). y.readers) same ∙ forces.state.readers;
    unfinished = ap (λ (y : State). y.unfinished) same ∙ forces.state.unfinished;
    down = inl (ap (λ (y : State). y.down) same ∙ still_down);
  }

-- ---- and what comes behind it

module _ (s : State) (tests : List (Option Refusal)) (through : Through (tests_of tests)) {more : List CallStep} (can : CanFollow more) where
  abbrev steps : List CallStep
  steps = tests_of tests ++ by_itself s ∷ more

  pub busy : is_idle steps ≡ true → ⊥
  busy idle = can.busy (forces_first s) (idle_behind (tests_of tests) (by_itself s ∷ more) through idle)

  passed : (why : Refusal) (t : State) → KeepsRefused (by_itself s ∷ more) why s t → KeepsRefused steps why s t
  passed why t keeps = keeps_behind (tests_of tests) (by_itself s ∷ more) why s s t (went_tests tests s through) keeps

  -- ---- the force fails

  pub failed_keeps : (why : Refusal) (t : State) → KeepsRefused (by_itself s ∷ []) why s t → KeepsRefused steps why s t
  failed_keeps why t keeps = passed why t (keeps_more (by_itself s ∷ []) more why s t keeps)

  pub failed_comes : (why : Refusal) → Comes (by_itself s ∷ []) why → Comes steps why
  failed_comes why comes = comes_behind (tests_of tests) (by_itself s ∷ more) why through (comes_more (by_itself s ∷ []) more why comes)

  -- ---- the change comes

  module _ (t u : State) (forces : ForcesByItself s t (Ok tt)) where
    behind : (why : Refusal) → KeepsRefused more why t t → KeepsRefused (by_itself s ∷ more) why s t
    behind why keeps = keeps_behind (by_itself s ∷ []) more why s t t forces.kept keeps

    pub change_kept : {T : Type 0} (r : Result T Refusal) → Follows more r → Edits t u r → MatchResult r (λ x. HasCounted false (forces_first s) s u) (λ why. KeepsRefused steps why s u)
    change_kept (Ok x) follows edited = counted_ok s tests through t u forces edited
    change_kept (Err why) comes same = subst (λ (x : State). KeepsRefused steps why s x) (sym same) (passed why t (behind why (can.keeps why t comes)))

    pub change_follows : {T : Type 0} (r : Result T Refusal) → Follows more r → Follows steps r
    change_follows (Ok x) follows = through_more (tests_of tests) (by_itself s ∷ more) through (tt, follows)
    change_follows (Err why) comes = comes_behind (tests_of tests) (by_itself s ∷ more) why through (inr (tt, comes))

-- ---- what is counted

pub change_counts : {T : Type 0} (n : ℕ) (a b c : Ledger) (r : Result T Refusal) → b.written ≡ a.written + n → c ≡ b → Counted r n a c
change_counts n a b c (Ok x) first same = ap (λ (l : Ledger). l.written) same ∙ first
change_counts n a b c (Err why) first same = let written = ap (λ (l : Ledger). l.written) same in (omega (arith, first, written), omega (arith, first, written))

-- ---- what a stop leaves

pub same_layout : (b : Bool) (w : Volume) → (forced_if b w).layout ≡ w.layout
same_layout b w = by (b && nat_le 2 w.unforced)
  where
    by : (b : Bool) → (cond b (forced w) w).layout ≡ w.layout
    by true = refl
    by false = refl

pub fewer_wait : (b : Bool) (w : Volume) → (forced_if b w).unforced ≤ w.unforced
fewer_wait b w = by (b && nat_le 2 w.unforced)
  where
    by : (b : Bool) → (cond b (forced w) w).unforced ≤ w.unforced
    by true = omega arith
    by false = omega arith

on_first : (k : Known) (mid : VolumeValue) (now : Moment) → (p : StandsForced k mid now) → IsOn k p.after
on_first k mid now p =
    let b : Bool = forces_by_itself k.mounted in
    let wait : (volume_of p.after).unforced ≡ (forced_if b (volume_of k)).unforced = ap (λ (w : Volume). w.unforced) p.volume in
    let long : length p.after.changes ≡ length k.changes = ap (λ (h : List Change). length h) p.changes in
    record {
      layout = ap (λ (w : Volume). w.layout) p.volume ∙ same_layout b (volume_of k);
      windows = p.windows;
      changes = p.changes;
      more = omega (arith, wait, long, fewer_wait b (volume_of k));
    }

module _ (v mid : VolumeValue) (old now left : Moment) (short : AreShort now.windows) (windows : now.windows ≡ old.windows) (quiet : now.said ≡ old.said) where
  pub leaves_behind : ((k : Known) → Stands state IsMemoryOf v k old → StandsForced k mid now) → Leaves state IsMemoryOf v (force_writes v.layout) old now → Wears now left → Leaves state IsMemoryOf v (force_writes v.layout) old left
  leaves_behind goes first wears k stands =
      let p = goes k stands in
      let there = stands_worn mid p.after now left short (record { image = wears.image; windows = wears.windows }) p.stands in
      sound_on k p.after (λ s. false) (force_writes v.layout) old now left (on_first k mid now p) windows quiet (λ s out. refl) (first k stands) (record {
        sound = mounted_sound p.after.mounted p.after.windows p.after.changes (forced_of p.after) left.image there.disk;
        roots = there.disk.over.own.roots;
        windows = wears.windows;
        said = wears.said;
        touches = record { size = wears.image.size; others = λ s out. wears.image.each s };
      })

-- ---- how it ends

as_before : (b : Bool) (v w : Volume) → w ≡ forced_if b v → ((w ≡ v) ⊎ (w ≡ forced v))
as_before b v w is = by (b && nat_le 2 v.unforced) is
  where
    by : (c : Bool) → w ≡ cond c (forced v) v → ((w ≡ v) ⊎ (w ≡ forced v))
    by true e = inr e
    by false e = inl e

pub unchanged : (k : Known) (u : VolumeValue) (now : Moment) → (p : StandsForced k u now) → Unchanged k p.after
unchanged k u now p = record {
  volume = elim (as_before (forces_by_itself k.mounted) (volume_of k) (volume_of p.after) p.volume) [
    | inl same ↦ inl (inl same)
    | inr went ↦ inr (inl went)
  ];
  opened = p.opened;
  windows = p.windows;
  changes = p.changes;
}

module _ {T : Type 0} (outcome : Volume → Met → Outcome) (says : T → Reply) (change : Change) (k : Known) (mid : VolumeValue) (now : Moment) (p : StandsForced k mid now)
    (same : (met : Met) (b : Bool) (w : Volume) → met.forces ≡ false → w ≡ forced_if b (volume_of k) → outcome w met ≡ outcome (volume_of k) (record met { forces = b })) (few : length mid.cache.dirty ≤ 56) where
  none_more : forces_by_itself p.after.mounted ≡ false
  none_more = le-ltb 56 (length p.after.mounted.dirty) (omega (arith, few, ap (λ (d : List ℕ). length d) p.stands.fits.dirty))

  answered : (reply : Reply) (made : List Change) (u : VolumeValue) (at : Moment) → AnswersAndStands state IsMemoryOf (outcome (volume_of p.after)) reply made p.after u at → AnswersAndStands state IsMemoryOf (outcome (volume_of k)) reply made k u at
  answered reply made u at a = (
    a.0,
    record {
      met = record a.1.met { forces = forces_by_itself k.mounted };
      forces = refl;
      is = sym (same a.1.met (forces_by_itself k.mounted) (volume_of p.after) (a.1.forces ∙ none_more) p.volume) ∙ a.1.is;
      opened = a.1.opened ∙ p.opened;
      windows = a.1.windows ∙ p.windows;
      changes = a.1.changes ∙ ap (λ (h : List Change). h ++ made) p.changes;
    },
    a.2,
  )

  pub change_ends : (u : VolumeValue) (at : Moment) (r : Result T Refusal) → EndsEdit (outcome (volume_of p.after)) says change p.after u at r → Ends state IsMemoryOf (outcome (volume_of k)) says change k u at r
  change_ends u at (Ok x) ends = answered (says x) (change ∷ []) u at ends
  change_ends u at (Err (Why.Device s)) ends = inr (p.after, unchanged k mid now p, ends)
  change_ends u at (Err Why.Memory) ends = (p.after, unchanged k mid now p, ends)
  change_ends u at (Err Why.NoSuch) ends = answered (Refused Why.NoSuch) [] u at ends
  change_ends u at (Err Why.VersionsUsedUp) ends = answered (Refused Why.VersionsUsedUp) [] u at ends
  change_ends u at (Err (Why.NameTableFull n)) ends = answered (Refused (Why.NameTableFull n)) [] u at ends
  change_ends u at (Err why) ends = absurd ends

pub force_ends : {T : Type 0} (outcome : Met → Outcome) (says : T → Reply) (change : Change) (k : Known) (u : VolumeValue) (now : Moment) (why : Refusal) → EndsForced k u now (Err why) → Ends state IsMemoryOf outcome says change k u now (Err why)
force_ends outcome says change k u now (Why.Device s) down = inl down
force_ends outcome says change k u now why none = absurd none
