-- What a place asks for: a force, and whether there is a place then.
use Rattle.std.proofs.Common.{◌≡◌, ◌⊎◌, inl, inr, ℕ, Bool, true, false, cond, ◌&&◌, not, List, [], ◌∷◌, length, nat_lt, Option, Some, None, Result, Ok, Err, refl, sym, ap, subst, ◌∙◌}
use Rattle.std.specs.Prelude.{is_none, is_ok, ◌==◌, option_map}
use Rattle.std.proofs.lemmas.List.{append-nil}
use Rattle.fsd_bytes.specs.declared.refusal.Refusal.{Refusal}
use Rattle.fsd_bytes.specs.declared.refusal.Refusal.TheVariants as Why
use Rattle.run_table.specs.declared.run.Run.{Run}
use Rattle.run_table.specs.RunTable.{total}
use Rattle.run_table.specs.Space.{best, pick}
use Rattle.fsd_files.specs.Answers.{Met, Outcome, force_outcome}
use Rattle.fsd_files.specs.declared.reply.Reply.{Reply}
use Rattle.fsd_files.specs.declared.reply.Reply.TheVariants.{Forced}
use Rattle.fsd_files.specs.Volume.{forced, forced_for_place}
use Rattle.fsd_sound.specs.Mounted.{Mounted}
use Rattle.sector_disk.specs.Calls.{device_in}
use Rattle.sector_disk.specs.Machine.{Moment}
use Rattle.volume_contract.specs.Ends.{AnswersAndStands, EndsForce, device_of}
use Rattle.volume_contract.specs.Order.{Comes, Follows, Force, IsDownBy, IsLoss, KeepsRefused, CallStep, Test, force_steps, is_idle, no_place_in}
use Rattle.volume_contract.specs.State.{Fits, GoesOn, IsForced, Known, Stands, State, downs_for, forces_for_place, or_freed, place_in, volume_of}
use Rattle.volume_laws.specs.Placing.{EndsPlace, Places, StandsFor, place_now, place_or, place_steps}
use Rattle.volume_laws.specs.State.{IsMemoryOf, state}
use Rattle.volume_laws.specs.Volume.{VolumeValue}
use Rattle.volume_laws.proofs.PlaceLaws.{placed_ok}

-- ---- the steps

module _ (s : State) (need : ℕ) where
  -- by what is picked of the free runs
  abbrev steps_by : Option (List Run) → List CallStep
  steps_by o = Force (is_none o && s.waits) ∷ Test (cond (is_none (or_freed s need o)) (Some (no_place_in s (cond (is_none o && s.waits) s.freed s.free) need)) None) ∷ []

  -- and whether a sector waits for a force
  abbrev steps_where : Bool → List CallStep
  steps_where w = Force w ∷ Test (cond (is_none (cond w (pick s.freed need) None)) (Some (no_place_in s (cond w s.freed s.free) need)) None) ∷ []

  pub steps_once : (runs : List Run) → pick s.free need ≡ Some runs → place_steps s need ≡ Force false ∷ Test None ∷ []
  steps_once runs is = ap steps_by is

  pub steps_never : pick s.free need ≡ None → s.waits ≡ false → place_steps s need ≡ Force false ∷ Test (Some (no_place_in s s.free need)) ∷ []
  steps_never none idle = ap steps_by none ∙ ap steps_where idle

  pub steps_forced : pick s.free need ≡ None → s.waits ≡ true → place_steps s need ≡ Force true ∷ Test (cond (is_none (pick s.freed need)) (Some (no_place_in s s.freed need)) None) ∷ []
  steps_forced none waits = ap steps_by none ∙ ap steps_where waits

  pub forces_once : (runs : List Run) → pick s.free need ≡ Some runs → forces_for_place s need ≡ false
  forces_once runs is = ap (λ (o : Option (List Run)). is_none o && s.waits) is

  pub forces_as_waits : pick s.free need ≡ None → forces_for_place s need ≡ s.waits
  forces_as_waits none = ap (λ (o : Option (List Run)). is_none o && s.waits) none

  pub place_once : (runs : List Run) → pick s.free need ≡ Some runs → place_in s need ≡ Some runs
  place_once runs is = ap (or_freed s need) is

  pub place_forced : pick s.free need ≡ None → s.waits ≡ true → place_in s need ≡ pick s.freed need
  place_forced none waits = ap (or_freed s need) none ∙ ap (λ (w : Bool). cond w (pick s.freed need) None) waits

-- a step forces there
pub busy_place : (s : State) (need : ℕ) → pick s.free need ≡ None → s.waits ≡ true → is_idle (place_steps s need) ≡ true → ⊥
busy_place s need none waits idle = cc (subst (λ (steps : List CallStep). is_idle steps ≡ true) (steps_forced s need none waits) idle)

-- what is picked where the answer is known
pub place_none : (s : State) (need : ℕ) (why : Refusal) → place_now s need ≡ Err why → (pick s.free need ≡ None) × (no_place_in s s.free need ≡ why)
place_none s need why e = by (pick s.free need) refl e
  where
    by : (o : Option (List Run)) → pick s.free need ≡ o → place_or s need o ≡ Err why → (pick s.free need ≡ None) × (no_place_in s s.free need ≡ why)
    by (Some runs) is e = absurd cc
    by None is e = (is, cc)

pub stays : (s : State) → GoesOn None s s
stays s = record { layout = refl; epoch = refl; unfinished = refl; readers = refl; down = inl refl }

goes_more : (place : Option ℕ) (s t : State) → GoesOn None s t → GoesOn place s t
goes_more place s t goes = record {
  layout = goes.layout;
  epoch = goes.epoch;
  readers = goes.readers;
  unfinished = goes.unfinished;
  down = elim goes.down [
    | inl same ↦ inl same
    | inr gone ↦ absurd (cc gone.0)
  ];
}

-- ---- without a force

pub places_once : (s : State) (need : ℕ) (runs : List Run) → place_now s need ≡ Ok runs → Places need s s (Ok runs)
places_once s need runs e =
    let is = placed_ok s need runs e in
    record {
      order = subst (λ (steps : List CallStep). Follows steps (Ok runs)) (sym (steps_once s need runs is)) (tt, (refl, tt));
      state = stays s;
      kept = record { place = place_once s need runs is; free = is; went = inl (forces_once s need runs is, refl) };
    }

pub places_never : (s : State) (need : ℕ) (why : Refusal) → place_now s need ≡ Err why → s.waits ≡ false → Places need s s (Err why)
places_never s need why e idle =
    let none = place_none s need why e in
    let tells : Some (no_place_in s s.free need) ≡ Some why = ap (λ (r : Refusal). Some r) none.1 in
    record {
      order = subst (λ (steps : List CallStep). Comes steps why) (sym (steps_never s need none.0 idle)) (inr (tt, inl tells));
      state = goes_more (downs_for why) s s (stays s);
      kept = subst (λ (steps : List CallStep). KeepsRefused steps why s s) (sym (steps_never s need none.0 idle)) (inr (tt, inl (tells, refl)));
    }

-- ---- a force that fails

module _ (s t : State) (why : Refusal) (up : s.down ≡ None) where
  abbrev tried : Option ℕ → List CallStep
  tried o = Test (option_map Why.Down o) ∷ Force (nat_lt 0 (length s.dirty)) ∷ []

  pub lost_so : Comes (force_steps s) why → IsLoss why
  lost_so comes = by (subst (λ (o : Option ℕ). Comes (tried o) why) up comes)
    where
      by : Comes (tried None) why → IsLoss why
      by (inl down) = absurd (cc down)
      by (inr (passes, inl force)) = force.1
      by (inr (passes, inr none)) = absurd none.1

  pub down_so : KeepsRefused (force_steps s) why s t → IsDownBy why s t
  down_so keeps = by (nat_lt 0 (length s.dirty)) (subst (λ (o : Option ℕ). KeepsRefused (tried o) why s t) up keeps)
    where
      by : (b : Bool) → KeepsRefused (Test None ∷ Force b ∷ []) why s t → IsDownBy why s t
      by b (inl down) = absurd (cc down.0)
      by true (inr (passes, inl down)) = down
      by true (inr (passes, inr next)) = absurd next.2
      by false (inr (passes, inl force)) = absurd (cc force.0.0)
      by false (inr (passes, inr next)) = absurd next.1

-- ---- behind a force

module _ (s t : State) (need : ℕ) (none : pick s.free need ≡ None) (waits : s.waits ≡ true) where
  module _ (goes : GoesOn None s t) (is : IsForced s t) where
    now_free : t.free ≡ s.freed
    now_free = ap (λ (x : State). x.free) is.is

    pub places_behind : (runs : List Run) → place_now t need ≡ Ok runs → Places need s t (Ok runs)
    places_behind runs e =
        let there = placed_ok t need runs e in
        let freed : pick s.freed need ≡ Some runs = ap (λ (rs : List Run). pick rs need) (sym now_free) ∙ there in
        record {
          order = subst (λ (steps : List CallStep). Follows steps (Ok runs)) (sym (steps_forced s need none waits)) (tt, (ap (λ (o : Option (List Run)). cond (is_none o) (Some (no_place_in s s.freed need)) None) freed, tt));
          state = goes;
          kept = record { place = place_forced s need none waits ∙ freed; free = there; went = inr (forces_as_waits s need none ∙ waits, is) };
        }

    pub never_behind : (why : Refusal) → place_now t need ≡ Err why → Places need s t (Err why)
    never_behind why e =
        let gone = place_none t need why e in
        let freed : pick s.freed need ≡ None = ap (λ (rs : List Run). pick rs need) (sym now_free) ∙ gone.0 in
        let tells : cond (is_none (pick s.freed need)) (Some (no_place_in s s.freed need)) None ≡ Some why =
        ap (λ (o : Option (List Run)). cond (is_none o) (Some (no_place_in s s.freed need)) None) freed ∙ ap (λ (rs : List Run). Some (no_place_in s rs need)) (sym now_free) ∙ ap (λ (r : Refusal). Some r) gone.1 in
        record {
          order = subst (λ (steps : List CallStep). Comes steps why) (sym (steps_forced s need none waits)) (inr (tt, inl tells));
          state = goes_more (downs_for why) s t goes;
          kept = subst (λ (steps : List CallStep). KeepsRefused steps why s t) (sym (steps_forced s need none waits)) (inr (t, is, inl (tells, refl)));
        }

  -- the force has failed
  module _ (why : Refusal) (up : s.down ≡ None) where
    pub places_down : GoesOn (downs_for why) s t → Comes (force_steps s) why → KeepsRefused (force_steps s) why s t → Places need s t (Err why)
    places_down goes comes keeps = record {
      order = subst (λ (steps : List CallStep). Comes steps why) (sym (steps_forced s need none waits)) (inl (refl, lost_so s t why up comes));
      state = goes;
      kept = subst (λ (steps : List CallStep). KeepsRefused steps why s t) (sym (steps_forced s need none waits)) (inl (down_so s t why up keeps));
    }

-- ---- over an honest machine

pub forced_is : (s : State) (m : Mounted) (need : ℕ) (b : Bool) → Fits s m → forces_for_place s need ≡ b → forced_for_place need m.volume ≡ cond b (forced m.volume) m.volume
forced_is s m need b fits is =
    ap (λ (rs : List Run). cond (is_none (pick rs need) && not (length m.volume.removed == 0)) (forced m.volume) m.volume) fits.free
    ∙ ap (λ (w : Bool). cond (is_none (pick s.free need) && w) (forced m.volume) m.volume) fits.waits
    ∙ ap (λ (c : Bool). cond c (forced m.volume) m.volume) is

pub stands_once : (v : VolumeValue) (need : ℕ) (k : Known) (now : Moment) → forces_for_place (state v) need ≡ false → Stands state IsMemoryOf v k now → StandsFor need k v now
stands_once v need k now idle stands = record { after = k; volume = sym (forced_is (state v) k.mounted need false stands.fits idle); opened = refl; windows = refl; changes = refl; stands = stands }

pub stands_behind : (v w : VolumeValue) (need : ℕ) (k : Known) (old now : Moment) → forces_for_place (state v) need ≡ true → Stands state IsMemoryOf v k old
    → AnswersAndStands state IsMemoryOf (λ met. force_outcome (volume_of k)) Forced [] k w now → StandsFor need k w now
stands_behind v w need k old now forces stands (after, answers, there) = record {
  after = after;
  volume = sym (ap (λ (o : Outcome). o.1) answers.is) ∙ sym (forced_is (state v) k.mounted need true stands.fits forces);
  opened = answers.opened;
  windows = answers.windows;
  changes = answers.changes ∙ append-nil k.changes;
  stands = there;
}

-- without a place it stands too
pub ends_without : (s : State) (need : ℕ) (runs : List Run) (why : Refusal) (k : Known) (new : VolumeValue) (now : Moment) → no_place_in s runs need ≡ why → StandsFor need k new now → EndsPlace need k new now (Err why)
ends_without s need runs why k new now is stands = subst (λ (r : Refusal). EndsPlace need k new now (Err r)) is (by (nat_lt (total runs) need))
  where
    by : (b : Bool) → EndsPlace need k new now (Err (cond b (Why.NoSpace need (total runs)) (Why.TooFragmented need (best runs))))
    by true = stands
    by false = stands

pub ends_down : (T : Type 0) (need : ℕ) (outcome : Met → Outcome) (reply : Reply) (why : Refusal) (k : Known) (new : VolumeValue) (now : Moment) → EndsForce state IsMemoryOf {T = T} outcome reply k new now (Err why) → EndsPlace need k new now (Err why)
ends_down T need outcome reply (Why.Device s) k new now down = down
ends_down T need outcome reply (Why.Lost a b) k new now none = none
ends_down T need outcome reply why k new now none = absurd none

-- ---- as the code goes

-- there is a place, or no sector waits
pub places_now : (s : State) (need : ℕ) (r : Result (List Run) Refusal) → r ≡ place_now s need → (is_ok r ≡ true) ⊎ (s.waits ≡ false) → Places need s s r
places_now s need (Ok runs) is how = places_once s need runs (sym is)
places_now s need (Err why) is (inl ok) = absurd (cc ok)
places_now s need (Err why) is (inr idle) = places_never s need why (sym is) idle

-- no fault of the disk is told
pub place_tells : (s : State) (need : ℕ) (r : Result (List Run) Refusal) → r ≡ place_now s need → device_in device_of r ≡ None
place_tells s need (Ok runs) is = refl
place_tells s need (Err why) is = subst (λ (x : Refusal). device_of x ≡ None) (place_none s need why (sym is)).1 (by (nat_lt (total s.free) need))
  where
    by : (b : Bool) → device_of (cond b (Why.NoSpace need (total s.free)) (Why.TooFragmented need (best s.free))) ≡ None
    by true = refl
    by false = refl

pub none_now : (s : State) (need : ℕ) (r : Result (List Run) Refusal) → r ≡ place_now s need → is_ok r ≡ false → pick s.free need ≡ None
none_now s need (Ok runs) is bad = absurd (cc bad)
none_now s need (Err why) is bad = (place_none s need why (sym is)).0

pub ends_now : (v : VolumeValue) (need : ℕ) (k : Known) (now : Moment) (r : Result (List Run) Refusal) → r ≡ place_now (state v) need → (is_ok r ≡ true) ⊎ ((state v).waits ≡ false) → Stands state IsMemoryOf v k now → EndsPlace need k v now r
ends_now v need k now (Ok runs) is how stands = stands_once v need k now (forces_once (state v) need runs (placed_ok (state v) need runs (sym is))) stands
ends_now v need k now (Err why) is (inl ok) stands = absurd (cc ok)
ends_now v need k now (Err why) is (inr idle) stands =
    let none = place_none (state v) need why (sym is) in
    ends_without (state v) need (state v).free why k v now none.1 (stands_once v need k now (forces_as_waits (state v) need none.0 ∙ idle) stands)

module _ (v w : VolumeValue) (need : ℕ) (none : pick (state v).free need ≡ None) (waits : (state v).waits ≡ true) (r : Result (List Run) Refusal) (is : r ≡ place_now (state w) need) where
  pub places_then : GoesOn None (state v) (state w) → IsForced (state v) (state w) → Places need (state v) (state w) r
  places_then goes forced = by r is
    where
      by : (q : Result (List Run) Refusal) → q ≡ place_now (state w) need → Places need (state v) (state w) q
      by (Ok runs) e = places_behind (state v) (state w) need none waits goes forced runs (sym e)
      by (Err why) e = never_behind (state v) (state w) need none waits goes forced why (sym e)

  pub ends_then : (k : Known) (old now : Moment) → Stands state IsMemoryOf v k old → AnswersAndStands state IsMemoryOf (λ met. force_outcome (volume_of k)) Forced [] k w now → EndsPlace need k w now r
  ends_then k old now stands answered = by r is
    where
      behind : StandsFor need k w now
      behind = stands_behind v w need k old now (forces_as_waits (state v) need none ∙ waits) stands answered

      by : (q : Result (List Run) Refusal) → q ≡ place_now (state w) need → EndsPlace need k w now q
      by (Ok runs) e = behind
      by (Err why) e = ends_without (state w) need (state w).free why k w now (place_none (state w) need why (sym e)).1 behind
