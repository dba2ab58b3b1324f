-- The place that a put or a load finds is that of the definitions, and without one it is refused as they refuse it.
use Rattle.std.proofs.Common.{◌≡◌, ◌⊎◌, inl, inr, ℕ, Bool, true, false, cond, ◌&&◌, List, [], nat_lt, Option, Some, None, Err, refl, sym, ap, subst, ◌∙◌, length}
use Rattle.std.specs.Prelude.{is_none}
use Rattle.std.proofs.lemmas.List.{append-nil}
use Rattle.fsd_bytes.specs.declared.refusal.Refusal.{Refusal}
use Rattle.fsd_bytes.specs.declared.refusal.Refusal.TheVariants as Why
use Rattle.fsd_formats.specs.NamePage.{sectors_for}
use Rattle.run_table.specs.declared.run.Run.{Run}
use Rattle.run_table.specs.RunTable.{total}
use Rattle.run_table.specs.Space.{best, pick}
use Rattle.sector_disk.specs.Machine.{Moment}
use Rattle.fsd_files.specs.Answers.{Met, Outcome, no_place, refused}
use Rattle.fsd_files.specs.Disk.{Sectors}
use Rattle.fsd_files.specs.declared.reply.Reply.TheVariants.{Refused}
use Rattle.fsd_files.specs.Volume.{Volume, forced, forced_for_place, free_runs, place_for}
use Rattle.fsd_sound.specs.Mounted.{Mounted, forces_by_itself}
use Rattle.volume_contract.specs.Ends.{AnswersAndStands, EndsRefused}
use Rattle.volume_contract.specs.Order.{Comes, IsDeviceIn, IsLoss, no_place_in, runs_at}
use Rattle.volume_contract.specs.State.{Fits, Known, State, forces_for_place, or_freed, place_in, volume_of}
use Rattle.volume_laws.specs.Placing.{StandsFor}
use Rattle.volume_laws.specs.Preparing.{EndsPrepare, prepare_steps}
use Rattle.volume_laws.specs.State.{IsMemoryOf, state}
use Rattle.volume_laws.specs.Volume.{VolumeValue}
use Rattle.volume_laws.proofs.PlaceSteps.{forced_is}

module _ (s : State) (m : Mounted) (need : ℕ) (fits : Fits s m) where
  abbrev at : Volume
  at = forced_for_place need m.volume

  -- behind the force that a place asks for these runs are free
  runs_then : free_runs at ≡ runs_at s need
  runs_then = ap (λ (v : Volume). free_runs v) (forced_is s m need (forces_for_place s need) fits refl) ∙ by (forces_for_place s need)
    where
      by : (b : Bool) → free_runs (cond b (forced m.volume) m.volume) ≡ cond b s.freed s.free
      by true = fits.freed
      by false = fits.free

  picked_then : pick (runs_at s need) need ≡ place_in s need
  picked_then = by (pick s.free need) refl
    where
      waiting : (w : Bool) → pick s.free need ≡ None → pick (cond w s.freed s.free) need ≡ cond w (pick s.freed need) None
      waiting true none = refl
      waiting false none = none

      by : (o : Option (List Run)) → pick s.free need ≡ o → pick (cond (is_none o && s.waits) s.freed s.free) need ≡ or_freed s need o
      by (Some runs) e = e
      by None e = waiting s.waits e

  -- the definitions find the same place
  pub place_is : place_for at need ≡ place_in s need
  place_is = ap (λ (runs : List Run). pick runs need) runs_then ∙ picked_then

  pub no_place_is : no_place at need ≡ no_place_in s (runs_at s need) need
  no_place_is = ap (λ (runs : List Run). no_place_in s runs need) runs_then

-- ---- no place is found

device_loss : (may : Sectors) (why : Refusal) → IsDeviceIn may why → IsLoss why
device_loss may (Why.Device s) within = tt
device_loss may why within = absurd within

pub no_place_cases : (s : State) (need : ℕ) (why : Refusal) → (o : Option (List Run)) → cond (is_none o) (Some (no_place_in s (runs_at s need) need)) None ≡ Some why → (o ≡ None) × (no_place_in s (runs_at s need) need ≡ why)
no_place_cases s need why None e = (refl, cc e)
no_place_cases s need why (Some runs) e = absurd (cc e)

-- the disk has failed, or there is no place
no_place_came : (s : State) (need : ℕ) (why : Refusal) → Comes (prepare_steps s need) why → IsLoss why ⊎ ((place_in s need ≡ None) × (no_place_in s (runs_at s need) need ≡ why))
no_place_came s need why (inl (comes, loss)) = inl loss
no_place_came s need why (inr (first, inl test)) = inr (no_place_cases s need why (place_in s need) test)
no_place_came s need why (inr (first, inr (passes, inl draws))) = absurd draws
no_place_came s need why (inr (first, inr (passes, inr (drawn, inl within)))) = inl (device_loss _ why within)
no_place_came s need why (inr (first, inr (passes, inr (drawn, inr (written, inl (comes, loss)))))) = inl loss
no_place_came s need why (inr (first, inr (passes, inr (drawn, inr (written, inr (last, none)))))) = absurd none

-- where the definitions refuse without a place
module _ (s : State) (bytes : List ℕ) (k : Known) (new : VolumeValue) (now : Moment) (outcome : Met → Outcome) where
  abbrev need : ℕ
  need = sectors_for (length bytes)

  abbrev there : Volume
  there = forced_for_place need (volume_of k)

  lost_refused : (why : Refusal) → IsLoss why → EndsPrepare need bytes k new now (Err why) → EndsRefused state IsMemoryOf outcome k new now why
  lost_refused (Why.Device s) loss down = down
  lost_refused (Why.Lost a b) loss none = none
  lost_refused why loss ends = absurd loss

  module _ (placeless : (met : Met) (why : Refusal) → place_for there need ≡ None → no_place there need ≡ why → outcome met ≡ refused there why) (fits : Fits s k.mounted) where
    answered : place_in s need ≡ None → (why : Refusal) → no_place_in s (runs_at s need) need ≡ why → StandsFor need k new now → AnswersAndStands state IsMemoryOf outcome (Refused why) [] k new now
    answered none why is p =
        let met : Met = record { forces = forces_by_itself k.mounted; reached = 0; damaged = None; found = []; healed = 0 } in
        let out : outcome met ≡ refused there why = placeless met why (place_is s k.mounted need fits ∙ none) (no_place_is s k.mounted need fits ∙ is) in
        (p.after, record { met = met; forces = refl; is = out ∙ ap (λ (v : Volume). refused v why) (sym p.volume); opened = p.opened; windows = p.windows; changes = p.changes ∙ sym (append-nil k.changes) }, p.stands)

    without : place_in s need ≡ None → (why : Refusal) → no_place_in s (runs_at s need) need ≡ why → EndsPrepare need bytes k new now (Err why) → EndsRefused state IsMemoryOf outcome k new now why
    without none why is ends = subst (λ (r : Refusal). EndsRefused state IsMemoryOf outcome k new now r) is (by (nat_lt (total runs) need) refl (subst (λ (r : Refusal). EndsPrepare need bytes k new now (Err r)) (sym is) ends))
      where
        runs : List Run
        runs = runs_at s need

        by : (b : Bool) → nat_lt (total runs) need ≡ b → EndsPrepare need bytes k new now (Err (cond b (Why.NoSpace need (total runs)) (Why.TooFragmented need (best runs))))
            → EndsRefused state IsMemoryOf outcome k new now (cond b (Why.NoSpace need (total runs)) (Why.TooFragmented need (best runs)))
        by true e p = answered none (Why.NoSpace need (total runs)) (ap (λ (b : Bool). cond b (Why.NoSpace need (total runs)) (Why.TooFragmented need (best runs))) e) p
        by false e p = answered none (Why.TooFragmented need (best runs)) (ap (λ (b : Bool). cond b (Why.NoSpace need (total runs)) (Why.TooFragmented need (best runs))) e) p

    -- what was refused before its look-up ends as the definitions say
    pub ends_unready : (why : Refusal) → Comes (prepare_steps s need) why → EndsPrepare need bytes k new now (Err why) → EndsRefused state IsMemoryOf outcome k new now why
    ends_unready why comes ends = elim (no_place_came s need why comes) [
      | inl loss ↦ lost_refused why loss ends
      | inr gone ↦ without gone.0 why gone.1 ends
    ]

-- nor does it tell that a version is there
pub unready_some : (s : State) (need : ℕ) (why : Refusal) → Comes (prepare_steps s need) why → why ≡ Why.Exists → ⊥
unready_some s need why comes same = elim (no_place_came s need why comes) [
  | inl loss ↦ subst IsLoss same loss
  | inr gone ↦ by (nat_lt (total (runs_at s need)) need) (gone.1 ∙ same)
]
  where
    by : (b : Bool) → cond b (Why.NoSpace need (total (runs_at s need))) (Why.TooFragmented need (best (runs_at s need))) ≡ Why.Exists → ⊥
    by true e = cc e
    by false e = cc e
