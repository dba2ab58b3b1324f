-- What a stop that loses calls leaves is what a stop may leave.
use Rattle.std.proofs.Common.{◌≡◌, ◌⊎◌, inl, inr, ⊎_elim, ℕ, ◌-◌, ◌<◌, ◌≤◌, List, [], ◌∷◌, length, drop, reverse, refl, arith}
use Rattle.std.proofs.lemmas.List.{length-drop, length-reverse}
use Rattle.memory_machine.specs.declared.past.Step.{Step}
use Rattle.memory_machine.specs.declared.memory.MemoryMachine.{MemoryMachine}
use Rattle.sector_disk.specs.Machine.{Moment, StopSince}
use Rattle.memory_machine.specs.Past.{before, LeftBack}
use Rattle.memory_machine.specs.Memory.{memory_now, memory_calls, memory_left}
use Rattle.memory_machine.specs.History.{past_history}
use Rattle.memory_machine.specs.Left.{back_over, undo_all, moment_at, time_before, left_by}

pub back_image : (steps : List Step) (now : Moment) → (back_over steps now).image ≡ undo_all steps now.image
back_image [] now = refl
back_image (step ∷ steps) now = back_image steps (before step now)

back_time : (steps : List Step) (now : Moment) → (back_over steps now).time ≡ now.time - length steps
back_time [] now = omega arith
back_time (step ∷ steps) now = omega (arith, back_time steps (before step now))

back_there : (step : Step) (steps : List Step) (now : Moment) → LeftBack now (step ∷ steps) (back_over (step ∷ steps) now)
back_there step [] now = inr (inl refl)
back_there step (next ∷ steps) now = inr (inr (back_there next steps (before step now)))

-- it is what is there now, or was there earlier
back_earlier : (steps : List Step) (now : Moment) → length steps ≤ now.time → (back_over steps now ≡ now) ⊎ (LeftBack now steps (back_over steps now) × ((back_over steps now).time < now.time))
back_earlier [] now le = inl refl
back_earlier (step ∷ steps) now le = inr (back_there step steps now, omega (arith, le, back_time (step ∷ steps) now))

module _ (held : ℕ) (m : MemoryMachine) where
  abbrev time : ℕ
  time = time_before held m

  abbrev back : List Step
  back = reverse (drop time m.past.items)

  few : length back ≤ memory_calls m
  few = omega (arith, length-reverse (drop time m.past.items), length-drop time m.past.items)

  synced : (memory_now m).synced ≤ time
  synced = omega arith

  some : time ≤ memory_calls m
  some = omega arith

  pub stop_left : (t : ℕ) → t ≤ memory_calls m → StopSince (memory_left m) t (left_by held m)
  stop_left t le = record {
    last = memory_now m;
    passed = (le, inl refl);
    shown = moment_at time m;
    held = ⊎_elim (λ same. inl same) (λ was. inr ((past_history m).sooner (memory_now m).synced time (moment_at time m) synced (some, inr was.0), was.1)) (back_earlier back (memory_now m) few);
    is = refl;
  }

  pub left_image : (left_by held m).image ≡ undo_all back m.image.items
  left_image = back_image back (memory_now m)
