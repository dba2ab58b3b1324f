-- What was there since a time in a machine in memory: times go up, and syncs with them.
use Rattle.std.specs.Prelude.{◌≡◌, ◌<◌, ◌≤◌, ℕ, ◌+◌, ◌-◌, List, [], ◌∷◌, ◌++◌, length, take, drop, reverse}
use Rattle.std.proofs.Common.{inl, inr, sym, ◌∙◌, ap, subst, arith}
use Rattle.std.proofs.lemmas.Bool.{cases_lt}
use Rattle.std.proofs.lemmas.List.{drop-drop, length-drop, length-reverse, reverse-append, take-append-drop}
use Rattle.memory_machine.specs.declared.past.Step.{Step}
use Rattle.memory_machine.specs.declared.memory.MemoryMachine.{MemoryMachine}
use Rattle.sector_disk.specs.Machine.{Moment, IsHistory}
use Rattle.memory_machine.specs.Past.{before, LeftBack}
use Rattle.memory_machine.specs.Memory.{memory_now, memory_left, IsHonest}

-- BACK OVER STEPS

-- going back, syncs never rise
back_synced : (steps : List Step) (now c : Moment) → LeftBack now steps c → c.synced ≤ now.synced
back_synced [] now c back = absurd back
back_synced (step ∷ steps) now c (inl call) = omega (arith, call.synced)
back_synced (step ∷ steps) now c (inr (inl at)) = omega (arith, ap (λ (m : Moment). m.synced) at)
back_synced (step ∷ steps) now c (inr (inr back)) = omega (arith, back_synced steps (before step now) c back)

-- and each is behind its sync
back_dated : (steps : List Step) (now c : Moment) → LeftBack now steps c → c.synced ≤ c.time
back_dated [] now c back = absurd back
back_dated (step ∷ steps) now c (inl call) = omega (arith, call.synced, call.time)
back_dated (step ∷ steps) now c (inr (inl at)) = omega (arith, ap (λ (m : Moment). m.synced) at, ap (λ (m : Moment). m.time) at)
back_dated (step ∷ steps) now c (inr (inr back)) = back_dated steps (before step now) c back

-- no time is after now
back_past : (steps : List Step) (now c : Moment) → length steps ≤ now.time → LeftBack now steps c → c.time ≤ now.time
back_past [] now c le back = absurd back
back_past (step ∷ steps) now c le (inl call) = omega (arith, call.time, le)
back_past (step ∷ steps) now c le (inr (inl at)) = omega (arith, ap (λ (m : Moment). m.time) at)
back_past (step ∷ steps) now c le (inr (inr back)) = omega (arith, back_past steps (before step now) c (omega (arith, le)) back)

-- and none is before the first step
back_since : (steps : List Step) (now c : Moment) → length steps ≤ now.time → LeftBack now steps c → now.time ≤ c.time + length steps
back_since [] now c le back = absurd back
back_since (step ∷ steps) now c le (inl call) = omega (arith, call.time)
back_since (step ∷ steps) now c le (inr (inl at)) = omega (arith, ap (λ (m : Moment). m.time) at)
back_since (step ∷ steps) now c le (inr (inr back)) = omega (arith, back_since steps (before step now) c (omega (arith, le)) back)

-- of two, the earlier one has no later sync
back_in_order : (steps : List Step) (now c d : Moment) → length steps ≤ now.time → LeftBack now steps c → LeftBack now steps d → c.time < d.time → c.synced ≤ d.synced
back_in_order [] now c d le first second lt = absurd first
back_in_order (step ∷ steps) now c d le (inl one) (inl two) lt = absurd (omega (arith, one.time, two.time, lt))
back_in_order (step ∷ steps) now c d le (inl one) (inr (inl at)) lt = absurd (omega (arith, one.time, ap (λ (m : Moment). m.time) at, lt))
back_in_order (step ∷ steps) now c d le (inl one) (inr (inr back)) lt = absurd (omega (arith, one.time, back_past steps (before step now) d (omega (arith, le)) back, lt))
back_in_order (step ∷ steps) now c d le (inr (inl at)) (inl two) lt = omega (arith, ap (λ (m : Moment). m.synced) at, two.synced)
back_in_order (step ∷ steps) now c d le (inr (inl at)) (inr (inl there)) lt = omega (arith, ap (λ (m : Moment). m.time) at, ap (λ (m : Moment). m.time) there, lt)
back_in_order (step ∷ steps) now c d le (inr (inl at)) (inr (inr back)) lt = absurd (omega (arith, ap (λ (m : Moment). m.time) at, back_past steps (before step now) d (omega (arith, le)) back, lt))
back_in_order (step ∷ steps) now c d le (inr (inr first)) (inl two) lt = omega (arith, back_synced steps (before step now) c first, two.synced)
back_in_order (step ∷ steps) now c d le (inr (inr first)) (inr (inl there)) lt = omega (arith, back_synced steps (before step now) c first, ap (λ (m : Moment). m.synced) there)
back_in_order (step ∷ steps) now c d le (inr (inr first)) (inr (inr second)) lt = back_in_order steps (before step now) c d (omega (arith, le)) first second lt

-- MORE STEPS, AND LESS

back_more : (steps more : List Step) (now c : Moment) → LeftBack now steps c → LeftBack now (steps ++ more) c
back_more [] more now c back = absurd back
back_more (step ∷ steps) more now c (inl call) = inl call
back_more (step ∷ steps) more now c (inr (inl at)) = inr (inl at)
back_more (step ∷ steps) more now c (inr (inr back)) = inr (inr (back_more steps more (before step now) c back))

-- what is later than the first of these steps was there in one of them
back_less : (steps more : List Step) (now c : Moment) → length (steps ++ more) ≤ now.time → LeftBack now (steps ++ more) c → now.time < c.time + length steps → LeftBack now steps c
back_less [] more now c le back after = absurd (omega (arith, back_past more now c le back, after))
back_less (step ∷ steps) more now c le (inl call) after = inl call
back_less (step ∷ steps) more now c le (inr (inl at)) after = inr (inl at)
back_less (step ∷ steps) more now c le (inr (inr back)) after = inr (inr (back_less steps more (before step now) c (omega (arith, le)) back (omega (arith, after, le))))

-- the steps since an earlier time are those since a later one, and more
abbrev older : ℕ → ℕ → List Step → List Step
older s t past = reverse (take (t - s) (drop s past))

since_longer : (s t : ℕ) (past : List Step) → s ≤ t → reverse (drop s past) ≡ reverse (drop t past) ++ older s t past
since_longer s t past le =
    let sum : s + (t - s) ≡ t = omega (arith, le) in
    let later : drop (t - s) (drop s past) ≡ drop t past = drop-drop (t - s) s past ∙ ap (λ (n : ℕ). drop n past) sum in
    ap reverse (sym (take-append-drop (t - s) (drop s past)))
    ∙ reverse-append (take (t - s) (drop s past)) (drop (t - s) (drop s past))
    ∙ ap (λ (l : List Step). reverse l ++ older s t past) later

-- A MACHINE'S PAST

module _ (m : MemoryMachine) where
  abbrev now : Moment
  now = memory_now m

  abbrev past : List Step
  past = m.past.items

  abbrev back : ℕ → List Step
  back t = reverse (drop t past)

  count : (t : ℕ) → length (back t) ≡ length past - t
  count t = length-reverse (drop t past) ∙ length-drop t past

  few : (t : ℕ) → length (back t) ≤ now.time
  few t = omega (arith, count t)

  within : (t : ℕ) (c : Moment) → memory_left m t c → (t ≤ c.time) × (c.time ≤ now.time)
  within t c (le, inl same) = (omega (arith, le, ap (λ (x : Moment). x.time) same), omega (arith, ap (λ (x : Moment). x.time) same))
  within t c (le, inr there) = (omega (arith, le, count t, back_since (back t) now c (few t) there), back_past (back t) now c (few t) there)

  sooner : (s t : ℕ) (c : Moment) → s ≤ t → memory_left m t c → memory_left m s c
  sooner s t c le (some, inl same) = (omega (arith, le, some), inl same)
  sooner s t c le (some, inr there) = (omega (arith, le, some), inr (subst (λ (l : List Step). LeftBack now l c) (sym (since_longer s t past le)) (back_more (back t) (older s t past) now c there)))

  later : (s t : ℕ) (c : Moment) → memory_left m s c → t < c.time → memory_left m t c
  later s t c since lt = elim (cases_lt s t) [
    | inl lt ↦ newer lt since
    | inr le ↦ sooner t s c le since
  ]
    where
      some : t ≤ length past
      some = omega (arith, (within s c since).1, lt)

      newer : s < t → memory_left m s c → memory_left m t c
      newer first (le, inl same) = (some, inl same)
      newer first (le, inr there) =
          let longer = since_longer s t past (omega (arith, first)) in
          let all : LeftBack now (back t ++ older s t past) c = subst (λ (l : List Step). LeftBack now l c) longer there in
          let size : length (back t ++ older s t past) ≤ now.time = omega (arith, ap (λ (l : List Step). length l) longer, few s) in
          (some, inr (back_less (back t) (older s t past) now c size all (omega (arith, count t, some, lt))))

  synced : (t : ℕ) (c : Moment) → memory_left m t c → c.synced ≤ c.time
  synced t c (le, inl same) = omega (arith, ap (λ (x : Moment). x.time) same, ap (λ (x : Moment). x.synced) same)
  synced t c (le, inr there) = back_dated (back t) now c there

  in_order : (t : ℕ) (c d : Moment) → memory_left m t c → memory_left m t d → c.time < d.time → c.synced ≤ d.synced
  in_order t c d (le, inl same) (some, inl is) lt = absurd (omega (arith, ap (λ (x : Moment). x.time) same, ap (λ (x : Moment). x.time) is, lt))
  in_order t c d (le, inl same) (some, inr there) lt = absurd (omega (arith, ap (λ (x : Moment). x.time) same, back_past (back t) now d (few t) there, lt))
  in_order t c d (le, inr here) (some, inl is) lt = omega (arith, back_synced (back t) now c here, ap (λ (x : Moment). x.synced) is)
  in_order t c d (le, inr here) (some, inr there) lt = back_in_order (back t) now c d (few t) here there lt

  pub past_history : IsHistory (memory_now m) (memory_left m)
  past_history = record { within = within; sooner = sooner; later = later; synced = synced; in_order = in_order }

pub memory_history : (m : MemoryMachine) → IsHonest m → IsHistory (memory_now m) (memory_left m)
memory_history m honest = past_history m
