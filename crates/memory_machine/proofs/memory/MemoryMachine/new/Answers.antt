use Rattle.std.proofs.Common.{◌≡◌, ◌∙◌, ◌<◌, ℕ, List, [], ◌∷◌, length, map, refl, ap, Some, slice_get, slice_index, take, arith}
use Rattle.std.proofs.lemmas.List.{take_all}
use Rattle.sector_disk.specs.declared.sector.WeakRun.{WeakRun}
use Rattle.memory_machine.specs.Memory.{pair_at}
use Rattle.memory_machine.proofs.memory.MemoryMachine.new.Goals as goal
use Rattle.memory_machine.specs.Windows.{is_short}

first_pair : (pairs : List ℕ) → 0 < length pairs → slice_get (map pair_at pairs) 0 ≡ Some (pair_at (slice_index pairs 0))
first_pair [] some = absurd (omega (arith, some))
first_pair (pair ∷ pairs) some = refl

pub returns-clause-honest : goal.returns-clause-honest
returns-clause-honest c =
    let all : take c.loop-pair.pair-index c.deref-pair-items.result.now ≡ c.deref-pair-items.result.now = take_all c.loop-pair.pair-index c.deref-pair-items.result.now (omega arith) in
    let runs : c.loop-pair.runs.items ≡ map pair_at c.args.pairs.items = c.loop-pair.invariant ∙ ap (map pair_at) (all ∙ c.deref-pair-items.ensures.value) in
    c.with_runs.ensures.honest ∙ ap (λ (l : List WeakRun). is_short (slice_get l 0)) runs ∙ ap is_short (first_pair c.args.pairs.items c.requires)
