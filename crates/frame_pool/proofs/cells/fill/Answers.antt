use Rattle.std.proofs.Common.{◌≡◌, ℕ, List, map, length, replicate, Some, None, sym, ◌∙◌, arith, ext_get_or}
use Rattle.std.proofs.lemmas.List.{length-map, length-replicate}
use Rattle.frame_pool.proofs.Slots.{get_or-map_some, slice_get-replicate}
use Rattle.frame_pool.proofs.cells.fill.Goals as goal

pub returns-clause-zeros : goal.returns-clause-zeros
returns-clause-zeros c =
    let n = c.args.count in let zeros : List (List ℕ) = replicate n (replicate 512 0) in let inv = c.loop-i.invariant in
    let many : length zeros ≡ n = length-replicate n (replicate 512 0) in
    ext_get_or None c.loop-i.cells.slots (map Some zeros) (omega (arith, inv.long, length-map zeros Some)) (λ k lt.
    inv.done k (omega (arith, inv.long, c.loop-i.auto.i-end, c.loop-i-test.false)) ∙ sym (get_or-map_some zeros k ∙ slice_get-replicate n k (replicate 512 0) (omega (arith, inv.long))))
