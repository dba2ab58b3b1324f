use Rattle.std.proofs.Common.{◌≡◌, ◌+◌, ◌-◌, ◌*◌, ◌∙◌, ℕ, ◌≤◌, List, length, take, drop, ap, arith}
use Rattle.fsd_formats.specs.Slot.{weighted_sum}
use Rattle.image_file.proofs.Weights.{weighted_sum-le, weighted_sum-part}
use Rattle.image_file.proofs.slot.check_of.Goals as goal

-- what the next part adds
part : (k result : ℕ) (b : List ℕ) → 64 * k + 64 ≤ length b → result ≡ weighted_sum (64 * k + 1) (take (64 * k + 64 - 64 * k) (drop (64 * k) b))
    → weighted_sum (64 * k + 1) (drop (64 * k) b) ≡ result + weighted_sum (64 * (k + 1) + 1) (drop (64 * (k + 1)) b)
part k result b le is =
    let from : ℕ = 64 * k in
    let long : 64 * k + 64 - 64 * k ≡ 64 = omega arith in
    let next : 64 * k + 64 ≡ 64 * (k + 1) = omega arith in
    let sum = is ∙ ap (λ (n : ℕ). weighted_sum (64 * k + 1) (take n (drop (64 * k) b))) long in
    let behind = ap (λ (n : ℕ). weighted_sum (n + 1) (drop n b)) next in
    omega (arith, weighted_sum-part 64 (64 * k) b le, sum, behind)

pub overflow_add-sum : goal.overflow_add-sum
overflow_add-sum c =
    let all = weighted_sum-le 1 c.args.b.now c.fits-b (omega arith) in
    let next = part c.loop-k.k c.weights_behind-sum.result c.args.b.now (omega arith) c.weights_behind-sum.ensures in
    omega (arith, all, next, c.loop-k.invariant)

pub loop-k-preserved : goal.loop-k-preserved
loop-k-preserved c =
    let next = part c.loop-k.k c.weights_behind-sum.result c.args.b.now (omega arith) c.weights_behind-sum.ensures in
    omega (arith, next, c.loop-k.invariant)
