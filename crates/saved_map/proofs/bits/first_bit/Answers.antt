use Rattle.std.proofs.Common.{inl, inr, arith}
use Rattle.std.proofs.lemmas.Bool.{cases_lt}
use Rattle.saved_map.proofs.bits.first_bit.Goals as goal

pub loop-n-init : goal.loop-n-init
loop-n-init c = record { from = omega arith; to = c.requires; before = λ s from to. absurd (omega (arith, from, to)) }

pub loop-n-preserved : goal.loop-n-preserved
loop-n-preserved c = record {
  from = omega (arith, c.loop-n.invariant.from);
  to = c.others_at-others.ensures.within;
  before = λ s from to. elim (cases_lt s c.loop-n.n) [
    | inl less ↦ c.loop-n.invariant.before s from less
    | inr more ↦ c.others_at-others.ensures.others s more to
  ];
}
