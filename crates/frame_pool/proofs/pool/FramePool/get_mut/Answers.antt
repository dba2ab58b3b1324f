use Rattle.std.proofs.Common.{◌<◌, length, refl, sym, ◌∙◌, subst}
use Rattle.frame_pool.proofs.Pools.{frame_at, frame_below, frame_written}
use Rattle.frame_pool.proofs.pool.FramePool.get_mut.Goals as goal

pub get_mut-requires : goal.get_mut-requires
get_mut-requires c =
    (sym c.self.invariant.at, frame_below c.self.inside c.self.invariant c.args.i (subst (λ xs. c.args.i < length xs) (sym c.self.view_is) c.requires))

pub invariant_of-self-lent : goal.invariant_of-self-lent
invariant_of-self-lent c = λ w. (frame_written c.self.inside c.self.invariant c.args.i w).0

pub returns : goal.returns
returns c = rw (← c.self.view_is) (
  (refl, λ w. (frame_written c.self.inside c.self.invariant c.args.i w).1),
  record { writes_back = tt; value = sym (frame_at c.self.inside c.self.invariant c.args.i) ∙ c.get_mut.ensures.value },
)
