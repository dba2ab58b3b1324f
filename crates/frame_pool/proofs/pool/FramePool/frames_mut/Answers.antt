use Rattle.std.proofs.Common.{refl, sym, ap, ◌∙◌}
use Rattle.std.specs.List.{refill}
use Rattle.frame_pool.specs.FramePool.{frames_of}
use Rattle.frame_pool.specs.Places.{somes}
use Rattle.frame_pool.proofs.Pools.{all_filled, frames_written}
use Rattle.frame_pool.proofs.Slots.{somes-map}
use Rattle.frame_pool.proofs.pool.FramePool.frames_mut.Goals as goal

pub slice_mut-requires : goal.slice_mut-requires
slice_mut-requires c = (sym c.self.invariant.at, all_filled c.self.inside c.self.invariant)

pub invariant_of-self-lent : goal.invariant_of-self-lent
invariant_of-self-lent c = λ w. (frames_written c.self.inside c.self.invariant w).0

pub returns : goal.returns
returns c = rw (← c.self.view_is) (
  (refl, λ w. (frames_written c.self.inside c.self.invariant w).1 ∙ ap (λ n. refill n (frames_of c.self.inside) w) c.self.invariant.counted),
  record { writes_back = tt; value = sym (ap somes c.slice_mut.ensures.value ∙ somes-map c.slice_mut.result.now) },
)
