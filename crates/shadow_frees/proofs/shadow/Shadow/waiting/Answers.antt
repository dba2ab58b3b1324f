use Rattle.std.proofs.Common.{length, ap, arith}
use Rattle.shadow_frees.specs.Waits.{Waits, waiting_sectors}
use Rattle.shadow_frees.proofs.WaitLaws.{few}
use Rattle.shadow_frees.proofs.SoundLaws.{few_waiting, all_waiting}
use Rattle.shadow_frees.proofs.shadow.Shadow.waiting.Goals as goal

pub overflow_add-earlier : goal.overflow_add-earlier
overflow_add-earlier c =
    omega (arith, few c.self.inside.removed c.self.inside.kept c.count-removed.ensures.own c.count.ensures.own c.self.invariant.removed_kept, c.count-removed.ensures.value, c.count.ensures.value, c.count-removed.ensures.fits)

pub overflow_add-result : goal.overflow_add-result
overflow_add-result c =
    omega (
      arith,
      few_waiting c.self.inside.removed c.self.inside.kept c.self.inside.unfinished c.self.inside.held c.count-removed.ensures.own c.count.ensures.own c.count-2.ensures.own c.self.invariant,
      c.count-removed.ensures.value,
      c.count.ensures.value,
      c.count-2.ensures.value,
      c.count-removed.ensures.fits,
    )

pub returns-clause-all : goal.returns-clause-all
returns-clause-all c =
    omega (
      arith,
      all_waiting c.self.inside.removed c.self.inside.kept c.self.inside.unfinished c.self.inside.held c.count-removed.ensures.own c.count.ensures.own c.count-2.ensures.own c.self.invariant,
      c.count-removed.ensures.value,
      c.count.ensures.value,
      c.count-2.ensures.value,
      ap (λ (w : Waits). length (waiting_sectors w)) c.self.view_is,
    )
