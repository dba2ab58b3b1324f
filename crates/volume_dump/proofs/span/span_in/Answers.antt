use Rattle.std.proofs.Common.{◌∙◌, ap, sym}
use Rattle.fsd_runs.specs.Dumps.{span_over}
use Rattle.volume_contract.specs.State.{volume_of}
use Rattle.volume_dump.proofs.WeighLaws.{unweighed_ends}
use Rattle.volume_dump.proofs.span.span_in.Goals as goal

pub returns-in-Ok-span_over-clause-done : goal.returns-in-Ok-span_over-clause-done
returns-in-Ok-span_over-clause-done g c = λ h k stands.
    ap (span_over c.args.since c.args.most) (sym (c.deref_mut.ensures.value ∙ c.in-Ok.ensures.done h k stands)) ∙ sym c.in-Ok-span_over.ensures.is

pub returns-in-Ok-clause-done : goal.returns-in-Ok-clause-done
returns-in-Ok-clause-done g c = λ h k stands.
    ap (span_over c.args.since c.args.most) (sym (c.deref_mut.ensures.value ∙ c.in-Ok.ensures.done h k stands)) ∙ sym c.in-Err-span_over.ensures.is

pub returns-clause-done : goal.returns-clause-done
returns-clause-done g c h k stands = unweighed_ends c.args.since c.args.most (volume_of k).entries c.in-Err.why (c.in-Err.ensures.done h k stands)
