use Rattle.std.proofs.Common.{None, ap}
use Rattle.volume_contract.specs.State.{State, volume_of}
use Rattle.fsd_files.specs.Answers.{entry_after}
use Rattle.scrub.proofs.LookedLaws.{outside_only}
use Rattle.scrub.proofs.ToldLaws.{told_by}
use Rattle.volume_dump.proofs.span.weigh.Goals as goal

pub returns-in-Ok-clause-done : goal.returns-in-Ok-clause-done
returns-in-Ok-clause-done g c = λ h k stands.
    let call = c.weigh_all.ensures in
    call.done h k (c.in-Ok.ensures.reads.stands (call.reads.disk.trust.honest h) k stands)

pub returns-in-Err-clause-tells : goal.returns-in-Err-clause-tells
returns-in-Err-clause-tells g c = λ h.
    let V = g.V.Files in
    let now = g.M.Machine.now in
    let e = c.in-Err.ensures in
    told_by (V.state c.args.v.now) (V.state c.next_one.new.v) (V.resident c.args.v.now) (now c.args.m.now) (now c.next_one.new.m) (ap (λ (s : State). s.layout) e.reads.same) c.in-Err.why (e.tells.causes h)

pub returns-in-Err-clause-done : goal.returns-in-Err-clause-done
returns-in-Err-clause-done g c h k stands = outside_only (entry_after None (volume_of k).entries) c.in-Err.why (c.in-Err.ensures.done h k stands)
