use Rattle.std.proofs.Common.{Option, sym, subst}
use Rattle.fsd_bytes.specs.declared.key.Key.{Key}
use Rattle.fsd_files.specs.Answers.{next_reply}
use Rattle.volume_contract.specs.Ends.{LooksUp}
use Rattle.volume_contract.specs.State.{volume_of}
use Rattle.volume_contract.specs.Telling.{TellsNext}
use Rattle.scrub.proofs.walk.next_one.Goals as goal

pub returns-in-Some-clause-order : goal.returns-in-Some-clause-order
returns-in-Some-clause-order g c = c.next_after.ensures.order.follows

pub returns-in-Some-clause-reads : goal.returns-in-Some-clause-reads
returns-in-Some-clause-reads g c = let e = c.next_after.ensures in record { disk = e.disk; same = e.state; stands = e.stands }

pub returns-in-Some-clause-tells : goal.returns-in-Some-clause-tells
returns-in-Some-clause-tells g c =
    let V = g.V.Files in
    subst (λ (o : Option Key). TellsNext g.M.Machine (V.resident c.args.v.now) (V.state c.args.v.now) (V.state c.next_after.new.self) c.args.m.now c.next_after.new.m o c.next_after.result) (sym c.in-Some.is) c.next_after.ensures.tells

pub returns-in-Some-clause-done : goal.returns-in-Some-clause-done
returns-in-Some-clause-done g c h k stands = subst (λ (o : Option Key). LooksUp (next_reply (volume_of k) o) c.next_after.result) (sym c.in-Some.is) (c.next_after.ensures.done h k stands)

pub returns-in-None-clause-order : goal.returns-in-None-clause-order
returns-in-None-clause-order g c = c.next_after-in-None.ensures.order.follows

pub returns-in-None-clause-reads : goal.returns-in-None-clause-reads
returns-in-None-clause-reads g c = let e = c.next_after-in-None.ensures in record { disk = e.disk; same = e.state; stands = e.stands }

pub returns-in-None-clause-tells : goal.returns-in-None-clause-tells
returns-in-None-clause-tells g c =
    let V = g.V.Files in
    subst (λ (o : Option Key). TellsNext g.M.Machine (V.resident c.args.v.now) (V.state c.args.v.now) (V.state c.next_after-in-None.new.self) c.args.m.now c.next_after-in-None.new.m o c.next_after-in-None.result) (sym c.in-None.is) c.next_after-in-None.ensures.tells

pub returns-in-None-clause-done : goal.returns-in-None-clause-done
returns-in-None-clause-done g c h k stands = subst (λ (o : Option Key). LooksUp (next_reply (volume_of k) o) c.next_after-in-None.result) (sym c.in-None.is) (c.next_after-in-None.ensures.done h k stands)
