use Rattle.volume_turns.proofs.SayLaws.{spares_said, spares_unsaid}
use Rattle.cfs_program.proofs.DrillLaws.{speaks_all, speaks_part}
use Rattle.cfs_program.proofs.drilling.say.Goals as goal

pub returns-in-Ok : goal.returns-in-Ok
returns-in-Ok g c =
    let M = g.M.Machine in
    let a = c.args.m.now in
    let b = c.say.new.self in
    let say = c.say.ensures in
    speaks_all M c.args.bytes.now a b (spares_said (M.report a) (M.report b) c.in-Ok.field-0 c.in-Ok.ensures.cause) say.trust say.ledger c.in-Ok.ensures.said

pub returns-in-Err : goal.returns-in-Err
returns-in-Err g c =
    let M = g.M.Machine in
    let a = c.args.m.now in
    let b = c.say.new.self in
    let say = c.say.ensures in
    speaks_part M c.args.bytes.now a b (spares_unsaid (M.report a) (M.report b) c.in-Err.failed c.in-Err.ensures.cause) say.trust say.ledger say.cut
