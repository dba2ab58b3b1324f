use Rattle.volume_dump.proofs.SaidLaws.{says_cut, says_whole}
use Rattle.volume_dump.proofs.saying.say_part.Goals as goal

pub returns-in-Ok-clause-disk : goal.returns-in-Ok-clause-disk
returns-in-Ok-clause-disk g c =
    let said = c.in-Ok.ensures in
    says_whole g.M.Machine c.args.m.now c.say.new.self c.args.bytes.now (λ at h left. g.met.M.Machine.only_now c.args.m.now at h left) said.trust said.ledger said.cut said.time c.in-Ok.field-0 said.cause said.said

pub returns-in-Err-clause-disk : goal.returns-in-Err-clause-disk
returns-in-Err-clause-disk g c =
    let said = c.in-Err.ensures in
    says_cut g.M.Machine c.args.m.now c.say.new.self c.args.bytes.now (λ at h left. g.met.M.Machine.only_now c.args.m.now at h left) said.trust said.ledger said.cut said.time c.in-Err.field-0 said.cause
