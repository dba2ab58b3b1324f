use Rattle.scrub.proofs.LookLaws.{damaged_more}
use Rattle.volume_dump.proofs.survey.survey_one.Goals as goal

pub returns-in-Ok-clause-damaged : goal.returns-in-Ok-clause-damaged
returns-in-Ok-clause-damaged g c h before =
    let now = g.M.Machine.now in
    let call = c.in-Ok.ensures in
    damaged_more (g.V.Files.state c.args.v.now) c.args.e.now c.requires.met _ (now c.args.m.now).image (now c.look_through.new.m).image (call.reads.disk.worn h).image c.args.found.now.items c.look_through.new.found.items _ before (call.adds h)

pub returns-in-Err-clause-damaged : goal.returns-in-Err-clause-damaged
returns-in-Err-clause-damaged g c h before =
    let now = g.M.Machine.now in
    let call = c.in-Err.ensures in
    damaged_more (g.V.Files.state c.args.v.now) c.args.e.now c.requires.met _ (now c.args.m.now).image (now c.look_through.new.m).image (call.reads.disk.worn h).image c.args.found.now.items c.look_through.new.found.items _ before (call.adds h)
