use Rattle.std.proofs.Common.{refl}
use Rattle.fsd_texts.specs.declared.line.Line.TheVariants.{Usage}
use Rattle.fsd_runs.specs.declared.request.Request.TheVariants.{NoCommand}
use Rattle.cfs_program.proofs.ProgramLaws.{ran_line}
use Rattle.cfs_program.proofs.run.say_usage.Goals as goal

pub returns : goal.returns
returns g c path =
    let e = c.last_line.ensures in
    ran_line g.M.Machine path c.args.m.now c.last_line.new.m Usage c.last_line.result e.says e.ledger e.status e.ends NoCommand refl
