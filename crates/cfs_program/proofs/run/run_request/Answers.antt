use Rattle.std.proofs.Common.{Some, ap}
use Rattle.fsd_texts.specs.declared.line.Line.{Line}
use Rattle.fsd_runs.specs.declared.request.Request.TheVariants.{BadField}
use Rattle.cfs_program.proofs.DrillLaws.{ran_drill}
use Rattle.cfs_program.proofs.ProgramLaws.{ran_format, ran_line}
use Rattle.cfs_program.proofs.run.run_request.Goals as goal

pub returns-in-NoCommand : goal.returns-in-NoCommand
returns-in-NoCommand g c = rw c.in-NoCommand.is (c.say_usage.ensures c.args.path.now)

pub returns-in-BadField : goal.returns-in-BadField
returns-in-BadField g c =
    let line = c.last_line in
    let e = line.ensures in
    rw c.in-BadField.is (ran_line g.M.Machine c.args.path.now c.args.m.now line.new.m c.field_line.result line.result e.says e.ledger e.status e.ends (BadField c.in-BadField.cause) (ap (λ (l : Line). Some l) c.field_line.ensures))

pub returns-in-Format : goal.returns-in-Format
returns-in-Format g c =
    let x = c.in-Format in
    rw x.is (ran_format g.M.Machine x.sectors x.third x.pages x.most x.kind c.args.path.now c.args.m.now c.run_format.new.m c.run_format.result c.run_format.ensures)

pub returns-in-One : goal.returns-in-One
returns-in-One g c = rw c.in-One.is c.run_command.ensures

pub returns-in-Put : goal.returns-in-Put
returns-in-Put g c = rw c.in-Put.is c.run_input.ensures

pub returns-in-Script : goal.returns-in-Script
returns-in-Script g c = rw c.in-Script.is c.run_commands.ensures

pub returns-in-Generate : goal.returns-in-Generate
returns-in-Generate g c = rw c.in-Generate.is c.run_made_up.ensures

pub returns-in-Dump : goal.returns-in-Dump
returns-in-Dump g c = rw c.in-Dump.is c.run_dump_of.ensures

pub returns-in-Restore : goal.returns-in-Restore
returns-in-Restore g c = rw c.in-Restore.is c.run_restore_of.ensures

pub returns-in-Drill : goal.returns-in-Drill
returns-in-Drill g c =
    rw c.in-Drill.is (ran_drill g.M.Machine c.args.path.now c.args.m.now c.run_drill.new.m c.run_drill.result c.run_drill.ensures)
