use Rattle.std.proofs.Common.{◌∙◌, arith}
use Rattle.run_table.specs.RunTable.{sectors_of}
use Rattle.sector_set.proofs.MeetLaws.{first_is_in, first_decides}
use Rattle.shadow_frees.proofs.readers.are_in.Goals as goal

pub contains-requires-clause-from : goal.contains-requires-clause-from
contains-requires-clause-from c = (c.requires.within _ (first_is_in c.args.runs.now c.loop-run.run-index _ c.loop-run-test.true c.loop-run.invariant (omega arith))).0

pub contains-requires-clause-to : goal.contains-requires-clause-to
contains-requires-clause-to c = (c.requires.within _ (first_is_in c.args.runs.now c.loop-run.run-index _ c.loop-run-test.true c.loop-run.invariant (omega arith))).1

pub returns-then-run-gt0 : goal.returns-then-run-gt0
returns-then-run-gt0 c =
    c.contains.ensures
    ∙ first_decides c.args.area.now.sectors (sectors_of c.args.runs.now) _ c.requires.together (first_is_in c.args.runs.now c.loop-run.run-index _ c.loop-run-test.true c.loop-run.invariant (omega arith))
