use Rattle.volume_turns.proofs.SayLaws.{timed_by}
use Rattle.cfs_program.proofs.ProgramLaws.{ran_memory}
use Rattle.cfs_program.proofs.run.run_out_of_memory.Goals as goal

pub returns : goal.returns
returns g c request path =
    let M = g.M.Machine in
    let timed = timed_by M g.met.M.Machine.dated g.met.M.Machine.history g.met.M.Machine.counts_now g.met.M.Machine.only_now in
    let a = c.args.m.now in
    ran_memory M request path a c.last_line.new.m c.last_line.result c.last_line.ensures.says c.last_line.ensures.ledger c.last_line.ensures.status c.last_line.ensures.ends
    (g.met.M.Machine.short a) timed
