use Rattle.volume_turns.proofs.SayLaws.{timed_by}
use Rattle.cfs_program.proofs.AttachLaws.{EndsUnfound}
use Rattle.cfs_program.proofs.ProgramLaws.{ran_unfound}
use Rattle.cfs_program.proofs.opening.attached.Goals as goal

pub returns-in-Ok-clause-found : goal.returns-in-Ok-clause-found
returns-in-Ok-clause-found g c =
    let e = c.in-Ok.ensures in
    record { cause = e.cause; trust = e.trust; asked = e.asked; found = e.attached; synced = e.synced; size = e.size; time = e.time }

pub returns-in-Err-clause-ran : goal.returns-in-Err-clause-ran
returns-in-Err-clause-ran g c request =
    let M = g.M.Machine in
    let timed = timed_by M g.met.M.Machine.dated g.met.M.Machine.history g.met.M.Machine.counts_now g.met.M.Machine.only_now in
    let a = c.args.m.now in
    let e = c.in-Err.ensures in
    let line = c.last_line.ensures in
    let x : EndsUnfound M c.args.path.now c.in-Err.failed a c.attach.new.self c.last_line.new.m c.last_line.result =
    record { cause = e.cause; trust = e.trust; asked = e.asked_err; worn = e.failed; time = e.time; says = line.says; ledger = line.ledger; ends = line.ends; for = line.status } in
    ran_unfound x (g.met.M.Machine.short a) timed request
