use Rattle.std.proofs.Common.{ℕ, List, ◌∙◌, subst}
use Rattle.std.specs.Prelude.{Result, Ok, Err}
use Rattle.volume_turns.specs.declared.turns.Halt.{Halt}
use Rattle.volume_turns.specs.Once.{ClosesAndSays}
use Rattle.volume_turns.proofs.OnceLaws.{close_unbegun}
use Rattle.volume_turns.proofs.SayLaws.{timed_by}
use Rattle.volume_turns.proofs.SpeaksLaws.{speaks_done, speaks_ended, speaks_none}
use Rattle.volume_turns.proofs.once.close_as.Goals as goal

pub returns-in_default-clause-closes : goal.returns-in_default-clause-closes
returns-in_default-clause-closes g c h k f stands on =
    let V = g.V.Files in
    let M = g.M.Machine in
    let timed = timed_by M g.met.M.Machine.dated g.met.M.Machine.history g.met.M.Machine.counts_now g.met.M.Machine.only_now in
    close_unbegun V.state V.holds M c.args.v c.args.m.now k f (timed c.args.m.now h) stands on (g.T.Says.errand.says c.args.answer.now)

pub returns-in_default-clause-speaks : goal.returns-in_default-clause-speaks
returns-in_default-clause-speaks g c = speaks_none c.args.m.now

-- ---- its text is said

pub returns-in-Ok-close_and_say-clause-speaks : goal.returns-in-Ok-close_and_say-clause-speaks
returns-in-Ok-close_and_say-clause-speaks g c = speaks_done _ c.status_of.result c.in-Ok-close_and_say.ensures.speaks

pub returns-clause-speaks : goal.returns-clause-speaks
returns-clause-speaks g c = speaks_ended c.in-Err.end c.in-Err.ensures.speaks

pub returns-in-Ok-close_and_say-clause-closes : goal.returns-in-Ok-close_and_say-clause-closes
returns-in-Ok-close_and_say-clause-closes g c h k f stands on =
    let r : Result (Unit {0}) Halt = Ok tt in
    subst (λ (x : List ℕ). ClosesAndSays g.M.Machine k f x c.args.m.now c.close_and_say.new.m r) (c.as_slice.ensures.value ∙ c.in-Ok.ensures) (c.in-Ok-close_and_say.ensures.closes h k f stands on)

pub returns-clause-closes : goal.returns-clause-closes
returns-clause-closes g c h k f stands on =
    let r : Result (Unit {0}) Halt = Err c.in-Err.end in
    subst (λ (x : List ℕ). ClosesAndSays g.M.Machine k f x c.args.m.now c.close_and_say.new.m r) (c.as_slice.ensures.value ∙ c.in-Ok.ensures) (c.in-Err.ensures.closes h k f stands on)

-- ---- what is written

pub returns-in_default-clause-written : goal.returns-in_default-clause-written
returns-in_default-clause-written g c clean = tt

pub returns-in-Ok-close_and_say-clause-written : goal.returns-in-Ok-close_and_say-clause-written
returns-in-Ok-close_and_say-clause-written g c clean = c.in-Ok-close_and_say.ensures.written clean

pub returns-clause-written : goal.returns-clause-written
returns-clause-written g c clean = tt

-- ---- what stands

pub returns-in_default-clause-closed : goal.returns-in_default-clause-closed
returns-in_default-clause-closed g c h = tt

pub returns-in-Ok-close_and_say-clause-closed : goal.returns-in-Ok-close_and_say-clause-closed
returns-in-Ok-close_and_say-clause-closed g c h = c.in-Ok-close_and_say.ensures.closed h

pub returns-clause-closed : goal.returns-clause-closed
returns-clause-closed g c h = tt
