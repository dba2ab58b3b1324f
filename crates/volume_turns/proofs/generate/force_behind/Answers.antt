use Rattle.volume_turns.proofs.SpeaksLaws.{forced_done, forced_ended, speaks_done, speaks_ended}
use Rattle.volume_turns.proofs.generate.force_behind.Goals as goal

pub returns-in-Ok-clause-speaks : goal.returns-in-Ok-clause-speaks
returns-in-Ok-clause-speaks g c = speaks_done _ c.args.tally c.in-Ok.ensures.speaks

pub returns-in-Err-clause-speaks : goal.returns-in-Err-clause-speaks
returns-in-Err-clause-speaks g c = speaks_ended c.in-Err.end c.in-Err.ensures.speaks

-- ---- the force is said

pub returns-in-Ok-clause-forces : goal.returns-in-Ok-clause-forces
returns-in-Ok-clause-forces g c = forced_done _ c.args.tally c.in-Ok.ensures.forces

pub returns-in-Err-clause-forces : goal.returns-in-Err-clause-forces
returns-in-Err-clause-forces g c = forced_ended c.in-Err.end c.in-Err.ensures.forces

pub returns-in-Ok-clause-wants : goal.returns-in-Ok-clause-wants
returns-in-Ok-clause-wants g c up = tt

pub returns-in-Err-clause-wants : goal.returns-in-Err-clause-wants
returns-in-Err-clause-wants g c = c.in-Err.ensures.wants
