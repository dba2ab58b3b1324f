use Rattle.std.proofs.Common.{rules}
use Rattle.client_desk.proofs.desk.Desk.end_at.Goals as goal

pub returns-clause-clients : goal.returns-clause-clients
returns-clause-clients g c = c.swap.ensures.clients

pub returns-clause-state : goal.returns-clause-state
returns-clause-state g c = search rules

pub returns-clause-done : goal.returns-clause-done
returns-clause-done g c = search rules
