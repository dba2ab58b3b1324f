use Rattle.std.proofs.Common.{rules}
use Rattle.client_desk.proofs.desk.Desk.idle_at.Goals as goal

pub returns-in_default-clause-is : goal.returns-in_default-clause-is
returns-in_default-clause-is c = search rules
