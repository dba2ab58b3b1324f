use Rattle.client_desk.proofs.DeskLaws.{desk_fresh}
use Rattle.client_desk.proofs.desk.Desk.new.Goals as goal

pub returns-clause-desk : goal.returns-clause-desk
returns-clause-desk g s unfinished readers = desk_fresh s unfinished readers
