use Rattle.sector_set.proofs.AreaLaws.{all_left, own_area}
use Rattle.sector_set.proofs.area.SectorArea.from.Goals as goal

pub returns-clause-all : goal.returns-clause-all
returns-clause-all c = all_left c.self.inside.from c.self.inside.set c.args.self.now c.self.view_is

pub returns-clause-own : goal.returns-clause-own
returns-clause-own c = own_area c.self.inside.from c.self.inside.set c.args.self.now c.self.view_is
