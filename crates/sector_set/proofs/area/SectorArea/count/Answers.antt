use Rattle.sector_set.proofs.AreaLaws.{own_area}
use Rattle.sector_set.proofs.area.SectorArea.count.Goals as goal

pub returns-clause-own : goal.returns-clause-own
returns-clause-own c = own_area c.self.inside.from c.self.inside.set c.args.self.now c.self.view_is
