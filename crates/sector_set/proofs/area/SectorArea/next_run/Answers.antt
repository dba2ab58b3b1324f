use Rattle.sector_set.proofs.AreaLaws.{first_left}
use Rattle.sector_set.proofs.area.SectorArea.next_run.Goals as goal

pub returns-clause-first : goal.returns-clause-first
returns-clause-first c = first_left c.self.inside.from c.self.inside.set c.args.self.now c.args.at c.next_run.result c.self.view_is c.requires.from c.next_run.ensures.within c.next_run.ensures.first
