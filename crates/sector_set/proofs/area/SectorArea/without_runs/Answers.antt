use Rattle.sector_set.proofs.AreaLaws.{whole_but}
use Rattle.sector_set.proofs.area.SectorArea.without_runs.Goals as goal

pub returns : goal.returns
returns c = whole_but c.args.from c.args.to c.in_ok-set.set c.insert.new.self c.remove_all.new.set c.args.runs.now c.in_ok-set.ensures c.insert.ensures c.remove_all.ensures.end c.remove_all.ensures.sectors
