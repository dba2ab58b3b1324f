use Rattle.sector_set.proofs.AreaLaws.{empty_area, empty_counts}
use Rattle.sector_set.proofs.area.SectorArea.new.Goals as goal

pub invariant_of-result : goal.invariant_of-result
invariant_of-result c = empty_counts c.args.from c.args.to c.in_ok-set.set c.in_ok-set.ensures c.requires c.ranges.to.fits

pub returns : goal.returns
returns c = empty_area c.args.from c.args.to c.in_ok-set.set c.in_ok-set.ensures
