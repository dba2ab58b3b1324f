use Rattle.sector_set.proofs.BitLaws.{has_not}
use Rattle.sector_set.proofs.bits.facing.Goals as goal

pub returns-else-wanted : goal.returns-else-wanted
returns-else-wanted c i h = rw c.if-wanted.false (has_not c.args.word i c.ranges.word.fits h)
