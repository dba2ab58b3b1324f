use Rattle.sector_set.proofs.BitLaws.{mask_is}
use Rattle.sector_set.proofs.bits.mask.Goals as goal

pub returns : goal.returns
returns c i h = mask_is c.args.lo c.args.hi i c.requires.some.0 c.requires.within h
