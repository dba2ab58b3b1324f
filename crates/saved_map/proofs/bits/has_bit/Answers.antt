use Rattle.saved_map.proofs.BitLaws.{bit_is}
use Rattle.saved_map.proofs.bits.has_bit.Goals as goal

pub returns : goal.returns
returns c = bit_is c.args.b.now c.args.n
