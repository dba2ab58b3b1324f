use Rattle.std.proofs.Common.{◌∙◌}
use Rattle.saved_map.proofs.BitLaws.{others_in_byte}
use Rattle.saved_map.proofs.bits.others_at.Goals as goal

pub returns-then-b-n-clause-others : goal.returns-then-b-n-clause-others
returns-then-b-n-clause-others c = others_in_byte c.args.b.now c.args.n c.args.wanted c.if-n-eq0.true (c.if-b-n.true ∙ c.byte_of_others.ensures)
