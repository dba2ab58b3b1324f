use Rattle.std.proofs.Common.{◌∙◌, ap, nat_eq}
use Rattle.std.specs.Map.{lookup}
use Rattle.image_file.proofs.Blocks.{out_itself, out_still}
use Rattle.image_file.proofs.ahead.drop_one.Goals as goal

pub returns-then-len-gt0-clause-out : goal.returns-then-len-gt0-clause-out
returns-then-len-gt0-clause-out c = ap (λ blocks. lookup (nat_eq c.args.block) blocks.entries) c.pop.ensures.entries ∙ out_itself c.args.block c.args.blocks.now.entries c.len.ensures.valid.0

pub returns-then-len-gt0-clause-others : goal.returns-then-len-gt0-clause-others
returns-then-len-gt0-clause-others c other h = ap (λ blocks. lookup (nat_eq other) blocks.entries) c.pop.ensures.entries ∙ out_still c.args.block other c.args.blocks.now.entries c.len.ensures.valid.0 h
