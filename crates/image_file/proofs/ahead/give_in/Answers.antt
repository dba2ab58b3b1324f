use Rattle.std.proofs.Common.{◌/◌, ◌∙◌, ap, nat_eq}
use Rattle.std.specs.Map.{lookup}
use Rattle.image_file.proofs.Blocks.{out_promoted}
use Rattle.image_file.proofs.ahead.give_in.Goals as goal

pub returns-clause-others : goal.returns-clause-others
returns-clause-others c other h = ap (λ blocks. lookup (nat_eq other) blocks.entries) c.promote.ensures.entries ∙ out_promoted (c.args.sector / 64) other c.args.blocks.now.entries h
