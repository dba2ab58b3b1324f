use Rattle.std.proofs.Common.{[], ◌∷◌, arith}
use Rattle.version_table.specs.Met.{leaving_of}
use Rattle.version_table.proofs.OldestLaws.{full_take}
use Rattle.version_table.proofs.oldest.Oldest.add.Goals as goal

pub returns-else-len-lt2-clause-first : goal.returns-else-len-lt2-clause-first
returns-else-len-lt2-clause-first c = full_take 2 c.args.self.now.first.items (leaving_of c.args.found ∷ []) (omega (arith, c.len.ensures.value, c.len.ensures.fits, c.if-len-lt2.false))
