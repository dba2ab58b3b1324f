use Rattle.std.proofs.Common.{◌<◌, ap, arith}
use Rattle.sector_set.specs.SectorSet.{SectorsBelow}
use Rattle.sector_set.proofs.SetLaws.{bit_of}
use Rattle.sector_set.proofs.set.SectorSet.contains.Goals as goal

pub returns : goal.returns
returns c =
    let low : c.args.s < c.self.inside.end = omega (arith, ap (λ (v : SectorsBelow). v.end) c.self.view_is) in
    bit_of c.self.inside.end c.self.inside.words.items c.args.s c.args.self.now c.index.result.now c.self.view_is c.requires (omega arith) c.index.ensures
