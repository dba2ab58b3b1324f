use Rattle.std.proofs.Common.{◌<◌, length, refl, arith}
use Rattle.name_btree.proofs.mending.PairLaws.{pair_is}
use Rattle.name_btree.proofs.trimming.pair_with.Goals as goal

pub returns-clause-pair : goal.returns-clause-pair
returns-clause-pair c =
    let ways = c.args.ways.now in
    let within : c.saturating_sub-place.result < length ways.1 = omega arith in
    pair_is c.args.above.now ways.0 ways.1 c.saturating_sub-place.result c.child_at.result.page c.child_at-2.result.page c.child_at.result c.child_at-2.result within c.child_at.ensures c.child_at-2.ensures refl refl
