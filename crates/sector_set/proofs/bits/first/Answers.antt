use Rattle.std.proofs.Common.{◌+◌, arith, rules}
use Rattle.sector_set.proofs.BitLaws.{shows_first, shows_next, none_in_zero, below_word, lowest}
use Rattle.sector_set.proofs.bits.first.Goals as goal

pub loop-word-init : goal.loop-word-init
loop-word-init c = record {
  inside = omega arith;
  near = omega arith;
  fits = search rules;
  shows = shows_first c.args.words.now c.args.at c.args.wanted c.facing.result c.facing.ensures;
  before = λ s from to. absurd (omega arith);
}

pub returns-then-w-words-clause-before : goal.returns-then-w-words-clause-before
returns-then-w-words-clause-before c = none_in_zero c.args.words.now c.args.at c.args.wanted c.loop-word.w c.loop-word.word c.loop-word.invariant.shows c.loop-word-test.true c.loop-word.invariant.before

pub loop-word-preserved : goal.loop-word-preserved
loop-word-preserved c = record {
  inside = omega arith;
  near = omega (arith, c.loop-word.invariant.near);
  fits = search rules;
  shows = shows_next c.args.words.now c.args.at c.args.wanted (c.loop-word.w + 1) c.facing-word.result (omega (arith, c.loop-word.invariant.near)) c.facing-word.ensures;
  before = none_in_zero c.args.words.now c.args.at c.args.wanted c.loop-word.w c.loop-word.word c.loop-word.invariant.shows c.loop-word-test.true c.loop-word.invariant.before;
}

pub returns-clause-bounds : goal.returns-clause-bounds
returns-clause-bounds c =
    let low = lowest c.args.words.now c.args.at c.args.wanted c.loop-word.w c.loop-word.word c.loop-word.invariant.shows c.loop-word-test.false c.loop-word.invariant.fits in
    (low.1, omega (arith, low.0, c.loop-word.invariant.inside))

pub returns-clause-before : goal.returns-clause-before
returns-clause-before c = below_word c.args.words.now c.args.at c.args.wanted c.loop-word.w c.loop-word.word c.loop-word.invariant.shows c.loop-word-test.false c.loop-word.invariant.fits c.loop-word.invariant.before

pub returns-clause-found : goal.returns-clause-found
returns-clause-found c less =
    (lowest c.args.words.now c.args.at c.args.wanted c.loop-word.w c.loop-word.word c.loop-word.invariant.shows c.loop-word-test.false c.loop-word.invariant.fits).2
