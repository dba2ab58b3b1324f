use Rattle.std.proofs.Common.{sym, ◌∙◌, arith}
use Rattle.sector_set.proofs.AreaLaws.{is_in_area}
use Rattle.sector_set.proofs.area.SectorArea.first.Goals as goal

pub returns : goal.returns
returns c = record {
  from = c.first.ensures.from;
  to = c.first.ensures.to;
  before = λ t from lt.
      sym (is_in_area c.self.inside.from t c.self.inside.set c.args.self.now c.self.view_is (omega (arith, from, c.requires.from)) (omega (arith, lt, c.first.ensures.to, c.requires.to)))
      ∙ c.first.ensures.before t from lt;
  found = λ lt.
      sym (is_in_area c.self.inside.from c.first.result c.self.inside.set c.args.self.now c.self.view_is (omega (arith, c.first.ensures.from, c.requires.from)) (omega (arith, lt, c.requires.to)))
      ∙ c.first.ensures.found lt;
}
