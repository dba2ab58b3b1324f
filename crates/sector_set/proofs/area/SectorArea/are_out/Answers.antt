use Rattle.std.proofs.Common.{sym, subst, ◌∙◌}
use Rattle.std.proofs.lemmas.Bool.{both_ways}
use Rattle.sector_set.specs.Area.{AreOut}
use Rattle.sector_set.proofs.AreaLaws.{those_out, out_those}
use Rattle.sector_set.proofs.area.SectorArea.are_out.Goals as goal

pub returns-then-all_are : goal.returns-then-all_are
returns-then-all_are c =
    let same = c.as_slice-runs.ensures.value in (
      λ t. subst (AreOut c.args.self.now) same (those_out c.self.inside.from c.self.inside.set c.args.self.now c.as_slice-runs.result.now c.self.view_is (c.all_are.ensures.0 c.if-all_are.true) (sym c.differ.ensures ∙ t)),
      λ are. c.differ.ensures ∙ (subst (AreOut c.args.self.now) (sym same) are).differ,
    )

pub returns-else-all_are : goal.returns-else-all_are
returns-else-all_are c = (
  λ t. absurd (both_ways c.all_are.result c.if-all_are.false t),
  λ are. c.all_are.ensures.1 (out_those c.self.inside.from c.self.inside.set c.args.self.now c.as_slice-runs.result.now c.self.view_is (subst (AreOut c.args.self.now) (sym c.as_slice-runs.ensures.value) are)),
)
