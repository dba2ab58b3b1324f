use Rattle.std.proofs.Common.{sym, subst, ◌∙◌}
use Rattle.std.proofs.lemmas.Bool.{both_ways}
use Rattle.sector_set.specs.Area.{AreIn}
use Rattle.sector_set.proofs.AreaLaws.{those_in, in_those}
use Rattle.sector_set.proofs.area.SectorArea.are_in.Goals as goal

pub returns-then-all_are : goal.returns-then-all_are
returns-then-all_are c =
    let same = c.as_slice-runs.ensures.value in (
      λ t. subst (AreIn c.args.self.now) same (those_in c.self.inside.from c.self.inside.set c.args.self.now c.as_slice-runs.result.now c.self.view_is (c.all_are.ensures.0 c.if-all_are.true) (sym c.differ.ensures ∙ t)),
      λ are. c.differ.ensures ∙ (subst (AreIn c.args.self.now) (sym same) are).differ,
    )

pub returns-else-all_are : goal.returns-else-all_are
returns-else-all_are c = (
  λ t. absurd (both_ways c.all_are.result c.if-all_are.false t),
  λ are. c.all_are.ensures.1 (in_those c.self.inside.from c.self.inside.set c.args.self.now c.as_slice-runs.result.now c.self.view_is (subst (AreIn c.args.self.now) (sym c.as_slice-runs.ensures.value) are)),
)
