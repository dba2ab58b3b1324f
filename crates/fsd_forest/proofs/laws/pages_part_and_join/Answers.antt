use Rattle.fsd_forest.proofs.PartLaws.{leaves_part, leaves_join, interiors_part, interiors_join, children_part}
use Rattle.fsd_forest.proofs.laws.pages_part_and_join.Goals as goal

pub returns : goal.returns
returns c = record {
  leaves_part = leaves_part;
  leaves_join = leaves_join;
  interiors_part = interiors_part;
  interiors_join = interiors_join;
  children = children_part;
}
