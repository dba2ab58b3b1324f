use Rattle.fsd_forest.proofs.WayLaws.{children_beside, children_between, children_parted, children_end, children_begin, children_around, child_at, key_inside}
use Rattle.fsd_forest.proofs.laws.ways_lead.Goals as goal

pub returns : goal.returns
returns c = record {
  divides = record { beside = children_beside; between = children_between; parted = children_parted };
  end = children_end;
  begin = children_begin;
  around = children_around;
  at = child_at;
  inside = key_inside;
}
