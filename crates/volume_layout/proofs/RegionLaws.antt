-- The regions of a layout stand behind each other.
use Rattle.std.proofs.Common.{arith}
use Rattle.volume_layout.specs.declared.layout.Layout.{Layout}
use Rattle.volume_layout.specs.Layout.{HasRegionsApart, IsPlanned}
use Rattle.volume_layout.proofs.RootLaws.{planned_bounds}

pub regions_apart : (l : Layout) → IsPlanned l → HasRegionsApart l
regions_apart l e =
    let bounds = planned_bounds l e in
    let least = bounds.sectors_least in
    record {
      head = omega arith;
      log = omega arith;
      homes = omega arith;
      copies = omega arith;
      map = omega arith;
      data_area = omega (arith, least);
    }
