use Rattle.volume_layout.proofs.RegionLaws.{regions_apart}
use Rattle.volume_layout.proofs.laws.regions_are_apart.Goals as goal

pub returns : goal.returns
returns c = regions_apart
