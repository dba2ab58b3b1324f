use Rattle.std.proofs.Common.{rules}
use Rattle.table_volume.proofs.volume.Volume.draw.Goals as goal

pub returns : goal.returns
returns c = search rules
