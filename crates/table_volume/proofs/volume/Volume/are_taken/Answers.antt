use Rattle.volume_laws.proofs.TakenLaws.{taken_by}
use Rattle.table_volume.proofs.volume.Volume.are_taken.Goals as goal

pub returns : goal.returns
returns c = taken_by _ c.args.self.now c.self.view_is c.self.invariant c.args.runs.now c.are_taken.result c.are_taken.ensures
