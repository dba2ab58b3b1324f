use Rattle.std.proofs.Common.{rules}
use Rattle.volume_turns.proofs.dumping.dump_and_end.Goals as goal

pub returns-in-Err-Cut : goal.returns-in-Err-Cut
returns-in-Err-Cut g c = search rules
