use Rattle.std.proofs.Common.{rules}
use Rattle.image_file.proofs.disk.Disk.hand_over.Goals as goal

pub returns-else-is_err-clause-given : goal.returns-else-is_err-clause-given
returns-else-is_err-clause-given c = search rules
