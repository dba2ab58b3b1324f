use Rattle.std.proofs.Common.{arith}
use Rattle.fsd_log.specs.Scan.{tape}
use Rattle.fsd_log.proofs.FreshLaws.{empty_log}
use Rattle.log_thirds.proofs.laws.new_epochs_are_empty.Goals as goal

pub returns : goal.returns
returns c l epoch third disk fits foreign = empty_log l epoch 1 fits (omega arith) (tape l third disk) foreign
