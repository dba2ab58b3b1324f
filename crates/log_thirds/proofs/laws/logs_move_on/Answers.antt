use Rattle.fsd_log.specs.Scan.{tape}
use Rattle.fsd_log.proofs.ShiftLaws.{moves_on, tape_shifts, tape_around}
use Rattle.log_thirds.proofs.laws.logs_move_on.Goals as goal

pub returns : goal.returns
returns c l epoch first third next disk records h fits some is_next log small entered =
    moves_on l epoch first fits some (tape l third disk) (tape l next disk) (tape_shifts l third next disk is_next) (tape_around l third next disk is_next) records h log small entered
