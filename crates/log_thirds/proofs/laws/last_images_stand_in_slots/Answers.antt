use Rattle.std.proofs.Common.{ap}
use Rattle.fsd_log.specs.Scan.{Walked}
use Rattle.log_thirds.proofs.ImageLaws.{image_there, image_nowhere}
use Rattle.log_thirds.proofs.laws.last_images_stand_in_slots.Goals as goal

pub returns-clause-some : goal.returns-clause-some
returns-clause-some c log records at page slot one_of are within is_log is = image_there log records at page one_of are within slot (ap (λ (w : Walked). w.records) is_log.scanned) is

pub returns-clause-none : goal.returns-clause-none
returns-clause-none c log records page are within is = image_nowhere log records page are within is
