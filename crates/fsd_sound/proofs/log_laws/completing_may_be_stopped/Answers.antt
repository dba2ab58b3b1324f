use Rattle.fsd_sound.proofs.CompletingLaws.{completing_shows}
use Rattle.fsd_sound.proofs.log_laws.completing_may_be_stopped.Goals as goal

pub returns : goal.returns
returns c = λ l windows choices i t copies stood now left small apart long ends worn shows taken of within holds. completing_shows l small windows apart choices i t copies stood now left long ends worn shows taken of within holds
