use Rattle.fsd_sound.proofs.CompletedLaws.{completed_one}
use Rattle.fsd_sound.proofs.log_laws.copies_may_be_laid.Goals as goal

pub returns : goal.returns
returns c = λ l windows choices i t front r k small apart long shows taken joined le. completed_one l small windows apart choices i shows t taken front r joined long k le
