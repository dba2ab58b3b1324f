use Rattle.fsd_sound.proofs.MendLaws.{rooted_shows}
use Rattle.fsd_sound.proofs.home_laws.roots_may_be_mended.Goals as goal

pub returns : goal.returns
returns c = λ l windows choices s i narrow at room shows. rooted_shows l windows narrow choices s i at room shows
