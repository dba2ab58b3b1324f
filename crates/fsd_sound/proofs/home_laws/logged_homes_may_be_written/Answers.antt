use Rattle.std.proofs.Common.{refl}
use Rattle.fsd_sound.specs.Sound.{weak_of}
use Rattle.fsd_sound.proofs.MendLaws.{logged_shows}
use Rattle.fsd_sound.proofs.home_laws.logged_homes_may_be_written.Goals as goal

pub returns : goal.returns
returns c = λ l windows choices page s bytes i narrow lt room at logged shows. logged_shows l (weak_of windows) choices page s bytes lt at windows refl narrow i room logged shows
