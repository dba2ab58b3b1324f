use Rattle.fsd_sound.proofs.MendLaws.{mended_shows}
use Rattle.fsd_sound.proofs.home_laws.homes_may_be_mended.Goals as goal

pub returns : goal.returns
returns c = λ l windows choices page s t bytes i narrow lt room room_t at whole shows. mended_shows l windows narrow choices page s t lt at i bytes whole room room_t shows
