use Rattle.fsd_sound.proofs.ChoiceLaws.{shows_choices}
use Rattle.fsd_sound.proofs.laws.sound_disks_show_pages.Goals as goal

pub returns : goal.returns
returns c = shows_choices
