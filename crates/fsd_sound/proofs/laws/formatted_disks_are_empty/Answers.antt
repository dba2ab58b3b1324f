use Rattle.fsd_sound.proofs.FormatSoundLaws.{format_told}
use Rattle.fsd_sound.proofs.laws.formatted_disks_are_empty.Goals as goal

pub returns : goal.returns
returns c = λ l windows i j short w f. format_told l windows short i j w f
