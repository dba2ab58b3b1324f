use Rattle.std.proofs.Common.{[], ◌∷◌}
use Rattle.fsd_sound.proofs.SoundLaws.{sound_still}
use Rattle.fsd_sound.proofs.WindowLaws.{borne_narrow}
use Rattle.fsd_sound.proofs.FormatSoundLaws.{format_is_sound}
use Rattle.fsd_sound.proofs.laws.formatted_disks_are_sound.Goals as goal

pub returns-clause-written : goal.returns-clause-written
returns-clause-written c = λ l windows i short f. format_is_sound l windows short i f

pub returns-clause-worn : goal.returns-clause-worn
returns-clause-worn c = λ l next i short f.
    let narrow = borne_narrow l (next ∷ []) short in
    sound_still l (next ∷ []) narrow [] 0 f.written i f.worn (format_is_sound l (next ∷ []) short f.written f.formatted)
