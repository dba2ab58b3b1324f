use Rattle.fsd_sound.proofs.BesideLaws.{said_form, said_shows, said_sound}
use Rattle.fsd_sound.proofs.laws.disks_are_sound_by_each_root.Goals as goal

pub returns-clause-form : goal.returns-clause-form
returns-clause-form c = λ l i layout said. said_form l i layout said

pub returns-clause-sound : goal.returns-clause-sound
returns-clause-sound c = λ l windows h f i layout said sound. said_sound l windows h f i layout said sound

pub returns-clause-pages : goal.returns-clause-pages
returns-clause-pages c = λ l windows choices i layout said lie shows. said_shows l windows choices i layout said lie shows
