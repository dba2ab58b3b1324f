use Rattle.fsd_sound.proofs.TwiceLaws.{laid_twice, one_is, not_both}
use Rattle.fsd_sound.proofs.log_laws.laid_images_are_given.Goals as goal

pub returns-clause-twice : goal.returns-clause-twice
returns-clause-twice c = laid_twice

pub returns-clause-image : goal.returns-clause-image
returns-clause-image c = λ gap weak i j image bytes place copy apart w twice. one_is gap weak apart i j w image place copy twice bytes

pub returns-clause-never_lost : goal.returns-clause-never_lost
returns-clause-never_lost c = λ gap weak i j image place copy apart w twice. not_both gap weak apart i j w image place copy twice
