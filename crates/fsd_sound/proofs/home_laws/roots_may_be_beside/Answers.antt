use Rattle.fsd_sound.proofs.MendLaws.{beside_root_shows, rebased, rebased_other}
use Rattle.fsd_sound.proofs.home_laws.roots_may_be_beside.Goals as goal

pub returns-clause-shows : goal.returns-clause-shows
returns-clause-shows c = λ l k windows choices s i narrow shows beside is either lie at room. beside_root_shows l k windows narrow choices s i shows beside is either lie at room

pub returns-clause-own : goal.returns-clause-own
returns-clause-own c = λ l k windows choices i own beside shows. (rebased l k windows choices i own beside shows, rebased_other l k windows choices i own beside shows)
