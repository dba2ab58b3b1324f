use Rattle.volume_laws.proofs.TakenLaws.{taken_is_told}
use Rattle.volume_laws.proofs.laws.taken_entries_are_told.Goals as goal

pub returns : goal.returns
returns c = λ v e whole taken. taken_is_told v whole e taken
