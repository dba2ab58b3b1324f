use Rattle.volume_laws.proofs.TakenLaws.{untaken_breaks}
use Rattle.volume_laws.proofs.laws.untaken_entries_break.Goals as goal

pub returns : goal.returns
returns c = λ v pages visit e whole reached has not_taken. untaken_breaks v whole pages visit reached e has not_taken
