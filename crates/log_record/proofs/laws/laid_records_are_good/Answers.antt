use Rattle.fsd_log.proofs.OutlastLaws.{laid_is_judged, laid_outlasts}
use Rattle.log_record.proofs.laws.laid_records_are_good.Goals as goal

pub returns-clause-good : goal.returns-clause-good
returns-clause-good c gap p stamp pages images room at laid roomy stand = laid_is_judged gap p stamp pages images laid room roomy at stand

pub returns-clause-outlasts : goal.returns-clause-outlasts
returns-clause-outlasts c gap p stamp pages images room w at laid roomy left = laid_outlasts gap p stamp pages images laid room roomy at w left
