use Rattle.fsd_log.proofs.JudgedLaws.{record_less, record_keeps}
use Rattle.log_record.proofs.laws.records_stay.Goals as goal

pub returns-clause-there : goal.returns-clause-there
returns-clause-there c gap p stamp room old new r fits less is same = record_keeps gap p stamp fits room old new less r is same

pub returns-clause-absent : goal.returns-clause-absent
returns-clause-absent c gap p stamp room old new fits less none = record_less gap p stamp fits room old new less none
