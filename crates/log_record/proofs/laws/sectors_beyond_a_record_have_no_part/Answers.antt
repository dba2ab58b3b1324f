use Rattle.fsd_log.proofs.ReachLaws.{record_within}
use Rattle.log_record.proofs.laws.sectors_beyond_a_record_have_no_part.Goals as goal

pub returns : goal.returns
returns c gap p stamp room far all part within alike header copy reaches = record_within gap p stamp room far all part (record { within = within; alike = alike; header = header; copy = copy }) reaches
