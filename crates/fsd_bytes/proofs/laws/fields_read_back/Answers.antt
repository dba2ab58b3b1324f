use Rattle.fsd_bytes.proofs.ReadBack.{byte_read_back, byte_stays, four_read_back, range_stays, two_read_back, written_length}
use Rattle.fsd_bytes.proofs.laws.fields_read_back.Goals as goal

pub returns-clause-one_byte : goal.returns-clause-one_byte
returns-clause-one_byte c = byte_read_back

pub returns-clause-two_bytes : goal.returns-clause-two_bytes
returns-clause-two_bytes c = two_read_back

pub returns-clause-four_bytes : goal.returns-clause-four_bytes
returns-clause-four_bytes c = four_read_back

pub returns-clause-size : goal.returns-clause-size
returns-clause-size c = written_length

pub returns-clause-elsewhere : goal.returns-clause-elsewhere
returns-clause-elsewhere c = byte_stays

pub returns-clause-ranges_elsewhere : goal.returns-clause-ranges_elsewhere
returns-clause-ranges_elsewhere c = λ b bytes place i j. range_stays b bytes place i j
