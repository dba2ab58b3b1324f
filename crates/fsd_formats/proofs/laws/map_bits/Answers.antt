use Rattle.fsd_formats.proofs.MapLaws.{map_bit_is_read, map_head_is_read, map_head_is_spelled, map_sector_len}
use Rattle.fsd_formats.proofs.laws.map_bits.Goals as goal

pub returns-clause-size : goal.returns-clause-size
returns-clause-size c = map_sector_len

pub returns-clause-head : goal.returns-clause-head
returns-clause-head c = map_head_is_spelled

pub returns-clause-head_again : goal.returns-clause-head_again
returns-clause-head_again c = λ h rest epoch index pages versions. map_head_is_read h rest (record { epoch = epoch; index = index; pages = pages; versions = versions })

pub returns-clause-bit : goal.returns-clause-bit
returns-clause-bit c = map_bit_is_read
