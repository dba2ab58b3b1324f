use Rattle.std.proofs.Common.{length, ap, arith}
use Rattle.fsd_table.proofs.EntryLaws.{length_entry}
use Rattle.name_page.proofs.writing.entry_len.Goals as goal

pub returns-clause-value : goal.returns-clause-value
returns-clause-value c = omega (arith, length_entry c.args.e.now, ap length c.as_bytes.ensures.value, ap length c.as_slice.ensures.value)
