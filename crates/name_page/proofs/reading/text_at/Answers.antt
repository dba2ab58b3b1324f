use Rattle.std.proofs.Common.{arith}
use Rattle.name_page.proofs.EntryLaws.{entry_spelled}
use Rattle.name_page.proofs.reading.text_at.Goals as goal

pub returns : goal.returns
returns c = entry_spelled c.args.place c.entry_end.result c.args.b.now c.fits-b c.entry_end.ensures (omega (arith, c.entry_end.ensures, c.requires.within, c.told-b))
