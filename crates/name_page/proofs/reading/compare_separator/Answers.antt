use Rattle.std.proofs.Common.{◌+◌, ◌*◌}
use Rattle.name_page.specs.Reading.{separator_at}
use Rattle.name_page.proofs.InteriorLaws.{separator_is_in}
use Rattle.name_page.proofs.reading.compare_separator.Goals as goal

pub compare_separator_at-requires-clause-within : goal.compare_separator_at-requires-clause-within
compare_separator_at-requires-clause-within c = (separator_is_in c.args.b.now c.args.i c.fits-b c.told-b c.requires).within

pub compare_separator_at-requires-clause-room : goal.compare_separator_at-requires-clause-room
compare_separator_at-requires-clause-room c = (separator_is_in c.args.b.now c.args.i c.fits-b c.told-b c.requires).few

pub returns : goal.returns
returns c = (separator_at (28 + 49 * c.args.i) c.args.b.now, (separator_is_in c.args.b.now c.args.i c.fits-b c.told-b c.requires).at, c.compare_separator_at.ensures)
