use Rattle.std.proofs.Common.{Option, sym, ap}
use Rattle.fsd_bytes.specs.declared.key.Key.{Key}
use Rattle.fsd_table.specs.Pages.{below}
use Rattle.name_page.proofs.EndsLaws.{some_there}
use Rattle.name_page.proofs.fits.entries_end.Goals as goal

pub returns-in-None : goal.returns-in-None
returns-in-None c =
    let there = some_there c.args.entries.now c.args.last c.requires in
    (there.0, there.1, ap (λ (high : Option Key). below high there.0.key) (sym c.in-None.is))
