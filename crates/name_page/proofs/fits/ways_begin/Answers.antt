use Rattle.std.proofs.Common.{Option, sym, ap}
use Rattle.fsd_bytes.specs.declared.key.Key.{Key}
use Rattle.fsd_table.specs.Pages.{not_below}
use Rattle.name_page.proofs.EndsLaws.{some_there}
use Rattle.name_page.proofs.fits.ways_begin.Goals as goal

pub returns-in-None : goal.returns-in-None
returns-in-None c =
    let there = some_there c.args.ways.now.1 0 c.requires in
    (there.0, there.1, ap (λ (low : Option Key). not_below low there.0.key) (sym c.in-None.is))
