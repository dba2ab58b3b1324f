use Rattle.std.proofs.Common.{◌∙◌, sym, ap, Some}
use Rattle.name_page.proofs.InteriorLaws.{first_is_in}
use Rattle.name_page.proofs.reading.first_child.Goals as goal

pub returns : goal.returns
returns c = first_is_in c.args.b.now c.fits-b c.told-b c.requires ∙ ap Some (sym c.u32_at.ensures)
