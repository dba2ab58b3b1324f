use Rattle.fsd_formats.specs.NamePage.{FitsSeparator}
use Rattle.name_page.specs.Reading.{separators_in}
use Rattle.name_page.proofs.PutLaws.{each_at}
use Rattle.name_page.proofs.node.Ways.get.Goals as goal

pub returns-clause-fits : goal.returns-clause-fits
returns-clause-fits c = each_at FitsSeparator (separators_in c.self.inside.image) c.args.i c.separator.result c.separator.ensures c.self.invariant.1
