use Rattle.std.proofs.Common.{◌∙◌}
use Rattle.sector_set.proofs.AreaLaws.{is_in_area}
use Rattle.sector_set.proofs.area.SectorArea.contains.Goals as goal

pub returns : goal.returns
returns c = c.contains.ensures ∙ is_in_area c.self.inside.from c.args.s c.self.inside.set c.args.self.now c.self.view_is c.requires.from c.requires.to
