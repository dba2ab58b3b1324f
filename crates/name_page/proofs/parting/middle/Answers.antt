use Rattle.std.proofs.Common.{◌≡◌, ◌∙◌, Some, sym, ap, arith}
use Rattle.std.specs.Prelude.{slice_get}
use Rattle.std.proofs.lemmas.Option.{slice_get-get_or}
use Rattle.fsd_formats.specs.declared.page.Separator.{Separator}
use Rattle.name_page.proofs.CutPageLaws.{interiors_at}
use Rattle.name_page.proofs.parting.middle.Goals as goal

pub returns-clause-interiors : goal.returns-clause-interiors
returns-clause-interiors c = λ p first all asc low.
    let s : Separator = c.index-separators-at.result in
    let at : slice_get c.args.separators.now c.args.at ≡ Some s = slice_get-get_or c.args.separators.now c.args.at s (omega arith) ∙ ap Some (sym c.index-separators-at.is) in
    interiors_at p first c.args.at c.args.separators.now s c.requires.ten c.requires.least c.requires.most at all asc low
