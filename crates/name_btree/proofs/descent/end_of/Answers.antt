use Rattle.std.proofs.Common.{sym, ap, List}
use Rattle.fsd_forest.specs.Ways.{end_of}
use Rattle.fsd_formats.specs.declared.page.Separator.{Separator}
use Rattle.name_page.proofs.ListLaws.{drop_at}
use Rattle.name_btree.proofs.descent.end_of.Goals as goal

pub returns-then-i-len : goal.returns-then-i-len
returns-then-i-len c = sym (ap (λ (xs : List Separator). end_of c.args.high.now xs) (drop_at c.args.ways.now.1 c.args.i c.get.result c.get.ensures.there))
