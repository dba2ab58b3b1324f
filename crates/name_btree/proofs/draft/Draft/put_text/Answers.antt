use Rattle.std.proofs.Common.{length}
use Rattle.fsd_formats.specs.NamePage.{Leaf}
use Rattle.name_btree.proofs.drafts.DraftLaws.{drafted_more}
use Rattle.name_btree.proofs.draft.Draft.put_text.Goals as goal

pub returns-clause-sheets : goal.returns-clause-sheets
returns-clause-sheets g c = λ entries text accepted fits.
    let step = g.T.Pages.step c.args.t.now in
    drafted_more step c.args.self.now.sheets.items c.push.new.self.items (record { page = c.args.page; image = c.write_text.new.out }) (Leaf entries)
    c.push.ensures.items c.requires.sheets c.requires.reached c.requires.used (c.write_text.ensures entries text accepted fits (length step.images))
