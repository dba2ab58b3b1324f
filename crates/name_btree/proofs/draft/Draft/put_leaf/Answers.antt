use Rattle.std.proofs.Common.{length}
use Rattle.fsd_formats.specs.NamePage.{Leaf}
use Rattle.name_btree.proofs.drafts.DraftLaws.{drafted_more}
use Rattle.name_btree.proofs.draft.Draft.put_leaf.Goals as goal

pub returns-clause-sheets : goal.returns-clause-sheets
returns-clause-sheets g c =
    let step = g.T.Pages.step c.args.t.now in
    drafted_more step c.args.self.now.sheets.items c.push.new.self.items (record { page = c.args.page; image = c.write_entries.new.out }) (Leaf c.args.entries.now)
    c.push.ensures.items c.requires.sheets c.requires.reached c.requires.used (c.write_entries.ensures (length step.images))
