use Rattle.std.proofs.Common.{length}
use Rattle.fsd_formats.specs.NamePage.{Interior}
use Rattle.name_page.proofs.CountLaws.{interior_few}
use Rattle.name_btree.proofs.drafts.DraftLaws.{drafted_more}
use Rattle.name_page.proofs.WaysLaws.{ways_keys}
use Rattle.name_btree.proofs.draft.Draft.put_ways.Goals as goal

pub write_ways-requires-clause-keys : goal.write_ways-requires-clause-keys
write_ways-requires-clause-keys g c = ways_keys c.args.page (length (g.T.Pages.step c.args.t.now).images) c.args.first c.args.separators.now c.requires.accepted

pub write_ways-requires-clause-few : goal.write_ways-requires-clause-few
write_ways-requires-clause-few g c = interior_few c.args.page (length (g.T.Pages.step c.args.t.now).images) c.args.first c.args.separators.now c.requires.accepted

pub returns-clause-sheets : goal.returns-clause-sheets
returns-clause-sheets g c =
    let step = g.T.Pages.step c.args.t.now in
    drafted_more step c.args.self.now.sheets.items c.push.new.self.items (record { page = c.args.page; image = c.write_ways.new.out }) (Interior c.args.first c.args.separators.now)
    c.push.ensures.items c.requires.sheets c.requires.reached c.requires.used (c.write_ways.ensures (length step.images) c.requires.accepted)
