use Rattle.fsd_formats.specs.NamePage.{Leaf}
use Rattle.name_btree.proofs.drafts.SetLaws.{written}
use Rattle.name_btree.proofs.writing.put_leaf.Goals as goal

pub returns-clause-outside : goal.returns-clause-outside
returns-clause-outside g c = g.met.T.Pages.quiet c.args.t.now c.args.page c.write_entries.new.out

pub returns-clause-written : goal.returns-clause-written
returns-clause-written g c =
    let bytes = c.write_entries.new.out in
    written (g.T.Pages.step c.args.t.now) (g.T.Pages.step (g.T.Pages.written c.args.t.now c.args.page bytes)) c.args.page bytes (Leaf c.args.entries.now)
    (g.met.T.Pages.changed c.args.t.now c.args.page bytes) c.requires.reached.0 c.write_entries.ensures
