use Rattle.std.proofs.Common.{◌∷◌, [], None}
use Rattle.std.proofs.lemmas.Result.{on_ok_weaker}
use Rattle.fsd_files.specs.Volume.{entries_without}
use Rattle.fsd_table.specs.Tree.{table_of}
use Rattle.name_page.specs.Edits.{without}
use Rattle.version_table.proofs.EditLaws.{without_one}
use Rattle.version_table.proofs.StepLaws.{edits_rested, fails_rested, makes_rested, tree_ascends}
use Rattle.version_table.proofs.editing.take_out.Goals as goal

pub returns-clause-taken_out : goal.returns-clause-taken_out
returns-clause-taken_out g c =
    let P = g.T.Pages in
    let a = c.args.t.now in
    let key = c.args.key.now in
    on_ok_weaker c.remove.result (makes_rested P a c.rest.new.self c.remove.new.t c.rest.ensures.step (entries_without (key ∷ [])) (without key)
    (λ height tree trusted. without_one key (table_of (P.step a).images height) (tree_ascends (P.step a).images height tree))) c.remove.ensures.removed

pub returns-clause-edits : goal.returns-clause-edits
returns-clause-edits g c =
    let law = g.met.T.Pages in
    let rest = c.rest.ensures in
    edits_rested g.T.Pages law.then c.args.t.now c.rest.new.self c.remove.new.t rest.outside (law.trust c.args.t.now c.rest.new.self None rest.outside) rest.step c.remove.result c.remove.ensures.edits

pub returns-clause-failed : goal.returns-clause-failed
returns-clause-failed g c = fails_rested g.T.Pages c.args.t.now c.rest.new.self c.remove.new.t c.rest.ensures.step c.remove.result c.remove.ensures.failed
