use Rattle.std.proofs.Common.{List, None, map}
use Rattle.std.proofs.lemmas.Result.{on_ok_weaker}
use Rattle.fsd_formats.specs.declared.entry.Entry.{Entry}
use Rattle.fsd_files.specs.Answers.{entries_with_keep}
use Rattle.fsd_table.specs.Tree.{table_of}
use Rattle.name_btree.specs.Replace.{HasAsLong, ReplacesEntry}
use Rattle.name_page.specs.Edits.{put}
use Rattle.name_page.proofs.LookLaws.{all_stay}
use Rattle.version_table.proofs.EnterLaws.{as_long, copy_kept, copy_long}
use Rattle.version_table.proofs.StepLaws.{edits_rested, fails_rested, for_rested, makes_rested, tree_ascends, way_later}
use Rattle.version_table.proofs.editing.set_keep.Goals as goal

pub replace_same_size-requires-clause-present : goal.replace_same_size-requires-clause-present
replace_same_size-requires-clause-present g c =
    let P = g.T.Pages in
    let a = c.args.t.now in
    let b = c.rest.new.self in
    let keep = c.args.keep in
    let version = c.args.version.now in
    let copy = c.copied-entry.result in
    for_rested P a b b c.rest.ensures.step (λ (table : List Entry). HasAsLong (record copy { keep = keep }) table)
    (λ trusted height tree. as_long version copy keep (table_of (P.step a).images height) c.copied-entry.ensures (c.requires.there trusted height tree)) (g.met.T.Pages.trust a b None c.rest.ensures.outside)

pub returns-clause-set : goal.returns-clause-set
returns-clause-set g c =
    let P = g.T.Pages in
    let a = c.args.t.now in
    let b = c.rest.new.self in
    let keep = c.args.keep in
    let version = c.args.version.now in
    let copy = c.copied-entry.result in
    let e = c.replace_same_size.ensures in
    on_ok_weaker c.replace_same_size.result (λ (h : ReplacesEntry P (record copy { keep = keep }) b c.replace_same_size.new.t). makes_rested P a b c.replace_same_size.new.t c.rest.ensures.step (entries_with_keep version.key keep) (map (put (record copy { keep = keep })))
    (λ height tree trusted. copy_kept version copy keep (table_of (P.step a).images height) c.copied-entry.ensures (tree_ascends (P.step a).images height tree)
    (c.requires.there (g.met.T.Pages.trust a b None c.rest.ensures.outside (e.edits.calls.trust trusted)) height tree)) h.table) e.replaced

pub returns-clause-edits : goal.returns-clause-edits
returns-clause-edits g c =
    let law = g.met.T.Pages in
    let rest = c.rest.ensures in
    edits_rested g.T.Pages law.then c.args.t.now c.rest.new.self c.replace_same_size.new.t rest.outside (law.trust c.args.t.now c.rest.new.self None rest.outside) rest.step c.replace_same_size.result c.replace_same_size.ensures.edits

pub returns-clause-failed : goal.returns-clause-failed
returns-clause-failed g c = fails_rested g.T.Pages c.args.t.now c.rest.new.self c.replace_same_size.new.t c.rest.ensures.step c.replace_same_size.result c.replace_same_size.ensures.failed

-- memory is not wanting
pub returns-clause-memory : goal.returns-clause-memory
returns-clause-memory g c = λ way. c.replace_same_size.ensures.memory.way c.args.version.now (copy_long c.args.version.now c.copied-entry.result c.args.keep c.copied-entry.ensures) (way_later g.T.Pages c.args.t.now c.rest.new.self c.rest.ensures.memory c.args.version.now way)

pub returns-clause-full : goal.returns-clause-full
returns-clause-full g c = λ all. c.replace_same_size.ensures.memory.all (all_stay g.T.Pages c.args.t.now c.rest.new.self c.rest.ensures.memory all)
