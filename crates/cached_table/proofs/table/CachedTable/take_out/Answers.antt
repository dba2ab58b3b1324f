use Rattle.std.proofs.Common.{◌∷◌, [], refl, rules}
use Rattle.fsd_files.specs.Volume.{entries_without}
use Rattle.name_btree.specs.Fault.{outer_told}
use Rattle.name_btree.proofs.steps.ResultLaws.{err_more}
use Rattle.table_pages.specs.Table.{Trusted, step_of}
use Rattle.cached_table.proofs.LeftLaws.{left_as}
use Rattle.cached_table.proofs.EditLaws.{changes_left, edits_left, faults_left, made_left, stays_left}
use Rattle.cached_table.proofs.WaitingLaws.{each_fails, none_failed, waits_left}
use Rattle.cached_table.proofs.table.CachedTable.take_out.Goals as goal

pub returns-clause-edits : goal.returns-clause-edits
returns-clause-edits g c = edits_left c.new-table.ensures.over c.new-table.ensures.step c.take_out-done.ensures.edits.calls.count c.take_out-done.ensures.edits.calls.outside (left_as c.rest.ensures.left (search rules) (search rules) (search rules))

pub returns-clause-changes : goal.returns-clause-changes
returns-clause-changes g c = changes_left c.new-table.ensures.over c.new-table.ensures.step c.take_out-done.ensures.edits.calls.count c.take_out-done.ensures.edits.calls.outside (left_as c.rest.ensures.left refl (search rules) refl) 8 c.take_out-done.ensures.changes

pub returns-clause-made : goal.returns-clause-made
returns-clause-made g c = made_left c.new-table.ensures.over c.new-table.ensures.step c.take_out-done.ensures.edits.calls.count c.take_out-done.ensures.edits.calls.outside (left_as c.rest.ensures.left (search rules) (search rules) (search rules)) c.take_out-done.result (entries_without (c.args.key.now ∷ [])) c.take_out-done.ensures.taken_out

pub returns-clause-kept : goal.returns-clause-kept
returns-clause-kept g c = stays_left c.new-table.ensures.over c.new-table.ensures.step c.take_out-done.ensures.edits.calls.count c.take_out-done.ensures.edits.calls.outside (left_as c.rest.ensures.left (search rules) (search rules) (search rules)) c.take_out-done.result (none_failed _ (outer_told c.take_out-done.result) c.new-table.result c.take_out-done.new.t c.take_out-done.result c.take_out-done.ensures.edits.kept)

pub returns-clause-waiting : goal.returns-clause-waiting
returns-clause-waiting g c = waits_left c.new-table.ensures.over c.take_out-done.ensures.edits.calls.count (left_as c.rest.ensures.left refl (search rules) refl) c.take_out-done.ensures.edits.pages

pub returns-clause-fault : goal.returns-clause-fault
returns-clause-fault g c = faults_left c.new-table.ensures.over c.new-table.ensures.step c.take_out-done.ensures.edits.calls.count c.take_out-done.ensures.edits.calls.outside (left_as c.rest.ensures.left (search rules) (search rules) (search rules)) c.take_out-done.ensures.edits.calls.home_a c.take_out-done.result (each_fails (Trusted c.take_out-done.new.t) (step_of c.take_out-done.new.t) c.take_out-done.result (err_more c.take_out-done.result _ _ (λ fault h. h.cause) c.take_out-done.ensures.failed))
