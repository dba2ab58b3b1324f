use Rattle.std.proofs.Common.{inl, inr, refl, rules}
use Rattle.cached_table.proofs.LeftLaws.{left_as}
use Rattle.cached_table.proofs.AbsentLaws.{keep_absent}
use Rattle.cached_table.proofs.EditLaws.{edits_left, gives_left, none_left}
use Rattle.cached_table.proofs.PathLaws.{path_first, used_first}
use Rattle.cached_table.proofs.WaitingLaws.{waits_left}
use Rattle.cached_table.proofs.table.CachedTable.set_keep.Goals as goal

pub returns-clause-edits : goal.returns-clause-edits
returns-clause-edits g c = edits_left c.new-table.ensures.over c.new-table.ensures.step c.keep_at-done.ensures.calls.count c.keep_at-done.ensures.calls.outside (left_as c.rest.ensures.left (search rules) (search rules) (search rules))

pub returns-clause-set : goal.returns-clause-set
returns-clause-set g c = gives_left c.new-table.ensures.over c.new-table.ensures.step c.keep_at-done.ensures.calls.count c.keep_at-done.ensures.calls.outside (left_as c.rest.ensures.left (search rules) (search rules) (search rules)) c.keep_at-done.result c.args.name.now c.args.keep c.keep_at-done.ensures.set

pub returns-clause-waiting : goal.returns-clause-waiting
returns-clause-waiting g c = waits_left c.new-table.ensures.over c.keep_at-done.ensures.calls.count (left_as c.rest.ensures.left refl (search rules) refl) c.keep_at-done.ensures.pages

pub returns-clause-failed : goal.returns-clause-failed
returns-clause-failed g c = none_left c.new-table.ensures.over c.new-table.ensures.step c.keep_at-done.ensures.calls.count c.keep_at-done.ensures.calls.outside (left_as c.rest.ensures.left (search rules) (search rules) (search rules)) c.keep_at-done.ensures.calls.home_a c.args.name.now c.keep_at-done.result c.keep_at-done.ensures.failed

pub returns-clause-memory : goal.returns-clause-memory
returns-clause-memory g c = λ has. elim has [
  | inl path ↦ c.keep_at-done.ensures.memory (inl (path_first c.new-table.ensures.over c.args.name.now path))
  | inr all ↦ c.keep_at-done.ensures.memory (inr (record { each = used_first c.new-table.ensures.over all }))
]

pub returns-clause-absent : goal.returns-clause-absent
returns-clause-absent g c = keep_absent c.new-table.ensures.over (left_as c.rest.ensures.left refl (search rules) refl) c.args.name.now c.keep_at-done.result c.keep_at-done.ensures.failed c.keep_at-done.ensures.absent
