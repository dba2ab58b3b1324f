use Rattle.std.proofs.Common.{refl, rules}
use Rattle.name_page.specs.Lookups.{entry_with}
use Rattle.name_btree.proofs.steps.ResultLaws.{failed_cause, failed_shown}
use Rattle.cached_table.proofs.LeftLaws.{left_as}
use Rattle.cached_table.proofs.AbsentLaws.{lacks_key}
use Rattle.cached_table.proofs.LookLaws.{fails_left, found_left, looks_left, tells_left}
use Rattle.cached_table.proofs.StayLaws.{looks_stay}
use Rattle.cached_table.proofs.table.CachedTable.find.Goals as goal

pub returns-clause-looks : goal.returns-clause-looks
returns-clause-looks g c = looks_left c.new-table.ensures.over c.new-table.ensures.step (looks_stay _ _ c.find-found.ensures.calls.looks) c.find-found.ensures.calls.outside (left_as c.rest.ensures.left (search rules) (search rules) refl) c.find-found.ensures.calls.stays

pub returns-clause-found : goal.returns-clause-found
returns-clause-found g c = found_left c.new-table.ensures.over c.new-table.ensures.step (looks_stay _ _ c.find-found.ensures.calls.looks) c.find-found.ensures.calls.outside (left_as c.rest.ensures.left (search rules) refl refl) (entry_with c.args.key.now) c.find-found.result c.find-found.ensures.found

pub returns-clause-told : goal.returns-clause-told
returns-clause-told g c = tells_left c.new-table.ensures.over c.new-table.ensures.step (looks_stay _ _ c.find-found.ensures.calls.looks) c.find-found.ensures.calls.outside (left_as c.rest.ensures.left refl (search rules) refl) (λ pages agree shown. lacks_key _ pages agree c.args.key.now shown) (λ e agree same. same) c.find-found.result c.find-found.ensures.told

pub returns-clause-failed : goal.returns-clause-failed
returns-clause-failed g c = fails_left c.new-table.ensures.over c.new-table.ensures.step (looks_stay _ _ c.find-found.ensures.calls.looks) c.find-found.ensures.calls.outside (left_as c.rest.ensures.left (search rules) (search rules) refl) c.find-found.result (failed_cause _ _ _ c.find-found.result c.find-found.ensures.failed) (failed_shown _ _ _ c.find-found.result c.find-found.ensures.failed)
