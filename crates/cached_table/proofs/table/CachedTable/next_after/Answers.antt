use Rattle.std.proofs.Common.{refl, rules}
use Rattle.std.specs.Option.{option_copied}
use Rattle.name_page.specs.Lookups.{first_after}
use Rattle.name_btree.proofs.steps.ResultLaws.{failed_cause, failed_shown}
use Rattle.cached_table.proofs.LeftLaws.{left_as}
use Rattle.cached_table.proofs.AbsentLaws.{lacks_later, next_in}
use Rattle.cached_table.proofs.LookLaws.{fails_left, found_left, looks_left, tells_left}
use Rattle.cached_table.proofs.StayLaws.{looks_stay}
use Rattle.cached_table.proofs.table.CachedTable.next_after.Goals as goal

pub returns-clause-looks : goal.returns-clause-looks
returns-clause-looks g c = looks_left c.new-table.ensures.over c.new-table.ensures.step (looks_stay _ _ c.next_after-found.ensures.calls.looks) c.next_after-found.ensures.calls.outside (left_as c.rest.ensures.left (search rules) (search rules) refl) c.next_after-found.ensures.calls.stays

pub returns-clause-found : goal.returns-clause-found
returns-clause-found g c = found_left c.new-table.ensures.over c.new-table.ensures.step (looks_stay _ _ c.next_after-found.ensures.calls.looks) c.next_after-found.ensures.calls.outside (left_as c.rest.ensures.left (search rules) refl refl) (first_after (option_copied c.args.after)) c.next_after-found.result c.next_after-found.ensures.found

pub returns-clause-told : goal.returns-clause-told
returns-clause-told g c = tells_left c.new-table.ensures.over c.new-table.ensures.step (looks_stay _ _ c.next_after-found.ensures.calls.looks) c.next_after-found.ensures.calls.outside (left_as c.rest.ensures.left refl (search rules) refl) (λ pages agree shown. lacks_later _ pages agree (option_copied c.args.after) shown) (λ e agree x. next_in _ _ _ (option_copied c.args.after) e agree x) c.next_after-found.result c.next_after-found.ensures.told

pub returns-clause-failed : goal.returns-clause-failed
returns-clause-failed g c = fails_left c.new-table.ensures.over c.new-table.ensures.step (looks_stay _ _ c.next_after-found.ensures.calls.looks) c.next_after-found.ensures.calls.outside (left_as c.rest.ensures.left (search rules) (search rules) refl) c.next_after-found.result (failed_cause _ _ _ c.next_after-found.result c.next_after-found.ensures.failed) (failed_shown _ _ _ c.next_after-found.result c.next_after-found.ensures.failed)
