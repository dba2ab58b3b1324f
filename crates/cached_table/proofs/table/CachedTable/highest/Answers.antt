use Rattle.std.proofs.Common.{inl, inr, refl, rules}
use Rattle.name_page.specs.Lookups.{highest_of}
use Rattle.name_btree.proofs.steps.ResultLaws.{failed_cause, failed_shown}
use Rattle.cached_table.proofs.LeftLaws.{left_as}
use Rattle.cached_table.proofs.AbsentLaws.{lacks_name}
use Rattle.cached_table.proofs.LookLaws.{fails_left, found_left, looks_left, tells_left}
use Rattle.cached_table.proofs.PathLaws.{path_first, path_left, used_first, used_left}
use Rattle.cached_table.proofs.StayLaws.{looks_stay}
use Rattle.cached_table.proofs.table.CachedTable.highest.Goals as goal

pub returns-clause-looks : goal.returns-clause-looks
returns-clause-looks g c = looks_left c.new-table.ensures.over c.new-table.ensures.step (looks_stay _ _ c.highest-found.ensures.calls.looks) c.highest-found.ensures.calls.outside (left_as c.rest.ensures.left (search rules) (search rules) refl) c.highest-found.ensures.calls.stays

pub returns-clause-found : goal.returns-clause-found
returns-clause-found g c = found_left c.new-table.ensures.over c.new-table.ensures.step (looks_stay _ _ c.highest-found.ensures.calls.looks) c.highest-found.ensures.calls.outside (left_as c.rest.ensures.left (search rules) refl refl) (highest_of c.args.name.now) c.highest-found.result c.highest-found.ensures.found

pub returns-clause-told : goal.returns-clause-told
returns-clause-told g c = tells_left c.new-table.ensures.over c.new-table.ensures.step (looks_stay _ _ c.highest-found.ensures.calls.looks) c.highest-found.ensures.calls.outside (left_as c.rest.ensures.left refl (search rules) refl) (λ pages agree shown. lacks_name _ pages agree c.args.name.now shown) (λ e agree same. same) c.highest-found.result c.highest-found.ensures.told

pub returns-clause-failed : goal.returns-clause-failed
returns-clause-failed g c = fails_left c.new-table.ensures.over c.new-table.ensures.step (looks_stay _ _ c.highest-found.ensures.calls.looks) c.highest-found.ensures.calls.outside (left_as c.rest.ensures.left (search rules) (search rules) refl) c.highest-found.result (failed_cause _ _ _ c.highest-found.result c.highest-found.ensures.failed) (failed_shown _ _ _ c.highest-found.result c.highest-found.ensures.failed)

pub returns-clause-memory : goal.returns-clause-memory
returns-clause-memory g c = record {
  enough = λ has. elim has [
    | inl path ↦ (c.highest-found.ensures.memory (path_first c.new-table.ensures.over c.args.name.now path)).none.enough
    | inr all ↦ (c.highest-found.ensures.calls.memory (record { each = used_first c.new-table.ensures.over all })).enough
  ];
  path_stays = λ path. path_left c.new-table.ensures.over c.args.name.now (left_as c.rest.ensures.left refl (search rules) refl) (λ has. (c.highest-found.ensures.memory has).none) path;
  all_stay = λ all. used_left c.new-table.ensures.over (left_as c.rest.ensures.left refl (search rules) refl) (c.highest-found.ensures.calls.memory (record { each = used_first c.new-table.ensures.over all })) all;
}
