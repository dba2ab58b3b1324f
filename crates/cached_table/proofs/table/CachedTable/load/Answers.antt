use Rattle.std.proofs.Common.{◌≡◌, ◌≤◌, ℕ, None, List, ap, refl, rules, subst}
use Rattle.std.specs.Prelude.{Some}
use Rattle.std.proofs.lemmas.Result.{on_err_weaker}
use Rattle.fsd_files.specs.Answers.{entry_of, entry_put}
use Rattle.fsd_formats.specs.declared.entry.Entry.{Entry}
use Rattle.name_page.specs.Pages.{spare_count, outer_in}
use Rattle.cached_table.specs.Entering.{up_to}
use Rattle.cached_table.specs.Loading.{entry_drafted}
use Rattle.cached_table.proofs.HighestLaws.{none_walked}
use Rattle.cached_table.proofs.LeftLaws.{left_as}
use Rattle.cached_table.proofs.EditLaws.{changes_left, edits_left, made, of_left, refuses_by, stays_in, stays_left}
use Rattle.cached_table.proofs.LoadingLaws.{loads_none, refusal_fault, refusal_shown, refusal_walks}
use Rattle.cached_table.proofs.LookLaws.{looks_left, met_left}
use Rattle.cached_table.proofs.MetLaws.{shown_steps, unsound_left}
use Rattle.cached_table.proofs.StayLaws.{walks_stay}
use Rattle.cached_table.proofs.WaitingLaws.{none_failed, waits_left}
use Rattle.cached_table.proofs.table.CachedTable.load.Goals as goal

pub returns-clause-edits : goal.returns-clause-edits
returns-clause-edits g c = edits_left c.new-table.ensures.over c.new-table.ensures.step c.load_at-done.ensures.calls.count c.load_at-done.ensures.calls.outside (left_as c.rest.ensures.left (search rules) (search rules) (search rules))

pub returns-clause-waiting : goal.returns-clause-waiting
returns-clause-waiting g c = waits_left c.new-table.ensures.over c.load_at-done.ensures.calls.count (left_as c.rest.ensures.left refl (search rules) refl) c.load_at-done.ensures.pages

pub returns-clause-changes : goal.returns-clause-changes
returns-clause-changes g c = changes_left c.new-table.ensures.over c.new-table.ensures.step c.load_at-done.ensures.calls.count c.load_at-done.ensures.calls.outside (left_as c.rest.ensures.left refl (search rules) refl) 36 c.load_at-done.ensures.changes

pub returns-clause-loaded : goal.returns-clause-loaded
returns-clause-loaded g c = λ is.
    let e = c.load_at-done.ensures.loaded is in
    let over = c.new-table.ensures.over in
    let step = c.new-table.ensures.step in
    let calls = c.load_at-done.ensures.calls in
    record {
      absent = of_left over step calls.count calls.outside (left_as c.rest.ensures.left (search rules) refl refl) (λ (table : List Entry). entry_of c.args.key.now table ≡ None) e.absent;
      full = subst (λ (n : ℕ). 8 ≤ n) (ap spare_count step) e.room;
      made = made over step calls.count calls.outside (left_as c.rest.ensures.left (search rules) (search rules) (search rules)) (entry_put (entry_drafted c.args.key.now c.args.keep c.args.draft.now)) e.made;
    }

pub returns-clause-there : goal.returns-clause-there
returns-clause-there g c = λ is.
    let e = c.load_at-done.ensures.there is in
    let walks = c.load_at-done.ensures.walks is in
    let over = c.new-table.ensures.over in
    let step = c.new-table.ensures.step in
    record {
      kept = stays_in over step walks.count walks.outside (left_as c.rest.ensures.left (search rules) (search rules) (search rules)) (none_walked _ None c.new-table.result c.load_at-done.new.t walks);
      looks = looks_left over step (walks_stay _ _ _ walks) walks.outside (left_as c.rest.ensures.left (search rules) (search rules) refl) walks.stays;
      found = e.found;
      told = met_left over step (walks_stay _ _ _ walks) walks.outside (left_as c.rest.ensures.left refl (search rules) refl) (λ x agree same. same) e.found e.met;
      there = of_left over step walks.count walks.outside (left_as c.rest.ensures.left (search rules) refl refl) (λ (table : List Entry). entry_of c.args.key.now table ≡ Some e.found.entry) e.there;
    }

pub returns-clause-refused : goal.returns-clause-refused
returns-clause-refused g c =
    let r = c.load_at-done.result in
    let map = up_to c.args.l.now.sectors c.args.map.now in
    let w = c.args.shadow.now in
    let key = c.args.key.now in
    let e = c.load_at-done.ensures.refused in
    let over = c.new-table.ensures.over in
    let step = c.new-table.ensures.step in
    let calls = c.load_at-done.ensures.calls in
    let a = c.new-table.result in
    let b = c.load_at-done.new.t in
    let walks = refusal_walks _ key map w c.args.home_a a b r e in
    let by = shown_steps _ (outer_in r) map w key.name c.args.home_a a b r walks (refusal_shown _ key map w c.args.home_a a b r e) in
    loads_none _ _ _ key map w _ _ _ _ _ _ _ r
    (stays_left over step calls.count calls.outside (left_as c.rest.ensures.left (search rules) (search rules) (search rules)) r (none_failed _ (outer_in r) a b r walks))
    (on_err_weaker r (λ walks. looks_left over step (walks_stay _ _ _ walks) calls.outside (left_as c.rest.ensures.left (search rules) (search rules) refl) walks.stays) walks)
    (refuses_by over step calls.count calls.outside (left_as c.rest.ensures.left (search rules) (search rules) (search rules)) ⊥ ⊥ _ ⊥ ⊥ _ (λ none. none) (λ none. none)
    (of_left over step calls.count calls.outside (left_as c.rest.ensures.left (search rules) refl refl) (λ (table : List Entry). entry_of key table ≡ None)) r (refusal_fault _ key map w c.args.home_a a b r e))
    (unsound_left over step calls.outside (left_as c.rest.ensures.left (search rules) (search rules) refl) map w r by.0 by.1)
