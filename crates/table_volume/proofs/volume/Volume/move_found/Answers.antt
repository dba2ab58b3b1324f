use Rattle.std.proofs.Common.{ℕ, ◌-◌, List, drop, length, not, None, rules, ap, ◌∙◌}
use Rattle.std.specs.Prelude.{◌==◌}
use Rattle.std.proofs.lemmas.Result.{err_from_is_err_and}
use Rattle.sector_disk.proofs.CallLaws.{reads_told, told_up}
use Rattle.version_table.specs.declared.oldest.Leaving.{Leaving}
use Rattle.volume_contract.specs.Ends.{device_of}
use Rattle.volume_laws.specs.State.{resident, state}
use Rattle.volume_laws.proofs.CauseLaws.{handed_cause}
use Rattle.volume_laws.proofs.EditedLaws.{stayed}
use Rattle.volume_laws.proofs.EnteredCalls.{idle_gone, none_waits, place_told, through_entered, waiting_were}
use Rattle.volume_laws.proofs.MakingLaws.{with_if}
use Rattle.volume_laws.proofs.MetCauses.{enter_cause}
use Rattle.volume_laws.proofs.MoveCalls.{move_comes, moves_told, whole_moved}
use Rattle.volume_laws.proofs.MoveEnds.{move_refused, moved_ends}
use Rattle.volume_laws.proofs.WholeLaws.{whole_edited}
use Rattle.table_volume.proofs.volume.Volume.move_found.Goals as goal

-- ---- none is moved

pub invariant_of-self : goal.invariant_of-self
invariant_of-self g c =
    let done = c.move_to-done in
    whole_edited g.M.Machine _ c.over-source.result c.args.m.now done.new.m _ c.args.self.now c.self.view_is c.self.invariant _ done.new.self.cache done.new.self.free_pages c.in_err-plan.ensures.edits done.ensures.waiting c.requires.up c.requires.numbered

pub returns-in_err-plan-clause-order : goal.returns-in_err-plan-clause-order
returns-in_err-plan-clause-order g c =
    let p = err_from_is_err_and c.from_residual.result c.from_residual.ensures.1 in
    let done = c.move_to-done in
    rw (p.1, p.2) (move_comes _ c.args.self.now c.self.view_is g.M.Machine c.args.m.now done.new.m c.over-source.result c.args.key.now c.args.name.now done.new.self.cache done.new.self.free_pages c.in_err-plan.field-0.0 c.in_err-plan.ensures.refused.fault)

pub returns-in_err-plan-clause-disk : goal.returns-in_err-plan-clause-disk
returns-in_err-plan-clause-disk g c =
    reads_told (told_up device_of c.from_residual.result c.in_err-plan.field-0.0 c.from_residual.ensures.1 ∙ place_told c.in_err-plan.field-0.0) c.in_err-plan.ensures.edits.reads

pub returns-in_err-plan-clause-edited : goal.returns-in_err-plan-clause-edited
returns-in_err-plan-clause-edited g c =
    let p = err_from_is_err_and c.from_residual.result c.from_residual.ensures.1 in
    let done = c.move_to-done in
    rw p.1 (stayed _ c.args.self.now c.self.view_is done.new.self.cache done.new.self.free_pages c.in_err-plan.ensures.refused.kept.dirty c.in_err-plan.ensures.refused.kept.same_flags)

pub returns-in_err-plan-clause-causes : goal.returns-in_err-plan-clause-causes
returns-in_err-plan-clause-causes g c =
    let done = c.move_to-done in
    let w = c.args.self.now in
    handed_cause g.M.Machine (resident w) (state w) _ c.args.m.now done.new.m c.in_err-plan.field-0.0 c.from_residual.result c.from_residual.ensures.1
    (enter_cause g.M.Machine c.args.m.now done.new.m _ w c.self.view_is c.self.invariant done.new.self.cache done.new.self.free_pages c.over-source.result c.over-source.ensures c.home_a-home_a.result c.home_a-home_a.ensures.place c.in_err-plan.field-0.0
    c.in_err-plan.ensures.edits c.in_err-plan.ensures.refused.looks c.in_err-plan.ensures.refused.shown)

pub returns-in_err-plan-clause-done : goal.returns-in_err-plan-clause-done
returns-in_err-plan-clause-done g c = λ honest k stands e there.
    let done = c.move_to-done in
    move_refused g.M.Machine g.met.M.Machine.short c.args.m.now done.new.m _ c.args.self.now c.self.view_is c.self.invariant c.attest.ensures done.new.self.cache done.new.self.free_pages c.over-source.result c.over-source.ensures
    c.args.key.now c.args.name.now honest k stands c.requires.few e there c.dirty_list.ensures.valid c.from_residual.result c.in_err-plan.field-0.0 c.from_residual.ensures.1 c.in_err-plan.ensures.edits c.in_err-plan.ensures.refused.kept c.in_err-plan.ensures.refused.fault

-- ---- it is moved

pub free_gone_if-requires : goal.free_gone_if-requires
free_gone_if-requires g c =
    let moved = c.in_ok-plan.ensures.moved in
    idle_gone _ _ _ _ (c.others-gone.ensures ∙ ap (λ (gs : List Leaving). drop 1 gs) (c.as_slice.ensures.value ∙ moved.goes)) moved.taken

pub invariant_of-self-2 : goal.invariant_of-self-2
invariant_of-self-2 g c =
    let done = c.move_to-done in
    let plan = c.in_ok-plan in
    let moved = plan.ensures.moved in
    let frees = c.free_gone_if.ensures in
    let none = c.is_empty-waits.ensures ∙ ap (λ (d : List ℕ). length d == 0) c.dirty_list.ensures.value in
    let gone = c.others-gone.ensures ∙ ap (λ (gs : List Leaving). drop 1 gs) (c.as_slice.ensures.value ∙ moved.goes) in
    let left = whole_edited g.M.Machine _ c.over-source.result c.args.m.now done.new.m _ c.args.self.now c.self.view_is c.self.invariant None done.new.self.cache done.new.self.free_pages plan.ensures.edits done.ensures.waiting c.requires.up c.requires.numbered in
    whole_moved _ c.self.invariant done.new.self.cache done.new.self.free_pages left moved.others moved.taken _ (none_waits c.is_empty-waits.result done.new.self.cache.dirty none) c.free_gone_if.new.shadow c.versions_without-self-inside.result
    (frees.removed ∙ ap (with_if (not c.is_empty-waits.result) c.self.inside.shadow.removed) gone) frees.kept frees.unfinished frees.held

pub returns-clause-name : goal.returns-clause-name
returns-clause-name g c = c.in_ok-plan.ensures.moved.name_is

pub returns-clause-order : goal.returns-clause-order
returns-clause-order g c = through_entered _ c.args.self.now c.self.view_is c.in_ok-plan.ensures.moved.full

pub returns-clause-edited : goal.returns-clause-edited
returns-clause-edited g c = moves_told _ c.args.self.now c.self.view_is c.free_gone_if.new.shadow c.move_to-done.new.self.cache c.move_to-done.new.self.free_pages c.versions_without-self-inside.result c.free_gone_if.ensures.held c.free_gone_if.ensures.unfinished

pub returns-clause-done : goal.returns-clause-done
returns-clause-done g c = λ honest k stands e there.
    let done = c.move_to-done in
    let plan = c.in_ok-plan in
    let moved = plan.ensures.moved in
    let frees = c.free_gone_if.ensures in
    let none = c.is_empty-waits.ensures ∙ ap (λ (d : List ℕ). length d == 0) c.dirty_list.ensures.value in
    let gone = c.others-gone.ensures ∙ ap (λ (gs : List Leaving). drop 1 gs) (c.as_slice.ensures.value ∙ moved.goes) in
    let removed = frees.removed ∙ ap (with_if (not c.is_empty-waits.result) c.self.inside.shadow.removed) gone in
    let left = whole_edited g.M.Machine _ c.over-source.result c.args.m.now done.new.m _ c.args.self.now c.self.view_is c.self.invariant None done.new.self.cache done.new.self.free_pages plan.ensures.edits done.ensures.waiting c.requires.up c.requires.numbered in
    let whole =
    whole_moved _ c.self.invariant done.new.self.cache done.new.self.free_pages left moved.others moved.taken _ (none_waits c.is_empty-waits.result done.new.self.cache.dirty none) c.free_gone_if.new.shadow c.versions_without-self-inside.result
    removed frees.kept frees.unfinished frees.held in
    let were = waiting_were _ c.args.self.now c.self.view_is c.self.invariant c.requires.up in
    moved_ends g.M.Machine g.met.M.Machine.short c.args.m.now done.new.m _ c.args.self.now c.self.view_is c.self.invariant c.attest.ensures done.new.self.cache done.new.self.free_pages c.over-source.result c.over-source.ensures
    c.args.key.now c.args.name.now honest k stands c.requires.few e there plan.plan moved.moved moved.others moved.goes (search rules) plan.ensures.edits done.ensures.changes (done.ensures.waiting were) moved.planned moved.full moved.made
    c.free_gone_if.new.shadow c.versions_without-self-inside.result (c.versions_without-self-inside.ensures ∙ ap (λ (gs : List Leaving). c.self.inside.versions - length gs) gone) c.is_empty-waits.result none removed frees.kept frees.unfinished frees.held whole
