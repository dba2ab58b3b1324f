use Rattle.std.proofs.Common.{ℕ, ◌+◌, ◌-◌, ◌≤◌, min, List, length, not, None, Err, refl, rules, sym, ap, subst, ◌∙◌}
use Rattle.std.specs.Prelude.{◌==◌}
use Rattle.std.proofs.lemmas.Result.{err_from_is_err_and}
use Rattle.sector_disk.proofs.CallLaws.{reads_told, told_up}
use Rattle.sector_set.specs.Area.{Area, AreIn, without_sectors}
use Rattle.fsd_formats.specs.NamePage.{sectors_for}
use Rattle.volume_contract.specs.Ends.{device_of}
use Rattle.volume_laws.specs.Placing.{IsPlace}
use Rattle.volume_laws.specs.State.{resident, state}
use Rattle.volume_laws.specs.Volume.{VolumeValue}
use Rattle.volume_laws.proofs.CauseLaws.{handed_cause}
use Rattle.volume_laws.proofs.CompleteLaws.{completes, ends_completed, whole_completed}
use Rattle.volume_laws.proofs.EditedLaws.{stayed}
use Rattle.volume_laws.proofs.EnterEnds.{ends_refused}
use Rattle.volume_laws.proofs.EnteredCalls.{enter_comes, idle_gone, none_waits, place_told, through_entered, waiting_were}
use Rattle.volume_laws.proofs.MakingLaws.{with_if}
use Rattle.volume_laws.proofs.MetCauses.{enter_cause}
use Rattle.volume_laws.proofs.WholeLaws.{whole_edited}
use Rattle.volume_laws.proofs.FreeStays.{version_worn}
use Rattle.volume_laws.proofs.RunFitLaws.{place_fits}
use Rattle.table_volume.proofs.volume.Volume.completed.Goals as goal

pub enter-done-requires-clause-runs : goal.enter-done-requires-clause-runs
enter-done-requires-clause-runs g c =
    place_fits c.self.inside.layout c.self.inside.shadow.unfinished c.self.invariant.unfinished (search rules) c.args.entry c.requires.good (subst (λ (x : VolumeValue). AreIn x.shadow.unfinished c.args.entry.runs) (sym c.self.view_is) c.requires.place.free)

pub free_gone_if-requires : goal.free_gone_if-requires
free_gone_if-requires g c = idle_gone _ _ _ _ c.as_slice.ensures.value c.in_ok-plan.ensures.entered.taken

pub ended-requires : goal.ended-requires
ended-requires g c =
    subst (λ (a : Area). AreIn a c.args.entry.runs) (sym c.free_gone_if.ensures.unfinished) (subst (λ (x : VolumeValue). AreIn x.shadow.unfinished c.args.entry.runs) (sym c.self.view_is) c.requires.place.free)

-- ---- none is entered

pub invariant_of-self : goal.invariant_of-self
invariant_of-self g c =
    let done = c.enter-done in
    whole_edited g.M.Machine _ c.over-source.result c.args.m.now done.new.m _ c.args.self.now c.self.view_is c.self.invariant _ done.new.self.cache done.new.self.free_pages c.in_err-plan.ensures.edits done.ensures.waiting c.requires.up c.requires.numbered

pub returns-in_err-plan-clause-order : goal.returns-in_err-plan-clause-order
returns-in_err-plan-clause-order g c =
    let p = err_from_is_err_and c.from_residual.result c.from_residual.ensures.1 in
    let done = c.enter-done in
    rw (p.1, p.2) (enter_comes _ c.args.self.now c.self.view_is g.M.Machine c.args.m.now done.new.m c.over-source.result c.args.name.now done.new.self.cache done.new.self.free_pages c.in_err-plan.field-0.0 c.in_err-plan.ensures.refused.fault.cause)

pub returns-in_err-plan-clause-disk : goal.returns-in_err-plan-clause-disk
returns-in_err-plan-clause-disk g c =
    reads_told (told_up device_of c.from_residual.result c.in_err-plan.field-0.0 c.from_residual.ensures.1 ∙ place_told c.in_err-plan.field-0.0) c.in_err-plan.ensures.edits.reads

pub returns-in_err-plan-clause-completes : goal.returns-in_err-plan-clause-completes
returns-in_err-plan-clause-completes g c =
    let p = err_from_is_err_and c.from_residual.result c.from_residual.ensures.1 in
    let done = c.enter-done in
    rw p.1 (stayed _ c.args.self.now c.self.view_is done.new.self.cache done.new.self.free_pages c.in_err-plan.ensures.refused.kept.dirty c.in_err-plan.ensures.refused.kept.same_flags)

pub returns-in_err-plan-clause-causes : goal.returns-in_err-plan-clause-causes
returns-in_err-plan-clause-causes g c =
    let done = c.enter-done in
    let w = c.args.self.now in
    handed_cause g.M.Machine (resident w) (state w) _ c.args.m.now done.new.m c.in_err-plan.field-0.0 c.from_residual.result c.from_residual.ensures.1
    (enter_cause g.M.Machine c.args.m.now done.new.m _ w c.self.view_is c.self.invariant done.new.self.cache done.new.self.free_pages c.over-source.result c.over-source.ensures c.home_a-home_a.result c.home_a-home_a.ensures.place c.in_err-plan.field-0.0
    c.in_err-plan.ensures.edits c.in_err-plan.ensures.refused.looks c.in_err-plan.ensures.refused.shown)

pub returns-in_err-plan-clause-done : goal.returns-in_err-plan-clause-done
returns-in_err-plan-clause-done g c = λ honest bytes k stands before there long written.
    let done = c.enter-done in
    let p = err_from_is_err_and c.from_residual.result c.from_residual.ensures.1 in
    rw (p.1, p.2)
    (ends_refused g.M.Machine g.met.M.Machine.short c.args.m.now done.new.m _ c.args.self.now c.self.view_is c.self.invariant c.attest.ensures done.new.self.cache done.new.self.free_pages c.over-source.result c.over-source.ensures
    c.dirty_list.ensures.valid c.args.name.now c.args.keep c.args.entry (Err c.in_err-plan.field-0.0) c.in_err-plan.field-0.0 refl c.in_err-plan.ensures.edits c.in_err-plan.ensures.refused.kept c.in_err-plan.ensures.refused.fault.cause honest k stands bytes)

-- ---- it is entered

pub invariant_of-self-2 : goal.invariant_of-self-2
invariant_of-self-2 g c =
    let done = c.enter-done in
    let plan = c.in_ok-plan in
    let frees = c.free_gone_if.ensures in
    let ends = c.ended.ensures in
    let place = subst (λ (x : VolumeValue). IsPlace x.shadow.unfinished (sectors_for c.args.entry.length) c.args.entry.runs) (sym c.self.view_is) c.requires.place in
    let none = c.is_empty-waits.ensures ∙ ap (λ (d : List ℕ). length d == 0) c.dirty_list.ensures.value in
    let removed = ends.removed ∙ frees.removed ∙ ap (with_if (not c.is_empty-waits.result) c.self.inside.shadow.removed) c.as_slice.ensures.value in
    let unfinished = ends.unfinished ∙ ap (λ (a : Area). without_sectors a c.args.entry.runs) frees.unfinished in
    let left = whole_edited g.M.Machine _ c.over-source.result c.args.m.now done.new.m _ c.args.self.now c.self.view_is c.self.invariant None done.new.self.cache done.new.self.free_pages plan.ensures.edits done.ensures.waiting c.requires.up c.requires.numbered in
    whole_completed _ c.args.self.now c.self.view_is c.self.invariant done.new.self.cache done.new.self.free_pages left c.args.entry.runs place.free
    plan.plan.gone.items plan.ensures.entered.taken _ (none_waits c.is_empty-waits.result done.new.self.cache.dirty none) c.ended.new.self c.versions_with_one-self-inside.result removed (ends.kept ∙ frees.kept) unfinished (ends.held ∙ frees.held)

pub returns-clause-name : goal.returns-clause-name
returns-clause-name g c = c.in_ok-plan.ensures.entered.name_is

pub returns-clause-order : goal.returns-clause-order
returns-clause-order g c = through_entered _ c.args.self.now c.self.view_is c.in_ok-plan.ensures.entered.full

pub returns-clause-completes : goal.returns-clause-completes
returns-clause-completes g c =
    let done = c.enter-done in
    let plan = c.in_ok-plan in
    let frees = c.free_gone_if.ensures in
    let ends = c.ended.ensures in
    let place = subst (λ (x : VolumeValue). IsPlace x.shadow.unfinished (sectors_for c.args.entry.length) c.args.entry.runs) (sym c.self.view_is) c.requires.place in
    let none = c.is_empty-waits.ensures ∙ ap (λ (d : List ℕ). length d == 0) c.dirty_list.ensures.value in
    let removed = ends.removed ∙ frees.removed ∙ ap (with_if (not c.is_empty-waits.result) c.self.inside.shadow.removed) c.as_slice.ensures.value in
    let unfinished = ends.unfinished ∙ ap (λ (a : Area). without_sectors a c.args.entry.runs) frees.unfinished in
    let left = whole_edited g.M.Machine _ c.over-source.result c.args.m.now done.new.m _ c.args.self.now c.self.view_is c.self.invariant None done.new.self.cache done.new.self.free_pages plan.ensures.edits done.ensures.waiting c.requires.up c.requires.numbered in
    completes _ c.args.self.now c.self.view_is c.self.invariant done.new.self.cache done.new.self.free_pages left c.args.entry.runs place.free
    plan.plan.gone.items plan.ensures.entered.taken _ (none_waits c.is_empty-waits.result done.new.self.cache.dirty none) c.ended.new.self c.versions_with_one-self-inside.result removed (ends.kept ∙ frees.kept) unfinished (ends.held ∙ frees.held)

pub returns-clause-done : goal.returns-clause-done
returns-clause-done g c = λ honest bytes k stands before there long written.
    let done = c.enter-done in
    let plan = c.in_ok-plan in
    let frees = c.free_gone_if.ensures in
    let ends = c.ended.ensures in
    let place = subst (λ (x : VolumeValue). IsPlace x.shadow.unfinished (sectors_for c.args.entry.length) c.args.entry.runs) (sym c.self.view_is) c.requires.place in
    let none = c.is_empty-waits.ensures ∙ ap (λ (d : List ℕ). length d == 0) c.dirty_list.ensures.value in
    let removed = ends.removed ∙ frees.removed ∙ ap (with_if (not c.is_empty-waits.result) c.self.inside.shadow.removed) c.as_slice.ensures.value in
    let unfinished = ends.unfinished ∙ ap (λ (a : Area). without_sectors a c.args.entry.runs) frees.unfinished in
    let left = whole_edited g.M.Machine _ c.over-source.result c.args.m.now done.new.m _ c.args.self.now c.self.view_is c.self.invariant None done.new.self.cache done.new.self.free_pages plan.ensures.edits done.ensures.waiting c.requires.up c.requires.numbered in
    let whole = whole_completed _ c.args.self.now c.self.view_is c.self.invariant done.new.self.cache done.new.self.free_pages left c.args.entry.runs place.free
    plan.plan.gone.items plan.ensures.entered.taken _ (none_waits c.is_empty-waits.result done.new.self.cache.dirty none) c.ended.new.self c.versions_with_one-self-inside.result removed (ends.kept ∙ frees.kept) unfinished (ends.held ∙ frees.held) in
    let were = waiting_were _ c.args.self.now c.self.view_is c.self.invariant c.requires.up in
    ends_completed g.M.Machine g.met.M.Machine.short c.args.m.now done.new.m _ c.args.self.now c.self.view_is c.self.invariant c.attest.ensures done.new.self.cache done.new.self.free_pages c.over-source.result c.over-source.ensures
    c.args.name.now c.args.keep c.args.entry plan.plan (search rules) (search rules) (subst (λ (x : VolumeValue). length x.cache.dirty ≤ 56) (sym c.self.view_is) c.requires.few) plan.ensures.edits done.ensures.changes (done.ensures.waiting were)
    plan.ensures.entered.planned plan.ensures.entered.full plan.ensures.entered.made place honest k stands before there bytes long
    (version_worn (g.M.Machine.now c.args.m.now) (g.M.Machine.now done.new.m) bytes c.args.entry (plan.ensures.edits.reads.worn honest) written)
    c.ended.new.self c.versions_with_one-self-inside.result (c.versions_with_one-self-inside.ensures ∙ ap (λ (n : ℕ). min (c.self.inside.versions - n + 1) 4294967295) c.len.ensures.value) c.is_empty-waits.result none removed (ends.kept ∙ frees.kept) unfinished (ends.held ∙ frees.held) whole
