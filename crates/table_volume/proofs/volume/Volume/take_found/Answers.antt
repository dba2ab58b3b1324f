use Rattle.std.proofs.Common.{◌≡◌, true, None, Err, refl, sym, ap, subst}
use Rattle.fsd_bytes.specs.declared.refusal.Refusal.{Refusal}
use Rattle.sector_disk.proofs.CallLaws.{reads_told}
use Rattle.name_btree.specs.Fault.{outer_of}
use Rattle.volume_laws.specs.Taken.{are_taken}
use Rattle.volume_laws.specs.Volume.{VolumeValue}
use Rattle.volume_laws.proofs.DeleteEnds.{delete_failed, deleted_ends}
use Rattle.volume_laws.proofs.EditedLaws.{out_causes, out_edited, out_follows, out_place, out_stays}
use Rattle.volume_laws.proofs.GivenUpLaws.{agree_runs, idle_runs, whole_given}
use Rattle.volume_laws.proofs.WholeLaws.{whole_edited}
use Rattle.table_volume.proofs.volume.Volume.take_found.Goals as goal

pub give_up-requires-clause-idle : goal.give_up-requires-clause-idle
give_up-requires-clause-idle g c = idle_runs _ c.self.invariant c.args.entry.now.runs (subst (λ (x : VolumeValue). are_taken x c.args.entry.now.runs ≡ true) (sym c.self.view_is) c.requires.taken)

pub give_up-requires-clause-agree : goal.give_up-requires-clause-agree
give_up-requires-clause-agree g c = agree_runs _ c.self.invariant c.args.entry.now.runs (subst (λ (x : VolumeValue). are_taken x c.args.entry.now.runs ≡ true) (sym c.self.view_is) c.requires.taken)

pub invariant_of-self : goal.invariant_of-self
invariant_of-self g c =
    let done = c.take_out-done in
    let left =
    whole_edited g.M.Machine _ c.over-source.result c.args.m.now done.new.m _ c.args.self.now c.self.view_is c.self.invariant None done.new.self.cache done.new.self.free_pages c.in-Ok.ensures.edits done.ensures.waiting c.requires.up c.requires.numbered in
    whole_given _ left c.args.entry.now.runs (subst (λ (x : VolumeValue). are_taken x c.args.entry.now.runs ≡ true) (sym c.self.view_is) c.requires.taken) c.give_up.new.shadow c.give_up.new.versions c.give_up.ensures

pub invariant_of-self-in-Err : goal.invariant_of-self-in-Err
invariant_of-self-in-Err g c =
    let done = c.take_out-done in
    whole_edited g.M.Machine _ c.over-source.result c.args.m.now done.new.m _ c.args.self.now c.self.view_is c.self.invariant (outer_of c.in-Err.fault) done.new.self.cache done.new.self.free_pages c.in-Err.ensures.edits done.ensures.waiting c.requires.up c.requires.numbered

pub returns-in-Ok-clause-disk : goal.returns-in-Ok-clause-disk
returns-in-Ok-clause-disk g c = c.in-Ok.ensures.edits.reads

pub returns-in-Ok-clause-edited : goal.returns-in-Ok-clause-edited
returns-in-Ok-clause-edited g c =
    out_edited _ c.args.self.now c.self.view_is c.take_out-done.new.self.cache c.take_out-done.new.self.free_pages c.take_out-done.new.self.cache.dirty c.args.entry.now.runs c.give_up.new.shadow c.give_up.new.versions c.give_up.ensures

pub returns-in-Ok-clause-done : goal.returns-in-Ok-clause-done
returns-in-Ok-clause-done g c = λ honest k stands there.
    let done = c.take_out-done in
    let left =
    whole_edited g.M.Machine _ c.over-source.result c.args.m.now done.new.m _ c.args.self.now c.self.view_is c.self.invariant None done.new.self.cache done.new.self.free_pages c.in-Ok.ensures.edits done.ensures.waiting c.requires.up c.requires.numbered in
    let whole =
    whole_given _ left c.args.entry.now.runs (subst (λ (x : VolumeValue). are_taken x c.args.entry.now.runs ≡ true) (sym c.self.view_is) c.requires.taken) c.give_up.new.shadow c.give_up.new.versions c.give_up.ensures in
    deleted_ends g.M.Machine g.met.M.Machine.short c.args.m.now done.new.m _ c.args.self.now c.self.view_is c.self.invariant c.attest.ensures done.new.self.cache c.attest-2.ensures done.new.self.free_pages honest k stands
    c.over-source.result c.over-source.ensures c.args.entry.now.key c.args.entry.now refl there c.requires.few c.in-Ok.ensures.edits done.ensures.waiting c.requires.up done.ensures.changes c.in-Ok.ensures.made c.give_up.new.shadow c.give_up.new.versions c.give_up.ensures whole

pub returns-in-Err-clause-order : goal.returns-in-Err-clause-order
returns-in-Err-clause-order g c =
    out_follows _ c.args.self.now c.self.view_is c.take_out-done.new.self.cache c.take_out-done.new.self.free_pages g.M.Machine c.args.m.now c.take_out-done.new.m c.over-source.result c.in-Err.fault {T = Unit {0}} _ (ap (λ (x : Refusal). Err x) c.edit_refusal.ensures)

pub returns-in-Err-clause-disk : goal.returns-in-Err-clause-disk
returns-in-Err-clause-disk g c =
    reads_told (out_place _ c.args.self.now c.self.view_is c.take_out-done.new.self.cache c.take_out-done.new.self.free_pages g.M.Machine c.args.m.now c.take_out-done.new.m c.over-source.result c.in-Err.fault {T = Unit {0}} _ (ap (λ (x : Refusal). Err x) c.edit_refusal.ensures)) c.in-Err.ensures.edits.reads

pub returns-in-Err-clause-edited : goal.returns-in-Err-clause-edited
returns-in-Err-clause-edited g c =
    out_stays _ c.args.self.now c.self.view_is c.take_out-done.new.self.cache c.take_out-done.new.self.free_pages g.M.Machine c.args.m.now c.take_out-done.new.m c.over-source.result c.in-Err.fault {T = Unit {0}} _ (ap (λ (x : Refusal). Err x) c.edit_refusal.ensures) c.in-Err.ensures.kept

pub returns-in-Err-clause-causes : goal.returns-in-Err-clause-causes
returns-in-Err-clause-causes g c =
    out_causes _ c.args.self.now c.self.view_is c.take_out-done.new.self.cache c.take_out-done.new.self.free_pages g.M.Machine c.args.m.now c.take_out-done.new.m c.over-source.result c.in-Err.fault {T = Unit {0}} _ (ap (λ (x : Refusal). Err x) c.edit_refusal.ensures) c.self.invariant c.over-source.ensures c.in-Err.ensures.edits

pub returns-in-Err-clause-done : goal.returns-in-Err-clause-done
returns-in-Err-clause-done g c = λ honest k stands there.
    let done = c.take_out-done in
    delete_failed g.M.Machine g.met.M.Machine.short c.args.m.now done.new.m _ c.args.self.now c.self.view_is c.self.invariant c.attest.ensures done.new.self.cache c.attest-2.ensures done.new.self.free_pages honest k stands
    c.over-source.result c.over-source.ensures c.args.entry.now.key c.home_a-home_a.result c.in-Err.fault c.in-Err.ensures.edits c.in-Err.ensures.kept c.in-Err.ensures.fault _ (ap (λ (x : Refusal). Err x) c.edit_refusal.ensures)
