use Rattle.std.proofs.Common.{ap, sym, subst, ◌∙◌}
use Rattle.sector_disk.proofs.CallLaws.{reads_told}
use Rattle.fsd_bytes.specs.declared.key.Key.{Key}
use Rattle.fsd_bytes.specs.declared.refusal.Refusal.{Refusal}
use Rattle.std.specs.Prelude.{◌≡◌, IfOk, Result}
use Rattle.sector_disk.specs.Calls.{device_in}
use Rattle.volume_contract.specs.Ends.{device_of}
use Rattle.volume_contract.specs.Order.{Follows}
use Rattle.version_table.specs.Fault.{outer_met}
use Rattle.volume_laws.specs.Ending.{edit_steps}
use Rattle.volume_laws.proofs.ChangeEnds.{keep_ended}
use Rattle.volume_laws.proofs.EditedLaws.{keep_causes, keep_edits, keep_follows, keep_memory, keep_name, keep_place}
use Rattle.volume_laws.proofs.MemoryLaws.{enough_in}
use Rattle.volume_laws.proofs.WholeLaws.{whole_edited}
use Rattle.table_volume.proofs.TableCallLaws.{given_each, kept_each}
use Rattle.table_volume.proofs.volume.Volume.keep_found.Goals as goal

pub invariant_of-self : goal.invariant_of-self
invariant_of-self g c =
    let edits = c.set_keep-done.ensures.edits in
    whole_edited g.M.Machine _ c.over-source.result c.args.m.now c.set_keep-done.new.m _ c.args.self.now c.self.view_is c.self.invariant (outer_met c.set_keep-done.result) c.set_keep-done.new.self.cache c.set_keep-done.new.self.free_pages
    edits c.set_keep-done.ensures.waiting c.requires.up c.requires.numbered

pub returns-clause-order : goal.returns-clause-order
returns-clause-order g c = subst (λ (r : Result Key Refusal). Follows edit_steps r) (sym c.kept_told.ensures) (keep_follows c.set_keep-done.result)

pub returns-clause-disk : goal.returns-clause-disk
returns-clause-disk g c = reads_told (ap (device_in device_of) c.kept_told.ensures ∙ keep_place c.set_keep-done.result) c.set_keep-done.ensures.edits.reads

pub returns-clause-edited : goal.returns-clause-edited
returns-clause-edited g c =
    keep_edits _ c.args.self.now c.self.view_is c.set_keep-done.new.self.cache c.set_keep-done.new.self.free_pages g.M.Machine c.args.m.now c.set_keep-done.new.m c.over-source.result c.set_keep-done.result c.kept_told.result c.kept_told.ensures
    (kept_each c.set_keep-done.result (λ fault none. none.kept) c.set_keep-done.ensures.failed)

pub returns-clause-tells : goal.returns-clause-tells
returns-clause-tells g c =
    let done = c.set_keep-done.ensures in
    let r = c.set_keep-done.result in
    record {
      name = subst (λ (r : Result Key Refusal). IfOk r (λ key. key.name ≡ c.args.name.now)) (sym c.kept_told.ensures) (keep_name c.args.name.now r (given_each r (λ key gives. gives.name_is) done.set));
      memory = λ has wants. done.memory (enough_in _ c.args.self.now c.self.view_is c.self.invariant c.args.name.now has) (keep_memory r (sym c.kept_told.ensures ∙ wants));
      causes = keep_causes _ c.args.self.now c.self.view_is c.set_keep-done.new.self.cache c.set_keep-done.new.self.free_pages g.M.Machine c.args.m.now c.set_keep-done.new.m c.over-source.result c.self.invariant c.over-source.ensures r c.kept_told.result
          c.kept_told.ensures done.edits;
    }

pub returns-clause-done : goal.returns-clause-done
returns-clause-done g c = λ honest k stands.
    let r = c.set_keep-done.result in
    let gives = c.set_keep-done.ensures.set in
    let failed = c.set_keep-done.ensures.failed in
    let edits = c.set_keep-done.ensures.edits in
    let whole_left =
    whole_edited g.M.Machine _ c.over-source.result c.args.m.now c.set_keep-done.new.m _ c.args.self.now c.self.view_is c.self.invariant (outer_met c.set_keep-done.result) c.set_keep-done.new.self.cache c.set_keep-done.new.self.free_pages
    edits c.set_keep-done.ensures.waiting c.requires.up c.requires.numbered in
    keep_ended g.M.Machine g.met.M.Machine.short c.args.m.now c.set_keep-done.new.m _ c.args.self.now c.self.view_is c.self.invariant c.attest.ensures c.set_keep-done.new.self.cache c.attest-2.ensures c.set_keep-done.new.self.free_pages
    honest k stands c.args.name.now c.args.keep c.requires.keep c.requires.few c.home_a-home_a.result c.over-source.result c.over-source.ensures c.set_keep-done.result c.kept_told.result c.kept_told.ensures
    edits (kept_each r (λ fault none. none.kept) failed) (given_each r (λ key gives. gives.one) gives) (given_each r (λ key gives. gives.set) gives) (kept_each r (λ fault none. none.cause) failed) whole_left
