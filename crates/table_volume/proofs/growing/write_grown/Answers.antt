use Rattle.std.proofs.Common.{inr, ℕ, max, subst, ap, ◌∙◌}
use Rattle.std.proofs.lemmas.Result.{on_ok_weaker}
use Rattle.volume_layout.specs.Root.{root_bytes}
use Rattle.sector_disk.specs.Calls.{GrowsDisk, device_in, failed_at}
use Rattle.sector_disk.specs.Machine.{Grows}
use Rattle.sector_disk.proofs.CallLaws.{grows_more, grows_then, grows_told, told_up, writes_as_grows}
use Rattle.twin_home.specs.Heal.{RootsIn}
use Rattle.table_volume.specs.Growing.{GrowsRoots, HasGrownRoots}
use Rattle.table_volume.proofs.GrowLaws.{grow_first, grow_then, over_longer}
use Rattle.table_volume.proofs.growing.write_grown.Goals as goal

pub returns-in_err-extend_image-clause-grows : goal.returns-in_err-extend_image-clause-grows
returns-in_err-extend_image-clause-grows g c =
    let M = g.M.Machine in
    subst (λ (n : ℕ). GrowsDisk M (device_in failed_at c.from_residual.result) (GrowsRoots n (root_bytes c.args.l.now)) c.args.m.now c.extend_image.new.m) c.sectors.ensures.value
    (grows_told (told_up failed_at c.from_residual.result c.in_err-extend_image.field-0.0 c.from_residual.ensures.1)
    (grows_more c.in_err-extend_image.ensures.grows (λ h left grows. grow_first c.sectors.result (root_bytes c.args.l.now) (M.now c.args.m.now) left grows)))

pub returns-clause-grows : goal.returns-clause-grows
returns-clause-grows g c =
    let M = g.M.Machine in
    let bytes = root_bytes c.args.l.now in
    let first = c.in_ok-extend_image.ensures in
    let wrote = c.write_roots.ensures.writes in
    subst (λ (n : ℕ). GrowsDisk M (device_in failed_at c.write_roots.result) (GrowsRoots n (root_bytes c.args.l.now)) c.args.m.now c.write_roots.new.m) c.sectors.ensures.value
    (grows_then {P = Grows c.sectors.result} {Q = RootsIn bytes} {R = GrowsRoots c.sectors.result bytes} first.grows (writes_as_grows wrote)
    (λ h left grows. grow_first c.sectors.result bytes (M.now c.args.m.now) left grows)
    (λ h left roots. inr (grow_then c.sectors.result (M.now c.args.m.now) (M.now c.extend_image.new.m) left (first.done (wrote.trust.honest h)) bytes roots)))

pub returns-clause-done : goal.returns-clause-done
returns-clause-done g c =
    let M = g.M.Machine in
    let old = M.now c.args.m.now in let mid = M.now c.extend_image.new.m in let new = M.now c.write_roots.new.m in
    let bytes = root_bytes c.args.l.now in
    on_ok_weaker c.write_roots.result
    (λ done h. subst (λ (n : ℕ). HasGrownRoots n bytes old new) c.sectors.ensures.value
    (over_longer c.sectors.result old mid new (c.in_ok-extend_image.ensures.done (c.write_roots.ensures.writes.trust.honest h)) bytes 1 1 (done h)))
    c.write_roots.ensures.done

pub returns-clause-sectors : goal.returns-clause-sectors
returns-clause-sectors g c =
    on_ok_weaker c.write_roots.result
    (λ done. c.write_roots.ensures.writes.uses.sectors ∙ c.in_ok-extend_image.ensures.sectors ∙ ap (max (g.M.Machine.report c.args.m.now).sectors) c.sectors.ensures.value)
    c.write_roots.ensures.done
