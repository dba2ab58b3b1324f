use Rattle.std.proofs.Common.{◌≡◌, inl, inr, ⊎_elim, ℕ, Some, refl, sym, ap, subst, ◌∙◌, arith, option_map}
use Rattle.std.specs.Prelude.{IsTrue}
use Rattle.volume_layout.specs.declared.kind.Kind.TheVariants.{Two, Three}
use Rattle.volume_layout.specs.declared.layout.Layout.{Layout}
use Rattle.volume_layout.specs.Layout.{with_kind}
use Rattle.volume_layout.specs.Root.{root_bytes}
use Rattle.volume_layout.proofs.RootLaws.{planned_bounds}
use Rattle.sector_disk.specs.Image.{stand}
use Rattle.sector_disk.specs.Machine.{Holds as HoldsImage, Moment}
use Rattle.sector_disk.proofs.CallLaws.{told_up, writes_more, writes_none, writes_told}
use Rattle.fsd_bytes.specs.declared.refusal.Refusal.TheVariants as Why
use Rattle.twin_home.specs.Heal.{RootsIn}
use Rattle.volume_contract.specs.Ends.{device_of}
use Rattle.volume_contract.specs.Order.{is_root, layout_is, with_three}
use Rattle.volume_contract.specs.State.{Stands}
use Rattle.volume_contract.specs.Upgrade.{LeavesUpgraded, upgraded_known}
use Rattle.volume_laws.specs.State.{IsMemoryOf, state}
use Rattle.volume_laws.proofs.ForceLeavesLaws.{down_tells_none}
use Rattle.volume_laws.proofs.ForceMomentLaws.{touches_none}
use Rattle.volume_laws.specs.Volume.{IsWholeVolume, VolumeValue}
use Rattle.volume_laws.proofs.NextLaws.{up_by}
use Rattle.table_volume.specs.declared.volume.Volume.TheInside.{Inside}
use Rattle.table_volume.proofs.UpgradeLaws.{busy_upgrade, roots_stand, roots_touch, stands_upgraded, upgrade_leaves, upgrade_still, whole_upgraded, with_kind_three}
use Rattle.table_volume.proofs.files.VolumeFiles.upgrade.Given as given
use Rattle.table_volume.proofs.files.VolumeFiles.upgrade.Goals as goal
use Rattle.std.proofs.lemmas.Result.{err_from_is_err_and}
use Rattle.volume_layout.specs.declared.kind.Kind.{Kind}
use Rattle.table_volume.proofs.DownLaws.{down_step}
use Rattle.table_volume.proofs.files.VolumeFiles.upgrade.Goals.{After-write_roots}

-- the volume of these fields
abbrev value : Inside → VolumeValue
value s = record { layout = s.layout; map = s.map; shadow = s.shadow; log = s.log; cache = s.table.cache; free_pages = s.table.free_pages; serial = s.serial; versions = s.versions; down = s.down }

-- it had layout 1
was_two : (g : given.Over) (c : After-write_roots g) → c.args.self.now.layout.kind ≡ Two
was_two g c = ap (λ (x : VolumeValue). x.layout.kind) (sym c.self.view_is) ∙ sym c.kind.ensures ∙ c.in-Two.is

-- the roots are those of layout 2
three_is : (g : given.Over) (c : After-write_roots g) → c.with_kind-layout.result ≡ with_kind Three c.args.self.now.layout
three_is g c = c.with_kind-layout.ensures ∙ ap (λ (x : VolumeValue). with_kind Three x.layout) c.self.view_is

leaves : (g : given.Over) (c : After-write_roots g) → (old left : Moment) → RootsIn (root_bytes c.with_kind-layout.result) old left → LeavesUpgraded state IsMemoryOf c.args.self.now is_root old left
leaves g c old left roots k stands =
    upgrade_leaves c.args.self.now k old (was_two g c) c.requires.fresh stands left (subst (λ (l : Layout). RootsIn (root_bytes l) old left) (three_is g c) roots)

pub returns-in_err-is_up-clause-order : goal.returns-in_err-is_up-clause-order
returns-in_err-is_up-clause-order g c =
    let v = c.args.self.now in
    let why = c.in_err-is_up.field-0.0 in
    let p = err_from_is_err_and c.from_residual.result c.from_residual.ensures.1 in
    rw (p.1, p.2) (record { follows = inl (down_step v.down why (sym c.in_err-is_up.ensures)); idle = λ idle. refl })

pub returns-in_err-is_up-clause-disk : goal.returns-in_err-is_up-clause-disk
returns-in_err-is_up-clause-disk g c =
    let v = c.args.self.now in
    let at = c.args.m.now in
    let why = c.in_err-is_up.field-0.0 in
    writes_told (told_up device_of c.from_residual.result why c.from_residual.ensures.1 ∙ down_tells_none v.down why (sym c.in_err-is_up.ensures))
    (writes_none at (λ left h is. g.met.M.Machine.only_now at left h is) (LeavesUpgraded state IsMemoryOf v is_root) (λ h. upgrade_still v (g.M.Machine.now at)))

pub returns-in_err-is_up-clause-writes : goal.returns-in_err-is_up-clause-writes
returns-in_err-is_up-clause-writes g c =
    let p = err_from_is_err_and c.from_residual.result c.from_residual.ensures.1 in
    rw p.1 (record { rest = λ h. touches_none is_root (g.M.Machine.now c.args.m.now); counted = λ tells. (omega arith, omega arith) })

pub returns-in-Three-clause-order : goal.returns-in-Three-clause-order
returns-in-Three-clause-order g c =
    let s = state c.args.self.now in
    let up = up_by c.args.self.now.down (sym c.in_ok-is_up.ensures) in
    let three = ap (λ (x : VolumeValue). x.layout.kind) (sym c.self.view_is) ∙ sym c.kind.ensures ∙ c.in-Three.is in
    record { follows = inr (ap (option_map Why.Down) up, inl (ap (λ (k : Kind). layout_is s k) three)); idle = λ idle. refl }

pub returns-in-Three-clause-disk : goal.returns-in-Three-clause-disk
returns-in-Three-clause-disk g c =
    let M = g.M.Machine in
    writes_none c.args.m.now (λ left h is. g.met.M.Machine.only_now c.args.m.now left h is) (LeavesUpgraded state IsMemoryOf c.args.self.now is_root) (λ h. upgrade_still c.args.self.now (M.now c.args.m.now))

pub returns-in-Three-clause-writes : goal.returns-in-Three-clause-writes
returns-in-Three-clause-writes g c = record { rest = λ h. touches_none is_root (g.M.Machine.now c.args.m.now); counted = λ tells. (omega arith, omega arith) }

pub returns-in-Ok-clause-order : goal.returns-in-Ok-clause-order
returns-in-Ok-clause-order g c =
    let s = state c.args.self.now in
    let up = up_by c.args.self.now.down (sym c.in_ok-is_up.ensures) in
    let two = was_two g (goal.at.returns-in-Ok-clause-order g c).After-write_roots in
    record { follows = (ap (option_map Why.Down) up, (ap (λ (k : Kind). layout_is s k) two, (tt, tt))); idle = λ idle. absurd (busy_upgrade s up two idle) }

pub returns-in-Ok-clause-disk : goal.returns-in-Ok-clause-disk
returns-in-Ok-clause-disk g c =
    let M = g.M.Machine in
    writes_more c.in-Ok.ensures.writes (λ h left roots. leaves g (goal.at.returns-in-Ok-clause-disk g c).After-write_roots (M.now c.args.m.now) left roots)

pub returns-in-Ok-clause-writes : goal.returns-in-Ok-clause-writes
returns-in-Ok-clause-writes g c =
    let M = g.M.Machine in
    let wrote = c.in-Ok.ensures in
    record {
      rest = λ h. roots_touch (root_bytes c.with_kind-layout.result) (M.now c.args.m.now) (M.now c.write_roots.new.m) (wrote.writes.exit h);
      counted = λ tells. ap (λ l. l.written) (wrote.counted tells);
    }

pub invariant_of-self : goal.invariant_of-self
invariant_of-self g c =
    let v = value c.self.inside in
    subst IsWholeVolume (λ i. record v { layout = sym c.with_kind-layout.ensures i; log = sym c.set_kind.ensures i }) (whole_upgraded v c.self.invariant)

pub returns-in-Ok-clause-state : goal.returns-in-Ok-clause-state
returns-in-Ok-clause-state g c =
    let v = value c.self.inside in
    (λ i. state (record v { layout = c.with_kind-layout.ensures i; log = c.set_kind.ensures i })) ∙ ap (λ (x : VolumeValue). with_three (state x)) c.self.view_is

pub returns-in-Ok-clause-roots : goal.returns-in-Ok-clause-roots
returns-in-Ok-clause-roots g c h =
    let M = g.M.Machine in
    let back = c.in-Ok.ensures.writes.trust.honest h in
    let sized = g.met.M.Machine.sized c.args.m.now back in
    let bounds = planned_bounds c.self.inside.layout c.self.invariant.planned in
    let same : c.self.inside.layout.sectors ≡ c.args.self.now.layout.sectors = ap (λ (x : VolumeValue). x.layout.sectors) c.self.view_is in
    roots_stand c.with_kind-layout.result (M.now c.args.m.now) (M.now c.write_roots.new.m) (omega (arith, sized, bounds.sectors_least, same, c.requires.room)) (c.in-Ok.ensures.done h)

pub returns-in-Ok-clause-done : goal.returns-in-Ok-clause-done
returns-in-Ok-clause-done g c h k stands =
    let M = g.M.Machine in
    let old = M.now c.args.m.now in let new = M.now c.write_roots.new.m in
    let v = value c.self.inside in
    let w : VolumeValue = record v { layout = c.with_kind-layout.result; log = c.set_kind.new.self } in
    let c1 = (goal.at.returns-in-Ok-clause-done g c).After-write_roots in
    let holds = subst (λ (l : Layout). HoldsImage old (stand (stand old.image 0 (root_bytes l) 1) 4 (root_bytes l) 1) new) (three_is g c1) (c.in-Ok.ensures.done h) in
    let is : with_kind_three v ≡ w = (λ i. record v { layout = sym c.with_kind-layout.ensures i; log = sym c.set_kind.ensures i }) in
    subst (λ (x : VolumeValue). Stands state IsMemoryOf x (upgraded_known k) new) (ap with_kind_three (sym c.self.view_is) ∙ is) (stands_upgraded c.args.self.now k old (was_two g c1) c.requires.fresh stands new holds)

pub returns-in-Err-clause-order : goal.returns-in-Err-clause-order
returns-in-Err-clause-order g c =
    let s = state c.args.self.now in
    let up = up_by c.args.self.now.down (sym c.in_ok-is_up.ensures) in
    let two = was_two g (goal.at.returns-in-Err-clause-order g c).After-write_roots in
    let place : IsTrue (is_root c.in-Err.failed.place) = ⊎_elim (λ e. subst (λ (p : ℕ). IsTrue (is_root p)) (sym e) refl) (λ e. subst (λ (p : ℕ). IsTrue (is_root p)) (sym e) refl) c.in-Err.ensures.place in
    record { follows = inr (ap (option_map Why.Down) up, inr (ap (λ (k : Kind). layout_is s k) two, inl place)); idle = λ idle. absurd (busy_upgrade s up two idle) }

pub returns-in-Err-clause-disk : goal.returns-in-Err-clause-disk
returns-in-Err-clause-disk g c =
    let M = g.M.Machine in
    writes_more c.in-Err.ensures.writes (λ h left roots. leaves g (goal.at.returns-in-Err-clause-disk g c).After-write_roots (M.now c.args.m.now) left roots)

pub returns-in-Err-clause-writes : goal.returns-in-Err-clause-writes
returns-in-Err-clause-writes g c =
    let M = g.M.Machine in
    let failed = c.in-Err.ensures in
    record {
      rest = λ h. roots_touch (root_bytes c.with_kind-layout.result) (M.now c.args.m.now) (M.now c.write_roots.new.m) (failed.writes.exit h);
      counted = λ tells. (failed.least tells, failed.most tells);
    }

pub returns-in-Err-clause-state : goal.returns-in-Err-clause-state
returns-in-Err-clause-state g c =
    let at = c.in-Err.failed.place in
    let two = was_two g (goal.at.returns-in-Err-clause-state g c).After-write_roots in
    let place : IsTrue (is_root c.in-Err.failed.place) = ⊎_elim (λ e. subst (λ (p : ℕ). IsTrue (is_root p)) (sym e) refl) (λ e. subst (λ (p : ℕ). IsTrue (is_root p)) (sym e) refl) c.in-Err.ensures.place in
    inr (
      ap (option_map Why.Down) (up_by c.args.self.now.down (sym c.in_ok-is_up.ensures)),
      inr (ap (layout_is (state c.args.self.now)) two, (place, ap (λ (x : VolumeValue). record (state x) { down = Some at }) c.self.view_is)),
    )
