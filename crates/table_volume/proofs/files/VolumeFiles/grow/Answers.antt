use Rattle.std.proofs.Common.{◌≡◌, ◌<◌, ◌≤◌, inl, inr, ℕ, [], ◌∷◌, None, Some, Err, refl, sym, ap, subst, ◌∙◌, arith}
use Rattle.std.proofs.lemmas.Result.{err_from_is_err_and}
use Rattle.volume_layout.specs.declared.layout.Layout.{Layout}
use Rattle.volume_layout.specs.Layout.{most_of, with_sectors}
use Rattle.volume_layout.specs.Root.{root_bytes}
use Rattle.volume_layout.proofs.RootLaws.{planned_bounds}
use Rattle.run_table.proofs.SectorLaws.{total_of_runs}
use Rattle.fsd_bytes.specs.declared.refusal.Refusal.{Refusal}
use Rattle.sector_disk.specs.Image.{AreShort, open_damage}
use Rattle.sector_disk.specs.Machine.{Moment}
use Rattle.sector_disk.proofs.CallLaws.{grows_more, grows_told, told_up, writes_as_grows, writes_none}
use Rattle.sector_disk.proofs.Extended.{length-extended}
use Rattle.fsd_files.specs.Disk.{TouchesLonger}
use Rattle.fsd_sound.specs.Laid.{StandsTwice}
use Rattle.volume_contract.specs.Ends.{device_of}
use Rattle.volume_contract.specs.Growth.{EndsGrow, LeavesGrown, grown_known}
use Rattle.volume_contract.specs.Order.{Roots, is_root}
use Rattle.volume_contract.specs.State.{Stands}
use Rattle.volume_laws.specs.Grown.{value_grown}
use Rattle.volume_laws.specs.State.{IsMemoryOf, state}
use Rattle.volume_laws.specs.Volume.{IsWholeVolume, VolumeValue}
use Rattle.volume_laws.proofs.GrowthLaws.{state_grown}
use Rattle.volume_laws.proofs.StepLaws.{comes_more}
use Rattle.table_volume.specs.Growing.{GrowsRoots, HasGrownRoots, grow_tests, longer}
use Rattle.table_volume.proofs.GrowLaws.{busy_growth, grow_leaves, grow_still, grow_tested, grow_touches, grows_between, stands_grown}
use Rattle.table_volume.proofs.UpgradeLaws.{roots_stand}
use Rattle.table_volume.proofs.files.VolumeFiles.grow.Given as given
use Rattle.table_volume.proofs.files.VolumeFiles.grow.Goals.{After-write_grown}
use Rattle.table_volume.proofs.files.VolumeFiles.grow.Goals as goal

-- ---- where a test refuses

pub returns-in_err-may_grow-clause-order : goal.returns-in_err-may_grow-clause-order
returns-in_err-may_grow-clause-order g c =
    let p = err_from_is_err_and c.from_residual.result c.from_residual.ensures.1 in
    rw (p.1, p.2) (record {
      follows = comes_more (grow_tests (state c.args.self.now) c.args.sectors) (Roots ∷ []) c.in_err-may_grow.field-0.0 c.in_err-may_grow.ensures;
      idle = λ idle. refl;
    })

pub returns-in_err-may_grow-clause-disk : goal.returns-in_err-may_grow-clause-disk
returns-in_err-may_grow-clause-disk g c =
    let v = c.args.self.now in
    let at = c.args.m.now in
    let why = c.in_err-may_grow.field-0.0 in
    grows_told (told_up device_of c.from_residual.result why c.from_residual.ensures.1 ∙ grow_tested (λ (x : Refusal). device_of x ≡ None) (state v) c.args.sectors (λ place is. refl) refl refl why c.in_err-may_grow.ensures)
    (writes_as_grows (writes_none at (λ left h is. g.met.M.Machine.only_now at left h is) (LeavesGrown state IsMemoryOf c.args.sectors v is_root) (λ h. grow_still c.args.sectors v (g.M.Machine.now at))))

pub returns-in_err-may_grow-clause-done : goal.returns-in_err-may_grow-clause-done
returns-in_err-may_grow-clause-done g c =
    let v = c.args.self.now in
    let now = g.M.Machine.now c.args.m.now in
    let p = err_from_is_err_and c.from_residual.result c.from_residual.ensures.1 in
    rw (p.1, p.2) (λ h k stands. grow_tested (λ (x : Refusal). EndsGrow state IsMemoryOf {T = ℕ} c.args.sectors k v now (Err x)) (state v) c.args.sectors
    (λ place is. absurd (let up = stands.fits.up in cc (is, up))) stands stands c.in_err-may_grow.field-0.0 c.in_err-may_grow.ensures)

-- ---- where the roots are written

module _ (g : given.Over) (c : After-write_grown g) where
  abbrev v : VolumeValue
  v = c.args.self.now

  abbrev n : ℕ
  n = c.args.sectors

  -- it gets more sectors, and no more than it may have
  between : (c.args.self.now.layout.sectors < n) × (n ≤ most_of c.args.self.now.layout)
  between = grows_between c.args.self.now.layout n c.in_ok-may_grow.ensures.1.0

  layout_is : c.with_sectors-layout.result ≡ with_sectors n c.args.self.now.layout
  layout_is = c.with_sectors-layout.ensures.value ∙ ap (λ (x : VolumeValue). with_sectors n x.layout) c.self.view_is

  leaves : g.M.Machine.honest c.args.m.now → (old left : Moment) → old ≡ g.M.Machine.now c.args.m.now → GrowsRoots c.with_sectors-layout.result.sectors (root_bytes c.with_sectors-layout.result) old left → LeavesGrown state IsMemoryOf c.args.sectors v is_root old left
  leaves h old left is roots k stands =
      grow_leaves v k old n between.0 between.1 (subst (λ (m : Moment). AreShort m.windows) (sym is) (g.met.M.Machine.short c.args.m.now h)) stands left
      (subst (λ (l : Layout). GrowsRoots l.sectors (root_bytes l) old left) layout_is roots)

  touches : (old left : Moment) → GrowsRoots c.with_sectors-layout.result.sectors (root_bytes c.with_sectors-layout.result) old left → TouchesLonger c.args.sectors is_root old left
  touches old left roots =
      subst (λ (k : ℕ). TouchesLonger k is_root old left) (ap (λ (l : Layout). l.sectors) layout_is)
      (grow_touches c.with_sectors-layout.result.sectors (root_bytes c.with_sectors-layout.result) old left roots)

  whole : IsWholeVolume c.args.self.now
  whole = subst IsWholeVolume c.self.view_is c.self.invariant

  roots_of : (old new : Moment) → HasGrownRoots c.with_sectors-layout.result.sectors (root_bytes c.with_sectors-layout.result) old new → HasGrownRoots n (root_bytes (with_sectors n v.layout)) old new
  roots_of old new roots = subst (λ (l : Layout). HasGrownRoots l.sectors (root_bytes l) old new) layout_is roots

  grown_is : (new : VolumeValue) → new ≡ value_grown c.with_sectors-layout.result.sectors c.args.self.now → new ≡ value_grown n c.args.self.now
  grown_is new is = is ∙ ap (λ (l : Layout). value_grown l.sectors c.args.self.now) layout_is

pub returns-in-Ok-clause-order : goal.returns-in-Ok-clause-order
returns-in-Ok-clause-order g c =
    let through = c.in_ok-may_grow.ensures in
    record { follows = (through.0, (through.1.0, (tt, tt))); idle = λ idle. absurd (busy_growth (state c.args.self.now) c.args.sectors through.0 through.1.0 idle) }

pub returns-in-Ok-clause-disk : goal.returns-in-Ok-clause-disk
returns-in-Ok-clause-disk g c =
    let M = g.M.Machine in
    let grows = c.in-Ok.ensures.grows in
    grows_more grows (λ h left roots. leaves g (goal.at.returns-in-Ok-clause-disk g c).After-write_grown (grows.trust.honest h) (M.now c.args.m.now) left refl roots)

pub returns-in-Ok-clause-writes : goal.returns-in-Ok-clause-writes
returns-in-Ok-clause-writes g c =
    let M = g.M.Machine in
    let at = (goal.at.returns-in-Ok-clause-writes g c).After-write_grown in
    record { rest = λ h. touches g at (M.now c.args.m.now) (M.now c.write_grown.new.m) (c.in-Ok.ensures.grows.exit h); counted = c.in-Ok.ensures.counted }

pub returns-in-Ok-clause-state : goal.returns-in-Ok-clause-state
returns-in-Ok-clause-state g c =
    let at = (goal.at.returns-in-Ok-clause-state g c).After-write_grown in
    let v = c.args.self.now in let n = c.args.sectors in
    let grown = grown_is g at c.grown.new.self c.grown.ensures.value in
    record {
      state = ap state grown ∙ state_grown v n (between g at).0 (between g at).1 (whole g at);
      free = c.grown.ensures.free ∙ sym (total_of_runs c.grown.new.self.map.sectors);
      sectors = omega (arith, c.in-Ok.ensures.sectors, ap (λ (l : Layout). l.sectors) (layout_is g at));
    }

pub returns-in-Ok-clause-roots : goal.returns-in-Ok-clause-roots
returns-in-Ok-clause-roots g c h =
    let at = (goal.at.returns-in-Ok-clause-roots g c).After-write_grown in
    let M = g.M.Machine in
    let old = M.now c.args.m.now in let new = M.now c.write_grown.new.m in
    let v = c.args.self.now in let n = c.args.sectors in
    let grown = grown_is g at c.grown.new.self c.grown.ensures.value in
    let sized = g.met.M.Machine.sized c.args.m.now (c.in-Ok.ensures.grows.trust.honest h) in
    let bounds = planned_bounds v.layout (whole g at).planned in
    subst (λ (x : VolumeValue). StandsTwice 1 (open_damage new.windows) new.image (root_bytes x.layout) 0 4) (sym grown)
    (roots_stand (with_sectors n v.layout) (longer n old) new (omega (arith, sized, bounds.sectors_least, c.requires, length-extended n old.image)) (roots_of g at old new (c.in-Ok.ensures.done h)))

pub returns-in-Ok-clause-done : goal.returns-in-Ok-clause-done
returns-in-Ok-clause-done g c h k stands =
    let at = (goal.at.returns-in-Ok-clause-done g c).After-write_grown in
    let M = g.M.Machine in
    let old = M.now c.args.m.now in let new = M.now c.write_grown.new.m in
    let v = c.args.self.now in let n = c.args.sectors in
    let grown = grown_is g at c.grown.new.self c.grown.ensures.value in
    let short = g.met.M.Machine.short c.args.m.now (c.in-Ok.ensures.grows.trust.honest h) in
    subst (λ (x : VolumeValue). Stands state IsMemoryOf x (grown_known n k) new) (sym grown) (stands_grown v k old n (between g at).0 (between g at).1 short stands (whole g at) new (roots_of g at old new (c.in-Ok.ensures.done h)))

pub returns-in-Err-clause-order : goal.returns-in-Err-clause-order
returns-in-Err-clause-order g c =
    let through = c.in_ok-may_grow.ensures in
    record { follows = inr (through.0, inr (through.1.0, inl c.in-Err.ensures.place)); idle = λ idle. absurd (busy_growth (state c.args.self.now) c.args.sectors through.0 through.1.0 idle) }

pub returns-in-Err-clause-disk : goal.returns-in-Err-clause-disk
returns-in-Err-clause-disk g c =
    let M = g.M.Machine in
    let grows = c.in-Err.ensures.grows in
    grows_more grows (λ h left roots. leaves g (goal.at.returns-in-Err-clause-disk g c).After-write_grown (grows.trust.honest h) (M.now c.args.m.now) left refl roots)

pub returns-in-Err-clause-writes : goal.returns-in-Err-clause-writes
returns-in-Err-clause-writes g c =
    let M = g.M.Machine in
    let at = (goal.at.returns-in-Err-clause-writes g c).After-write_grown in
    record { rest = λ h. touches g at (M.now c.args.m.now) (M.now c.write_grown.new.m) (c.in-Err.ensures.grows.exit h); counted = c.in-Err.ensures.counted }

pub returns-in-Err-clause-state : goal.returns-in-Err-clause-state
returns-in-Err-clause-state g c =
    let through = c.in_ok-may_grow.ensures in
    inr (through.0, inr (through.1.0, (c.in-Err.ensures.place, ap (λ (x : VolumeValue). record (state x) { down = Some c.in-Err.failed.place }) c.self.view_is)))
