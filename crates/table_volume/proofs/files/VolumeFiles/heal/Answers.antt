use Rattle.std.proofs.Common.{◌≡◌, ◌∙◌, ℕ, inl, Err, option_map, refl, sym, ap, subst}
use Rattle.std.specs.Prelude.{IfErr, IfOk}
use Rattle.std.proofs.lemmas.Result.{err_from_is_err_and}
use Rattle.sector_disk.specs.Calls.{device_in}
use Rattle.sector_disk.specs.Machine.{wrote}
use Rattle.sector_disk.proofs.CallLaws.{writes_more, writes_none, writes_told}
use Rattle.volume_layout.specs.declared.layout.Layout.{Layout}
use Rattle.sector_disk.specs.Damage.{LostCause}
use Rattle.fsd_files.specs.Scrub.{CountsTwins}
use Rattle.fsd_sound.specs.Lost.{AreTwinCopies}
use Rattle.twin_home.specs.Twins.{HealsTwins, TwinsHaveSome}
use Rattle.volume_laws.specs.Volume.{VolumeValue}
use Rattle.fsd_bytes.specs.declared.refusal.Refusal.{Refusal}
use Rattle.fsd_sound.specs.Sound.{is_twin}
use Rattle.volume_contract.specs.Ends.{device_of}
use Rattle.volume_contract.specs.Healing.{LosesTwins, StandsStill, TwinsStand as AllStand}
use Rattle.volume_contract.specs.State.{Leaves}
use Rattle.volume_contract.specs.Telling.{TellsTwins}
use Rattle.volume_laws.specs.State.{IsMemoryOf, state}
use Rattle.volume_laws.specs.Taken.{down_fault}
use Rattle.volume_laws.proofs.ForceEndLaws.{not_down}
use Rattle.volume_laws.proofs.ForceLeavesLaws.{down_tells_none}
use Rattle.volume_laws.proofs.ForceMomentLaws.{touches_none}
use Rattle.volume_laws.proofs.WrittenLaws.{leaves_still}
use Rattle.table_volume.proofs.DownLaws.{down_step, told_down}
use Rattle.table_volume.proofs.HealingLaws.{all_stand, busy_heal, stands_all, told_follows, told_lost, told_of, told_ok, told_on, told_place, told_still, twins_leave, twins_touch}
use Rattle.table_volume.proofs.files.VolumeFiles.heal.Goals.{in-Ok, in-Err}
use Rattle.fsd_bytes.specs.declared.refusal.Refusal.TheVariants as Why
use Rattle.volume_contract.specs.Order.{Follows, heal_steps}
use Rattle.volume_laws.proofs.NextLaws.{up_by}
use Rattle.table_volume.proofs.files.VolumeFiles.heal.Goals as goal

pub returns-in_err-is_up : goal.returns-in_err-is_up
returns-in_err-is_up g c =
    let v = c.args.self.now in
    let at = c.args.m.now in
    let now = g.M.Machine.now c.args.m.now in
    let why = c.in_err-is_up.field-0.0 in
    let down : down_fault c.args.self.now.down ≡ Err c.in_err-is_up.field-0.0 = sym c.in_err-is_up.ensures in
    let p = err_from_is_err_and c.from_residual.result c.from_residual.ensures.1 in
    rw (p.1, p.2) (record {
      order = record { follows = inl (down_step v.down why down); idle = λ idle. refl };
      disk = writes_told (down_tells_none v.down why down) (writes_none at (λ left h is. g.met.M.Machine.only_now at left h is) (Leaves state IsMemoryOf v (is_twin v.layout)) (λ h. leaves_still v now (is_twin v.layout)));
      writes = record { rest = λ h. touches_none (is_twin v.layout) now; counted = tt };
      state = refl;
      tells = λ h. record { healed = tt; mended = tt; lost = told_down (LosesTwins v.layout now.image) (λ place. tt) v.down why down };
      done = λ h k stands. absurd (not_down v k now why down stands);
    })

pub heal_twins-requires-clause-planned : goal.heal_twins-requires-clause-planned
heal_twins-requires-clause-planned g c = c.self.invariant.planned

pub returns-clause-order : goal.returns-clause-order
returns-clause-order g c =
    let s = state c.args.self.now in
    let up = ap (option_map Why.Down) (up_by c.args.self.now.down (sym c.in_ok-is_up.ensures)) in
    let is : c.match-heal_twins.result ≡ told_of c.heal_twins.result = elim c.match-heal_twins.branch [
      | in-Ok w ↦ w.result-is ∙ sym (ap told_of w.in-Ok.is)
      | in-Err w ↦ w.result-is ∙ ap (λ (r : Refusal). Err r) w.force_refusal.ensures ∙ sym (ap told_of w.in-Err.is)
    ] in
    record { follows = subst (Follows (heal_steps s)) (sym is) (told_follows s up c.heal_twins.result); idle = λ idle. absurd (busy_heal s up idle) }

pub returns-clause-disk : goal.returns-clause-disk
returns-clause-disk g c =
    let M = g.M.Machine in
    let v = c.args.self.now in
    let old = M.now c.args.m.now in let new = M.now c.heal_twins.new.m in
    let healed = c.heal_twins.ensures in
    let at = ap (λ (x : VolumeValue). x.layout) c.self.view_is in
    let is : c.match-heal_twins.result ≡ told_of c.heal_twins.result = elim c.match-heal_twins.branch [
      | in-Ok w ↦ w.result-is ∙ sym (ap told_of w.in-Ok.is)
      | in-Err w ↦ w.result-is ∙ ap (λ (r : Refusal). Err r) w.force_refusal.ensures ∙ sym (ap told_of w.in-Err.is)
    ] in
    writes_told (ap (device_in device_of) is ∙ told_place c.heal_twins.result)
    (writes_more healed.writes (λ h left heals.
    twins_leave v old left (g.met.M.Machine.short c.args.m.now (healed.writes.trust.honest h)) (subst (λ (l : Layout). HealsTwins l old left) at heals)))

pub returns-clause-writes : goal.returns-clause-writes
returns-clause-writes g c =
    let M = g.M.Machine in
    let v = c.args.self.now in
    let old = M.now c.args.m.now in let new = M.now c.heal_twins.new.m in
    let healed = c.heal_twins.ensures in
    let at = ap (λ (x : VolumeValue). x.layout) c.self.view_is in
    let is : c.match-heal_twins.result ≡ told_of c.heal_twins.result = elim c.match-heal_twins.branch [
      | in-Ok w ↦ w.result-is ∙ sym (ap told_of w.in-Ok.is)
      | in-Err w ↦ w.result-is ∙ ap (λ (r : Refusal). Err r) w.force_refusal.ensures ∙ sym (ap told_of w.in-Err.is)
    ] in
    record {
      rest = λ h. twins_touch v.layout old new (subst (λ (l : Layout). HealsTwins l old new) at (healed.writes.exit h));
      counted =
          let P : ℕ → Type 0 = λ count. M.tells c.heal_twins.new.m → M.ledger c.heal_twins.new.m ≡ wrote (M.ledger c.args.m.now) count in
          subst (λ r. IfOk r P) (sym is) (told_ok c.heal_twins.result P P (λ count same. same) healed.counted);
    }

pub returns-clause-tells : goal.returns-clause-tells
returns-clause-tells g c h =
    let M = g.M.Machine in
    let v = c.args.self.now in
    let old = M.now c.args.m.now in let new = M.now c.heal_twins.new.m in
    let healed = c.heal_twins.ensures in
    let at = ap (λ (x : VolumeValue). x.layout) c.self.view_is in
    let is : c.match-heal_twins.result ≡ told_of c.heal_twins.result = elim c.match-heal_twins.branch [
      | in-Ok w ↦ w.result-is ∙ sym (ap told_of w.in-Ok.is)
      | in-Err w ↦ w.result-is ∙ ap (λ (r : Refusal). Err r) w.force_refusal.ensures ∙ sym (ap told_of w.in-Err.is)
    ] in
    subst (TellsTwins v.layout old new) (sym is) (record {
      healed = told_ok c.heal_twins.result _ (CountsTwins v.layout old) (λ count counts. subst (λ (l : Layout). CountsTwins l old count) at (counts h)) healed.healed;
      mended = told_on c.heal_twins.result _ (AllStand v.layout new) (λ stand. all_stand v.layout new (subst (λ (l : Layout). TwinsHaveSome l new) at (stand h))) healed.mended;
      lost = told_lost v.layout new.image (M.honest c.heal_twins.new.m) h c.heal_twins.result (subst (λ (l : Layout). IfErr c.heal_twins.result (λ f. M.honest c.heal_twins.new.m → LostCause (AreTwinCopies l) new.image f)) at healed.lost);
    })

pub returns-clause-done : goal.returns-clause-done
returns-clause-done g c h k stands =
    let M = g.M.Machine in
    let v = c.args.self.now in
    let old = M.now c.args.m.now in let new = M.now c.heal_twins.new.m in
    let healed = c.heal_twins.ensures in
    let at = ap (λ (x : VolumeValue). x.layout) c.self.view_is in
    let is : c.match-heal_twins.result ≡ told_of c.heal_twins.result = elim c.match-heal_twins.branch [
      | in-Ok w ↦ w.result-is ∙ sym (ap told_of w.in-Ok.is)
      | in-Err w ↦ w.result-is ∙ ap (λ (r : Refusal). Err r) w.force_refusal.ensures ∙ sym (ap told_of w.in-Err.is)
    ] in
    let after = stands_all v k old new (g.met.M.Machine.short c.args.m.now (healed.writes.trust.honest h)) (subst (λ (l : Layout). HealsTwins l old new) at (healed.writes.exit h)) stands in
    subst (StandsStill state IsMemoryOf k v new) (sym is)
    (told_still v k new (g.met.M.Machine.short c.heal_twins.new.m h) after (M.honest c.heal_twins.new.m) h c.heal_twins.result
    (subst (λ (l : Layout). IfErr c.heal_twins.result (λ f. M.honest c.heal_twins.new.m → LostCause (AreTwinCopies l) new.image f)) at healed.lost))
