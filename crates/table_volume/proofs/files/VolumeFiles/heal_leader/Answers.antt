use Rattle.std.proofs.Common.{◌≡◌, inl, inr, ◌==◌, Err, option_map, refl, sym, ap}
use Rattle.std.proofs.lemmas.Result.{err_from_is_err_and}
use Rattle.sector_disk.proofs.CallLaws.{writes_more, writes_none, writes_told}
use Rattle.fsd_bytes.specs.declared.refusal.Refusal.TheVariants as Why
use Rattle.fsd_files.specs.Disk.{Sectors}
use Rattle.fsd_files.specs.Scrub.{leader_place}
use Rattle.volume_contract.specs.Healing.{LeavesWith}
use Rattle.volume_laws.specs.State.{IsMemoryOf, state}
use Rattle.volume_laws.specs.Taken.{down_fault}
use Rattle.volume_laws.proofs.ForceEndLaws.{not_down}
use Rattle.volume_laws.proofs.ForceLeavesLaws.{down_tells_none}
use Rattle.volume_laws.proofs.ForceMomentLaws.{touches_none}
use Rattle.volume_laws.proofs.NextLaws.{up_by}
use Rattle.table_volume.proofs.DownLaws.{down_step}
use Rattle.table_volume.proofs.LeadingLaws.{busy_single, leader_leaves, leader_touches, met_inside, stands_led, still_leaves_with}
use Rattle.table_volume.proofs.files.VolumeFiles.heal_leader.Goals as goal

pub heal_leader-requires-clause-in_range : goal.heal_leader-requires-clause-in_range
heal_leader-requires-clause-in_range g c = met_inside (state c.args.self.now) c.args.e.now (g.M.Machine.report c.args.m.now).sectors c.requires.met c.requires.room

pub returns-in_err-is_up : goal.returns-in_err-is_up
returns-in_err-is_up g c =
    let v = c.args.self.now in
    let at = c.args.m.now in
    let now = g.M.Machine.now c.args.m.now in
    let e = c.args.e.now in
    let why = c.in_err-is_up.field-0.0 in
    let may : Sectors = λ s. s == leader_place e in
    let down : down_fault c.args.self.now.down ≡ Err c.in_err-is_up.field-0.0 = sym c.in_err-is_up.ensures in
    let p = err_from_is_err_and c.from_residual.result c.from_residual.ensures.1 in
    rw (p.1, p.2) (record {
      order = record { follows = inl (down_step v.down why down); idle = λ idle. refl };
      disk = writes_told (down_tells_none v.down why down) (writes_none at (λ left h is. g.met.M.Machine.only_now at left h is) (LeavesWith state IsMemoryOf v e may) (λ h. still_leaves_with v e may now));
      writes = record { rest = λ h. touches_none may now; counted = tt };
      state = refl;
      tells = λ h. record { healed = tt; led = tt };
      done = λ h k stands has. absurd (not_down v k now why down stands);
    })

pub returns-in-Ok : goal.returns-in-Ok
returns-in-Ok g c =
    let M = g.M.Machine in
    let v = c.args.self.now in
    let e = c.args.e.now in let good = c.requires.met.entry in
    let old = M.now c.args.m.now in let new = M.now c.heal_leader.new.m in
    let up = up_by c.args.self.now.down (sym c.in_ok-is_up.ensures) in
    let written = c.in-Ok.ensures in
    record {
      order = record { follows = (ap (option_map Why.Down) up, (tt, tt)); idle = λ idle. absurd (busy_single (state v) up idle) };
      disk = writes_more written.disk (λ h left writes. leader_leaves v e good old left (g.met.M.Machine.short c.args.m.now (written.disk.trust.honest h)) writes);
      writes = record { rest = λ h. leader_touches e old new (written.disk.exit h); counted = written.counted };
      state = refl;
      tells = λ h. record { healed = written.healed h; led = written.led h };
      done = λ h k stands has. stands_led v k old (g.met.M.Machine.short c.args.m.now (written.disk.trust.honest h)) stands e good has new (written.disk.exit h);
    }

pub returns-in-Err : goal.returns-in-Err
returns-in-Err g c =
    let M = g.M.Machine in
    let v = c.args.self.now in
    let e = c.args.e.now in let good = c.requires.met.entry in
    let old = M.now c.args.m.now in let new = M.now c.heal_leader.new.m in
    let up = up_by c.args.self.now.down (sym c.in_ok-is_up.ensures) in
    let failed = c.in-Err.ensures in
    record {
      order = record { follows = inr (ap (option_map Why.Down) up, inl tt); idle = λ idle. absurd (busy_single (state v) up idle) };
      disk = writes_told refl (writes_more failed.disk (λ h left writes. leader_leaves v e good old left (g.met.M.Machine.short c.args.m.now (failed.disk.trust.honest h)) writes));
      writes = record { rest = λ h. leader_touches e old new (failed.disk.exit h); counted = tt };
      state = refl;
      tells = λ h. record { healed = tt; led = tt };
      done = λ h k stands has. stands_led v k old (g.met.M.Machine.short c.args.m.now (failed.disk.trust.honest h)) stands e good has new (failed.disk.exit h);
    }
