use Rattle.std.proofs.Common.{◌≡◌, inl, inr, Err, option_map, refl, sym, ap}
use Rattle.std.proofs.lemmas.Result.{err_from_is_err_and}
use Rattle.sector_disk.proofs.CallLaws.{reads_none, reads_told}
use Rattle.fsd_bytes.specs.declared.refusal.Refusal.TheVariants as Why
use Rattle.volume_laws.specs.State.{state}
use Rattle.volume_laws.specs.Taken.{down_fault}
use Rattle.volume_laws.specs.WearLaws.{stands_worn}
use Rattle.volume_laws.proofs.ForceLeavesLaws.{down_tells_none}
use Rattle.volume_laws.proofs.NextLaws.{up_by}
use Rattle.table_volume.proofs.DownLaws.{down_step}
use Rattle.table_volume.proofs.LeadingLaws.{busy_single, met_inside}
use Rattle.table_volume.proofs.files.VolumeFiles.probe.Goals as goal

pub read_slice-requires-clause-in_range : goal.read_slice-requires-clause-in_range
read_slice-requires-clause-in_range g c = met_inside (state c.args.self.now) c.args.e.now (g.M.Machine.report c.args.m.now).sectors c.requires.met c.requires.room

pub returns-in_err-is_up : goal.returns-in_err-is_up
returns-in_err-is_up g c =
    let v = c.args.self.now in
    let at = c.args.m.now in
    let why = c.in_err-is_up.field-0.0 in
    let down : down_fault c.args.self.now.down ≡ Err c.in_err-is_up.field-0.0 = sym c.in_err-is_up.ensures in
    let p = err_from_is_err_and c.from_residual.result c.from_residual.ensures.1 in
    rw (p.1, p.2) (record {
      order = record { follows = inl (down_step v.down why down); idle = λ idle. refl };
      disk = reads_told (down_tells_none v.down why down) (reads_none at (g.met.M.Machine.only_now at));
      state = refl;
      stands = λ h k stands. stands;
      sees = tt;
    })

pub returns-in-Ok : goal.returns-in-Ok
returns-in-Ok g c =
    let M = g.M.Machine in
    let v = c.args.self.now in
    let up = up_by c.args.self.now.down (sym c.in_ok-is_up.ensures) in
    let read = c.in-Ok.ensures in
    record {
      order = record { follows = (ap (option_map Why.Down) up, (tt, tt)); idle = λ idle. absurd (busy_single (state v) up idle) };
      disk = read.disk;
      state = refl;
      stands = λ h k stands. let wears = read.disk.worn h in
          stands_worn v k (M.now c.args.m.now) (M.now c.read_slice.new.m) (g.met.M.Machine.short c.args.m.now (read.disk.trust.honest h)) (record { image = wears.image; windows = wears.windows }) stands;
      sees = read.sees;
    }

pub returns-in-Err : goal.returns-in-Err
returns-in-Err g c =
    let M = g.M.Machine in
    let v = c.args.self.now in
    let up = up_by c.args.self.now.down (sym c.in_ok-is_up.ensures) in
    let failed = c.in-Err.ensures in
    record {
      order = record { follows = inr (ap (option_map Why.Down) up, inl tt); idle = λ idle. absurd (busy_single (state v) up idle) };
      disk = reads_told refl failed.disk;
      state = refl;
      stands = λ h k stands. let wears = failed.disk.worn h in
          stands_worn v k (M.now c.args.m.now) (M.now c.read_slice.new.m) (g.met.M.Machine.short c.args.m.now (failed.disk.trust.honest h)) (record { image = wears.image; windows = wears.windows }) stands;
      sees = tt;
    }
