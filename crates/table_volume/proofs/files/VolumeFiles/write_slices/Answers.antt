use Rattle.std.proofs.Common.{inl, inr, option_map, length, refl, sym, ap, arith}
use Rattle.std.proofs.lemmas.Result.{err_from_is_err_and}
use Rattle.sector_disk.proofs.CallLaws.{writes_more, writes_none, writes_told}
use Rattle.volume_contract.specs.Pieces.{in_slices}
use Rattle.volume_contract.specs.State.{Leaves}
use Rattle.volume_laws.specs.State.{IsMemoryOf, state}
use Rattle.volume_laws.proofs.ForceEndLaws.{not_down}
use Rattle.volume_laws.proofs.ForceLeavesLaws.{down_tells_none}
use Rattle.volume_laws.proofs.ForceMomentLaws.{touches_none}
use Rattle.volume_laws.proofs.SliceFits.{busy_slices, draft_below, draft_runs, draft_small, slices_within}
use Rattle.volume_laws.proofs.SliceWriteLaws.{leaves_slices}
use Rattle.volume_laws.proofs.WrittenLaws.{leaves_still}
use Rattle.volume_laws.proofs.NextLaws.{up_by}
use Rattle.volume_laws.proofs.SliceEnds.{slices_lost, slices_stand}
use Rattle.table_volume.proofs.DownLaws.{down_step}
use Rattle.table_volume.proofs.files.VolumeFiles.write_slices.Goals as goal

-- ---- it is down

pub returns-in_err-is_up : goal.returns-in_err-is_up
returns-in_err-is_up g c =
    let v = c.args.self.now in
    let at = c.args.m.now in
    let now = g.M.Machine.now c.args.m.now in
    let why = c.in_err-is_up.field-0.0 in
    let down = sym c.in_err-is_up.ensures in
    let may = in_slices c.args.draft.now.runs c.args.first (length c.args.bytes.now) in
    let p = err_from_is_err_and c.from_residual.result c.from_residual.ensures.1 in
    rw (p.1, p.2) (record {
      order = record { follows = inl (down_step v.down why down); idle = λ idle. refl };
      disk = writes_told (down_tells_none v.down why down) (writes_none at (λ left h is. g.met.M.Machine.only_now at left h is) (Leaves state IsMemoryOf v may) (λ h. leaves_still v now may));
      writes = record { rest = λ h. touches_none may now; counted = λ tells. (omega arith, omega arith) };
      state = refl;
      done = λ h k stands before there. absurd (not_down v k now why down stands);
    })

-- ---- slices are written

pub write_slices-requires-clause-runs : goal.write_slices-requires-clause-runs
write_slices-requires-clause-runs g c = draft_runs c.args.self.now c.attest.ensures c.args.draft.now c.requires.draft

pub write_slices-requires-clause-in_range : goal.write_slices-requires-clause-in_range
write_slices-requires-clause-in_range g c k d lt =
    let below = draft_below c.args.self.now c.attest.ensures c.args.draft.now c.requires.draft k d lt in
    omega (arith, below, c.requires.room)

pub write_slices-requires-clause-small : goal.write_slices-requires-clause-small
write_slices-requires-clause-small g c = draft_small c.args.self.now c.attest.ensures c.args.draft.now c.requires.draft

pub write_slices-requires-clause-fits : goal.write_slices-requires-clause-fits
write_slices-requires-clause-fits g c =
    slices_within c.args.self.now c.attest.ensures c.args.draft.now c.requires.draft c.args.first (length c.args.bytes.now) c.requires.fits

pub returns-in-Ok : goal.returns-in-Ok
returns-in-Ok g c =
    let M = g.M.Machine in
    let v = c.args.self.now in
    let d = c.args.draft.now in
    let first = c.args.first in
    let bytes = c.args.bytes.now in
    let whole = c.attest.ensures in
    let old = M.now c.args.m.now in
    let new = M.now c.write_slices.new.m in
    let wrote = c.in-Ok.ensures in
    let up = ap (option_map _) (up_by v.down (sym c.in_ok-is_up.ensures)) in
    record {
      order = record { follows = (up, (tt, tt)); idle = λ idle. absurd (busy_slices (state v) (in_slices d.runs first (length bytes)) up idle) };
      disk = writes_more wrote.disk (λ h left writes. leaves_slices v whole d c.requires.draft first (length bytes) old left (g.met.M.Machine.short c.args.m.now (wrote.disk.trust.honest h)) writes);
      writes = record { rest = λ h. (wrote.disk.exit h).touches; counted = λ tells. ap (λ l. l.written) (wrote.counted tells) };
      state = refl;
      done = λ h k stands before there.
          slices_stand v whole d c.requires.draft first bytes old new (g.met.M.Machine.short c.args.m.now (wrote.disk.trust.honest h)) (wrote.disk.exit h) k stands before there
          (slices_within v whole d c.requires.draft first (length bytes) c.requires.fits) (wrote.done h);
    }

pub returns-in-Err : goal.returns-in-Err
returns-in-Err g c =
    let M = g.M.Machine in
    let v = c.args.self.now in
    let d = c.args.draft.now in
    let first = c.args.first in
    let bytes = c.args.bytes.now in
    let whole = c.attest.ensures in
    let old = M.now c.args.m.now in
    let new = M.now c.write_slices.new.m in
    let failed = c.in-Err.ensures in
    let up = ap (option_map _) (up_by v.down (sym c.in_ok-is_up.ensures)) in
    record {
      order = record { follows = inr (up, inl failed.place); idle = λ idle. absurd (busy_slices (state v) (in_slices d.runs first (length bytes)) up idle) };
      disk = writes_more failed.disk (λ h left writes. leaves_slices v whole d c.requires.draft first (length bytes) old left (g.met.M.Machine.short c.args.m.now (failed.disk.trust.honest h)) writes);
      writes = record { rest = λ h. (failed.disk.exit h).touches; counted = λ tells. ((failed.counted_err tells).no_fewer, (failed.counted_err tells).no_more) };
      state = refl;
      done = λ h k stands before there.
          slices_lost v whole d c.requires.draft first bytes old new (g.met.M.Machine.short c.args.m.now (failed.disk.trust.honest h)) (failed.disk.exit h) k stands before there
          (slices_within v whole d c.requires.draft first (length bytes) c.requires.fits);
    }
