use Rattle.std.proofs.Common.{ap, sym, subst, arith}
use Rattle.run_table.specs.RunTable.{sectors_of}
use Rattle.run_table.specs.Space.{contains}
use Rattle.sector_disk.proofs.CallLaws.{writes_more}
use Rattle.volume_contract.specs.State.{Stands}
use Rattle.volume_laws.specs.Placing.{drawn_known}
use Rattle.volume_laws.specs.State.{IsMemoryOf, state}
use Rattle.volume_laws.specs.Volume.{VolumeValue}
use Rattle.volume_laws.proofs.PlaceLaws.{free_below}
use Rattle.volume_laws.proofs.WrittenLaws.{leaves_free, stands_drawn, stands_written, writes_data}
use Rattle.table_volume.proofs.volume.Volume.written.Goals as goal

pub write_version-requires-clause-in_range : goal.write_version-requires-clause-in_range
write_version-requires-clause-in_range g c k d lt =
    let whole = c.attest.ensures in
    let below = free_below c.args.self.now.layout c.args.self.now.map c.args.draft.now.runs whole.map c.requires.free k d lt in
    omega (arith, below, c.requires.room)

-- ---- where a stop comes

pub returns-in-Ok-clause-disk : goal.returns-in-Ok-clause-disk
returns-in-Ok-clause-disk g c =
    let M = g.M.Machine in
    writes_more c.in-Ok.ensures.disk (λ h left writes.
    leaves_free c.args.self.now (M.now c.args.m.now) left (contains (sectors_of c.args.draft.now.runs)) (g.met.M.Machine.short c.args.m.now (c.in-Ok.ensures.disk.trust.honest h)) c.requires.free.inside writes)

pub returns-in-Err-clause-disk : goal.returns-in-Err-clause-disk
returns-in-Err-clause-disk g c =
    let M = g.M.Machine in
    writes_more c.in-Err.ensures.disk (λ h left writes.
    leaves_free c.args.self.now (M.now c.args.m.now) left (contains (sectors_of c.args.draft.now.runs)) (g.met.M.Machine.short c.args.m.now (c.in-Err.ensures.disk.trust.honest h)) c.requires.free.inside writes)

-- ---- what is written

pub returns-in-Ok-clause-writes : goal.returns-in-Ok-clause-writes
returns-in-Ok-clause-writes g c = record { rest = λ h. (c.in-Ok.ensures.disk.exit h).touches; counted = λ tells. ap (λ l. l.written) (c.in-Ok.ensures.counted tells) }

pub returns-in-Err-clause-writes : goal.returns-in-Err-clause-writes
returns-in-Err-clause-writes g c = record { rest = λ h. (c.in-Err.ensures.disk.exit h).touches; counted = λ tells. let most = c.in-Err.ensures.counted_err tells in (most.no_fewer, most.no_more) }

pub returns-in-Ok-clause-done : goal.returns-in-Ok-clause-done
returns-in-Ok-clause-done g c h =
    let M = g.M.Machine in
    let v = c.args.self.now in
    let old = M.now c.args.m.now in
    let now = M.now c.write_version.new.m in
    let sectors = sectors_of c.args.draft.now.runs in
    let free = c.requires.free.inside in
    let disk = c.in-Ok.ensures.disk in
    record {
      within = writes_data v c.attest.ensures sectors free old now (disk.exit h);
      stands = λ k stands. subst (λ (x : VolumeValue). Stands state IsMemoryOf x (drawn_known k) now) (sym c.draw.ensures)
          (stands_drawn v k now (stands_written v k old now (contains sectors) free (disk.exit h) stands (g.met.M.Machine.short c.args.m.now (disk.trust.honest h))));
      done = c.in-Ok.ensures.done h;
    }

pub returns-in-Err-clause-done : goal.returns-in-Err-clause-done
returns-in-Err-clause-done g c h =
    let M = g.M.Machine in
    let v = c.args.self.now in
    let old = M.now c.args.m.now in
    let now = M.now c.write_version.new.m in
    let sectors = sectors_of c.args.draft.now.runs in
    let free = c.requires.free.inside in
    let disk = c.in-Err.ensures.disk in
    record {
      within = writes_data v c.attest.ensures sectors free old now (disk.exit h);
      stands = λ k stands. subst (λ (x : VolumeValue). Stands state IsMemoryOf x (drawn_known k) now) (sym c.draw.ensures)
          (stands_drawn v k now (stands_written v k old now (contains sectors) free (disk.exit h) stands (g.met.M.Machine.short c.args.m.now (disk.trust.honest h))));
      done = tt;
    }
