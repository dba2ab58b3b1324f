use Rattle.std.proofs.Common.{ap, arith}
use Rattle.sector_disk.proofs.CallLaws.{writes_more}
use Rattle.volume_laws.specs.Completed.{draft_of}
use Rattle.volume_laws.proofs.LeaderWriteLaws.{leaves_leader}
use Rattle.volume_laws.proofs.SliceFits.{draft_below, draft_runs, place_of_draft}
use Rattle.table_volume.proofs.volume.Volume.led.Goals as goal

pub write_leader-requires-clause-runs : goal.write_leader-requires-clause-runs
write_leader-requires-clause-runs g c = draft_runs c.args.self.now c.attest.ensures (draft_of c.args.entry.now) c.requires.draft

pub write_leader-requires-clause-in_range : goal.write_leader-requires-clause-in_range
write_leader-requires-clause-in_range g c k d lt =
    let below = draft_below c.args.self.now c.attest.ensures (draft_of c.args.entry.now) c.requires.draft k d lt in
    omega (arith, below, c.requires.room)

pub returns-in-Ok-clause-disk : goal.returns-in-Ok-clause-disk
returns-in-Ok-clause-disk g c =
    let M = g.M.Machine in
    let whole = c.attest.ensures in
    let disk = c.in-Ok.ensures.disk in
    writes_more disk (λ h left writes.
    leaves_leader c.args.self.now whole c.args.entry.now.runs (place_of_draft c.args.self.now whole (draft_of c.args.entry.now) c.requires.draft).free (M.now c.args.m.now) left (g.met.M.Machine.short c.args.m.now (disk.trust.honest h)) writes)

pub returns-in-Err-clause-disk : goal.returns-in-Err-clause-disk
returns-in-Err-clause-disk g c =
    let M = g.M.Machine in
    let whole = c.attest.ensures in
    let disk = c.in-Err.ensures.disk in
    writes_more disk (λ h left writes.
    leaves_leader c.args.self.now whole c.args.entry.now.runs (place_of_draft c.args.self.now whole (draft_of c.args.entry.now) c.requires.draft).free (M.now c.args.m.now) left (g.met.M.Machine.short c.args.m.now (disk.trust.honest h)) writes)

pub returns-in-Ok-clause-writes : goal.returns-in-Ok-clause-writes
returns-in-Ok-clause-writes g c h = c.in-Ok.ensures.disk.exit h

pub returns-in-Err-clause-writes : goal.returns-in-Err-clause-writes
returns-in-Err-clause-writes g c h = c.in-Err.ensures.disk.exit h

pub returns-in-Ok-clause-counted : goal.returns-in-Ok-clause-counted
returns-in-Ok-clause-counted g c tells = ap (λ l. l.written) (c.in-Ok.ensures.counted tells)

pub returns-in-Err-clause-counted : goal.returns-in-Err-clause-counted
returns-in-Err-clause-counted g c tells = let most = c.in-Err.ensures.counted_err tells in (most.no_fewer, most.no_more)
