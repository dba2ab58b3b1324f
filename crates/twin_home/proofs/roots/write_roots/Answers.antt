use Rattle.std.proofs.Common.{◌≡◌, ◌/◌, length, rules, arith}
use Rattle.volume_layout.specs.Root.{root_bytes}
use Rattle.sector_disk.specs.Calls.{failed_at}
use Rattle.sector_disk.proofs.CallLaws.{told_up, writes_told}
use Rattle.twin_home.proofs.HealLaws.{both_done, both_written, first_written}
use Rattle.twin_home.proofs.roots.write_roots.Goals as goal

pub returns-in_err-write_sectors-clause-writes : goal.returns-in_err-write_sectors-clause-writes
returns-in_err-write_sectors-clause-writes g c =
    writes_told (told_up failed_at c.from_residual.result c.in_err-write_sectors.field-0.0 c.from_residual.ensures.1)
    (first_written c.args.l.now c.root_bytes-bytes.result c.root_bytes-bytes.ensures c.in_err-write_sectors.ensures.writes (search rules) (omega arith))

pub returns-clause-writes : goal.returns-clause-writes
returns-clause-writes g c =
    both_written c.args.l.now c.root_bytes-bytes.result c.root_bytes-bytes.ensures c.in_ok-write_sectors.ensures.writes c.in_ok-write_sectors.ensures.done c.write_sectors-2.ensures.writes (search rules) (omega arith) (omega arith)

pub returns-clause-done : goal.returns-clause-done
returns-clause-done g c =
    let one : length c.root_bytes-bytes.result / 512 ≡ 1 = search rules in
    both_done (root_bytes c.args.l.now) c.root_bytes-bytes.result (g.M.Machine.now c.args.m.now) (g.M.Machine.now c.write_sectors.new.m) (g.M.Machine.now c.write_sectors-2.new.m) c.write_sectors-2.result c.root_bytes-bytes.ensures one
    c.in_ok-write_sectors.ensures.done (λ h. c.write_sectors-2.ensures.writes.trust.honest h) c.write_sectors-2.ensures.done
