use Rattle.sector_disk.specs.Calls.{load_failed_at}
use Rattle.sector_disk.proofs.CallLaws.{told_up, writes_more, writes_then, writes_told}
use Rattle.twin_home.proofs.HealLaws.{roots_first, roots_second}
use Rattle.twin_home.proofs.heal.set_roots.Goals as goal

pub returns-in_err-one-clause-writes : goal.returns-in_err-one-clause-writes
returns-in_err-one-clause-writes g c =
    let M = g.M.Machine in
    writes_told (told_up load_failed_at c.from_residual.result c.in_err-one.field-0.0 c.from_residual.ensures.1)
    (writes_more c.in_err-one.ensures.writes (λ h left part. roots_first c.args.b.now (M.now c.args.m.now) left part))

pub returns-in_err-two-clause-writes : goal.returns-in_err-two-clause-writes
returns-in_err-two-clause-writes g c =
    let M = g.M.Machine in
    let bytes = c.args.b.now in let old = M.now c.args.m.now in let mid = M.now c.set_root.new.m in
    writes_told (told_up load_failed_at c.from_residual-in_err-two.result c.in_err-two.field-0.0 c.from_residual-in_err-two.ensures.1)
    (writes_then c.in_ok-one.ensures.writes c.in_err-two.ensures.writes (λ h left part. roots_first bytes old left part)
    (λ h left part. roots_second c.args.first bytes c.in_ok-one.one old mid left (c.in_ok-one.ensures.done (c.set_root-2.ensures.writes.trust.honest h)) part))

pub returns-clause-writes : goal.returns-clause-writes
returns-clause-writes g c =
    let M = g.M.Machine in
    let bytes = c.args.b.now in let old = M.now c.args.m.now in let mid = M.now c.set_root.new.m in
    writes_then c.in_ok-one.ensures.writes c.in_ok-two.ensures.writes (λ h left part. roots_first bytes old left part)
    (λ h left part. roots_second c.args.first bytes c.in_ok-one.one old mid left (c.in_ok-one.ensures.done (c.set_root-2.ensures.writes.trust.honest h)) part)
