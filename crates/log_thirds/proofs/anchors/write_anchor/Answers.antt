use Rattle.sector_disk.specs.Calls.{failed_at}
use Rattle.sector_disk.specs.Image.{stand}
use Rattle.sector_disk.proofs.CallLaws.{told_up, writes_more, writes_then, writes_told}
use Rattle.sector_disk.proofs.Holding.{holds_on}
use Rattle.fsd_formats.specs.Anchors.{anchor_bytes}
use Rattle.log_thirds.proofs.AnchoringLaws.{first_only, then_copy}
use Rattle.log_thirds.proofs.anchors.write_anchor.Goals as goal

pub returns-in_err-write_copy-clause-writes : goal.returns-in_err-write_copy-clause-writes
returns-in_err-write_copy-clause-writes g c =
    let M = g.M.Machine in
    writes_told (told_up failed_at c.from_residual.result c.in_err-write_copy.field-0.0 c.from_residual.ensures.1)
    (writes_more c.in_err-write_copy.ensures.writes (λ h left part. first_only c.args.anchor.now (M.now c.args.m.now) left part))

pub returns-in_err-write_copy-2-clause-writes : goal.returns-in_err-write_copy-2-clause-writes
returns-in_err-write_copy-2-clause-writes g c =
    let M = g.M.Machine in
    let anchor = c.args.anchor.now in let old = M.now c.args.m.now in let mid = M.now c.write_copy.new.m in
    let second = c.in_err-write_copy-2.ensures.writes in
    writes_told (told_up failed_at c.from_residual-in_err-write_copy-2.result c.in_err-write_copy-2.field-0.0 c.from_residual-in_err-write_copy-2.ensures.1)
    (writes_then c.in_ok-write_copy.ensures.writes second (λ h left part. first_only anchor old left part)
    (λ h left part. then_copy anchor old mid left (c.in_ok-write_copy.ensures.done (second.trust.honest h)) part))

pub returns-clause-writes : goal.returns-clause-writes
returns-clause-writes g c =
    let M = g.M.Machine in
    let anchor = c.args.anchor.now in let old = M.now c.args.m.now in let mid = M.now c.write_copy.new.m in
    let second = c.in_ok-write_copy-2.ensures.writes in
    writes_then c.in_ok-write_copy.ensures.writes second (λ h left part. first_only anchor old left part)
    (λ h left part. then_copy anchor old mid left (c.in_ok-write_copy.ensures.done (second.trust.honest h)) part)

pub returns-clause-done : goal.returns-clause-done
returns-clause-done g c h =
    let M = g.M.Machine in
    let h1 = c.in_ok-write_copy-2.ensures.writes.trust.honest h in
    let bytes = anchor_bytes c.args.anchor.now in
    holds_on (M.now c.args.m.now) (M.now c.write_copy.new.m) (M.now c.write_copy-2.new.m) (stand (M.now c.args.m.now).image 8 bytes 1) 12 bytes 1 (c.in_ok-write_copy.ensures.done h1) (c.in_ok-write_copy-2.ensures.done h)
