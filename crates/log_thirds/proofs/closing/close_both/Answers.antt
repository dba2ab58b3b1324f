use Rattle.sector_disk.specs.Calls.{failed_at}
use Rattle.sector_disk.specs.Image.{stand}
use Rattle.sector_disk.proofs.CallLaws.{told_up, writes_more, writes_then, writes_told}
use Rattle.sector_disk.proofs.Holding.{holds_on}
use Rattle.fsd_formats.specs.Anchors.{closed_bytes}
use Rattle.log_thirds.proofs.AnchoringLaws.{closes_first, closes_then}
use Rattle.log_thirds.proofs.closing.close_both.Goals as goal

pub returns-in_err-close_copy-clause-writes : goal.returns-in_err-close_copy-clause-writes
returns-in_err-close_copy-clause-writes g c =
    let M = g.M.Machine in
    writes_told (told_up failed_at c.from_residual.result c.in_err-close_copy.field-0.0 c.from_residual.ensures.1)
    (writes_more c.in_err-close_copy.ensures.writes (λ h left part. closes_first c.args.anchor.now (M.now c.args.m.now) left part))

pub returns-in_err-close_copy-2-clause-writes : goal.returns-in_err-close_copy-2-clause-writes
returns-in_err-close_copy-2-clause-writes g c =
    let M = g.M.Machine in
    let anchor = c.args.anchor.now in let old = M.now c.args.m.now in let mid = M.now c.close_copy.new.m in
    let second = c.in_err-close_copy-2.ensures.writes in
    writes_told (told_up failed_at c.from_residual-in_err-close_copy-2.result c.in_err-close_copy-2.field-0.0 c.from_residual-in_err-close_copy-2.ensures.1)
    (writes_then c.in_ok-close_copy.ensures.writes second (λ h left part. closes_first anchor old left part)
    (λ h left part. closes_then anchor old mid left (c.in_ok-close_copy.ensures.done (second.trust.honest h)) part))

pub returns-clause-writes : goal.returns-clause-writes
returns-clause-writes g c =
    let M = g.M.Machine in
    let anchor = c.args.anchor.now in let old = M.now c.args.m.now in let mid = M.now c.close_copy.new.m in
    let second = c.in_ok-close_copy-2.ensures.writes in
    writes_then c.in_ok-close_copy.ensures.writes second (λ h left part. closes_first anchor old left part)
    (λ h left part. closes_then anchor old mid left (c.in_ok-close_copy.ensures.done (second.trust.honest h)) part)

pub returns-clause-done : goal.returns-clause-done
returns-clause-done g c h =
    let M = g.M.Machine in
    let h1 = c.in_ok-close_copy-2.ensures.writes.trust.honest h in
    let bytes = closed_bytes c.args.anchor.now in
    holds_on (M.now c.args.m.now) (M.now c.close_copy.new.m) (M.now c.close_copy-2.new.m) (stand (M.now c.args.m.now).image 8 bytes 1) 12 bytes 1 (c.in_ok-close_copy.ensures.done h1) (c.in_ok-close_copy-2.ensures.done h)
