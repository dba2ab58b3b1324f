use Rattle.std.proofs.Common.{◌≡◌, Err, Some, ◌<◌, ◌≤◌, length, sym, ◌∙◌, arith}
use Rattle.volume_layout.specs.Layout.{IsPlanned}
use Rattle.volume_layout.proofs.RootLaws.{planned_bounds}
use Rattle.sector_disk.proofs.CallLaws.{reads_then, reads_told}
use Rattle.fsd_files.specs.Disk.{first_whole}
use Rattle.mount_recover.proofs.FaultLaws.{scan_sound, scan_told}
use Rattle.mount_recover.proofs.RootLaws.{taken_before, taken_so}
use Rattle.mount_recover.proofs.SeenLaws.{found_so, none_so, not_found_so, seen_now}
use Rattle.mount_recover.proofs.finding.find_log.Goals as goal

pub returns-in-Err-scan-clause-sound : goal.returns-in-Err-scan-clause-sound
returns-in-Err-scan-clause-sound g c = scan_sound c.in-Err-scan.fault c.mount_fault.result c.mount_fault.ensures

pub returns-in-Ok-scan-clause-reads : goal.returns-in-Ok-scan-clause-reads
returns-in-Ok-scan-clause-reads g c = reads_then c.in-Ok.ensures.reads c.in-Ok-scan.ensures.reads

pub returns-in-Err-scan-clause-reads : goal.returns-in-Err-scan-clause-reads
returns-in-Err-scan-clause-reads g c = reads_told (scan_told c.in-Err-scan.fault c.mount_fault.result c.mount_fault.ensures) (reads_then c.in-Ok.ensures.reads c.in-Err-scan.ensures.reads)

pub returns-in-Ok-scan-clause-root : goal.returns-in-Ok-scan-clause-root
returns-in-Ok-scan-clause-root g c h =
    let M = g.M.Machine in
    let roots = c.in-Ok.roots in
    taken_before c.args.sectors roots.first roots.second (M.now c.args.m.now) (M.now c.find_roots.new.m) (c.in-Ok.ensures.seen (c.scan.ensures.reads.trust.honest h)) c.in-Some.layout (sym c.taken.ensures ∙ c.in-Some.is)

pub returns-in-Ok-scan-clause-seen : goal.returns-in-Ok-scan-clause-seen
returns-in-Ok-scan-clause-seen g c h =
    let M = g.M.Machine in
    let roots = c.in-Ok.roots in
    let old = M.now c.args.m.now in let mid = M.now c.find_roots.new.m in
    let h1 = c.scan.ensures.reads.trust.honest h in
    let wears = c.find_roots.ensures.reads.worn h1 in
    let seen = c.in-Ok.ensures.seen h1 in
    found_so c.args.sectors roots.first roots.second old mid wears seen c.in-Some.layout (sym c.taken.ensures ∙ c.in-Some.is) c.longest.result c.longest.ensures.first c.longest.ensures.second
    c.in-Ok-scan.log (M.now c.scan.new.m) c.in-Ok-scan.ensures.found.layout (c.in-Ok-scan.ensures.found.seen seen.seen h (seen_now c.args.sectors roots.first roots.second old mid wears seen c.in-Some.layout (sym c.taken.ensures ∙ c.in-Some.is)))

pub returns-in-Err-scan-clause-refused : goal.returns-in-Err-scan-clause-refused
returns-in-Err-scan-clause-refused g c h =
    let M = g.M.Machine in
    let roots = c.in-Ok.roots in
    let old = M.now c.args.m.now in let mid = M.now c.find_roots.new.m in
    let h1 = c.scan.ensures.reads.trust.honest h in
    let sized = g.met.M.Machine.sized c.find_roots.new.m h1 in
    let taken : first_whole roots.first roots.second ≡ Some c.in-Some.layout = sym c.taken.ensures ∙ c.in-Some.is in
    let bounds = planned_bounds c.in-Some.layout (taken_so (λ k. IsPlanned k) roots.first roots.second c.in-Some.layout taken c.in-Ok.ensures.planned.0 c.in-Ok.ensures.planned.1) in
    let fits = taken_so (λ k. k.sectors ≤ c.args.sectors) roots.first roots.second c.in-Some.layout taken c.in-Ok.ensures.fits.0 c.in-Ok.ensures.fits.1 in
    let room : 12 < length mid.image = omega (arith, sized, bounds.third_least, bounds.sectors_least, fits, c.requires, c.find_roots.ensures.reads.uses.sectors) in
    not_found_so c.args.sectors roots.first roots.second old mid (c.find_roots.ensures.reads.worn h1) (c.in-Ok.ensures.seen h1) c.in-Some.layout taken c.in-Err-scan.fault c.mount_fault.result room c.mount_fault.ensures
    (λ e. c.in-Err-scan.ensures.no_anchor (λ i. Err (e i)) h) (λ e. c.in-Err-scan.ensures.worn_out (λ i. Err (e i)) h)

pub returns-in-None-clause-refused : goal.returns-in-None-clause-refused
returns-in-None-clause-refused g c h =
    let M = g.M.Machine in
    none_so c.args.sectors c.in-Ok.roots.first c.in-Ok.roots.second (M.now c.args.m.now) (M.now c.find_roots.new.m) (c.in-Ok.ensures.seen h) (sym c.taken.ensures ∙ c.in-None.is)
