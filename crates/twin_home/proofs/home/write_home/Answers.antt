use Rattle.sector_disk.specs.Image.{stand}
use Rattle.sector_disk.specs.Machine.{Holds}
use Rattle.sector_disk.proofs.CallLaws.{told_up, writes_more, writes_then, writes_told}
use Rattle.sector_disk.specs.Calls.{failed_at}
use Rattle.volume_layout.specs.Layout.{home_b}
use Rattle.twin_home.specs.Home.{with_homes}
use Rattle.twin_home.proofs.WriteLaws.{first_only, then_second, both_stand}
use Rattle.twin_home.proofs.home.write_home.Goals as goal
use Rattle.std.proofs.lemmas.Result.{on_ok_weaker}

pub returns-in_err-write_a-clause-writes : goal.returns-in_err-write_a-clause-writes
returns-in_err-write_a-clause-writes g c =
    let M = g.M.Machine in
    writes_told (told_up failed_at c.from_residual.result c.in_err-write_a.field-0.0 c.from_residual.ensures.1)
    (writes_more c.in_err-write_a.ensures.writes (λ h left torn. first_only c.args.l.now c.args.page c.args.b.now c.told-b (M.now c.args.m.now) left torn))

pub returns-clause-writes : goal.returns-clause-writes
returns-clause-writes g c =
    let M = g.M.Machine in
    let l = c.args.l.now in let page = c.args.page in let bytes = c.args.b.now in let old = M.now c.args.m.now in let mid = M.now c.write_a.new.m in
    writes_then c.in_ok-write_a.ensures.writes c.write_b.ensures.writes (λ h left torn. first_only l page bytes c.told-b old left torn)
    (λ h left torn. then_second l page bytes c.told-b old mid left (c.in_ok-write_a.ensures.done (c.write_b.ensures.writes.trust.honest h)) torn)

pub returns-clause-done : goal.returns-clause-done
returns-clause-done g c =
    let M = g.M.Machine in
    let l = c.args.l.now in let page = c.args.page in let bytes = c.args.b.now in let old = M.now c.args.m.now in let mid = M.now c.write_a.new.m in let new = M.now c.write_b.new.m in
    on_ok_weaker {P = M.honest c.write_b.new.m → Holds mid (stand mid.image (home_b l page) bytes 1) new} {Q = M.honest c.write_b.new.m → Holds old (with_homes l page bytes old.image 1 1) new} c.write_b.result
    (λ done h. both_stand l page bytes c.told-b old mid new (c.in_ok-write_a.ensures.done (c.write_b.ensures.writes.trust.honest h)) (done h)) c.write_b.ensures.done
