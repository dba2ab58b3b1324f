use Rattle.mount_recover.proofs.RootLaws.{sees_roots}
use Rattle.mount_recover.proofs.root.find_roots.Goals as goal

pub returns-clause-seen : goal.returns-clause-seen
returns-clause-seen g c h =
    let M = g.M.Machine in
    let h1 = c.root_at-2.ensures.reads.trust.honest h in
    sees_roots c.args.sectors c.in_ok-first.first c.in_ok-second.second (M.now c.args.m.now) (M.now c.root_at.new.m) (M.now c.root_at-2.new.m)
    (c.root_at.ensures.reads.worn h1) (c.root_at-2.ensures.reads.worn h) (c.in_ok-first.ensures.found h1) (c.in_ok-second.ensures.found h)
