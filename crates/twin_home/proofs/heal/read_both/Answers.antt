use Rattle.sector_disk.proofs.Holding.{wears_none, wears_on}
use Rattle.twin_home.proofs.HealLaws.{reads_copy}
use Rattle.twin_home.proofs.heal.read_both.Goals as goal

pub returns-clause-read : goal.returns-clause-read
returns-clause-read g c h =
    let M = g.M.Machine in
    let old = M.now c.args.m.now in let mid = M.now c.read_sector.new.m in let new = M.now c.read_sector-2.new.m in
    let h1 = c.read_sector-2.ensures.reads.trust.honest h in
    let first = c.read_sector.ensures.reads.worn h1 in
    let second = c.read_sector-2.ensures.reads.worn h in
    record {
      first = reads_copy old mid new c.args.a c.in_ok-first.first first second (c.in_ok-first.ensures.shown h1);
      second = reads_copy old new new c.args.b c.in_ok-second.second (wears_on old mid new first second) (wears_none new) (c.in_ok-second.ensures.shown h);
    }
