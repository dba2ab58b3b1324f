use Rattle.std.proofs.Common.{◌≤◌}
use Rattle.sector_disk.proofs.CallLaws.{reads_then}
use Rattle.log_thirds.proofs.AnchorLaws.{newer_so}
use Rattle.log_thirds.proofs.SeeOneLaws.{anchors_seen}
use Rattle.log_thirds.proofs.anchors.find_anchor.Goals as goal

pub returns-clause-reads : goal.returns-clause-reads
returns-clause-reads g c = reads_then c.in_ok-first.ensures.reads c.in_ok-copy.ensures.reads

pub returns-clause-seen : goal.returns-clause-seen
returns-clause-seen g c j h jw =
    let M = g.M.Machine in
    let h1 = c.read_copy-2.ensures.reads.trust.honest h in
    anchors_seen (M.now c.args.m.now) (M.now c.read_copy.new.m) (M.now c.read_copy-2.new.m) c.in_ok-first.first c.in_ok-copy.copy c.newer_of.result (c.read_copy.ensures.reads.worn h1) (c.read_copy-2.ensures.reads.worn h)
    (c.in_ok-first.ensures.seen h1) (c.in_ok-copy.ensures.seen h) c.newer_of.ensures j jw

pub returns-clause-third : goal.returns-clause-third
returns-clause-third g c = newer_so (λ a. a.third ≤ 2) c.in_ok-first.first c.in_ok-copy.copy c.newer_of.result c.newer_of.ensures c.in_ok-first.ensures.third c.in_ok-copy.ensures.third

pub returns-clause-first : goal.returns-clause-first
returns-clause-first g c = newer_so (λ a. 1 ≤ a.first) c.in_ok-first.first c.in_ok-copy.copy c.newer_of.result c.newer_of.ensures c.in_ok-first.ensures.first c.in_ok-copy.ensures.first

pub returns-clause-epoch : goal.returns-clause-epoch
returns-clause-epoch g c = newer_so (λ a. 1 ≤ a.epoch) c.in_ok-first.first c.in_ok-copy.copy c.newer_of.result c.newer_of.ensures c.in_ok-first.ensures.epoch c.in_ok-copy.ensures.epoch
