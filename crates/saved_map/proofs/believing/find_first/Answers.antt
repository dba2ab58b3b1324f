use Rattle.saved_map.proofs.LayoutLaws.{some_sectors}
use Rattle.saved_map.proofs.ReadingLaws.{none_first}
use Rattle.saved_map.proofs.believing.find_first.Goals as goal

pub returns-then-branch-clause-none : goal.returns-then-branch-clause-none
returns-then-branch-clause-none g c same h =
    none_first c.args.l.now c.args.epoch (g.M.Machine.now c.read_first.new.m).image (some_sectors c.args.l.now c.requires.planned) (c.read_first.ensures.none same h)
