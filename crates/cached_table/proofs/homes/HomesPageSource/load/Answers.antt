use Rattle.cached_table.proofs.HomeReadLaws.{home_read, home_there}
use Rattle.cached_table.proofs.homes.HomesPageSource.load.Goals as goal

pub returns-in-Whole-clause-newest : goal.returns-in-Whole-clause-newest
returns-in-Whole-clause-newest g c honest knows =
    let M = g.M.Machine in
    home_read c.args.self.now c.self.inside.layout c.self.view_is (M.now c.args.m.now) (M.now c.read_home.new.m) (c.read_home.ensures.reads.worn honest) c.args.page c.requires.page knows c.in_ok-read_home.field-0 c.read_home.new.buf c.in-Whole.is (c.in_ok-read_home.ensures.shown honest)

pub returns-in-Damaged-clause-never_lost : goal.returns-in-Damaged-clause-never_lost
returns-in-Damaged-clause-never_lost g c honest knows =
    let M = g.M.Machine in
    home_there c.args.self.now c.self.inside.layout c.self.view_is (M.now c.args.m.now) (M.now c.read_home.new.m) (c.read_home.ensures.reads.worn honest) c.args.page c.requires.page knows c.in_ok-read_home.field-0 c.read_home.new.buf c.in-Damaged.is (c.in_ok-read_home.ensures.shown honest)
