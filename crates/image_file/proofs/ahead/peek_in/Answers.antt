use Rattle.std.proofs.Common.{sym}
use Rattle.image_file.proofs.ahead.peek_in.Goals as goal

pub returns-in-Some-clause-given : goal.returns-in-Some-clause-given
returns-in-Some-clause-given c t =
    let there = c.give.ensures.there t in
    (c.in-Some.block.now, sym c.in-Some.ensures, there.0, there.1)
