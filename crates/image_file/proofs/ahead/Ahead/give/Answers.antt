use Rattle.image_file.proofs.ahead.Ahead.give.Goals as goal

pub returns-in-Some-clause-given : goal.returns-in-Some-clause-given
returns-in-Some-clause-given c = rw c.in-Some.is c.give_in.ensures.given
