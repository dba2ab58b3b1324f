use Rattle.log_record.specs.Found.{serving_in}
use Rattle.log_thirds.specs.Copies.{AreServed}
use Rattle.log_thirds.proofs.copies.copies_as.Given as goal

abbrev pub invariant-loop-j : goal.invariant-loop-j
invariant-loop-j l = AreServed l.gap (serving_in l.found) l.bytes l.j l.copies.items
