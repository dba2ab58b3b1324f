use Rattle.name_page.proofs.ReadingLaws.{Walk}
use Rattle.name_page.proofs.reading.leaf_entry.Given as goal

abbrev pub invariant-loop : goal.invariant-loop
invariant-loop l = Walk l.b l.i l.counter l.place
