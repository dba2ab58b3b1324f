use Rattle.name_page.proofs.PlaceLaws.{Placed}
use Rattle.name_page.proofs.reading.places_in.Given as goal

abbrev pub invariant-loop-i : goal.invariant-loop-i
invariant-loop-i l = Placed l.b l.places l.i l.place
