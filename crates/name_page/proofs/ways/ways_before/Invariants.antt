use Rattle.std.proofs.Common.{◌≡◌, take, true}
use Rattle.std.specs.List.{AllByRecursion}
use Rattle.name_page.specs.Cut.{is_before}
use Rattle.name_page.proofs.ways.ways_before.Given as goal

-- those before stand before the place
abbrev pub invariant-loop-i : goal.invariant-loop-i
invariant-loop-i l = AllByRecursion (λ s. is_before l.cut s.key ≡ true) (take l.i l.ways.1)
