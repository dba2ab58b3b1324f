use Rattle.std.proofs.Common.{◌≡◌, ◌+◌, ◌-◌, ◌*◌, None}
use Rattle.name_page.specs.Fault.{separators_fault}
use Rattle.name_page.proofs.fault.check_separators.Given as goal

-- what is left has the fault of all
abbrev pub invariant-loop-i : goal.invariant-loop-i
invariant-loop-i l = separators_fault (l.count - l.i) (28 + 49 * l.i) l.p l.before l.b ≡ separators_fault l.count 28 l.p None l.b
