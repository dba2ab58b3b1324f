use Rattle.std.proofs.Common.{◌≡◌, ◌+◌, ◌-◌, ◌*◌, ◌≤◌}
use Rattle.name_page.specs.Fault.{lengths_fault}
use Rattle.name_page.proofs.fault.check_lengths.Given as goal

-- what is left has the fault of all
abbrev pub invariant-loop-i : goal.invariant-loop-i
invariant-loop-i l = (l.sum ≤ 65535 * l.i) × (lengths_fault (l.count - l.i) (l.place + 6 * l.i) l.sum l.need l.b ≡ lengths_fault l.count l.place 0 l.need l.b)
