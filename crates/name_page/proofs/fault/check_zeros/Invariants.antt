use Rattle.std.proofs.Common.{◌≡◌, ◌+◌, ◌-◌}
use Rattle.name_page.specs.Fault.{zeros_fault}
use Rattle.name_page.proofs.fault.check_zeros.Given as goal

-- what is left has the fault of all
abbrev pub invariant-loop-i : goal.invariant-loop-i
invariant-loop-i l = zeros_fault (l.place + l.n - l.i) l.i l.b ≡ zeros_fault l.n l.place l.b
