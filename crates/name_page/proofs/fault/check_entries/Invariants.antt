use Rattle.std.proofs.Common.{◌≡◌, ◌-◌, ◌≤◌, None}
use Rattle.name_page.specs.Fault.{entries_fault}
use Rattle.name_page.proofs.fault.check_entries.Given as goal

-- what is left has the fault of all
abbrev pub invariant-loop-i : goal.invariant-loop-i
invariant-loop-i l = (l.place ≤ l.limit) × (entries_fault (l.count - l.i) l.place l.limit l.before l.b ≡ entries_fault l.count 24 l.limit None l.b)
