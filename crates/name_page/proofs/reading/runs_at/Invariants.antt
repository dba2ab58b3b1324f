use Rattle.std.proofs.Common.{◌≡◌, ◌+◌, ◌-◌, ◌*◌, ◌++◌, drop, length}
use Rattle.run_table.specs.RunTable.{runs_from}
use Rattle.name_page.proofs.reading.runs_at.Given as goal

-- the runs so far, and those of the rest, are all
abbrev pub invariant-loop-i : goal.invariant-loop-i
invariant-loop-i l = (length l.runs ≡ l.i) × (l.runs ++ runs_from (l.count - l.i) (drop (l.place + 1 + 6 * l.i) l.b) ≡ runs_from l.count (drop (l.place + 1) l.b))
