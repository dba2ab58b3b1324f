use Rattle.std.proofs.Common.{◌≡◌, ◌-◌, ◌≤◌}
use Rattle.run_table.specs.Space.{runs_of, longest}
use Rattle.sector_set.specs.Area.{left_of}
use Rattle.alloc_map.proofs.ChooseLaws.{lowest}
use Rattle.alloc_map.proofs.LongestLaws.{longest_with}
use Rattle.alloc_map.proofs.map.Map.choose.Given as goal

-- what is left of the free runs decides
abbrev pub invariant-loop-run : goal.invariant-loop-run
invariant-loop-run l = let m = l.self-inside.free in record {
  low : m.from ≤ l.at;
  inside : l.at ≤ m.to;
  seen : lowest l.need (left_of m l.at) ≡ lowest l.need (runs_of m.sectors);
  kept : longest_with l.longest (left_of m l.at) ≡ longest (runs_of m.sectors);
}

abbrev pub decreases-loop-run : goal.decreases-loop-run
decreases-loop-run l = l.self-inside.free.to - l.at
