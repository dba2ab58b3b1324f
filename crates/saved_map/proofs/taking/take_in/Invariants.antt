use Rattle.std.proofs.Common.{◌≡◌, ℕ, ◌+◌, ◌-◌, ◌<◌, ◌≤◌, true}
use Rattle.std.specs.Prelude.{IsFalse}
use Rattle.fsd_formats.specs.MapSector.{has_map_bit}
use Rattle.saved_map.specs.Taking.{AreAdded, has_place, is_set_in_first}
use Rattle.saved_map.proofs.taking.take_in.Given as goal

abbrev pub invariant-loop-start : goal.invariant-loop-start
invariant-loop-start l = record {
  end : l.start ≤ 3968;
  found : l.start < 3968 → has_map_bit l.b l.start ≡ true;
  added : AreAdded l.l (is_set_in_first l.b l.at l.start) l.initial.map l.initial.free_pages l.map l.free_pages;
  clear : (n : ℕ) → n < l.start → IsFalse (has_place l.l (l.at + n)) → IsFalse (has_map_bit l.b n);
}

abbrev pub decreases-loop-start : goal.decreases-loop-start
decreases-loop-start l = 3968 - l.start
