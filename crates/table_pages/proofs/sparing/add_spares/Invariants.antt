use Rattle.std.proofs.Common.{◌≡◌, ◌≤◌, ◌-◌, None, length}
use Rattle.table_pages.specs.Bringing.{HasRoomFor}
use Rattle.table_pages.specs.Sparing.{SparesOnly}
use Rattle.table_pages.proofs.sparing.add_spares.Given as goal

-- so many are kept as were counted, and there is room for the others
abbrev pub invariant-loop : goal.invariant-loop
invariant-loop g l = record {
  only : SparesOnly g.M.Machine g.S.PageSource l.source l.free None l.fn.m l.m l.fn.cache l.cache l.fn.spares.items l.spares.items;
  room : HasRoomFor (16 - length l.spares.items) l.cache;
  count : length l.spares.items ≡ l.counter;
  few : length l.spares.items ≤ 16;
  first : length l.fn.spares.items ≤ length l.spares.items;
}
