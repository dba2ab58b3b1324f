use Rattle.std.proofs.Common.{◌≡◌, ◌≤◌, ◌+◌, ◌-◌, ◌++◌, replicate}
use Rattle.std.specs.Vec.{vec_len, vec_capacity}
use Rattle.sector_disk.specs.declared.sector.Sector.TheVariants.{Damaged}
use Rattle.memory_machine.proofs.memory.put_behind.Given as goal

abbrev pub invariant-loop : goal.invariant-loop
invariant-loop l = record {
  items : l.image.items ≡ l.fn.image.items ++ replicate l.counter Damaged;
  room : vec_len l.image + (l.more - l.counter) ≤ vec_capacity l.image;
}
