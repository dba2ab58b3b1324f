use Rattle.std.proofs.Common.{◌≡◌, ◌≤◌, ◌-◌, length, drop, map}
use Rattle.fsd_dumps.specs.Front.{dumped_in, rest_of, with_front}
use Rattle.dump_text.specs.Items.{dumped}
use Rattle.dump_text.proofs.reading.read_items.Given as goal

abbrev pub invariant-loop-done : goal.invariant-loop-done
invariant-loop-done l = record {
  fits : l.place ≤ length l.bytes;
  read : with_front (map (dumped l.bytes) l.items.items) l.place (rest_of l.count (l.count - l.done) l.last (drop l.place l.bytes)) ≡ dumped_in l.bytes;
}
