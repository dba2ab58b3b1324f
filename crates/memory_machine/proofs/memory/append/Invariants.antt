use Rattle.std.proofs.Common.{◌≡◌, ◌≤◌, ◌+◌, ◌++◌, length, take, drop}
use Rattle.std.specs.Vec.{vec_len, vec_capacity}
use Rattle.memory_machine.proofs.memory.append.Given as goal

abbrev pub invariant-loop-byte : goal.invariant-loop-byte
invariant-loop-byte l = record {
  items : l.said.items ≡ l.fn.said.items ++ take l.byte-index l.bytes;
  room : vec_len l.said + length (drop l.byte-index l.bytes) ≤ vec_capacity l.said;
}
