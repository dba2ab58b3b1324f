use Rattle.std.proofs.Common.{◌≡◌, ◌+◌, drop}
use Rattle.fsd_dumps.specs.Front.{common}
use Rattle.dump_text.proofs.field.common.Given as goal

abbrev pub invariant-loop-place : goal.invariant-loop-place
invariant-loop-place l = l.place + common (drop l.place l.text) (drop l.place l.bytes) ≡ common l.text l.bytes
