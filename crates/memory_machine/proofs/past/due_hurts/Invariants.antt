use Rattle.std.proofs.Common.{◌≡◌, ◌++◌, drop}
use Rattle.memory_machine.proofs.past.due_hurts.Given as goal
use Rattle.memory_machine.specs.Past.{due}

abbrev pub invariant-loop-event : goal.invariant-loop-event
invariant-loop-event l = l.hurts.items ++ due l.image l.calls l.settle (drop l.event-index l.events) ≡ due l.image l.calls l.settle l.events
