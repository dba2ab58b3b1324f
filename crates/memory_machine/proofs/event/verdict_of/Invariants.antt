use Rattle.std.proofs.Common.{◌≡◌, drop}
use Rattle.memory_machine.specs.Events.{verdict_of}
use Rattle.memory_machine.proofs.event.verdict_of.Given as goal

abbrev pub invariant-loop-event : goal.invariant-loop-event
invariant-loop-event l = verdict_of (drop l.event-index l.events) l.write ≡ verdict_of l.events l.write
