use Rattle.std.proofs.Common.{◌≡◌, drop}
use Rattle.memory_machine.specs.Events.{call_verdict_of}
use Rattle.memory_machine.proofs.event.call_verdict_of.Given as goal

abbrev pub invariant-loop-event : goal.invariant-loop-event
invariant-loop-event l = call_verdict_of (drop l.event-index l.events) l.calls ≡ call_verdict_of l.events l.calls
