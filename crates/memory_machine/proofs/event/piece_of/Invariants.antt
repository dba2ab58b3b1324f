use Rattle.std.proofs.Common.{◌≡◌, ◌<◌, ◌≤◌, drop}
use Rattle.memory_machine.specs.Events.{piece_of}
use Rattle.memory_machine.proofs.event.piece_of.Given as goal

abbrev pub invariant-loop-event : goal.invariant-loop-event
invariant-loop-event l = record { piece : piece_of l.most (drop l.event-index l.events) ≡ piece_of l.room l.events; some : 0 < l.most; room : l.most ≤ l.room }
