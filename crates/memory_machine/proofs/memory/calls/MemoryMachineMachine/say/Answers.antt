use Rattle.std.proofs.Common.{false}
use Rattle.memory_machine.specs.State.{spoken, output_failed}
use Rattle.memory_machine.specs.Memory.{memory_state}
use Rattle.memory_machine.proofs.States.{call_fails}
use Rattle.memory_machine.proofs.memory.calls.MemoryMachineMachine.say.Goals as goal

pub returns-then-not-speak-clause-exact : goal.returns-then-not-speak-clause-exact
returns-then-not-speak-clause-exact c =
    let mid = memory_state c.speak.new.self in
    call_fails false (spoken c.args.bytes.now) output_failed (memory_state c.args.self.now) mid _ c.if-not-speak.ensures.exact (λ i. record mid {
      faults = record mid.faults { output = c.saturating_add-self.ensures i };
    })
