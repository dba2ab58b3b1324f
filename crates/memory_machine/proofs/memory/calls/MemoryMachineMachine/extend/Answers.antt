use Rattle.std.proofs.Common.{ap}
use Rattle.memory_machine.specs.State.{disk_failed}
use Rattle.memory_machine.specs.Memory.{memory_state}
use Rattle.memory_machine.proofs.States.{enlarge_fails}
use Rattle.memory_machine.proofs.Calls.{counts_of, fault_told}
use Rattle.memory_machine.proofs.memory.calls.MemoryMachineMachine.extend.Goals as goal

pub returns-then-not-widen-clause-exact : goal.returns-then-not-widen-clause-exact
returns-then-not-widen-clause-exact c =
    enlarge_fails c.args.sectors (disk_failed 0) (memory_state c.args.self.now) (memory_state c.widen.new.self) (memory_state c.disk_fault.new.self) c.if-not-widen.ensures.exact (ap memory_state c.disk_fault.ensures.told)

pub returns-then-not-widen-clause-cause : goal.returns-then-not-widen-clause-cause
returns-then-not-widen-clause-cause c =
    fault_told c.args.self.now c.widen.new.self c.disk_fault.new.self 0 c.disk_fault.result (λ i. counts_of (c.widen.ensures.rest i)) c.disk_fault.ensures.place c.disk_fault.ensures.later c.disk_fault.ensures.told
