use Rattle.std.proofs.Common.{ap}
use Rattle.memory_machine.specs.State.{disk_failed}
use Rattle.memory_machine.specs.Memory.{memory_state}
use Rattle.memory_machine.proofs.Calls.{counts_of, fault_told}
use Rattle.memory_machine.proofs.States.{attach_fails}
use Rattle.memory_machine.proofs.memory.calls.MemoryMachineMachine.attach.Goals as goal

pub returns-in-None-clause-exact : goal.returns-in-None-clause-exact
returns-in-None-clause-exact c =
    attach_fails c.args.path.now c.args.how (disk_failed 0) (memory_state c.args.self.now) (memory_state c.open.new.self) (memory_state c.disk_fault.new.self) c.in-None.ensures.exact (ap memory_state c.disk_fault.ensures.told)

pub returns-in-None-clause-cause : goal.returns-in-None-clause-cause
returns-in-None-clause-cause c =
    fault_told c.args.self.now c.open.new.self c.disk_fault.new.self 0 c.disk_fault.result (λ i. counts_of (c.open.ensures.rest i)) c.disk_fault.ensures.place c.disk_fault.ensures.later c.disk_fault.ensures.told
