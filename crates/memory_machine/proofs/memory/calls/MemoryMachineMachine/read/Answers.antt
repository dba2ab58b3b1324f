use Rattle.std.proofs.Common.{false, ap, arith}
use Rattle.std.proofs.lemmas.Grind.{common_steps}
use Rattle.memory_machine.specs.State.{Calls, same, disk_failed}
use Rattle.memory_machine.specs.Memory.{memory_state}
use Rattle.memory_machine.proofs.States.{by_err, by_ok, call_fails}
use Rattle.memory_machine.proofs.Calls.{counts_of, fault_told}
use Rattle.memory_machine.proofs.memory.calls.MemoryMachineMachine.read.Goals as goal

pub returns-then-is_err-clause-exact : goal.returns-then-is_err-clause-exact
returns-then-is_err-clause-exact c =
    let call = by_err c.pass.result (Calls false same same (memory_state c.args.self.now) (memory_state c.pass.new.self)) c.if-is_err.ensures.value c.pass.ensures.exact in
    call_fails false same (disk_failed c.args.sector) (memory_state c.args.self.now) (memory_state c.pass.new.self) (memory_state c.disk_fault.new.self) call (ap memory_state c.disk_fault.ensures.told)

pub returns-in-Whole-clause-exact : goal.returns-in-Whole-clause-exact
returns-in-Whole-clause-exact c = by_ok c.pass.result (Calls false same same (memory_state c.args.self.now) (memory_state c.pass.new.self)) c.if-is_err.ensures.value c.pass.ensures.exact

pub returns-in-Whole-clause-shown : goal.returns-in-Whole-clause-shown
returns-in-Whole-clause-shown c = grind (arith, common_steps)

pub returns-then-is_err-clause-cause : goal.returns-then-is_err-clause-cause
returns-then-is_err-clause-cause c =
    fault_told c.args.self.now c.pass.new.self c.disk_fault.new.self c.args.sector c.disk_fault.result (λ i. counts_of (c.pass.ensures.rest i)) c.disk_fault.ensures.place c.disk_fault.ensures.later c.disk_fault.ensures.told
