use Rattle.std.proofs.Common.{None, Some, false, length, refl, ap}
use Rattle.memory_machine.specs.declared.memory.MemoryMachine.{MemoryMachine}
use Rattle.memory_machine.proofs.Calls.{counts_of, fault_told, noted_of, named_time, named_reached, syncs_to}
use Rattle.memory_machine.specs.State.{Calls, same, disk_failed}
use Rattle.memory_machine.specs.Memory.{memory_now, memory_state}
use Rattle.memory_machine.proofs.States.{by_err, by_ok, then_does, call_fails, same_min}
use Rattle.std.proofs.Common.{◌≡◌, rules}
use Rattle.memory_machine.specs.State.{healed, next_run}
use Rattle.memory_machine.proofs.memory.calls.MemoryMachineMachine.healing.Goals as goal

pub returns-clause-time : goal.returns-clause-time
returns-clause-time c h =
    let noted = noted_of c.pass.result c.if-is_err.ensures.value c.pass.ensures.noted in
    named_time false c.args.self.now c.pass.new.self (record c.pass.new.self { next = Some c.run_at.result; named = c.saturating_add-self.result; synced = c.len-self.result; waiting = None }) noted refl (ap (λ (m : MemoryMachine). m.said.items) c.pass.ensures.rest) (syncs_to false c.args.self.now c.pass.new.self c.len-self.result noted (search rules))

pub returns-clause-reached : goal.returns-clause-reached
returns-clause-reached c h =
    let noted = noted_of c.pass.result c.if-is_err.ensures.value c.pass.ensures.noted in
    named_reached false c.args.self.now c.pass.new.self (record c.pass.new.self { next = Some c.run_at.result; named = c.saturating_add-self.result; synced = c.len-self.result; waiting = None }) noted refl (ap (λ (m : MemoryMachine). m.said.items) c.pass.ensures.rest) (syncs_to false c.args.self.now c.pass.new.self c.len-self.result noted (search rules))

pub returns-then-is_err-clause-exact : goal.returns-then-is_err-clause-exact
returns-then-is_err-clause-exact c =
    let call = by_err c.pass.result (Calls false same same (memory_state c.args.self.now) (memory_state c.pass.new.self)) c.if-is_err.ensures.value c.pass.ensures.exact in
    call_fails false (healed c.args.longest) (disk_failed 0) (memory_state c.args.self.now) (memory_state c.pass.new.self) (memory_state c.disk_fault.new.self) call (ap memory_state c.disk_fault.ensures.told)

pub returns-clause-exact : goal.returns-clause-exact
returns-clause-exact c =
    let call = by_ok c.pass.result (Calls false same same (memory_state c.args.self.now) (memory_state c.pass.new.self)) c.if-is_err.ensures.value c.pass.ensures.exact in
    let sync = same_min c.len-self.result (length c.pass.new.self.past.items) (search rules) in
    let next : c.run_at.result ≡ next_run c.args.longest (memory_state c.pass.new.self).line = search rules in
    then_does false (healed c.args.longest) (disk_failed 0) (memory_state c.args.self.now) (memory_state c.pass.new.self) _ call (λ i. record (memory_state c.pass.new.self) {
      now = record (memory_now c.pass.new.self) { windows = record { present = c.pass.new.self.present; next = Some (next i) }; synced = sync i };
      waiting = None;
      line = record { runs = c.pass.new.self.runs.items; named = c.saturating_add-self.ensures i };
    })

pub returns-then-is_err-clause-cause : goal.returns-then-is_err-clause-cause
returns-then-is_err-clause-cause c =
    fault_told c.args.self.now c.pass.new.self c.disk_fault.new.self 0 c.disk_fault.result (λ i. counts_of (c.pass.ensures.rest i)) c.disk_fault.ensures.place c.disk_fault.ensures.later c.disk_fault.ensures.told
