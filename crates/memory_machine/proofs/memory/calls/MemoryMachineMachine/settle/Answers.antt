use Rattle.std.proofs.Common.{Some, None, true, length, refl, ap}
use Rattle.memory_machine.specs.declared.memory.MemoryMachine.{MemoryMachine}
use Rattle.memory_machine.proofs.Calls.{counts_of, fault_told, noted_of, named_time, named_reached, syncs_to}
use Rattle.memory_machine.specs.State.{Calls, same, disk_failed}
use Rattle.memory_machine.specs.Memory.{memory_now, memory_state}
use Rattle.memory_machine.proofs.States.{by_err, by_ok, then_does, call_fails, none_settled, same_min}
use Rattle.std.proofs.Common.{◌≡◌, rules}
use Rattle.sector_disk.specs.Image.{settled}
use Rattle.memory_machine.specs.State.{closed}
use Rattle.memory_machine.proofs.memory.calls.MemoryMachineMachine.settle.Goals as goal

pub returns-in-Some-clause-time : goal.returns-in-Some-clause-time
returns-in-Some-clause-time c h =
    let noted = noted_of c.pass.result c.if-is_err.ensures.value c.pass.ensures.noted in
    named_time true c.args.self.now c.pass.new.self (record c.pass.new.self { present = Some c.in-Some.run'; next = None; synced = c.len-self.result; waiting = None }) noted refl (ap (λ (m : MemoryMachine). m.said.items) c.pass.ensures.rest) (syncs_to true c.args.self.now c.pass.new.self c.len-self.result noted (search rules))

pub returns-in-Some-clause-reached : goal.returns-in-Some-clause-reached
returns-in-Some-clause-reached c h =
    let noted = noted_of c.pass.result c.if-is_err.ensures.value c.pass.ensures.noted in
    named_reached true c.args.self.now c.pass.new.self (record c.pass.new.self { present = Some c.in-Some.run'; next = None; synced = c.len-self.result; waiting = None }) noted refl (ap (λ (m : MemoryMachine). m.said.items) c.pass.ensures.rest) (syncs_to true c.args.self.now c.pass.new.self c.len-self.result noted (search rules))

pub returns-then-is_err-clause-exact : goal.returns-then-is_err-clause-exact
returns-then-is_err-clause-exact c =
    let call = by_err c.pass.result (Calls true same same (memory_state c.args.self.now) (memory_state c.pass.new.self)) c.if-is_err.ensures.value c.pass.ensures.exact in
    call_fails true closed (disk_failed 0) (memory_state c.args.self.now) (memory_state c.pass.new.self) (memory_state c.disk_fault.new.self) call (ap memory_state c.disk_fault.ensures.told)

pub returns-in-Some-clause-exact : goal.returns-in-Some-clause-exact
returns-in-Some-clause-exact c =
    let call = by_ok c.pass.result (Calls true same same (memory_state c.args.self.now) (memory_state c.pass.new.self)) c.if-is_err.ensures.value c.pass.ensures.exact in
    let sync = same_min c.len-self.result (length c.pass.new.self.past.items) (search rules) in
    let next : Some c.in-Some.run' ≡ c.pass.new.self.next = search rules in
    then_does true closed (disk_failed 0) (memory_state c.args.self.now) (memory_state c.pass.new.self) _ call (λ i. record (memory_state c.pass.new.self) {
      now = record (memory_now c.pass.new.self) { windows = settled c.pass.new.self.present (next i); synced = sync i };
      waiting = None;
    })

pub returns-in-None-clause-time : goal.returns-in-None-clause-time
returns-in-None-clause-time c h =
    let noted = noted_of c.pass.result c.if-is_err.ensures.value c.pass.ensures.noted in
    named_time true c.args.self.now c.pass.new.self (record c.pass.new.self { synced = c.len-self.result; waiting = None }) noted refl (ap (λ (m : MemoryMachine). m.said.items) c.pass.ensures.rest) (syncs_to true c.args.self.now c.pass.new.self c.len-self.result noted (search rules))

pub returns-in-None-clause-reached : goal.returns-in-None-clause-reached
returns-in-None-clause-reached c h =
    let noted = noted_of c.pass.result c.if-is_err.ensures.value c.pass.ensures.noted in
    named_reached true c.args.self.now c.pass.new.self (record c.pass.new.self { synced = c.len-self.result; waiting = None }) noted refl (ap (λ (m : MemoryMachine). m.said.items) c.pass.ensures.rest) (syncs_to true c.args.self.now c.pass.new.self c.len-self.result noted (search rules))

pub returns-in-None-clause-exact : goal.returns-in-None-clause-exact
returns-in-None-clause-exact c =
    let call = by_ok c.pass.result (Calls true same same (memory_state c.args.self.now) (memory_state c.pass.new.self)) c.if-is_err.ensures.value c.pass.ensures.exact in
    let sync = same_min c.len-self.result (length c.pass.new.self.past.items) (search rules) in
    let next : None ≡ c.pass.new.self.next = search rules in
    let windows = none_settled c.pass.new.self.present c.pass.new.self.next next in
    then_does true closed (disk_failed 0) (memory_state c.args.self.now) (memory_state c.pass.new.self) _ call (λ i. record (memory_state c.pass.new.self) {
      now = record (memory_now c.pass.new.self) { windows = windows i; synced = sync i };
      waiting = None;
    })

pub returns-then-is_err-clause-cause : goal.returns-then-is_err-clause-cause
returns-then-is_err-clause-cause c =
    fault_told c.args.self.now c.pass.new.self c.disk_fault.new.self 0 c.disk_fault.result (λ i. counts_of (c.pass.ensures.rest i)) c.disk_fault.ensures.place c.disk_fault.ensures.later c.disk_fault.ensures.told
