use Rattle.std.proofs.Common.{◌≡◌, ◌∙◌, ℕ, false, refl, sym, ap}
use Rattle.memory_machine.specs.State.{flushed, first_waiting, disk_failed, one_more}
use Rattle.memory_machine.specs.Memory.{memory_state}
use Rattle.memory_machine.proofs.States.{call_fails}
use Rattle.memory_machine.proofs.Calls.{counts_of, fault_told}
use Rattle.memory_machine.proofs.memory.calls.MemoryMachineMachine.sync.Goals as goal

pub returns-then-not-flush-clause-exact : goal.returns-then-not-flush-clause-exact
returns-then-not-flush-clause-exact c =
    let old = memory_state c.args.self.now in
    let place : c.unwrap_or-place.result ≡ first_waiting old = c.unwrap_or-place.ensures in
    let told = ap memory_state c.disk_fault.ensures.told ∙ ap (λ (n : ℕ). disk_failed n (memory_state c.flush.new.self)) place in
    call_fails false flushed (disk_failed (first_waiting old)) old (memory_state c.flush.new.self) (memory_state c.disk_fault.new.self) c.if-not-flush.ensures.exact told

pub returns-then-not-flush-clause-cause : goal.returns-then-not-flush-clause-cause
returns-then-not-flush-clause-cause c =
    let place = sym c.disk_fault.ensures.place in
    let told = c.disk_fault.ensures.told ∙ ap (λ (n : ℕ). record c.flush.new.self { fault_place = n; disk_faults = one_more c.flush.new.self.disk_faults }) place in
    fault_told c.args.self.now c.flush.new.self c.disk_fault.new.self c.disk_fault.result.place c.disk_fault.result (λ i. counts_of (c.flush.ensures.rest i)) refl c.disk_fault.ensures.later told
