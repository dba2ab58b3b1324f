use Rattle.std.proofs.Common.{◌≡◌, ◌∙◌, ◌-◌, ℕ, List, length, drop, min, sym, ap}
use Rattle.std.proofs.lemmas.List.{length-drop, drop-drop}
use Rattle.memory_machine.specs.Events.{piece_of}
use Rattle.memory_machine.specs.State.{given, taken}
use Rattle.std.proofs.Common.{false}
use Rattle.memory_machine.specs.State.{Calls, same, input_failed}
use Rattle.memory_machine.specs.Memory.{memory_state}
use Rattle.memory_machine.proofs.States.{by_err, by_ok, then_does, call_fails}
use Rattle.memory_machine.proofs.memory.calls.MemoryMachineMachine.take.Goals as goal

pub returns-then-is_err-clause-exact : goal.returns-then-is_err-clause-exact
returns-then-is_err-clause-exact c =
    let call = by_err c.pass.result (Calls false same same (memory_state c.args.self.now) (memory_state c.pass.new.self)) c.if-is_err.ensures.value c.pass.ensures.exact in
    let mid = memory_state c.pass.new.self in
    call_fails false (taken (length c.args.buf.now)) input_failed (memory_state c.args.self.now) mid _ call (λ i. record mid {
      faults = record mid.faults { input = c.saturating_add-self.ensures i };
    })

pub returns-clause-exact : goal.returns-clause-exact
returns-clause-exact c =
    let call = by_ok c.pass.result (Calls false same same (memory_state c.args.self.now) (memory_state c.pass.new.self)) c.if-is_err.ensures.value c.pass.ensures.exact in
    let room = c.piece_of-room.ensures.piece ∙ ap (piece_of (length c.args.buf.now)) c.deref.ensures.value in
    let rest = ap (λ (l : List ℕ). length l - c.pass.new.self.taken) c.deref-2.ensures.value ∙ sym (length-drop c.pass.new.self.taken c.pass.new.self.input.items) in
    let count : c.take_from-count.result ≡ given (memory_state c.pass.new.self) (length c.args.buf.now) = c.take_from-count.ensures.exact ∙ (λ i. min (room i) (rest i)) in
    let left = sym (drop-drop c.take_from-count.result c.pass.new.self.taken c.pass.new.self.input.items) in
    let input = left ∙ ap (λ (n : ℕ). drop n (drop c.pass.new.self.taken c.pass.new.self.input.items)) count in
    then_does false (taken (length c.args.buf.now)) input_failed (memory_state c.args.self.now) (memory_state c.pass.new.self) _ call (λ i. record (memory_state c.pass.new.self) {
      ledger = record (memory_state c.pass.new.self).ledger { input = input i };
    })
