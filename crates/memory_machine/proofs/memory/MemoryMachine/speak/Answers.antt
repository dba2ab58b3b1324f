use Rattle.std.proofs.Common.{◌≡◌, ◌++◌, ℕ, List, false, true, refl, sym, ◌∙◌, ap, subst, rules}
use Rattle.memory_machine.specs.declared.memory.MemoryMachine.{MemoryMachine}
use Rattle.memory_machine.specs.Memory.{Spoken}
use Rattle.memory_machine.proofs.Calls.{noted_of, failed_of, spoken_from, spoken_fails, spoken_all}
use Rattle.memory_machine.proofs.Steps.{noted_syncs}
use Rattle.memory_machine.specs.declared.past.Work.TheVariants.{Saying}
use Rattle.memory_machine.proofs.States.{said_none, said_all}
use Rattle.memory_machine.specs.Memory.{memory_now, memory_state}
use Rattle.std.proofs.Common.{inl, inr}
use Rattle.memory_machine.proofs.memory.MemoryMachine.speak.Goals as goal

pub returns-then-is_err-2-clause-spoken : goal.returns-then-is_err-2-clause-spoken
returns-then-is_err-2-clause-spoken c =
    let copied : c.in-Ok.copy.items ≡ c.args.bytes.now = search rules in
    let ready = record c.args.self.now { said = c.reserve.new.self } in
    spoken_from c.args.bytes.now false c.args.self.now c.reserve.new.self c.call.new.self c.reserve.ensures.items
    (subst (λ (b : List ℕ). Spoken b false ready c.call.new.self) copied (spoken_fails ready c.call.new.self c.in-Ok.copy (failed_of c.call.result c.if-is_err-2.ensures.value c.call.ensures.err)))

pub returns-clause-spoken : goal.returns-clause-spoken
returns-clause-spoken c =
    let copied : c.in-Ok.copy.items ≡ c.args.bytes.now = search rules in
    let noted = noted_of c.call.result c.if-is_err-2.ensures.value c.call.ensures.ok in
    let ready = record c.args.self.now { said = c.reserve.new.self } in
    let end = record c.call.new.self { said = c.append.new.said } in
    let before = ap (λ (m : MemoryMachine). m.said.items) noted.rest in
    let said : c.append.new.said.items ≡ c.call.new.self.said.items ++ c.args.bytes.now = c.append.ensures in
    spoken_from c.args.bytes.now true c.args.self.now c.reserve.new.self end c.reserve.ensures.items
    (subst (λ (b : List ℕ). Spoken b true ready end) copied
    (spoken_all ready c.call.new.self end c.in-Ok.copy noted refl (noted_syncs false (Saying c.in-Ok.copy) ready c.call.new.self noted) (ap (λ (m : MemoryMachine). m.present) noted.rest) (ap (λ (m : MemoryMachine). m.next) noted.rest)
    (said ∙ ap (λ (l : List ℕ). l ++ c.args.bytes.now) before ∙ ap (λ (l : List ℕ). ready.said.items ++ l) (sym copied))))

pub returns-then-is_err-2-clause-exact : goal.returns-then-is_err-2-clause-exact
returns-then-is_err-2-clause-exact c =
    said_none c.args.bytes.now c.args.self.now c.reserve.new.self c.in-Ok.copy c.call.new.self c.reserve.ensures.items (failed_of c.call.result c.if-is_err-2.ensures.value c.call.ensures.err)

pub returns-clause-exact : goal.returns-clause-exact
returns-clause-exact c =
    said_all c.args.bytes.now c.args.self.now c.reserve.new.self c.in-Ok.copy c.call.new.self (record c.call.new.self { said = c.append.new.said }) c.reserve.ensures.items
    (noted_of c.call.result c.if-is_err-2.ensures.value c.call.ensures.ok) (noted_of c.call.result c.if-is_err-2.ensures.value c.call.ensures.goes) (noted_of c.call.result c.if-is_err-2.ensures.value c.call.ensures.running) refl c.append.ensures

pub returns-in_default-clause-exact : goal.returns-in_default-clause-exact
returns-in_default-clause-exact c = inl (inr (c.if-self.false, λ i. record (memory_state c.args.self.now) { starved = c.saturating_add-self.ensures i }))

pub returns-then-is_err-clause-exact : goal.returns-then-is_err-clause-exact
returns-then-is_err-clause-exact c = inl (inr (
  c.if-self.false,
  λ i. record (memory_state c.args.self.now) {
    now = record (memory_now c.args.self.now) { said = c.reserve.ensures.items i };
    starved = c.saturating_add-self-then-is_err.ensures i;
  },
))
