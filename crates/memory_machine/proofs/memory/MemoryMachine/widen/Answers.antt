use Rattle.std.proofs.Common.{length, inl, inr, subst}
use Rattle.memory_machine.specs.State.{Enlarged, same}
use Rattle.memory_machine.specs.Memory.{told_of, memory_now, memory_state}
use Rattle.memory_machine.proofs.GrowCalls.{room_for, widened_from}
use Rattle.memory_machine.proofs.memory.MemoryMachine.widen.Goals as goal

pub returns-then-is_err-clause-exact : goal.returns-then-is_err-clause-exact
returns-then-is_err-clause-exact c = inl (inr (
  c.if-self.false,
  λ i. record (memory_state c.args.self.now) {
    now = record (memory_now c.args.self.now) { image = c.reserve.ensures.items i };
    told = told_of c.args.self.now.told (length (c.reserve.ensures.items i));
    starved = c.saturating_add-self.ensures i;
  },
))

pub returns-clause-widened : goal.returns-clause-widened
returns-clause-widened c =
    widened_from c.args.count c.enlarge.result c.args.self.now c.reserve.new.self c.enlarge.new.self c.reserve.ensures.items c.enlarge.ensures.widened

pub returns-clause-exact : goal.returns-clause-exact
returns-clause-exact c =
    subst (λ s. Enlarged c.args.count same s (memory_state c.enlarge.new.self) c.enlarge.result) (room_for c.args.self.now c.reserve.new.self c.reserve.ensures.items) c.enlarge.ensures.exact
