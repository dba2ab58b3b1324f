use Rattle.std.proofs.Common.{◌≡◌, ◌∙◌, inr, sym, rules}
use Rattle.memory_machine.specs.Events.{is_going, is_stop}
use Rattle.memory_machine.specs.State.{next_verdict}
use Rattle.memory_machine.specs.Memory.{memory_state}
use Rattle.memory_machine.proofs.States.{noted_stopped, going_runs}
use Rattle.memory_machine.proofs.memory.MemoryMachine.call.Goals as goal

pub returns-then-goes-clause-ok : goal.returns-then-goes-clause-ok
returns-then-goes-clause-ok c = noted_stopped c.args.settle c.args.work c.args.self.now c.note.new.self c.stops-self.result c.in_ok-note.ensures.ok

pub returns-then-goes-clause-running : goal.returns-then-goes-clause-running
returns-then-goes-clause-running c =
    let is_goes : c.goes.result ≡ is_going (next_verdict (memory_state c.args.self.now)) = search rules in
    let is_stops : c.stops-self.result ≡ is_stop (next_verdict (memory_state c.args.self.now)) = search rules in
    is_stops ∙ going_runs (next_verdict (memory_state c.args.self.now)) (sym is_goes ∙ c.if-goes.true)

pub returns-else-goes-clause-err : goal.returns-else-goes-clause-err
returns-else-goes-clause-err c =
    let is_goes : c.goes.result ≡ is_going (next_verdict (memory_state c.args.self.now)) = search rules in
    inr (record {
      noted = noted_stopped c.args.settle c.args.work c.args.self.now c.note.new.self c.stops-self.result c.in_ok-note.ensures.ok;
      fails = sym is_goes ∙ c.if-goes.false;
      stops = search rules;
    })
