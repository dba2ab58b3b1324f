use Rattle.std.proofs.Common.{rules, arith, refl}
use Rattle.std.proofs.lemmas.Grind.{common_steps}
use Rattle.memory_machine.proofs.memory.MemoryMachine.note.Goals as goal

pub returns-clause-ok : goal.returns-clause-ok
returns-clause-ok c = record {
  running = c.if-self.false;
  hurts = c.in-Ok.hurts;
  all_due = search rules;
  image = grind (arith, common_steps);
  past = grind (arith, common_steps);
  honest = grind (arith, common_steps);
  synced = grind (arith, common_steps);
  rest = refl;
}
