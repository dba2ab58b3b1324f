use Rattle.memory_machine.proofs.Calls.{quiet_outcome, reached_outcome}
use Rattle.memory_machine.proofs.States.{quiet_calls}
use Rattle.memory_machine.proofs.memory.MemoryMachine.pass.Goals as goal

pub returns-clause-passes : goal.returns-clause-passes
returns-clause-passes c = quiet_outcome c.args.settle c.args.self.now c.call.new.self c.call.result c.call.ensures.ok c.call.ensures.err

pub returns-clause-reached : goal.returns-clause-reached
returns-clause-reached c = reached_outcome c.args.settle c.args.self.now c.call.new.self c.call.result c.call.ensures.ok

pub returns-clause-exact : goal.returns-clause-exact
returns-clause-exact c = quiet_calls c.args.settle c.args.self.now c.call.new.self c.call.result c.call.ensures.ok c.call.ensures.err c.call.ensures.goes c.call.ensures.running
