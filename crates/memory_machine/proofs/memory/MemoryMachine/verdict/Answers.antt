use Rattle.std.proofs.Common.{◌≡◌, ◌∙◌, ℕ, length, rules}
use Rattle.std.specs.Prelude.{if◌then◌else◌}
use Rattle.std.specs.List.{list_any}
use Rattle.memory_machine.specs.declared.event.Write.{Write}
use Rattle.memory_machine.specs.Events.{verdict_of, counts_at}
use Rattle.memory_machine.specs.Memory.{memory_begun}
use Rattle.memory_machine.proofs.States.{verdict_counts}
use Rattle.memory_machine.proofs.memory.MemoryMachine.verdict.Goals as goal

pub returns : goal.returns
returns c =
    let events = c.args.self.now.events.items in
    let write : ℕ → Write = λ n. record { calls = length c.args.self.now.past.items; written = c.args.self.now.written; first = c.args.first; begun = n; count = c.args.count } in
    let begun : ℕ = memory_begun c.args.self.now c.args.first in
    let counted : c.verdict_of.result ≡ verdict_of events (write (if list_any (counts_at c.args.first) events then begun else 0)) = search rules in
    counted ∙ verdict_counts events (write 0) begun
