use Rattle.std.proofs.Common.{◌≡◌, ◌∙◌, ℕ, List, drop, reverse, sym, ap, subst, rules}
use Rattle.sector_disk.specs.declared.sector.Sector.{Sector}
use Rattle.memory_machine.specs.Memory.{memory_line, IsMade}
use Rattle.memory_machine.specs.Left.{left_by, time_before, undo_all}
use Rattle.memory_machine.proofs.LeftLaws.{stop_left, left_image}
use Rattle.memory_machine.proofs.memory.MemoryMachine.left_behind.Goals as goal

pub returns-clause-made : goal.returns-clause-made
returns-clause-made c =
    let time : c.max-time.result ≡ time_before c.args.held c.args.self = search rules in
    let image = c.take_back.ensures ∙ ap (λ (n : ℕ). undo_all (reverse (drop n c.args.self.past.items)) c.args.self.image.items) time ∙ sym (left_image c.args.held c.args.self) in
    subst (λ (l : List Sector). IsMade l (left_by c.args.held c.args.self).windows (memory_line c.args.self) c.args.events.items c.args.input.items c.again.result) image c.again.ensures.made

pub returns-clause-stop : goal.returns-clause-stop
returns-clause-stop c t le = stop_left c.args.held c.args.self t le
