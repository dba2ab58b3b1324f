use Rattle.std.proofs.Common.{rules, ◌≡◌, ◌++◌, ◌*◌, ◌-◌, ◌∙◌, ap, take, drop, arith}
use Rattle.image_file.proofs.Blocks.{slot_behind}
use Rattle.image_file.proofs.Waiting.{pushed}
use Rattle.image_file.proofs.stretch.Stretch.push.Goals as goal

pub returns-clause-there : goal.returns-clause-there
returns-clause-there c t =
    let old = c.args.self.now in
    let place = c.args.sector - c.first_before-first.result in
    let items : c.extend_from_slice.new.self.items ≡ old.slots.items ++ c.args.slot.now = search rules in
    let last = slot_behind old.count place old.slots.items c.args.slot.now old.whole (search rules) (omega (arith, c.first_before-first.ensures)) in
    ((omega (arith, c.first_before-first.ensures), omega (arith, c.first_before-first.ensures)), ap (λ slots. take 520 (drop (520 * place) slots)) items ∙ last)

pub returns-clause-only : goal.returns-clause-only
returns-clause-only c =
    let items : c.extend_from_slice.new.self.items ≡ c.args.self.now.slots.items ++ c.args.slot.now = search rules in
    pushed c.args.self.now c.first_before-first.result c.args.sector c.extend_from_slice.new.self.items c.args.slot.now c.requires c.first_before-first.ensures items
