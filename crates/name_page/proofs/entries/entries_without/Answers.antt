use Rattle.std.proofs.Common.{ap, length, arith, length-append}
use Rattle.name_page.specs.declared.entries.Side.TheVariants.{Lesser}
use Rattle.name_page.specs.Edits.{beside}
use Rattle.name_page.proofs.SideLaws.{sides_count}
use Rattle.name_page.proofs.entries.entries_without.Goals as goal

pub put_side-requires-clause-room : goal.put_side-requires-clause-room
put_side-requires-clause-room c = omega (arith, c.requires, ap length c.new-list.ensures, sides_count c.args.key.now c.args.entries.now)

pub put_side-requires-2-clause-room : goal.put_side-requires-2-clause-room
put_side-requires-2-clause-room c =
    omega (arith, c.requires, ap length c.new-list.ensures, ap length c.put_side.ensures.entries, length-append c.new-list.result.items (beside Lesser c.args.key.now c.args.entries.now), sides_count c.args.key.now c.args.entries.now)
