use Rattle.std.proofs.Common.{◌≤◌, ◌+◌, length, take, arith}
use Rattle.std.specs.List.{flat_map}
use Rattle.fsd_formats.specs.NamePage.{entry_bytes}
use Rattle.name_page.proofs.CutPageLaws.{leaves_at}
use Rattle.name_page.proofs.parting.leaf_cut.Goals as goal

pub returns-then-is_enough-clause-leaves : goal.returns-then-is_enough-clause-leaves
returns-then-is_enough-clause-leaves c =
    let entries = c.args.entries.now in
    let least : 190 ≤ length (flat_map entry_bytes (take c.loop-i.i entries)) = omega (arith, c.loop-i.invariant.0, c.is_enough.ensures.least c.if-is_enough.true) in
    let most : length (flat_map entry_bytes (take c.loop-i.i entries)) ≤ 488 = omega (arith, c.loop-i.invariant.0, c.loop-i.invariant.1) in
    let left : length (flat_map entry_bytes (take c.loop-i.i entries)) + 190 ≤ length (flat_map entry_bytes entries) = omega (arith, c.loop-i.invariant.0, c.loop-i.invariant.2, c.requires.used) in
    leaves_at entries c.loop-i.i c.requires.entries c.requires.order c.requires.many c.requires.few least most left
