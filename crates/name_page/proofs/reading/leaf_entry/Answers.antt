use Rattle.std.proofs.Common.{◌+◌, ap, subst, sym, ◌∙◌, Some, arith, ℕ}
use Rattle.name_page.proofs.ReadingLaws.{Walk, walk_begins, walk_next, walk_entry, walk_ends}
use Rattle.name_page.proofs.reading.leaf_entry.Goals as goal

pub loop-init : goal.loop-init
loop-init c = walk_begins c.args.b.now c.args.i c.fits-b c.requires

pub entry_end-place-requires : goal.entry_end-place-requires
entry_end-place-requires c = (walk_entry c.args.b.now c.args.i c.loop.counter c.loop.place c.told-b (omega arith) c.loop.invariant).2

pub loop-preserved : goal.loop-preserved
loop-preserved c =
    let P : ℕ → Type 0 = λ (place : ℕ). Walk c.args.b.now c.args.i (c.loop.counter + 1) place in
    subst P (sym c.entry_end-place.ensures) (walk_next c.args.b.now c.args.i c.loop.counter c.loop.place c.told-b (omega arith) c.loop.invariant)

pub entry_at-requires-clause-entry : goal.entry_at-requires-clause-entry
entry_at-requires-clause-entry c = (walk_entry c.args.b.now c.args.i c.loop.counter c.loop.place c.told-b (omega arith) c.loop.invariant).0

pub entry_at-requires-clause-within : goal.entry_at-requires-clause-within
entry_at-requires-clause-within c = (walk_entry c.args.b.now c.args.i c.loop.counter c.loop.place c.told-b (omega arith) c.loop.invariant).1

pub returns : goal.returns
returns c =
    walk_ends c.args.b.now c.args.i c.loop.counter c.loop.place c.told-b (omega arith) c.loop.invariant ∙ ap Some (sym c.entry_at.ensures)
