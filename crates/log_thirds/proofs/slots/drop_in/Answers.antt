use Rattle.std.proofs.Common.{map, None, arith, sym, ◌∙◌}
use Rattle.std.proofs.lemmas.List.{ext_get_or, get_or-map}
use Rattle.std.proofs.lemmas.List.{length-map}
use Rattle.fsd_log.specs.Slots.{slot_outside}
use Rattle.log_thirds.proofs.slots.drop_in.Goals as goal

pub returns : goal.returns
returns c =
    let sized = length-map c.args.slots.now (slot_outside c.args.start c.args.count) in
    ext_get_or None c.loop-slot.slots (map (slot_outside c.args.start c.args.count) c.args.slots.now) (omega (arith, c.loop-slot.auto.slots, sized))
    (λ k lt.
    c.loop-slot.invariant.done k (omega (arith, lt, c.loop-slot-test.false))
    ∙ sym (get_or-map (slot_outside c.args.start c.args.count) c.args.slots.now k None None (omega (arith, lt, c.loop-slot.auto.slots))))
