use Rattle.std.proofs.Common.{◌≡◌, ◌+◌, ◌-◌, ℕ, List, length, drop, get_or, set, Some, Option, arith, ap, ◌∙◌}
use Rattle.fsd_log.specs.declared.slot.Slot.{Slot}
use Rattle.fsd_log.specs.Slots.{noted_slots}
use Rattle.fsd_log.proofs.SlotLaws.{noted_none, noted_step}
use Rattle.log_thirds.proofs.slots.note_at.Goals as goal

pub loop-k-init : goal.loop-k-init
loop-k-init c = noted_none c.args.number c.args.slots.now (c.args.place + (length c.args.pages.now - 0)) (c.args.place + length c.args.pages.now + 1 + c.args.gap + (length c.args.pages.now - 0)) c.args.pages.now (length c.args.pages.now - 0) (omega arith)

pub loop-k-preserved : goal.loop-k-preserved
loop-k-preserved c =
    let pages = c.args.pages.now in
    let place = c.args.place in
    let copy = c.args.place + length c.args.pages.now + 1 + c.args.gap in
    let j = length c.args.pages.now - 1 - c.loop-k.k in
    let next : length c.args.pages.now - 1 - c.loop-k.k ≡ length c.args.pages.now - (c.loop-k.k + 1) = omega arith in
    c.put.ensures
    ∙ ap (λ (l : List (Option Slot)). set l (get_or pages j 0) (Some (record { place = place + j; copy = copy + j; number = c.args.number }))) c.loop-k.invariant
    ∙ noted_step c.args.number c.args.slots.now place copy pages j (length c.args.pages.now - c.loop-k.k) (omega (arith, c.loop-k-test.true)) (omega (arith, c.loop-k-test.true))
    ∙ ap (λ (n : ℕ). noted_slots c.args.number (place + n) (copy + n) (drop n pages) c.args.slots.now) next

pub returns : goal.returns
returns c =
    let place : c.args.place + (length c.args.pages.now - c.loop-k.k) ≡ c.args.place = omega (arith, c.loop-k-test.false) in
    let copy : c.args.place + length c.args.pages.now + 1 + c.args.gap + (length c.args.pages.now - c.loop-k.k) ≡ c.args.place + length c.args.pages.now + 1 + c.args.gap = omega (arith, c.loop-k-test.false) in
    let none : length c.args.pages.now - c.loop-k.k ≡ 0 = omega (arith, c.loop-k-test.false) in
    let all : drop (length c.args.pages.now - c.loop-k.k) c.args.pages.now ≡ c.args.pages.now = ap (λ (n : ℕ). drop n c.args.pages.now) none in
    c.loop-k.invariant ∙ λ i. noted_slots c.args.number (place i) (copy i) (all i) c.args.slots.now
