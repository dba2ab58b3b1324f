use Rattle.std.proofs.Common.{◌+◌, length, ap, ◌∙◌, ℕ}
use Rattle.volume_layout.specs.Kinds.{more}
use Rattle.fsd_log.specs.Slots.{noted_slots}
use Rattle.log_thirds.proofs.slots.note.Goals as goal

pub returns : goal.returns
returns c =
    let place = c.args.place in
    c.note_at.ensures
    ∙ ap (λ (gap : ℕ). noted_slots c.args.number (place + 3 + gap) (place + 3 + gap + length c.args.pages.now + 1 + gap) c.args.pages.now c.args.slots.now) (c.more-gap.ensures.value ∙ ap more c.kind.ensures)
