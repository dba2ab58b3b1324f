use Rattle.std.proofs.Common.{◌+◌, ◌∙◌, length, ap, subst, ℕ}
use Rattle.std.specs.Prelude.{OnOk}
use Rattle.volume_layout.specs.Kinds.{more}
use Rattle.log_record.specs.Found.{serving_in}
use Rattle.log_thirds.specs.Copies.{AreServed}
use Rattle.log_thirds.proofs.copies.copies_in.Goals as goal

pub returns : goal.returns
returns c =
    subst (λ (gap : ℕ). OnOk c.copies_as.result (AreServed gap (serving_in c.args.found.now) c.args.bytes.now (length c.args.found.now.pages.items + 1) c.copies_as.new.copies.items)) (c.more-gap.ensures.value ∙ ap more c.kind.ensures)
    c.copies_as.ensures
