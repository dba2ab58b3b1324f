use Rattle.std.proofs.Common.{◌≡◌, ◌∙◌, IfOk, List, ℕ, ap, subst, sym}
use Rattle.fsd_files.specs.declared.reply.Reply.TheVariants as Said
use Rattle.fsd_runs.specs.Commands.{reply_text}
use Rattle.cfs_program.proofs.replies.text_of.Goals as goal

pub returns-in-Counts : goal.returns-in-Counts
returns-in-Counts c =
    let r = c.parts_text-in-Counts.result in
    let same : Said.Counts c.from-in-Counts.result c.from-in-Counts-2.result c.from-in-Counts-3.result c.from-in-Counts-4.result ≡ c.args.answer.now =
    (λ i. Said.Counts (c.from-in-Counts.ensures i) (c.from-in-Counts-2.ensures i) (c.from-in-Counts-3.ensures i) (c.from-in-Counts-4.ensures i)) ∙ sym c.in-Counts.is in
    subst (λ (l : List ℕ). IfOk r (λ said. said.items ≡ l)) (ap reply_text same) c.parts_text-in-Counts.ensures
