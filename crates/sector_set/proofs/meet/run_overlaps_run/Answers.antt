use Rattle.std.proofs.Common.{◌∙◌, sym, arith}
use Rattle.std.proofs.lemmas.Bool.{le-ltb}
use Rattle.sector_set.proofs.MeetLaws.{meet_in, meet_out}
use Rattle.sector_set.proofs.meet.run_overlaps_run.Goals as goal

pub returns-then-first-end : goal.returns-then-first-end
returns-then-first-end c = meet_in c.args.run.start c.args.run.length c.args.other.start c.args.other.length c.max-first.result (omega arith) (omega arith) (λ x a b. omega arith) (omega arith)

pub returns-else-first-end : goal.returns-else-first-end
returns-else-first-end c =
    le-ltb c.max-first.result _ (omega arith)
    ∙ sym (meet_out c.args.run.start c.args.run.length c.args.other.start c.args.other.length c.max-first.result (λ x a b. omega arith) (omega arith))
