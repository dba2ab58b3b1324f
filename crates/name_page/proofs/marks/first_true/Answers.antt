use Rattle.name_page.proofs.MarkLaws.{true_found}
use Rattle.name_page.proofs.marks.first_true.Goals as goal

pub unwrap-requires : goal.unwrap-requires
unwrap-requires c = rw c.find_true.ensures (true_found c.args.flags.now c.requires)
