use Rattle.std.proofs.Common.{◌∙◌, ap, count_by, Bool}
use Rattle.name_page.proofs.AcceptLaws.{none_marked}
use Rattle.name_page.proofs.vec_pages.VecPages.new.Goals as goal

pub invariant_of-result-clause-counted : goal.invariant_of-result-clause-counted
invariant_of-result-clause-counted c = c.count_true-free.ensures ∙ ap (count_by (λ (spare : Bool). spare)) c.deref.ensures.value

pub invariant_of-result-clause-are_accepted : goal.invariant_of-result-clause-are_accepted
invariant_of-result-clause-are_accepted c = none_marked 4096 c.args.pages.items
