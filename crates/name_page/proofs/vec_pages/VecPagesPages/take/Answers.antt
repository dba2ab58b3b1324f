use Rattle.std.proofs.Common.{◌∙◌, Bool, false, arith, length-set}
use Rattle.std.proofs.lemmas.List.Quantifiers.{position-Some}
use Rattle.name_page.proofs.MarkLaws.{count_taken}
use Rattle.name_page.proofs.vec_pages.VecPagesPages.take.Goals as goal

pub invariant_of-self-clause-flags : goal.invariant_of-self-clause-flags
invariant_of-self-clause-flags c = length-set c.args.self.now.spare.items c.first_true-i.result false ∙ c.args.self.now.flags

pub invariant_of-self-clause-counted : goal.invariant_of-self-clause-counted
invariant_of-self-clause-counted c =
    let found = rw c.deref.ensures.value at c.first_true-i.ensures in
    let at = position-Some (λ (spare : Bool). spare) c.args.self.now.spare.items _ false found in
    omega (arith, c.args.self.now.counted, count_taken c.args.self.now.spare.items c.first_true-i.result at.0 at.1)

pub returns-clause-spare : goal.returns-clause-spare
returns-clause-spare c =
    let found = rw c.deref.ensures.value at c.first_true-i.ensures in
    (position-Some (λ (spare : Bool). spare) c.args.self.now.spare.items _ false found).1
