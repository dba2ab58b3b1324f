-- What a step may reach after a rest, and a page that is refused then.
use Rattle.std.proofs.Common.{◌≡◌, ◌≤◌, ◌∙◌, length, sym, ap, arith}
use Rattle.fsd_bytes.specs.declared.refusal.Refusal.{Refusal}
use Rattle.name_page.specs.Pages.{Step, reaches, rested, with_images, with_refusal}
use Rattle.name_btree.specs.declared.fault.TreeFault.{TreeFault}
use Rattle.name_btree.specs.declared.fault.TreeFault.TheVariants.{Pages, Broken}
use Rattle.name_btree.specs.Still.{HasRefusal}

pub refused_rested : (a new : Step) (fault : TreeFault) → HasRefusal (rested a) new fault → HasRefusal (rested new) new fault
refused_rested a new (Broken page) h = tt
refused_rested a new (Pages refusal) h = h ∙ ap (λ (s : Step). with_refusal refusal (with_images new.images (rested s))) (sym h)

pub reaches_again : (a b c : Step) → b.most_reached ≡ a.most_reached → c ≡ rested b → reaches a ≤ reaches c
reaches_again a b c same is = omega (arith, same, ap (λ (s : Step). s.most_reached) is, ap (λ (s : Step). length s.reached) is)

pub reaches_refused : (a new : Step) (refusal : Refusal) → new.most_reached ≡ a.most_reached → HasRefusal (rested new) new (Pages refusal) → reaches a ≤ reaches new
reaches_refused a new refusal same h = omega (arith, same, ap (λ (s : Step). length s.reached) h)
