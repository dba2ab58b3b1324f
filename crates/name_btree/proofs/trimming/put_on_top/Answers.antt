use Rattle.std.proofs.Common.{◌∙◌, ap, Some}
use Rattle.name_page.specs.declared.node.Node.{Node}
use Rattle.name_page.specs.Node.{content_of}
use Rattle.name_btree.proofs.steps.ReplaceLaws.{few_in_leaf}
use Rattle.name_btree.proofs.trimming.put_on_top.Goals as goal

pub listed-requires : goal.listed-requires
listed-requires g c =
    let there = c.requires.there in
    few_in_leaf there.0 there.1 c.in-Leaf.entries (there.2 ∙ ap (λ (n : Node). Some (content_of n)) c.in-Leaf.is)
