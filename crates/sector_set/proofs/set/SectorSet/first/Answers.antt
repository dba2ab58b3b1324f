use Rattle.std.proofs.Common.{◌≡◌, ◌+◌, ◌/◌, ◌≤◌, length, ap, sym, ◌∙◌, arith}
use Rattle.sector_set.specs.SectorSet.{SectorsBelow}
use Rattle.sector_set.proofs.SetLaws.{first_below}
use Rattle.sector_set.proofs.set.SectorSet.first.Goals as goal

pub returns : goal.returns
returns c =
    let whole : length c.self.inside.words.items ≡ c.self.inside.end / 64 + 1 = sym (ap length c.deref.ensures.value) ∙ c.deref.ensures.len ∙ c.self.invariant.0 in
    let inside : c.args.end ≤ c.self.inside.end = omega (arith, ap (λ (v : SectorsBelow). v.end) c.self.view_is, c.requires.within) in
    rw (← c.self.view_is, c.min.ensures) (first_below c.self.inside.end c.args.end c.args.at (c.args.end / 64 + 1) c.self.inside.words.items c.args.wanted c.first.result
    (omega arith) (omega arith) inside c.requires.order c.first.ensures.bounds.0 (rw c.deref.ensures.value at c.first.ensures.before) (rw c.deref.ensures.value at c.first.ensures.found))
