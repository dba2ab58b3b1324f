use Rattle.std.proofs.Common.{◌-◌, subst, sym, ℕ, arith}
use Rattle.sector_set.specs.Area.{CountsFree}
use Rattle.sector_set.proofs.AreaLaws.{removed_counts, removed_area}
use Rattle.sector_set.proofs.area.SectorArea.remove.Goals as goal

pub total-requires : goal.total-requires
total-requires c =
    let counts = removed_counts c.self.inside.from c.self.inside.count c.self.inside.set c.remove_all.new.set c.args.runs.now c.args.self.now c.self.view_is c.self.invariant c.requires c.remove_all.ensures.end (rw c.as_slice.ensures.value at c.remove_all.ensures.sectors) in
    omega (arith, counts.0)

pub overflow_sub-self : goal.overflow_sub-self
overflow_sub-self c =
    let counts = removed_counts c.self.inside.from c.self.inside.count c.self.inside.set c.remove_all.new.set c.args.runs.now c.args.self.now c.self.view_is c.self.invariant c.requires c.remove_all.ensures.end (rw c.as_slice.ensures.value at c.remove_all.ensures.sectors) in
    omega (arith, counts.0, c.total.ensures)

pub invariant_of-self : goal.invariant_of-self
invariant_of-self c =
    let counts = removed_counts c.self.inside.from c.self.inside.count c.self.inside.set c.remove_all.new.set c.args.runs.now c.args.self.now c.self.view_is c.self.invariant c.requires c.remove_all.ensures.end (rw c.as_slice.ensures.value at c.remove_all.ensures.sectors) in
    subst (λ (n : ℕ). CountsFree c.self.inside.from c.remove_all.new.set (c.self.inside.count - n)) (sym c.total.ensures) counts.1

pub returns : goal.returns
returns c = removed_area c.self.inside.from c.self.inside.set c.remove_all.new.set c.args.runs.now c.args.self.now c.self.view_is c.remove_all.ensures.end (rw c.as_slice.ensures.value at c.remove_all.ensures.sectors)
