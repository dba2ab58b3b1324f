use Rattle.std.proofs.Common.{◌+◌, subst, sym, ℕ, arith}
use Rattle.sector_set.specs.Area.{CountsFree}
use Rattle.sector_set.proofs.AreaLaws.{inserted_counts, inserted_area}
use Rattle.sector_set.proofs.area.SectorArea.insert.Goals as goal

pub total-requires : goal.total-requires
total-requires c =
    let counts = inserted_counts c.self.inside.from c.self.inside.count c.self.inside.set c.insert_all.new.set c.args.runs.now c.args.self.now c.self.view_is c.self.invariant c.requires c.insert_all.ensures.end (rw c.as_slice.ensures.value at c.insert_all.ensures.sectors) in
    omega (arith, counts.0)

pub overflow_add-self : goal.overflow_add-self
overflow_add-self c =
    let counts = inserted_counts c.self.inside.from c.self.inside.count c.self.inside.set c.insert_all.new.set c.args.runs.now c.args.self.now c.self.view_is c.self.invariant c.requires c.insert_all.ensures.end (rw c.as_slice.ensures.value at c.insert_all.ensures.sectors) in
    omega (arith, counts.0, c.total.ensures)

pub invariant_of-self : goal.invariant_of-self
invariant_of-self c =
    let counts = inserted_counts c.self.inside.from c.self.inside.count c.self.inside.set c.insert_all.new.set c.args.runs.now c.args.self.now c.self.view_is c.self.invariant c.requires c.insert_all.ensures.end (rw c.as_slice.ensures.value at c.insert_all.ensures.sectors) in
    subst (λ (n : ℕ). CountsFree c.self.inside.from c.insert_all.new.set (c.self.inside.count + n)) (sym c.total.ensures) counts.1

pub returns : goal.returns
returns c = inserted_area c.self.inside.from c.self.inside.set c.insert_all.new.set c.args.runs.now c.args.self.now c.self.view_is c.insert_all.ensures.end (rw c.as_slice.ensures.value at c.insert_all.ensures.sectors)
