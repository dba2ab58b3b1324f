use Rattle.std.proofs.Common.{◌≡◌, ℕ, Option, sym, ◌∙◌, subst, arith}
use Rattle.std.specs.Prelude.{IsSome}
use Rattle.fsd_files.specs.Scrub.{slice_place}
use Rattle.scrub.proofs.PlaceLaws.{data_count, few_sectors, place_is, place_there}
use Rattle.scrub.proofs.data.put_found.Goals as goal

pub overflow_add-slice : goal.overflow_add-slice
overflow_add-slice c =
    let few = (few_sectors c.args.e.now c.requires.entry).1 in
    let count = data_count c.args.e.now in
    let lt = c.requires.slice in
    omega (arith, few, count, lt)

pub sector-requires : goal.sector-requires
sector-requires c = c.requires.runs

pub unwrap-sector-requires : goal.unwrap-sector-requires
unwrap-sector-requires c = subst (λ (o : Option ℕ). IsSome o) (sym c.sector.ensures) (place_there c.args.e.now c.args.slice c.requires.slice)

pub returns-clause-ok : goal.returns-clause-ok
returns-clause-ok c =
    let key = c.copied.ensures in
    let at : c.unwrap-sector.result ≡ slice_place c.args.e.now c.args.slice =
    place_is c.args.e.now c.args.slice c.unwrap-sector.result (sym c.sector.ensures ∙ c.unwrap-sector.ensures) in
    let items = c.in_ok-push.ensures.items in
    cc
