use Rattle.std.proofs.Common.{◌≡◌, ◌∙◌, sym, ap, ℕ, Some, arith}
use Rattle.fsd_bytes.specs.Bytes.{u8_at, u32_at}
use Rattle.name_page.specs.Reading.{separators_in}
use Rattle.fsd_formats.specs.NamePage.{Interior}
use Rattle.name_page.proofs.FitsLaws.{leaf_fits, ways_fit}
use Rattle.name_page.proofs.NodeLaws.{free_is, leaf_is, interior_is, interior_separators}
use Rattle.name_page.proofs.node.node_in.Goals as goal

pub invariant_of-result : goal.invariant_of-result
invariant_of-result c =
    let kind = sym c.u8_at.ensures ∙ c.in-1.is in
    (c.from-count.ensures ∙ c.u16_at.ensures ∙ (leaf_is c.args.b.now c.requires kind).1, leaf_fits c.args.b.now c.fits-b c.requires kind, c.places_in.ensures)

pub places_in-requires : goal.places_in-requires
places_in-requires c = c.from-count.ensures ∙ c.u16_at.ensures ∙ (leaf_is c.args.b.now c.requires (sym c.u8_at.ensures ∙ c.in-1.is)).1

pub invariant_of-result-in_default : goal.invariant_of-result-in_default
invariant_of-result-in_default c =
    let zero : u8_at 4 c.args.b.now ≡ 0 → ⊥ = λ e. omega arith in
    let one : u8_at 4 c.args.b.now ≡ 1 → ⊥ = λ e. omega arith in
    let is = interior_is c.args.b.now c.requires zero one in
    (c.from-count.ensures ∙ c.u16_at.ensures ∙ is.1, ways_fit c.args.b.now c.fits-b (u32_at 24 c.args.b.now) is.0 (interior_separators c.args.b.now c.requires zero one))

pub returns-in-0 : goal.returns-in-0
returns-in-0 c = free_is c.args.b.now c.requires (sym c.u8_at.ensures ∙ c.in-0.is)

pub returns-in-1 : goal.returns-in-1
returns-in-1 c = (leaf_is c.args.b.now c.requires (sym c.u8_at.ensures ∙ c.in-1.is)).0

pub returns-in_default : goal.returns-in_default
returns-in_default c =
    let zero : u8_at 4 c.args.b.now ≡ 0 → ⊥ = λ e. omega arith in
    let one : u8_at 4 c.args.b.now ≡ 1 → ⊥ = λ e. omega arith in
    (interior_is c.args.b.now c.requires zero one).0 ∙ ap (λ (n : ℕ). Some (Interior n (separators_in c.args.b.now))) (sym c.u32_at.ensures)
