use Rattle.std.proofs.Common.{◌≡◌, ◌∙◌, ℕ, ◌+◌, sym, ap, subst, arith}
use Rattle.sector_disk.specs.Calls.{as_sector}
use Rattle.sector_disk.specs.Image.{sector_at}
use Rattle.sector_disk.specs.declared.sector.Sector.TheVariants.{Damaged}
use Rattle.fsd_files.specs.Kept.{IsWhole}
use Rattle.version_data.proofs.PlaceLaws.{in_all, is_there}
use Rattle.version_data.proofs.SingleLaws.{few_slices, slice_inside, slice_is, was_whole}
use Rattle.run_table.specs.RunTable.{sectors_of}
use Rattle.version_data.proofs.single.read_slice.Goals as goal

pub overflow_add-slice : goal.overflow_add-slice
overflow_add-slice g c = let few = few_slices c.args.entry.now c.requires.entry c.args.slice c.requires.slice in omega (arith, few)

pub unwrap-place-requires : goal.unwrap-place-requires
unwrap-place-requires g c = is_there (sectors_of c.args.entry.now.runs) (c.args.slice + 1) c.sector.result c.sector.ensures (slice_inside c.args.entry.now c.requires.entry c.args.slice c.requires.slice)

pub read_sector-requires : goal.read_sector-requires
read_sector-requires g c = in_all (g.M.Machine.report c.args.m.now).sectors (sectors_of c.args.entry.now.runs) (c.args.slice + 1) c.unwrap-place.result c.requires.in_range (sym c.sector.ensures ∙ c.unwrap-place.ensures)

pub returns-in-Some-clause-sees : goal.returns-in-Some-clause-sees
returns-in-Some-clause-sees g c = λ h.
    let M = g.M.Machine in
    let read = c.in_ok-read_sector.ensures in
    let at = slice_is c.args.entry.now c.args.slice c.unwrap-place.result c.requires.slice (sym c.sector.ensures ∙ c.unwrap-place.ensures) in
    subst (λ (s : ℕ). IsWhole (M.now c.args.m.now).image s) at
    (was_whole (M.now c.args.m.now) (M.now c.read_sector.new.m) (read.reads.worn h) c.unwrap-place.result c.in-Some.field-0 (read.shown h ∙ ap as_sector c.in-Some.is))

pub returns-in-None-clause-sees : goal.returns-in-None-clause-sees
returns-in-None-clause-sees g c = λ h.
    let M = g.M.Machine in
    let read = c.in_ok-read_sector.ensures in
    let at = slice_is c.args.entry.now c.args.slice c.unwrap-place.result c.requires.slice (sym c.sector.ensures ∙ c.unwrap-place.ensures) in
    subst (λ (s : ℕ). sector_at (M.now c.read_sector.new.m).image s ≡ Damaged) at (read.shown h ∙ ap as_sector c.in-None.is)
