use Rattle.std.proofs.Common.{◌≡◌, ◌∙◌, ℕ, ◌+◌, ◌-◌, ◌<◌, length, true, sym, ap, subst, arith}
use Rattle.run_table.specs.RunTable.{sectors_of}
use Rattle.run_table.specs.Space.{contains}
use Rattle.fsd_formats.specs.NamePage.{sectors_for}
use Rattle.sector_disk.specs.Machine.{Holds, Ledger, wrote}
use Rattle.sector_disk.proofs.CallLaws.{writes_told}
use Rattle.version_data.specs.Writing.{slices_at, slices_laid}
use Rattle.version_data.proofs.PlaceLaws.{in_all, is_there}
use Rattle.version_data.proofs.SliceLaws.{holds_slice, slice_among, slice_inside, slices_stand, slice_torn}
use Rattle.version_data.proofs.WritingLaws.{failed_told, handed_on, wrote_on}
use Rattle.version_data.proofs.slices.write_slices.Goals as goal

pub unwrap-place-requires : goal.unwrap-place-requires
unwrap-place-requires g c =
    let n : ℕ = sectors_for (length c.args.bytes.now) - 1 in
    let lt : c.loop-done.done < n = omega (arith, c.loop-done-test.true, c.div_ceil-count.ensures) in
    is_there (sectors_of c.args.runs.now) (c.args.first + c.loop-done.done + 1) c.sector.result c.sector.ensures (slice_inside c.args.runs.now c.args.first n c.requires.fits c.loop-done.done lt)

pub write_one-requires : goal.write_one-requires
write_one-requires g c =
    let below = in_all (g.M.Machine.report c.args.m.now).sectors (sectors_of c.args.runs.now) (c.args.first + c.loop-done.done + 1) c.unwrap-place.result c.requires.in_range (sym c.sector.ensures ∙ c.unwrap-place.ensures) in
    omega (arith, below, c.loop-done.invariant.calls.uses.sectors)

pub returns-in_err-write_one-clause-disk : goal.returns-in_err-write_one-clause-disk
returns-in_err-write_one-clause-disk g c =
    let n : ℕ = sectors_for (length c.args.bytes.now) - 1 in
    let lt : c.loop-done.done < n = omega (arith, c.loop-done-test.true, c.div_ceil-count.ensures) in
    let mine = slice_among c.args.runs.now c.args.first n c.requires.fits c.loop-done.done c.unwrap-place.result lt (sym c.sector.ensures ∙ c.unwrap-place.ensures) in
    writes_told (failed_told c.from_residual.result c.in_err-write_one.field-0.0 c.from_residual.ensures.1)
    (slice_torn (contains (slices_at c.args.runs.now c.args.first (length c.args.bytes.now))) c.unwrap-place.result c.slice_at-slice.result c.write_one.ensures.long mine c.loop-done.invariant.calls c.in_err-write_one.ensures.writes)

pub returns-in_err-write_one-clause-place : goal.returns-in_err-write_one-clause-place
returns-in_err-write_one-clause-place g c =
    let n : ℕ = sectors_for (length c.args.bytes.now) - 1 in
    let lt : c.loop-done.done < n = omega (arith, c.loop-done-test.true, c.div_ceil-count.ensures) in
    let mine = slice_among c.args.runs.now c.args.first n c.requires.fits c.loop-done.done c.unwrap-place.result lt (sym c.sector.ensures ∙ c.unwrap-place.ensures) in
    handed_on (λ failed. contains (slices_at c.args.runs.now c.args.first (length c.args.bytes.now)) failed.place ≡ true) c.from_residual.result c.in_err-write_one.field-0.0 c.from_residual.ensures.1
    (subst (λ (s : ℕ). contains (slices_at c.args.runs.now c.args.first (length c.args.bytes.now)) s ≡ true) (sym c.in_err-write_one.ensures.place) mine)

pub loop-done-preserved : goal.loop-done-preserved
loop-done-preserved g c =
    let M = g.M.Machine in
    let old = c.args.m.now in
    let so_far = c.loop-done.invariant in
    let n : ℕ = sectors_for (length c.args.bytes.now) - 1 in
    let lt : c.loop-done.done < n = omega (arith, c.loop-done-test.true, c.div_ceil-count.ensures) in
    let at = sym c.sector.ensures ∙ c.unwrap-place.ensures in
    let mine = slice_among c.args.runs.now c.args.first n c.requires.fits c.loop-done.done c.unwrap-place.result lt at in
    let one = c.in_ok-write_one.ensures in
    let trust = one.writes.trust in
    record {
      within = omega (arith, c.loop-done-test.true);
      calls = slice_torn (contains (slices_at c.args.runs.now c.args.first (length c.args.bytes.now))) c.unwrap-place.result c.slice_at-slice.result c.write_one.ensures.long mine so_far.calls one.writes;
      counted = λ t. one.counted t ∙ ap (λ (l : Ledger). wrote l 1) (so_far.counted (trust.tells t)) ∙ wrote_on (M.ledger old) c.loop-done.done 1;
      holds = λ h.
          holds_slice (M.now old) (M.now c.loop-done.m) (M.now c.write_one.new.m) c.args.runs.now c.args.first c.args.bytes.now c.loop-done.done c.unwrap-place.result c.slice_at-slice.result at c.slice_at-slice.ensures c.write_one.ensures.long
          (so_far.holds (trust.honest h)) (one.done h);
    }

pub returns-clause-counted : goal.returns-clause-counted
returns-clause-counted g c t =
    let M = g.M.Machine in
    let all : c.loop-done.done ≡ sectors_for (length c.args.bytes.now) - 1 = omega (arith, c.loop-done.invariant.within, c.loop-done-test.false, c.div_ceil-count.ensures) in
    c.loop-done.invariant.counted t ∙ ap (wrote (M.ledger c.args.m.now)) all

pub returns-clause-done : goal.returns-clause-done
returns-clause-done g c h =
    let M = g.M.Machine in
    let old = M.now c.args.m.now in
    let runs = c.args.runs.now in
    let all : c.loop-done.done ≡ sectors_for (length c.args.bytes.now) - 1 = omega (arith, c.loop-done.invariant.within, c.loop-done-test.false, c.div_ceil-count.ensures) in
    let sized = g.met.M.Machine.sized c.args.m.now (c.loop-done.invariant.calls.trust.honest h) in
    slices_stand old (M.now c.loop-done.m) runs c.args.first c.args.bytes.now c.requires.differ c.requires.fits (λ k lt. let below = c.requires.in_range k 0 lt in omega (arith, below, sized))
    (subst (λ (n : ℕ). Holds old (slices_laid old.image runs c.args.first c.args.bytes.now n) (M.now c.loop-done.m)) all (c.loop-done.invariant.holds h))
