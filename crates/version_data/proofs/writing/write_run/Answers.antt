use Rattle.std.proofs.Common.{◌≡◌, ◌∙◌, ℕ, ◌+◌, ◌*◌, ◌/◌, ◌≤◌, List, length, take, true, sym, ap, subst, arith}
use Rattle.sector_disk.specs.Image.{in_weak_run, lay}
use Rattle.sector_disk.specs.Machine.{Holds, Ledger, wrote}
use Rattle.sector_disk.specs.declared.sector.Sector.TheVariants.{Whole}
use Rattle.sector_disk.specs.declared.sector.WeakRun.{WeakRun}
use Rattle.sector_disk.proofs.CallLaws.{writes_told}
use Rattle.version_data.specs.Writing.{part_of}
use Rattle.version_data.proofs.LayLaws.{holds_row, many_in_front}
use Rattle.version_data.proofs.WritingLaws.{failed_told, handed_on, in_run_at, row_in_run, row_written, wrote_on}
use Rattle.version_data.proofs.writing.write_run.Goals as goal

pub returns-in_err-write_sectors-clause-disk : goal.returns-in_err-write_sectors-clause-disk
returns-in_err-write_sectors-clause-disk g c =
    let run : WeakRun = record { first = c.args.run.start; count = c.args.run.length } in
    let row : List ℕ = c.lay_row.new.row in
    let count : ℕ = c.min-count.result in
    let room : 512 * c.min-count.result ≤ length row = omega (arith, c.min-count.ensures, c.lay_row.ensures.size, c.loop-done.invariant.size) in
    let within : c.loop-done.done + c.min-count.result ≤ c.args.run.length = omega (arith, c.min-count.ensures, c.loop-done.invariant.within) in
    writes_told (failed_told c.from_residual.result c.in_err-write_sectors.field-0.0 c.from_residual.ensures.1)
    (row_written (in_weak_run run) (c.args.run.start + c.loop-done.done) (take (512 * count) row) (row_in_run run c.loop-done.done count (take (512 * count) row) (many_in_front row count room) within)
    c.loop-done.invariant.calls c.in_err-write_sectors.ensures.writes)

pub returns-in_err-write_sectors-clause-place : goal.returns-in_err-write_sectors-clause-place
returns-in_err-write_sectors-clause-place g c =
    let run : WeakRun = record { first = c.args.run.start; count = c.args.run.length } in
    handed_on (λ failed. in_weak_run run failed.place ≡ true) c.from_residual.result c.in_err-write_sectors.field-0.0 c.from_residual.ensures.1
    (subst (λ (s : ℕ). in_weak_run run s ≡ true) (sym c.in_err-write_sectors.ensures.place) (in_run_at run c.loop-done.done c.loop-done-test.true))

pub loop-done-preserved : goal.loop-done-preserved
loop-done-preserved g c =
    let M = g.M.Machine in
    let old = c.args.m.now in
    let so_far = c.loop-done.invariant in
    let run : WeakRun = record { first = c.args.run.start; count = c.args.run.length } in
    let row : List ℕ = c.lay_row.new.row in
    let done : ℕ = c.loop-done.done in
    let count : ℕ = c.min-count.result in
    let room : 512 * c.min-count.result ≤ length row = omega (arith, c.min-count.ensures, c.lay_row.ensures.size, so_far.size) in
    let within : c.loop-done.done + c.min-count.result ≤ c.args.run.length = omega (arith, c.min-count.ensures, so_far.within) in
    let many : length (take (512 * count) row) / 512 ≡ count = many_in_front row count room in
    let trust = c.in_ok-write_sectors.ensures.writes.trust in
    record {
      within = within;
      size = c.lay_row.ensures.size ∙ so_far.size;
      calls = row_written (in_weak_run run) (c.args.run.start + done) (take (512 * count) row) (row_in_run run done count (take (512 * count) row) many within) so_far.calls c.in_ok-write_sectors.ensures.writes;
      counted = λ t. c.in_ok-write_sectors.ensures.counted t ∙ ap (λ (l : Ledger). wrote l (length (take (512 * count) row) / 512)) (so_far.counted (trust.tells t))
          ∙ wrote_on (M.ledger old) done (length (take (512 * count) row) / 512) ∙ ap (λ (n : ℕ). wrote (M.ledger old) (done + n)) many;
      holds = λ h.
          holds_row (M.now old) (M.now c.loop-done.m) (M.now c.write_sectors.new.m) c.args.run.start (λ j. Whole (part_of c.args.leader.now c.args.bytes.now (c.args.before + j))) done count row room
          (λ j lt. let same : c.args.before + c.loop-done.done + j ≡ c.args.before + (c.loop-done.done + j) = omega arith in ap Whole (sym (c.lay_row.ensures.laid j lt ∙ ap (part_of c.args.leader.now c.args.bytes.now) same)))
          (so_far.holds (trust.honest h)) (c.in_ok-write_sectors.ensures.done h);
    }

pub returns-clause-done : goal.returns-clause-done
returns-clause-done g c h =
    let M = g.M.Machine in
    let all : c.loop-done.done ≡ c.args.run.length = omega (arith, c.loop-done.invariant.within, c.loop-done-test.false) in
    subst (λ (n : ℕ). Holds (M.now c.args.m.now) (lay (M.now c.args.m.now).image c.args.run.start (λ j. Whole (part_of c.args.leader.now c.args.bytes.now (c.args.before + j))) n) (M.now c.loop-done.m)) all (c.loop-done.invariant.holds h)
