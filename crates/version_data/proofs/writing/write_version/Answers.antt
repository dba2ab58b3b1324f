use Rattle.std.proofs.Common.{◌≡◌, ◌∙◌, ℕ, ◌<◌, ◌≤◌, List, length, get_or, true, sym, ap, subst, arith}
use Rattle.std.specs.Prelude.{All}
use Rattle.run_table.specs.declared.run.Run.{Run}
use Rattle.run_table.specs.RunTable.{sectors_of}
use Rattle.run_table.specs.Space.{contains}
use Rattle.fsd_formats.specs.Leader.{leader_bytes}
use Rattle.fsd_formats.specs.NamePage.{sectors_for}
use Rattle.sector_disk.specs.Image.{in_weak_run}
use Rattle.sector_disk.specs.Machine.{Holds, Ledger, wrote}
use Rattle.sector_disk.specs.Written.{WroteMost}
use Rattle.sector_disk.proofs.CallLaws.{writes_told}
use Rattle.sector_disk.proofs.ResultLaws.{err_as}
use Rattle.version_data.specs.Writing.{sector_of, with_parts}
use Rattle.version_data.proofs.PlaceLaws.{all_behind, entry_count, entry_length, entry_lengths, left_next, lies_behind, run_below}
use Rattle.version_data.proofs.VersionLaws.{holds_run, version_stands}
use Rattle.version_data.proofs.WritingLaws.{failed_told, handed_on, run_among, run_written, wrote_most_on, wrote_on}
use Rattle.version_data.proofs.writing.write_version.Goals as goal

pub leader_bytes-leader-requires : goal.leader_bytes-leader-requires
leader_bytes-leader-requires g c = subst (λ (runs : List Run). All (λ r. (1 ≤ r.length) × (r.length ≤ 65535)) runs) (sym c.copied.ensures) (entry_lengths c.args.entry.now c.requires.entry)

pub write_run-requires-clause-in_range : goal.write_run-requires-clause-in_range
write_run-requires-clause-in_range g c =
    let d : Run = record { start = 0; length = 0 } in
    let lies = lies_behind d c.as_slice-run-items.ensures.value c.loop-run-test.true c.loop-run.invariant.left in
    let long = subst (λ (runs : List Run). All (λ r. (1 ≤ r.length) × (r.length ≤ 65535)) runs) (sym c.as_slice-run-items.ensures.value) (entry_lengths c.args.entry.now c.requires.entry) c.loop-run.run-index d c.loop-run-test.true in
    let below = run_below (g.M.Machine.report c.args.m.now).sectors lies long.0 c.requires.in_range in
    omega (arith, below, c.loop-run.invariant.calls.uses.sectors)

pub write_run-requires-clause-small : goal.write_run-requires-clause-small
write_run-requires-clause-small g c =
    let lies = lies_behind (record { start = 0; length = 0 }) c.as_slice-run-items.ensures.value c.loop-run-test.true c.loop-run.invariant.left in
    let few = entry_length c.args.entry.now c.requires.entry in
    let count = entry_count c.args.entry.now c.requires.entry in
    omega (arith, lies.size, few, count)

pub overflow_add-before : goal.overflow_add-before
overflow_add-before g c =
    let lies = lies_behind (record { start = 0; length = 0 }) c.as_slice-run-items.ensures.value c.loop-run-test.true c.loop-run.invariant.left in
    let few = entry_length c.args.entry.now c.requires.entry in
    let count = entry_count c.args.entry.now c.requires.entry in
    omega (arith, lies.size, few, count)

pub returns-in_err-write_run-clause-disk : goal.returns-in_err-write_run-clause-disk
returns-in_err-write_run-clause-disk g c =
    let d : Run = record { start = 0; length = 0 } in
    let r : Run = get_or c.as_slice-run-items.result.now c.loop-run.run-index d in
    let lies = lies_behind d c.as_slice-run-items.ensures.value c.loop-run-test.true c.loop-run.invariant.left in
    writes_told (failed_told c.from_residual.result c.in_err-write_run.field-0.0 c.from_residual.ensures.1)
    (run_written (in_weak_run (record { first = r.start; count = r.length })) (contains (sectors_of c.args.entry.now.runs)) (run_among lies) c.loop-run.invariant.calls c.in_err-write_run.ensures.disk)

pub returns-in_err-write_run-clause-place : goal.returns-in_err-write_run-clause-place
returns-in_err-write_run-clause-place g c =
    let lies = lies_behind (record { start = 0; length = 0 }) c.as_slice-run-items.ensures.value c.loop-run-test.true c.loop-run.invariant.left in
    handed_on (λ failed. contains (sectors_of c.args.entry.now.runs) failed.place ≡ true) c.from_residual.result c.in_err-write_run.field-0.0 c.from_residual.ensures.1
    (run_among lies c.in_err-write_run.field-0.0.place c.in_err-write_run.ensures.place)

pub returns-in_err-write_run-clause-counted_err : goal.returns-in_err-write_run-clause-counted_err
returns-in_err-write_run-clause-counted_err g c =
    let M = g.M.Machine in
    let d : Run = record { start = 0; length = 0 } in
    let r : Run = get_or c.as_slice-run-items.result.now c.loop-run.run-index d in
    let lies = lies_behind d c.as_slice-run-items.ensures.value c.loop-run-test.true c.loop-run.invariant.left in
    let total : length (sectors_of c.args.entry.now.runs) ≡ sectors_for (length c.args.bytes.now) = entry_count c.args.entry.now c.requires.entry ∙ ap sectors_for c.requires.len in
    err_as (M.tells c.write_run.new.m → WroteMost (sectors_for (length c.args.bytes.now)) (M.ledger c.args.m.now) (M.ledger c.write_run.new.m)) c.from_residual.result
    (λ t. wrote_most_on (M.ledger c.args.m.now) (M.ledger c.loop-run.m) (M.ledger c.write_run.new.m) c.loop-run.before r.length (sectors_for (length c.args.bytes.now))
    (c.loop-run.invariant.counted (c.write_run.ensures.disk.trust.tells t)) (c.in_err-write_run.ensures.counted_err t) (omega (arith, lies.size, total)))

pub loop-run-preserved : goal.loop-run-preserved
loop-run-preserved g c =
    let M = g.M.Machine in
    let old = c.args.m.now in
    let e = c.args.entry.now in
    let so_far = c.loop-run.invariant in
    let d : Run = record { start = 0; length = 0 } in
    let r : Run = get_or c.as_slice-run-items.result.now c.loop-run.run-index d in
    let lies = lies_behind d c.as_slice-run-items.ensures.value c.loop-run-test.true so_far.left in
    let done = c.in_ok-write_run.ensures in
    record {
      left = left_next d c.as_slice-run-items.ensures.value c.loop-run-test.true so_far.left;
      calls = run_written (in_weak_run (record { first = r.start; count = r.length })) (contains (sectors_of e.runs)) (run_among lies) so_far.calls done.disk;
      counted = λ t. done.counted t ∙ ap (λ (l : Ledger). wrote l r.length) (so_far.counted (done.disk.trust.tells t)) ∙ wrote_on (M.ledger old) c.loop-run.before r.length;
      holds = λ h.
          holds_run (M.now old) (M.now c.loop-run.m) (M.now c.write_run.new.m) e c.args.bytes.now c.leader_bytes-leader.result c.loop-run.before r lies
          (c.leader_bytes-leader.ensures ∙ ap (λ (runs : List Run). leader_bytes (record { serial = e.serial; length = e.length; runs = runs })) c.copied.ensures)
          (so_far.holds (done.disk.trust.honest h)) (done.done h);
    }

pub returns-clause-counted : goal.returns-clause-counted
returns-clause-counted g c t =
    let M = g.M.Machine in
    let runs = c.args.entry.now.runs in
    let end : length c.args.entry.now.runs ≤ c.loop-run.run-index = omega (arith, ap length c.as_slice-run-items.ensures.value, c.loop-run-test.false) in
    let total : c.loop-run.before ≡ sectors_for (length c.args.bytes.now) =
    all_behind runs c.loop-run.run-index c.loop-run.before end c.loop-run.invariant.left ∙ entry_count c.args.entry.now c.requires.entry ∙ ap sectors_for c.requires.len in
    c.loop-run.invariant.counted t ∙ ap (wrote (M.ledger c.args.m.now)) total

pub returns-clause-done : goal.returns-clause-done
returns-clause-done g c h =
    let M = g.M.Machine in
    let e = c.args.entry.now in
    let old = M.now c.args.m.now in
    let now = M.now c.loop-run.m in
    let end : length c.args.entry.now.runs ≤ c.loop-run.run-index = omega (arith, ap length c.as_slice-run-items.ensures.value, c.loop-run-test.false) in
    let all = all_behind e.runs c.loop-run.run-index c.loop-run.before end c.loop-run.invariant.left in
    let sized = g.met.M.Machine.sized c.args.m.now (c.loop-run.invariant.calls.trust.honest h) in
    let room : (k : ℕ) → k < length (sectors_of c.args.entry.now.runs) → sector_of c.args.entry.now k < length (g.M.Machine.now c.args.m.now).image =
    λ k lt. let below = c.requires.in_range k 0 lt in omega (arith, below, sized) in
    version_stands old now e c.args.bytes.now (entry_count e c.requires.entry ∙ ap sectors_for c.requires.len) c.requires.differ room
    (subst (λ (n : ℕ). Holds old (with_parts old.image e c.args.bytes.now n) now) all (c.loop-run.invariant.holds h))
