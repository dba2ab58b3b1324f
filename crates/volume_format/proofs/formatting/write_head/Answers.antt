use Rattle.std.proofs.Common.{◌≡◌, ◌∙◌, ◌<◌, ℕ, List, length, get_or, ap, subst, arith}
use Rattle.sector_disk.specs.Machine.{Ledger, wrote}
use Rattle.sector_disk.proofs.CallLaws.{writes_told}
use Rattle.sector_disk.proofs.ResultLaws.{err_as}
use Rattle.version_data.proofs.WritingLaws.{failed_told, wrote_on}
use Rattle.volume_format.specs.Formatting.{head_place}
use Rattle.volume_format.proofs.WriteLaws.{head_one, one_counted}
use Rattle.volume_format.proofs.HeadLaws.{head_more, low}
use Rattle.volume_format.proofs.formatting.write_head.Goals as goal

pub returns-in_err-write_one-clause-disk : goal.returns-in_err-write_one-clause-disk
returns-in_err-write_one-clause-disk g c =
    let k : ℕ = c.loop-place.place-index in
    let place : ℕ = get_or c.as_slice-place-items.result.now k 0 in
    let at : place ≡ head_place k = ap (λ (places : List ℕ). get_or places k 0) c.as_slice-place-items.ensures in
    writes_told (failed_told c.from_residual.result c.in_err-write_one.field-0.0 c.from_residual.ensures.1)
    (head_one place (omega (arith, at, low k)) c.loop-place.invariant.calls c.in_err-write_one.ensures.disk)

pub returns-in_err-write_one-clause-counted_err : goal.returns-in_err-write_one-clause-counted_err
returns-in_err-write_one-clause-counted_err g c =
    let M = g.M.Machine in
    let few : c.loop-place.place-index < 16 = subst (λ (places : List ℕ). c.loop-place.place-index < length places) c.as_slice-place-items.ensures c.loop-place-test.true in
    err_as _ c.from_residual.result (λ t. one_counted (M.ledger c.args.m.now) (M.ledger c.loop-place.m) (M.ledger c.write_one.new.m) c.loop-place.place-index few
    (c.loop-place.invariant.counted (c.write_one.ensures.disk.trust.tells t)) (c.in_err-write_one.ensures.counted_err t))

pub loop-place-preserved : goal.loop-place-preserved
loop-place-preserved g c =
    let M = g.M.Machine in
    let old = c.args.m.now in
    let so_far = c.loop-place.invariant in
    let trust = c.write_one.ensures.disk.trust in
    let k : ℕ = c.loop-place.place-index in
    let place : ℕ = get_or c.as_slice-place-items.result.now k 0 in
    let at : place ≡ head_place k = ap (λ (places : List ℕ). get_or places k 0) c.as_slice-place-items.ensures in
    record {
      calls = head_one place (omega (arith, at, low k)) so_far.calls c.in_ok-write_one.ensures.disk;
      counted = λ t. c.in_ok-write_one.ensures.counted t ∙ ap (λ (l : Ledger). wrote l 1) (so_far.counted (trust.tells t)) ∙ wrote_on (M.ledger old) k 1;
      holds = λ h. head_more c.args.l.now (M.now old) (M.now c.loop-place.m) (M.now c.write_one.new.m) k place c.head_sector.result at c.head_sector.ensures
          (so_far.holds (trust.honest h)) (c.in_ok-write_one.ensures.done h);
    }
