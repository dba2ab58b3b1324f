use Rattle.std.proofs.Common.{◌∙◌, ℕ, List, ap}
use Rattle.sector_disk.specs.Machine.{Ledger, wrote}
use Rattle.sector_disk.specs.declared.sector.Sector.TheVariants.{Whole}
use Rattle.sector_disk.proofs.CallLaws.{writes_told}
use Rattle.sector_disk.proofs.ResultLaws.{err_as}
use Rattle.fsd_sound.specs.Format.{format_page}
use Rattle.version_data.proofs.WritingLaws.{failed_told, wrote_on}
use Rattle.volume_format.proofs.Laying.{holds_row}
use Rattle.volume_format.proofs.WriteLaws.{one_counted, one_written}
use Rattle.volume_format.proofs.formatting.write_pages.Goals as goal

pub returns-in_err-write_one-clause-disk : goal.returns-in_err-write_one-clause-disk
returns-in_err-write_one-clause-disk g c =
    writes_told (failed_told c.from_residual.result c.in_err-write_one.field-0.0 c.from_residual.ensures.1)
    (one_written c.args.first c.args.pages c.loop-page.page c.loop-page-test.true c.loop-page.invariant.calls c.in_err-write_one.ensures.disk)

pub returns-in_err-write_one-clause-counted_err : goal.returns-in_err-write_one-clause-counted_err
returns-in_err-write_one-clause-counted_err g c =
    let M = g.M.Machine in
    err_as _ c.from_residual.result (λ t. one_counted (M.ledger c.args.m.now) (M.ledger c.loop-page.m) (M.ledger c.write_one.new.m) c.loop-page.page c.loop-page-test.true
    (c.loop-page.invariant.counted (c.write_one.ensures.disk.trust.tells t)) (c.in_err-write_one.ensures.counted_err t))

pub loop-page-preserved : goal.loop-page-preserved
loop-page-preserved g c =
    let M = g.M.Machine in
    let old = c.args.m.now in
    let so_far = c.loop-page.invariant in
    let trust = c.write_one.ensures.disk.trust in
    record {
      calls = one_written c.args.first c.args.pages c.loop-page.page c.loop-page-test.true so_far.calls c.in_ok-write_one.ensures.disk;
      counted = λ t. c.in_ok-write_one.ensures.counted t ∙ ap (λ (l : Ledger). wrote l 1) (so_far.counted (trust.tells t)) ∙ wrote_on (M.ledger old) c.loop-page.page 1;
      holds = λ h. holds_row (M.now old) (M.now c.loop-page.m) (M.now c.write_one.new.m) c.args.first (λ page. Whole (format_page page)) c.loop-page.page c.format_page.result (ap (λ (b : List ℕ). Whole b) c.format_page.ensures)
          (so_far.holds (trust.honest h)) (c.in_ok-write_one.ensures.done h);
    }
