use Rattle.std.proofs.Common.{arith}
use Rattle.std.proofs.lemmas.Result.{on_ok_weaker}
use Rattle.sector_disk.proofs.CallLaws.{writes_told}
use Rattle.version_data.proofs.WritingLaws.{failed_told}
use Rattle.volume_format.proofs.FormatLaws.{fits, some_page, volume_laid}
use Rattle.volume_format.proofs.WriteLaws.{copies_written, head_written, pages_written}
use Rattle.volume_format.proofs.formatting.write_volume.Goals as goal

pub home_a-requires : goal.home_a-requires
home_a-requires g c = some_page c.args.l.now c.pages-pages.ensures.planned

pub home_b-requires : goal.home_b-requires
home_b-requires g c = some_page c.args.l.now c.pages-pages.ensures.planned

pub write_pages-requires : goal.write_pages-requires
write_pages-requires g c = omega (arith, fits c.args.l.now c.pages-pages.ensures.planned)

pub write_pages-requires-2 : goal.write_pages-requires-2
write_pages-requires-2 g c = omega (arith, fits c.args.l.now c.pages-pages.ensures.planned, c.write_pages.ensures.disk.uses.sectors)

pub write_head-requires : goal.write_head-requires
write_head-requires g c = omega (arith, fits c.args.l.now c.pages-pages.ensures.planned, c.write_pages.ensures.disk.uses.sectors, c.write_pages-2.ensures.disk.uses.sectors)

pub returns-clause-done : goal.returns-clause-done
returns-clause-done g c =
    let M = g.M.Machine in
    on_ok_weaker c.write_head.result (λ done h3.
    let h2 = c.write_head.ensures.disk.trust.honest h3 in
    let h1 = c.write_pages-2.ensures.disk.trust.honest h2 in
    volume_laid c.args.l.now (M.now c.args.m.now) (M.now c.write_pages.new.m) (M.now c.write_pages-2.new.m) (M.now c.write_head.new.m) c.home_a.result c.home_b.result c.pages-pages.result
    c.home_a.ensures.place c.home_b.ensures.place c.pages-pages.ensures.value
    (c.in_ok-write_pages.ensures.done h1) (c.in_ok-write_pages-2.ensures.done h2) (done h3)) c.write_head.ensures.done

pub returns-in_err-write_pages-clause-disk : goal.returns-in_err-write_pages-clause-disk
returns-in_err-write_pages-clause-disk g c =
    writes_told (failed_told c.from_residual.result c.in_err-write_pages.field-0.0 c.from_residual.ensures.1)
    (pages_written c.args.l.now c.home_a.result c.pages-pages.result c.home_a.ensures.place c.pages-pages.ensures.value c.in_err-write_pages.ensures.disk)

pub returns-in_err-write_pages-2-clause-disk : goal.returns-in_err-write_pages-2-clause-disk
returns-in_err-write_pages-2-clause-disk g c =
    writes_told (failed_told c.from_residual-in_err-write_pages-2.result c.in_err-write_pages-2.field-0.0 c.from_residual-in_err-write_pages-2.ensures.1)
    (copies_written c.args.l.now c.home_b.result c.pages-pages.result c.home_b.ensures.place c.pages-pages.ensures.value
    (pages_written c.args.l.now c.home_a.result c.pages-pages.result c.home_a.ensures.place c.pages-pages.ensures.value c.in_ok-write_pages.ensures.disk) c.in_err-write_pages-2.ensures.disk)

pub returns-clause-disk : goal.returns-clause-disk
returns-clause-disk g c =
    head_written c.args.l.now
    (copies_written c.args.l.now c.home_b.result c.pages-pages.result c.home_b.ensures.place c.pages-pages.ensures.value
    (pages_written c.args.l.now c.home_a.result c.pages-pages.result c.home_a.ensures.place c.pages-pages.ensures.value c.in_ok-write_pages.ensures.disk) c.in_ok-write_pages-2.ensures.disk)
    c.write_head.ensures.disk
