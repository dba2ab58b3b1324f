use Rattle.std.proofs.Common.{◌<◌, ◌^◌, ◌∙◌, ap, length, arith}
use Rattle.fsd_formats.specs.NamePage.{Interior, read_page, stamp_at}
use Rattle.fsd_formats.proofs.PageLaws.{page_is_read}
use Rattle.name_page.proofs.PieceLaws.{u32_small}
use Rattle.name_page.proofs.writing.write_ways.Goals as goal

pub returns : goal.returns
returns c = λ p accepted.
    let separators = c.args.separators.now in
    let old = c.args.out.now in
    let few : length separators < 2 ^ 16 = omega arith in
    let low : c.args.first < 2 ^ 32 = omega arith in
    ap (read_page c.args.page p) c.write_interior.ensures
    ∙ page_is_read c.args.page p (stamp_at 16 old) (Interior c.args.first separators) accepted (low, few, c.requires.fits) (u32_small old 16 c.fits-out) (u32_small old 20 c.fits-out)
