use Rattle.std.proofs.Common.{◌<◌, ◌^◌, ◌∙◌, ap, length, arith}
use Rattle.fsd_formats.specs.NamePage.{Leaf, read_page, stamp_at}
use Rattle.fsd_formats.proofs.PageLaws.{page_is_read}
use Rattle.name_page.proofs.PieceLaws.{u32_small}
use Rattle.name_page.proofs.CountLaws.{leaf_few}
use Rattle.name_page.proofs.writing.write_entries.Goals as goal

pub returns : goal.returns
returns c = λ p.
    let entries = c.args.entries.now in
    let old = c.args.out.now in
    let few : length entries < 2 ^ 16 = omega (arith, leaf_few c.args.page 0 entries c.requires.accepted) in
    ap (read_page c.args.page p) c.write_leaf.ensures
    ∙ page_is_read c.args.page p (stamp_at 16 old) (Leaf entries) c.requires.accepted (few, c.requires.fits) (u32_small old 16 c.fits-out) (u32_small old 20 c.fits-out)
