use Rattle.std.proofs.Common.{◌<◌, ◌^◌, ◌∙◌, ◌≡◌, ◌++◌, ap, length, List, ℕ, refl, arith}
use Rattle.std.specs.Prelude.{replicate}
use Rattle.std.specs.List.{flat_map}
use Rattle.fsd_formats.specs.NamePage.{Leaf, entry_bytes, page_bytes, read_page, stamp_at}
use Rattle.fsd_formats.proofs.PageLaws.{page_is_read}
use Rattle.name_page.specs.Spelling.{head}
use Rattle.name_page.proofs.LengthLaws.{page_laid}
use Rattle.name_page.proofs.PieceLaws.{u32_small}
use Rattle.name_page.proofs.CountLaws.{leaf_few}
use Rattle.name_page.proofs.text.write_text.Goals as goal

pub returns : goal.returns
returns c = λ entries text accepted fits p.
    let old = c.args.out.now in
    let bytes = c.as_slice-bytes.result.now in
    let contents : List ℕ = flat_map entry_bytes entries in
    let same : bytes ≡ contents = c.as_slice-bytes.ensures.value ∙ text.bytes in
    let few : length entries < 2 ^ 16 = omega (arith, leaf_few c.args.page 0 entries accepted) in
    let laid : c.put_bytes.new.b ≡ page_bytes c.args.page (stamp_at 16 old) (Leaf entries) =
    page_laid (head 1 (length entries) (length contents) c.args.page (stamp_at 16 old)) bytes contents c.put_bytes.new.b c.put_head.new.out refl (omega (arith, c.requires, ap length text.bytes))
    (c.put_head.ensures ∙ ap (λ (n : ℕ). head 1 n (length bytes) c.args.page (stamp_at 16 old) ++ replicate 488 0) text.count ∙ ap (λ (n : ℕ). head 1 (length entries) n c.args.page (stamp_at 16 old) ++ replicate 488 0) (ap length same))
    same c.put_bytes.ensures in
    ap (read_page c.args.page p) laid ∙ page_is_read c.args.page p (stamp_at 16 old) (Leaf entries) accepted (few, fits) (u32_small old 16 c.fits-out) (u32_small old 20 c.fits-out)
