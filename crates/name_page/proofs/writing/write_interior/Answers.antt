use Rattle.std.proofs.Common.{ℕ, List, ◌++◌, ◌∙◌, length, ap, refl, arith}
use Rattle.std.specs.Prelude.{replicate}
use Rattle.std.specs.List.{flat_map}
use Rattle.fsd_bytes.specs.Bytes.{u32}
use Rattle.fsd_formats.specs.NamePage.{separator_bytes, stamp_at}
use Rattle.name_page.specs.Spelling.{head}
use Rattle.name_page.proofs.LengthLaws.{page_laid}
use Rattle.name_page.proofs.SeparatorLaws.{length_keyed}
use Rattle.name_page.proofs.writing.write_interior.Goals as goal

pub returns : goal.returns
returns c =
    let separators = c.args.separators.now in
    let contents : List ℕ = u32 c.args.first ++ flat_map separator_bytes separators in
    page_laid (head 2 (length separators) (length contents) c.args.page (stamp_at 16 c.args.out.now)) c.as_slice.result.now contents c.put_bytes.new.b c.put_head.new.out refl (omega (arith, length_keyed separators c.requires.keys, c.requires.room))
    (c.put_head.ensures ∙ ap (λ (n : ℕ). head 2 (length separators) n c.args.page (stamp_at 16 c.args.out.now) ++ replicate 488 0) (c.len.ensures.value ∙ ap length c.ways_of-contents.ensures))
    (c.as_slice.ensures.value ∙ c.ways_of-contents.ensures) c.put_bytes.ensures
