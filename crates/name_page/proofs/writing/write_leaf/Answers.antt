use Rattle.std.proofs.Common.{ℕ, List, ◌++◌, ◌∙◌, length, ap, refl, arith}
use Rattle.std.specs.Prelude.{replicate}
use Rattle.std.specs.List.{flat_map}
use Rattle.fsd_formats.specs.NamePage.{entry_bytes, stamp_at}
use Rattle.name_page.specs.Spelling.{head}
use Rattle.name_page.proofs.LengthLaws.{count_below, page_laid}
use Rattle.name_page.proofs.writing.write_leaf.Goals as goal

pub overflow_cast-entries : goal.overflow_cast-entries
overflow_cast-entries c = omega (arith, count_below c.args.entries.now)

pub returns : goal.returns
returns c =
    let entries = c.args.entries.now in
    let contents : List ℕ = flat_map entry_bytes entries in
    page_laid (head 1 (length entries) (length contents) c.args.page (stamp_at 16 c.args.out.now)) c.as_slice.result.now contents c.put_bytes.new.b c.put_head.new.out refl c.requires.room
    (c.put_head.ensures ∙ ap (λ (n : ℕ). head 1 (length entries) n c.args.page (stamp_at 16 c.args.out.now) ++ replicate 488 0) (c.len.ensures.value ∙ ap length c.contents_of-contents.ensures))
    (c.as_slice.ensures.value ∙ c.contents_of-contents.ensures) c.put_bytes.ensures
