use Rattle.std.proofs.Common.{◌∙◌, ◌++◌, ℕ, List, take, ap, sym, length, append_assoc, arith}
use Rattle.std.specs.List.{flat_map}
use Rattle.std.proofs.lemmas.List.{length-append}
use Rattle.fsd_bytes.specs.Bytes.{u32}
use Rattle.fsd_formats.specs.NamePage.{separator_bytes}
use Rattle.name_page.proofs.LengthLaws.{separators_more}
use Rattle.name_page.proofs.writing.ways_of.Goals as goal

pub loop-s-preserved : goal.loop-s-preserved
loop-s-preserved c =
    let more = rw c.unwrap-in-loop-s.ensures at c.try_extend_from_slice-in-loop-s.ensures.ok in
    let front : List ℕ = flat_map separator_bytes (take c.loop-s.s-index c.args.separators.now) in (
      more
          ∙ ap (λ (x : List ℕ). x ++ c.as_slice.result.now) c.loop-s.invariant.0
          ∙ ap (λ (x : List ℕ). (u32 c.args.first ++ front) ++ x) (c.as_slice.ensures.value ∙ c.separator_text.ensures.text ∙ ap separator_bytes c.s-item.is)
          ∙ append_assoc (u32 c.args.first) front _
          ∙ ap (λ (x : List ℕ). u32 c.args.first ++ x) (sym (separators_more c.args.separators.now c.loop-s.s-index c.s-item.result c.loop-s-test.true)),
      omega (arith, ap length more, length-append {A = ℕ} c.loop-s.contents.items, c.loop-s.invariant.1, ap length c.as_slice.ensures.value, c.separator_text.ensures.length),
    )
