use Rattle.std.proofs.Common.{◌∙◌, ◌++◌, ℕ, List, take, ap, sym, length, arith}
use Rattle.std.specs.List.{flat_map}
use Rattle.std.proofs.lemmas.List.Folds.{length-flat_map-take}
use Rattle.fsd_formats.specs.NamePage.{entry_bytes}
use Rattle.name_page.proofs.LengthLaws.{contents_more}
use Rattle.name_page.proofs.writing.contents_of.Goals as goal

pub unwrap-requires : goal.unwrap-requires
unwrap-requires c =
    let room = length-flat_map-take entry_bytes c.args.entries.now c.loop-e.e-index c.e-item.result c.loop-e-test.true in
    c.try_extend_from_slice.ensures.variant.1
    (omega (arith, room, ap length c.loop-e.invariant, ap length (c.as_slice.ensures.value ∙ c.entry_text.ensures), ap (λ e. length (entry_bytes e)) c.e-item.is))

pub loop-e-preserved : goal.loop-e-preserved
loop-e-preserved c =
    let more = rw c.unwrap.ensures at c.try_extend_from_slice.ensures.ok in
    more
    ∙ ap (λ (x : List ℕ). x ++ c.as_slice.result.now) c.loop-e.invariant
    ∙ ap (λ (x : List ℕ). flat_map entry_bytes (take c.loop-e.e-index c.args.entries.now) ++ x) (c.as_slice.ensures.value ∙ c.entry_text.ensures ∙ ap entry_bytes c.e-item.is)
    ∙ sym (contents_more c.args.entries.now c.loop-e.e-index c.e-item.result c.loop-e-test.true)
