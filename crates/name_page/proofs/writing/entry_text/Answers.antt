use Rattle.std.proofs.Common.{ℕ, List, [], ◌∷◌, ◌++◌, ◌∙◌, ap, length, refl}
use Rattle.name_page.proofs.LengthLaws.{entry_joined}
use Rattle.name_page.proofs.writing.entry_text.Goals as goal

pub returns : goal.returns
returns c =
    let named = rw c.unwrap.ensures at c.try_extend_from_slice.ensures.ok in
    let numbered = rw c.unwrap-2.ensures at c.try_extend_from_slice-2.ensures.ok in
    let all = rw c.unwrap-3.ensures at c.try_extend_from_slice-3.ensures.ok in
    entry_joined c.args.e.now _ _ _ _ _ _ _ _ _ _ (c.push.ensures.items ∙ ap (λ (x : List ℕ). x ++ length c.as_bytes-name.result.now ∷ []) c.new-text.ensures) refl c.as_bytes-name.ensures.value named numbered c.numbers_of.ensures
    c.push-2.ensures.items (ap length c.as_slice.ensures.value) all (c.as_slice-2.ensures.value ∙ c.runs_text.ensures)
