use Rattle.std.proofs.Common.{ℕ, List, [], ◌∷◌, ◌++◌, ◌-◌, ◌∙◌, ap, length, refl, arith}
use Rattle.std.proofs.lemmas.List.{take-replicate}
use Rattle.name_page.proofs.LengthLaws.{separator_joined}
use Rattle.name_page.proofs.writing.separator_text.Goals as goal

pub returns-clause-text : goal.returns-clause-text
returns-clause-text c =
    let named = rw c.unwrap.ensures at c.try_extend_from_slice.ensures.ok in
    let filled = rw c.unwrap-2.ensures at c.try_extend_from_slice-2.ensures.ok in
    let numbered = rw c.unwrap-3.ensures at c.try_extend_from_slice-3.ensures.ok in
    let all = rw c.unwrap-4.ensures at c.try_extend_from_slice-4.ensures.ok in
    separator_joined c.args.s.now _ _ _ _ _ _ _ _ _ _ (c.push.ensures.items ∙ ap (λ (x : List ℕ). x ++ length c.as_bytes-name.result.now ∷ []) c.new-text.ensures) refl c.as_bytes-name.ensures.value
    named filled (take-replicate (40 - length c.as_bytes-name.result.now) 40 0 (omega arith)) numbered c.to_be_bytes.ensures all c.to_be_bytes-2.ensures
