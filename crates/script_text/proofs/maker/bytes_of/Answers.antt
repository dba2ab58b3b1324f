use Rattle.std.proofs.Common.{◌≡◌, ◌+◌, ◌%◌, ◌++◌, ◌∷◌, [], ◌∙◌, List, ℕ, sym, ap, map, arith}
use Rattle.std.specs.List.{range_with_len}
use Rattle.std.proofs.lemmas.List.FromFn.{map-range_with_len_more}
use Rattle.script_text.proofs.maker.bytes_of.Goals as goal

pub loop-place-preserved : goal.loop-place-preserved
loop-place-preserved c =
    let place : ℕ = c.loop-place.place in
    c.in_ok-push.ensures.items ∙ ap (λ (bs : List ℕ). bs ++ (c.args.first + place) % 256 ∷ []) c.loop-place.invariant
    ∙ sym (map-range_with_len_more (λ j. (c.args.first + j) % 256) 0 place place (omega arith))

pub returns : goal.returns
returns c =
    let all : c.loop-place.place ≡ c.args.count = omega arith in
    c.from.ensures ∙ c.loop-place.invariant ∙ ap (λ (n : ℕ). map (λ j. (c.args.first + j) % 256) (range_with_len 0 n)) all
