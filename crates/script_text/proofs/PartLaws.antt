-- Lines that are said by their parts.
use Rattle.std.proofs.Common.{◌≡◌, ◌∙◌, ◌≤◌, ◌-◌, ℕ, List, [], ◌∷◌, ◌++◌, length, take, drop, map, Result, Ok, Err, IfOk, codes, refl, sym, ap, arith}
use Rattle.std.specs.Prelude.{is_ok, if◌then◌else◌}
use Rattle.std.specs.List.{flat_map, slice_index_or}
use Rattle.std.specs.declared.alloc.AllocError.{AllocError}
use Rattle.std.proofs.lemmas.List.{append_assoc, take_all}
use Rattle.fsd_texts.specs.declared.part.Part.{Part}
use Rattle.fsd_texts.specs.Text.{line, newline, part_text}

-- a part with a space in front
abbrev pub spaced : Part → List ℕ
spaced part = codes " " ++ part_text part

line_of_parts : (first : Part) (rest : List Part) → line (map part_text (first ∷ rest)) ≡ part_text first ++ (flat_map spaced rest ++ newline)
line_of_parts first [] = refl
line_of_parts first (next ∷ rest) =
    ap (λ (l : List ℕ). part_text first ++ (codes " " ++ l)) (line_of_parts next rest ∙ sym (append_assoc (part_text next) (flat_map spaced rest) newline))

-- those behind the first
abbrev behind_first : List Part → List Part
behind_first parts = take (length parts - 1) (drop 1 parts)

-- the first part stands there, and behind it all others, each with a space in front: with a newline they are the line
pub line_is_said : (parts : List Part) (first : Part) (old began out : List ℕ) (i : ℕ) → 1 ≤ length parts → first ≡ slice_index_or parts 0 first
    → began ≡ old ++ part_text first → out ≡ began ++ flat_map spaced (take i (behind_first parts)) → length (behind_first parts) ≤ i → out ++ newline ≡ old ++ line (map part_text parts)
line_is_said [] first old began out i some is starts so_far all = absurd (omega (arith, some))
line_is_said (p ∷ rest) first old began out i some is starts so_far all =
    let whole : take i (behind_first (p ∷ rest)) ≡ rest = take_all i (behind_first (p ∷ rest)) all ∙ take_all (length (p ∷ rest) - 1) rest (omega arith) in
    ap (λ (l : List ℕ). l ++ newline) (so_far ∙ (λ j. starts j ++ flat_map spaced (whole j)) ∙ ap (λ (x : Part). (old ++ part_text x) ++ flat_map spaced rest) is)
    ∙ append_assoc (old ++ part_text p) (flat_map spaced rest) newline
    ∙ append_assoc old (part_text p) (flat_map spaced rest ++ newline)
    ∙ ap (λ (l : List ℕ). old ++ l) (sym (line_of_parts p rest))

pub if_put : (r : Result (Unit {0}) AllocError) (new out said : List ℕ) → new ≡ (if is_ok r then out ++ newline else out) → out ++ newline ≡ said → IfOk r (λ done. new ≡ said)
if_put (Ok done) new out said is same = is ∙ same
if_put (Err e) new out said is same = tt {0}
