-- How many flags are set.
use Rattle.std.proofs.Common.{◌≡◌, ℕ, ◌+◌, ◌-◌, Bool, false, List, length, filter, ap, ◌∙◌, arith}
use Rattle.std.specs.Prelude.{count_by, slice_index_or}
use Rattle.std.specs.List.{range_with_len}
use Rattle.run_table.specs.Space.{where_free}
use Rattle.table_survey.proofs.VisitLaws.{count_from}

-- by their places there are as many
pub count_of_flags : (flags : List Bool) → length (where_free (λ i. slice_index_or flags i false) 0 (length flags)) ≡ count_by (λ flag. flag) flags
count_of_flags flags =
    let all : length flags - 0 ≡ length flags = omega arith in
    ap (λ (n : ℕ). length (filter (λ i. slice_index_or flags i false) (range_with_len 0 n))) all
    ∙ count_from (λ i. slice_index_or flags i false) flags 0 (λ i lt. let e : 0 + i ≡ i = omega arith in ap (λ (n : ℕ). slice_index_or flags n false) e)
