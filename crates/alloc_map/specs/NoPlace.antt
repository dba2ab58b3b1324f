-- Where so many sectors go, or why they find no place.
use Rattle.std.specs.Prelude.{ℕ, List, length, Option, Some, None, Result, Ok, Err, nat_lt, if◌then◌else◌}
use Rattle.run_table.specs.declared.run.Run.{Run}
use Rattle.run_table.specs.Space.{runs_of, pick, best}
use Rattle.alloc_map.specs.declared.no_place.NoPlace.{NoPlace}
use Rattle.alloc_map.specs.declared.no_place.NoPlace.TheVariants.{NoSpace, TooFragmented}

abbrev pub picked_or : ℕ → ℕ → Option (List Run) → Result (List Run) NoPlace
picked_or need most (Some runs) = Ok runs
picked_or need most None = Err (TooFragmented need most)

-- the choice among the free sectors, or what they have
abbrev pub choice : List ℕ → ℕ → Result (List Run) NoPlace
choice free need =
    let runs = runs_of free in
    if nat_lt (length free) need then Err (NoSpace need (length free)) else picked_or need (best runs) (pick runs need)
