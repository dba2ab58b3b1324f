-- What a row of frames ends as, once two of them that were lent have come back.
use Rattle.std.specs.Prelude.{ℕ, List, slice_set}
use Rattle.std.specs.Borrow.{Fml, MutBor, Array, LendsBoth, u8}

-- the frames at the two indices are the last values written through the two references,
-- and every other frame is as it was
abbrev pub LendsTwoOf : MutBor (List (List ℕ)) → ℕ → ℕ → MutBor (List ℕ) × MutBor (List ℕ) → Fml
LendsTwoOf s i j r = LendsBoth (Array (Array u8 512) 0) (Array u8 512) (Array u8 512) s r (λ v w. slice_set (slice_set s.now i v) j w)
