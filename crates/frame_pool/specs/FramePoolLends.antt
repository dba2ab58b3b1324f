-- What a pool ends as, once the frames that were lent have come back.
use Rattle.std.specs.Prelude.{ℕ, List, length, slice_set}
use Rattle.std.specs.Borrow.{Fml, MutBor, Array, Lends, LendsBoth, u8}
use Rattle.std.specs.List.{refill}
use Rattle.frame_pool.specs.contracts.pool.FramePool.{the_row}

-- the frame at the index is the last value written through r, and every other frame is as it was
abbrev pub LendsFrame : MutBor (List (List ℕ)) → ℕ → MutBor (List ℕ) → Fml
LendsFrame p i r = Lends the_row (Array u8 512) p r (λ w. slice_set p.now i w)

-- the frames are the last ones written through r, as many as they were
abbrev pub LendsFrames : MutBor (List (List ℕ)) → MutBor (List (List ℕ)) → Fml
LendsFrames p r = Lends the_row (Array (Array u8 512) 0) p r (λ ws. refill (length p.now) p.now ws)

-- the frames at the two indices are the last values written through the two references,
-- and every other frame is as it was
abbrev pub LendsTwo : MutBor (List (List ℕ)) → ℕ → ℕ → MutBor (List ℕ) × MutBor (List ℕ) → Fml
LendsTwo p i j r = LendsBoth the_row (Array u8 512) (Array u8 512) p r (λ v w. slice_set (slice_set p.now i v) j w)
