-- What pages end as, once the bytes of one that were lent have come back.
use Rattle.std.specs.Prelude.{ℕ, List}
use Rattle.std.specs.Borrow.{Fml, RattleType, MutBor, Array, Lends, u8}

-- the lender ends as `written` says of the last bytes behind r
abbrev pub LendsPage : (R : RattleType) → MutBor R.Denot → (written : List ℕ → R.Denot) → MutBor (List ℕ) → Fml
LendsPage R lender written r = Lends R (Array u8 512) lender r written
