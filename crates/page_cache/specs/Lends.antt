-- What a cache ends as, once the bytes of pages that were lent have come back.
use Rattle.std.specs.Prelude.{ℕ, List}
use Rattle.std.specs.Borrow.{Fml, MutBor, Array, Lends, u8}
use Rattle.page_cache.specs.contracts.cache.Cache.{the_row}
use Rattle.page_cache.specs.Cache.{CacheValue, page_written, with_frames}

-- the page has the last bytes written through r, and all else is as it was
abbrev pub LendsBytes : MutBor CacheValue → (page : ℕ) → MutBor (List ℕ) → Fml
LendsBytes c page r = Lends the_row (Array u8 512) c r (λ w. page_written page w c.now)

-- each page has the last bytes written through r to its frame, and all else is as it was
abbrev pub LendsCacheFrames : MutBor CacheValue → MutBor (List (List ℕ)) → Fml
LendsCacheFrames c r = Lends the_row (Array (Array u8 512) 0) c r (λ ws. with_frames ws c.now)
