-- What the grammar says of pages in memory.
use Rattle.std.specs.Prelude.{◌≡◌, ℕ, ◌<◌, List, Option, Some, IsSome, option_and_then, slice_index_or}
use Rattle.fsd_formats.specs.NamePage.{Content, read_page}
use Rattle.page_cache.specs.Cache.{CacheValue, Held, held, cached_bytes}

-- what a page of the cache has, in a table of so many pages
abbrev pub cached_content : CacheValue → (pages page : ℕ) → Option Content
cached_content c pages page = option_and_then (read_page page pages) (cached_bytes c page)

-- the grammar accepts the page of each frame that is marked, in a table of so many pages as the mark says
abbrev pub HasAccepted : (marks : List ℕ) → CacheValue → Type 0
HasAccepted marks c = (page : ℕ) (h : Held) → held c page ≡ Some h → 0 < slice_index_or marks h.frame 0 → IsSome (read_page page (slice_index_or marks h.frame 0) h.bytes)
