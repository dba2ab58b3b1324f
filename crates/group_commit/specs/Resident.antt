-- The pages of the name table in memory, and those of them that wait for a force.
use Rattle.std.specs.Prelude.{◌≡◌, ℕ, List, [], ◌∷◌, take, codes, slice_set, nat_lt, ◌==◌, if◌then◌else◌}
use Rattle.fsd_bytes.specs.Bytes.{u32_at, with_bytes}
use Rattle.fsd_formats.specs.Record.{Stamp, stamp_bytes}
use Rattle.fsd_sound.specs.Mounted.{image_at}

-- the image of each page, and the pages that wait
pub record ResidentValue : Type 0 where
  pub pages : List (List ℕ)
  pub dirty : List ℕ

-- an image of this page
pub record IsImageOf (page : ℕ) (bytes : List ℕ) : Type 0 where
  pub magic : take 4 bytes ≡ codes "CNPG"
  pub number : u32_at 12 bytes ≡ page

-- ---- stamps

abbrev pub with_stamp : Stamp → List ℕ → List ℕ
with_stamp stamp bytes = with_bytes 16 (stamp_bytes stamp) bytes

-- these pages bear the stamp, and all others stay
abbrev pub stamped : Stamp → List ℕ → List (List ℕ) → List (List ℕ)
stamped stamp [] pages = pages
stamped stamp (page ∷ more) pages = stamped stamp more (slice_set pages page (with_stamp stamp (image_at pages page)))

-- ---- pages that wait

-- the page in its place among ascending ones, once
abbrev pub page_added : ℕ → List ℕ → List ℕ
page_added page [] = page ∷ []
page_added page (q ∷ more) = if nat_lt page q then page ∷ q ∷ more else (if q == page then q ∷ more else q ∷ page_added page more)
