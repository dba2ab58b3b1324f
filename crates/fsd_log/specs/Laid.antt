-- A record as it is laid, as bytes.
use Rattle.std.specs.Prelude.{◌≡◌, ℕ, zero, suc, ◌+◌, ◌*◌, ◌^◌, ◌<◌, ◌≤◌, List, [], ◌∷◌, ◌++◌, length, Some, IsTrue}
use Rattle.std.specs.List.{AllByRecursion}
use Rattle.fsd_bytes.specs.Bytes.{zeros, sector_len}
use Rattle.fsd_formats.specs.Record.{Stamp, header_bytes, end_bytes, are_pages, AreStamped}
use Rattle.fsd_log.specs.Judged.{Reader, sector_in, Logged}
use Rattle.fsd_log.specs.Borne.{FitsStamp}

abbrev pub blanks : ℕ → List ℕ
blanks count = zeros (sector_len * count)

-- header, blanks, header, pages, end, blanks, pages, end
unfoldable pub laid_bytes : (gap : ℕ) → Stamp → (pages images : List ℕ) → List ℕ
laid_bytes gap stamp pages images =
    let header = header_bytes stamp pages in
    let last = end_bytes stamp (length pages) in
    header ++ (blanks (1 + gap) ++ (header ++ (images ++ (last ++ (blanks gap ++ (images ++ last))))))

-- the sectors of some bytes
abbrev pub slices_from : ℕ → List ℕ → ℕ → List (List ℕ)
slices_from k bytes zero = []
slices_from k bytes (suc n) = sector_in bytes k ∷ slices_from (suc k) bytes n

abbrev pub slices : ℕ → List ℕ → List (List ℕ)
slices n bytes = slices_from 0 bytes n

-- the record that is laid so
abbrev pub new_record : Stamp → (pages images : List ℕ) → Logged
new_record stamp pages images = record { number = stamp.number; pages = pages; images = slices (length pages) images }

-- pages and images that make a record of this stamp, in a table of p pages
pub record AreLaid (p : ℕ) (stamp : Stamp) (pages images : List ℕ) : Type 0 where
  pub fits : FitsStamp stamp
  pub accepted : IsTrue (are_pages p pages)
  pub small : AllByRecursion (λ page. page < 2 ^ 32) pages
  pub long : length images ≡ sector_len * length pages
  pub stamped : AreStamped stamp pages (slices (length pages) images)

-- the first sectors of a write stand, and then the old ones
pub record IsTorn (bytes : List ℕ) (stood : ℕ) (old new : Reader) : Type 0 where
  pub front : (k : ℕ) → k < stood → new k ≡ Some (sector_in bytes k)
  pub behind : (k : ℕ) → stood ≤ k → new k ≡ old k
