-- The log by an anchor that has moved on by a third.
use Rattle.std.specs.Prelude.{◌≡◌, ◌⊎◌, ℕ, ◌+◌, ◌-◌, ◌<◌, ◌≤◌, List, ◌++◌, length, map, filter, nat_le, nat_lt, if◌then◌else◌}
use Rattle.std.specs.List.{AllByRecursion}
use Rattle.volume_layout.specs.Shape.{Shape}
use Rattle.fsd_log.specs.Judged.{Reader}
use Rattle.fsd_log.specs.Scan.{Head, Placed, IsLog}

-- so much nearer to the start of the tape
abbrev pub moved_back : ℕ → Placed → Placed
moved_back t r = record { at = r.at - t; entry = r.entry }

abbrev pub head_back : ℕ → Head → Head
head_back t h = record { number = h.number; at = h.at - t; end = h.end - t }

-- the records behind the first third
abbrev pub later : Shape → List Placed → List Placed
later l records = filter (λ r. nat_le l.third r.at) records

-- the same on the tape that begins with the following third
abbrev pub records_moved : Shape → List Placed → List Placed
records_moved l records = map (moved_back l.third) (later l records)

-- the third of the disk that follows, round
abbrev pub next_third : ℕ → ℕ
next_third third = if nat_lt third 2 then third + 1 else 0

abbrev pub IsNextThird : (first next : ℕ) → Type 0
IsNextThird first next = ((first ≡ 0) × (next ≡ 1)) ⊎ (((first ≡ 1) × (next ≡ 2)) ⊎ ((first ≡ 2) × (next ≡ 0)))

-- the records behind the first third are the log by the anchor that names the next one
pub record MovesOn (l : Shape) (epoch first : ℕ) (new : Reader) (rs : List Placed) (h : Head) : Type 0 where
  pub front : List Placed
  pub rest : List Placed
  pub joined : rs ≡ front ++ rest
  pub some : 0 < length front
  pub before : AllByRecursion (λ r. r.at < l.third) front
  pub behind : AllByRecursion (λ r. l.third ≤ r.at) rest
  pub log : IsLog l epoch (first + length front) new (map (moved_back l.third) rest) (head_back l.third h)
