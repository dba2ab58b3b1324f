-- Which numbers the thirds of the tape begin with.
use Rattle.std.specs.Prelude.{◌≡◌, ◌≤◌, ℕ, ◌+◌, ◌*◌, List, count_by, nat_lt, if◌then◌else◌}
use Rattle.fsd_log.specs.Scan.{Placed}
use Rattle.log_thirds.specs.declared.firsts.Firsts.{Firsts}

-- the number of the first record from a place on: behind all that begin before it
abbrev pub first_from : (first place : ℕ) → List Placed → ℕ
first_from first place records = first + count_by (λ r. nat_lt r.at place) records

-- those of an empty log
abbrev pub firsts_of : ℕ → Firsts
firsts_of number = record { second = number; last = number }

-- with a record more, which begins there
abbrev pub firsts_with : (third at : ℕ) → Firsts → Firsts
firsts_with third at f = record { second = if nat_lt at third then f.second + 1 else f.second; last = if nat_lt at (2 * third) then f.last + 1 else f.last }

-- they are those of a log that begins with this number and has these records
pub record AreFirsts (third first : ℕ) (records : List Placed) (f : Firsts) : Type 0 where
  pub second : f.second ≡ first_from first third records
  pub last : f.last ≡ first_from first (2 * third) records

-- numbers from 1 on, up to the next record's
pub record AreNumbers (number : ℕ) (f : Firsts) : Type 0 where
  pub some : 1 ≤ f.second
  pub in_order : f.second ≤ f.last
  pub most : f.last ≤ number
