-- A record read plainly: of each sector and its copy the bytes that serve.
use Rattle.std.specs.Prelude.{ℕ, ◌+◌, ◌*◌, Bool, ◌&&◌, List, [], ◌∷◌, length, Option, Some, None, nat_le, option_map, option_and_then, is_some, if◌then◌else◌}
use Rattle.std.specs.Option.{option_or}
use Rattle.fsd_formats.specs.Record.{Stamp, read_header, is_end, bears, record_len}
use Rattle.fsd_log.specs.Judged.{Reader, Logged}

abbrev pub served : (List ℕ → Bool) → Option (List ℕ) → Option (List ℕ)
served test None = None
served test (Some bytes) = if test bytes then Some bytes else None

-- the first of two sectors, if it passes the test, else the copy, if that passes it
abbrev pub either_copy : (List ℕ → Bool) → Option (List ℕ) → Option (List ℕ) → Option (List ℕ)
either_copy test first copy = option_or (served test first) (served test copy)

abbrev pub images_at : Stamp → Reader → (k copy : ℕ) → List ℕ → Option (List (List ℕ))
images_at stamp at k copy [] = Some []
images_at stamp at k copy (page ∷ pages) =
    option_and_then (λ image. option_map (λ more. image ∷ more) (images_at stamp at (k + 1) (copy + 1) pages)) (either_copy (bears page stamp) (at k) (at copy))

abbrev pub record_with : (gap : ℕ) → Stamp → (room : ℕ) → Reader → List ℕ → Option Logged
record_with gap stamp room at pages =
    if nat_le (record_len gap (length pages)) room && is_some (either_copy (is_end stamp (length pages)) (at (3 + gap + length pages)) (at (4 + 2 * gap + 2 * length pages)))
    then option_map (λ images. record { number = stamp.number; pages = pages; images = images }) (images_at stamp at (3 + gap) (4 + 2 * gap + length pages) pages)
    else None

abbrev pub record_by : (gap : ℕ) → ℕ → Stamp → (room : ℕ) → Reader → ℕ → Option Logged
record_by gap p stamp room at k = option_and_then (record_with gap stamp room at) (option_and_then (read_header p stamp) (at k))

abbrev pub plain_record : (gap : ℕ) → ℕ → Stamp → (room : ℕ) → Reader → Option Logged
plain_record gap p stamp room at = option_or (record_by gap p stamp room at 0) (record_by gap p stamp room at (2 + gap))
