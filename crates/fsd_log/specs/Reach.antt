-- How far sectors are read to find the record that they begin.
use Rattle.std.specs.Prelude.{ℕ, ◌+◌, List, length, Option, Some, None, min, max, nat_le, if◌then◌else◌, option_and_then}
use Rattle.fsd_formats.specs.Record.{Stamp, read_header, record_len}
use Rattle.fsd_log.specs.Judged.{Reader}

-- The header, blank sectors and the header's copy begin a record.
abbrev pub headers_len : (gap : ℕ) → ℕ
headers_len gap = 3 + gap

-- the sectors of the record with these pages, where it has room
abbrev pub len_within : (gap : ℕ) → (room : ℕ) → Option (List ℕ) → ℕ
len_within gap room None = 0
len_within gap room (Some pages) = if nat_le (record_len gap (length pages)) room then record_len gap (length pages) else 0

-- of the record that a header names
abbrev pub len_by : (gap : ℕ) → ℕ → Stamp → (room : ℕ) → (header : Option (List ℕ)) → ℕ
len_by gap p stamp room header = len_within gap room (option_and_then (read_header p stamp) header)

-- the headers, and the record that they name, the longer one of two
abbrev pub reach : (gap : ℕ) → ℕ → Stamp → (room : ℕ) → Reader → ℕ
reach gap p stamp room at = max (min (headers_len gap) room) (max (len_by gap p stamp room (at 0)) (len_by gap p stamp room (at (2 + gap))))
