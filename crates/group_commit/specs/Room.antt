-- Where a record goes when the log comes round.
use Rattle.std.specs.Prelude.{ℕ, ◌+◌, ◌*◌, Bool, ◌||◌, count_by, nat_le, nat_lt, if◌then◌else◌}
use Rattle.volume_layout.specs.Layout.{third_start}
use Rattle.volume_layout.specs.Kinds.{gap_of}
use Rattle.fsd_formats.specs.Record.{record_len}
use Rattle.log_thirds.specs.LogValue.{LogValue}
use Rattle.log_thirds.specs.Moving.{moved}
use Rattle.fsd_log.specs.Slots.{lies_in}

-- a record of so many pages lies before the first third
abbrev pub goes_before : LogValue → (n : ℕ) → Bool
goes_before log n = nat_le (log.head.at + record_len (gap_of log.layout) n) log.head.end || nat_lt log.head.end (3 * log.layout.third)

-- of how many pages the last image lies in the first third
abbrev pub pages_in_first : LogValue → ℕ
pages_in_first log = count_by (lies_in (third_start log.layout log.anchor.third) log.layout.third) log.slots

-- the log that such a record goes behind: without its first third, where that is entered
abbrev pub log_before : LogValue → (n : ℕ) → LogValue
log_before log n = if goes_before log n then log else moved log

-- the sectors written before such a record: both homes of each of those pages, and both anchors
abbrev pub sectors_before : LogValue → (n : ℕ) → ℕ
sectors_before log n = if goes_before log n then 0 else 2 * pages_in_first log + 2
