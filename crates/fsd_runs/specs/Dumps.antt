-- Which versions a dump of a volume has, and what it is.
use Rattle.std.specs.Prelude.{◌≡◌, ℕ, Bool, ◌&&◌, ◌||◌, ◌==◌, List, [], ◌∷◌, map, filter, Option, Some, None, Contains, is_some, nat_lt, if◌then◌else◌, slice_get, not, true, ◌+◌, length, sum_by, Result, Ok, Err}
use Rattle.std.specs.List.{AllByRecursion, fold}
use Rattle.std.specs.FinMap.{find}
use Rattle.fsd_bytes.specs.declared.key.Key.{Key}
use Rattle.fsd_bytes.specs.declared.key.Serial.{Serial}
use Rattle.fsd_bytes.specs.Keys.{key_cmp}
use Rattle.fsd_formats.specs.declared.entry.Entry.{Entry}
use Rattle.fsd_dumps.specs.Dump.{Dumped, dump_parts}
use Rattle.sector_disk.specs.declared.sector.Sector.TheVariants.{Damaged}
use Rattle.sector_disk.specs.Image.{sector_at}
use Rattle.fsd_files.specs.Answers.{entry_of}
use Rattle.fsd_files.specs.Disk.{Image}
use Rattle.fsd_files.specs.Files.{File, Files}
use Rattle.fsd_files.specs.Kept.{IsWhole, data_sectors}
use Rattle.fsd_files.specs.Scrub.{all_data}
use Rattle.fsd_files.specs.Volume.{Volume}
use Rattle.fsd_runs.specs.declared.span.Span.{Span}
use Rattle.fsd_runs.specs.declared.span.Weight.{Weight}

-- ---- serials

-- of an earlier mount, or of the same one and drawn earlier
abbrev pub serial_lt : Serial → Serial → Bool
serial_lt a b = nat_lt a.epoch b.epoch || ((a.epoch == b.epoch) && nat_lt a.count b.count)

abbrev pub later_of : Serial → Serial → Serial
later_of a b = if serial_lt a b then b else a

-- before that of any version
abbrev pub first_serial : Serial
first_serial = record { epoch = 0; count = 0 }

-- the greatest one of these versions
abbrev pub latest_of : List Entry → Serial
latest_of entries = fold later_of first_serial (map (λ e. e.serial) entries)

-- in front of this one, where there is one
abbrev pub is_before : Option Serial → Serial → Bool
is_before None s = true
is_before (Some bound) s = serial_lt s bound

abbrev pub is_in_span : Span → Serial → Bool
is_in_span span s = serial_lt span.since s && is_before span.before s

-- ---- what is chosen

-- the versions whose serial is in the span
abbrev pub chosen : Span → List Entry → List Entry
chosen span entries = filter (λ e. is_in_span span e.serial) entries

-- those in front of its end
abbrev pub made_before : Option Serial → List Entry → List Entry
made_before bound entries = filter (λ e. is_before bound e.serial) entries

abbrev pub bytes_found : Option File → List ℕ
bytes_found None = []
bytes_found (Some file) = file.bytes

-- a version as it stands in a dump
abbrev pub dumped_of : Files → Entry → Dumped
dumped_of files e = record { key = e.key; keep = e.keep; kind = 0; bytes = bytes_found (find key_cmp e.key files) }

-- the dump of the versions of a span, in parts: its head has the greatest serial of all versions in front of its end
abbrev pub dump_of : Span → Volume → List (List ℕ)
dump_of span v = dump_parts (latest_of (made_before span.before v.entries)) (map (dumped_of v.files) (chosen span v.entries))

-- ---- the span of a dump that has so many bytes at most

-- of a dump a version takes 12 bytes, its name and its bytes
abbrev pub weight_of : Entry → Weight
weight_of e = record { serial = e.serial; bytes = 12 + length e.key.name + e.length }

-- how many bytes a dump of those has that take so many: it has a head of 16, and an end of 8
abbrev pub length_of : List Weight → ℕ
length_of weights = 24 + sum_by (λ w. w.bytes) weights

-- how many bytes the dump of these versions has
abbrev pub dump_length : List Entry → ℕ
dump_length entries = length_of (map weight_of entries)

-- all behind this one
abbrev pub all_since : Serial → Span
all_since since = record { since = since; before = None }

-- what the versions behind this one take
abbrev pub weights_since : Serial → List Entry → List Weight
weights_since since entries = map weight_of (chosen (all_since since) entries)

abbrev pub serials_of : List Weight → List Serial
serials_of weights = map (λ w. w.serial) weights

-- of those up to this serial, or of none
abbrev pub length_up_to : List Weight → (last : Option Serial) → ℕ
length_up_to weights None = length_of []
length_up_to weights (Some last) = length_of (filter (λ w. not (serial_lt last w.serial)) weights)

abbrev pub earlier_of : Serial → Serial → Serial
earlier_of a b = if serial_lt b a then b else a

-- the least of these
abbrev pub earliest : List Serial → Option Serial
earliest [] = None
earliest (s ∷ serials) = Some (fold earlier_of s serials)

-- the first serial with which the dump is longer, if there is one
abbrev pub first_over : (most : ℕ) → List Weight → Option Serial
first_over most weights = earliest (filter (λ s. nat_lt most (length_up_to weights (Some s))) (serials_of weights))

-- the dump of the version that was made first, or of none
abbrev pub least_length : List Weight → ℕ
least_length weights = length_up_to weights (earliest (serials_of weights))

-- the span of as many of the least serials as so many bytes hold; or how many bytes the dump of the first one has, where
-- that is more
abbrev pub span_over : (since : Serial) → (most : ℕ) → List Weight → Result Span ℕ
span_over since most weights =
    if nat_lt most (least_length weights) then Err (least_length weights)
    else Ok (record { since = since; before = first_over most weights })

-- that of the versions behind this serial; or of all of them, where no bytes are told
abbrev pub span_of : (since : Serial) → (most : Option ℕ) → List Entry → Result Span ℕ
span_of since None entries = Ok (all_since since)
span_of since (Some most) entries = span_over since most (weights_since since entries)

-- ---- what may be damaged

-- no data sector of these versions
abbrev pub AreWhole : Image → List Entry → Type 0
AreWhole i entries = AllByRecursion (λ x. IsWhole i x.1) (all_data entries)

-- Of these versions the one behind so many has a damaged data sector.
pub record IsSpoiltAt (i : Image) (entries : List Entry) (count s : ℕ) : Type 0 where
  pub entry : Entry
  pub there : slice_get entries count ≡ Some entry
  pub own : Contains (data_sectors entry.runs) s
  pub damaged : sector_at i s ≡ Damaged

-- ---- what is there already

-- the first one of these, if there is one, whose key is a version
abbrev pub first_there : List Dumped → List Entry → Option Key
first_there [] entries = None
first_there (x ∷ items) entries = if is_some (entry_of x.key entries) then Some x.key else first_there items entries
