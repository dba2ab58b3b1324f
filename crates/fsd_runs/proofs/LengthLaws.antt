-- How many bytes a dump has.
use Rattle.std.proofs.Common.{◌≡◌, ℕ, ◌+◌, List, [], ◌∷◌, ◌++◌, length, map, Option, Some, refl, sym, ap, ◌∙◌, arith, length-append}
use Rattle.std.specs.Prelude.{T, sum_by}
use Rattle.std.specs.List.{AllByRecursion, concat, flat_map}
use Rattle.std.specs.FinMap.{find, is_sorted}
use Rattle.std.proofs.lemmas.List.Elements.{All-filter, All-from_recursion, recursion_from_All}
use Rattle.std.proofs.lemmas.List.Sums.{sum_by-cons}
use Rattle.fsd_bytes.specs.declared.key.Key.{Key}
use Rattle.fsd_bytes.specs.declared.key.Serial.{Serial}
use Rattle.fsd_bytes.specs.Keys.{key_cmp}
use Rattle.fsd_dumps.specs.Dump.{Dumped, dump_bytes, end_bytes, fields_bytes, item_bytes}
use Rattle.fsd_dumps.proofs.Parts.{parts_are}
use Rattle.fsd_formats.specs.declared.entry.Entry.{Entry}
use Rattle.fsd_files.specs.Files.{File, Files}
use Rattle.fsd_files.specs.Kept.{Lists}
use Rattle.fsd_files.specs.Volume.{Volume}
use Rattle.fsd_files.proofs.LoadLaws.{found_there}
use Rattle.fsd_runs.specs.declared.span.Span.{Span}
use Rattle.fsd_runs.specs.declared.span.Weight.{Weight}
use Rattle.fsd_runs.specs.Dumps.{bytes_found, chosen, dump_length, dump_of, dumped_of, is_in_span, latest_of, made_before, weight_of}

-- ---- of a dump of some versions

abbrev pub item_length : Dumped → ℕ
item_length x = 12 + length x.key.name + length x.bytes

one_long : (x : Dumped) → length (item_bytes x) ≡ item_length x
one_long x =
    let name = length-append x.key.name (fields_bytes x ++ x.bytes) in
    let fields : length (fields_bytes x ++ x.bytes) ≡ 11 + length x.bytes = omega arith in
    omega (arith, name, fields)

all_long : (items : List Dumped) → length (flat_map item_bytes items) ≡ sum_by item_length items
all_long [] = refl
all_long (x ∷ items) =
    let both = length-append (item_bytes x) (flat_map item_bytes items) in
    let one = one_long x in
    let more = all_long items in
    let sum = sum_by-cons item_length x items in
    omega (arith, both, one, more, sum)

pub dump_long : (latest : Serial) (items : List Dumped) → length (dump_bytes latest items) ≡ 24 + sum_by item_length items
dump_long latest items =
    let both = length-append (flat_map item_bytes items) (end_bytes (length items)) in
    let all = all_long items in
    let head : length (dump_bytes latest items) ≡ 16 + length (flat_map item_bytes items ++ end_bytes (length items)) = omega arith in
    let end : length (end_bytes (length items)) ≡ 8 = refl in
    omega (arith, both, all, head, end)

-- ---- of the versions of a span

abbrev HasBytes : Files → Entry → Type 0
HasBytes files e = length (bytes_found (find key_cmp e.key files)) ≡ e.length

-- each version is found by its entry's key, and has as many bytes as its entry says
all_have : (files s : Files) (entries : List Entry) → AllByRecursion (λ y. find key_cmp y.0 files ≡ Some y.1) s → Lists s entries → AllByRecursion (HasBytes files) entries
all_have files [] [] found lists = tt
all_have files [] (e ∷ entries) found lists = absurd lists
all_have files (y ∷ s) [] found lists = absurd lists
all_have files (y ∷ s) (e ∷ entries) found lists =
    let is = lists.0 in (
      ap (λ (k : Key). length (bytes_found (find key_cmp k files))) is.key ∙ ap (λ (o : Option File). length (bytes_found o)) found.0 ∙ sym is.length,
      all_have files s entries found.1 lists.1,
    )

sums_same : (files : Files) (entries : List Entry) → AllByRecursion (HasBytes files) entries → sum_by item_length (map (dumped_of files) entries) ≡ sum_by (λ w. w.bytes) (map weight_of entries)
sums_same files [] have = refl
sums_same files (e ∷ entries) have =
    let one = have.0 in
    let more = sums_same files entries have.1 in
    let first = sum_by-cons item_length (dumped_of files e) (map (dumped_of files) entries) in
    let second = sum_by-cons (λ (w : Weight). w.bytes) (weight_of e) (map weight_of entries) in
    omega (arith, one, more, first, second)

-- a dump of a volume whose entries are those of its files has so many bytes
pub span_long : (span : Span) (v : Volume) → T (is_sorted key_cmp v.files) → Lists v.files v.entries → length (concat (dump_of span v)) ≡ dump_length (chosen span v.entries)
span_long span v sorted lists =
    let latest = latest_of (made_before span.before v.entries) in
    let items = map (dumped_of v.files) (chosen span v.entries) in
    let have = all_have v.files v.files v.entries (found_there v.files sorted) lists in
    let some = recursion_from_All (HasBytes v.files) (chosen span v.entries) (All-filter (λ e. is_in_span span e.serial) (HasBytes v.files) v.entries (All-from_recursion (HasBytes v.files) v.entries have)) in
    ap (λ (bytes : List ℕ). length bytes) (parts_are latest items) ∙ dump_long latest items ∙ ap (λ (n : ℕ). 24 + n) (sums_same v.files (chosen span v.entries) some)
