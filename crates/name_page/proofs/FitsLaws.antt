-- Numbers that are read from bytes fit their fields.
use Rattle.std.proofs.Common.{◌≡◌, ℕ, zero, suc, ◌≤◌, ◌^◌, true, Some, List, length, drop, sym, subst, arith}
use Rattle.std.specs.Prelude.{IsSome, nat_le}
use Rattle.std.specs.List.{AllByRecursion, list_all}
use Rattle.std.proofs.lemmas.Bool.{and_parts}
use Rattle.fsd_bytes.specs.Bytes.{u8_at, u16_at, u32_at}
use Rattle.fsd_bytes.specs.declared.key.Key.{Key}
use Rattle.fsd_bytes.specs.Keys.{is_key}
use Rattle.fsd_bytes.specs.Names.{is_name, is_name_byte, is_between, max_name_len}
use Rattle.fsd_bytes.proofs.FieldLaws.{AreSmall, small_behind}
use Rattle.run_table.specs.RunTable.{runs_from, FitsRun}
use Rattle.fsd_formats.specs.declared.page.Separator.{Separator}
use Rattle.fsd_formats.specs.NamePage.{Interior, entry_bytes, entry_from, entries_from, separator_from, separators_from, read_page, is_page, FitsEntry, FitsSeparator}
use Rattle.fsd_table.proofs.PageLaws.{read_is_page}
use Rattle.name_page.proofs.LeafLaws.{between}
use Rattle.name_page.specs.Reading.{content_in, entries_read, separators_in}
use Rattle.name_page.proofs.PieceLaws.{u16_small, u32_small}
use Rattle.name_page.proofs.NodeLaws.{leaf_entries}
use Rattle.name_page.proofs.WaysLaws.{ways_keys}

runs_fit : (n : ℕ) (bytes : List ℕ) → AreSmall bytes → AllByRecursion FitsRun (runs_from n bytes)
runs_fit zero bytes small = tt
runs_fit (suc n) bytes small =
    let short = u16_small bytes 4 small in
    ((u32_small bytes 0 small, omega (arith, short)), runs_fit n (drop 6 bytes) (small_behind 6 bytes small))

entry_fits : (bytes : List ℕ) → AreSmall bytes → FitsEntry (entry_from bytes)
entry_fits bytes small =
    let rest : List ℕ = drop (u8_at 0 bytes) (drop 1 bytes) in
    let s = small_behind (u8_at 0 bytes) (drop 1 bytes) (small_behind 1 bytes small) in
    let keep = u16_small rest 4 s in
    record {
      version = u32_small rest 0 s;
      keep = omega (arith, keep);
      epoch = u32_small rest 6 s;
      count = u32_small rest 10 s;
      length = u32_small rest 14 s;
      runs = runs_fit (u8_at 18 rest) (drop 19 rest) (small_behind 19 rest s);
    }

entries_fit : (n : ℕ) (bytes : List ℕ) → AreSmall bytes → AllByRecursion FitsEntry (entries_from n bytes)
entries_fit zero bytes small = tt
entries_fit (suc n) bytes small =
    let behind : ℕ = length (entry_bytes (entry_from bytes)) in
    (entry_fits bytes small, entries_fit n (drop behind bytes) (small_behind behind bytes small))

-- the entries of a leaf
pub leaf_fits : (bytes : List ℕ) → AreSmall bytes → IsSome (content_in bytes) → u8_at 4 bytes ≡ 1 → AllByRecursion FitsEntry (entries_read bytes)
leaf_fits bytes small some leaf =
    subst (AllByRecursion FitsEntry) (sym (leaf_entries bytes some leaf)) (entries_fit (u16_at 6 bytes) (drop 24 bytes) (small_behind 24 bytes small))

-- ---- separators

read_ways : (page p : ℕ) (bytes : List ℕ) (first : ℕ) (separators : List Separator) → read_page page p bytes ≡ Some (Interior first separators) → is_page page p (Interior first separators) ≡ true
read_ways page p bytes first separators e = read_is_page page p bytes (Interior first separators) e

pub key_short : (k : Key) → is_key k ≡ true → length k.name ≤ max_name_len
key_short k e =
    let name = (and_parts (is_name k.name) (nat_le 1 k.version) e).0 in
    (between 1 max_name_len (length k.name) (and_parts (is_between 1 max_name_len (length k.name)) (list_all is_name_byte k.name) name).0).1

separators_fit : (n : ℕ) (bytes : List ℕ) → AreSmall bytes → list_all (λ s. is_key s.key) (separators_from n bytes) ≡ true → AllByRecursion FitsSeparator (separators_from n bytes)
separators_fit zero bytes small keys = tt
separators_fit (suc n) bytes small keys =
    let s : Separator = separator_from bytes in
    let parts = and_parts (is_key s.key) (list_all (λ s. is_key s.key) (separators_from n (drop 49 bytes))) keys in
    let rest : List ℕ = drop max_name_len (drop 1 bytes) in
    let few = small_behind max_name_len (drop 1 bytes) (small_behind 1 bytes small) in
    let first : FitsSeparator s = record { name = key_short s.key parts.0; version = u32_small rest 0 few; child = u32_small rest 4 few } in
    (first, separators_fit n (drop 49 bytes) (small_behind 49 bytes small) parts.1)

-- the separators of an interior page
pub ways_fit : (bytes : List ℕ) → AreSmall bytes → (first : ℕ) → content_in bytes ≡ Some (Interior first (separators_in bytes)) → separators_in bytes ≡ separators_from (u16_at 6 bytes) (drop 4 (drop 24 bytes))
    → AllByRecursion FitsSeparator (separators_in bytes)
unfolding content_in
ways_fit bytes small first is from =
    let xs : List Separator = separators_in bytes in
    let keys = ways_keys (u32_at 12 bytes) (2 ^ 32) first xs (read_ways (u32_at 12 bytes) (2 ^ 32) bytes first xs is) in
    let K : List Separator → Type 0 = λ (ys : List Separator). list_all (λ s. is_key s.key) ys ≡ true in
    subst (AllByRecursion FitsSeparator) (sym from) (separators_fit (u16_at 6 bytes) (drop 4 (drop 24 bytes)) (small_behind 4 (drop 24 bytes) (small_behind 24 bytes small)) (subst K from keys))
