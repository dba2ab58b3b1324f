-- How many bytes an entry takes.
use Rattle.std.proofs.Common.{◌≡◌, ℕ, ◌+◌, ◌*◌, ◌≤◌, ◌&&◌, List, [], ◌∷◌, length, arith, length-append}
use Rattle.std.specs.Prelude.{◌==◌, nat_le, true}
use Rattle.std.specs.List.{concat, flat_map, list_all}
use Rattle.std.proofs.lemmas.Bool.{and_parts, leb-true}
use Rattle.run_table.specs.RunTable.{are_runs, max_runs, run_bytes, total}
use Rattle.run_table.proofs.RunLaws.{length_bytes}
use Rattle.fsd_bytes.specs.Bytes.{u8, u16, u32}
use Rattle.fsd_bytes.specs.Keys.{is_key}
use Rattle.fsd_bytes.specs.Names.{is_between, is_name, is_name_byte, max_name_len}
use Rattle.fsd_formats.specs.declared.entry.Entry.{Entry}
use Rattle.fsd_formats.specs.NamePage.{is_entry, entry_bytes, max_keep, max_length, sectors_for}

pub length_entry : (e : Entry) → length (entry_bytes e) ≡ 20 + length e.key.name + 6 * length e.runs
length_entry e =
    let runs : List ℕ = flat_map run_bytes e.runs in
    let tail : List ℕ = concat (u32 e.key.version ∷ u16 e.keep ∷ u32 e.serial.epoch ∷ u32 e.serial.count ∷ u32 e.length ∷ u8 (length e.runs) ∷ runs ∷ []) in
    omega (arith, length-append e.key.name tail, length-append runs [], length_bytes e.runs)

-- how long a name is, and how many runs there are
record AreSizes (name runs : ℕ) : Type 0 where
  named : 1 ≤ name
  short_name : name ≤ max_name_len
  some : 1 ≤ runs
  few : runs ≤ max_runs

sizes : (e : Entry) → is_entry e ≡ true → AreSizes (length e.key.name) (length e.runs)
sizes e is =
    let p1 = and_parts (is_key e.key && nat_le e.keep max_keep && nat_le e.length max_length && are_runs e.runs) (total e.runs == sectors_for e.length) is in
    let p2 = and_parts (is_key e.key && nat_le e.keep max_keep && nat_le e.length max_length) (are_runs e.runs) p1.0 in
    let p3 = and_parts (is_key e.key && nat_le e.keep max_keep) (nat_le e.length max_length) p2.0 in
    let key = (and_parts (is_key e.key) (nat_le e.keep max_keep) p3.0).0 in
    let name = (and_parts (is_name e.key.name) (nat_le 1 e.key.version) key).0 in
    let n : ℕ = length e.key.name in
    let r : ℕ = length e.runs in
    let named = and_parts (nat_le 1 n) (nat_le n max_name_len) (and_parts (is_between 1 max_name_len n) (list_all is_name_byte e.key.name) name).0 in
    let runs = and_parts (nat_le 1 r) (nat_le r max_runs) (and_parts (is_between 1 max_runs r) (list_all (λ r. is_between 1 65535 r.length) e.runs) p2.1).0 in
    record { named = leb-true 1 n named.0; short_name = leb-true n max_name_len named.1; some = leb-true 1 r runs.0; few = leb-true r max_runs runs.1 }

pub entry_short : (e : Entry) → is_entry e ≡ true → length (entry_bytes e) ≤ 108
entry_short e is =
    let s = sizes e is in
    short (length (entry_bytes e)) (length e.key.name) (length e.runs) (length_entry e) s.short_name s.few
  where
    short : (n name runs : ℕ) → n ≡ 20 + name + 6 * runs → name ≤ 40 → runs ≤ 8 → n ≤ 108
    short n name runs is a b = omega arith

-- a name and a run take seven bytes beside the numbers
pub entry_long : (e : Entry) → is_entry e ≡ true → 27 ≤ length (entry_bytes e)
entry_long e is =
    let s = sizes e is in
    long (length (entry_bytes e)) (length e.key.name) (length e.runs) (length_entry e) s.named s.some
  where
    long : (n name runs : ℕ) → n ≡ 20 + name + 6 * runs → 1 ≤ name → 1 ≤ runs → 27 ≤ n
    long n name runs is a b = omega arith

pub entries_long : (entries : List Entry) → list_all is_entry entries ≡ true → 27 * length entries ≤ length (flat_map entry_bytes entries)
entries_long [] is = omega arith
entries_long (e ∷ entries) is =
    let parts = and_parts (is_entry e) (list_all is_entry entries) is in
    omega (arith, entry_long e parts.0, entries_long entries parts.1, length-append (entry_bytes e) (flat_map entry_bytes entries))
