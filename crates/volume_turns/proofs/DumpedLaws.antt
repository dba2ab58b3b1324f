-- What is read of a dump, as the definitions read it.
use Rattle.std.proofs.Common.{◌≡◌, ℕ, suc, zero, ◌≤◌, true, List, [], ◌∷◌, ◌++◌, length, map, Option, Some, None, refl, sym, ◌∙◌, ap, subst, arith, length-append}
use Rattle.std.specs.Prelude.{All, IsTrue, nat_le, Ok, Err}
use Rattle.std.specs.List.{flat_map}
use Rattle.std.proofs.lemmas.Bool.{and_from, and_parts, le-leb}
use Rattle.std.proofs.lemmas.List.{length-map}
use Rattle.fsd_bytes.proofs.FieldLaws.{AreSmall}
use Rattle.fsd_bytes.specs.declared.key.Key.{Key}
use Rattle.fsd_bytes.specs.Keys.{is_key, max_u32}
use Rattle.fsd_bytes.specs.Bytes.{u8}
use Rattle.fsd_bytes.specs.Names.{is_name}
use Rattle.fsd_texts.specs.Script.{max_input}
use Rattle.fsd_dumps.specs.Dump.{Dumped, IsDumpOf, IsNoDump, are_behind, dump_bytes, end_bytes, fields_bytes, head_bytes, item_bytes}
use Rattle.fsd_dumps.specs.Front.{ItemsRead, dumped_in}
use Rattle.fsd_dumps.proofs.Again.{dump_again}
use Rattle.fsd_dumps.proofs.Items.{IsFit}
use Rattle.fsd_dumps.proofs.Places.{dump_stops}
use Rattle.fsd_dumps.proofs.Room.{behind_parts}
use Rattle.fsd_dumps.proofs.Spelled.{dump_spelled}
use Rattle.dump_text.specs.declared.item.Item.{Item}
use Rattle.dump_text.specs.Items.{dumped}

pub dump_is_read : (items : List Dumped) (bytes : List ℕ) → IsDumpOf items bytes → dumped_in bytes ≡ Ok items
dump_is_read items bytes (are, (latest, is)) = subst (λ (b : List ℕ). dumped_in b ≡ Ok items) (sym is) (dump_again latest items are)

pub none_is_read : (place : ℕ) (bytes : List ℕ) → AreSmall bytes → IsNoDump place bytes → dumped_in bytes ≡ Err place
none_is_read place bytes small x = by (dumped_in bytes) refl
  where
    by : (read : ItemsRead) → dumped_in bytes ≡ read → dumped_in bytes ≡ Err place
    by (Ok items) is = absurd (x.none (items, dump_spelled bytes items small is))
    by (Err n) is =
        let y = dump_stops bytes n small is in
        let up = x.until.most n y.until.within y.until.begins in
        let down = y.until.most place x.until.within x.until.begins in
        is ∙ ap (λ (i : ℕ). Err i) (omega (arith, up, down))

-- ---- its versions

fit_key : (x : Dumped) → IsFit x → is_key x.key ≡ true
fit_key x fit = and_from (is_name x.key.name) (nat_le 1 x.key.version) fit.name (le-leb 1 x.key.version fit.least)

keys_behind : (bytes : List ℕ) (last : Option Key) (items : List Item) → are_behind last (map (dumped bytes) items) ≡ true → All (λ x. IsTrue (is_key x.key)) items
keys_behind bytes last [] are k d below = absurd (omega (arith, below))
keys_behind bytes last (x ∷ items) are zero d below = fit_key (dumped bytes x) (behind_parts last (dumped bytes x) (map (dumped bytes) items) are).fit
keys_behind bytes last (x ∷ items) are (suc k) d below = keys_behind bytes (Some x.key) items (behind_parts last (dumped bytes x) (map (dumped bytes) items) are).others k d (omega (arith, below))

pub dump_keys : (bytes : List ℕ) (items : List Item) → IsDumpOf (map (dumped bytes) items) bytes → All (λ x. IsTrue (is_key x.key)) items
dump_keys bytes items (are, (latest, is)) = keys_behind bytes None items (and_parts (nat_le (length (map (dumped bytes) items)) max_u32) (are_behind None (map (dumped bytes) items)) are).1

-- each has a byte at least
each_long : (items : List Dumped) → length items ≤ length (flat_map item_bytes items)
each_long [] = omega arith
each_long (x ∷ items) =
    let rest = each_long items in
    let sum = length-append (item_bytes x) (flat_map item_bytes items) in
    let one = length-append (u8 (length x.key.name)) (x.key.name ++ (fields_bytes x ++ x.bytes)) in
    omega (arith, rest, sum, one)

pub dump_few : (bytes : List ℕ) (items : List Item) → IsDumpOf (map (dumped bytes) items) bytes → length bytes ≤ max_input → length items ≤ max_input
dump_few bytes items (are, (latest, is)) few =
    let all = map (dumped bytes) items in
    let same = length-map items (dumped bytes) in
    let each = each_long all in
    let behind = length-append (flat_map item_bytes all) (end_bytes (length all)) in
    let whole = length-append (head_bytes (length all) latest) (flat_map item_bytes all ++ end_bytes (length all)) in
    let long : length bytes ≡ length (dump_bytes latest all) = ap (λ (b : List ℕ). length b) is in
    omega (arith, same, each, behind, whole, long, few)
