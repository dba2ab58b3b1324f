-- A dump that is spelled is read again.
use Rattle.std.proofs.Common.{◌≡◌, ℕ, suc, ◌+◌, ◌-◌, ◌≤◌, true, List, [], ◌∷◌, ◌++◌, length, take, drop, Option, Some, None, Ok, Err, sym, ap, ◌∙◌, arith, append_assoc}
use Rattle.std.specs.Prelude.{nat_le, nat_lt}
use Rattle.std.specs.List.{flat_map}
use Rattle.std.proofs.lemmas.Bool.{and_parts, leb-true, le-ltb, cond-true, cond-false}
use Rattle.std.proofs.lemmas.List.{take-append-drop}
use Rattle.fsd_bytes.specs.Bytes.{same_bytes}
use Rattle.fsd_bytes.specs.declared.key.Key.{Key}
use Rattle.fsd_bytes.specs.declared.key.Serial.{Serial}
use Rattle.fsd_bytes.specs.Keys.{max_u32}
use Rattle.fsd_bytes.proofs.SameLaws.{is_same}
use Rattle.fsd_dumps.specs.Dump.{Dumped, are_behind, are_dumped, fields_bytes, item_bytes, end_bytes, dump_bytes}
use Rattle.fsd_dumps.specs.Front.{number_32, fields_len, head_len, item_at, rest_of, dumped_in, common, with_front, then_more, ItemsRead, ItemRead}
use Rattle.fsd_dumps.proofs.Numbers.{number_32_of}
use Rattle.fsd_dumps.proofs.Items.{laid, item_again}
use Rattle.fsd_dumps.proofs.Begins.{MayStand, begins_true}
use Rattle.fsd_dumps.proofs.Room.{behind_parts, room_behind}

pub read_again : (last : Option Key) (behind : ℕ) (x : Dumped) (rest : List ℕ) → MayStand last behind x → item_at last behind (item_bytes x ++ rest) ≡ Ok (x, rest)
read_again last behind x rest h =
    let n = length x.key.name in
    let text : List ℕ = x.key.name ++ (fields_bytes x ++ (x.bytes ++ rest)) in
    item_again last behind x rest h.fit
    (begins_true last behind x (n ∷ take (n + fields_len) text) (drop (n + fields_len) text) rest h (ap (λ (xs : List ℕ). n ∷ xs) (take-append-drop (n + fields_len) text) ∙ sym (laid x rest)))

pub rest_again : (count : ℕ) (last : Option Key) (items : List Dumped) → are_behind last items ≡ true → length items ≤ max_u32 → rest_of count (length items) last (flat_map item_bytes items ++ end_bytes count) ≡ Ok items
rest_again count last [] h few =
    let good : ItemsRead = Ok [] in
    let bad : ItemsRead = Err (common (end_bytes count) (end_bytes count)) in
    cond-true (same_bytes (end_bytes count) (end_bytes count)) good bad (is_same (end_bytes count))
rest_again count last (x ∷ items) h few =
    let parts = behind_parts last x items h in
    let tail : List ℕ = flat_map item_bytes items ++ end_bytes count in
    let stands : MayStand last (length items) x = record { fit = parts.fit; behind_last = parts.behind_last; room = room_behind x items parts.fit parts.others; few = omega (arith, few) } in
    let more : Dumped × List ℕ → ItemsRead = λ y. rest_of count (length items) (Some y.0.key) y.1 in
    ap (rest_of count (suc (length items)) last) (append_assoc (item_bytes x) (flat_map item_bytes items) (end_bytes count))
    ∙ ap (λ (r : ItemRead). then_more (length (item_bytes x ++ tail)) more r) (read_again last (length items) x tail stands)
    ∙ ap (with_front (x ∷ []) (length (item_bytes x ++ tail) - length tail)) (rest_again count (Some x.key) items parts.others (omega (arith, few)))

pub dump_again : (latest : Serial) (items : List Dumped) → are_dumped items ≡ true → dumped_in (dump_bytes latest items) ≡ Ok items
dump_again latest items h =
    let parts = and_parts (nat_le (length items) max_u32) (are_behind None items) h in
    let few : length items ≤ max_u32 = leb-true (length items) max_u32 parts.0 in
    let bytes : List ℕ = dump_bytes latest items in
    let tail : List ℕ = flat_map item_bytes items ++ end_bytes (length items) in
    let count : number_32 (drop 4 bytes) ≡ length items = number_32_of (length items) (drop 8 bytes) (omega (arith, few)) in
    let good : ItemsRead = with_front [] head_len (rest_of (number_32 (drop 4 bytes)) (number_32 (drop 4 bytes)) None tail) in
    let short : ItemsRead = Err (length bytes) in
    cond-false (nat_lt (length bytes) head_len) short good (le-ltb (length bytes) head_len (omega arith))
    ∙ ap (λ (n : ℕ). with_front [] head_len (rest_of n n None tail)) count
    ∙ ap (with_front [] head_len) (rest_again (length items) None items parts.1 few)
