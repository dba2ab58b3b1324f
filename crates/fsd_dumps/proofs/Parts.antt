-- A dump is its parts, one behind the other.
use Rattle.std.proofs.Common.{◌≡◌, ℕ, List, [], ◌∷◌, ◌++◌, length, map, ap, append_assoc, sym, ◌∙◌}
use Rattle.std.specs.List.{concat, flat_map}
use Rattle.std.proofs.lemmas.List.{append-nil}
use Rattle.fsd_bytes.specs.declared.key.Serial.{Serial}
use Rattle.fsd_dumps.specs.Dump.{Dumped, dump_bytes, dump_parts, end_bytes, head_bytes, item_bytes}

up_to_end : (items : List Dumped) (end : List ℕ) → concat (map item_bytes items ++ end ∷ []) ≡ flat_map item_bytes items ++ end
up_to_end [] end = append-nil end
up_to_end (x ∷ items) end = ap (λ (xs : List ℕ). item_bytes x ++ xs) (up_to_end items end) ∙ sym (append_assoc (item_bytes x) (flat_map item_bytes items) end)

pub parts_are : (latest : Serial) (items : List Dumped) → concat (dump_parts latest items) ≡ dump_bytes latest items
parts_are latest items = ap (λ (xs : List ℕ). head_bytes (length items) latest ++ xs) (up_to_end items (end_bytes (length items)))
