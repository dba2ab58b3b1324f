-- No dump begins another, and each has one reading.
use Rattle.std.proofs.Common.{◌≡◌, ℕ, ◌<◌, ◌≤◌, true, List, [], ◌∷◌, ◌++◌, length, drop, Option, Some, None, Ok, sym, ap, subst, ◌∙◌, arith, append_assoc}
use Rattle.std.specs.Prelude.{nat_le}
use Rattle.std.specs.List.{flat_map}
use Rattle.std.proofs.lemmas.Bool.{and_parts, leb-true}
use Rattle.std.proofs.lemmas.List.{append-nil, append_cancel_left}
use Rattle.fsd_bytes.specs.declared.key.Key.{Key}
use Rattle.fsd_bytes.specs.Keys.{max_u32}
use Rattle.fsd_dumps.specs.Dump.{Dumped, are_behind, item_bytes, end_bytes, dump_bytes, IsDump, IsDumpOf}
use Rattle.fsd_dumps.specs.Front.{number_32, item_at, dumped_in, ItemRead, ItemsRead}
use Rattle.fsd_dumps.proofs.Numbers.{number_32_of}
use Rattle.fsd_dumps.proofs.Begins.{MayStand}
use Rattle.fsd_dumps.proofs.Room.{BehindParts, behind_parts, room_behind}
use Rattle.fsd_dumps.proofs.Again.{read_again, dump_again}

pub one_reading : (bytes : List ℕ) (items others : List Dumped) → IsDumpOf items bytes → IsDumpOf others bytes → items ≡ others
one_reading bytes items others (good, (latest, text)) (fine, (other, same)) =
    let agree : ◌≡◌ {A = ItemsRead} (Ok items) (Ok others) = sym (dump_again latest items good) ∙ ap dumped_in (sym text ∙ same) ∙ dump_again other others fine in cc

stands : (last : Option Key) (x : Dumped) (others : List Dumped) → length others < max_u32 → BehindParts last x others → MayStand last (length others) x
stands last x others few parts = record { fit = parts.fit; behind_last = parts.behind_last; room = room_behind x others parts.fit parts.others; few = few }

ends_alike : (count : ℕ) (last : Option Key) (items others : List Dumped) (more : List ℕ) → length items ≡ length others → length items ≤ max_u32
    → are_behind last items ≡ true → are_behind last others ≡ true
    → (flat_map item_bytes items ++ end_bytes count) ++ more ≡ flat_map item_bytes others ++ end_bytes count → more ≡ []
ends_alike count last [] [] more size few a b e = append_cancel_left (end_bytes count) more [] (e ∙ sym (append-nil (end_bytes count)))
ends_alike count last [] (y ∷ others) more size few a b e = absurd (omega (arith, size))
ends_alike count last (x ∷ items) [] more size few a b e = absurd (omega (arith, size))
ends_alike count last (x ∷ items) (y ∷ others) more size few a b e =
    let px = behind_parts last x items a in
    let py = behind_parts last y others b in
    let z : List ℕ = (flat_map item_bytes items ++ end_bytes count) ++ more in
    let w : List ℕ = flat_map item_bytes others ++ end_bytes count in
    let same : length items ≡ length others = omega (arith, size) in
    let left : item_bytes x ++ z ≡ (flat_map item_bytes (x ∷ items) ++ end_bytes count) ++ more =
    sym (append_assoc (item_bytes x) (flat_map item_bytes items ++ end_bytes count) more) ∙ ap (λ (xs : List ℕ). xs ++ more) (sym (append_assoc (item_bytes x) (flat_map item_bytes items) (end_bytes count))) in
    let right : flat_map item_bytes (y ∷ others) ++ end_bytes count ≡ item_bytes y ++ w = append_assoc (item_bytes y) (flat_map item_bytes others) (end_bytes count) in
    let one = read_again last (length items) x z (stands last x items (omega (arith, few)) px) in
    let two = subst (λ (k : ℕ). item_at last k (item_bytes y ++ w) ≡ Ok (y, w)) (sym same) (read_again last (length others) y w (stands last y others (omega (arith, few, same)) py)) in
    let agree : ◌≡◌ {A = ItemRead} (Ok (x, z)) (Ok (y, w)) = sym one ∙ ap (item_at last (length items)) (left ∙ e ∙ right) ∙ two in
    let pair : ◌≡◌ {A = Dumped × List ℕ} (x, z) (y, w) = cc in
    let key : y.key ≡ x.key = ap (λ (p : Dumped × List ℕ). p.0.key) (sym pair) in
    ends_alike count (Some x.key) items others more same (omega (arith, few)) px.others (subst (λ (q : Key). are_behind (Some q) others ≡ true) key py.others) (ap (λ (p : Dumped × List ℕ). p.1) pair)

pub no_other_begun : (bytes more : List ℕ) → IsDump bytes → IsDump (bytes ++ more) → more ≡ []
no_other_begun bytes more (items, (good, (latest, text))) (others, (fine, (other, same))) =
    let a = and_parts (nat_le (length items) max_u32) (are_behind None items) good in
    let b = and_parts (nat_le (length others) max_u32) (are_behind None others) fine in
    let few : length items ≤ max_u32 = leb-true (length items) max_u32 a.0 in
    let fits : length others ≤ max_u32 = leb-true (length others) max_u32 b.0 in
    let e : dump_bytes latest items ++ more ≡ dump_bytes other others = ap (λ (xs : List ℕ). xs ++ more) (sym text) ∙ same in
    let left : number_32 (drop 4 (dump_bytes latest items ++ more)) ≡ length items = number_32_of (length items) (drop 8 (dump_bytes latest items ++ more)) (omega (arith, few)) in
    let right : number_32 (drop 4 (dump_bytes other others)) ≡ length others = number_32_of (length others) (drop 8 (dump_bytes other others)) (omega (arith, fits)) in
    let size : length items ≡ length others = sym left ∙ ap (λ (xs : List ℕ). number_32 (drop 4 xs)) e ∙ right in
    ends_alike (length items) None items others more size few a.1 b.1 (ap (drop 16) e ∙ ap (λ (n : ℕ). flat_map item_bytes others ++ end_bytes n) (sym size))
