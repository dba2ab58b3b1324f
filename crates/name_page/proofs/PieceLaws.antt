-- Fields of bytes, spelled again.
use Rattle.std.proofs.Common.{◌≡◌, ℕ, zero, suc, ◌+◌, ◌-◌, ◌*◌, ◌^◌, ◌<◌, ◌≤◌, List, ◌∷◌, ◌++◌, length, drop, refl, sym, ap, ◌∙◌, arith, append_assoc}
use Rattle.std.specs.Prelude.{slice_range}
use Rattle.std.specs.List.{flat_map}
use Rattle.std.proofs.lemmas.List.{drop-drop, drop_more, length-take-le, length-drop}
use Rattle.std.proofs.lemmas.List.Folds.{drop_split}
use Rattle.std.proofs.lemmas.Nat.{be_bytes_2, be_bytes_4}
use Rattle.fsd_bytes.specs.Bytes.{u16, u32, u8_at, u16_at, u32_at}
use Rattle.fsd_bytes.proofs.FieldLaws.{AreSmall, small_range, u16_behind, u32_there}
use Rattle.run_table.specs.declared.run.Run.{Run}
use Rattle.run_table.specs.RunTable.{run_bytes, run_at, runs_from}

pub length_range : (bytes : List ℕ) (a b : ℕ) → a ≤ b → b ≤ length bytes → length (slice_range bytes a b) ≡ b - a
length_range bytes a b h inside =
    length-take-le (b - a) (drop a bytes) (let e = length-drop a bytes in omega arith)

pub u16_small : (bytes : List ℕ) (place : ℕ) → AreSmall bytes → u16_at place bytes ≤ 65535
u16_small bytes place small =
    let part : List ℕ = slice_range bytes place (place + 2) in
    let s = small_range bytes place (place + 2) small in
    omega (arith, s 0, s 1)

pub u32_small : (bytes : List ℕ) (place : ℕ) → AreSmall bytes → u32_at place bytes < 2 ^ 32
u32_small bytes place small =
    let s = small_range bytes place (place + 4) small in
    omega (arith, s 0, s 1, s 2, s 3)

-- ---- fields are spelled again

pub u8_again : (bytes : List ℕ) (k next : ℕ) → next ≡ k + 1 → k < length bytes → u8_at k bytes ∷ drop next bytes ≡ drop k bytes
u8_again bytes k next e inside = ap (λ (n : ℕ). u8_at k bytes ∷ drop n bytes) e ∙ sym (drop_more bytes k 0 inside)

pub u16_again : (bytes : List ℕ) (k next : ℕ) → AreSmall bytes → next ≡ k + 2 → next ≤ length bytes → u16 (u16_at k bytes) ++ drop next bytes ≡ drop k bytes
u16_again bytes k next small e inside =
    let part : List ℕ = slice_range bytes k (k + 2) in
    let len : length (slice_range bytes k (k + 2)) ≡ 2 = omega (arith, length_range bytes k (k + 2) (omega arith) (omega arith)) in
    ap (λ (x : List ℕ). x ++ drop next bytes) (be_bytes_2 part (u16_at k bytes) len (small_range bytes k (k + 2) small) refl)
    ∙ ap (λ (n : ℕ). part ++ drop n bytes) e
    ∙ sym (drop_split bytes k (k + 2) (omega arith))

pub u32_again : (bytes : List ℕ) (k next : ℕ) → AreSmall bytes → next ≡ k + 4 → next ≤ length bytes → u32 (u32_at k bytes) ++ drop next bytes ≡ drop k bytes
u32_again bytes k next small e inside =
    let part : List ℕ = slice_range bytes k (k + 4) in
    let len : length (slice_range bytes k (k + 4)) ≡ 4 = omega (arith, length_range bytes k (k + 4) (omega arith) (omega arith)) in
    ap (λ (x : List ℕ). x ++ drop next bytes) (be_bytes_4 part (u32_at k bytes) len (small_range bytes k (k + 4) small) refl)
    ∙ ap (λ (n : ℕ). part ++ drop n bytes) e
    ∙ sym (drop_split bytes k (k + 4) (omega arith))

pub runs_again : (n k next : ℕ) (bytes : List ℕ) → AreSmall bytes → next ≡ k + 6 * n → next ≤ length bytes → flat_map run_bytes (runs_from n (drop k bytes)) ++ drop next bytes ≡ drop k bytes
runs_again zero k next bytes small e inside = ap (λ (x : ℕ). drop x bytes) (let same : next ≡ k = omega arith in same)
runs_again (suc n) k next bytes small e inside =
    let r : Run = run_at (drop k bytes) in
    let rest : List ℕ = flat_map run_bytes (runs_from n (drop 6 (drop k bytes))) in
    let more = runs_again n (k + 6) next bytes small (omega arith) inside in
    append_assoc (run_bytes r) rest (drop next bytes)
    ∙ ap (λ (x : List ℕ). run_bytes r ++ (flat_map run_bytes (runs_from n x) ++ drop next bytes)) (drop-drop 6 k bytes)
    ∙ ap (λ (x : List ℕ). run_bytes r ++ x) more
    ∙ ap (λ (x : ℕ). u32 (u32_at 0 (drop k bytes)) ++ (u16 x ++ drop (k + 6) bytes)) (u16_behind k 4 bytes)
    ∙ ap (λ (x : List ℕ). u32 (u32_at 0 (drop k bytes)) ++ x) (u16_again bytes (k + 4) (k + 6) small (omega arith) (omega arith))
    ∙ ap (λ (x : ℕ). u32 x ++ drop (k + 4) bytes) (u32_there k bytes)
    ∙ u32_again bytes k (k + 4) small refl (omega arith)
