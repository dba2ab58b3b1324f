-- An entry at a place is the entry that begins there, and is spelled by the bytes there.
use Rattle.std.proofs.Common.{◌≡◌, ℕ, ◌+◌, ◌-◌, ◌*◌, ◌≤◌, List, [], ◌∷◌, ◌++◌, length, take, drop, refl, sym, ap, ◌∙◌, arith, append_assoc}
use Rattle.std.specs.Prelude.{slice_range}
use Rattle.std.specs.List.{flat_map}
use Rattle.std.proofs.lemmas.List.{drop-drop, append-nil}
use Rattle.std.proofs.lemmas.List.Folds.{drop_split}
use Rattle.std.proofs.Math.Seq.{take-append_seam}
use Rattle.fsd_bytes.specs.Bytes.{u16, u32, u8_at, u16_at, u32_at}
use Rattle.fsd_bytes.specs.Keys.{key_of}
use Rattle.fsd_bytes.proofs.FieldLaws.{AreSmall, u8_there, u8_behind, u16_behind, u32_behind, u32_there}
use Rattle.run_table.specs.RunTable.{run_bytes, runs_from}
use Rattle.run_table.proofs.RunLaws.{count_runs}
use Rattle.fsd_formats.specs.declared.entry.Entry.{Entry}
use Rattle.fsd_formats.specs.NamePage.{entry_bytes, entry_from, entry_named}
use Rattle.name_page.specs.Fault.{entry_end}
use Rattle.name_page.specs.Reading.{entry_at}
use Rattle.name_page.proofs.PieceLaws.{length_range, u8_again, u16_again, u32_again, runs_again}
use Rattle.fsd_table.proofs.EntryLaws.{length_entry}

pub entry_there : (place : ℕ) (bytes : List ℕ) → entry_from (drop place bytes) ≡ entry_at place bytes
entry_there place bytes =
    let n : ℕ = u8_at place bytes in
    let v : ℕ = place + 1 + n in
    let name : List ℕ = slice_range bytes (place + 1) v in
    let front : drop 1 (drop place bytes) ≡ drop (place + 1) bytes = drop-drop 1 place bytes in
    let behind : drop n (drop (place + 1) bytes) ≡ drop v bytes = drop-drop n (place + 1) bytes in
    let version : u32_at 0 (drop v bytes) ≡ u32_at v bytes = u32_there v bytes in
    let keep : u16_at 4 (drop v bytes) ≡ u16_at (v + 4) bytes = u16_behind v 4 bytes in
    let epoch : u32_at 6 (drop v bytes) ≡ u32_at (v + 6) bytes = u32_behind v 6 bytes in
    let count : u32_at 10 (drop v bytes) ≡ u32_at (v + 10) bytes = u32_behind v 10 bytes in
    let len : u32_at 14 (drop v bytes) ≡ u32_at (v + 14) bytes = u32_behind v 14 bytes in
    let runs : u8_at 18 (drop v bytes) ≡ u8_at (v + 18) bytes = u8_behind v 18 bytes in
    let tail : drop 19 (drop v bytes) ≡ drop (v + 19) bytes = drop-drop 19 v bytes in
    ap (λ (k : ℕ). entry_named (take k (drop 1 (drop place bytes))) (drop k (drop 1 (drop place bytes)))) (u8_there place bytes)
    ∙ ap (λ (x : List ℕ). entry_named (take n x) (drop n x)) front
    ∙ ap (λ (x : List ℕ). entry_named (take n (drop (place + 1) bytes)) x) behind
    ∙ ap (λ (k : ℕ). entry_named (take k (drop (place + 1) bytes)) (drop v bytes)) (let e : n ≡ v - (place + 1) = omega arith in e)
    ∙ λ i. record { key = key_of name (version i); keep = keep i; serial = record { epoch = epoch i; count = count i }; length = len i; runs = runs_from (runs i) (tail i) }

-- where the entry ends, by its length
pub entry_ends : (place : ℕ) (bytes : List ℕ) → place + 1 + u8_at place bytes ≤ length bytes → entry_end place bytes ≡ place + length (entry_bytes (entry_at place bytes))
entry_ends place bytes inside =
    let v : ℕ = place + 1 + u8_at place bytes in
    let runs : ℕ = u8_at (v + 18) bytes in
    let same : u8_at (place + 19 + u8_at place bytes) bytes ≡ runs = ap (λ (k : ℕ). u8_at k bytes) (let e : place + 19 + u8_at place bytes ≡ v + 18 = omega arith in e) in
    omega (arith, same, length_entry (entry_at place bytes), length_range bytes (place + 1) v (omega arith) inside, count_runs runs (drop (v + 19) bytes))

pub entry_again : (place end : ℕ) (bytes : List ℕ) → AreSmall bytes → end ≡ entry_end place bytes → end ≤ length bytes
    → entry_bytes (entry_at place bytes) ++ drop end bytes ≡ drop place bytes
entry_again place end bytes small ends inside =
    let e : Entry = entry_at place bytes in
    let n : ℕ = u8_at place bytes in
    let v : ℕ = place + 1 + n in
    let r : ℕ = u8_at (v + 18) bytes in
    let name : List ℕ = slice_range bytes (place + 1) v in
    let same : u8_at (place + 19 + n) bytes ≡ r = ap (λ (k : ℕ). u8_at k bytes) (let e : place + 19 + n ≡ v + 18 = omega arith in e) in
    let end_is : end ≡ v + 19 + 6 * r = omega (arith, ends, same) in
    let named : length (slice_range bytes (place + 1) (place + 1 + n)) ≡ n = omega (arith, length_range bytes (place + 1) v (omega arith) (omega arith)) in
    let runs : List ℕ = flat_map run_bytes e.runs in
    let k18 = u8_again bytes (v + 18) (v + 19) (omega arith) (omega arith) in
    let k14 = u32_again bytes (v + 14) (v + 18) small (omega arith) (omega arith) in
    let k10 = u32_again bytes (v + 10) (v + 14) small (omega arith) (omega arith) in
    let k6 = u32_again bytes (v + 6) (v + 10) small (omega arith) (omega arith) in
    let k4 = u16_again bytes (v + 4) (v + 6) small (omega arith) (omega arith) in
    let k0 = u32_again bytes v (v + 4) small refl (omega arith) in
    let numbers : List ℕ → List ℕ = λ (x : List ℕ). u32 e.key.version ++ (u16 e.keep ++ (u32 e.serial.epoch ++ (u32 e.serial.count ++ (u32 e.length ++ x)))) in
    append_assoc (length name ∷ name) (numbers (length e.runs ∷ (runs ++ []))) (drop end bytes)
    ∙ ap (λ (x : List ℕ). length name ∷ (name ++ numbers (length e.runs ∷ (x ++ drop end bytes)))) (append-nil runs)
    ∙ ap (λ (x : List ℕ). length name ∷ (name ++ numbers (length e.runs ∷ x))) (runs_again r (v + 19) end bytes small end_is inside)
    ∙ ap (λ (x : ℕ). length name ∷ (name ++ numbers (x ∷ drop (v + 19) bytes))) (count_runs r (drop (v + 19) bytes))
    ∙ ap (λ (x : List ℕ). length name ∷ (name ++ numbers x)) k18
    ∙ ap (λ (x : List ℕ). length name ∷ (name ++ (u32 e.key.version ++ (u16 e.keep ++ (u32 e.serial.epoch ++ (u32 e.serial.count ++ x)))))) k14
    ∙ ap (λ (x : List ℕ). length name ∷ (name ++ (u32 e.key.version ++ (u16 e.keep ++ (u32 e.serial.epoch ++ x))))) k10
    ∙ ap (λ (x : List ℕ). length name ∷ (name ++ (u32 e.key.version ++ (u16 e.keep ++ x)))) k6
    ∙ ap (λ (x : List ℕ). length name ∷ (name ++ (u32 e.key.version ++ x))) k4
    ∙ ap (λ (x : List ℕ). length name ∷ (name ++ x)) k0
    ∙ ap (λ (x : List ℕ). length name ∷ x) (sym (drop_split bytes (place + 1) v (omega arith)))
    ∙ ap (λ (x : ℕ). x ∷ drop (place + 1) bytes) named
    ∙ u8_again bytes place (place + 1) refl (omega arith)

-- the bytes from the place to the end are the entry's
pub entry_spelled : (place end : ℕ) (bytes : List ℕ) → AreSmall bytes → end ≡ entry_end place bytes → end ≤ length bytes → slice_range bytes place end ≡ entry_bytes (entry_at place bytes)
entry_spelled place end bytes small ends inside =
    let e : List ℕ = entry_bytes (entry_at place bytes) in
    let long : end ≡ place + length e = ends ∙ entry_ends place bytes (omega (arith, ends, inside)) in
    let size : end - place ≡ length e = omega (arith, long) in
    ap (take (end - place)) (sym (entry_again place end bytes small ends inside)) ∙ ap (λ (n : ℕ). take n (e ++ drop end bytes)) size ∙ take-append_seam e (drop end bytes)
