-- A pattern has one text.
use Rattle.std.proofs.Common.{◌≡◌, ℕ, zero, suc, ◌-◌, Bool, true, false, cond, List, [], ◌∷◌, ◌++◌, length, take, drop, Some, None, refl, sym, ap, ◌∙◌, arith, codes, length-append}
use Rattle.std.specs.Prelude.{IsTrue}
use Rattle.std.specs.List.{list_all}
use Rattle.std.proofs.lemmas.Bool.{and_parts}
use Rattle.std.proofs.lemmas.List.{take-append-drop, take_at, drop_at}
use Rattle.fsd_bytes.specs.declared.pattern.Pattern.{Pattern}
use Rattle.fsd_bytes.specs.declared.pattern.Pattern.TheVariants.{Exactly, Prefix}
use Rattle.fsd_bytes.specs.Bytes.{same_bytes}
use Rattle.fsd_bytes.specs.Names.{is_between, is_name_byte, max_name_len}
use Rattle.fsd_bytes.specs.Keys.{is_pattern, pattern_if, pattern_text, read_pattern}
use Rattle.fsd_bytes.proofs.SameLaws.{given_if, same_is}

read_by : (bytes : List ℕ) (p : Pattern) (star : Bool) → same_bytes (drop (length bytes - 1) bytes) (codes "*") ≡ star
    → cond star (pattern_if (Prefix (take (length bytes - 1) bytes))) (pattern_if (Exactly bytes)) ≡ Some p → bytes ≡ pattern_text p
read_by bytes p true last e =
    let n : ℕ = length bytes - 1 in
    let given = given_if (is_pattern (Prefix (take n bytes))) (Prefix (take n bytes)) p e in
    let end : drop n bytes ≡ codes "*" = same_is (drop n bytes) (codes "*") last in
    sym (take-append-drop n bytes) ∙ ap (λ (xs : List ℕ). take n bytes ++ xs) end ∙ ap pattern_text given.1
read_by bytes p false last e = ap pattern_text (given_if (is_pattern (Exactly bytes)) (Exactly bytes) p e).1

pub read_pattern_is_spelled : (bytes : List ℕ) (p : Pattern) → read_pattern bytes ≡ Some p → bytes ≡ pattern_text p
read_pattern_is_spelled bytes p e = read_by bytes p (same_bytes (drop (length bytes - 1) bytes) (codes "*")) refl e

all_behind : (n : ℕ) (bytes : List ℕ) → list_all is_name_byte bytes ≡ true → list_all is_name_byte (drop n bytes) ≡ true
all_behind zero bytes all = all
all_behind (suc n) [] all = all
all_behind (suc n) (b ∷ bytes) all = all_behind n bytes (and_parts (is_name_byte b) (list_all is_name_byte bytes) all).1

-- no name ends with a `*`
no_star : (name : List ℕ) (n : ℕ) (star : Bool) → list_all is_name_byte name ≡ true → same_bytes (drop n name) (codes "*") ≡ star → star ≡ false
no_star name n false all e = refl
no_star name n true all e =
    let end : drop n name ≡ codes "*" = same_is (drop n name) (codes "*") e in
    let at : list_all is_name_byte (codes "*") ≡ true = ap (list_all is_name_byte) (sym end) ∙ all_behind n name all in
    absurd (let no : false ≡ true = at in cc)

spelled_start : (start : List ℕ) (n : ℕ) → n ≡ length start → is_pattern (Prefix start) ≡ true
    → cond (same_bytes (drop n (start ++ codes "*")) (codes "*")) (pattern_if (Prefix (take n (start ++ codes "*")))) (pattern_if (Exactly (start ++ codes "*"))) ≡ Some (Prefix start)
spelled_start start n e good =
    rw (drop_at start (codes "*") n (sym e), take_at start (codes "*") n (sym e), good) refl

pub spelled_pattern_is_read : (p : Pattern) → IsTrue (is_pattern p) → read_pattern (pattern_text p) ≡ Some p
spelled_pattern_is_read (Exactly name) good =
    let n : ℕ = length name - 1 in
    let bytes = and_parts (is_between 1 max_name_len (length name)) (list_all is_name_byte name) good in
    let plain : same_bytes (drop n name) (codes "*") ≡ false = no_star name n (same_bytes (drop n name) (codes "*")) bytes.1 refl in
    ap (λ (star : Bool). cond star (pattern_if (Prefix (take n name))) (pattern_if (Exactly name))) plain
    ∙ ap (λ (v : Bool). cond v (Some (Exactly name)) None) good
spelled_pattern_is_read (Prefix start) good =
    spelled_start start (length (start ++ codes "*") - 1) (omega (arith, length-append start (codes "*"))) good
