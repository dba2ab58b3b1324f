-- A number of 64 bits, as std's parse reads it.
use Rattle.std.proofs.Common.{◌≡◌, ◌&&◌, ◌<◌, ◌^◌, ℕ, Bool, true, false, cond, List, [], ◌∷◌, length, Some, None, Ok, Err, refl, sym, ap, ◌∙◌, nat_le, true≢false, arith}
use Rattle.std.specs.Prelude.{ok_or}
use Rattle.std.proofs.lemmas.Bool.Decides.{nat_tests}
use Rattle.std.proofs.lemmas.Str.Parse.{parse_digits}
use Rattle.std.specs.Char.{is_ascii_digit}
use Rattle.std.specs.List.{list_all}
use Rattle.std.specs.Str.{all_ascii_digits}
use Rattle.std.specs.Str.Parse.{ParsesUnsigned, digits_value}
use Rattle.clap.proofs.WalkLemmas.{both as two}
use Rattle.fsd_bytes.specs.Keys.{is_plain}
use Rattle.fsd_bytes.proofs.NumberLaws.{digits_are_numerals, all_digits}
use Rattle.fsd_texts.specs.declared.bad_line.Cause.TheVariants.{BadNumber}
use Rattle.fsd_runs.specs.Words.{max_u64, seed_in}

some_digit : (ds : List ℕ) → is_plain ds ≡ true → 0 < length ds
some_digit [] e = absurd (true≢false (sym e))
some_digit (d ∷ ds) e = omega arith

seed_by : (bs : List ℕ) (c : Bool) → (is_plain bs && list_all is_ascii_digit bs) ≡ true → nat_le (digits_value 10 bs) max_u64 ≡ c
    → seed_in bs ≡ ok_or (cond c (Some (digits_value 10 bs)) None) BadNumber
seed_by bs c e le =
    let d = two (is_plain bs) (list_all is_ascii_digit bs) e in
    go (is_plain bs) (list_all is_ascii_digit bs) (nat_le (digits_value 10 bs) max_u64) d.0 d.1 le
  where
    go : (a b x : Bool) → a ≡ true → b ≡ true → x ≡ c → ok_or (cond (a && b && x) (Some (digits_value 10 bs)) None) BadNumber ≡ ok_or (cond c (Some (digits_value 10 bs)) None) BadNumber
    go true true x p q r = ap (λ (y : Bool). ok_or (cond y (Some (digits_value 10 bs)) None) BadNumber) r
    go true false x p q r = absurd (true≢false (sym q))
    go false b x p q r = absurd (true≢false (sym p))

module _ (bs : List ℕ) (e : (is_plain bs && list_all is_ascii_digit bs) ≡ true) where
  digits : all_ascii_digits bs ≡ true
  digits = all_digits bs ∙ (two (is_plain bs) (list_all is_ascii_digit bs) e).1

  pub seed_read : (s : ℕ) → ParsesUnsigned {E = ℕ} 64 10 bs (Ok s) → Ok s ≡ seed_in bs
  seed_read s h =
      let p = parse_digits digits_are_numerals {E = ℕ} 64 bs (Ok s) h digits in
      let small : digits_value 10 bs < 2 ^ 64 = p.0.1 in
      let le : nat_le (digits_value 10 bs) max_u64 ≡ true = grind (arith, nat_tests) in
      ap (λ (n : ℕ). Ok n) p.1 ∙ sym (seed_by bs true e le)

  pub seed_refused : ParsesUnsigned {E = ℕ} 64 10 bs (Err 0) → Err BadNumber ≡ seed_in bs
  seed_refused h =
      let p = parse_digits digits_are_numerals {E = ℕ} 64 bs (Err 0) h digits in
      let some : 0 < length bs = some_digit bs (two (is_plain bs) (list_all is_ascii_digit bs) e).0 in
      go (nat_le (digits_value 10 bs) max_u64) refl (λ (less : digits_value 10 bs < 2 ^ 64). p (some, less))
    where
      go : (b : Bool) → nat_le (digits_value 10 bs) max_u64 ≡ b → (digits_value 10 bs < 2 ^ 64 → ⊥) → Err BadNumber ≡ seed_in bs
      go true le over = absurd (over (grind (arith, nat_tests)))
      go false le over = sym (seed_by bs false e le)
