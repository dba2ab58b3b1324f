-- The greatest name that begins so.
use Rattle.std.proofs.Common.{◌≡◌, ◌⊎◌, inl, inr, ℕ, zero, suc, ◌<◌, ◌≤◌, true, false, ◌&&◌, ◌||◌, List, [], ◌∷◌, ◌++◌, length, drop, get_or, refl, sym, ap, subst, ◌∙◌, arith, codes}
use Rattle.std.specs.Prelude.{nat_le, ◌==◌}
use Rattle.std.specs.List.{list_all, list_any}
use Rattle.std.specs.declared.cmp.Ordering.{Ordering}
use Rattle.std.specs.declared.cmp.Ordering.TheVariants.{Less, Equal}
use Rattle.std.specs.Ordering.{nat_cmp, ordering_then}
use Rattle.std.specs.Cmp.{nat_cmp_total}
use Rattle.std.specs.Cmp.Lexicographic.{slice_cmp}
use Rattle.std.proofs.lemmas.Cmp.{ranked, by_ranked, tied_itself}
use Rattle.std.proofs.lemmas.Bool.{and_parts, and_from, or_cases, leb-true, eqb-true}
use Rattle.fsd_bytes.specs.Names.{is_name_byte, is_between}
use Rattle.fsd_dumps.specs.Front.{greatest_name, last_byte}

pub cmp_less : (x y : ℕ) → x < y → nat_cmp x y ≡ Less
cmp_less x y lt = by_ranked (x < y) (x ≡ y) (y < x) (nat_cmp x y) (ranked x y (nat_cmp x y) refl) (λ is h. is) (λ is h. absurd (omega (arith, h, lt))) (λ is h. absurd (omega (arith, h, lt)))

within : (low high b : ℕ) → is_between low high b ≡ true → b ≤ high
within low high b h = leb-true b high (and_parts (nat_le low b) (nat_le b high) h).1

marks : (b : ℕ) → list_any (λ (c : ℕ). b == c) (codes ".-_+/") ≡ true → b ≤ last_byte
marks b h =
    elim (or_cases (b == 46) _ h) [
      | inl e ↦ omega (arith, eqb-true b 46 e)
      | inr h ↦ elim (or_cases (b == 45) _ h) [
        | inl e ↦ omega (arith, eqb-true b 45 e)
        | inr h ↦ elim (or_cases (b == 95) _ h) [
          | inl e ↦ omega (arith, eqb-true b 95 e)
          | inr h ↦ elim (or_cases (b == 43) _ h) [
            | inl e ↦ omega (arith, eqb-true b 43 e)
            | inr h ↦ elim (or_cases (b == 47) false h) [
              | inl e ↦ omega (arith, eqb-true b 47 e)
              | inr h ↦ absurd (let bad : false ≡ true = h in cc)
            ]
          ]
        ]
      ]
    ]

-- no byte of a name is greater
pub to_last : (b : ℕ) → is_name_byte b ≡ true → b ≤ last_byte
to_last b h =
    elim (or_cases (is_between 65 90 b || is_between 97 122 b || is_between 48 57 b) (list_any (λ (c : ℕ). b == c) (codes ".-_+/")) h) [
      | inl h ↦ elim (or_cases (is_between 65 90 b || is_between 97 122 b) (is_between 48 57 b) h) [
        | inl h ↦ elim (or_cases (is_between 65 90 b) (is_between 97 122 b) h) [
          | inl h ↦ omega (arith, within 65 90 b h)
          | inr h ↦ omega (arith, within 97 122 b h)
        ]
        | inr h ↦ omega (arith, within 48 57 b h)
      ]
      | inr h ↦ marks b h
    ]

-- the name itself, or a greater one of which the bytes lack some
abbrev pub IsUpTo : List ℕ → List ℕ → List ℕ → Type 0
IsUpTo name greatest rest = (name ≡ greatest) ⊎ ((slice_cmp nat_cmp name greatest ≡ Less) × (rest ≡ []))

pub record IsGreatest (name bytes text : List ℕ) : Type 0 where
  pub all : list_all is_name_byte (greatest_name (length name) bytes) ≡ true
  pub long : length (greatest_name (length name) bytes) ≡ length name
  pub order : IsUpTo name (greatest_name (length name) bytes) (drop (length name) bytes)
  pub rest : (more : List ℕ) × (drop (length name) bytes ++ more ≡ text)

pub byte_order : (b : ℕ) (name greatest : List ℕ) → b ≤ last_byte → IsUpTo name greatest [] → IsUpTo (b ∷ name) (last_byte ∷ greatest) []
byte_order b name greatest le order =
    by_ranked (b < last_byte) (b ≡ last_byte) (last_byte < b) (nat_cmp b last_byte) (ranked b last_byte (nat_cmp b last_byte) refl)
    (λ is h. inr (ap (λ (o : Ordering). ordering_then o (slice_cmp nat_cmp name greatest)) is, refl))
    (λ is h. elim order [
      | inl same ↦ inl (λ i. h i ∷ same i)
      | inr less ↦ inr (ap (λ (o : Ordering). ordering_then o (slice_cmp nat_cmp name greatest)) is ∙ less.0, refl)
    ])
    (λ is h. absurd (omega (arith, h, le)))

same_order : (b c : ℕ) (name greatest rest : List ℕ) → b ≡ c → IsUpTo name greatest rest → IsUpTo (b ∷ name) (c ∷ greatest) rest
same_order b c name greatest rest e order =
    let tied : nat_cmp b c ≡ Equal = ap (nat_cmp b) (sym e) ∙ tied_itself nat_cmp_total b in
    elim order [
      | inl same ↦ inl (λ i. e i ∷ same i)
      | inr less ↦ inr (ap (λ (o : Ordering). ordering_then o (slice_cmp nat_cmp name greatest)) tied ∙ less.0, less.1)
    ]

nothing : (n : ℕ) → drop {A = ℕ} n [] ≡ []
nothing zero = refl
nothing (suc n) = refl

-- of the front of a name and a text behind it
pub greatest : (name bytes more text : List ℕ) → list_all is_name_byte name ≡ true → bytes ++ more ≡ name ++ text → IsGreatest name bytes text
greatest [] bytes more text all e = record { all = refl; long = refl; order = inl refl; rest = (more, e) }
greatest (b ∷ name) [] more text all e =
    let parts = and_parts (is_name_byte b) (list_all is_name_byte name) all in
    let tail = greatest name [] (name ++ text) text parts.1 refl in
    let none : drop {A = ℕ} (length name) [] ≡ [] = nothing (length name) in
    record {
      all = tail.all;
      long = ap (λ (n : ℕ). suc n) tail.long;
      order = byte_order b name (greatest_name (length name) []) (to_last b parts.0) (subst (λ (xs : List ℕ). IsUpTo name (greatest_name (length name) []) xs) none tail.order);
      rest = (text, refl);
    }
greatest (b ∷ name) (c ∷ bytes) more text all e =
    let parts = and_parts (is_name_byte b) (list_all is_name_byte name) all in
    let tail = greatest name bytes more text parts.1 (ap (drop 1) e) in
    let same : c ≡ b = ap (λ (xs : List ℕ). get_or xs 0 0) e in
    record {
      all = ap (λ (x : ℕ). is_name_byte x && list_all is_name_byte (greatest_name (length name) bytes)) same ∙ and_from (is_name_byte b) _ parts.0 tail.all;
      long = ap (λ (n : ℕ). suc n) tail.long;
      order = same_order b c name (greatest_name (length name) bytes) (drop (length name) bytes) (sym same) tail.order;
      rest = tail.rest;
    }
