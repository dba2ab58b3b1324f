-- An image with damaged sectors behind it reads as it did: what is past the end of an image counts as damaged.
use Rattle.std.proofs.Common.{◌≡◌, inl, inr, ℕ, ◌-◌, max, Bool, List, length, replicate, refl, sym, ◌∙◌, ap, arith}
use Rattle.std.proofs.lemmas.Bool.{cases_lt}
use Rattle.std.proofs.lemmas.List.{length-append, length-replicate, get_or_append_left, get_or-append_right, get_or-replicate, get_or_past}
use Rattle.sector_disk.specs.declared.sector.Sector.{Sector}
use Rattle.sector_disk.specs.declared.sector.Sector.TheVariants.{Damaged}
use Rattle.sector_disk.specs.Image.{sector_at, extended, IsWorn}

pub length-extended : (count : ℕ) (image : List Sector) → length (extended count image) ≡ max (length image) count
length-extended count image = omega (arith, length-append image (replicate (count - length image) Damaged), length-replicate (count - length image) Damaged)

behind : (n k : ℕ) → sector_at (replicate n Damaged) k ≡ Damaged
behind n k = elim (cases_lt k n) [
  | inl within ↦ get_or-replicate n k Damaged Damaged within
  | inr past ↦ get_or_past (replicate n Damaged) k Damaged (omega (arith, past, length-replicate n Damaged))
]

pub extended_at : (count : ℕ) (image : List Sector) (place : ℕ) → sector_at (extended count image) place ≡ sector_at image place
extended_at count image place = elim (cases_lt place (length image)) [
  | inl within ↦ get_or_append_left image (replicate (count - length image) Damaged) Damaged place within
  | inr past ↦
      get_or-append_right image (replicate (count - length image) Damaged) (length image) place Damaged refl past
      ∙ behind (count - length image) (place - length image)
      ∙ sym (get_or_past image place Damaged past)
]

-- so it is worn as the image is
pub extended_worn : (may : ℕ → Bool) (count : ℕ) (a b : List Sector) → IsWorn may a b → IsWorn may (extended count a) (extended count b)
extended_worn may count a b worn = record {
  size = length-extended count b ∙ ap (λ (n : ℕ). max n count) worn.size ∙ sym (length-extended count a);
  each = λ place. elim (worn.each place) [
    | inl stays ↦ inl (extended_at count b place ∙ stays ∙ sym (extended_at count a place))
    | inr hurt ↦ inr (hurt.0, extended_at count b place ∙ hurt.1)
  ];
}
