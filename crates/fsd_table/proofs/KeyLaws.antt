-- The order of keys.
use Rattle.std.proofs.Common.{◌≡◌, ◌⊎◌, inl, inr, Bool, true, false, not, Option, Some, None, refl, sym, ap, ◌∙◌}
use Rattle.std.specs.Cmp.{IsTotalOrder, nat_cmp_total, on_total, then_total}
use Rattle.std.specs.Cmp.Lexicographic.{nat_list_cmp_total}
use Rattle.std.specs.Ordering.{is_lt, ordering_reverse}
use Rattle.std.specs.declared.cmp.Ordering.{Ordering}
use Rattle.std.specs.declared.cmp.Ordering.TheVariants.{Less, Equal, Greater}
use Rattle.std.proofs.lemmas.Cmp.{alike_right, tied_itself}
use Rattle.std.proofs.lemmas.Bool.{false_from_ne_true}
use Rattle.fsd_bytes.specs.declared.key.Key.{Key}
use Rattle.fsd_bytes.specs.Keys.{key_cmp, key_lt}
use Rattle.fsd_table.specs.Pages.{not_below, below}

pub keys_total : IsTotalOrder key_cmp
keys_total = then_total (on_total (λ k. k.name) nat_list_cmp_total) (on_total (λ k. k.version) nat_cmp_total)

pub less : (o : Ordering) → is_lt o ≡ true → o ≡ Less
less Less e = refl
less Equal e = absurd cc
less Greater e = absurd cc

-- the one key is not below the other
upto_by : (a b : Key) (o : Ordering) → key_cmp b a ≡ o → not (is_lt o) ≡ true → (key_cmp a b ≡ Less) ⊎ (key_cmp a b ≡ Equal)
upto_by a b Less is e = absurd cc
upto_by a b Equal is e = inr (keys_total.antisymm a b ∙ ap ordering_reverse is)
upto_by a b Greater is e = inl (keys_total.antisymm a b ∙ ap ordering_reverse is)

pub upto_cases : (a b : Key) → not (key_lt b a) ≡ true → (key_cmp a b ≡ Less) ⊎ (key_cmp a b ≡ Equal)
upto_cases a b e = upto_by a b (key_cmp b a) refl e

pub lt_lt : (a b c : Key) → key_lt a b ≡ true → key_lt b c ≡ true → key_lt a c ≡ true
lt_lt a b c ab bc = ap is_lt (keys_total.trans a b c (less _ ab) (less _ bc))

pub le_lt : (a b c : Key) → not (key_lt b a) ≡ true → key_lt b c ≡ true → key_lt a c ≡ true
le_lt a b c ab bc = elim (upto_cases a b ab) [
  | inl lt ↦ lt_lt a b c (ap is_lt lt) bc
  | inr eq ↦ ap is_lt (keys_total.congr a b c eq) ∙ bc
]

pub lt_le : (a b c : Key) → key_lt a b ≡ true → not (key_lt c b) ≡ true → key_lt a c ≡ true
lt_le a b c ab bc = elim (upto_cases b c bc) [
  | inl lt ↦ lt_lt a b c ab (ap is_lt lt)
  | inr eq ↦ ap is_lt (sym (alike_right keys_total b c a eq)) ∙ ab
]

pub lt_itself : (a : Key) → key_lt a a ≡ false
lt_itself a = ap is_lt (tied_itself keys_total a)

pub lt_not_back : (a b : Key) → key_lt a b ≡ true → key_lt b a ≡ false
lt_not_back a b lt = false_from_ne_true (key_lt b a) (λ back. let bad : true ≡ false = sym (lt_lt a b a lt back) ∙ lt_itself a in cc)

pub le_itself : (a : Key) → not (key_lt a a) ≡ true
le_itself a = ap not (lt_itself a)

pub le_le : (a b c : Key) → not (key_lt b a) ≡ true → not (key_lt c b) ≡ true → not (key_lt c a) ≡ true
le_le a b c ab bc = by (key_lt c a) refl
  where
    by : (v : Bool) → key_lt c a ≡ v → not v ≡ true
    by false e = refl
    by true e = absurd (let cb = lt_le c a b e ab in let no = lt_le c b c cb bc in let same = lt_itself c in cc)

pub lt_is_le : (a b : Key) → key_lt a b ≡ true → not (key_lt b a) ≡ true
lt_is_le a b ab = by (key_lt b a) refl
  where
    by : (v : Bool) → key_lt b a ≡ v → not v ≡ true
    by false e = refl
    by true e = absurd (let no = lt_lt a b a ab e in let same = lt_itself a in cc)

-- ---- bounds

pub not_below_more : (low : Option Key) (k key : Key) → not_below low k ≡ true → not (key_lt key k) ≡ true → not_below low key ≡ true
not_below_more None k key lk kk = refl
not_below_more (Some low) k key lk kk = le_le low k key lk kk

pub below_less : (high : Option Key) (k key : Key) → below high k ≡ true → key_lt key k ≡ true → below high key ≡ true
below_less None k key hk kk = refl
below_less (Some high) k key hk kk = lt_lt key k high kk hk
