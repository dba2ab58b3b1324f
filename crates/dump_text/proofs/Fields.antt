-- Fields and names at the front of bytes.
use Rattle.std.proofs.Common.{◌≡◌, ◌⊎◌, inl, inr, ℕ, zero, suc, ◌+◌, ◌-◌, ◌<◌, ◌≤◌, true, false, List, [], ◌∷◌, ◌++◌, length, take, drop, replicate, get_or, Option, Some, None, Ok, Err, refl, sym, ap, ◌∙◌, arith}
use Rattle.std.specs.Prelude.{◌==◌, is_none, nat_le}
use Rattle.std.specs.List.{list_all}
use Rattle.fsd_dumps.proofs.Fronts.{name_long}
use Rattle.std.proofs.lemmas.Bool.{eq-eqb, ne_eqb, and_left, and_right, lt-leb, cond-true, cond-false}
use Rattle.std.proofs.lemmas.List.{drop_more, drop_all}
use Rattle.fsd_bytes.specs.declared.fault.NameFault.{NameFault}
use Rattle.fsd_bytes.specs.declared.key.Key.{Key}
use Rattle.fsd_bytes.specs.Names.{is_name, is_name_byte, is_between, max_name_len, name_of, name_fault, named_unless}
use Rattle.fsd_bytes.specs.Keys.{read_name}
use Rattle.fsd_bytes.proofs.NameLaws.{a_name, no_name, name_or_fault}
use Rattle.fsd_dumps.specs.Front.{common, greatest_name, last_byte, may_begin, most_begun}

-- ---- what two lists have in common

apart : (x y : ℕ) (xs ys : List ℕ) → (x ≡ y → ⊥) → common (x ∷ xs) (y ∷ ys) ≡ 0
apart x y xs ys no_same = cond-false (x == y) (suc (common xs ys)) 0 (ne_eqb x y no_same)

alike : (x y : ℕ) (xs ys : List ℕ) → x ≡ y → common (x ∷ xs) (y ∷ ys) ≡ suc (common xs ys)
alike x y xs ys same = cond-true (x == y) (suc (common xs ys)) 0 (eq-eqb x y same)

pub common_more : (xs ys : List ℕ) (i n : ℕ) → i < length xs → i < length ys → get_or xs i 0 ≡ get_or ys i 0 → i + common (drop i xs) (drop i ys) ≡ n
    → i + 1 + common (drop (i + 1) xs) (drop (i + 1) ys) ≡ n
common_more xs ys i n lx ly same e =
    let both : common (drop i xs) (drop i ys) ≡ common (get_or xs i 0 ∷ drop (i + 1) xs) (get_or ys i 0 ∷ drop (i + 1) ys) = λ k. common (drop_more xs i 0 lx k) (drop_more ys i 0 ly k) in
    omega (arith, e, both, alike (get_or xs i 0) (get_or ys i 0) (drop (i + 1) xs) (drop (i + 1) ys) same)

pub common_apart : (xs ys : List ℕ) (i n : ℕ) → i < length xs → i < length ys → (get_or xs i 0 ≡ get_or ys i 0 → ⊥) → i + common (drop i xs) (drop i ys) ≡ n → i ≡ n
common_apart xs ys i n lx ly no_same e =
    let both : common (drop i xs) (drop i ys) ≡ common (get_or xs i 0 ∷ drop (i + 1) xs) (get_or ys i 0 ∷ drop (i + 1) ys) = λ k. common (drop_more xs i 0 lx k) (drop_more ys i 0 ly k) in
    omega (arith, e, both, apart (get_or xs i 0) (get_or ys i 0) (drop (i + 1) xs) (drop (i + 1) ys) no_same)

none_left : (xs : List ℕ) → common xs [] ≡ 0
none_left [] = refl
none_left (x ∷ xs) = refl

pub common_end : (xs ys : List ℕ) (i n : ℕ) → (length xs ≤ i) ⊎ (length ys ≤ i) → i + common (drop i xs) (drop i ys) ≡ n → i ≡ n
common_end xs ys i n (inl past) e = omega (arith, e, ap (λ (zs : List ℕ). common zs (drop i ys)) (drop_all i xs past))
common_end xs ys i n (inr past) e = omega (arith, e, ap (common (drop i xs)) (drop_all i ys past), none_left (drop i xs))

-- ---- names

pub read_if : (bytes name : List ℕ) → name_of bytes ≡ Ok name → Some name ≡ read_name bytes
read_if bytes name e = let is = a_name bytes name e in ap (λ (xs : List ℕ). Some xs) is.1 ∙ sym (cond-true (is_name bytes) (Some bytes) None is.0)

pub unread_if : (bytes : List ℕ) (fault : NameFault) → name_of bytes ≡ Err fault → None ≡ read_name bytes
unread_if bytes fault e = sym (cond-false (is_name bytes) (Some bytes) None (no_name bytes fault e))

pub name_again : (bytes : List ℕ) → is_name bytes ≡ true → name_of bytes ≡ Ok bytes
name_again bytes h = by (name_fault bytes) (sym (name_or_fault bytes) ∙ h)
  where
    by : (o : Option NameFault) → is_none o ≡ true → named_unless o bytes ≡ Ok bytes
    by None h = refl
    by (Some fault) h = absurd cc

filled_with : (n m : ℕ) → n ≤ m → take n (replicate m last_byte) ≡ greatest_name n []
filled_with zero m le = refl
filled_with (suc n) zero le = absurd (omega (arith, le))
filled_with (suc n) (suc m) le = ap (λ (xs : List ℕ). last_byte ∷ xs) (filled_with n m (omega (arith, le)))

pub filled : (n g m : ℕ) (bytes : List ℕ) → g ≤ n → g ≤ length bytes → (g ≡ n) ⊎ (g ≡ length bytes) → n ≤ m
    → take n (take g bytes ++ drop g (replicate m last_byte)) ≡ greatest_name n bytes
filled zero g m bytes gn gb all nm = refl
filled (suc n) zero m [] gn gb all nm = filled_with (suc n) m nm
filled (suc n) zero m (b ∷ bytes) gn gb (inl e) nm = absurd (omega (arith, e))
filled (suc n) zero m (b ∷ bytes) gn gb (inr e) nm = absurd (omega (arith, e))
filled (suc n) (suc g) m [] gn gb all nm = absurd (omega (arith, gb))
filled (suc n) (suc g) zero (b ∷ bytes) gn gb all nm = absurd (omega (arith, nm))
filled (suc n) (suc g) (suc m) (b ∷ bytes) gn gb (inl e) nm = ap (λ (xs : List ℕ). b ∷ xs) (filled n g m bytes (omega (arith, gn)) (omega (arith, gb)) (inl (omega (arith, e))) (omega (arith, nm)))
filled (suc n) (suc g) (suc m) (b ∷ bytes) gn gb (inr e) nm = ap (λ (xs : List ℕ). b ∷ xs) (filled n g m bytes (omega (arith, gn)) (omega (arith, gb)) (inr (omega (arith, e))) (omega (arith, nm)))

-- the test of the length comes first
pub too_long : (n : ℕ) (bytes : List ℕ) → 40 < n → None ≡ read_name (greatest_name n bytes)
too_long n bytes lt =
    let size : length (greatest_name n bytes) ≡ n = name_long n bytes in
    let named : is_name (greatest_name n bytes) ≡ false =
    and_left (is_between 1 max_name_len (length (greatest_name n bytes))) (list_all is_name_byte (greatest_name n bytes))
    (and_right (nat_le 1 (length (greatest_name n bytes))) (nat_le (length (greatest_name n bytes)) max_name_len) (lt-leb (length (greatest_name n bytes)) max_name_len (omega (arith, size, lt)))) in
    sym (cond-false (is_name (greatest_name n bytes)) (Some (greatest_name n bytes)) None named)

-- ---- how many first bytes may begin a version

pub begun_here : (last : Option Key) (behind : ℕ) (bytes : List ℕ) (n : ℕ) → may_begin last behind (take n bytes) ≡ true → n ≡ most_begun last behind bytes n
begun_here last behind bytes zero may = refl
begun_here last behind bytes (suc n) may = sym (cond-true (may_begin last behind (take (suc n) bytes)) (suc n) (most_begun last behind bytes n) may)

pub begun_less : (last : Option Key) (behind : ℕ) (bytes : List ℕ) (n : ℕ) → 0 < n → may_begin last behind (take n bytes) ≡ false → most_begun last behind bytes (n - 1) ≡ most_begun last behind bytes n
begun_less last behind bytes zero lt may = absurd (omega (arith, lt))
begun_less last behind bytes (suc n) lt may =
    let e : suc n - 1 ≡ n = omega arith in
    ap (most_begun last behind bytes) e ∙ sym (cond-false (may_begin last behind (take (suc n) bytes)) (suc n) (most_begun last behind bytes n) may)
