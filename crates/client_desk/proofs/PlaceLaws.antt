-- How many places the clients of a desk read by, and what the volume lists for them.
use Rattle.std.proofs.Common.{◌≡◌, ◌⊎◌, ℕ, suc, zero, ◌<◌, ◌≤◌, ◌≢◌, Bool, true, false, ◌||◌, not, cond, List, [], ◌∷◌, length, refl, sym, ap, subst, ◌∙◌, inl, inr, arith, Option, Some, None}
use Rattle.std.specs.Prelude.{IsTrue, ◌==◌, filter, is_none, slice_index_or}
use Rattle.std.specs.List.{list_any}
use Rattle.std.proofs.lemmas.Bool.{or_right}
use Rattle.std.proofs.lemmas.Bool.Decides.{eqb_tells}
use Rattle.run_table.specs.Space.{contains}
use Rattle.run_table.proofs.SectorLaws.{first_there}
use Rattle.volume_contract.specs.State.{State}
use Rattle.client_desk.specs.declared.client.Client.{Client}
use Rattle.client_desk.specs.declared.client.Client.TheVariants.{Idle, Writing, Reading}
use Rattle.client_desk.specs.Clients.{IsDesk, ReadsAt, client_at}

-- ---- a list that has all numbers below one is as long

abbrev without : ℕ → List ℕ → List ℕ
without n xs = filter (λ m. not (m == n)) xs

without_less : (n : ℕ) (xs : List ℕ) → length (without n xs) ≤ length xs
without_less n [] = omega arith
without_less n (x ∷ xs) = by (x == n) (without_less n xs)
  where
    by : (b : Bool) → length (without n xs) ≤ length xs → length (cond (not b) (x ∷ without n xs) (without n xs)) ≤ suc (length xs)
    by true less = omega (arith, less)
    by false less = omega (arith, less)

without_one : (n : ℕ) (xs : List ℕ) → contains xs n ≡ true → suc (length (without n xs)) ≤ length xs
without_one n [] there = absurd (cc there)
without_one n (x ∷ xs) there = by (x == n) (without_one n xs) there
  where
    by : (b : Bool) → (contains xs n ≡ true → suc (length (without n xs)) ≤ length xs) → (b || contains xs n) ≡ true → suc (length (cond (not b) (x ∷ without n xs) (without n xs))) ≤ suc (length xs)
    by true more there = let less = without_less n xs in omega (arith, less)
    by false more there = let less = more there in omega (arith, less)

without_others : (n p : ℕ) (xs : List ℕ) → (p ≡ n → ⊥) → contains xs p ≡ true → contains (without n xs) p ≡ true
without_others n p [] other there = absurd (cc there)
without_others n p (x ∷ xs) other there = by (x == n) (eqb_tells x n) (x == p) (eqb_tells x p) (without_others n p xs other) there
  where
    by : (b : Bool) → ((b ≡ true) × (x ≡ n)) ⊎ ((b ≡ false) × (x ≢ n)) → (c : Bool) → ((c ≡ true) × (x ≡ p)) ⊎ ((c ≡ false) × (x ≢ p))
        → (contains xs p ≡ true → contains (without n xs) p ≡ true) → (c || contains xs p) ≡ true → contains (cond (not b) (x ∷ without n xs) (without n xs)) p ≡ true
    by true (inl at) true (inl here) more there = absurd (other (sym here.1 ∙ at.1))
    by true at false here more there = more there
    by false at true (inl here) more there = subst (λ (q : ℕ). contains (x ∷ without n xs) q ≡ true) here.1 (first_there x (without n xs))
    by false at false here more there = or_right (x == p) (contains (without n xs) p) (more there)
    by true (inr at) c here more there = absurd (cc at.0)
    by b at true (inr here) more there = absurd (cc here.0)

pub all_below : (n : ℕ) (xs : List ℕ) → ((p : ℕ) → p < n → contains xs p ≡ true) → n ≤ length xs
all_below zero xs has = omega arith
all_below (suc n) xs has =
    let one = without_one n xs (has n (omega arith)) in
    let rest = all_below n (without n xs) (λ p less. without_others n p xs (λ same. absurd (omega (arith, less, same))) (has p (omega (arith, less)))) in
    omega (arith, one, rest)

-- ---- the places of readers

abbrev places_read : List Client → List ℕ
places_read [] = []
places_read (Idle ∷ clients) = places_read clients
places_read (Writing w ∷ clients) = places_read clients
places_read (Reading r ∷ clients) = r.held.place ∷ places_read clients

few_places : (clients : List Client) → length (places_read clients) ≤ length clients
few_places [] = omega arith
few_places (Idle ∷ clients) = let less = few_places clients in omega (arith, less)
few_places (Writing w ∷ clients) = let less = few_places clients in omega (arith, less)
few_places (Reading r ∷ clients) = let less = few_places clients in omega (arith, less)

fewer_places : (clients : List Client) (i : ℕ) → i < length clients → client_at clients i ≡ Idle → suc (length (places_read clients)) ≤ length clients
fewer_places [] i inside idle = absurd (omega (arith, inside))
fewer_places (Idle ∷ clients) zero inside idle = let less = few_places clients in omega (arith, less)
fewer_places (Writing w ∷ clients) zero inside idle = absurd (cc idle)
fewer_places (Reading r ∷ clients) zero inside idle = absurd (cc idle)
fewer_places (Idle ∷ clients) (suc i) inside idle = let less = fewer_places clients i (omega (arith, inside)) idle in omega (arith, less)
fewer_places (Writing w ∷ clients) (suc i) inside idle = let less = fewer_places clients i (omega (arith, inside)) idle in omega (arith, less)
fewer_places (Reading r ∷ clients) (suc i) inside idle = let less = fewer_places clients i (omega (arith, inside)) idle in omega (arith, less)

place_there : (clients : List Client) (j place : ℕ) → ReadsAt (client_at clients j) place → contains (places_read clients) place ≡ true
place_there [] j place own = absurd own
place_there (Idle ∷ clients) zero place own = absurd own
place_there (Writing w ∷ clients) zero place own = absurd own
place_there (Reading r ∷ clients) zero place own = elim (eqb_tells r.held.place place) [
  | inl same ↦ ap (λ (b : Bool). b || contains (places_read clients) place) same.0
  | inr other ↦ absurd (other.1 own)
]
place_there (Idle ∷ clients) (suc j) place own = place_there clients j place own
place_there (Writing w ∷ clients) (suc j) place own = place_there clients j place own
place_there (Reading r ∷ clients) (suc j) place own = behind (r.held.place == place) (place_there clients j place own)
  where
    behind : (b : Bool) → contains (places_read clients) place ≡ true → (b || contains (places_read clients) place) ≡ true
    behind true there = refl
    behind false there = there

-- ---- fewer than eight are held

all_used : {X : Type 0} (places : List (Option X)) → list_any is_none places ≡ false → (p : ℕ) → p < length places → (x : X) × (slice_index_or places p None ≡ Some x)
all_used [] none p inside = absurd (omega (arith, inside))
all_used (None ∷ places) none p inside = absurd (cc none)
all_used (Some x ∷ places) none zero inside = (x, refl)
all_used (Some x ∷ places) none (suc p) inside = all_used places none p (omega (arith, inside))

-- one of a desk's clients has nothing open, so a place is empty
pub place_free : (s : State) (clients : List Client) (i : ℕ) → IsDesk s clients → length clients ≡ 8 → i < 8 → client_at clients i ≡ Idle → IsTrue (list_any is_none s.readers)
place_free s clients i desk size inside idle = by (list_any is_none s.readers) refl
  where
    by : (b : Bool) → list_any is_none s.readers ≡ b → list_any is_none s.readers ≡ true
    by true e = e
    by false e =
        let few = fewer_places clients i (omega (arith, inside, size)) idle in
        let many = all_below 8 (places_read clients) (λ p less.
        let used = all_used s.readers e p (omega (arith, less, desk.places)) in
        let of = desk.held p used.0 used.1 in
        place_there clients of.0 p of.1) in
        absurd (omega (arith, few, many, size))
