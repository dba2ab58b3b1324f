-- The order of serials, and the least of a list of them.
use Rattle.std.proofs.Common.{◌≡◌, ℕ, Bool, true, false, true≢false, cond, ◌&&◌, ◌||◌, List, [], ◌∷◌, All, Contains, Some, get_or, refl, sym, ap, subst, ◌∙◌, arith, is_lt, nat_cmp, Less, Equal, Greater, Ordering}
use Rattle.std.specs.Prelude.{nat_lt, ◌==◌}
use Rattle.std.specs.Cmp.{IsStrictWeakOrder, IsTotalOrder, nat_cmp_total, on_total, then_total}
use Rattle.std.specs.List.{best_of, fold}
use Rattle.std.specs.Ordering.{ordering_then}
use Rattle.std.proofs.lemmas.Bool.{both_ways, eq-eqb, false_from_ne_true, ltb-false, or_parts}
use Rattle.std.proofs.lemmas.List.{get_or_default}
use Rattle.std.proofs.lemmas.List.Elements.{All-contains, All-weaker, Contains-get_or}
use Rattle.std.proofs.lemmas.List.MinMax.{IsFirstBest-from_best_of, ranks_by}
use Rattle.fsd_bytes.specs.declared.key.Serial.{Serial}
use Rattle.fsd_runs.specs.Dumps.{earlier_of, earliest, serial_lt}

-- ---- an order

abbrev serial_cmp : Serial → Serial → Ordering
serial_cmp a b = ordering_then (nat_cmp a.epoch b.epoch) (nat_cmp a.count b.count)

serials_total : IsTotalOrder serial_cmp
serials_total = then_total (on_total (λ s. s.epoch) nat_cmp_total) (on_total (λ s. s.count) nat_cmp_total)

lt_by : (less same more than : Bool) → is_lt (ordering_then (cond less Less (cond same Equal Greater)) (cond more Less (cond than Equal Greater))) ≡ (less || (same && more))
lt_by true same more than = refl
lt_by false true true than = refl
lt_by false true false true = refl
lt_by false true false false = refl
lt_by false false more than = refl

-- as pairs of numbers compare
pub lt_as_pairs : (a b : Serial) → is_lt (serial_cmp a b) ≡ serial_lt a b
lt_as_pairs a b = lt_by (nat_lt a.epoch b.epoch) (a.epoch == b.epoch) (nat_lt a.count b.count) (a.count == b.count)

pub serials_order : IsStrictWeakOrder serial_lt
serials_order = record {
  one_way = λ a b is. sym (lt_as_pairs b a) ∙ ranks.one_way a b (lt_as_pairs a b ∙ is);
  chain = λ a b c first second. sym (lt_as_pairs a c) ∙ ranks.chain a b c (lt_as_pairs a b ∙ first) (lt_as_pairs b c ∙ second);
}
  where
    ranks : IsStrictWeakOrder (λ a b. is_lt (serial_cmp a b))
    ranks = ranks_by serials_total (λ s. s)

pub lt_itself : (a : Serial) → serial_lt a a ≡ false
lt_itself a = false_from_ne_true (serial_lt a a) (λ is. both_ways (serial_lt a a) (serials_order.one_way a a is) is)

pub lt_ties : (a b : Serial) → serial_lt a b ≡ false → serial_lt b a ≡ false → a ≡ b
lt_ties a b first second = ap (λ (n : ℕ). made n a.count) epochs ∙ ap (λ (n : ℕ). made b.epoch n) counts
  where
    made : ℕ → ℕ → Serial
    made epoch count = record { epoch = epoch; count = count }

    apart : (x y : Serial) → serial_lt x y ≡ false → (nat_lt x.epoch y.epoch ≡ false) × (((x.epoch == y.epoch) && nat_lt x.count y.count) ≡ false)
    apart x y is = or_parts (nat_lt x.epoch y.epoch) ((x.epoch == y.epoch) && nat_lt x.count y.count) is

    epochs : a.epoch ≡ b.epoch
    epochs = let low = ltb-false a.epoch b.epoch (apart a b first).0 in let high = ltb-false b.epoch a.epoch (apart b a second).0 in omega (arith, low, high)

    of_one : (x y : Serial) → x.epoch ≡ y.epoch → serial_lt x y ≡ false → nat_lt x.count y.count ≡ false
    of_one x y same is = sym (ap (λ (t : Bool). t && nat_lt x.count y.count) (eq-eqb x.epoch y.epoch same)) ∙ (apart x y is).1

    counts : a.count ≡ b.count
    counts = let low = ltb-false a.count b.count (of_one a b epochs first) in let high = ltb-false b.count a.count (of_one b a (sym epochs) second) in omega (arith, low, high)

-- where an earlier one comes in front of all of these, so does a later one that is not in front of it
pub lt_through : (a b c : Serial) → serial_lt a b ≡ true → serial_lt c b ≡ false → serial_lt a c ≡ true
lt_through a b c is not_low = by (serial_lt a c) refl
  where
    by : (t : Bool) → serial_lt a c ≡ t → serial_lt a c ≡ true
    by true before = before
    by false never = absurd (true≢false (sym is ∙ serials_order.chain a c b never not_low))

-- ---- the least one

-- the best one is one of them, and none of them is better
pub best_is : {X : Type 0} (beats : X → X → Bool) → IsStrictWeakOrder beats → (x : X) (xs : List X) → Contains (x ∷ xs) (best_of beats x xs) × All (λ y. beats y (best_of beats x xs) ≡ false) (x ∷ xs)
best_is {X = X} beats order x xs =
    let best = IsFirstBest-from_best_of order x xs in
    let b = best.0 in
    let within = best.1.0 in
    let is = best.2 in (
      subst (λ (y : X). Contains (x ∷ xs) y) is (Contains-get_or (x ∷ xs) b x within),
      λ k d less. subst (λ (y : X). beats (get_or (x ∷ xs) k d) y ≡ false) (get_or_default (x ∷ xs) b d x within ∙ is) (best.1.1 k d less),
    )

abbrev IsFirst : List Serial → Serial → Type 0
IsFirst serials s = All (λ t. serial_lt t s ≡ false) serials

least_is : (s : Serial) (serials : List Serial) → Contains (s ∷ serials) (fold earlier_of s serials) × IsFirst (s ∷ serials) (fold earlier_of s serials)
least_is s serials = best_is serial_lt serials_order s serials

-- one of these that none comes before
pub earliest_is : (serials : List Serial) (s : Serial) → Contains serials s → IsFirst serials s → earliest serials ≡ Some s
earliest_is [] s within first = absurd (omega (arith, within.1))
earliest_is (a ∷ serials) s within first =
    let least = fold earlier_of a serials in
    let is = least_is a serials in
    ap Some (lt_ties least s (All-contains (λ t. serial_lt t s ≡ false) (a ∷ serials) least first is.0) (All-contains (λ t. serial_lt t least ≡ false) (a ∷ serials) s is.1 within))

-- that of a list with the same elements
pub earliest_same : (xs ys : List Serial) → All (Contains ys) xs → All (Contains xs) ys → earliest xs ≡ earliest ys
earliest_same [] [] back on = refl
earliest_same (x ∷ xs) [] back on = absurd (let none = (back 0 x (omega arith)).1 in omega (arith, none))
earliest_same xs (y ∷ ys) back on =
    let least = fold earlier_of y ys in
    let is = least_is y ys in
    earliest_is xs least (All-contains (Contains xs) (y ∷ ys) least on is.0)
    (All-weaker (Contains (y ∷ ys)) (λ t. serial_lt t least ≡ false) (λ t there. All-contains (λ u. serial_lt u least ≡ false) (y ∷ ys) t is.1 there) xs back)
