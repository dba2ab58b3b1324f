-- The span of a dump that has so many bytes at most: its dump has no more.
use Rattle.std.proofs.Common.{◌≡◌, ℕ, ◌≤◌, Bool, true, false, cond, ◌&&◌, not, List, [], ◌∷◌, map, filter, Option, Some, None, Result, Ok, Err, refl, sym, subst, ap, ◌∙◌, arith, All, Contains, sum_by}
use Rattle.std.specs.Prelude.{nat_lt, if◌then◌else◌}
use Rattle.std.specs.Cmp.{IsStrictWeakOrder}
use Rattle.std.specs.List.{AllByRecursion, best_of}
use Rattle.std.proofs.lemmas.Bool.{both_ways, false_from_ne_true, ltb-false}
use Rattle.std.proofs.lemmas.List.{get_or-map, length-map}
use Rattle.std.proofs.lemmas.List.Elements.{All-contains, All-contains_itself, All-from_recursion, All-filter, filter_passes, recursion_from_All}
use Rattle.std.proofs.lemmas.List.Sums.{sum_by-cons}
use Rattle.fsd_bytes.specs.declared.key.Serial.{Serial}
use Rattle.fsd_formats.specs.declared.entry.Entry.{Entry}
use Rattle.fsd_runs.specs.declared.span.Span.{Span}
use Rattle.fsd_runs.specs.declared.span.Weight.{Weight}
use Rattle.fsd_runs.specs.Dumps.{chosen, dump_length, all_since, earliest, first_over, is_before, least_length, length_of, length_up_to, serial_lt, serials_of, span_of, weight_of, weights_since}
use Rattle.fsd_runs.proofs.SerialLaws.{best_is, serials_order}

-- ---- filters

-- what is so of those that pass
unfiltered : {X : Type 0} (p : X → Bool) (P : X → Type 0) (xs : List X) → AllByRecursion P (filter p xs) → AllByRecursion (λ x. p x ≡ true → P x) xs
unfiltered p P [] all = tt
unfiltered {X = X} p P (x ∷ xs) all = by (p x) refl all (unfiltered p P xs)
  where
    by : (b : Bool) → p x ≡ b → AllByRecursion P (cond b (x ∷ filter p xs) (filter p xs)) → (AllByRecursion P (filter p xs) → AllByRecursion (λ y. p y ≡ true → P y) xs) → (p x ≡ true → P x) × AllByRecursion (λ y. p y ≡ true → P y) xs
    by true is all more = (λ passes. all.0, more all.1)
    by false is all more = (λ passes. absurd (both_ways (p x) is passes), more all)

-- one of them that passes is kept
pub kept : {X : Type 0} (p : X → Bool) (xs : List X) (x : X) → Contains xs x → p x ≡ true → Contains (filter p xs) x
kept p xs x there =
    let P = Contains (filter p xs) in
    All-contains (λ y. p y ≡ true → P y) xs x (All-from_recursion (λ y. p y ≡ true → P y) xs (unfiltered p P xs (recursion_from_All P (filter p xs) (All-contains_itself (filter p xs))))) there

-- one that is kept is one of them, and passes
pub passed : {X : Type 0} (p : X → Bool) (xs : List X) (x : X) → Contains (filter p xs) x → Contains xs x × (p x ≡ true)
passed p xs x is = (All-contains (Contains xs) (filter p xs) x (All-filter p (Contains xs) xs (All-contains_itself xs)) is, All-contains (λ y. p y ≡ true) (filter p xs) x (filter_passes p xs) is)

-- the fewer pass, the less is their sum
sum_fewer : {X : Type 0} (f : X → ℕ) (p q : X → Bool) (xs : List X) → AllByRecursion (λ x. p x ≡ true → q x ≡ true) xs → sum_by f (filter p xs) ≤ sum_by f (filter q xs)
sum_fewer f p q [] fewer = omega arith
sum_fewer f p q (x ∷ xs) fewer = by (p x) (q x) refl refl (sum_fewer f p q xs fewer.1)
  where
    by : (a b : Bool) → p x ≡ a → q x ≡ b → sum_by f (filter p xs) ≤ sum_by f (filter q xs) → sum_by f (cond a (x ∷ filter p xs) (filter p xs)) ≤ sum_by f (cond b (x ∷ filter q xs) (filter q xs))
    by false false first second less = less
    by false true first second less = let other = sum_by-cons f x (filter q xs) in omega (arith, less, other)
    by true false first second less = absurd (both_ways (q x) second (fewer.0 first))
    by true true first second less =
        let one = sum_by-cons f x (filter p xs) in
        let other = sum_by-cons f x (filter q xs) in
        omega (arith, less, one, other)

pub serial_there : (weights : List Weight) (w : Weight) → Contains weights w → Contains (serials_of weights) w.serial
serial_there weights w there = (there.0, omega (arith, there.1, length-map weights (λ x. x.serial)), get_or-map (λ (x : Weight). x.serial) weights there.0 w w.serial there.1 ∙ ap (λ (x : Weight). x.serial) there.2)

-- ---- what is in front of the first one over

-- no serial in front of the least of these is one of them
none_before : (serials : List Serial) (s : Serial) → Contains serials s → is_before (earliest serials) s ≡ false
none_before [] s there = absurd (omega (arith, there.1))
none_before (a ∷ serials) s there = All-contains (λ t. serial_lt t (best_of serial_lt a serials) ≡ false) (a ∷ serials) s (best_is serial_lt serials_order a serials).1 there

module _ (most : ℕ) (weights : List Weight) where
  abbrev is_over : Serial → Bool
  is_over s = nat_lt most (length_up_to weights (Some s))

  abbrev is_front : Weight → Bool
  is_front w = is_before (first_over most weights) w.serial

  -- the dump up to one of them is not over
  up_to : (w : Weight) → Contains (filter is_front weights) w → length_up_to weights (Some w.serial) ≤ most
  up_to w is =
      let there = passed is_front weights w is in
      let serial = serial_there weights w there.0 in
      ltb-false most (length_up_to weights (Some w.serial))
      (false_from_ne_true (is_over w.serial) (λ over. both_ways (is_front w) (none_before (filter is_over (serials_of weights)) w.serial (kept is_over (serials_of weights) w.serial serial over)) there.1))

  -- by the serials, the later one first
  abbrev is_later : Weight → Weight → Bool
  is_later x y = serial_lt y.serial x.serial

  by_serial : IsStrictWeakOrder is_later
  by_serial = record {
    one_way = λ x y is. serials_order.one_way y.serial x.serial is;
    chain = λ x y z first second. serials_order.chain z.serial y.serial x.serial second first;
  }

  front_fits : (front : List Weight) → filter is_front weights ≡ front → 24 ≤ most → length_of (filter is_front weights) ≤ most
  front_fits [] is least = subst (λ (ws : List Weight). length_of ws ≤ most) (sym is) least
  front_fits (w ∷ front) is least =
      let best = best_is is_later by_serial w front in
      let last = best_of is_later w front in
      let own = subst (λ (ws : List Weight). Contains ws last) (sym is) best.0 in
      let all = subst (λ (ws : List Weight). All (λ x. is_later x last ≡ false) ws) (sym is) best.1 in
      let each = unfiltered is_front (λ x. is_later x last ≡ false) weights (recursion_from_All (λ x. is_later x last ≡ false) (filter is_front weights) all) in
      let fewer = sum_fewer (λ x. x.bytes) is_front (λ x. not (serial_lt last.serial x.serial)) weights (up weights last each) in
      let under = up_to last own in
      omega (arith, fewer, under)
    where
      up : (ws : List Weight) (last : Weight) → AllByRecursion (λ x. is_front x ≡ true → is_later x last ≡ false) ws → AllByRecursion (λ x. is_front x ≡ true → not (serial_lt last.serial x.serial) ≡ true) ws
      up [] last all = tt
      up (x ∷ ws) last all = (λ passes. ap not (all.0 passes), up ws last all.1)

-- ---- of versions

least_at : (weights : List Weight) (last : Option Serial) → 24 ≤ length_up_to weights last
least_at weights None = omega arith
least_at weights (Some last) = omega arith

module _ (since : Serial) (before : Option Serial) where
  abbrev is_in_front : Weight → Bool
  is_in_front w = is_before before w.serial

  abbrev of_span : List Entry → List Entry
  of_span entries = chosen (record { since = since; before = before }) entries

  -- the versions of a span are those behind its start that are in front of its end
  chosen_front : (entries : List Entry) → map weight_of (of_span entries) ≡ filter is_in_front (weights_since since entries)
  chosen_front [] = refl
  chosen_front (e ∷ entries) = by (serial_lt since e.serial) (is_before before e.serial) refl (chosen_front entries)
    where
      all : List Entry
      all = chosen (all_since since) entries

      more : (b : Bool) → is_before before e.serial ≡ b → cond b (weight_of e ∷ filter is_in_front (map weight_of all)) (filter is_in_front (map weight_of all)) ≡ filter is_in_front (map weight_of (e ∷ all))
      more b is = ap (λ (t : Bool). cond t (weight_of e ∷ filter is_in_front (map weight_of all)) (filter is_in_front (map weight_of all))) (sym is)

      by : (a b : Bool) → is_before before e.serial ≡ b → map weight_of (of_span entries) ≡ filter is_in_front (map weight_of all)
          → map weight_of (cond (a && b) (e ∷ of_span entries) (of_span entries)) ≡ filter is_in_front (map weight_of (cond (a && true) (e ∷ all) all))
      by false b is same = same
      by true true is same = ap (λ (ws : List Weight). weight_of e ∷ ws) same ∙ more true is
      by true false is same = same ∙ more false is

module _ (since : Serial) (most : ℕ) (entries : List Entry) where
  abbrev weights : List Weight
  weights = weights_since since entries

  pub span_fits : (span : Span) → span_of since (Some most) entries ≡ Ok span → dump_length (chosen span entries) ≤ most
  span_fits span is = by (nat_lt most (least_length weights)) refl is
    where
      by : (b : Bool) → nat_lt most (least_length weights) ≡ b → ◌≡◌ {A = Result Span ℕ} (if b then Err (least_length weights) else Ok (record { since = since; before = first_over most weights })) (Ok span) → dump_length (chosen span entries) ≤ most
      by true over is = absurd cc
      by false under is =
          let same : record { since = since; before = first_over most weights } ≡ span = cc in
          let least = least_at weights (earliest (serials_of weights)) in
          let few = ltb-false most (least_length weights) under in
          subst (λ (x : Span). dump_length (chosen x entries) ≤ most) same
          (subst (λ (ws : List Weight). length_of ws ≤ most) (sym (chosen_front since (first_over most weights) entries)) (front_fits most weights (filter (is_front most weights) weights) refl (omega (arith, least, few))))
