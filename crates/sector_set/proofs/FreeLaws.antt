-- The sectors of an interval that pass a test, and their runs.
use Rattle.std.proofs.Common.{◌≡◌, ℕ, zero, suc, ◌+◌, ◌-◌, ◌<◌, ◌≤◌, Bool, true, false, cond, ◌&&◌, ◌||◌, List, [], ◌∷◌, filter, refl, sym, ap, ◌∙◌, inl, inr, arith}
use Rattle.std.proofs.Math.Bool.{and-true, and-false}
use Rattle.std.specs.Prelude.{nat_le, nat_lt, ◌==◌}
use Rattle.std.specs.List.{range_with_len}
use Rattle.std.proofs.lemmas.Bool.{cases_Bool, cases_lt, leb-true, eqb-true, eqb-false, eq-eqb, le-leb, lt-ltb, le-ltb, ne_eqb}
use Rattle.std.proofs.lemmas.Bool.Decides.{nat_tests}
use Rattle.run_table.specs.declared.run.Run.{Run}
use Rattle.run_table.specs.RunTable.{run_of}
use Rattle.run_table.specs.Space.{contains, where_free, joined, runs_of}

-- ---- tests that agree

filter_same : (f g : ℕ → Bool) (a n : ℕ) → ((s : ℕ) → a ≤ s → s < a + n → f s ≡ g s) → filter f (range_with_len a n) ≡ filter g (range_with_len a n)
filter_same f g a zero h = refl
filter_same f g a (suc n) h =
    let rest = filter_same f g (a + 1) n (λ s from to. h s (omega arith) (omega arith)) in
    ap (λ (b : Bool). cond b (a ∷ filter f (range_with_len (a + 1) n)) (filter f (range_with_len (a + 1) n))) (h a (omega arith) (omega arith))
    ∙ ap (λ (xs : List ℕ). cond (g a) (a ∷ xs) xs) rest

pub where_same : (f g : ℕ → Bool) (from to : ℕ) → ((s : ℕ) → from ≤ s → s < to → f s ≡ g s) → where_free f from to ≡ where_free g from to
where_same f g from to h = filter_same f g from (to - from) (λ s low high. h s low (omega arith))

-- ---- which sectors are in it

contains_filter : (f : ℕ → Bool) (a n s : ℕ) → contains (filter f (range_with_len a n)) s ≡ (f s && (nat_le a s && nat_lt s (a + n)))
contains_filter f a zero s = none (f s) (nat_le a s && nat_lt s (a + 0)) (outside a s)
  where
    outside : (a s : ℕ) → (nat_le a s && nat_lt s (a + 0)) ≡ false
    outside a s = grind (arith, nat_tests)

    none : (b t : Bool) → t ≡ false → false ≡ (b && t)
    none true t e = sym e
    none false t e = refl
contains_filter f a (suc n) s =
    elim (cases_Bool (a == s)) [
      | inl e ↦ (let same : a ≡ s = eqb-true a s e in
          let within : (nat_le a s && nat_lt s (a + suc n)) ≡ true = (let x : nat_le a s ≡ true = le-leb a s (omega arith) in let y : nat_lt s (a + suc n) ≡ true = lt-ltb s (a + suc n) (omega arith) in grind (arith, nat_tests)) in
          here (f a) (f s) (ap f same) e within (contains_filter f (a + 1) n s))
      | inr e ↦ (let ne = eqb-false a s e in
          there (f a) e (contains_filter f (a + 1) n s) (same_inside a n s ne))
    ]
  where
    rest : List ℕ
    rest = filter f (range_with_len (a + 1) n)

    same_inside : (a n s : ℕ) → (a ≡ s → ⊥) → (nat_le (a + 1) s && nat_lt s (a + 1 + n)) ≡ (nat_le a s && nat_lt s (a + suc n))
    same_inside a n s ne = grind (arith, nat_tests)

    after : (a n s : ℕ) → a ≡ s → (nat_le (a + 1) s && nat_lt s (a + 1 + n)) ≡ false
    after a n s e = grind (arith, nat_tests)

    here : (b c : Bool) → b ≡ c → (a == s) ≡ true → (nat_le a s && nat_lt s (a + suc n)) ≡ true
        → contains (filter f (range_with_len (a + 1) n)) s ≡ (f s && (nat_le (a + 1) s && nat_lt s (a + 1 + n)))
        → contains (cond b (a ∷ filter f (range_with_len (a + 1) n)) (filter f (range_with_len (a + 1) n))) s ≡ (c && (nat_le a s && nat_lt s (a + suc n)))
    here true true g e within h = ap (λ (t : Bool). t || contains (filter f (range_with_len (a + 1) n)) s) e ∙ sym within
    here true false g e within h = absurd cc
    here false true g e within h = absurd cc
    here false false g e within h = h ∙ ap (λ (t : Bool). f s && t) (after a n s (eqb-true a s e)) ∙ and-false (f s)

    there : (b : Bool) → (a == s) ≡ false → contains (filter f (range_with_len (a + 1) n)) s ≡ (f s && (nat_le (a + 1) s && nat_lt s (a + 1 + n)))
        → (nat_le (a + 1) s && nat_lt s (a + 1 + n)) ≡ (nat_le a s && nat_lt s (a + suc n))
        → contains (cond b (a ∷ filter f (range_with_len (a + 1) n)) (filter f (range_with_len (a + 1) n))) s ≡ (f s && (nat_le a s && nat_lt s (a + suc n)))
    there true e h same = ap (λ (t : Bool). t || contains (filter f (range_with_len (a + 1) n)) s) e ∙ h ∙ ap (λ (t : Bool). f s && t) same
    there false e h same = h ∙ ap (λ (t : Bool). f s && t) same

pub contains_where : (f : ℕ → Bool) (from to s : ℕ) → from ≤ s → s < to → contains (where_free f from to) s ≡ f s
contains_where f from to s low high =
    let inside : (nat_le from s && nat_lt s (from + (to - from))) ≡ true = within (le-leb from s low) (lt-ltb s (from + (to - from)) (omega arith)) in
    contains_filter f from (to - from) s ∙ ap (λ (t : Bool). f s && t) inside ∙ and-true (f s)
  where
    within : nat_le from s ≡ true → nat_lt s (from + (to - from)) ≡ true → (nat_le from s && nat_lt s (from + (to - from))) ≡ true
    within x y = ap (λ (t : Bool). t && nat_lt s (from + (to - from))) x ∙ y

pub contains_where_outside : (f : ℕ → Bool) (from to s : ℕ) → ((from ≤ s → s < to → ⊥)) → contains (where_free f from to) s ≡ false
contains_where_outside f from to s out =
    contains_filter f from (to - from) s ∙ ap (λ (t : Bool). f s && t) (beyond from to s out) ∙ and-false (f s)
  where
    not_below : (from to s : ℕ) → from ≤ s → (from ≤ s → s < to → ⊥) → from + (to - from) ≤ s
    not_below from to s low out =
        elim (cases_lt s (from + (to - from))) [
          | inl lt ↦ absurd (out low (omega arith))
          | inr ge ↦ ge
        ]

    beyond : (from to s : ℕ) → (from ≤ s → s < to → ⊥) → (nat_le from s && nat_lt s (from + (to - from))) ≡ false
    beyond from to s out =
        elim (cases_Bool (nat_le from s)) [
          | inl e ↦ ap (λ (t : Bool). t && nat_lt s (from + (to - from))) e ∙ le-ltb s (from + (to - from)) (not_below from to s (leb-true from s e) out)
          | inr e ↦ ap (λ (t : Bool). t && nat_lt s (from + (to - from))) e
        ]

pub contains_range : (a n s : ℕ) → contains (range_with_len a n) s ≡ (nat_le a s && nat_lt s (a + n))
contains_range a n s = ap (λ (xs : List ℕ). contains xs s) (sym (all_of a n)) ∙ contains_filter (λ s. true) a n s
  where
    all_of : (a n : ℕ) → filter (λ s. true) (range_with_len a n) ≡ range_with_len a n
    all_of a zero = refl
    all_of a (suc n) = ap (λ (xs : List ℕ). a ∷ xs) (all_of (a + 1) n)

-- ---- as many as the runs have

-- ---- the first run

abbrev BeginBehind : ℕ → List Run → Type 0
BeginBehind a [] = Unit {0}
BeginBehind a (r ∷ runs) = a ≤ r.start

begin_behind : (f : ℕ → Bool) (a n : ℕ) → BeginBehind a (runs_of (filter f (range_with_len a n)))
begin_behind f a zero = tt
begin_behind f a (suc n) = by (f a) (begin_behind f (a + 1) n)
  where
    with_first : (runs : List Run) → BeginBehind a (joined a runs)
    with_first [] = omega arith
    with_first (r ∷ runs) = choose (a + 1 == r.start)
      where
        choose : (b : Bool) → BeginBehind a (cond b (run_of a (r.length + 1) ∷ runs) (run_of a 1 ∷ r ∷ runs))
        choose true = omega arith
        choose false = omega arith

    lower : (runs : List Run) → BeginBehind (a + 1) runs → BeginBehind a runs
    lower [] h = tt
    lower (r ∷ runs) h = omega arith

    by : (b : Bool) → BeginBehind (a + 1) (runs_of (filter f (range_with_len (a + 1) n))) → BeginBehind a (runs_of (cond b (a ∷ filter f (range_with_len (a + 1) n)) (filter f (range_with_len (a + 1) n))))
    by true h = with_first (runs_of (filter f (range_with_len (a + 1) n)))
    by false h = lower (runs_of (filter f (range_with_len (a + 1) n))) h

not_joined : (s a : ℕ) (runs : List Run) → s + 1 < a → BeginBehind a runs → joined s runs ≡ run_of s 1 ∷ runs
not_joined s a [] h behind = refl
not_joined s a (r ∷ runs) h behind = ap (λ (b : Bool). cond b (run_of s (r.length + 1) ∷ runs) (run_of s 1 ∷ r ∷ runs)) (ne_eqb (s + 1) r.start (λ e. absurd (omega arith)))

passed : (f : ℕ → Bool) (a n : ℕ) → f a ≡ true → filter f (range_with_len a (suc n)) ≡ a ∷ filter f (range_with_len (a + 1) n)
passed f a n e = ap (λ (b : Bool). cond b (a ∷ filter f (range_with_len (a + 1) n)) (filter f (range_with_len (a + 1) n))) e

left_out : (f : ℕ → Bool) (a n : ℕ) → f a ≡ false → filter f (range_with_len a (suc n)) ≡ filter f (range_with_len (a + 1) n)
left_out f a n e = ap (λ (b : Bool). cond b (a ∷ filter f (range_with_len (a + 1) n)) (filter f (range_with_len (a + 1) n))) e

-- the sectors before the first are passed over
skipped : (f : ℕ → Bool) (k m n a : ℕ) → m ≡ k + n → ((s : ℕ) → a ≤ s → s < a + k → f s ≡ false) → filter f (range_with_len a m) ≡ filter f (range_with_len (a + k) n)
skipped f zero m n a e none = ap (λ (x : ℕ). filter f (range_with_len a x)) (let h : m ≡ n = omega arith in h) ∙ ap (λ (x : ℕ). filter f (range_with_len x n)) (let h : a ≡ a + 0 = omega arith in h)
skipped f (suc k) zero n a e none = absurd (omega arith)
skipped f (suc k) (suc m) n a e none =
    left_out f a m (none a (omega arith) (omega arith))
    ∙ skipped f k m n (a + 1) (omega arith) (λ s low high. none s (omega arith) (omega arith))
    ∙ ap (λ (x : ℕ). filter f (range_with_len x n)) (let h : a + 1 + k ≡ a + suc k = omega arith in h)

alone : (f : ℕ → Bool) (a n : ℕ) → (0 < n → f (a + 1) ≡ false) → joined a (runs_of (filter f (range_with_len (a + 1) n))) ≡ run_of a 1 ∷ runs_of (filter f (range_with_len (a + 1) n))
alone f a zero h = refl
alone f a (suc n) h =
    let next : filter f (range_with_len (a + 1) (suc n)) ≡ filter f (range_with_len (a + 1 + 1) n) = left_out f (a + 1) n (h (omega arith)) in
    ap (λ (xs : List ℕ). joined a (runs_of xs)) next
    ∙ not_joined a (a + 1 + 1) (runs_of (filter f (range_with_len (a + 1 + 1) n))) (omega arith) (begin_behind f (a + 1 + 1) n)
    ∙ ap (λ (xs : List ℕ). run_of a 1 ∷ runs_of xs) (sym next)

next_to : (a k : ℕ) (runs : List Run) → joined a (run_of (a + 1) k ∷ runs) ≡ run_of a (k + 1) ∷ runs
next_to a k runs = ap (λ (b : Bool). cond b (run_of a (k + 1) ∷ runs) (run_of a 1 ∷ run_of (a + 1) k ∷ runs)) (eq-eqb (a + 1) (a + 1) refl)

run_ahead : (f : ℕ → Bool) (k m n a : ℕ) → m ≡ suc k + n → ((s : ℕ) → a ≤ s → s < a + suc k → f s ≡ true) → (0 < n → f (a + suc k) ≡ false)
    → runs_of (filter f (range_with_len a m)) ≡ run_of a (suc k) ∷ runs_of (filter f (range_with_len (a + suc k) n))
run_ahead f k zero n a e all stop = absurd (omega arith)
run_ahead f zero (suc m) n a e all stop =
    let left : m ≡ n = omega arith in
    let one : a + suc zero ≡ a + 1 = omega arith in
    ap runs_of (passed f a m (all a (omega arith) (omega arith)))
    ∙ ap (λ (x : ℕ). joined a (runs_of (filter f (range_with_len (a + 1) x)))) left
    ∙ alone f a n (λ h. stop h)
run_ahead f (suc k) (suc m) n a e all stop =
    let up : a + 1 + suc k ≡ a + suc (suc k) = omega arith in
    let rest = run_ahead f k m n (a + 1) (omega arith) (λ s low high. all s (omega arith) (omega arith)) (λ h. ap f up ∙ stop h) in
    ap runs_of (passed f a m (all a (omega arith) (omega arith)))
    ∙ ap (joined a) rest
    ∙ next_to a (suc k) (runs_of (filter f (range_with_len (a + 1 + suc k) n)))
    ∙ ap (λ (x : ℕ). run_of a x ∷ runs_of (filter f (range_with_len (a + 1 + suc k) n))) (let h : suc k + 1 ≡ suc (suc k) = omega arith in h)
    ∙ ap (λ (x : ℕ). run_of a (suc (suc k)) ∷ runs_of (filter f (range_with_len x n))) up

-- none pass from a place on
pub no_run : (f : ℕ → Bool) (at end : ℕ) → ((s : ℕ) → at ≤ s → s < end → f s ≡ false) → runs_of (where_free f at end) ≡ []
no_run f at end none = ap runs_of (skipped f (end - at) (end - at) 0 at (omega arith) (λ s low high. none s low (omega arith)))

-- the first interval, as long as it goes
pub first_run : (f : ℕ → Bool) (at start stop end : ℕ) → at ≤ start → start < stop → stop ≤ end
    → ((s : ℕ) → at ≤ s → s < start → f s ≡ false) → ((s : ℕ) → start ≤ s → s < stop → f s ≡ true) → (stop < end → f stop ≡ false)
    → runs_of (where_free f at end) ≡ run_of start (stop - start) ∷ runs_of (where_free f stop end)
first_run f at start stop end low some high none all over =
    let from_start : at + (start - at) ≡ start = omega arith in
    let long : suc (stop - start - 1) ≡ stop - start = omega arith in
    let to_stop : start + suc (stop - start - 1) ≡ stop = omega arith in
    ap runs_of (skipped f (start - at) (end - at) (end - start) at (omega arith) (λ s from to. none s from (omega arith)))
    ∙ ap (λ (x : ℕ). runs_of (filter f (range_with_len x (end - start)))) from_start
    ∙ run_ahead f (stop - start - 1) (end - start) (end - stop) start (omega arith) (λ s from to. all s from (omega arith)) (λ h. ap f to_stop ∙ over (omega arith))
    ∙ ap (λ (x : ℕ). run_of start x ∷ runs_of (filter f (range_with_len (start + suc (stop - start - 1)) (end - stop)))) long
    ∙ ap (λ (x : ℕ). run_of start (stop - start) ∷ runs_of (filter f (range_with_len x (end - stop)))) to_stop
