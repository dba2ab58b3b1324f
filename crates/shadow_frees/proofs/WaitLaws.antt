-- No sector waits twice, and a run that is given waited.
use Rattle.std.proofs.Common.{◌≡◌, ℕ, zero, suc, ◌+◌, ◌-◌, ◌<◌, ◌≤◌, Bool, true, false, cond, not, ◌&&◌, ◌||◌, List, [], ◌∷◌, ◌++◌, length, refl, sym, ap, ◌∙◌, inl, inr, arith, rules, Option, Some, None}
use Rattle.std.specs.Prelude.{nat_lt, ◌==◌, ◌↔◌, IsNone}
use Rattle.std.specs.List.{range_with_len}
use Rattle.std.proofs.lemmas.Bool.{or_cases, and_parts, and_from, both_ways, false_from_ne_true, not_from_false, lt-leb, eqb-true}
use Rattle.std.proofs.lemmas.List.{append-nil}
use Rattle.std.proofs.lemmas.List.Sums.{sum_by-cons}
use Rattle.run_table.specs.declared.run.Run.{Run}
use Rattle.run_table.specs.RunTable.{run_of, total, sectors_of}
use Rattle.run_table.specs.Space.{contains, all_differ, where_free, joined, runs_of}
use Rattle.run_table.proofs.SectorLaws.{contains-append, total_of_runs}
use Rattle.sector_set.specs.Area.{Area, area, without_sectors, together, AreIn, AreOut, IsOwn}
use Rattle.sector_set.proofs.FreeLaws.{where_same, contains_range}
use Rattle.sector_set.proofs.CountLaws.{count_without, no_more_than, split_where}
use Rattle.sector_set.proofs.AreaLaws.{free_within, free_passes}
use Rattle.shadow_frees.specs.Waits.{AreDisjoint, run_between}

-- ---- no sector waits twice

pub none_apart : (from to : ℕ) (removed unfinished : Area) → removed ≡ area from to (λ s. false) → unfinished ≡ area from to (λ s. false) → AreDisjoint removed unfinished
none_apart from to removed unfinished r u = record {
  from = ap (λ (m : Area). m.from) (r ∙ sym u);
  to = ap (λ (m : Area). m.to) (r ∙ sym u);
  apart = λ s c. absurd (both_ways false refl (free_passes from to (λ s. false) s (ap (λ (m : Area). contains m.sectors s) (sym r) ∙ c)));
}

pub freed_apart : (removed unfinished new : Area) (runs : List Run) → new ≡ together removed runs → AreDisjoint removed unfinished → AreOut unfinished runs → AreDisjoint new unfinished
freed_apart removed unfinished new runs is apart out = record {
  from = ap (λ (m : Area). m.from) is ∙ apart.from;
  to = ap (λ (m : Area). m.to) is ∙ apart.to;
  apart = λ s c. elim (or_cases (contains removed.sectors s) (contains (sectors_of runs) s) (free_passes removed.from removed.to _ s (ap (λ (m : Area). contains m.sectors s) (sym is) ∙ c))) [
    | inl e ↦ apart.apart s e
    | inr e ↦ out.outside s e
  ];
}

pub begun_apart : (removed unfinished new : Area) (runs : List Run) → new ≡ together unfinished runs → AreDisjoint removed unfinished → AreOut removed runs → AreDisjoint removed new
begun_apart removed unfinished new runs is apart out = record {
  from = apart.from ∙ ap (λ (m : Area). m.from) (sym is);
  to = apart.to ∙ ap (λ (m : Area). m.to) (sym is);
  apart = λ s c. false_from_ne_true (contains new.sectors s) (λ d.
      elim (or_cases (contains unfinished.sectors s) (contains (sectors_of runs) s) (free_passes unfinished.from unfinished.to _ s (ap (λ (m : Area). contains m.sectors s) (sym is) ∙ d))) [
        | inl e ↦ both_ways (contains unfinished.sectors s) (apart.apart s c) e
        | inr e ↦ both_ways (contains removed.sectors s) (out.outside s e) c
      ]);
}

pub still_in : (m new : Area) (runs : List Run) (s : ℕ) → new ≡ without_sectors m runs → contains new.sectors s ≡ true → contains m.sectors s ≡ true
still_in m new runs s is c = (and_parts (contains m.sectors s) (not (contains (sectors_of runs) s)) (free_passes m.from m.to _ s (ap (λ (m : Area). contains m.sectors s) (sym is) ∙ c))).0

pub ended_apart : (removed unfinished new : Area) (runs : List Run) → new ≡ without_sectors unfinished runs → AreDisjoint removed unfinished → AreDisjoint removed new
ended_apart removed unfinished new runs is apart = record {
  from = apart.from ∙ ap (λ (m : Area). m.from) (sym is);
  to = apart.to ∙ ap (λ (m : Area). m.to) (sym is);
  apart = λ s c. false_from_ne_true (contains new.sectors s) (λ d. both_ways (contains unfinished.sectors s) (apart.apart s c) (still_in unfinished new runs s is d));
}

pub given_apart : (removed unfinished new : Area) (runs : List Run) → new ≡ without_sectors removed runs → AreDisjoint removed unfinished → AreDisjoint new unfinished
given_apart removed unfinished new runs is apart = record {
  from = ap (λ (m : Area). m.from) is ∙ apart.from;
  to = ap (λ (m : Area). m.to) is ∙ apart.to;
  apart = λ s c. apart.apart s (still_in removed new runs s is c);
}

-- ---- a run of the set

contains-joined : (t : ℕ) (runs : List Run) (s : ℕ) → contains (sectors_of (joined t runs)) s ≡ ((t == s) || contains (sectors_of runs) s)
contains-joined t [] s = refl
contains-joined t (r ∷ runs) s = by (t + 1 == r.start) refl
  where
    by : (b : Bool) → (t + 1 == r.start) ≡ b → contains (sectors_of (cond b (run_of t (r.length + 1) ∷ runs) (run_of t 1 ∷ r ∷ runs))) s ≡ ((t == s) || contains (sectors_of (r ∷ runs)) s)
    by true e =
        let longer : r.length + 1 ≡ suc r.length = omega arith in
        let first : range_with_len t (r.length + 1) ≡ t ∷ range_with_len r.start r.length = ap (range_with_len t) longer ∙ ap (λ (n : ℕ). t ∷ range_with_len n r.length) (eqb-true (t + 1) r.start e) in
        ap (λ (xs : List ℕ). contains (xs ++ sectors_of runs) s) first
    by false e = refl

contains_runs : (xs : List ℕ) (s : ℕ) → contains (sectors_of (runs_of xs)) s ≡ contains xs s
contains_runs [] s = refl
contains_runs (t ∷ xs) s = contains-joined t (runs_of xs) s ∙ ap (λ (b : Bool). (t == s) || b) (contains_runs xs s)

differ_range : (a n : ℕ) → all_differ (range_with_len a n) ≡ true
differ_range a zero = refl
differ_range a (suc n) =
    and_from (not (contains (range_with_len (a + 1) n) a)) (all_differ (range_with_len (a + 1) n))
    (not_from_false (contains (range_with_len (a + 1) n) a) (contains_range (a + 1) n a ∙ ap (λ (b : Bool). b && nat_lt a (a + 1 + n)) (lt-leb (a + 1) a (omega arith))))
    (differ_range (a + 1) n)

nothing_more : (xs : List ℕ) → all_differ xs ≡ true → all_differ (xs ++ []) ≡ true
nothing_more xs e = ap all_differ (append-nil xs) ∙ e

-- the first of a set's runs is in it
pub run_is_in : (m : Area) (r : Run) (rest : List Run) → runs_of m.sectors ≡ r ∷ rest → AreIn m (r ∷ [])
run_is_in m r rest is = record {
  inside = λ s c.
      let here : contains (range_with_len r.start r.length) s ≡ true = ap (λ (xs : List ℕ). contains xs s) (sym (append-nil (range_with_len r.start r.length))) ∙ c in
      sym (contains_runs m.sectors s) ∙ ap (λ (x : List Run). contains (sectors_of x) s) is
      ∙ contains-append (range_with_len r.start r.length) (sectors_of rest) s
      ∙ ap (λ (b : Bool). b || contains (sectors_of rest) s) here;
  differ = nothing_more (range_with_len r.start r.length) (differ_range r.start r.length);
}

pub no_runs : (xs : List ℕ) → runs_of xs ≡ [] → xs ≡ []
no_runs [] e = refl
no_runs (s ∷ xs) e = absurd (let h = sym (total_of_runs (s ∷ xs)) ∙ ap total e in omega arith)

pub some_runs : (xs : List ℕ) (r : Run) (rest : List Run) → runs_of xs ≡ r ∷ rest → xs ≡ [] → ⊥
some_runs [] r rest e none = cc
some_runs (s ∷ xs) r rest e none = cc

pub none_left : (xs : List ℕ) (o : Option (ℕ × ℕ)) → o ≡ None → xs ≡ [] → IsNone o ↔ (xs ≡ [])
none_left xs None none empty = ((λ n. empty), (λ e. search rules))
none_left xs (Some p) none empty = absurd cc

pub between : (r : Run) → run_between (r.start, r.start + r.length) ≡ r
between r = let e : r.start + r.length - r.start ≡ r.length = omega arith in λ i. record { start = r.start; length = e i }

-- ---- their number

pub fewer : (m new : Area) (r : Run) → IsOwn m → AreIn m (r ∷ []) → new ≡ without_sectors m (r ∷ []) → 1 ≤ r.length → length new.sectors < length m.sectors
fewer m new r own are is some =
    let all : length m.sectors ≡ total (r ∷ []) + length (without_sectors m (r ∷ [])).sectors =
    ap (λ (v : Area). length v.sectors) own
    ∙ count_without (contains m.sectors) (r ∷ []) m.from m.to are.differ
    (λ s c. free_within m.from m.to (contains m.sectors) s (ap (λ (v : Area). contains v.sectors s) (sym own) ∙ are.inside s c)) are.inside in
    omega (arith, all, sum_by-cons (λ (r : Run). r.length) r [], ap (λ (v : Area). length v.sectors) is)

-- two sets that are apart together have as many as both
pub both : (one other : Area) → IsOwn one → IsOwn other → AreDisjoint one other → length (where_free (λ s. contains one.sectors s || contains other.sectors s) one.from one.to) ≡ length one.sectors + length other.sectors
both one other r u apart =
    let first : where_free (λ s. (contains one.sectors s || contains other.sectors s) && contains one.sectors s) one.from one.to ≡ where_free (contains one.sectors) one.from one.to =
    where_same _ _ one.from one.to (λ s h k. absorbed (contains one.sectors s) (contains other.sectors s)) in
    let second : where_free (λ s. (contains one.sectors s || contains other.sectors s) && not (contains one.sectors s)) one.from one.to ≡ where_free (contains other.sectors) one.from one.to =
    where_same _ _ one.from one.to (λ s h k. rest (contains one.sectors s) (contains other.sectors s) (apart.apart s)) in
    let moved : where_free (contains other.sectors) one.from one.to ≡ where_free (contains other.sectors) other.from other.to = λ i. where_free (contains other.sectors) (apart.from i) (apart.to i) in
    omega (
      arith,
      split_where (λ s. contains one.sectors s || contains other.sectors s) (contains one.sectors) one.from one.to,
      ap length first,
      ap length (second ∙ moved),
      ap (λ (v : Area). length v.sectors) r,
      ap (λ (v : Area). length v.sectors) u,
    )
  where
    absorbed : (a b : Bool) → ((a || b) && a) ≡ a
    absorbed true b = refl
    absorbed false true = refl
    absorbed false false = refl

    rest : (a b : Bool) → (a ≡ true → b ≡ false) → ((a || b) && not a) ≡ b
    rest true true h = absurd (let e = h refl in cc)
    rest true false h = refl
    rest false true h = refl
    rest false false h = refl

pub few : (one other : Area) → IsOwn one → IsOwn other → AreDisjoint one other → length one.sectors + length other.sectors ≤ one.to - one.from
few one other r u apart = omega (arith, both one other r u apart, no_more_than (λ s. contains one.sectors s || contains other.sectors s) one.from one.to)
