-- Sets of an interval and their numbers.
use Rattle.std.proofs.Common.{[], IfSome, Bool, List, None, Option, Some, ap, arith, drop, false, get_or, inl, inr, length, not, refl, subst, sym, true, ℕ, ◌&&◌, ◌+◌, ◌-◌, ◌<◌, ◌^◌, ◌||◌, ◌∙◌, ◌∷◌, ◌≡◌, ◌≤◌}
use Rattle.std.proofs.Math.Bool.{or_assoc, or-true}
use Rattle.std.specs.Prelude.{nat_lt}
use Rattle.std.proofs.lemmas.Bool.{cases_lt, both_ways, le-leb, lt-ltb}
use Rattle.std.proofs.lemmas.List.{drop_more}
use Rattle.std.proofs.lemmas.List.Sums.{sum_by-cons}
use Rattle.run_table.specs.declared.run.Run.{Run}
use Rattle.run_table.specs.RunTable.{run_of, total, sectors_of}
use Rattle.run_table.specs.Space.{contains, all_differ, where_free, runs_of}
use Rattle.run_table.proofs.SectorLaws.{contains-cons, total_of_runs}
use Rattle.sector_set.specs.SectorSet.{SectorsBelow, set_of, in_run, free_runs_from, IsFirstRun}
use Rattle.sector_set.proofs.FreeLaws.{where_same, contains_where, contains_where_outside, contains_range}
use Rattle.sector_set.proofs.SetLaws.{contains_below}
use Rattle.sector_set.specs.Area.{Area, area, without_sectors, together, AreIn, AreOut, IsThere, CountsFree, IsOwn, left_of, IsFirstOf}
use Rattle.sector_set.proofs.CountLaws.{none_where, count_without, count_together, no_more_than}

-- ---- one run more

pub remove_step : (runs : List Run) (i : ℕ) (d : Run) (set new : SectorsBelow) (s : ℕ) (all : Bool) → i < length runs → new ≡ set_of set.end (λ s. contains set.sectors s && not (in_run (get_or runs i d) s)) → s < set.end
    → (contains set.sectors s && not (contains (sectors_of (drop i runs)) s)) ≡ all
    → (contains new.sectors s && not (contains (sectors_of (drop (i + 1) runs)) s)) ≡ all
remove_step runs i d set new s all inside is less so_far =
    ap (λ (v : SectorsBelow). contains v.sectors s && not (contains (sectors_of (drop (i + 1) runs)) s)) is
    ∙ ap (λ (b : Bool). b && not (contains (sectors_of (drop (i + 1) runs)) s)) (contains_below set.end (λ s. contains set.sectors s && not (in_run (get_or runs i d) s)) s less)
    ∙ regroup (contains set.sectors s) (in_run (get_or runs i d) s) (contains (sectors_of (drop (i + 1) runs)) s)
    ∙ ap (λ (b : Bool). contains set.sectors s && not b) (sym (contains-cons (get_or runs i d) (drop (i + 1) runs) s) ∙ ap (λ (x : List Run). contains (sectors_of x) s) (sym (drop_more runs i d inside)))
    ∙ so_far
  where
    regroup : (a b c : Bool) → ((a && not b) && not c) ≡ (a && not (b || c))
    regroup true true c = refl
    regroup true false c = refl
    regroup false b c = refl

pub insert_step : (runs : List Run) (i : ℕ) (d : Run) (set new : SectorsBelow) (s : ℕ) (all : Bool) → i < length runs → new ≡ set_of set.end (λ s. contains set.sectors s || in_run (get_or runs i d) s) → s < set.end
    → (contains set.sectors s || contains (sectors_of (drop i runs)) s) ≡ all
    → (contains new.sectors s || contains (sectors_of (drop (i + 1) runs)) s) ≡ all
insert_step runs i d set new s all inside is less so_far =
    ap (λ (v : SectorsBelow). contains v.sectors s || contains (sectors_of (drop (i + 1) runs)) s) is
    ∙ ap (λ (b : Bool). b || contains (sectors_of (drop (i + 1) runs)) s) (contains_below set.end (λ s. contains set.sectors s || in_run (get_or runs i d) s) s less)
    ∙ or_assoc (contains set.sectors s) (in_run (get_or runs i d) s) (contains (sectors_of (drop (i + 1) runs)) s)
    ∙ ap (λ (b : Bool). contains set.sectors s || b) (sym (contains-cons (get_or runs i d) (drop (i + 1) runs) s) ∙ ap (λ (x : List Run). contains (sectors_of x) s) (sym (drop_more runs i d inside)))
    ∙ so_far

-- ---- sectors out of it, and into it

pub free_within : (from to : ℕ) (f : ℕ → Bool) (s : ℕ) → contains (where_free f from to) s ≡ true → (from ≤ s) × (s < to)
free_within from to f s c =
    elim (cases_lt s from) [
      | inl lt ↦ absurd (both_ways (contains (where_free f from to) s) (contains_where_outside f from to s (λ low high. absurd (omega arith))) c)
      | inr ge ↦ elim (cases_lt s to) [
        | inl lt ↦ (ge, lt)
        | inr high ↦ absurd (both_ways (contains (where_free f from to) s) (contains_where_outside f from to s (λ low less. absurd (omega arith))) c)
      ]
    ]

pub free_passes : (from to : ℕ) (f : ℕ → Bool) (s : ℕ) → contains (where_free f from to) s ≡ true → f s ≡ true
free_passes from to f s c = let within = free_within from to f s c in sym (contains_where f from to s within.0 within.1) ∙ c

pub area_without : (from end : ℕ) (old new : List ℕ) (runs : List Run) → ((s : ℕ) → s < end → contains new s ≡ (contains old s && not (contains (sectors_of runs) s)))
    → area from end (contains new) ≡ without_sectors (area from end (contains old)) runs
area_without from end old new runs h =
    ap (λ (xs : List ℕ). record { from = from; to = end; sectors = xs }) (where_same (contains new) (λ s. contains (where_free (contains old) from end) s && not (contains (sectors_of runs) s)) from end
    (λ s low high. h s high ∙ ap (λ (b : Bool). b && not (contains (sectors_of runs) s)) (sym (contains_where (contains old) from end s low high))))

pub area_together : (from end : ℕ) (old new : List ℕ) (runs : List Run) → ((s : ℕ) → s < end → contains new s ≡ (contains old s || contains (sectors_of runs) s))
    → area from end (contains new) ≡ together (area from end (contains old)) runs
area_together from end old new runs h =
    ap (λ (xs : List ℕ). record { from = from; to = end; sectors = xs }) (where_same (contains new) (λ s. contains (where_free (contains old) from end) s || contains (sectors_of runs) s) from end
    (λ s low high. h s high ∙ ap (λ (b : Bool). b || contains (sectors_of runs) s) (sym (contains_where (contains old) from end s low high))))

pub counts_without : (from end : ℕ) (old new : List ℕ) (runs : List Run) → AreIn (area from end (contains old)) runs
    → ((s : ℕ) → s < end → contains new s ≡ (contains old s && not (contains (sectors_of runs) s)))
    → length (where_free (contains old) from end) ≡ total runs + length (where_free (contains new) from end)
counts_without from end old new runs are h =
    count_without (contains old) runs from end are.differ (λ s c. free_within from end (contains old) s (are.inside s c)) (λ s c. free_passes from end (contains old) s (are.inside s c))
    ∙ ap (λ (xs : List ℕ). total runs + length xs) (sym (where_same (contains new) (λ s. contains old s && not (contains (sectors_of runs) s)) from end (λ s low high. h s high)))

pub counts_together : (from end : ℕ) (old new : List ℕ) (runs : List Run) → AreOut (area from end (contains old)) runs
    → ((s : ℕ) → s < end → contains new s ≡ (contains old s || contains (sectors_of runs) s))
    → length (where_free (contains new) from end) ≡ total runs + length (where_free (contains old) from end)
counts_together from end old new runs are h =
    ap length (where_same (contains new) (λ s. contains old s || contains (sectors_of runs) s) from end (λ s low high. h s high))
    ∙ count_together (contains old) runs from end are.differ are.within
    (λ s c. let within = are.within s c in sym (contains_where (contains old) from end s within.0 within.1) ∙ are.outside s c)

-- ---- counting by runs

pub counted : (set : SectorsBelow) (at count all : ℕ) (r : Run) → IsFirstRun set at (Some r) → count + length (where_free (contains set.sectors) at set.end) ≡ all
    → (count + r.length) + length (where_free (contains set.sectors) (r.start + r.length) set.end) ≡ all
counted set at count all r first so_far =
    omega (
      arith,
      total_of_runs (where_free (contains set.sectors) at set.end),
      total_of_runs (where_free (contains set.sectors) (r.start + r.length) set.end),
      ap total first,
      sum_by-cons (λ (r : Run). r.length) r (free_runs_from set (r.start + r.length)),
    )

pub none_counted : (set : SectorsBelow) (at : ℕ) → IsFirstRun set at None → length (where_free (contains set.sectors) at set.end) ≡ 0
none_counted set at none = sym (total_of_runs (where_free (contains set.sectors) at set.end)) ∙ ap total none

-- ---- the whole interval but for runs

pub whole_but : (from end : ℕ) (all set new : SectorsBelow) (runs : List Run) → all ≡ set_of end (λ s. false) → set ≡ set_of all.end (λ s. contains all.sectors s || in_run (run_of from (end - from)) s)
    → new.end ≡ set.end → ((s : ℕ) → s < set.end → contains new.sectors s ≡ (contains set.sectors s && not (contains (sectors_of runs) s)))
    → area from new.end (contains new.sectors) ≡ area from end (λ s. not (contains (sectors_of runs) s))
whole_but from end all set new runs none is same h =
    let full : set ≡ set_of end (λ s. contains (where_free (λ s. false) 0 end) s || in_run (run_of from (end - from)) s) =
    is ∙ ap (λ (v : SectorsBelow). set_of v.end (λ s. contains v.sectors s || in_run (run_of from (end - from)) s)) none in
    let to_end : set.end ≡ end = ap (λ (v : SectorsBelow). v.end) full in
    ap (λ (n : ℕ). area from n (contains new.sectors)) (same ∙ to_end)
    ∙ ap (λ (xs : List ℕ). record { from = from; to = end; sectors = xs }) (where_same (contains new.sectors) (λ s. not (contains (sectors_of runs) s)) from end
    (λ s low high.
    h s (omega (arith, to_end))
    ∙ ap (λ (v : SectorsBelow). contains v.sectors s && not (contains (sectors_of runs) s)) full
    ∙ ap (λ (b : Bool). b && not (contains (sectors_of runs) s)) (inside s low high)))
  where
    inside : (s : ℕ) → from ≤ s → s < end → contains (where_free (λ s. contains (where_free (λ s. false) 0 end) s || in_run (run_of from (end - from)) s) 0 end) s ≡ true
    inside s low high =
        contains_below end (λ s. contains (where_free (λ s. false) 0 end) s || in_run (run_of from (end - from)) s) s high
        ∙ ap (λ (b : Bool). contains (where_free (λ s. false) 0 end) s || b) (contains_range from (end - from) s ∙ ap (λ (b : Bool). b && nat_lt s (from + (end - from))) (le-leb from s low) ∙ lt-ltb s (from + (end - from)) (omega arith))
        ∙ or-true (contains (where_free (λ s. false) 0 end) s)

-- ---- the set after a call

abbrev pub Without : List Run → SectorsBelow → SectorsBelow → Type 0
Without runs set new = (s : ℕ) → s < set.end → contains new.sectors s ≡ (contains set.sectors s && not (contains (sectors_of runs) s))

abbrev pub Together : List Run → SectorsBelow → SectorsBelow → Type 0
Together runs set new = (s : ℕ) → s < set.end → contains new.sectors s ≡ (contains set.sectors s || contains (sectors_of runs) s)

pub removed_counts : (from count : ℕ) (set new : SectorsBelow) (runs : List Run) (m : Area) → area from set.end (contains set.sectors) ≡ m → CountsFree from set count → AreIn m runs → new.end ≡ set.end → Without runs set new
    → (total runs ≤ count) × CountsFree from new (count - total runs)
removed_counts from count set new runs m is counts are same h =
    let parts = counts_without from set.end set.sectors new.sectors runs (subst (λ (v : Area). AreIn v runs) (sym is) are) h in
    let moved : length (where_free (contains new.sectors) from set.end) ≡ length (where_free (contains new.sectors) from new.end) = ap (λ (n : ℕ). length (where_free (contains new.sectors) from n)) (sym same) in (
      omega (arith, parts, counts.exact),
      record {
        order = omega (arith, counts.order, same);
        small = omega (arith, counts.small, same);
        exact = omega (arith, parts, counts.exact, moved);
      },
    )

pub inserted_counts : (from count : ℕ) (set new : SectorsBelow) (runs : List Run) (m : Area) → area from set.end (contains set.sectors) ≡ m → CountsFree from set count → AreOut m runs → new.end ≡ set.end → Together runs set new
    → (count + total runs < 2 ^ 32) × CountsFree from new (count + total runs)
inserted_counts from count set new runs m is counts are same h =
    let parts = counts_together from set.end set.sectors new.sectors runs (subst (λ (v : Area). AreOut v runs) (sym is) are) h in
    let moved : length (where_free (contains new.sectors) from set.end) ≡ length (where_free (contains new.sectors) from new.end) = ap (λ (n : ℕ). length (where_free (contains new.sectors) from n)) (sym same) in (
      omega (arith, parts, counts.exact, counts.small, no_more_than (contains new.sectors) from set.end),
      record {
        order = omega (arith, counts.order, same);
        small = omega (arith, counts.small, same);
        exact = omega (arith, parts, counts.exact, moved);
      },
    )

pub removed_area : (from : ℕ) (set new : SectorsBelow) (runs : List Run) (m : Area) → area from set.end (contains set.sectors) ≡ m → new.end ≡ set.end → Without runs set new → area from new.end (contains new.sectors) ≡ without_sectors m runs
removed_area from set new runs m is same h =
    ap (λ (n : ℕ). area from n (contains new.sectors)) same ∙ area_without from set.end set.sectors new.sectors runs h ∙ ap (λ (v : Area). without_sectors v runs) is

pub inserted_area : (from : ℕ) (set new : SectorsBelow) (runs : List Run) (m : Area) → area from set.end (contains set.sectors) ≡ m → new.end ≡ set.end → Together runs set new → area from new.end (contains new.sectors) ≡ together m runs
inserted_area from set new runs m is same h =
    ap (λ (n : ℕ). area from n (contains new.sectors)) same ∙ area_together from set.end set.sectors new.sectors runs h ∙ ap (λ (v : Area). together v runs) is

pub is_in_area : (from s : ℕ) (set : SectorsBelow) (m : Area) → area from set.end (contains set.sectors) ≡ m → m.from ≤ s → s < m.to → contains set.sectors s ≡ contains m.sectors s
is_in_area from s set m is low high =
    let family : Area → Type 0 = λ v. v.from ≤ s → s < v.to → contains set.sectors s ≡ contains v.sectors s in
    subst family is (λ h k. sym (contains_where (contains set.sectors) from set.end s h k)) low high

-- ---- whether sectors are in it, or out of it

pub those_in : (from : ℕ) (set : SectorsBelow) (m : Area) (runs : List Run) → area from set.end (contains set.sectors) ≡ m → ((s : ℕ) → contains (sectors_of runs) s ≡ true → IsThere from set true s) → all_differ (sectors_of runs) ≡ true → AreIn m runs
those_in from set m runs is each once =
    subst (λ (v : Area). AreIn v runs) is (record {
      inside = λ s c. let there = each s c in contains_where (contains set.sectors) from set.end s there.0 there.1 ∙ there.2;
      differ = once;
    })

pub in_those : (from : ℕ) (set : SectorsBelow) (m : Area) (runs : List Run) → area from set.end (contains set.sectors) ≡ m → AreIn m runs → (s : ℕ) → contains (sectors_of runs) s ≡ true → IsThere from set true s
in_those from set m runs is are s c =
    let inside : contains (where_free (contains set.sectors) from set.end) s ≡ true = (subst (λ (v : Area). AreIn v runs) (sym is) are).inside s c in
    let within = free_within from set.end (contains set.sectors) s inside in
    (within.0, within.1, free_passes from set.end (contains set.sectors) s inside)

pub those_out : (from : ℕ) (set : SectorsBelow) (m : Area) (runs : List Run) → area from set.end (contains set.sectors) ≡ m → ((s : ℕ) → contains (sectors_of runs) s ≡ true → IsThere from set false s) → all_differ (sectors_of runs) ≡ true → AreOut m runs
those_out from set m runs is each once =
    subst (λ (v : Area). AreOut v runs) is (record {
      within = λ s c. let there = each s c in (there.0, there.1);
      outside = λ s c. let there = each s c in contains_where (contains set.sectors) from set.end s there.0 there.1 ∙ there.2;
      differ = once;
    })

pub out_those : (from : ℕ) (set : SectorsBelow) (m : Area) (runs : List Run) → area from set.end (contains set.sectors) ≡ m → AreOut m runs → (s : ℕ) → contains (sectors_of runs) s ≡ true → IsThere from set false s
out_those from set m runs is are s c =
    let out : AreOut (area from set.end (contains set.sectors)) runs = subst (λ (v : Area). AreOut v runs) (sym is) are in
    let within = out.within s c in
    (within.0, within.1, sym (contains_where (contains set.sectors) from set.end s within.0 within.1) ∙ out.outside s c)

-- ---- its runs from a place on

same_left : (from : ℕ) (set : SectorsBelow) (at : ℕ) → from ≤ at → free_runs_from set at ≡ left_of (area from set.end (contains set.sectors)) at
same_left from set at h =
    ap runs_of (where_same (contains set.sectors) (contains (where_free (contains set.sectors) from set.end)) at set.end
    (λ s low high. sym (contains_where (contains set.sectors) from set.end s (omega arith) high)))

pub first_left : (from : ℕ) (set : SectorsBelow) (m : Area) (at : ℕ) (o : Option Run) → area from set.end (contains set.sectors) ≡ m → m.from ≤ at → IfSome o (λ r. (at ≤ r.start) × (1 ≤ r.length) × (r.start + r.length ≤ set.end)) → IsFirstRun set at o → IsFirstOf m at o
first_left from set m at None is low within none =
    let family : Area → Type 0 = λ v. v.from ≤ at → left_of v at ≡ [] in
    subst family is (λ h. sym (same_left from set at h) ∙ none) low
first_left from set m at (Some r) is low within first =
    let family : Area → Type 0 = λ v. v.from ≤ at → left_of v at ≡ r ∷ left_of v (r.start + r.length) in
    subst family is (λ h. sym (same_left from set at h) ∙ first ∙ ap (λ (x : List Run). r ∷ x) (same_left from set (r.start + r.length) (omega (arith, within.0)))) low

-- ---- an empty set

pub empty_area : (from end : ℕ) (set : SectorsBelow) → set ≡ set_of end (λ s. false) → area from set.end (contains set.sectors) ≡ area from end (λ s. false)
empty_area from end set is =
    let family : SectorsBelow → Type 0 = λ v. area from v.end (contains v.sectors) ≡ area from end (λ s. false) in
    subst family (sym is) (ap (λ (xs : List ℕ). record { from = from; to = end; sectors = xs }) (where_same (contains (where_free (λ s. false) 0 end)) (λ s. false) from end (λ s low high. contains_below end (λ s. false) s high)))

pub empty_counts : (from end : ℕ) (set : SectorsBelow) → set ≡ set_of end (λ s. false) → from ≤ end → end < 2 ^ 32 → CountsFree from set 0
empty_counts from end set is order small =
    let same : set.end ≡ end = ap (λ (v : SectorsBelow). v.end) is in
    record {
      order = omega (arith, same);
      small = omega (arith, same);
      exact = sym (none_where from end) ∙ ap (λ (m : Area). length m.sectors) (sym (empty_area from end set is));
    }

pub all_left : (from : ℕ) (set : SectorsBelow) (m : Area) → area from set.end (contains set.sectors) ≡ m → left_of m m.from ≡ runs_of m.sectors
all_left from set m is =
    let family : Area → Type 0 = λ v. left_of v v.from ≡ runs_of v.sectors in
    subst family is (sym (same_left from set from (omega arith)))

pub own_area : (from : ℕ) (set : SectorsBelow) (m : Area) → area from set.end (contains set.sectors) ≡ m → IsOwn m
own_area from set m is =
    subst IsOwn is (ap (λ (xs : List ℕ). record { from = from; to = set.end; sectors = xs })
    (where_same (contains set.sectors) (contains (where_free (contains set.sectors) from set.end)) from set.end (λ s low high. sym (contains_where (contains set.sectors) from set.end s low high))))
