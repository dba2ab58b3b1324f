-- Sets as the bits of words.
use Rattle.std.proofs.Common.{◌≡◌, ℕ, zero, suc, ◌+◌, ◌-◌, ◌*◌, ◌/◌, ◌%◌, ◌^◌, ◌<◌, ◌≤◌, min, Bool, true, false, not, ◌&&◌, ◌||◌, List, [], ◌∷◌, length, get_or, replicate, take, bit_and, refl, sym, subst, ap, ◌∙◌, inl, inr, arith}
use Rattle.std.specs.Prelude.{nat_le, nat_lt, ◌==◌}
use Rattle.std.proofs.lemmas.Bool.{cases_lt}
use Rattle.std.proofs.lemmas.Bool.Decides.{nat_tests}
use Rattle.std.proofs.lemmas.Nat.Bits.{bit_at-zero, shr_and_one}
use Rattle.std.proofs.lemmas.List.{get_or_default, length-take-le}
use Rattle.run_table.specs.declared.run.Run.{Run}
use Rattle.run_table.specs.RunTable.{run_of}
use Rattle.run_table.specs.Space.{contains, where_free, runs_of}
use Rattle.sector_set.specs.Bits.{has_bit, is_set, in_range}
use Rattle.sector_set.specs.SectorSet.{in_run, SectorsBelow, set_of, IsFirst}
use Rattle.sector_set.proofs.BitLaws.{set_in_first}
use Rattle.sector_set.proofs.FreeLaws.{where_same, contains_where, contains_range, no_run, first_run}

pub same_below : (end : ℕ) (f g : ℕ → Bool) → ((s : ℕ) → s < end → f s ≡ g s) → set_of end f ≡ set_of end g
same_below end f g h = ap (λ (xs : List ℕ). record { end = end; sectors = xs }) (where_same f g 0 end (λ s low high. h s high))

pub contains_below : (end : ℕ) (f : ℕ → Bool) (s : ℕ) → s < end → contains (where_free f 0 end) s ≡ f s
contains_below end f s h = contains_where f 0 end s (omega arith) h

-- a run's sectors below the end, as a range
run_is_range : (r : Run) (end s : ℕ) → s < end → in_range r.start (min (r.start + r.length) end) s ≡ in_run r s
run_is_range r end s h = as_tests (r.start) (r.length) end s h ∙ sym (contains_range r.start r.length s)
  where
    as_tests : (a n end s : ℕ) → s < end → in_range a (min (a + n) end) s ≡ (nat_le a s && nat_lt s (a + n))
    as_tests a n end s h = grind (arith, nat_tests)

pub inserted : (end : ℕ) (r : Run) (stop : ℕ) (old new : List ℕ) → stop ≡ min (r.start + r.length) end → ((s : ℕ) → is_set new s ≡ (is_set old s || in_range r.start stop s))
    → set_of end (is_set new) ≡ set_of end (λ s. contains (where_free (is_set old) 0 end) s || in_run r s)
inserted end r stop old new e h =
    same_below end (is_set new) (λ s. contains (where_free (is_set old) 0 end) s || in_run r s)
    (λ s less. h s
    ∙ ap (λ (b : Bool). b || in_range r.start stop s) (sym (contains_below end (is_set old) s less))
    ∙ ap (λ (b : Bool). contains (where_free (is_set old) 0 end) s || b) (ap (λ (n : ℕ). in_range r.start n s) e ∙ run_is_range r end s less))

pub removed : (end : ℕ) (r : Run) (stop : ℕ) (old new : List ℕ) → stop ≡ min (r.start + r.length) end → ((s : ℕ) → is_set new s ≡ (is_set old s && not (in_range r.start stop s)))
    → set_of end (is_set new) ≡ set_of end (λ s. contains (where_free (is_set old) 0 end) s && not (in_run r s))
removed end r stop old new e h =
    same_below end (is_set new) (λ s. contains (where_free (is_set old) 0 end) s && not (in_run r s))
    (λ s less. h s
    ∙ ap (λ (b : Bool). b && not (in_range r.start stop s)) (sym (contains_below end (is_set old) s less))
    ∙ ap (λ (b : Bool). contains (where_free (is_set old) 0 end) s && not b) (ap (λ (n : ℕ). in_range r.start n s) e ∙ run_is_range r end s less))

-- of the first `n` words' bits the first that is of a kind, or the end
pub first_below : (all end at n : ℕ) (words : List ℕ) (wanted : Bool) (found : ℕ) → end < 64 * n → n ≤ length words → end ≤ all → at ≤ end → at ≤ found
    → ((s : ℕ) → at ≤ s → s < found → is_set (take n words) s ≡ not wanted) → (found < 64 * length (take n words) → is_set (take n words) found ≡ wanted)
    → IsFirst end (contains (where_free (is_set words) 0 all)) at wanted (min found end)
first_below all end at n words wanted found room there inside low from before here = record {
  from = omega arith;
  to = omega arith;
  before = λ s low high. contains_below all (is_set words) s (omega arith) ∙ sym (set_in_first words n s (omega arith)) ∙ before s low (omega arith);
  found = λ less. let same : min found end ≡ found = omega arith in
      let many : length (take n words) ≡ n = length-take-le n words there in
      contains_below all (is_set words) (min found end) (omega arith) ∙ ap (is_set words) same ∙ sym (set_in_first words n found (omega arith)) ∙ here (omega (arith, many));
}

pub none_from : (end at start : ℕ) (f : ℕ → Bool) → IsFirst end f at true start → start ≡ end → runs_of (where_free f at end) ≡ []
none_from end at start f first e = no_run f at end (λ s low high. first.before s low (omega arith))

less_where_other : (a b : ℕ) → a ≤ b → (a ≡ b → ⊥) → a < b
less_where_other a b h ne = elim (cases_lt a b) [ inl lt ↦ lt | inr ge ↦ absurd (ne (omega arith)) ]

opposed : (b : Bool) → b ≡ true → b ≡ false → ⊥
opposed b e d = absurd cc

-- and its bounds
pub within : (end at start stop : ℕ) (f : ℕ → Bool) → IsFirst end f at true start → (start ≡ end → ⊥) → IsFirst end f start false stop
    → (at ≤ start) × (1 ≤ stop - start) × (start + (stop - start) ≤ end)
within end at start stop f first some last =
    let less : start < end = less_where_other start end first.to some in
    let more : start < stop = less_where_other start stop last.from (λ e. absurd (opposed (f start) (first.found less) (ap f e ∙ last.found (omega arith)))) in
    (first.from, omega arith, omega (arith, last.to))

pub run_from : (end at start stop : ℕ) (f : ℕ → Bool) → IsFirst end f at true start → (start ≡ end → ⊥) → IsFirst end f start false stop
    → runs_of (where_free f at end) ≡ run_of start (stop - start) ∷ runs_of (where_free f (start + (stop - start)) end)
run_from end at start stop f first some last =
    let less : start < end = less_where_other start end first.to some in
    let more : start < stop = less_where_other start stop last.from (λ e. absurd (opposed (f start) (first.found less) (ap f e ∙ last.found (omega arith)))) in
    let there : stop ≡ start + (stop - start) = omega arith in
    first_run f at start stop end first.from more last.to first.before last.before last.found
    ∙ ap (λ (x : ℕ). run_of start (stop - start) ∷ runs_of (where_free f x end)) there

pub bit_of : (end : ℕ) (words : List ℕ) (s : ℕ) (set : SectorsBelow) (word : ℕ) → set_of end (is_set words) ≡ set → s < set.end → s / 64 < length words → word ≡ get_or words (s / 64) word
    → (bit_and (word / 2 ^ (s % 64)) 1 == 1) ≡ contains set.sectors s
unfolding is_set
bit_of end words s set word is less inside at =
    let same : get_or words (s / 64) word ≡ get_or words (s / 64) 0 = get_or_default words (s / 64) word 0 inside in
    let here : word ≡ get_or words (s / 64) 0 = at ∙ same in
    let bit : (bit_and (word / 2 ^ (s % 64)) 1 == 1) ≡ is_set words s = ap (λ (n : ℕ). n == 1) (shr_and_one word (s % 64)) ∙ ap (λ (n : ℕ). has_bit n (s % 64)) here in
    let family : SectorsBelow → Type 0 = λ v. s < v.end → (bit_and (word / 2 ^ (s % 64)) 1 == 1) ≡ contains v.sectors s in
    subst family is (λ low. bit ∙ sym (contains_below end (is_set words) s low)) less

no_bit : (n i : ℕ) → let nothing : ℕ = 0 in get_or (replicate n nothing) i nothing ≡ nothing
no_bit zero i = refl
no_bit (suc n) zero = refl
no_bit (suc n) (suc i) = no_bit n i

unset : (n s : ℕ) → is_set (replicate n 0) s ≡ false
unfolding is_set
unset n s = ap (λ (w : ℕ). has_bit w (s % 64)) (no_bit n (s / 64)) ∙ ap (λ (b : ℕ). b == 1) (bit_at-zero (s % 64))

pub no_sector : (end n : ℕ) (words : List ℕ) → words ≡ replicate n 0 → set_of end (is_set words) ≡ set_of end (λ s. false)
no_sector end n words zeros = same_below end (is_set words) (λ s. false) (λ s less. ap (λ (w : List ℕ). is_set w s) zeros ∙ unset n s)
