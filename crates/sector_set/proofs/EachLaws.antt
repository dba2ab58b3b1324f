-- What holds of each sector of runs, shown run by run.
use Rattle.std.proofs.Common.{◌≡◌, ℕ, suc, zero, ◌+◌, ◌<◌, ◌≤◌, ◌⊎◌, Bool, true, false, not, ◌-◌, ◌&&◌, ◌||◌, List, ◌++◌, length, take, drop, length-drop, get_or, refl, sym, ap, ◌∙◌, inl, inr, arith}
use Rattle.std.specs.Prelude.{nat_lt}
use Rattle.std.specs.List.{list_any, range_with_len}
use Rattle.std.proofs.lemmas.Bool.{or_cases, or_left, or_right, both_ways, lt-leb}
use Rattle.std.proofs.lemmas.List.{drop_more, drop_all, take_all}
use Rattle.std.proofs.lemmas.List.Folds.{list_any-append}
use Rattle.run_table.specs.declared.run.Run.{Run}
use Rattle.run_table.specs.RunTable.{sectors_of}
use Rattle.run_table.specs.Space.{contains, all_differ}
use Rattle.sector_set.proofs.FreeLaws.{contains_range}
use Rattle.sector_set.proofs.MeetLaws.{within_range, in_range}

-- each sector of the runs passes, or is one of those from this run on
abbrev pub Passed : (ℕ → Type 0) → List Run → ℕ → Type 0
Passed P runs k = (s : ℕ) → contains (sectors_of runs) s ≡ true → P s ⊎ (contains (sectors_of (drop k runs)) s ≡ true)

contains-drop : (runs : List Run) (k : ℕ) (d : Run) (s : ℕ) → k < length runs
    → contains (sectors_of (drop k runs)) s ≡ (contains (range_with_len (get_or runs k d).start (get_or runs k d).length) s || contains (sectors_of (drop (k + 1) runs)) s)
contains-drop runs k d s inside =
    ap (λ (x : List Run). contains (sectors_of x) s) (drop_more runs k d inside)
    ∙ list_any-append _ (range_with_len (get_or runs k d).start (get_or runs k d).length) (sectors_of (drop (k + 1) runs))

pub passed_more : (P : ℕ → Type 0) (runs : List Run) (k : ℕ) (d : Run) → k < length runs
    → ((s : ℕ) → (get_or runs k d).start ≤ s → s < (get_or runs k d).start + (get_or runs k d).length → P s)
    → Passed P runs k → Passed P runs (k + 1)
passed_more P runs k d inside here so_far s c =
    elim (so_far s c) [
      | inl holds ↦ inl holds
      | inr left ↦ elim (or_cases (contains (range_with_len (get_or runs k d).start (get_or runs k d).length) s) (contains (sectors_of (drop (k + 1) runs)) s) (sym (contains-drop runs k d s inside) ∙ left)) [
        | inl first ↦ let w = within_range (get_or runs k d).start (get_or runs k d).length s first in inl (here s w.0 w.1)
        | inr later ↦ inr later
      ]
    ]

pub passed_all : (P : ℕ → Type 0) (runs : List Run) (k : ℕ) → length runs ≤ k → Passed P runs k → (s : ℕ) → contains (sectors_of runs) s ≡ true → P s
passed_all P runs k over so_far s c =
    elim (so_far s c) [
      | inl holds ↦ holds
      | inr left ↦ absurd (both_ways (contains (sectors_of (drop k runs)) s) (ap (λ (x : List Run). contains (sectors_of x) s) (drop_all k runs over)) left)
    ]

-- those from this run on are the runs' own
abbrev pub AreOwn : List Run → ℕ → Type 0
AreOwn runs k = (s : ℕ) → contains (sectors_of (drop k runs)) s ≡ true → contains (sectors_of runs) s ≡ true

pub own_more : (runs : List Run) (k : ℕ) (d : Run) → k < length runs → AreOwn runs k → AreOwn runs (k + 1)
own_more runs k d inside own s later =
    own s (contains-drop runs k d s inside ∙ or_right (contains (range_with_len (get_or runs k d).start (get_or runs k d).length) s) (contains (sectors_of (drop (k + 1) runs)) s) later)

pub own_here : (runs : List Run) (k : ℕ) (d : Run) → k < length runs → AreOwn runs k
    → (s : ℕ) → (get_or runs k d).start ≤ s → s < (get_or runs k d).start + (get_or runs k d).length → contains (sectors_of runs) s ≡ true
own_here runs k d inside own s low high =
    own s (contains-drop runs k d s inside ∙ or_left (contains (range_with_len (get_or runs k d).start (get_or runs k d).length) s) (contains (sectors_of (drop (k + 1) runs)) s)
    (in_range (get_or runs k d).start (get_or runs k d).length s low high))

-- ---- each sector named once

de_morgan : (p q r : Bool) → (not p && (not q && r)) ≡ (not (p || q) && r)
de_morgan true q r = refl
de_morgan false q r = refl

range_split : (a n : ℕ) (ys : List ℕ) → all_differ (range_with_len a n ++ ys) ≡ (not (list_any (contains ys) (range_with_len a n)) && all_differ ys)
range_split a zero ys = refl
range_split a (suc n) ys =
    let tail : List ℕ = range_with_len (a + 1) n in
    ap (λ (b : Bool). not b && all_differ (tail ++ ys)) (list_any-append _ tail ys
    ∙ ap (λ (b : Bool). b || contains ys a) (contains_range (a + 1) n a ∙ ap (λ (b : Bool). b && nat_lt a (a + 1 + n)) (lt-leb (a + 1) a (omega arith))))
    ∙ ap (λ (b : Bool). not (contains ys a) && b) (range_split (a + 1) n ys)
    ∙ de_morgan (contains ys a) (list_any (contains ys) tail) (all_differ ys)

-- a run shares no sector with those behind it, and these differ
pub differ_split : (runs : List Run) (k : ℕ) (d : Run) → k < length runs
    → all_differ (sectors_of (drop k runs)) ≡ (not (list_any (contains (sectors_of (drop (k + 1) runs))) (range_with_len (get_or runs k d).start (get_or runs k d).length)) && all_differ (sectors_of (drop (k + 1) runs)))
differ_split runs k d inside =
    ap (λ (x : List Run). all_differ (sectors_of x)) (drop_more runs k d inside)
    ∙ range_split (get_or runs k d).start (get_or runs k d).length (sectors_of (drop (k + 1) runs))

-- a slice up to the end is all that is left
behind : (runs : List Run) (k : ℕ) (xs : List ℕ) → list_any (contains (sectors_of (take (length runs - (k + 1)) (drop (k + 1) runs)))) xs ≡ list_any (contains (sectors_of (drop (k + 1) runs))) xs
behind runs k xs = ap (λ (x : List Run). list_any (contains (sectors_of x)) xs) (take_all (length runs - (k + 1)) (drop (k + 1) runs) (omega (arith, length-drop (k + 1) runs)))

pub differ_found : (runs : List Run) (k : ℕ) (d : Run) (all found : Bool) → k < length runs → all_differ (sectors_of (drop k runs)) ≡ all
    → found ≡ list_any (contains (sectors_of (take (length runs - (k + 1)) (drop (k + 1) runs)))) (range_with_len (get_or runs k d).start (get_or runs k d).length) → found ≡ true → false ≡ all
differ_found runs k d all found inside so_far here e =
    sym (sym so_far ∙ differ_split runs k d inside
    ∙ ap (λ (b : Bool). not b && all_differ (sectors_of (drop (k + 1) runs))) (sym (behind runs k (range_with_len (get_or runs k d).start (get_or runs k d).length)) ∙ sym here ∙ e))

pub differ_passed : (runs : List Run) (k : ℕ) (d : Run) (all found : Bool) → k < length runs → all_differ (sectors_of (drop k runs)) ≡ all
    → found ≡ list_any (contains (sectors_of (take (length runs - (k + 1)) (drop (k + 1) runs)))) (range_with_len (get_or runs k d).start (get_or runs k d).length) → found ≡ false → all_differ (sectors_of (drop (k + 1) runs)) ≡ all
differ_passed runs k d all found inside so_far here e =
    sym (differ_split runs k d inside
    ∙ ap (λ (b : Bool). not b && all_differ (sectors_of (drop (k + 1) runs))) (sym (behind runs k (range_with_len (get_or runs k d).start (get_or runs k d).length)) ∙ sym here ∙ e))
    ∙ so_far

pub differ_end : (runs : List Run) (k : ℕ) → length runs ≤ k → all_differ (sectors_of (drop k runs)) ≡ true
differ_end runs k over = ap (λ (x : List Run). all_differ (sectors_of x)) (drop_all k runs over)
