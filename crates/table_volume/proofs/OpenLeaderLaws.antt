-- What is open stands where a leader is written: no draft has it, and no reader holds it but as a leader.
use Rattle.std.proofs.Common.{◌≡◌, ◌≢◌, inl, inr, ℕ, ◌<◌, Bool, true, false, ◌||◌, not, List, [], ◌∷◌, ◌++◌, take, Option, None, Some, sym, ap, subst, arith}
use Rattle.std.specs.Prelude.{◌==◌, Contains, IsTrue}
use Rattle.std.specs.List.{AllByRecursion, AllZip, flat_map, list_all, list_any}
use Rattle.std.proofs.lemmas.Bool.{and_parts, or_cases}
use Rattle.std.proofs.lemmas.List.Elements.{All-contains, All-from_recursion}
use Rattle.run_table.specs.declared.run.Run.{Run}
use Rattle.run_table.specs.RunTable.{same_runs, sectors_of}
use Rattle.run_table.specs.Space.{all_differ, contains}
use Rattle.run_table.proofs.SameLaws.{same_runs_are}
use Rattle.run_table.proofs.SectorLaws.{first_there, rest_there}
use Rattle.fsd_formats.specs.declared.entry.Entry.{Entry}
use Rattle.sector_disk.specs.Image.{sector_at}
use Rattle.sector_set.proofs.MeetLaws.{any_at}
use Rattle.fsd_files.specs.Disk.{Has, Image, Sectors}
use Rattle.fsd_files.specs.Kept.{KeptIn, data_sectors, filled_slices}
use Rattle.fsd_files.specs.Volume.{plans_of}
use Rattle.fsd_files.specs.Waiting.{IsSpaced, are_same_or_apart, is_leader}
use Rattle.fsd_files.proofs.ChangeLaws.{used-append}
use Rattle.fsd_table.proofs.BoundLaws.{all_weaker}
use Rattle.fsd_files.proofs.CountLaws.{contains_occurs, differ_occurs, used, used-cons}
use Rattle.fsd_files.proofs.KeptLaws.{behind_there, has_on}
use Rattle.fsd_sound.specs.Mounted.{HasOpen, Mounted, Wrote}
use Rattle.volume_contract.specs.State.{StandWritten}

-- ---- sectors beside the one that is written

-- the sector is none of the data of these runs
abbrev pub IsBeside : (s : ℕ) → List Run → Type 0
IsBeside s runs = (t : ℕ) → IsTrue (contains (data_sectors runs) t) → t ≡ s → ⊥

module _ (i j : Image) (s : ℕ) (same : (t : ℕ) → t ≢ s → sector_at j t ≡ sector_at i t) (hurt : Sectors) where
  kept_same : (bs : List (List ℕ)) (ys : List ℕ) → ((t : ℕ) → IsTrue (contains ys t) → t ≡ s → ⊥) → AllZip (Has hurt i) bs ys → AllZip (Has hurt j) bs ys
  kept_same [] [] beside kept = tt
  kept_same [] (y ∷ ys) beside kept = absurd kept
  kept_same (b ∷ bs) [] beside kept = absurd kept
  kept_same (b ∷ bs) (y ∷ ys) beside kept =
      (has_on hurt i j b y (inl (same y (beside y (first_there y ys)))) kept.0, kept_same bs ys (λ t there. beside t (rest_there y t ys there)) kept.1)

  wrote_one : (o : Option (List ℕ)) (y : ℕ) → (y ≡ s → ⊥) → Wrote hurt i o y → Wrote hurt j o y
  wrote_one None y beside wrote = tt
  wrote_one (Some b) y beside wrote = has_on hurt i j b y (inl (same y beside)) wrote

  wrote_same : (os : List (Option (List ℕ))) (ys : List ℕ) → ((t : ℕ) → IsTrue (contains ys t) → t ≡ s → ⊥) → AllZip (Wrote hurt i) os ys → AllZip (Wrote hurt j) os ys
  wrote_same [] [] beside wrote = tt
  wrote_same [] (y ∷ ys) beside wrote = absurd wrote
  wrote_same (o ∷ os) [] beside wrote = absurd wrote
  wrote_same (o ∷ os) (y ∷ ys) beside wrote = (wrote_one o y (beside y (first_there y ys)) wrote.0, wrote_same os ys (λ t there. beside t (rest_there y t ys there)) wrote.1)

  held_same : (bytes : List (List ℕ)) (held : List (List Run)) → AllByRecursion (IsBeside s) held → AllZip (KeptIn i hurt) bytes held → AllZip (KeptIn j hurt) bytes held
  held_same [] [] beside kept = tt
  held_same [] (r ∷ held) beside kept = absurd kept
  held_same (b ∷ bytes) [] beside kept = absurd kept
  held_same (b ∷ bytes) (r ∷ held) beside kept = (kept_same (filled_slices b) (data_sectors r) beside.0 kept.0, held_same bytes held beside.1 kept.1)

  drafts_same : (os : List (List (Option (List ℕ)))) (drafts : List (List Run)) → AllByRecursion (IsBeside s) drafts
      → AllZip (λ slices runs. AllZip (Wrote hurt i) slices (data_sectors runs)) os drafts → AllZip (λ slices runs. AllZip (Wrote hurt j) slices (data_sectors runs)) os drafts
  drafts_same [] [] beside wrote = tt
  drafts_same [] (r ∷ drafts) beside wrote = absurd wrote
  drafts_same (o ∷ os) [] beside wrote = absurd wrote
  drafts_same (o ∷ os) (r ∷ drafts) beside wrote = (wrote_same o (data_sectors r) beside.0 wrote.0, drafts_same os drafts beside.1 wrote.1)

-- ---- drafts

front_in : (s : ℕ) (xs : List ℕ) → IsTrue (contains (take 1 xs) s) → IsTrue (contains xs s)
front_in s [] there = there
front_in s (x ∷ xs) there = elim (or_cases (x == s) false there) [ inl e ↦ ap (λ (b : Bool). b || contains xs s) e | inr never ↦ absurd (cc never) ]

used_led : (s : ℕ) (entries : List Entry) → IsTrue (is_leader entries s) → 0 < used s (plans_of entries)
used_led s [] is = absurd (cc is)
used_led s (e ∷ entries) is = elim (or_cases (contains (take 1 (sectors_of e.runs)) s) (is_leader entries s) is) [
  | inl here ↦ omega (arith, used-cons s e.runs (plans_of entries), contains_occurs s (sectors_of e.runs) (front_in s (sectors_of e.runs) here))
  | inr more ↦ omega (arith, used-cons s e.runs (plans_of entries), used_led s entries more)
]

none_used : (s : ℕ) (drafts : List (List Run)) → used s drafts ≡ 0 → AllByRecursion (IsBeside s) drafts
none_used s [] none = tt
none_used s (r ∷ drafts) none = (
  λ t there is.
      let here : IsTrue (contains (sectors_of r) s) = subst (λ (x : ℕ). IsTrue (contains (sectors_of r) x)) is (behind_there t (sectors_of r) there) in
      absurd (omega (arith, none, used-cons s r drafts, contains_occurs s (sectors_of r) here)),
  none_used s drafts (omega (arith, none, used-cons s r drafts)),
)

-- ---- held versions

all_pass : {A : Type 0} (test : A → Bool) (xs : List A) → IsTrue (list_all test xs) → AllByRecursion (λ x. IsTrue (test x)) xs
all_pass test [] all = tt
all_pass test (x ∷ xs) all = let parts = and_parts (test x) (list_all test xs) all in (parts.0, all_pass test xs parts.1)

-- a reader holds the leader's version, or nothing of it
held_beside : (s : ℕ) (e : Entry) → IsTrue (contains (sectors_of e.runs) s) → IsBeside s e.runs → (held : List Run) → IsTrue (are_same_or_apart held e.runs) → IsBeside s held
held_beside s e here beside held is = elim (or_cases (same_runs held e.runs) (not (list_any (λ t. contains (sectors_of held) t) (sectors_of e.runs))) is) [
  | inl same ↦ subst (IsBeside s) (sym (same_runs_are held e.runs same)) beside
  | inr apart ↦ (λ t there at.
      let met : list_any (λ t. contains (sectors_of held) t) (sectors_of e.runs) ≡ true = any_at (λ t. contains (sectors_of held) t) (sectors_of e.runs) s here (subst (λ (x : ℕ). IsTrue (contains (sectors_of held) x)) at (behind_there t (sectors_of held) there)) in
      let no : not (list_any (λ t. contains (sectors_of held) t) (sectors_of e.runs)) ≡ false = ap not met in
      absurd (cc (no, apart)))
]

-- ---- both

-- no creation lies in a leader
beside_drafts : (m : Mounted) (s : ℕ) → IsSpaced m.volume → IsTrue (is_leader m.volume.entries s) → AllByRecursion (IsBeside s) m.volume.drafts
beside_drafts m s spaced leads = none_used s m.volume.drafts none
  where
    none : used s m.volume.drafts ≡ 0
    none =
        let plans = plans_of m.volume.entries in
        let once = differ_occurs (flat_map sectors_of (plans ++ m.volume.drafts)) (and_parts (all_differ (flat_map sectors_of (plans ++ m.volume.drafts))) _ spaced.apart).0 s in
        omega (arith, once, used-append s plans m.volume.drafts, used_led s m.volume.entries leads)

pub drafts_stand : (m : Mounted) (weak : Sectors) (i j : Image) (s : ℕ) → ((t : ℕ) → t ≢ s → sector_at j t ≡ sector_at i t) → IsSpaced m.volume → IsTrue (is_leader m.volume.entries s)
    → StandWritten weak i m.slices m.volume.drafts → StandWritten weak j m.slices m.volume.drafts
drafts_stand m weak i j s same spaced leads written = drafts_same i j s same weak m.slices m.volume.drafts (beside_drafts m s spaced leads) written

pub open_stands : (m : Mounted) (hurt : Sectors) (i j : Image) (e : Entry) (s : ℕ) → ((t : ℕ) → t ≢ s → sector_at j t ≡ sector_at i t)
    → IsSpaced m.volume → Contains m.volume.entries e → IsTrue (contains (sectors_of e.runs) s) → IsTrue (is_leader m.volume.entries s) → AllByRecursion (λ e. IsBeside s e.runs) m.volume.entries → HasOpen hurt i m → HasOpen hurt j m
open_stands m hurt i j e s same spaced has here leads beside stands = record {
  drafts = drafts_stand m hurt i j s same spaced leads stands.drafts;
  held = held_same i j s same hurt m.bytes m.volume.held
      (all_weaker (λ r. IsTrue (list_all (λ x. are_same_or_apart r x.runs) m.volume.entries)) (IsBeside s) m.volume.held by_version
      (all_pass (λ r. list_all (λ x. are_same_or_apart r x.runs) m.volume.entries) m.volume.held spaced.held)) stands.held;
}
  where
    own : IsBeside s e.runs
    own = All-contains (λ (x : Entry). IsBeside s x.runs) m.volume.entries e (All-from_recursion (λ (x : Entry). IsBeside s x.runs) m.volume.entries beside) has

    by_version : (r : List Run) → IsTrue (list_all (λ x. are_same_or_apart r x.runs) m.volume.entries) → IsBeside s r
    by_version r all = held_beside s e here own r
        (All-contains (λ (x : Entry). IsTrue (are_same_or_apart r x.runs)) m.volume.entries e (All-from_recursion (λ (x : Entry). IsTrue (are_same_or_apart r x.runs)) m.volume.entries (all_pass (λ x. are_same_or_apart r x.runs) m.volume.entries all)) has)
