-- Flags, and pages in memory of which one is written.
use Rattle.std.proofs.Common.{◌≡◌, ℕ, ◌+◌, ◌<◌, ◌≤◌, Bool, true, false, List, [], ◌∷◌, length, cond, count_by, position, refl, ap, ◌∙◌, arith, ◌++◌, length-append}
use Rattle.std.specs.Prelude.{IsSome, get_or, slice_set}
use Rattle.std.specs.List.{fold, position_or_len}
use Rattle.std.specs.Vec.{with_item}
use Rattle.std.proofs.Math.Bridge.{le_prop}
use Rattle.std.proofs.Math.Bool.{Bool-set}
use Rattle.std.proofs.Math.Nat.{ℕ_set}
use Rattle.std.proofs.lemmas.Bool.{lt-ltb}
use Rattle.std.proofs.lemmas.List.Sums.{sum_by-set}
use Rattle.arrayvec.specs.ArrayVec.{ArrayVec}
use Rattle.name_page.specs.Accepted.{AreAccepted}
use Rattle.name_page.specs.Pages.{with_one, is_one_of}
use Rattle.name_page.specs.VecPages.{written}
use Rattle.name_page.specs.declared.vec_pages.VecPages.{VecPages}

-- where more are true than were counted before, the first of them is within
true_within : (flags : List Bool) (counted : ℕ) → counted < fold (λ (n : ℕ) (flag : Bool). n + cond flag 1 0) counted flags → position_or_len (λ flag. flag) flags < length flags
true_within [] counted h = absurd (omega (arith, h))
true_within (true ∷ flags) counted h = omega arith
true_within (false ∷ flags) counted h = omega (arith, true_within flags (counted + 0) (omega (arith, h)))

pub true_found : (flags : List Bool) → 0 < count_by (λ flag. flag) flags → IsSome (position (λ flag. flag) flags)
true_found flags h = rw (lt-ltb _ _ (true_within flags 0 h)) refl

-- a page that is spare is taken
pub count_taken : (flags : List Bool) (i : ℕ) → i < length flags → get_or flags i false ≡ true → count_by (λ spare. spare) flags ≡ count_by (λ spare. spare) (slice_set flags i false) + 1
count_taken flags i low on =
    let one : Bool → ℕ = λ t. cond t 1 0 in
    omega (arith, sum_by-set one flags i false false low, ap one on)

-- ---- a page is written

-- it is one more at most
pub one_count : (pages : List ℕ) (page : ℕ) → length (with_one pages page) ≤ length pages + 1
one_count pages page = by (is_one_of pages page)
  where
    by : (b : Bool) → length (cond b pages (pages ++ page ∷ [])) ≤ length pages + 1
    by true = omega arith
    by false = omega (arith, length-append pages (page ∷ []))

module _ (s : VecPages) (page : ℕ) (bytes : List ℕ) where
  abbrev Small : Type 0
  Small = length (with_item s.pages page bytes).items ≤ 4096

  abbrev Flags : Type 0
  Flags = length s.spare.items ≡ length (with_item s.pages page bytes).items

  abbrev Counted : Type 0
  Counted = s.free ≡ count_by (λ spare. spare) s.spare.items

  abbrev Kept : Type 0
  Kept = s.promised ≤ s.free

  abbrev Accepted : Type 0
  Accepted = AreAccepted (slice_set s.accepted page false) (with_item s.pages page bytes).items

  accepted_prop : (a b : Accepted) → a ≡ b
  accepted_prop a b = λ i p h. Bool-set _ _ (a p h) (b p h) i

  abbrev table : List ℕ → Small → Flags → Counted → Kept → Accepted → VecPages
  table changed small flags counted kept accepted = record {
    pages = with_item s.pages page bytes;
    spare = s.spare;
    free = s.free;
    accepted = slice_set s.accepted page false;
    home_a = s.home_a;
    reached = s.reached;
    changed = record { items = changed };
    promised = s.promised;
    refusal = s.refusal;
    small = small;
    flags = flags;
    counted = counted;
    kept = kept;
    are_accepted = accepted;
  }

  -- pages with the same fields are the same
  pub same_written : (changed : ArrayVec ℕ) (small : Small) (flags : Flags) (counted : Counted) (kept : Kept) (accepted : Accepted) → changed.items ≡ with_one s.changed.items page → table changed.items small flags counted kept accepted ≡ written s page bytes
  same_written changed small flags counted kept accepted e =
      let w = written s page bytes in
      ap (λ (x : List ℕ). table x small flags counted kept accepted) e
      ∙ ap (λ (x : Small). table w.changed.items x flags counted kept accepted) (le_prop small w.small)
      ∙ ap (λ (x : Flags). table w.changed.items w.small x counted kept accepted) (ℕ_set _ _ flags w.flags)
      ∙ ap (λ (x : Counted). table w.changed.items w.small w.flags x kept accepted) (ℕ_set _ _ counted w.counted)
      ∙ ap (λ (x : Kept). table w.changed.items w.small w.flags w.counted x accepted) (le_prop kept w.kept)
      ∙ ap (λ (x : Accepted). table w.changed.items w.small w.flags w.counted w.kept x) (accepted_prop accepted w.are_accepted)
