-- A machine whose windows are calm: what its calls say of images are equations.
use Rattle.std.proofs.Common.{◌≡◌, inl, inr, ℕ, ◌+◌, Bool, List, length, take, take_all, set, Option, Some, None, ◌∙◌, ap, subst, arith}
use Rattle.std.specs.Prelude.{IsTrue, IfSome}
use Rattle.std.proofs.lemmas.Bool.{and_parts}
use Rattle.std.proofs.lemmas.Bool.Decides.{nat_tests}
use Rattle.std.proofs.lemmas.List.{ext_get_or}
use Rattle.sector_disk.specs.declared.sector.Sector.{Sector}
use Rattle.sector_disk.specs.declared.sector.Sector.TheVariants.{Whole, Damaged}
use Rattle.sector_disk.specs.declared.sector.WeakRun.{WeakRun}
use Rattle.sector_disk.specs.Image.{stand, with_sector, IsWorn, in_weak_run, Windows, IsEmpty, IsCalm, weak, open_damage}

-- no place lies in an empty run
in_empty : (run : WeakRun) (place : ℕ) → IsEmpty run → IsTrue (in_weak_run run place) → ⊥
in_empty run place empty within = grind (arith, nat_tests)

-- a calm window leaves no sector to damage
pub calm_nowhere : (present next : Option WeakRun) (place : ℕ) → IfSome present IsEmpty → IfSome next IsEmpty → IsTrue (weak present next place) → ⊥
calm_nowhere None None place p n h = absurd cc
calm_nowhere (Some run) None place p n h = in_empty run place p h
calm_nowhere None (Some next) place p n h = in_empty next place n h
calm_nowhere (Some run) (Some next) place p n h = in_empty run place p (and_parts (in_weak_run run place) (in_weak_run next place) h).0

-- where no sector may be damaged, the image stays
pub worn_not : (may : ℕ → Bool) (i j : List Sector) → ((place : ℕ) → IsTrue (may place) → ⊥) → IsWorn may i j → j ≡ i
worn_not may i j strong worn = ext_get_or Damaged j i worn.size (λ place lt. elim (worn.each place) [ inl same ↦ same | inr hurt ↦ absurd (strong place hurt.0) ])

pub calm_worn : (windows : Windows) (i j : List Sector) → IsCalm windows → IsWorn (open_damage windows) i j → j ≡ i
calm_worn windows i j calm worn = worn_not (open_damage windows) i j (λ place h. calm_nowhere windows.present windows.next place calm.present calm.next h) worn

-- a write of one sector
pub stand_one : (image : List Sector) (place : ℕ) (bytes : List ℕ) → length bytes ≡ 512 → stand image place bytes 1 ≡ with_sector image place bytes
stand_one image place bytes size =
    let here : place + 0 ≡ place = omega arith in
    let all : take 512 bytes ≡ bytes = take_all 512 bytes (omega (arith, size)) in
    ap (λ (at : ℕ). set image at (Whole (take 512 bytes))) here ∙ ap (λ (b : List ℕ). set image place (Whole b)) all

-- the windows are calm where those of a later moment are, which are the same
pub same_calm : (old new : Windows) → new ≡ old → IsCalm new → IsCalm old
same_calm old new same calm = subst (λ (w : Windows). IsCalm w) same calm
