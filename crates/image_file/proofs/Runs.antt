-- The run that a write begins or goes on with.
use Rattle.std.proofs.Common.{◌≡◌, inl, inr, ℕ, ◌≤◌, ◌/◌, Bool, true, false, refl, sym, ap, subst, arith, eq-eqb, if◌then◌else◌}
use Rattle.image_file.specs.declared.disk.Disk.{Disk}
use Rattle.image_file.specs.declared.standing.Standing.{Standing}
use Rattle.image_file.specs.declared.standing.Standing.TheVariants.{Synced, Unsynced, Broken}
use Rattle.image_file.specs.declared.stretch.Stretch.{Stretch}
use Rattle.image_file.specs.Ahead.{AreApart, IsOut, blocks_of}
use Rattle.image_file.specs.Disk.{IsOpenAt}
use Rattle.image_file.specs.Standing.{first_of, run_from}
use Rattle.image_file.specs.Stretch.{AddsOnly, HoldsSector}

-- where a run ends
abbrev next_of : Standing → ℕ
next_of Synced = 0
next_of (Unsynced first next) = next
next_of (Broken first) = 0

-- a run that is another has its ends
pub same_run : (first next other end : ℕ) → Unsynced first next ≡ Unsynced other end → (first ≡ other) × (next ≡ end)
same_run first next other end e = (ap first_of e, ap next_of e)

goes_from : (b : Bool) (first sector : ℕ) → b ≡ true → (if b then first else sector) ≡ first
goes_from true first sector e = refl
goes_from false first sector e = cc

run_is : (first sector : ℕ) → run_from sector (Unsynced first sector) ≡ first
run_is first sector = goes_from _ first sector (eq-eqb sector sector refl)

module _ (d : Disk) (sector : ℕ) (open_at : IsOpenAt sector d) where
  -- its first sector is no later one
  pub run_begins : run_from sector d.standing ≤ sector
  run_begins = elim open_at [
    | inl synced ↦ subst (λ (s : Standing). run_from sector s ≤ sector) (sym synced.0) (omega arith)
    | inr run ↦ subst (λ (s : Standing). run_from sector s ≤ sector) (sym run.1) (omega (arith, run_is run.0 sector, (d.run run.0 sector run.1).0))
  ]

  -- what waits is of it
  waits_in : (s : ℕ) → HoldsSector d.pending s → run_from sector d.standing ≤ s
  waits_in s held = elim open_at [
    | inl synced ↦ absurd (omega (arith, synced.1, held.0, held.1))
    | inr run ↦
        let first : first_of (Unsynced run.0 sector) ≤ s = subst (λ (x : Standing). first_of x ≤ s) run.1 (d.waiting s held) in
        subst (λ (x : Standing). run_from sector x ≤ s) (sym run.1) (omega (arith, run_is run.0 sector, first))
  ]

  module _ (count : ℕ) (pending : Stretch) (only : AddsOnly sector count d.pending pending) (s : ℕ) (held : HoldsSector pending s) where
    -- and so is what waits with slots of the write behind it
    pub still_in : run_from sector d.standing ≤ s
    still_in = elim (only s held) [ inl part ↦ omega (arith, run_begins, part.0) | inr kept ↦ waits_in s kept.0 ]

    -- none of these is read ahead
    pub still_apart : AreApart sector count d.ahead → IsOut (blocks_of d.ahead) (s / 64)
    still_apart apart = elim (only s held) [ inl part ↦ apart s part | inr kept ↦ d.apart s kept.0 ]
