-- The creations that are not finished, once slices of one of them are written.
use Rattle.std.proofs.Common.{◌≡◌, ℕ, Bool, true, false, cond, List, [], ◌∷◌, refl, ap, Option, Some}
use Rattle.std.specs.Prelude.{map}
use Rattle.run_table.specs.declared.run.Run.{Run}
use Rattle.run_table.specs.RunTable.{same_runs}
use Rattle.volume_contract.specs.Pieces.{drafts_with, slices_in}
use Rattle.volume_contract.specs.State.{WrittenDraft}

-- their runs stay
pub runs_with : (drafts : List WrittenDraft) (r : List Run) (s : List (Option (List ℕ))) → map (λ x. x.runs) (drafts_with drafts r s) ≡ map (λ x. x.runs) drafts
runs_with [] r s = refl
runs_with (x ∷ drafts) r s = by (same_runs x.runs r) (runs_with drafts r s)
  where
    by : (b : Bool) → map (λ x. x.runs) (drafts_with drafts r s) ≡ map (λ x. x.runs) drafts → map (λ x. x.runs) (cond b (record { runs = x.runs; slices = s } ∷ drafts) (x ∷ drafts_with drafts r s)) ≡ x.runs ∷ map (λ x. x.runs) drafts
    by true more = refl
    by false more = ap (λ (xs : List (List Run)). x.runs ∷ xs) more

-- one that has these very slices is as it was
pub slices_same : (drafts : List WrittenDraft) (r : List Run) (s : List (Option (List ℕ))) → slices_in drafts r ≡ Some s → drafts_with drafts r s ≡ drafts
slices_same [] r s is = refl
slices_same (x ∷ drafts) r s is = by (same_runs x.runs r) (slices_same drafts r s) is
  where
    by : (b : Bool) → (slices_in drafts r ≡ Some s → drafts_with drafts r s ≡ drafts) → cond b (Some x.slices) (slices_in drafts r) ≡ Some s → cond b (record { runs = x.runs; slices = s } ∷ drafts) (x ∷ drafts_with drafts r s) ≡ x ∷ drafts
    by true more is = let e : s ≡ x.slices = cc in ap (λ (t : List (Option (List ℕ))). record { runs = x.runs; slices = t } ∷ drafts) e
    by false more is = ap (λ (xs : List WrittenDraft). x ∷ xs) (more is)
