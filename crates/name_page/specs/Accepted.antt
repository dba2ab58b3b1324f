-- Pages that were read once.
use Rattle.std.specs.Prelude.{◌≡◌, ℕ, zero, suc, Bool, true, false, ◌==◌, ⊤, List, [], ◌∷◌, length, is_some, option_and_then, slice_get, slice_set, slice_index_or}
use Rattle.std.proofs.Common.{refl, sym, ap, subst, ◌∙◌}
use Rattle.std.proofs.lemmas.Bool.{eqb-true, eq-eqb}
use Rattle.std.proofs.lemmas.List.{length-set, get_or-set_other}
use Rattle.fsd_formats.specs.NamePage.{read_page}
use Rattle.fsd_table.specs.Pages.{page_at}

-- the grammar accepts the pages that are marked
abbrev pub AreAccepted : List Bool → List (List ℕ) → Type 0
AreAccepted marks pages = (page : ℕ) → slice_index_or marks page false ≡ true → is_some (page_at pages page) ≡ true

-- ---- one page is written, and has no mark

pub set_other : (pages : List (List ℕ)) (page q : ℕ) (bytes : List ℕ) → (q ≡ page → ⊥) → slice_get (slice_set pages page bytes) q ≡ slice_get pages q
set_other [] page q bytes differs = refl
set_other (x ∷ pages) zero zero bytes differs = absurd (differs refl)
set_other (x ∷ pages) zero (suc q) bytes differs = refl
set_other (x ∷ pages) (suc page) zero bytes differs = refl
set_other (x ∷ pages) (suc page) (suc q) bytes differs = set_other pages page q bytes (λ e. differs (ap suc e))

-- the other pages have what they had
pub at_other : (pages : List (List ℕ)) (page q : ℕ) (bytes : List ℕ) → (q ≡ page → ⊥) → page_at (slice_set pages page bytes) q ≡ page_at pages q
unfolding page_at
at_other pages page q bytes differs =
    ap (λ (n : ℕ). option_and_then (read_page q n) (slice_get (slice_set pages page bytes) q)) (length-set pages page bytes)
    ∙ ap (option_and_then (read_page q (length pages))) (set_other pages page q bytes differs)

abbrev IsOff : Bool → Type 0
IsOff true = ⊥
IsOff false = ⊤

pub never_both : false ≡ true → ⊥
never_both e = subst IsOff e tt

pub differ : (q page : ℕ) → (q == page) ≡ false → q ≡ page → ⊥
differ q page is e = never_both (sym is ∙ eq-eqb q page e)

cleared : (marks : List Bool) (page : ℕ) → slice_index_or (slice_set marks page false) page false ≡ false
cleared [] page = refl
cleared (x ∷ marks) zero = refl
cleared (x ∷ marks) (suc page) = cleared marks page

pub still_accepted : (marks : List Bool) (pages : List (List ℕ)) (page : ℕ) (bytes : List ℕ) → AreAccepted marks pages → AreAccepted (slice_set marks page false) (slice_set pages page bytes)
still_accepted marks pages page bytes all = λ q h. by q (q == page) refl h
  where
    by : (q : ℕ) (b : Bool) → (q == page) ≡ b → slice_index_or (slice_set marks page false) q false ≡ true → is_some (page_at (slice_set pages page bytes) q) ≡ true
    by q true is h = absurd (never_both (sym (ap (λ (p : ℕ). slice_index_or (slice_set marks page false) p false) (eqb-true q page is) ∙ cleared marks page) ∙ h))
    by q false is h = ap is_some (at_other pages page q bytes (differ q page is)) ∙ all q (sym (get_or-set_other marks page q false false (differ q page is)) ∙ h)
