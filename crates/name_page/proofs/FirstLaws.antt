-- Where none of some fields has a fault.
use Rattle.std.proofs.Common.{◌≡◌, ℕ, Bool, true, false, List, ◌∷◌, Option, Some, None, refl, ap, ◌∙◌}
use Rattle.name_page.specs.Fault.{first_bad, unless}

pub none_both : (a : Option ℕ) (rest : List (Option ℕ)) → first_bad (a ∷ rest) ≡ None → (a ≡ None) × (first_bad rest ≡ None)
none_both None rest e = (refl, e)
none_both (Some place) rest e = absurd cc

pub none_from : (a : Option ℕ) (rest : List (Option ℕ)) → a ≡ None → first_bad rest ≡ None → first_bad (a ∷ rest) ≡ None
none_from a rest e f = ap (λ (x : Option ℕ). first_bad (x ∷ rest)) e ∙ f

pub good_from : (place : ℕ) (good : Bool) → unless place good ≡ None → good ≡ true
good_from place true e = refl
good_from place false e = absurd cc

pub none_at : (place : ℕ) (good : Bool) → good ≡ true → unless place good ≡ None
none_at place good e = ap (unless place) e
