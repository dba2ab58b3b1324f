-- What stays from one call of a step to the next.
use Rattle.std.proofs.Common.{◌≡◌, ℕ, Bool, true, false, ◌||◌, List, [], ◌∷◌, ◌++◌, ap, refl, ◌∙◌}
use Rattle.std.proofs.lemmas.Bool.{eq-eqb}
use Rattle.std.specs.Prelude.{◌==◌}
use Rattle.std.proofs.Math.Bool.{or-true}
use Rattle.std.proofs.lemmas.List.Folds.{list_any-append}
use Rattle.name_page.specs.Pages.{is_one_of}

pub last_is_one : (pages : List ℕ) (page : ℕ) → is_one_of (pages ++ page ∷ []) page ≡ true
last_is_one pages page =
    list_any-append (λ (other : ℕ). other == page) pages (page ∷ []) ∙ ap (λ (x : Bool). is_one_of pages page || (x || false)) (eq-eqb page page refl) ∙ or-true (is_one_of pages page)
