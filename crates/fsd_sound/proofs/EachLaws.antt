-- A list that is made item by item, where each item can be made.
use Rattle.std.proofs.Common.{◌≡◌, ℕ, zero, suc, ◌+◌, ◌<◌, ◌≤◌, List, [], ◌∷◌, length, map, get_or, Option, Some, None, refl, sym, ap, ◌∙◌, arith}
use Rattle.std.specs.Prelude.{option_map, option_and_then}
use Rattle.std.specs.List.{AllByRecursion, range_with_len}
use Rattle.fsd_sound.specs.Shown.{each_of}

pub all_in_range : (P : ℕ → Type 0) (a n : ℕ) → ((k : ℕ) → a ≤ k → k < a + n → P k) → AllByRecursion P (range_with_len a n)
all_in_range P a zero h = tt
all_in_range P a (suc n) h = (h a (omega arith) (omega arith), all_in_range P (a + 1) n (λ k le lt. h k (omega arith) (omega arith)))

pub each_of_same : {A B : Type 0} (f g : A → Option B) (xs : List A) → AllByRecursion (λ x. f x ≡ g x) xs → each_of f xs ≡ each_of g xs
each_of_same f g [] h = refl
each_of_same f g (x ∷ xs) h =
    ap (λ o. option_and_then (λ y. option_map (λ ys. y ∷ ys) (each_of f xs)) o) h.0
    ∙ ap (λ rest. option_and_then (λ y. option_map (λ ys. y ∷ ys) rest) (g x)) (each_of_same f g xs h.1)

pub each_of_all : {A B : Type 0} (f : A → Option B) (g : A → B) (xs : List A) → AllByRecursion (λ x. f x ≡ Some (g x)) xs → each_of f xs ≡ Some (map g xs)
each_of_all f g [] h = refl
each_of_all f g (x ∷ xs) h =
    ap (λ o. option_and_then (λ y. option_map (λ ys. y ∷ ys) (each_of f xs)) o) h.0 ∙ ap (λ o. option_map (λ ys. g x ∷ ys) o) (each_of_all f g xs h.1)

first_parts : {B : Type 0} (o : Option B) (rest : Option (List B)) (ys : List B) → option_and_then (λ y. option_map (λ more. y ∷ more) rest) o ≡ Some ys → (y : B) × (more : List B) × (o ≡ Some y) × (rest ≡ Some more) × (y ∷ more ≡ ys)
first_parts None rest ys e = absurd (cc e)
first_parts (Some y) None ys e = absurd (cc e)
first_parts (Some y) (Some more) ys e = (y, more, refl, refl, cc)

-- the item at a place
pub each_at : {B : Type 0} (f : ℕ → Option B) (from n : ℕ) (ys : List B) (d : B) → each_of f (range_with_len from n) ≡ Some ys → (k : ℕ) → k < n → f (from + k) ≡ Some (get_or ys k d)
each_at f from zero ys d e k lt = absurd (omega arith)
each_at f from (suc n) ys d e zero lt =
    let parts = first_parts (f from) (each_of f (range_with_len (from + 1) n)) ys e in
    let here : from + 0 ≡ from = omega arith in
    ap f here ∙ parts.2 ∙ ap (λ (zs : List _). Some (get_or zs 0 d)) parts.4
each_at f from (suc n) ys d e (suc k) lt =
    let parts = first_parts (f from) (each_of f (range_with_len (from + 1) n)) ys e in
    let there : from + suc k ≡ (from + 1) + k = omega arith in
    ap f there ∙ each_at f (from + 1) n parts.1 d parts.3 k (omega arith) ∙ ap (λ (zs : List _). Some (get_or zs (suc k) d)) parts.4

pub each_size : {A B : Type 0} (f : A → Option B) (xs : List A) (ys : List B) → each_of f xs ≡ Some ys → length ys ≡ length xs
each_size f [] ys is = let none : [] ≡ ys = cc is in ap (λ (zs : List _). length zs) (sym none)
each_size f (x ∷ xs) ys is =
    let parts = first_parts (f x) (each_of f xs) ys is in
    ap (λ (zs : List _). length zs) (sym parts.4) ∙ ap suc (each_size f xs parts.1 parts.3)

-- the items of a list, each by its place
pub items_by_place : {A : Type 0} (from : ℕ) (xs : List A) (d : A) (f : ℕ → A) → ((k : ℕ) → k < length xs → f (from + k) ≡ get_or xs k d) → map f (range_with_len from (length xs)) ≡ xs
items_by_place from [] d f h = refl
items_by_place from (x ∷ xs) d f h =
    let zero_at : from + 0 ≡ from = omega arith in
    let here : f from ≡ x = ap f (sym zero_at) ∙ h 0 (omega arith) in
    let rest = items_by_place (from + 1) xs d f (λ k lt. let e : (from + 1) + k ≡ from + suc k = omega arith in ap f e ∙ h (suc k) (omega arith)) in
    λ i. here i ∷ rest i
