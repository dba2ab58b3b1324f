-- Pages are told as a table exactly where none that is reached breaks it.
use Rattle.std.proofs.Common.{◌≡◌, ℕ, zero, suc, ◌<◌, Bool, true, false, cond, ◌&&◌, List, [], ◌∷◌, length, Some, None, refl, sym, ap, ◌∙◌, arith}
use Rattle.std.specs.Prelude.{slice_index_or}
use Rattle.std.specs.List.{list_all, Contains}
use Rattle.std.proofs.lemmas.Bool.{and_parts}
use Rattle.fsd_table.specs.Table.{Visit, Telling, visits, in_shape, told_by, told_in, entries_in, BreaksTable}

not_all : (p : Visit → Bool) (xs : List Visit) (v : Visit) → Contains xs v → p v ≡ false → list_all p xs ≡ false
not_all p xs v there out = by (list_all p xs) refl
  where
    at : (xs : List Visit) (k : ℕ) → k < length xs → slice_index_or xs k v ≡ v → list_all p xs ≡ true → p v ≡ true
    at [] k low is all = absurd (omega (arith, low))
    at (x ∷ xs) zero low is all = ap p (sym is) ∙ (and_parts (p x) (list_all p xs) all).0
    at (x ∷ xs) (suc k) low is all = at xs k (omega (arith, low)) is (and_parts (p x) (list_all p xs) all).1

    by : (b : Bool) → list_all p xs ≡ b → list_all p xs ≡ false
    by false is = is
    by true is = absurd (let bad : true ≡ false = sym (at xs there.0 there.1 there.2 is) ∙ out in cc)

one_out : (p : Visit → Bool) (xs : List Visit) → list_all p xs ≡ false → (v : Visit) × Contains xs v × (p v ≡ false)
one_out p [] none = absurd cc
one_out p (x ∷ xs) none = by (one_out p xs) (p x) refl none
  where
    by : (list_all p xs ≡ false → (v : Visit) × Contains xs v × (p v ≡ false)) → (b : Bool) → p x ≡ b → (b && list_all p xs) ≡ false → (v : Visit) × Contains (x ∷ xs) v × (p v ≡ false)
    by later false is e = (x, (0, omega arith, refl), is)
    by later true is e =
        let rest = later e in
        (rest.0, (suc rest.1.0, (let low = rest.1.1 in omega (arith, low)), rest.1.2), rest.2)

told_if : (all : List Visit) (b : Bool) → list_all (in_shape all) all ≡ b → told_by all ≡ cond b (Some (record { entries = entries_in all; reached = length all })) None
told_if all b is = ap (λ (x : Bool). cond x (Some (record { entries = entries_in all; reached = length all })) None) is

-- a page that breaks the table leaves nothing told
pub broken_tells_nothing : (pages : List (List ℕ)) (page : ℕ) → BreaksTable pages page → told_in pages ≡ None
unfolding told_in
broken_tells_nothing pages page b = told_if (visits pages) false (not_all (in_shape (visits pages)) (visits pages) b.visit b.reached b.broken)

-- and where nothing is told, some page breaks it
pub nothing_told_breaks : (pages : List (List ℕ)) → told_in pages ≡ None → (page : ℕ) × BreaksTable pages page
unfolding told_in
nothing_told_breaks pages none = by (list_all (in_shape (visits pages)) (visits pages)) refl
  where
    by : (b : Bool) → list_all (in_shape (visits pages)) (visits pages) ≡ b → (page : ℕ) × BreaksTable pages page
    by true is = absurd (let bad = sym none ∙ told_if (visits pages) true is in cc)
    by false is =
        let out = one_out (in_shape (visits pages)) (visits pages) is in
        (out.0.page, record { visit = out.0; reached = out.1; page_is = refl; broken = out.2 })

-- where something is told, each page that is reached is in shape
pub shape_of_told : (pages : List (List ℕ)) (t : Telling) → told_in pages ≡ Some t → list_all (in_shape (visits pages)) (visits pages) ≡ true
unfolding told_in
shape_of_told pages t told = by (list_all (in_shape (visits pages)) (visits pages)) refl
  where
    by : (b : Bool) → list_all (in_shape (visits pages)) (visits pages) ≡ b → list_all (in_shape (visits pages)) (visits pages) ≡ true
    by true is = is
    by false is = absurd (let bad = sym told ∙ told_if (visits pages) false is in cc)
