-- A row in two parts, and one item of each.
use Rattle.std.proofs.Common.{◌≡◌, ℕ, zero, suc, ◌<◌, List, [], ◌∷◌, ◌++◌, length, set, get_or, slice_get, Some, refl, ap, arith}

module _ {X : Type 0} where
  pub get_in_front : (front back : List X) (i : ℕ) (d : X) → i < length front → slice_get (front ++ back) i ≡ Some (get_or front i d)
  get_in_front [] back i d h = absurd (omega arith)
  get_in_front (x ∷ front) back zero d h = refl
  get_in_front (x ∷ front) back (suc i) d h = get_in_front front back i d (omega arith)

  pub get_behind : (front back : List X) (j : ℕ) (d : X) → j ≡ length front → 0 < length back → slice_get (front ++ back) j ≡ Some (get_or back 0 d)
  get_behind [] [] j d e h = absurd (omega arith)
  get_behind [] (y ∷ back) zero d e h = refl
  get_behind [] (y ∷ back) (suc j) d e h = absurd (omega arith)
  get_behind (x ∷ front) back zero d e h = absurd (omega arith)
  get_behind (x ∷ front) back (suc j) d e h = get_behind front back j d (omega arith) h

  set_behind : (front back : List X) (j : ℕ) (w : X) → j ≡ length front → 0 < length back → front ++ set back 0 w ≡ set (front ++ back) j w
  set_behind [] [] j w e h = absurd (omega arith)
  set_behind [] (y ∷ back) zero w e h = refl
  set_behind [] (y ∷ back) (suc j) w e h = absurd (omega arith)
  set_behind (x ∷ front) back zero w e h = absurd (omega arith)
  set_behind (x ∷ front) back (suc j) w e h = ap (λ l. x ∷ l) (set_behind front back j w (omega arith) h)

  -- an item of the front and the first behind it are written over
  pub set_both : (front back : List X) (i j : ℕ) (v w : X) → i < length front → j ≡ length front → 0 < length back
      → set front i v ++ set back 0 w ≡ set (set (front ++ back) i v) j w
  set_both [] back i j v w h e l = absurd (omega arith)
  set_both (x ∷ front) back i zero v w h e l = absurd (omega arith)
  set_both (x ∷ front) back zero (suc j) v w h e l = ap (λ t. v ∷ t) (set_behind front back j w (omega arith) l)
  set_both (x ∷ front) back (suc i) (suc j) v w h e l = ap (λ t. x ∷ t) (set_both front back i j v w (omega arith) (omega arith) l)
