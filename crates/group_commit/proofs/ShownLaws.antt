-- Which pages an image shows, page by page.
use Rattle.std.proofs.Common.{◌≡◌, ℕ, zero, suc, ◌+◌, ◌<◌, Bool, true, false, cond, ◌||◌, List, [], ◌∷◌, ◌++◌, length, get_or, map, Option, Some, None, refl, sym, ap, subst, ◌∙◌, arith}
use Rattle.std.specs.Prelude.{◌==◌, option_map, option_and_then}
use Rattle.std.specs.List.{range_with_len}
use Rattle.std.specs.Option.{option_or}
use Rattle.run_table.specs.Space.{contains}
use Rattle.fsd_log.specs.Scan.{Placed}
use Rattle.fsd_log.specs.Images.{image_in, last_image}
use Rattle.fsd_sound.specs.Shown.{each_of}
use Rattle.sector_disk.proofs.ResultLaws.{option_or-assoc, option_or-none}

-- ---- all or none

record BothSome {A B : Type 0} (o : Option A) (rest : Option (List B)) (f : A → List B → List B) (zs : List B) : Type 0 where
  first : A
  others : List B
  first_is : o ≡ Some first
  others_are : rest ≡ Some others
  made : f first others ≡ zs

both_some : {B : Type 0} (o : Option B) (rest : Option (List B)) (zs : List B) → option_and_then (λ y. option_map (λ ys. y ∷ ys) rest) o ≡ Some zs → BothSome o rest (λ y ys. y ∷ ys) zs
both_some None rest zs e = absurd (cc)
both_some (Some y) None zs e = absurd (cc)
both_some (Some y) (Some ys) zs e = record { first = y; others = ys; first_is = refl; others_are = refl; made = cc }

-- what each place gives
pub record GivesEach (f : ℕ → Option (List ℕ)) (a n : ℕ) (ys : List (List ℕ)) : Type 0 where
  pub size : length ys ≡ n
  pub each : (k : ℕ) → k < n → f (a + k) ≡ Some (get_or ys k [])

pub gives_each : (f : ℕ → Option (List ℕ)) (a n : ℕ) (ys : List (List ℕ)) → each_of f (range_with_len a n) ≡ Some ys → GivesEach f a n ys
gives_each f a zero ys e = let none : [] ≡ ys = cc in record { size = ap length (sym none); each = λ k lt. absurd (omega arith) }
gives_each f a (suc n) ys e =
    let both = both_some (f a) (each_of f (range_with_len (a + 1) n)) ys e in
    let rest = gives_each f (a + 1) n both.others both.others_are in
    subst (GivesEach f a (suc n)) both.made (record { size = ap suc rest.size; each = λ k. at k both.first both.others both.first_is rest })
  where
    at : (k : ℕ) (y : List ℕ) (more : List (List ℕ)) → f a ≡ Some y → GivesEach f (a + 1) n more → k < suc n → f (a + k) ≡ Some (get_or (y ∷ more) k [])
    at zero y more is rest lt = ap f (let e : a + 0 ≡ a = omega arith in e) ∙ is
    at (suc k) y more is rest lt = ap f (let e : a + suc k ≡ a + 1 + k = omega arith in e) ∙ rest.each k (omega arith)

pub each_given : (f : ℕ → Option (List ℕ)) (a n : ℕ) (ys : List (List ℕ)) → GivesEach f a n ys → each_of f (range_with_len a n) ≡ Some ys
each_given f a zero [] g = refl
each_given f a zero (y ∷ ys) g = absurd (omega (arith, g.size))
each_given f a (suc n) [] g = absurd (omega (arith, g.size))
each_given f a (suc n) (y ∷ ys) g =
    let here : f a ≡ Some y = ap f (let e : a ≡ a + 0 = omega arith in e) ∙ g.each 0 (omega arith) in
    let rest : each_of f (range_with_len (a + 1) n) ≡ Some ys = each_given f (a + 1) n ys (record {
      size = omega (arith, g.size);
      each = λ k lt. ap f (let e : a + 1 + k ≡ a + suc k = omega arith in e) ∙ g.each (suc k) (omega arith);
    }) in
    λ i. option_and_then (λ x. option_map (λ xs. x ∷ xs) (rest i)) (here i)

-- ---- the last image, with a record more

pub last_image-append : (page : ℕ) (rs : List Placed) (r : Placed) → last_image page (rs ++ r ∷ []) ≡ option_or (image_in page r.entry.pages r.entry.images) (last_image page rs)
last_image-append page [] r = option_or-none (image_in page r.entry.pages r.entry.images)
last_image-append page (q ∷ rs) r =
    ap (λ (o : Option (List ℕ)). option_or o (image_in page q.entry.pages q.entry.images)) (last_image-append page rs r)
    ∙ option_or-assoc (image_in page r.entry.pages r.entry.images) (last_image page rs) (image_in page q.entry.pages q.entry.images)

pub none_before : (page : ℕ) (rs : List Placed) (r : Placed) → last_image page (rs ++ r ∷ []) ≡ None → last_image page rs ≡ None
none_before page rs r e = second (image_in page r.entry.pages r.entry.images) (last_image page rs) (sym (last_image-append page rs r) ∙ e)
  where
    second : (x y : Option (List ℕ)) → option_or x y ≡ None → y ≡ None
    second None y e = e
    second (Some x) y e = absurd (cc)

-- ---- the images of one record

pub image_in_at : (f : ℕ → List ℕ) (pages : List ℕ) (page : ℕ) → ((q : ℕ) → (q == page) ≡ true → f q ≡ f page) → contains pages page ≡ true → image_in page pages (map f pages) ≡ Some (f page)
image_in_at f [] page same is = absurd (cc)
image_in_at f (q ∷ pages) page same is = by_first (λ more. image_in_at f pages page same more) (q == page) refl is
  where
    by_first : (contains pages page ≡ true → image_in page pages (map f pages) ≡ Some (f page)) → (b : Bool) → (q == page) ≡ b → (b || contains pages page) ≡ true → cond b (Some (f q)) (image_in page pages (map f pages)) ≡ Some (f page)
    by_first later true here some = ap (λ (x : List ℕ). Some x) (same q here)
    by_first later false here some = later some

pub image_in_not : (f : ℕ → List ℕ) (pages : List ℕ) (page : ℕ) → contains pages page ≡ false → image_in page pages (map f pages) ≡ None
image_in_not f [] page out = refl
image_in_not f (q ∷ pages) page out = by_first (λ more. image_in_not f pages page more) (q == page) out
  where
    by_first : (contains pages page ≡ false → image_in page pages (map f pages) ≡ None) → (b : Bool) → (b || contains pages page) ≡ false → cond b (Some (f q)) (image_in page pages (map f pages)) ≡ None
    by_first later true none = absurd (cc)
    by_first later false none = later none
