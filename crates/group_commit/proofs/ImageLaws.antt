-- The images of pages that are stamped.
use Rattle.std.proofs.Common.{◌≡◌, ◌≢◌, ◌⊎◌, ℕ, suc, ◌*◌, ◌<◌, ◌≤◌, Bool, true, false, ◌&&◌, ◌||◌, nat_lt, List, [], ◌∷◌, ◌++◌, length, take, drop, set, map, refl, sym, ap, subst, ◌∙◌, append_assoc, eq-eqb, eqb-true, arith, inl, inr}
use Rattle.std.specs.Prelude.{codes, ◌==◌}
use Rattle.std.specs.Int.{w32, from_be_bytes}
use Rattle.std.specs.List.{AllByRecursion, flat_map, list_all}
use Rattle.std.proofs.lemmas.Bool.{and_parts, and_from, ltb-true, cases_eq, or_cases, or_parts, or_right}
use Rattle.std.proofs.lemmas.Bool.Decides.{nat_tests}
use Rattle.std.proofs.lemmas.Nat.{from_be_bytes-to_be_bytes_4}
use Rattle.std.proofs.lemmas.List.{drop_at, drop-drop, take-take, drop-take, take-append-le, drop-append-le, length-append, length-drop, length-take-le, length-set, get_or-set_same, get_or-set_other}
use Rattle.run_table.specs.Space.{contains}
use Rattle.run_table.proofs.SectorLaws.{first_there}
use Rattle.fsd_bytes.specs.Bytes.{u32_at, same_bytes}
use Rattle.fsd_bytes.specs.Names.{is_between}
use Rattle.fsd_bytes.proofs.SameLaws.{is_same}
use Rattle.fsd_formats.specs.Record.{Stamp, stamp_bytes, are_pages, ascending, bears, AreStamped}
use Rattle.fsd_log.specs.Judged.{sector_in}
use Rattle.fsd_log.specs.Borne.{FitsStamp}
use Rattle.fsd_log.specs.Laid.{slices, slices_from}
use Rattle.fsd_log.proofs.LaidLaws.{slice_behind, slice_whole}
use Rattle.fsd_sound.specs.Mounted.{image_at}
use Rattle.group_commit.specs.Resident.{IsImageOf, with_stamp, stamped}

-- ---- lists of pages

differ_of : (a b : ℕ) → (a == b) ≡ false → b ≢ a
differ_of a b e same = absurd (let t : (a == b) ≡ true = eq-eqb a b (sym same) in cc)

unlike : (a b : ℕ) → b < a → (a == b) ≡ false
unlike a b lt = grind (arith, nat_tests)

pub contains_more : (x : ℕ) (xs : List ℕ) (p : ℕ) → contains xs p ≡ true → contains (x ∷ xs) p ≡ true
contains_more x xs p is = or_right (x == p) (contains xs p) is

pub all_at : (P : ℕ → Type 0) (xs : List ℕ) → AllByRecursion P xs → (p : ℕ) → contains xs p ≡ true → P p
all_at P [] all p is = absurd cc
all_at P (x ∷ xs) all p is = elim (or_cases (x == p) (contains xs p) is) [
  | inl here ↦ subst P (eqb-true x p here) all.0
  | inr more ↦ all_at P xs all.1 p more
]

pub below_at : (n : ℕ) (xs : List ℕ) → list_all (λ page. nat_lt page n) xs ≡ true → (p : ℕ) → contains xs p ≡ true → p < n
below_at n [] all p is = absurd cc
below_at n (x ∷ xs) all p is =
    let parts = and_parts (nat_lt x n) (list_all (λ page. nat_lt page n) xs) all in
    elim (or_cases (x == p) (contains xs p) is) [
      | inl here ↦ subst (λ (q : ℕ). q < n) (eqb-true x p here) (ltb-true x n parts.0)
      | inr more ↦ below_at n xs parts.1 p more
    ]

pub ascending_tail : (a : ℕ) (xs : List ℕ) → ascending (a ∷ xs) ≡ true → ascending xs ≡ true
ascending_tail a [] asc = refl
ascending_tail a (b ∷ xs) asc = (and_parts (nat_lt a b) (ascending (b ∷ xs)) asc).1

pub not_later : (a : ℕ) (xs : List ℕ) → ascending (a ∷ xs) ≡ true → (y : ℕ) → y ≤ a → contains xs y ≡ false
not_later a [] asc y le = refl
not_later a (b ∷ xs) asc y le =
    let parts = and_parts (nat_lt a b) (ascending (b ∷ xs)) asc in
    let lt : a < b = ltb-true a b parts.0 in
    ap (λ (v : Bool). v || contains xs y) (unlike b y (omega arith)) ∙ not_later b xs parts.1 y (omega arith)

-- what a list of a record's pages is
pub record ArePagesOf (n : ℕ) (dirty : List ℕ) : Type 0 where
  pub ascends : ascending dirty ≡ true
  pub below : list_all (λ page. nat_lt page n) dirty ≡ true

pub pages_of : (n : ℕ) (dirty : List ℕ) → are_pages n dirty ≡ true → ArePagesOf n dirty
pages_of n dirty are =
    let outer = and_parts (is_between 1 96 (length dirty) && ascending dirty) (list_all (λ page. nat_lt page n) dirty) are in
    record { ascends = (and_parts (is_between 1 96 (length dirty)) (ascending dirty) outer.0).1; below = outer.1 }

-- ---- pages that are stamped

module _ (stamp : Stamp) where
  pub length-stamped : (xs : List ℕ) (pages : List (List ℕ)) → length (stamped stamp xs pages) ≡ length pages
  length-stamped [] pages = refl
  length-stamped (x ∷ xs) pages = length-stamped xs (set pages x (with_stamp stamp (image_at pages x))) ∙ length-set pages x (with_stamp stamp (image_at pages x))

  pub stamped_other : (xs : List ℕ) (pages : List (List ℕ)) (p : ℕ) → contains xs p ≡ false → image_at (stamped stamp xs pages) p ≡ image_at pages p
  stamped_other [] pages p out = refl
  stamped_other (x ∷ xs) pages p out =
      let parts = or_parts (x == p) (contains xs p) out in
      stamped_other xs (set pages x (with_stamp stamp (image_at pages x))) p parts.1
      ∙ get_or-set_other pages x p (with_stamp stamp (image_at pages x)) [] (differ_of x p parts.0)

  pub stamped_at : (xs : List ℕ) (pages : List (List ℕ)) (p : ℕ) → ascending xs ≡ true → contains xs p ≡ true → p < length pages → image_at (stamped stamp xs pages) p ≡ with_stamp stamp (image_at pages p)
  stamped_at [] pages p asc is lt = absurd cc
  stamped_at (x ∷ xs) pages p asc is lt =
      by_first (λ rest. stamped_at xs (set pages x (with_stamp stamp (image_at pages x))) p (ascending_tail x xs asc) rest (omega (arith, length-set pages x (with_stamp stamp (image_at pages x))))) (cases_eq p x)
    where
      in_rest : (x ≢ p) → ((x == p) ≡ true) ⊎ (contains xs p ≡ true) → contains xs p ≡ true
      in_rest other (inl here) = absurd (other (eqb-true x p here))
      in_rest other (inr more) = more

      by_first : (contains xs p ≡ true → image_at (stamped stamp xs (set pages x (with_stamp stamp (image_at pages x)))) p ≡ with_stamp stamp (image_at (set pages x (with_stamp stamp (image_at pages x))) p))
          → (p ≡ x) ⊎ (p ≢ x) → image_at (stamped stamp (x ∷ xs) pages) p ≡ with_stamp stamp (image_at pages p)
      by_first later (inl same) =
          subst (λ (q : ℕ). image_at (stamped stamp (x ∷ xs) pages) q ≡ with_stamp stamp (image_at pages q)) (sym same)
          (stamped_other xs (set pages x (with_stamp stamp (image_at pages x))) x (not_later x xs asc x (omega arith))
          ∙ get_or-set_same pages x (with_stamp stamp (image_at pages x)) [] (omega (arith, same)))
      by_first later (inr other) =
          let kept : image_at (set pages x (with_stamp stamp (image_at pages x))) p ≡ image_at pages p = get_or-set_other pages x p (with_stamp stamp (image_at pages x)) [] other in
          later (in_rest (λ e. other (sym e)) (or_cases (x == p) (contains xs p) is)) ∙ ap (with_stamp stamp) kept

-- ---- an image that is stamped

module _ (stamp : Stamp) (fits : FitsStamp stamp) (page : ℕ) (bytes : List ℕ) (long : length bytes ≡ 512) where
  rest : List ℕ
  rest = drop 24 bytes

  front_long : length (take 16 bytes) ≡ 16
  front_long = length-take-le 16 bytes (omega arith)

  abbrev new : List ℕ
  new = take 16 bytes ++ (stamp_bytes stamp ++ drop 24 bytes)

  new_magic : take 4 new ≡ take 4 bytes
  new_magic = take-append-le 4 (take 16 bytes) (stamp_bytes stamp ++ drop 24 bytes) (omega (arith, front_long)) ∙ take-take 4 16 bytes (omega arith)

  new_number : u32_at 12 new ≡ u32_at 12 bytes
  new_number =
      let behind : length (drop 12 (take 16 bytes)) ≡ 4 = omega (arith, length-drop 12 (take 16 bytes), front_long) in
      let word : take 4 (drop 12 new) ≡ take 4 (drop 12 bytes) =
      ap (take 4) (drop-append-le 12 (take 16 bytes) (stamp_bytes stamp ++ drop 24 bytes) (omega (arith, front_long)))
      ∙ take-append-le 4 (drop 12 (take 16 bytes)) (stamp_bytes stamp ++ drop 24 bytes) (omega (arith, behind))
      ∙ ap (take 4) (drop-take 12 4 bytes)
      ∙ take-take 4 4 (drop 12 bytes) (omega arith) in
      ap (from_be_bytes w32) word

  new_epoch : u32_at 16 new ≡ stamp.epoch
  new_epoch =
      ap (λ (x : List ℕ). from_be_bytes w32 (take 4 x)) (drop_at (take 16 bytes) (stamp_bytes stamp ++ drop 24 bytes) 16 front_long)
      ∙ from_be_bytes-to_be_bytes_4 stamp.epoch fits.epoch

  new_count : u32_at 20 new ≡ stamp.number
  new_count =
      ap (λ (x : List ℕ). from_be_bytes w32 (take 4 x)) (sym (drop-drop 4 16 new) ∙ ap (drop 4) (drop_at (take 16 bytes) (stamp_bytes stamp ++ drop 24 bytes) 16 front_long))
      ∙ from_be_bytes-to_be_bytes_4 stamp.number fits.number

  pub bears-with_stamp : IsImageOf page bytes → bears page stamp (with_stamp stamp bytes) ≡ true
  bears-with_stamp is =
      let magic : same_bytes (take 4 new) (codes "CNPG") ≡ true = ap (λ (x : List ℕ). same_bytes x (codes "CNPG")) (new_magic ∙ is.magic) ∙ is_same (codes "CNPG") in
      let number : (u32_at 12 new == page) ≡ true = eq-eqb (u32_at 12 new) page (new_number ∙ is.number) in
      let epoch : (u32_at 16 new == stamp.epoch) ≡ true = eq-eqb (u32_at 16 new) stamp.epoch new_epoch in
      let count : (u32_at 20 new == stamp.number) ≡ true = eq-eqb (u32_at 20 new) stamp.number new_count in
      and_from (same_bytes (take 4 new) (codes "CNPG") && u32_at 12 new == page) (u32_at 16 new == stamp.epoch && u32_at 20 new == stamp.number)
      (and_from (same_bytes (take 4 new) (codes "CNPG")) (u32_at 12 new == page) magic number)
      (and_from (u32_at 16 new == stamp.epoch) (u32_at 20 new == stamp.number) epoch count)

-- ---- the images of a record

module _ (f : ℕ → List ℕ) where
  slices_of : (xs front : List ℕ) (k : ℕ) → length front ≡ 512 * k → ((p : ℕ) → contains xs p ≡ true → length (f p) ≡ 512) → slices_from k (front ++ flat_map f xs) (length xs) ≡ map f xs
  slices_of [] front k long each = refl
  slices_of (x ∷ xs) front k long each =
      let size : length (f x) ≡ 512 = each x (first_there x xs) in
      let here : sector_in (front ++ (f x ++ flat_map f xs)) k ≡ f x = slice_behind front (f x ++ flat_map f xs) k 0 k long (omega arith) ∙ slice_whole (f x) (flat_map f xs) size in
      let more : slices_from (suc k) (front ++ (f x ++ flat_map f xs)) (length xs) ≡ map f xs =
      ap (λ (b : List ℕ). slices_from (suc k) b (length xs)) (sym (append_assoc front (f x) (flat_map f xs)))
      ∙ slices_of xs (front ++ f x) (suc k) (omega (arith, long, size, length-append front (f x))) (λ p is. each p (contains_more x xs p is)) in
      λ i. here i ∷ more i

  -- the bytes of pages, laid one after another, are cut into them
  pub slices_laid : (xs : List ℕ) → ((p : ℕ) → contains xs p ≡ true → length (f p) ≡ 512) → slices (length xs) (flat_map f xs) ≡ map f xs
  slices_laid xs each = slices_of xs [] 0 refl each

  pub are_stamped : (stamp : Stamp) (xs : List ℕ) → ((p : ℕ) → contains xs p ≡ true → bears p stamp (f p) ≡ true) → AreStamped stamp xs (map f xs)
  are_stamped stamp [] each = tt
  are_stamped stamp (x ∷ xs) each = (each x (first_there x xs), are_stamped stamp xs (λ p is. each p (contains_more x xs p is)))

  -- others that are the same on these
  pub map_same : (h : ℕ → List ℕ) (xs : List ℕ) → ((p : ℕ) → contains xs p ≡ true → f p ≡ h p) → map f xs ≡ map h xs
  map_same h [] each = refl
  map_same h (x ∷ xs) each = λ i. each x (first_there x xs) i ∷ map_same h xs (λ p is. each p (contains_more x xs p is)) i

-- what is laid, page by page
pub record IsRecordOf (stamp : Stamp) (dirty : List ℕ) (pages : List (List ℕ)) (images : List ℕ) : Type 0 where
  pub slices_are : slices (length dirty) images ≡ map (image_at pages) dirty
  pub bear : AreStamped stamp dirty (slices (length dirty) images)
