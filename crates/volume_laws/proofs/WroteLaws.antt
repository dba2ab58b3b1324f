-- What is written of unfinished creations stands once slices of one of them are written.
use Rattle.std.proofs.Common.{◌≡◌, inl, inr, ℕ, zero, suc, ◌+◌, ◌≤◌, Bool, true, false, cond, not, List, [], ◌∷◌, ◌++◌, length, map, take, drop, Option, Some, None, refl, sym, ap, subst, ◌∙◌, arith, if◌then◌else◌, length-take}
use Rattle.std.specs.Prelude.{◌==◌}
use Rattle.std.specs.List.{AllZip, flat_map}
use Rattle.std.proofs.lemmas.Bool.{and_parts, both_ways, eqb-true, false_from_ne_true, not-true, or_cases, or_left, or_right}
use Rattle.std.proofs.lemmas.List.Folds.{list_any-append}
use Rattle.run_table.specs.declared.run.Run.{Run}
use Rattle.run_table.specs.RunTable.{same_runs, sectors_of}
use Rattle.run_table.specs.Space.{all_differ, contains}
use Rattle.run_table.proofs.SameLaws.{same_runs_are}
use Rattle.run_table.proofs.SectorLaws.{first_there, rest_there}
use Rattle.sector_disk.specs.Image.{sector_at}
use Rattle.fsd_files.specs.Disk.{Has, Image, SectorWorn, Sectors}
use Rattle.fsd_files.specs.Kept.{data_sectors}
use Rattle.fsd_files.specs.Volume.{is_in}
use Rattle.fsd_files.proofs.CountLaws.{contains_occurs, occurs, used, used-cons}
use Rattle.fsd_files.proofs.KeptLaws.{behind_there, has_on}
use Rattle.fsd_sound.specs.Mounted.{Wrote}
use Rattle.volume_contract.specs.Pieces.{drafts_with, slices_in, with_slices}
use Rattle.volume_contract.specs.State.{WrittenDraft}
use Rattle.volume_laws.proofs.ClearedLaws.{AreWritten}
use Rattle.volume_laws.proofs.OpenedLaws.{runs_of_drafts}

-- ---- parts of a list whose sectors differ

pub dropped_in : (n s : ℕ) (xs : List ℕ) → contains (drop n xs) s ≡ true → contains xs s ≡ true
dropped_in zero s xs there = there
dropped_in (suc n) s [] there = there
dropped_in (suc n) s (x ∷ xs) there = rest_there x s xs (dropped_in n s xs there)

pub taken_in : (n s : ℕ) (xs : List ℕ) → contains (take n xs) s ≡ true → contains xs s ≡ true
taken_in zero s xs there = absurd (cc there)
taken_in (suc n) s [] there = there
taken_in (suc n) s (x ∷ xs) there = elim (or_cases (x == s) (contains (take n xs) s) there) [
  | inl here ↦ or_left (x == s) (contains xs s) here
  | inr more ↦ rest_there x s xs (taken_in n s xs more)
]

pub differ_parts : (n s : ℕ) (xs : List ℕ) → all_differ xs ≡ true → contains (take n xs) s ≡ true → contains (drop n xs) s ≡ false
differ_parts zero s xs differ there = absurd (cc there)
differ_parts (suc n) s [] differ there = absurd (cc there)
differ_parts (suc n) s (x ∷ xs) differ there =
    let parts = and_parts (not (contains xs x)) (all_differ xs) differ in
    elim (or_cases (x == s) (contains (take n xs) s) there) [
      | inl here ↦ false_from_ne_true (contains (drop n xs) s) (λ more. both_ways (contains xs x) (not-true (contains xs x) parts.0) (ap (contains xs) (eqb-true x s here) ∙ dropped_in n s xs more))
      | inr more ↦ differ_parts n s xs parts.1 more
    ]

pub differ_behind : (n : ℕ) (xs : List ℕ) → all_differ xs ≡ true → all_differ (drop n xs) ≡ true
differ_behind zero xs differ = differ
differ_behind (suc n) [] differ = differ
differ_behind (suc n) (x ∷ xs) differ = differ_behind n xs (and_parts (not (contains xs x)) (all_differ xs) differ).1

drop_none : {X : Type 0} (n : ℕ) → drop {A = X} n [] ≡ []
drop_none zero = refl
drop_none (suc n) = refl

drop_twice : {X : Type 0} (a b : ℕ) (xs : List X) → drop b (drop a xs) ≡ drop (a + b) xs
drop_twice zero b xs = ap (λ (n : ℕ). drop n xs) (let e : b ≡ 0 + b = omega arith in e)
drop_twice (suc a) b [] = drop_none b ∙ sym (drop_none (suc a + b))
drop_twice (suc a) b (x ∷ xs) = drop_twice a b xs ∙ ap (λ (n : ℕ). drop n (x ∷ xs)) (let e : suc (a + b) ≡ suc a + b = omega arith in e)

joined : {X : Type 0} (xs ys zs : List X) → xs ++ (ys ++ zs) ≡ (xs ++ ys) ++ zs
joined [] ys zs = refl
joined {X = X} (x ∷ xs) ys zs = ap (λ (l : List X). x ∷ l) (joined xs ys zs)

-- ---- two lists side by side

zip_take : {A B : Type 0} (R : A → B → Type 0) (n : ℕ) (xs : List A) (ys : List B) → AllZip R xs ys → AllZip R (take n xs) (take n ys)
zip_take R zero xs ys all = tt
zip_take R (suc n) [] [] all = tt
zip_take R (suc n) [] (y ∷ ys) all = absurd all
zip_take R (suc n) (x ∷ xs) [] all = absurd all
zip_take R (suc n) (x ∷ xs) (y ∷ ys) all = (all.0, zip_take R n xs ys all.1)

zip_drop : {A B : Type 0} (R : A → B → Type 0) (n : ℕ) (xs : List A) (ys : List B) → AllZip R xs ys → AllZip R (drop n xs) (drop n ys)
zip_drop R zero xs ys all = all
zip_drop R (suc n) [] [] all = tt
zip_drop R (suc n) [] (y ∷ ys) all = absurd all
zip_drop R (suc n) (x ∷ xs) [] all = absurd all
zip_drop R (suc n) (x ∷ xs) (y ∷ ys) all = zip_drop R n xs ys all.1

zip_length : {A B : Type 0} (R : A → B → Type 0) (xs : List A) (ys : List B) → AllZip R xs ys → length xs ≡ length ys
zip_length R [] [] all = refl
zip_length R [] (y ∷ ys) all = absurd all
zip_length R (x ∷ xs) [] all = absurd all
zip_length R (x ∷ xs) (y ∷ ys) all = ap suc (zip_length R xs ys all.1)

zip_join : {A B : Type 0} (R : A → B → Type 0) (n : ℕ) (xs more : List A) (ys : List B) → length xs ≡ n → AllZip R xs (take n ys) → AllZip R more (drop n ys) → AllZip R (xs ++ more) ys
zip_join R zero [] more ys size all rest = rest
zip_join R zero (x ∷ xs) more ys size all rest = absurd (omega (arith, size))
zip_join R (suc n) [] more ys size all rest = absurd (omega (arith, size))
zip_join R (suc n) (x ∷ xs) more [] size all rest = absurd all
zip_join R (suc n) (x ∷ xs) more (y ∷ ys) size all rest = (all.0, zip_join R n xs more ys (omega (arith, size)) all.1 rest)

-- ---- slices

module _ (hurt : Sectors) (i j : Image) where
  one_on : (o : Option (List ℕ)) (s : ℕ) → SectorWorn (hurt s) (sector_at i s) (sector_at j s) → Wrote hurt i o s → Wrote hurt j o s
  one_on None s worn has = tt
  one_on (Some bytes) s worn has = has_on hurt i j bytes s worn has

  pub written_on : (slices : List (Option (List ℕ))) (ys : List ℕ) → ((s : ℕ) → contains ys s ≡ true → SectorWorn (hurt s) (sector_at i s) (sector_at j s)) → AllZip (Wrote hurt i) slices ys → AllZip (Wrote hurt j) slices ys
  written_on [] [] worn all = tt
  written_on [] (y ∷ ys) worn all = absurd all
  written_on (x ∷ slices) [] worn all = absurd all
  written_on (x ∷ slices) (y ∷ ys) worn all = (one_on x y (worn y (first_there y ys)) all.0, written_on slices ys (λ s there. worn s (rest_there y s ys there)) all.1)

  -- slices that are written among those of before
  module _ (first : ℕ) (before new : List (Option (List ℕ))) (ys : List ℕ) (fits : first + length new ≤ length ys) (differ : all_differ ys ≡ true) (all : AllZip (Wrote hurt i) before ys)
      (worn : (s : ℕ) → contains (take (length new) (drop first ys)) s ≡ false → SectorWorn (hurt s) (sector_at i s) (sector_at j s)) (written : AllZip (Wrote hurt j) new (take (length new) (drop first ys))) where
    abbrev n : ℕ
    n = length new

    out_in_front : (s : ℕ) → contains (take first ys) s ≡ true → contains (take n (drop first ys)) s ≡ false
    out_in_front s there = false_from_ne_true (contains (take n (drop first ys)) s) (λ mine. both_ways (contains (drop first ys) s) (differ_parts first s ys differ there) (taken_in n s (drop first ys) mine))

    out_behind : (s : ℕ) → contains (drop (first + n) ys) s ≡ true → contains (take n (drop first ys)) s ≡ false
    out_behind s there = false_from_ne_true (contains (take n (drop first ys)) s) (λ mine.
        both_ways (contains (drop n (drop first ys)) s) (differ_parts n s (drop first ys) (differ_behind first ys differ) mine) (ap (λ (xs : List ℕ). contains xs s) (drop_twice first n ys) ∙ there))

    pub slices_written : AllZip (Wrote hurt j) (with_slices before first new) ys
    slices_written =
        subst (λ (xs : List (Option (List ℕ))). AllZip (Wrote hurt j) xs ys) (joined (take first before) new (drop (first + n) before))
        (zip_join (Wrote hurt j) first (take first before) (new ++ drop (first + n) before) ys (omega (arith, fits, length-take first before, zip_length (Wrote hurt i) before ys all))
        (written_on (take first before) (take first ys) (λ s there. worn s (out_in_front s there)) (zip_take (Wrote hurt i) first before ys all))
        (zip_join (Wrote hurt j) n new (drop (first + n) before) (drop first ys) refl written
        (subst (λ (xs : List ℕ). AllZip (Wrote hurt j) (drop (first + n) before) xs) (sym (drop_twice first n ys))
        (written_on (drop (first + n) before) (drop (first + n) ys) (λ s there. worn s (out_behind s there)) (zip_drop (Wrote hurt i) (first + n) before ys all)))))

-- they are there, or nothing is known of them
pub zip_there : (hurt : Sectors) (i : Image) (bs : List (List ℕ)) (ys : List ℕ) → AllZip (Has hurt i) bs ys → AllZip (Wrote hurt i) (map (λ x. if true then Some x else None) bs) ys
zip_there hurt i [] [] all = tt
zip_there hurt i [] (y ∷ ys) all = absurd all
zip_there hurt i (b ∷ bs) [] all = absurd all
zip_there hurt i (b ∷ bs) (y ∷ ys) all = (all.0, zip_there hurt i bs ys all.1)

pub zip_unknown : (hurt : Sectors) (i : Image) (bs : List (List ℕ)) (ys : List ℕ) → length bs ≡ length ys → AllZip (Wrote hurt i) (map (λ x. if false then Some x else None) bs) ys
zip_unknown hurt i [] [] same = tt
zip_unknown hurt i [] (y ∷ ys) same = absurd (omega (arith, same))
zip_unknown hurt i (b ∷ bs) [] same = absurd (omega (arith, same))
zip_unknown hurt i (b ∷ bs) (y ∷ ys) same = (tt, zip_unknown hurt i bs ys (omega (arith, same)))

-- ---- creations

module _ (hurt : Sectors) (i j : Image) (runs : List Run) (slices : List (Option (List ℕ))) (worn : (s : ℕ) → contains (sectors_of runs) s ≡ false → SectorWorn (hurt s) (sector_at i s) (sector_at j s))
    (written : AllZip (Wrote hurt j) slices (data_sectors runs)) where
  others_on : (drafts : List WrittenDraft) → ((s : ℕ) → is_in (runs_of_drafts drafts) s ≡ true → contains (sectors_of runs) s ≡ false) → AreWritten hurt i drafts → AreWritten hurt j drafts
  others_on [] apart all = tt
  others_on (x ∷ drafts) apart all = (
    written_on hurt i j x.slices (data_sectors x.runs) (λ s there. worn s (apart s (in_first s (behind_there s (sectors_of x.runs) there)))) all.0,
    others_on drafts (λ s there. apart s (in_later s there)) all.1,
  )
    where
      in_first : (s : ℕ) → contains (sectors_of x.runs) s ≡ true → is_in (runs_of_drafts (x ∷ drafts)) s ≡ true
      in_first s there = list_any-append (λ t. t == s) (sectors_of x.runs) (flat_map sectors_of (runs_of_drafts drafts)) ∙ or_left (contains (sectors_of x.runs) s) (is_in (runs_of_drafts drafts) s) there

      in_later : (s : ℕ) → is_in (runs_of_drafts drafts) s ≡ true → is_in (runs_of_drafts (x ∷ drafts)) s ≡ true
      in_later s there = list_any-append (λ t. t == s) (sectors_of x.runs) (flat_map sectors_of (runs_of_drafts drafts)) ∙ or_right (contains (sectors_of x.runs) s) (is_in (runs_of_drafts drafts) s) there

  one_used : (drafts : List WrittenDraft) (before : List (Option (List ℕ))) → slices_in drafts runs ≡ Some before → (s : ℕ) → occurs s (sectors_of runs) ≤ used s (runs_of_drafts drafts)
  one_used [] before none s = absurd (cc none)
  one_used (x ∷ drafts) before some s = by (same_runs x.runs runs) refl (λ later. one_used drafts before later s) some
    where
      by : (b : Bool) → same_runs x.runs runs ≡ b → (slices_in drafts runs ≡ Some before → occurs s (sectors_of runs) ≤ used s (runs_of_drafts drafts)) → cond b (Some x.slices) (slices_in drafts runs) ≡ Some before → occurs s (sectors_of runs) ≤ used s (runs_of_drafts (x ∷ drafts))
      by true same rest is = omega (arith, used-cons s x.runs (runs_of_drafts drafts), ap (λ (rs : List Run). occurs s (sectors_of rs)) (same_runs_are x.runs runs same))
      by false other rest is = let more = rest is in omega (arith, used-cons s x.runs (runs_of_drafts drafts), more)

  -- one of them has these slices, and the others have what they had
  pub drafts_written : (drafts : List WrittenDraft) (before : List (Option (List ℕ))) → slices_in drafts runs ≡ Some before → ((s : ℕ) → used s (runs_of_drafts drafts) ≤ 1) → AreWritten hurt i drafts → AreWritten hurt j (drafts_with drafts runs slices)
  drafts_written [] before none once all = absurd (cc none)
  drafts_written (x ∷ drafts) before some once all =
      by (same_runs x.runs runs) refl (λ later. drafts_written drafts before later (λ s. let o = once s in omega (arith, o, used-cons s x.runs (runs_of_drafts drafts))) all.1) some
    where
      by : (b : Bool) → same_runs x.runs runs ≡ b → (slices_in drafts runs ≡ Some before → AreWritten hurt j (drafts_with drafts runs slices)) → cond b (Some x.slices) (slices_in drafts runs) ≡ Some before
          → AreWritten hurt j (cond b (record { runs = x.runs; slices = slices } ∷ drafts) (x ∷ drafts_with drafts runs slices))
      by true same rest is =
          let at : x.runs ≡ runs = same_runs_are x.runs runs same in (
            subst (λ (rs : List Run). AllZip (Wrote hurt j) slices (data_sectors rs)) (sym at) written,
            others_on drafts (λ s there. false_from_ne_true (contains (sectors_of runs) s) (λ mine.
                let o = once s in
                let first = contains_occurs s (sectors_of runs) mine in
                let later = contains_occurs s (flat_map sectors_of (runs_of_drafts drafts)) there in
                absurd (omega (arith, o, first, later, used-cons s x.runs (runs_of_drafts drafts), ap (λ (rs : List Run). occurs s (sectors_of rs)) at)))) all.1,
          )
      by false other rest is = (
        written_on hurt i j x.slices (data_sectors x.runs)
            (λ s there. worn s (false_from_ne_true (contains (sectors_of runs) s) (λ mine.
            let o = once s in
            let first = contains_occurs s (sectors_of x.runs) (behind_there s (sectors_of x.runs) there) in
            let some_later = contains_occurs s (sectors_of runs) mine in
            let later = one_used drafts before is s in
            absurd (omega (arith, o, first, some_later, later, used-cons s x.runs (runs_of_drafts drafts)))))) all.0,
        rest is,
      )
