-- The record that is read plainly is the record.
use Rattle.std.proofs.Common.{◌≡◌, ℕ, ◌+◌, ◌*◌, Bool, true, false, cond, ◌&&◌, List, [], ◌∷◌, length, Option, Some, None, nat_le, refl, ◌∙◌}
use Rattle.std.specs.Prelude.{option_map, option_and_then, is_some, if◌then◌else◌, unwrap_or}
use Rattle.std.specs.Option.{option_or}
use Rattle.fsd_formats.specs.Record.{Stamp, read_header, is_end, bears, record_len}
use Rattle.fsd_log.specs.Plain.{served, either_copy, images_at, record_with, record_by, plain_record}
use Rattle.fsd_log.specs.Judged.{Reader, passes, serving, page_copies, judged_with, judged_by, judged, images_of, logged_of, record_in}

copy_same : (test : List ℕ → Bool) (c : Option (List ℕ)) → served test c ≡ option_map (λ (d : Bool). unwrap_or c []) (if passes test c then Some true else None)
copy_same test None = refl
copy_same test (Some b) = by_test (test b)
  where
    by_test : (x : Bool) → cond x (Some b) None ≡ option_map (λ (d : Bool). b) (cond x (Some true) None)
    by_test true = refl
    by_test false = refl

serve_same : (test : List ℕ → Bool) (a c : Option (List ℕ)) → either_copy test a c ≡ option_map (λ d. unwrap_or (if d then c else a) []) (serving test a c)
serve_same test None c = copy_same test c ∙ by_test (passes test c)
  where
    by_test : (x : Bool) → option_map (λ (d : Bool). unwrap_or c []) (cond x (Some true) None) ≡ option_map (λ d. unwrap_or (if d then c else None) []) (cond x (Some true) None)
    by_test true = refl
    by_test false = refl
serve_same test (Some b) c = by_test (test b) (passes test c) (copy_same test c)
  where
    by_test : (x y : Bool) → served test c ≡ option_map (λ (d : Bool). unwrap_or c []) (cond y (Some true) None)
        → option_or (cond x (Some b) None) (served test c) ≡ option_map (λ d. unwrap_or (if d then c else Some b) []) (cond x (Some false) (cond y (Some true) None))
    by_test true y e = refl
    by_test false true e = e
    by_test false false e = e

pub at_either : (at : Reader) (a c : ℕ) (d : Bool) → (if d then at c else at a) ≡ at (if d then c else a)
at_either at a c true = refl
at_either at a c false = refl

pub images_same : (stamp : Stamp) (at : Reader) (k c : ℕ) (pages : List ℕ) → images_at stamp at k c pages ≡ option_map (images_of at k c) (page_copies stamp at k c pages)
images_same stamp at k c [] = refl
images_same stamp at k c (page ∷ pages) =
    (λ i. option_and_then (λ image. option_map (λ more. image ∷ more) (images_same stamp at (k + 1) (c + 1) pages i)) (serve_same (bears page stamp) (at k) (at c) i))
    ∙ by_parts (serving (bears page stamp) (at k) (at c)) (page_copies stamp at (k + 1) (c + 1) pages)
  where
    by_parts : (o : Option Bool) (rest : Option (List Bool)) →
        option_and_then (λ image. option_map (λ more. image ∷ more) (option_map (images_of at (k + 1) (c + 1)) rest)) (option_map (λ d. unwrap_or (if d then at c else at k) []) o)
        ≡ option_map (images_of at k c) (option_and_then (λ d. option_map (λ more. d ∷ more) rest) o)
    by_parts None rest = refl
    by_parts (Some d) None = refl
    by_parts (Some d) (Some cs) = λ i. Some (unwrap_or (at_either at k c d i) [] ∷ images_of at (k + 1) (c + 1) cs)

with_same : (gap : ℕ) → (stamp : Stamp) (room : ℕ) (at : Reader) (hc : Bool) (pages : List ℕ) → record_with gap stamp room at pages ≡ option_map (logged_of gap stamp.number at) (judged_with gap stamp room at hc pages)
with_same gap stamp room at hc pages =
    (λ i. if nat_le (record_len gap (length pages)) room && is_some (serve_same (is_end stamp (length pages)) (at (3 + gap + length pages)) (at (4 + 2 * gap + 2 * length pages)) i)
    then option_map (λ images. record { number = stamp.number; pages = pages; images = images }) (images_same stamp at (3 + gap) (4 + 2 * gap + length pages) pages i) else None)
    ∙ by_parts (nat_le (record_len gap (length pages)) room) (serving (is_end stamp (length pages)) (at (3 + gap + length pages)) (at (4 + 2 * gap + 2 * length pages))) (page_copies stamp at (3 + gap) (4 + 2 * gap + length pages) pages)
  where
    by_parts : (b : Bool) (e : Option Bool) (cs : Option (List Bool)) →
        cond (b && is_some (option_map (λ d. unwrap_or (if d then at (4 + 2 * gap + 2 * length pages) else at (3 + gap + length pages)) []) e)) (option_map (λ images. record { number = stamp.number; pages = pages; images = images }) (option_map (images_of at (3 + gap) (4 + 2 * gap + length pages)) cs)) None
        ≡ option_map (logged_of gap stamp.number at) (cond b (option_and_then (λ x. option_map (λ more. record { pages = pages; header_copy = hc; end_copy = x; page_copy = more }) cs) e) None)
    by_parts false e cs = refl
    by_parts true None cs = refl
    by_parts true (Some x) None = refl
    by_parts true (Some x) (Some cs) = refl

by_same : (gap : ℕ) → (p : ℕ) (stamp : Stamp) (room : ℕ) (at : Reader) (hc : Bool) (k : ℕ) → record_by gap p stamp room at k ≡ option_map (logged_of gap stamp.number at) (judged_by gap p stamp room at hc (at k))
by_same gap p stamp room at hc k = by_header (option_and_then (read_header p stamp) (at k))
  where
    by_header : (o : Option (List ℕ)) → option_and_then (record_with gap stamp room at) o ≡ option_map (logged_of gap stamp.number at) (option_and_then (judged_with gap stamp room at hc) o)
    by_header None = refl
    by_header (Some pages) = with_same gap stamp room at hc pages

map_or : {A B : Type 0} (f : A → B) (x y : Option A) → option_or (option_map f x) (option_map f y) ≡ option_map f (option_or x y)
map_or f None y = refl
map_or f (Some x) y = refl

pub record_same : (gap : ℕ) → (p : ℕ) (stamp : Stamp) (room : ℕ) (at : Reader) → plain_record gap p stamp room at ≡ record_in gap p stamp room at
unfolding record_in judged
record_same gap p stamp room at =
    (λ i. option_or (by_same gap p stamp room at false 0 i) (by_same gap p stamp room at true (2 + gap) i))
    ∙ map_or (logged_of gap stamp.number at) (judged_by gap p stamp room at false (at 0)) (judged_by gap p stamp room at true (at (2 + gap)))
