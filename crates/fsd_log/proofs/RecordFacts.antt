-- What a record that is read is like: its pages are some of the table's, and each image bears its page and the stamp.
use Rattle.std.proofs.Common.{◌≡◌, ℕ, zero, suc, ◌+◌, ◌*◌, ◌^◌, ◌<◌, ◌≤◌, Bool, true, ◌&&◌, List, [], ◌∷◌, ◌++◌, length, drop, get_or, Option, Some, None, nat_lt, refl, sym, ap, subst, ◌∙◌, arith, ⊎_elim}
use Rattle.std.specs.Prelude.{option_map, option_and_then, unwrap_or, if◌then◌else◌}
use Rattle.std.specs.List.{AllByRecursion, list_all}
use Rattle.std.proofs.lemmas.Bool.{and_parts, ltb-true}
use Rattle.fsd_bytes.specs.Bytes.{u16_at, same_bytes}
use Rattle.fsd_bytes.specs.Names.{is_between}
use Rattle.fsd_bytes.proofs.SameLaws.{given_if}
use Rattle.fsd_formats.specs.Record.{Stamp, header_bytes, numbers_from, read_header, are_pages, ascending, bears, AreStamped}
use Rattle.fsd_log.specs.Judged.{Reader, passes, serving, page_copies, Serving, judged, images_of, Logged, logged_of, record_in}
use Rattle.fsd_log.specs.Borne.{borne_by}
use Rattle.fsd_log.proofs.BorneLaws.{page_bears}
use Rattle.fsd_log.proofs.JudgedLaws.{mapped_some, flag_of, is_judged}
use Rattle.fsd_log.proofs.PlainLaws.{at_either}
use Rattle.fsd_log.proofs.WornLaws.{serves_which}
use Rattle.fsd_log.proofs.TornLaws.{are_few}

passes_bytes : (test : List ℕ → Bool) (o : Option (List ℕ)) → passes test o ≡ true → test (unwrap_or o []) ≡ true
passes_bytes test None e = absurd (cc)
passes_bytes test (Some bytes) e = e

images_bear : (stamp : Stamp) (at : Reader) (k c : ℕ) (pages : List ℕ) (cs : List Bool) → page_copies stamp at k c pages ≡ Some cs → AreStamped stamp pages (images_of at k c cs)
images_bear stamp at k c [] cs e = let none : [] ≡ cs = cc in subst (λ (x : List Bool). AreStamped stamp [] (images_of at k c x)) none tt
images_bear stamp at k c (page ∷ pages) cs e =
    let made = mapped_some (serving (bears page stamp) (at k) (at c)) (page_copies stamp at (k + 1) (c + 1) pages) (λ x more. x ∷ more) cs e in
    let served = flag_of (serving (bears page stamp) (at k) (at c)) (page_copies stamp at (k + 1) (c + 1) pages) made.0 made.1 cs made.3 e in
    let here : bears page stamp (unwrap_or (at (if made.0 then c else k)) []) ≡ true =
    passes_bytes (bears page stamp) (at (if made.0 then c else k)) (ap (passes (bears page stamp)) (sym (at_either at k c made.0)) ∙ serves_which (bears page stamp) (at k) (at c) made.0 served) in
    subst (λ (x : List Bool). AreStamped stamp (page ∷ pages) (images_of at k c x)) made.3 (here, images_bear stamp at (k + 1) (c + 1) pages made.1 made.2)

-- ---- the whole record

pub record IsReadAs (p : ℕ) (stamp : Stamp) (r : Logged) : Type 0 where
  pub number : r.number ≡ stamp.number
  pub accepted : are_pages p r.pages ≡ true
  pub stamped : AreStamped stamp r.pages r.images

header_accepted : (p : ℕ) (stamp : Stamp) (o : Option (List ℕ)) (pages : List ℕ) → option_and_then (read_header p stamp) o ≡ Some pages → are_pages p pages ≡ true
header_accepted p stamp None pages is = absurd (cc)
header_accepted p stamp (Some bytes) pages is =
    let named : List ℕ = numbers_from (u16_at 12 bytes) (drop 32 bytes) in
    let given = given_if (are_pages p named && same_bytes (header_bytes stamp named) bytes) named pages is in
    subst (λ (x : List ℕ). are_pages p x ≡ true) given.1 (and_parts (are_pages p named) (same_bytes (header_bytes stamp named) bytes) given.0).0

pub read_as : (gap : ℕ) → (p : ℕ) (stamp : Stamp) (room : ℕ) (at : Reader) (r : Logged) → record_in gap p stamp room at ≡ Some r → IsReadAs p stamp r
unfolding record_in
read_as gap p stamp room at r e = by_judged (judged gap p stamp room at) refl e
  where
    by_judged : (o : Option Serving) → judged gap p stamp room at ≡ o → option_map (logged_of gap stamp.number at) o ≡ Some r → IsReadAs p stamp r
    by_judged None is given = absurd (cc)
    by_judged (Some f) is given =
        let made : logged_of gap stamp.number at f ≡ r = cc in
        let judged_as = is_judged gap p stamp room at f is in
        subst (IsReadAs p stamp) made (record {
          number = refl;
          accepted = ⊎_elim (λ by. header_accepted p stamp (at 0) f.pages by.header) (λ by. header_accepted p stamp (at (2 + gap)) f.pages by.1.header) judged_as.by;
          stamped = images_bear stamp at (3 + gap) (4 + 2 * gap + length f.pages) f.pages f.page_copy judged_as.copies;
        })

pub judged_few : (gap p : ℕ) (stamp : Stamp) (room : ℕ) (at : Reader) (f : Serving) → judged gap p stamp room at ≡ Some f → length f.pages ≤ 96
judged_few gap p stamp room at f is =
    are_few p f.pages (⊎_elim (λ by. header_accepted p stamp (at 0) f.pages by.header) (λ by. header_accepted p stamp (at (2 + gap)) f.pages by.1.header) (is_judged gap p stamp room at f is).by)

-- ---- pages that fit

all_small : (p : ℕ) (pages : List ℕ) → p ≤ 2 ^ 32 → list_all (λ page. nat_lt page p) pages ≡ true → AllByRecursion (λ n. n < 2 ^ 32) pages
all_small p [] le all = tt
all_small p (page ∷ pages) le all =
    let parts = and_parts (nat_lt page p) (list_all (λ page. nat_lt page p) pages) all in
    let lt : page < p = ltb-true page p parts.0 in
    (omega arith, all_small p pages le parts.1)

pub pages_small : (p : ℕ) (pages : List ℕ) → p ≤ 2 ^ 32 → are_pages p pages ≡ true → AllByRecursion (λ n. n < 2 ^ 32) pages
pages_small p pages le are = all_small p pages le (and_parts (is_between 1 96 (length pages) && ascending pages) (list_all (λ page. nat_lt page p) pages) are).1

-- ---- images that stand, and what they bear

pub rows_bear : (stamp : Stamp) (pages : List ℕ) (images : List (List ℕ)) (last : List ℕ) → AreStamped stamp pages images → borne_by last ≡ Some stamp → (k : ℕ) → k < length (images ++ last ∷ []) → borne_by (get_or (images ++ last ∷ []) k []) ≡ Some stamp
rows_bear stamp [] [] last stamped bears zero lt = bears
rows_bear stamp [] [] last stamped bears (suc k) lt = absurd (omega arith)
rows_bear stamp [] (image ∷ images) last stamped bears k lt = absurd stamped
rows_bear stamp (page ∷ pages) [] last stamped bears k lt = absurd stamped
rows_bear stamp (page ∷ pages) (image ∷ images) last stamped bears zero lt = page_bears page stamp image stamped.0
rows_bear stamp (page ∷ pages) (image ∷ images) last stamped bears (suc k) lt = rows_bear stamp pages images last stamped.1 bears k (omega arith)

pub length-stamped : (stamp : Stamp) (pages : List ℕ) (images : List (List ℕ)) → AreStamped stamp pages images → length images ≡ length pages
length-stamped stamp [] [] stamped = refl
length-stamped stamp [] (image ∷ images) stamped = absurd stamped
length-stamped stamp (page ∷ pages) [] stamped = absurd stamped
length-stamped stamp (page ∷ pages) (image ∷ images) stamped = ap suc (length-stamped stamp pages images stamped.1)
