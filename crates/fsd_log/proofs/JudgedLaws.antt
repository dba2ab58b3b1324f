-- What is judged of one reading and of another.
use Rattle.std.proofs.Common.{◌≡◌, ℕ, suc, ◌+◌, ◌*◌, ◌^◌, ◌<◌, ◌≤◌, Bool, true, false, cond, List, [], ◌∷◌, length, Option, Some, None, refl, sym, ap, subst, ◌∙◌, arith, inl, inr, ◌⊎◌}
use Rattle.std.specs.Prelude.{option_and_then, option_map, nat_le, if◌then◌else◌, unwrap_or, replicate, ⊤}
use Rattle.std.specs.Option.{option_or}
use Rattle.std.specs.List.{AllByRecursion}
use Rattle.std.proofs.lemmas.Bool.{cond-true, le-leb, leb-true}
use Rattle.fsd_formats.specs.Record.{Stamp, header_bytes, end_bytes, read_header, are_pages, is_end, bears, record_len}
use Rattle.fsd_bytes.proofs.SameLaws.{is_same}
use Rattle.fsd_formats.proofs.PageLaws.{header_is_read}
use Rattle.fsd_log.specs.Judged.{Reader, passes, serving, page_copies, Serving, judged_with, judged_by, judged, images_of, Logged, logged_of, record_in}
use Rattle.fsd_log.specs.Borne.{Foreign, FitsStamp, ReadsLess}
use Rattle.fsd_log.proofs.BorneLaws.{foreign_header, foreign_end, foreign_page}

-- ---- none stays none

pub none_serves : (x y : Bool) → (if x then Some false else (if y then Some true else None)) ≡ None → (x ≡ false) × (y ≡ false)
none_serves true y e = absurd (cc)
none_serves false true e = absurd (cc)
none_serves false false e = (refl, refl)

passes_less : (test : List ℕ → Bool) (stamp : Stamp) (old new : Option (List ℕ)) → ((o : Option (List ℕ)) → Foreign stamp o → passes test o ≡ false) → (new ≡ old) ⊎ Foreign stamp new → passes test old ≡ false → passes test new ≡ false
passes_less test stamp old new fails (inl same) was = ap (passes test) same ∙ was
passes_less test stamp old new fails (inr foreign) was = fails new foreign

serving_less : (test : List ℕ → Bool) (stamp : Stamp) (a c a1 c1 : Option (List ℕ)) → ((o : Option (List ℕ)) → Foreign stamp o → passes test o ≡ false) → (a1 ≡ a) ⊎ Foreign stamp a1 → (c1 ≡ c) ⊎ Foreign stamp c1
    → serving test a c ≡ None → serving test a1 c1 ≡ None
serving_less test stamp a c a1 c1 fails la lc none =
    let were = none_serves (passes test a) (passes test c) none in
    let pa = passes_less test stamp a a1 fails la were.0 in
    let pc = passes_less test stamp c c1 fails lc were.1 in
    λ i. if pa i then Some false else (if pc i then Some true else None)

-- either none serves, or the rest is none
pub then_none : {A B C : Type 0} (o : Option A) (rest : Option B) (f : A → B → C) → option_and_then (λ x. option_map (f x) rest) o ≡ None → (o ≡ None) ⊎ (rest ≡ None)
then_none None rest f e = inl refl
then_none (Some x) None f e = inr refl
then_none (Some x) (Some y) f e = absurd (cc)

none_then : {A B C : Type 0} (o : Option A) (f : A → B → C) → option_and_then (λ x. option_map (f x) None) o ≡ None
none_then None f = refl
none_then (Some x) f = refl

abbrev pub serving_with : Bool → List ℕ → Bool → List Bool → Serving
serving_with hc pages x cs = record { pages = pages; header_copy = hc; end_copy = x; page_copy = cs }

-- the record with these pages, if there is room
abbrev in_room : (gap : ℕ) → Stamp → Reader → Bool → List ℕ → Option Serving
in_room gap stamp at hc pages =
    option_and_then (λ x. option_map (serving_with hc pages x) (page_copies stamp at (3 + gap) (4 + 2 * gap + length pages) pages)) (serving (is_end stamp (length pages)) (at (3 + gap + length pages)) (at (4 + 2 * gap + 2 * length pages)))

pub or_none : {A : Type 0} (x y : Option A) → option_or x y ≡ None → (x ≡ None) × (y ≡ None)
or_none None y e = (refl, e)
or_none (Some x) y e = absurd (cc)

module _ (gap : ℕ) (stamp : Stamp) (fits : FitsStamp stamp) (old new : Reader) (less : ReadsLess stamp old new) where
  copies_less : (a c : ℕ) (pages : List ℕ) → page_copies stamp old a c pages ≡ None → page_copies stamp new a c pages ≡ None
  copies_less a c [] e = absurd (cc)
  copies_less a c (page ∷ pages) e =
      elim (then_none (serving (bears page stamp) (old a) (old c)) (page_copies stamp old (a + 1) (c + 1) pages) (λ x more. x ∷ more) e) [
        | inl none ↦
            ap (λ (o : Option Bool). option_and_then (λ x. option_map (λ more. x ∷ more) (page_copies stamp new (a + 1) (c + 1) pages)) o)
            (serving_less (bears page stamp) stamp (old a) (old c) (new a) (new c) (foreign_page page stamp) (less.each a) (less.each c) none)
        | inr none ↦
            ap (λ (o : Option (List Bool)). option_and_then (λ x. option_map (λ more. x ∷ more) o) (serving (bears page stamp) (new a) (new c))) (copies_less (a + 1) (c + 1) pages none)
            ∙ none_then (serving (bears page stamp) (new a) (new c)) (λ (x : Bool) (more : List Bool). x ∷ more)
      ]

  roomy_less : (hc : Bool) (pages : List ℕ) → in_room gap stamp old hc pages ≡ None → in_room gap stamp new hc pages ≡ None
  roomy_less hc pages none =
      let n : ℕ = length pages in
      elim (then_none (serving (is_end stamp (length pages)) (old (3 + gap + length pages)) (old (4 + 2 * gap + 2 * length pages))) (page_copies stamp old (3 + gap) (4 + 2 * gap + length pages) pages) (serving_with hc pages) none) [
        | inl no_end ↦
            ap (λ (o : Option Bool). option_and_then (λ x. option_map (serving_with hc pages x) (page_copies stamp new (3 + gap) (4 + 2 * gap + length pages) pages)) o)
            (serving_less (is_end stamp (length pages)) stamp (old (3 + gap + length pages)) (old (4 + 2 * gap + 2 * length pages)) (new (3 + gap + length pages)) (new (4 + 2 * gap + 2 * length pages)) (foreign_end stamp fits (length pages))
            (less.each (3 + gap + length pages)) (less.each (4 + 2 * gap + 2 * length pages)) no_end)
        | inr no_pages ↦
            ap (λ (o : Option (List Bool)). option_and_then (λ x. option_map (serving_with hc pages x) o) (serving (is_end stamp (length pages)) (new (3 + gap + length pages)) (new (4 + 2 * gap + 2 * length pages)))) (copies_less (3 + gap) (4 + 2 * gap + length pages) pages no_pages)
            ∙ none_then (serving (is_end stamp (length pages)) (new (3 + gap + length pages)) (new (4 + 2 * gap + 2 * length pages))) (serving_with hc pages)
      ]

  by_room : (b : Bool) (hc : Bool) (pages : List ℕ) → cond b (in_room gap stamp old hc pages) None ≡ None → cond b (in_room gap stamp new hc pages) None ≡ None
  by_room true hc pages none = roomy_less hc pages none
  by_room false hc pages none = refl

  with_less : (room : ℕ) (hc : Bool) (pages : List ℕ) → judged_with gap stamp room old hc pages ≡ None → judged_with gap stamp room new hc pages ≡ None
  with_less room hc pages none = by_room (nat_le (record_len gap (length pages)) room) hc pages none

  with_if : (room : ℕ) (hc : Bool) (o : Option (List ℕ)) → option_and_then (judged_with gap stamp room old hc) o ≡ None → option_and_then (judged_with gap stamp room new hc) o ≡ None
  with_if room hc None none = refl
  with_if room hc (Some pages) none = with_less room hc pages none

  header_gone : (p room : ℕ) (hc : Bool) (h : Option (List ℕ)) → Foreign stamp h → judged_by gap p stamp room new hc h ≡ None
  header_gone p room hc None foreign = refl
  header_gone p room hc (Some bytes) foreign = ap (λ (o : Option (List ℕ)). option_and_then (judged_with gap stamp room new hc) o) (foreign_header stamp fits p bytes foreign)

  by_less : (p room : ℕ) (hc : Bool) (h h1 : Option (List ℕ)) → (h1 ≡ h) ⊎ Foreign stamp h1 → judged_by gap p stamp room old hc h ≡ None → judged_by gap p stamp room new hc h1 ≡ None
  by_less p room hc h h1 (inl same) none = ap (λ (o : Option (List ℕ)). judged_by gap p stamp room new hc o) same ∙ with_if room hc (option_and_then (read_header p stamp) h) none
  by_less p room hc h h1 (inr foreign) none = header_gone p room hc h1 foreign

  -- a record that isn't there doesn't come by reading less
  pub judged_less : (p room : ℕ) → judged gap p stamp room old ≡ None → judged gap p stamp room new ≡ None
  unfolding judged
  judged_less p room none =
      let were = or_none (judged_by gap p stamp room old false (old 0)) (judged_by gap p stamp room old true (old (2 + gap))) none in
      ap (λ (o : Option Serving). option_or o (judged_by gap p stamp room new true (new (2 + gap)))) (by_less p room false (old 0) (new 0) (less.each 0) were.0)
      ∙ by_less p room true (old (2 + gap)) (new (2 + gap)) (less.each (2 + gap)) were.1

-- ---- what is there stays, where its own sectors do

abbrev pub Alike : Reader → Reader → ℕ → Type 0
Alike old new n = (k : ℕ) → k < n → new k ≡ old k

copies_same : (stamp : Stamp) (old new : Reader) (a c : ℕ) (pages : List ℕ) → ((k : ℕ) → a ≤ k → k < a + length pages → new k ≡ old k) → ((k : ℕ) → c ≤ k → k < c + length pages → new k ≡ old k)
    → page_copies stamp new a c pages ≡ page_copies stamp old a c pages
copies_same stamp old new a c [] first second = refl
copies_same stamp old new a c (page ∷ pages) first second =
    let here = first a (omega arith) (omega arith) in
    let there = second c (omega arith) (omega arith) in
    let rest = copies_same stamp old new (a + 1) (c + 1) pages (λ k le lt. first k (omega arith) (omega arith)) (λ k le lt. second k (omega arith) (omega arith)) in
    λ i. option_and_then (λ x. option_map (λ more. x ∷ more) (rest i)) (serving (bears page stamp) (here i) (there i))

pub with_same : (gap : ℕ) → (stamp : Stamp) (room : ℕ) (old new : Reader) (hc : Bool) (pages : List ℕ) → Alike old new (record_len gap (length pages)) → judged_with gap stamp room new hc pages ≡ judged_with gap stamp room old hc pages
with_same gap stamp room old new hc pages same =
    let first = same (3 + gap + length pages) (omega arith) in
    let second = same (4 + 2 * gap + 2 * length pages) (omega arith) in
    let copies = copies_same stamp old new (3 + gap) (4 + 2 * gap + length pages) pages (λ k le lt. same k (omega arith)) (λ k le lt. same k (omega arith)) in
    λ i. if nat_le (record_len gap (length pages)) room then option_and_then (λ x. option_map (serving_with hc pages x) (copies i)) (serving (is_end stamp (length pages)) (first i) (second i)) else None

-- by its header
pub record ByHeader (gap : ℕ) (p : ℕ) (stamp : Stamp) (room : ℕ) (at : Reader) (hc : Bool) (h : Option (List ℕ)) (f : Serving) : Type 0 where
  pub header : option_and_then (read_header p stamp) h ≡ Some f.pages
  pub good : judged_with gap stamp room at hc f.pages ≡ Some f

pub mapped_some : {A B C : Type 0} (o : Option A) (rest : Option B) (f : A → B → C) (z : C) → option_and_then (λ x. option_map (f x) rest) o ≡ Some z → (x : A) × (y : B) × (rest ≡ Some y) × (f x y ≡ z)
mapped_some None rest f z e = absurd (cc)
mapped_some (Some x) None f z e = absurd (cc)
mapped_some (Some x) (Some y) f z e = (x, y, refl, cc)

pub if_some : {A : Type 0} (b : Bool) (x : Option A) (z : A) → cond b x None ≡ Some z → (b ≡ true) × (x ≡ Some z)
if_some true x z e = (refl, e)
if_some false x z e = absurd (cc)

with_parts : (gap : ℕ) → (stamp : Stamp) (room : ℕ) (at : Reader) (hc : Bool) (pages : List ℕ) (f : Serving) → judged_with gap stamp room at hc pages ≡ Some f
    → (nat_le (record_len gap (length pages)) room ≡ true) × (pages ≡ f.pages) × (page_copies stamp at (3 + gap) (4 + 2 * gap + length pages) pages ≡ Some f.page_copy)
with_parts gap stamp room at hc pages f e =
    let parts = if_some (nat_le (record_len gap (length pages)) room) (in_room gap stamp at hc pages) f e in
    let made = mapped_some (serving (is_end stamp (length pages)) (at (3 + gap + length pages)) (at (4 + 2 * gap + 2 * length pages))) (page_copies stamp at (3 + gap) (4 + 2 * gap + length pages) pages) (serving_with hc pages) f parts.1 in
    (parts.0, ap (λ (s : Serving). s.pages) made.3, made.2 ∙ ap (λ (s : Serving). Some s.page_copy) made.3)

by_header : (gap : ℕ) → (p : ℕ) (stamp : Stamp) (room : ℕ) (at : Reader) (hc : Bool) (h : Option (List ℕ)) (f : Serving) → judged_by gap p stamp room at hc h ≡ Some f → ByHeader gap p stamp room at hc h f
by_header gap p stamp room at hc h f e = by_pages (option_and_then (read_header p stamp) h) refl e
  where
    by_pages : (o : Option (List ℕ)) → option_and_then (read_header p stamp) h ≡ o → option_and_then (judged_with gap stamp room at hc) o ≡ Some f → ByHeader gap p stamp room at hc h f
    by_pages None is given = absurd (cc)
    by_pages (Some pages) is given =
        let same = (with_parts gap stamp room at hc pages f given).1 in
        record { header = is ∙ ap (λ (x : List ℕ). Some x) same; good = subst (λ (x : List ℕ). judged_with gap stamp room at hc x ≡ Some f) same given }

or_some : {A : Type 0} (x y : Option A) (z : A) → option_or x y ≡ Some z → (x ≡ Some z) ⊎ ((x ≡ None) × (y ≡ Some z))
or_some None y z e = inr (refl, e)
or_some (Some x) y z e = inl e

-- which of the two it is
pub record IsJudged (gap : ℕ) (p : ℕ) (stamp : Stamp) (room : ℕ) (at : Reader) (f : Serving) : Type 0 where
  pub roomy : nat_le (record_len gap (length f.pages)) room ≡ true
  pub copies : page_copies stamp at (3 + gap) (4 + 2 * gap + length f.pages) f.pages ≡ Some f.page_copy
  pub by : ByHeader gap p stamp room at false (at 0) f ⊎ ((judged_by gap p stamp room at false (at 0) ≡ None) × ByHeader gap p stamp room at true (at (2 + gap)) f)

pub is_judged : (gap : ℕ) → (p : ℕ) (stamp : Stamp) (room : ℕ) (at : Reader) (f : Serving) → judged gap p stamp room at ≡ Some f → IsJudged gap p stamp room at f
unfolding judged
is_judged gap p stamp room at f e =
    elim (or_some (judged_by gap p stamp room at false (at 0)) (judged_by gap p stamp room at true (at (2 + gap))) f e) [
      | inl first ↦ let by = by_header gap p stamp room at false (at 0) f first in let parts = with_parts gap stamp room at false f.pages f by.good in record { roomy = parts.0; copies = parts.2; by = inl by }
      | inr second ↦ let by = by_header gap p stamp room at true (at (2 + gap)) f second.1 in let parts = with_parts gap stamp room at true f.pages f by.good in record { roomy = parts.0; copies = parts.2; by = inr (second.0, by) }
    ]

module _ (gap : ℕ) (stamp : Stamp) (fits : FitsStamp stamp) (old new : Reader) (less : ReadsLess stamp old new) where
  pub judged_keeps : (p room : ℕ) (f : Serving) → judged gap p stamp room old ≡ Some f → Alike old new (record_len gap (length f.pages)) → judged gap p stamp room new ≡ Some f
  unfolding judged
  judged_keeps p room f e same = by_case (is_judged gap p stamp room old f e).by
    where
      again : (hc : Bool) (k : ℕ) → new k ≡ old k → ByHeader gap p stamp room old hc (old k) f → judged_by gap p stamp room new hc (new k) ≡ Some f
      again hc k here by =
          ap (λ (h : Option (List ℕ)). judged_by gap p stamp room new hc h) here
          ∙ ap (λ (o : Option (List ℕ)). option_and_then (judged_with gap stamp room new hc) o) by.header
          ∙ with_same gap stamp room old new hc f.pages same ∙ by.good

      by_case : ByHeader gap p stamp room old false (old 0) f ⊎ ((judged_by gap p stamp room old false (old 0) ≡ None) × ByHeader gap p stamp room old true (old (2 + gap)) f) → judged gap p stamp room new ≡ Some f
      by_case (inl first) = ap (λ (o : Option Serving). option_or o (judged_by gap p stamp room new true (new (2 + gap)))) (again false 0 (same 0 (omega arith)) first)
      by_case (inr second) =
          ap (λ (o : Option Serving). option_or o (judged_by gap p stamp room new true (new (2 + gap)))) (by_less gap stamp fits old new less p room false (old 0) (new 0) (less.each 0) second.0)
          ∙ again true (2 + gap) (same (2 + gap) (omega arith)) second.1

-- ---- the images

pub length-copies : (stamp : Stamp) (at : Reader) (a c : ℕ) (pages : List ℕ) (cs : List Bool) → page_copies stamp at a c pages ≡ Some cs → length cs ≡ length pages
length-copies stamp at a c [] cs e = ap (unwrap_len) (sym e)
  where
    unwrap_len : Option (List Bool) → ℕ
    unwrap_len None = 0
    unwrap_len (Some x) = length x
length-copies stamp at a c (page ∷ pages) cs e =
    let made = mapped_some (serving (bears page stamp) (at a) (at c)) (page_copies stamp at (a + 1) (c + 1) pages) (λ x more. x ∷ more) cs e in
    ap length (sym made.3) ∙ ap suc (length-copies stamp at (a + 1) (c + 1) pages made.1 made.2)

images_same : (old new : Reader) (a c : ℕ) (cs : List Bool) → ((k : ℕ) → a ≤ k → k < a + length cs → new k ≡ old k) → ((k : ℕ) → c ≤ k → k < c + length cs → new k ≡ old k)
    → images_of new a c cs ≡ images_of old a c cs
images_same old new a c [] first second = refl
images_same old new a c (x ∷ cs) first second =
    let rest = images_same old new (a + 1) (c + 1) cs (λ k le lt. first k (omega arith) (omega arith)) (λ k le lt. second k (omega arith) (omega arith)) in
    let here : unwrap_or (new (if x then c else a)) [] ≡ unwrap_or (old (if x then c else a)) [] = ap (λ (o : Option (List ℕ)). unwrap_or o []) (either x (first a (omega arith) (omega arith)) (second c (omega arith) (omega arith))) in
    λ i. here i ∷ rest i
  where
    either : (y : Bool) → new a ≡ old a → new c ≡ old c → new (if y then c else a) ≡ old (if y then c else a)
    either true p q = q
    either false p q = p

pub record_with_same : (gap : ℕ) → (number : ℕ) (p : ℕ) (stamp : Stamp) (room : ℕ) (old new : Reader) (f : Serving) → IsJudged gap p stamp room old f → Alike old new (record_len gap (length f.pages)) → logged_of gap number new f ≡ logged_of gap number old f
record_with_same gap number p stamp room old new f is same =
    let many = length-copies stamp old (3 + gap) (4 + 2 * gap + length f.pages) f.pages f.page_copy is.copies in
    let images = images_same old new (3 + gap) (4 + 2 * gap + length f.pages) f.page_copy (λ k le lt. same k (omega (arith, many))) (λ k le lt. same k (omega (arith, many))) in
    λ i. record { number = number; pages = f.pages; images = images i }

pub map_none : {A B : Type 0} (f : A → B) (o : Option A) → option_map f o ≡ None → o ≡ None
map_none f None e = refl
map_none f (Some x) e = absurd (cc)

-- the record with its images

module _ (gap : ℕ) (p : ℕ) (stamp : Stamp) (fits : FitsStamp stamp) (room : ℕ) (old new : Reader) (less : ReadsLess stamp old new) where
  pub record_less : record_in gap p stamp room old ≡ None → record_in gap p stamp room new ≡ None
  unfolding record_in
  record_less none = ap (option_map (logged_of gap stamp.number new)) (judged_less gap stamp fits old new less p room (map_none (logged_of gap stamp.number old) (judged gap p stamp room old) none))

  pub record_keeps : (r : Logged) → record_in gap p stamp room old ≡ Some r → Alike old new (record_len gap (length r.pages)) → record_in gap p stamp room new ≡ Some r
  unfolding record_in
  record_keeps r e same = by_judged (judged gap p stamp room old) refl e
    where
      by_judged : (o : Option Serving) → judged gap p stamp room old ≡ o → option_map (logged_of gap stamp.number old) o ≡ Some r → record_in gap p stamp room new ≡ Some r
      by_judged None is given = absurd (cc)
      by_judged (Some f) is given =
          let made : logged_of gap stamp.number old f ≡ r = cc in
          let pages : f.pages ≡ r.pages = ap (λ (x : Logged). x.pages) made in
          let alike : Alike old new (record_len gap (length f.pages)) = subst (λ (x : List ℕ). Alike old new (record_len gap (length x))) (sym pages) same in
          ap (option_map (logged_of gap stamp.number new)) (judged_keeps gap stamp fits old new less p room f is alike)
          ∙ ap (λ (x : Logged). Some x) (record_with_same gap stamp.number p stamp room old new f (is_judged gap p stamp room old f is) alike ∙ made)

pub record_room : (gap : ℕ) → (p : ℕ) (stamp : Stamp) (room : ℕ) (at : Reader) (r : Logged) → record_in gap p stamp room at ≡ Some r → record_len gap (length r.pages) ≤ room
unfolding record_in
record_room gap p stamp room at r e = by_judged (judged gap p stamp room at) refl e
  where
    by_judged : (o : Option Serving) → judged gap p stamp room at ≡ o → option_map (logged_of gap stamp.number at) o ≡ Some r → record_len gap (length r.pages) ≤ room
    by_judged None is given = absurd (cc)
    by_judged (Some f) is given =
        let made : logged_of gap stamp.number at f ≡ r = cc in
        let pages : f.pages ≡ r.pages = ap (λ (x : Logged). x.pages) made in
        leb-true (record_len gap (length r.pages)) room (ap (λ (x : List ℕ). nat_le (record_len gap (length x)) room) (sym pages) ∙ (is_judged gap p stamp room at f is).roomy)

-- ---- a record that is laid, and one that is laid in part

-- each page's image stands, from a place on
abbrev pub ImagesStand : Stamp → Reader → ℕ → List ℕ → List (List ℕ) → Type 0
ImagesStand stamp at k [] [] = ⊤
ImagesStand stamp at k (page ∷ pages) (image ∷ images) = ((at k ≡ Some image) × (bears page stamp image ≡ true)) × ImagesStand stamp at (k + 1) pages images
ImagesStand stamp at k pages images = ⊥

-- for each page, that the first serves
abbrev pub firsts : List ℕ → List Bool
firsts pages = replicate (length pages) false

first_serves : (test : List ℕ → Bool) (a c : Option (List ℕ)) → passes test a ≡ true → serving test a c ≡ Some false
first_serves test a c e = ap (λ (b : Bool). if b then Some false else (if passes test c then Some true else None)) e

copies_stand : (stamp : Stamp) (at : Reader) (a c : ℕ) (pages : List ℕ) (images : List (List ℕ)) → ImagesStand stamp at a pages images → page_copies stamp at a c pages ≡ Some (firsts pages)
copies_stand stamp at a c [] [] stand = refl
copies_stand stamp at a c [] (image ∷ images) stand = absurd stand
copies_stand stamp at a c (page ∷ pages) [] stand = absurd stand
copies_stand stamp at a c (page ∷ pages) (image ∷ images) stand =
    let here = first_serves (bears page stamp) (at a) (at c) (ap (passes (bears page stamp)) stand.0.0 ∙ stand.0.1) in
    λ i. option_and_then (λ x. option_map (λ more. x ∷ more) (copies_stand stamp at (a + 1) (c + 1) pages images stand.1 i)) (here i)

images_stand : (stamp : Stamp) (at : Reader) (a c : ℕ) (pages : List ℕ) (images : List (List ℕ)) → ImagesStand stamp at a pages images → images_of at a c (firsts pages) ≡ images
images_stand stamp at a c [] [] stand = refl
images_stand stamp at a c [] (image ∷ images) stand = absurd stand
images_stand stamp at a c (page ∷ pages) [] stand = absurd stand
images_stand stamp at a c (page ∷ pages) (image ∷ images) stand = λ i. unwrap_or (stand.0.0 i) [] ∷ images_stand stamp at (a + 1) (c + 1) pages images stand.1 i

-- the front of a record stands: header, pages and end
pub record FrontStands (gap : ℕ) (stamp : Stamp) (pages : List ℕ) (images : List (List ℕ)) (at : Reader) : Type 0 where
  pub header : at 0 ≡ Some (header_bytes stamp pages)
  pub whole : ImagesStand stamp at (3 + gap) pages images
  pub ends : at (3 + gap + length pages) ≡ Some (end_bytes stamp (length pages))

both_none : (b : Bool) → cond {A = Option Serving} b None None ≡ None
both_none true = refl
both_none false = refl

module _ (gap : ℕ) (p : ℕ) (stamp : Stamp) (pages : List ℕ) (accepted : are_pages p pages ≡ true) (small : AllByRecursion (λ n. n < 2 ^ 32) pages) (few : length pages < 2 ^ 16) (at : Reader) (room : ℕ) where
  reads_header : (o : Option (List ℕ)) → o ≡ Some (header_bytes stamp pages) → option_and_then (read_header p stamp) o ≡ Some pages
  reads_header o is = ap (λ (x : Option (List ℕ)). option_and_then (read_header p stamp) x) is ∙ header_is_read p stamp pages accepted small few

  pub front_served : (images : List (List ℕ)) → FrontStands gap stamp pages images at → record_len gap (length pages) ≤ room → judged gap p stamp room at ≡ Some (serving_with false pages false (firsts pages))
  unfolding judged
  front_served images stands long =
      let end_passes : passes (is_end stamp (length pages)) (at (3 + gap + length pages)) ≡ true = ap (passes (is_end stamp (length pages))) stands.ends ∙ is_same (end_bytes stamp (length pages)) in
      let good : judged_with gap stamp room at false pages ≡ Some (serving_with false pages false (firsts pages)) =
      cond-true _ _ None (le-leb _ _ long)
      ∙ λ i. option_and_then (λ x. option_map (serving_with false pages x) (copies_stand stamp at (3 + gap) (4 + 2 * gap + length pages) pages images stands.whole i)) (first_serves (is_end stamp (length pages)) (at (3 + gap + length pages)) (at (4 + 2 * gap + 2 * length pages)) end_passes i) in
      let by : judged_by gap p stamp room at false (at 0) ≡ Some (serving_with false pages false (firsts pages)) = ap (λ (o : Option (List ℕ)). option_and_then (judged_with gap stamp room at false) o) (reads_header (at 0) stands.header) ∙ good in
      ap (λ (o : Option Serving). option_or o (judged_by gap p stamp room at true (at (2 + gap)))) by

  pub front_judged : (images : List (List ℕ)) → FrontStands gap stamp pages images at → record_len gap (length pages) ≤ room → record_in gap p stamp room at ≡ Some (record { number = stamp.number; pages = pages; images = images })
  unfolding record_in
  front_judged images stands long =
      ap (option_map (logged_of gap stamp.number at)) (front_served images stands long)
      ∙ λ i. Some (record { number = stamp.number; pages = pages; images = images_stand stamp at (3 + gap) (4 + 2 * gap + length pages) pages images stands.whole i })

  -- neither end is of this record, and headers are this one's or none: it isn't there
  pub endless_absent : FitsStamp stamp → (at 0 ≡ Some (header_bytes stamp pages)) ⊎ Foreign stamp (at 0) → (at (2 + gap) ≡ Some (header_bytes stamp pages)) ⊎ Foreign stamp (at (2 + gap))
      → Foreign stamp (at (3 + gap + length pages)) → Foreign stamp (at (4 + 2 * gap + 2 * length pages)) → record_in gap p stamp room at ≡ None
  unfolding record_in judged
  endless_absent fits h0 h2 e0 e1 =
      ap (option_map (logged_of gap stamp.number at)) (ap (λ (o : Option Serving). option_or o (judged_by gap p stamp room at true (at (2 + gap)))) (none_by false (at 0) h0) ∙ none_by true (at (2 + gap)) h2)
    where
      none_with : (hc : Bool) → judged_with gap stamp room at hc pages ≡ None
      none_with hc =
          let none : serving (is_end stamp (length pages)) (at (3 + gap + length pages)) (at (4 + 2 * gap + 2 * length pages)) ≡ None =
          (λ i. if foreign_end stamp fits (length pages) (at (3 + gap + length pages)) e0 i then Some false else (if foreign_end stamp fits (length pages) (at (4 + 2 * gap + 2 * length pages)) e1 i then Some true else None)) in
          ap (λ (o : Option Bool). if nat_le (record_len gap (length pages)) room then option_and_then (λ x. option_map (serving_with hc pages x) (page_copies stamp at (3 + gap) (4 + 2 * gap + length pages) pages)) o else None) none
          ∙ both_none (nat_le (record_len gap (length pages)) room)

      none_by : (hc : Bool) (o : Option (List ℕ)) → (o ≡ Some (header_bytes stamp pages)) ⊎ Foreign stamp o → judged_by gap p stamp room at hc o ≡ None
      none_by hc o (inl is) = ap (λ (x : Option (List ℕ)). option_and_then (judged_with gap stamp room at hc) x) (reads_header o is) ∙ none_with hc
      none_by hc None (inr foreign) = refl
      none_by hc (Some bytes) (inr foreign) = ap (λ (x : Option (List ℕ)). option_and_then (judged_with gap stamp room at hc) x) (foreign_header stamp fits p bytes foreign)

-- where every sector bears nothing of it, it isn't there
pub foreign_absent : (gap : ℕ) → (p : ℕ) (stamp : Stamp) (fits : FitsStamp stamp) (room : ℕ) (at : Reader) → ((k : ℕ) → Foreign stamp (at k)) → record_in gap p stamp room at ≡ None
unfolding record_in judged
foreign_absent gap p stamp fits room at none = record_less gap p stamp fits room (λ k. None) at (record { each = λ k. inr (none k) }) refl

-- ---- one image

pub flag_of : (o : Option Bool) (rest : Option (List Bool)) (x : Bool) (more cs : List Bool) → x ∷ more ≡ cs → option_and_then (λ x. option_map (λ more. x ∷ more) rest) o ≡ Some cs → o ≡ Some x
flag_of None rest x more cs made e = absurd (cc)
flag_of (Some y) None x more cs made e = absurd (cc)
flag_of (Some y) (Some z) x more cs made e = ap (λ (b : Bool). Some b) (cc)
