-- What the loops keep.
use Rattle.std.proofs.Common.{◌≡◌, ℕ, zero, suc, ◌+◌, ◌-◌, ◌*◌, ◌<◌, ◌≤◌, Bool, true, false, ◌&&◌, List, [], ◌∷◌, ◌++◌, length, get_or, take, drop, Option, Some, None, nat_lt, nat_le, refl, sym, ap, ◌∙◌, arith, append_assoc}
use Rattle.std.proofs.Math.Bool.{and-false}
use Rattle.std.specs.Prelude.{if◌then◌else◌, codes, option_map, option_and_then}
use Rattle.std.specs.List.{flat_map, list_all}
use Rattle.std.proofs.lemmas.Bool.{cond-false}
use Rattle.std.proofs.lemmas.Bool.Decides.{nat_tests}
use Rattle.std.proofs.lemmas.List.{drop_more, take_more, take_at, drop_at, drop-drop, drop-replicate, length-append, length-drop, length-take-le}
use Rattle.std.proofs.lemmas.Grind.{flat_map-append}
use Rattle.std.proofs.lemmas.Slice.{drop-append-drop}
use Rattle.fsd_bytes.specs.Bytes.{u16, u32, zeros, sector, u16_at, u32_at, same_bytes}
use Rattle.fsd_bytes.proofs.FieldLaws.{u32_behind}
use Rattle.fsd_bytes.specs.Names.{is_between}
use Rattle.fsd_formats.specs.Record.{Stamp, record_len, stamp_bytes, header_bytes, read_header, are_pages, ascending, numbers_from, bears}
use Rattle.fsd_log.specs.Judged.{Reader, passes, serving, page_copies}
use Rattle.fsd_log.specs.Laid.{blanks}
use Rattle.fsd_log.proofs.LaidLaws.{numbers_long, blanks_long, all_long}

-- ---- ascending

short_ascends : (xs : List ℕ) → length xs ≤ 1 → ascending xs ≡ true
short_ascends [] le = refl
short_ascends (x ∷ []) le = refl
short_ascends (x ∷ y ∷ xs) le = absurd (omega arith)

pub ascend_end : (pages : List ℕ) (k : ℕ) → length pages ≤ k → ascending (drop (k - 1) pages) ≡ true
ascend_end pages k le = short_ascends (drop (k - 1) pages) (omega (arith, length-drop (k - 1) pages))

-- ---- page numbers

pub numbers_more : (k : ℕ) (bytes : List ℕ) → numbers_from (k + 1) bytes ≡ numbers_from k bytes ++ u32_at (4 * k) bytes ∷ []
numbers_more zero bytes = refl
numbers_more (suc k) bytes =
    let e : suc k + 1 ≡ suc (k + 1) = omega arith in
    let further : u32_at (4 * k) (drop 4 bytes) ≡ u32_at (4 * suc k) bytes = u32_behind 4 (4 * k) bytes ∙ ap (λ (n : ℕ). u32_at n bytes) (omega arith) in
    ap (λ (n : ℕ). numbers_from n bytes) e
    ∙ ap (λ (xs : List ℕ). u32_at 0 bytes ∷ xs) (numbers_more k (drop 4 bytes) ∙ ap (λ (x : ℕ). numbers_from k (drop 4 bytes) ++ x ∷ []) further)

pub length-numbers : (k : ℕ) (bytes : List ℕ) → length (numbers_from k bytes) ≡ k
length-numbers zero bytes = refl
length-numbers (suc k) bytes = ap suc (length-numbers k (drop 4 bytes))

-- more than 96 pages are none of a header
pub too_many : (p : ℕ) (stamp : Stamp) (bytes : List ℕ) (n : ℕ) → 96 < n → (are_pages p (numbers_from n (drop 32 bytes)) && same_bytes (header_bytes stamp (numbers_from n (drop 32 bytes))) bytes) ≡ false
too_many p stamp bytes n more =
    let pages : List ℕ = numbers_from n (drop 32 bytes) in
    let long : length (numbers_from n (drop 32 bytes)) ≡ n = length-numbers n (drop 32 bytes) in
    let test : nat_le (length (numbers_from n (drop 32 bytes))) 96 ≡ false = grind (arith, nat_tests) in
    let none : is_between 1 96 (length (numbers_from n (drop 32 bytes))) ≡ false = grind (arith, nat_tests) in
    ap (λ (b : Bool). ((b && ascending pages) && list_all (λ page. nat_lt page p) pages) && same_bytes (header_bytes stamp pages) bytes) none

-- ---- the header's bytes

pub put_behind : (xs : List ℕ) (place x : ℕ) → length xs ≡ place → place + 4 ≤ 512 → take place (sector xs) ++ (u32 x ++ drop (place + 4) (sector xs)) ≡ sector (xs ++ u32 x)
put_behind xs place x long room =
    let zs : List ℕ = zeros (512 - length xs) in
    let front : take place (sector xs) ≡ xs = take_at xs (zeros (512 - length xs)) place long in
    let back : drop (place + 4) (sector xs) ≡ zeros (512 - length xs - 4) = sym (drop-drop 4 place (sector xs)) ∙ ap (drop 4) (drop_at xs (zeros (512 - length xs)) place long) ∙ drop-replicate {X = ℕ} 4 (512 - length xs) 0 in
    let left : 512 - length xs - 4 ≡ 512 - length (xs ++ u32 x) = omega (arith, length-append xs (u32 x)) in
    ap (λ (f : List ℕ). f ++ (u32 x ++ drop (place + 4) (sector xs))) front
    ∙ ap (λ (b : List ℕ). xs ++ (u32 x ++ b)) (back ∙ ap zeros left)
    ∙ sym (append_assoc xs (u32 x) (zeros (512 - length (xs ++ u32 x))))

abbrev pub front_of : Stamp → ℕ → List ℕ
front_of stamp n = codes "CLHD" ++ stamp_bytes stamp ++ u16 n ++ zeros 18

abbrev pub header_with : Stamp → ℕ → List ℕ → List ℕ
header_with stamp n pages = sector (front_of stamp n ++ flat_map u32 pages)

pub header_more : (stamp : Stamp) (n : ℕ) (pages : List ℕ) (k place : ℕ) → k < length pages → length pages ≤ 96 → place ≡ 32 + 4 * k
    → take place (header_with stamp n (take k pages)) ++ (u32 (get_or pages k 0) ++ drop (place + 4) (header_with stamp n (take k pages))) ≡ header_with stamp n (take (k + 1) pages)
header_more stamp n pages k place below few at =
    let some : length (take k pages) ≡ k = length-take-le k pages (omega arith) in
    let long : length (front_of stamp n ++ flat_map u32 (take k pages)) ≡ place = omega (arith, numbers_long (take k pages)) in
    put_behind (front_of stamp n ++ flat_map u32 (take k pages)) place (get_or pages k 0) long (omega arith)
    ∙ ap sector (append_assoc (front_of stamp n) (flat_map u32 (take k pages)) (u32 (get_or pages k 0))
    ∙ ap (λ (x : List ℕ). front_of stamp n ++ x) (sym (flat_map-append u32 (take k pages) (get_or pages k 0 ∷ [])) ∙ ap (flat_map u32) (sym (take_more pages k 0 below))))

-- ---- which copies of pages serve

pub copies_more : (stamp : Stamp) (at : Reader) (pages : List ℕ) (so_far : List Bool) (k a c : ℕ) (d : Bool) (whole : Option (List Bool))
    (new : List Bool) (a1 c1 : ℕ)
    → k < length pages → serving (bears (get_or pages k 0) stamp) (at a) (at c) ≡ Some d
    → whole ≡ option_map (λ more. so_far ++ more) (page_copies stamp at a c (drop k pages))
    → new ≡ so_far ++ d ∷ [] → a1 ≡ a + 1 → c1 ≡ c + 1
    → whole ≡ option_map (λ more. new ++ more) (page_copies stamp at a1 c1 (drop (k + 1) pages))
copies_more stamp at pages so_far k a c d whole new a1 c1 below serves is pushed ea ec =
    is ∙ ap (λ (xs : List ℕ). option_map (λ more. so_far ++ more) (page_copies stamp at a c xs)) (drop_more pages k 0 below)
    ∙ ap (λ (o : Option Bool). option_map (λ more. so_far ++ more) (option_and_then (λ x. option_map (λ more. x ∷ more) (page_copies stamp at (a + 1) (c + 1) (drop (k + 1) pages))) o)) serves
    ∙ regroup so_far d (page_copies stamp at (a + 1) (c + 1) (drop (k + 1) pages))
    ∙ λ i. option_map (λ more. sym pushed i ++ more) (page_copies stamp at (sym ea i) (sym ec i) (drop (k + 1) pages))
  where
    regroup : (xs : List Bool) (x : Bool) (o : Option (List Bool)) → option_map (λ more. xs ++ more) (option_map (λ more. x ∷ more) o) ≡ option_map (λ more. (xs ++ x ∷ []) ++ more) o
    regroup xs x None = refl
    regroup xs x (Some more) = ap Some (sym (append_assoc xs (x ∷ []) more))

pub which_serves : (test : List ℕ → Bool) (first copy f s : Option (List ℕ)) (x y : Bool) (r d : Option Bool) → f ≡ first → s ≡ copy → x ≡ passes test f → y ≡ passes test s
    → r ≡ (if x then Some false else (if y then Some true else None)) → r ≡ d → serving test first copy ≡ d
which_serves test first copy f s x y r d ef es ex ey er is =
    let px : passes test first ≡ x = sym (ex ∙ ap (passes test) ef) in
    let py : passes test copy ≡ y = sym (ey ∙ ap (passes test) es) in
    (λ i. if px i then Some false else (if py i then Some true else None)) ∙ sym er ∙ is

pub numbers_step : (items new b : List ℕ) (k x : ℕ) → items ≡ numbers_from k (drop 32 b) → x ≡ u32_at (32 + 4 * k) b → new ≡ items ++ x ∷ [] → new ≡ numbers_from (k + 1) (drop 32 b)
numbers_step items new b k x so_far is pushed =
    pushed ∙ (λ i. so_far i ++ is i ∷ []) ∙ ap (λ (y : ℕ). numbers_from k (drop 32 b) ++ y ∷ []) (sym (u32_behind 32 (4 * k) b)) ∙ sym (numbers_more k (drop 32 b))

pub header_step : (stamp : Stamp) (n : ℕ) (pages : List ℕ) (k place x : ℕ) (old new : List ℕ) → k < length pages → length pages ≤ 96 → place ≡ 32 + 4 * k → x ≡ get_or pages k 0
    → old ≡ header_with stamp n (take k pages) → new ≡ take place old ++ (u32 x ++ drop (place + 4) old) → new ≡ header_with stamp n (take (k + 1) pages)
header_step stamp n pages k place x old new below few at is so_far put =
    put ∙ (λ i. take place (so_far i) ++ (u32 (is i) ++ drop (place + 4) (so_far i))) ∙ header_more stamp n pages k place below few at

-- ---- bytes behind others

pub lay_step : (done o old new bytes : List ℕ) (place next : ℕ) → length done ≡ place → next ≡ place + length bytes → old ≡ done ++ drop place o
    → new ≡ take place old ++ (bytes ++ drop (place + length bytes) old) → new ≡ (done ++ bytes) ++ drop next o
lay_step done o old new bytes place next long at was put =
    let front : take place old ≡ done = ap (take place) was ∙ take_at done (drop place o) place long in
    let back : drop (place + length bytes) old ≡ drop next o = ap (drop (place + length bytes)) was ∙ drop-append-drop place o done (place + length bytes) (omega arith) long ∙ ap (λ (n : ℕ). drop n o) (sym at) in
    put ∙ (λ i. front i ++ (bytes ++ back i)) ∙ sym (append_assoc done bytes (drop next o))

-- the rows of a record, behind one another
abbrev pub laid_rows : (gap : ℕ) → (h images e : List ℕ) → List ℕ
laid_rows gap h images e = h ++ (blanks (1 + gap) ++ (h ++ (images ++ (e ++ (blanks gap ++ (images ++ e))))))

module _ (gap : ℕ) (h images e : List ℕ) (n : ℕ) (lh : length h ≡ 512) (le : length e ≡ 512) (li : length images ≡ 512 * n) (o a b c d f x g new : List ℕ)
    (first : ℕ) (at_first : first ≡ 1536 + 512 * gap)
    (p1 : a ≡ take 0 o ++ (h ++ drop (0 + length h) o)) (p2 : b ≡ take 512 a ++ (blanks (1 + gap) ++ drop (512 + 512 * (1 + gap)) a)) (p3 : c ≡ take (1024 + 512 * gap) b ++ (h ++ drop (1024 + 512 * gap + length h) b))
    (p4 : d ≡ take first c ++ (images ++ drop (first + length images) c)) (p5 : f ≡ take (first + length images) d ++ (e ++ drop (first + length images + length e) d))
    (p6 : x ≡ take (first + length images + 512) f ++ (blanks gap ++ drop (first + length images + 512 + 512 * gap) f))
    (p7 : g ≡ take (first + length images + 512 + 512 * gap) x ++ (images ++ drop (first + length images + 512 + 512 * gap + length images) x))
    (p8 : new ≡ take (first + length images + 512 + 512 * gap + length images) g ++ (e ++ drop (first + length images + 512 + 512 * gap + length images + length e) g)) where
  lz : length (blanks (1 + gap)) ≡ 512 * (1 + gap)
  lz = blanks_long (1 + gap)

  lg : length (blanks gap) ≡ 512 * gap
  lg = blanks_long gap

  q2 : b ≡ take 512 a ++ (blanks (1 + gap) ++ drop (512 + length (blanks (1 + gap))) a)
  q2 = p2 ∙ ap (λ (m : ℕ). take 512 a ++ (blanks (1 + gap) ++ drop (512 + m) a)) (sym lz)

  q6 : x ≡ take (first + length images + 512) f ++ (blanks gap ++ drop (first + length images + 512 + length (blanks gap)) f)
  q6 = p6 ∙ ap (λ (m : ℕ). take (first + length images + 512) f ++ (blanks gap ++ drop (first + length images + 512 + m) f)) (sym lg)

  whole : new ≡ laid_rows gap h images e ++ drop (512 * record_len gap n) o
  whole =
      let z = blanks (1 + gap) in
      let y = blanks gap in
      let s1 = lay_step [] o o a h 0 512 refl (omega (arith, lh)) refl p1 in
      let s2 = lay_step h o a b (blanks (1 + gap)) 512 (1024 + 512 * gap) lh (omega (arith, lz)) s1 q2 in
      let l2 : length (h ++ blanks (1 + gap)) ≡ 1024 + 512 * gap = omega (arith, lh, lz, length-append h (blanks (1 + gap))) in
      let s3 = lay_step (h ++ blanks (1 + gap)) o b c h (1024 + 512 * gap) first l2 (omega (arith, lh, at_first)) s2 p3 in
      let l3 : length ((h ++ blanks (1 + gap)) ++ h) ≡ first = omega (arith, lh, l2, at_first, length-append (h ++ blanks (1 + gap)) h) in
      let s4 = lay_step ((h ++ blanks (1 + gap)) ++ h) o c d images first (first + length images) l3 refl s3 p4 in
      let l4 : length (((h ++ blanks (1 + gap)) ++ h) ++ images) ≡ first + length images = omega (arith, l3, length-append ((h ++ blanks (1 + gap)) ++ h) images) in
      let s5 = lay_step (((h ++ blanks (1 + gap)) ++ h) ++ images) o d f e (first + length images) (first + length images + 512) l4 (omega (arith, le)) s4 p5 in
      let l5 : length ((((h ++ blanks (1 + gap)) ++ h) ++ images) ++ e) ≡ first + length images + 512 = omega (arith, l4, le, length-append (((h ++ blanks (1 + gap)) ++ h) ++ images) e) in
      let s6 = lay_step ((((h ++ blanks (1 + gap)) ++ h) ++ images) ++ e) o f x (blanks gap) (first + length images + 512) (first + length images + 512 + 512 * gap) l5 (omega (arith, lg)) s5 q6 in
      let l6 : length (((((h ++ blanks (1 + gap)) ++ h) ++ images) ++ e) ++ blanks gap) ≡ first + length images + 512 + 512 * gap = omega (arith, l5, lg, length-append ((((h ++ blanks (1 + gap)) ++ h) ++ images) ++ e) (blanks gap)) in
      let s7 = lay_step (((((h ++ blanks (1 + gap)) ++ h) ++ images) ++ e) ++ blanks gap) o x g images (first + length images + 512 + 512 * gap) (first + length images + 512 + 512 * gap + length images) l6 refl s6 p7 in
      let l7 : length ((((((h ++ blanks (1 + gap)) ++ h) ++ images) ++ e) ++ blanks gap) ++ images) ≡ first + length images + 512 + 512 * gap + length images = omega (arith, l6, length-append (((((h ++ blanks (1 + gap)) ++ h) ++ images) ++ e) ++ blanks gap) images) in
      let s8 = lay_step ((((((h ++ blanks (1 + gap)) ++ h) ++ images) ++ e) ++ blanks gap) ++ images) o g new e (first + length images + 512 + 512 * gap + length images) (512 * record_len gap n) l7 (omega (arith, le, li, at_first)) s7 p8 in
      let regroup : ((((((h ++ blanks (1 + gap)) ++ h) ++ images) ++ e) ++ blanks gap) ++ images) ++ e ≡ laid_rows gap h images e = simp append_assoc in
      s8 ∙ ap (λ (t : List ℕ). t ++ drop (512 * record_len gap n) o) regroup

  long : length (laid_rows gap h images e) ≡ 512 * record_len gap n
  long = all_long gap h e images n lh le li

  pub lay_front : take (512 * record_len gap n) new ≡ laid_rows gap h images e
  lay_front = ap (take (512 * record_len gap n)) whole ∙ take_at _ _ _ long

  pub lay_rest : drop (512 * record_len gap n) new ≡ drop (512 * record_len gap n) o
  lay_rest = ap (drop (512 * record_len gap n)) whole ∙ drop_at _ _ _ long

pub many_none : (p : ℕ) (stamp : Stamp) (bytes : List ℕ) → 96 < u16_at 12 bytes → read_header p stamp bytes ≡ None
many_none p stamp bytes more = cond-false _ _ _ (too_many p stamp bytes (u16_at 12 bytes) more)

pub unspelled_none : (p : ℕ) (stamp : Stamp) (bytes pages : List ℕ) (n : ℕ) → n ≡ u16_at 12 bytes → pages ≡ numbers_from n (drop 32 bytes) → same_bytes (header_bytes stamp pages) bytes ≡ false → read_header p stamp bytes ≡ None
unspelled_none p stamp bytes pages n count is differs =
    let all : numbers_from (u16_at 12 bytes) (drop 32 bytes) ≡ pages = sym (is ∙ ap (λ (m : ℕ). numbers_from m (drop 32 bytes)) count) in
    cond-false _ _ _ (ap (λ (x : List ℕ). are_pages p x && same_bytes (header_bytes stamp x) bytes) all ∙ ap (λ (b : Bool). are_pages p pages && b) differs ∙ and-false (are_pages p pages))
