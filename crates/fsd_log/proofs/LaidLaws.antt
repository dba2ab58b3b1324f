-- The sectors of a record as it is laid.
use Rattle.std.proofs.Common.{◌≡◌, ℕ, zero, suc, ◌+◌, ◌-◌, ◌*◌, ◌<◌, ◌≤◌, true, List, [], ◌∷◌, ◌++◌, length, take, drop, get_or, Some, None, refl, sym, ap, subst, ◌∙◌, arith, inl, inr, ◌⊎◌}
use Rattle.std.specs.Prelude.{codes}
use Rattle.std.specs.List.{flat_map}
use Rattle.std.proofs.lemmas.Bool.{cases_lt, cases_eq}
use Rattle.std.proofs.lemmas.List.{take_at, drop_at, drop-drop, take-append-le, drop-append-le, length-append, length-drop, length-replicate, drop-replicate, take-replicate, append-nil}
use Rattle.fsd_bytes.specs.Bytes.{u16, u32, zeros, sector}
use Rattle.fsd_formats.specs.Record.{Stamp, stamp_bytes, header_bytes, end_bytes, bears, AreStamped, record_len}
use Rattle.fsd_log.specs.Judged.{Reader, sector_in}
use Rattle.fsd_log.specs.Borne.{borne_by, FitsStamp}
use Rattle.fsd_log.specs.Laid.{blanks, laid_bytes, slices_from}
use Rattle.fsd_log.proofs.BorneLaws.{header_bears, end_bears, page_bears}
use Rattle.fsd_log.proofs.JudgedLaws.{ImagesStand}

-- ---- slices

pub slice_whole : (x rest : List ℕ) → length x ≡ 512 → sector_in (x ++ rest) 0 ≡ x
slice_whole x rest long = take_at x rest 512 long

pub slice_all : (x : List ℕ) → length x ≡ 512 → sector_in x 0 ≡ x
slice_all x long = sym (ap (λ (y : List ℕ). sector_in y 0) (append-nil x)) ∙ slice_whole x [] long

pub slice_behind : (front rest : List ℕ) (m j k : ℕ) → length front ≡ 512 * m → k ≡ m + j → sector_in (front ++ rest) k ≡ sector_in rest j
slice_behind front rest m j k long at =
    let e : 512 * k ≡ 512 * m + 512 * j = omega arith in
    ap (take 512) (ap (λ (n : ℕ). drop n (front ++ rest)) e ∙ sym (drop-drop (512 * j) (512 * m) (front ++ rest)) ∙ ap (drop (512 * j)) (drop_at front rest (512 * m) long))

pub slice_within : (front rest : List ℕ) (m j : ℕ) → length front ≡ 512 * m → j < m → sector_in (front ++ rest) j ≡ sector_in front j
slice_within front rest m j long lt =
    ap (take 512) (drop-append-le (512 * j) front rest (omega arith))
    ∙ take-append-le 512 (drop (512 * j) front) rest (omega (arith, length-drop (512 * j) front))

-- ---- lengths

pub numbers_long : (pages : List ℕ) → length (flat_map u32 pages) ≡ 4 * length pages
numbers_long [] = refl
numbers_long (page ∷ pages) = omega (arith, numbers_long pages)

sector_long : (xs : List ℕ) → length xs ≤ 512 → length (sector xs) ≡ 512
sector_long xs le = omega (arith, length-append xs (zeros (512 - length xs)), length-replicate {A = ℕ} (512 - length xs) 0)

pub header_long : (stamp : Stamp) (pages : List ℕ) → length pages ≤ 96 → length (header_bytes stamp pages) ≡ 512
header_long stamp pages few = sector_long (codes "CLHD" ++ stamp_bytes stamp ++ u16 (length pages) ++ zeros 18 ++ flat_map u32 pages) (omega (arith, numbers_long pages))

-- ---- the rows

-- a blank sector of some
blank_slice : (count j : ℕ) → j < count → sector_in (blanks count) j ≡ zeros 512
blank_slice count j lt =
    ap (take 512) (drop-replicate (512 * j) (512 * count) 0)
    ∙ take-replicate 512 (512 * count - 512 * j) 0 (omega arith)

pub blanks_long : (count : ℕ) → length (blanks count) ≡ 512 * count
blanks_long count = length-replicate {A = ℕ} (512 * count) 0

module _ (gap : ℕ) (h e images : List ℕ) (n : ℕ) (lh : length h ≡ 512) (le : length e ≡ 512) (li : length images ≡ 512 * n) where
  abbrev pub all : List ℕ
  all = h ++ (blanks (1 + gap) ++ (h ++ (images ++ (e ++ (blanks gap ++ (images ++ e))))))

  pub row_0 : sector_in all 0 ≡ h
  row_0 = slice_whole h (blanks (1 + gap) ++ (h ++ (images ++ (e ++ (blanks gap ++ (images ++ e)))))) lh

  past_1 : (k j : ℕ) → k ≡ 1 + j → sector_in all k ≡ sector_in (blanks (1 + gap) ++ (h ++ (images ++ (e ++ (blanks gap ++ (images ++ e)))))) j
  past_1 k j at = slice_behind h (blanks (1 + gap) ++ (h ++ (images ++ (e ++ (blanks gap ++ (images ++ e)))))) 1 j k lh at

  pub row_1 : (k : ℕ) → 1 ≤ k → k < 2 + gap → sector_in all k ≡ zeros 512
  row_1 k ge lt =
      past_1 k (k - 1) (omega arith)
      ∙ slice_within (blanks (1 + gap)) (h ++ (images ++ (e ++ (blanks gap ++ (images ++ e))))) (1 + gap) (k - 1) (blanks_long (1 + gap)) (omega arith)
      ∙ blank_slice (1 + gap) (k - 1) (omega arith)

  past_2 : (k j : ℕ) → k ≡ 2 + gap + j → sector_in all k ≡ sector_in (h ++ (images ++ (e ++ (blanks gap ++ (images ++ e))))) j
  past_2 k j at = past_1 k (1 + gap + j) (omega arith) ∙ slice_behind (blanks (1 + gap)) (h ++ (images ++ (e ++ (blanks gap ++ (images ++ e))))) (1 + gap) j (1 + gap + j) (blanks_long (1 + gap)) refl

  pub row_2 : sector_in all (2 + gap) ≡ h
  row_2 = past_2 (2 + gap) 0 (omega arith) ∙ slice_whole h (images ++ (e ++ (blanks gap ++ (images ++ e)))) lh

  past_3 : (k j : ℕ) → k ≡ 3 + gap + j → sector_in all k ≡ sector_in (images ++ (e ++ (blanks gap ++ (images ++ e)))) j
  past_3 k j at = past_2 k (1 + j) (omega arith) ∙ slice_behind h (images ++ (e ++ (blanks gap ++ (images ++ e)))) 1 j (1 + j) lh refl

  pub row_image : (j : ℕ) → j < n → sector_in all (3 + gap + j) ≡ sector_in images j
  row_image j lt = past_3 (3 + gap + j) j refl ∙ slice_within images (e ++ (blanks gap ++ (images ++ e))) n j li lt

  past_images : (k j : ℕ) → k ≡ 3 + gap + n + j → sector_in all k ≡ sector_in (e ++ (blanks gap ++ (images ++ e))) j
  past_images k j at = past_3 k (n + j) (omega arith) ∙ slice_behind images (e ++ (blanks gap ++ (images ++ e))) n j (n + j) li refl

  pub row_end : sector_in all (3 + gap + n) ≡ e
  row_end = past_images (3 + gap + n) 0 (omega arith) ∙ slice_whole e (blanks gap ++ (images ++ e)) le

  past_end : (k j : ℕ) → k ≡ 4 + gap + n + j → sector_in all k ≡ sector_in (blanks gap ++ (images ++ e)) j
  past_end k j at = past_images k (1 + j) (omega arith) ∙ slice_behind e (blanks gap ++ (images ++ e)) 1 j (1 + j) le refl

  pub row_gap : (k : ℕ) → 4 + gap + n ≤ k → k < 4 + 2 * gap + n → sector_in all k ≡ zeros 512
  row_gap k ge lt =
      past_end k (k - (4 + gap + n)) (omega arith)
      ∙ slice_within (blanks gap) (images ++ e) gap (k - (4 + gap + n)) (blanks_long gap) (omega arith)
      ∙ blank_slice gap (k - (4 + gap + n)) (omega arith)

  past_gap : (k j : ℕ) → k ≡ 4 + 2 * gap + n + j → sector_in all k ≡ sector_in (images ++ e) j
  past_gap k j at = past_end k (gap + j) (omega arith) ∙ slice_behind (blanks gap) (images ++ e) gap j (gap + j) (blanks_long gap) refl

  pub row_copy : (j : ℕ) → j < n → sector_in all (4 + 2 * gap + n + j) ≡ sector_in images j
  row_copy j lt = past_gap (4 + 2 * gap + n + j) j refl ∙ slice_within images e n j li lt

  pub row_last : (k : ℕ) → k ≡ 4 + 2 * gap + 2 * n → sector_in all k ≡ e
  row_last k at =
      past_gap k n (omega arith) ∙ slice_behind images e n 0 n li (omega arith)
      ∙ slice_all e le

  pub all_long : length all ≡ 512 * record_len gap n
  all_long = omega (arith, lh, le, li, blanks_long (1 + gap), blanks_long gap, length-append h (blanks (1 + gap) ++ (h ++ (images ++ (e ++ (blanks gap ++ (images ++ e)))))), length-append (blanks (1 + gap)) (h ++ (images ++ (e ++ (blanks gap ++ (images ++ e))))), length-append h (images ++ (e ++ (blanks gap ++ (images ++ e)))), length-append images (e ++ (blanks gap ++ (images ++ e))), length-append e (blanks gap ++ (images ++ e)), length-append (blanks gap) (images ++ e), length-append images e)

  -- a row is one of these
  row_is : (k : ℕ) → k < record_len gap n → (sector_in all k ≡ h) ⊎ ((sector_in all k ≡ zeros 512) ⊎ ((sector_in all k ≡ e) ⊎ ((j : ℕ) × (j < n) × (sector_in all k ≡ sector_in images j))))
  row_is k lt = elim (cases_eq k 0) [
    | inl zeroth ↦ inl (ap (sector_in all) zeroth ∙ row_0)
    | inr p0 ↦ elim (cases_lt k (2 + gap)) [
      | inl first ↦ inr (inl (row_1 k (omega arith) first))
      | inr p1 ↦ elim (cases_eq k (2 + gap)) [
        | inl second ↦ inl (ap (sector_in all) second ∙ row_2)
        | inr p2 ↦ elim (cases_lt k (3 + gap + n)) [
          | inl below ↦ inr (inr (inr (k - (3 + gap), omega arith, ap (sector_in all) (let at : k ≡ 3 + gap + (k - (3 + gap)) = omega arith in at) ∙ row_image (k - (3 + gap)) (omega arith))))
          | inr above ↦ elim (cases_eq k (3 + gap + n)) [
            | inl here ↦ inr (inr (inl (ap (sector_in all) here ∙ row_end)))
            | inr p3 ↦ elim (cases_lt k (4 + 2 * gap + n)) [
              | inl between ↦ inr (inl (row_gap k (omega arith) between))
              | inr past ↦ elim (cases_eq k (4 + 2 * gap + 2 * n)) [
                | inl last ↦ inr (inr (inl (row_last k last)))
                | inr p4 ↦ inr (inr (inr (k - (4 + 2 * gap + n), omega arith, ap (sector_in all) (let at : k ≡ 4 + 2 * gap + n + (k - (4 + 2 * gap + n)) = omega arith in at) ∙ row_copy (k - (4 + 2 * gap + n)) (omega arith))))
              ]
            ]
          ]
        ]
      ]
    ]
  ]

-- ---- of a record

-- the image of a page bears its page and the stamp
pub stamped_at : (stamp : Stamp) (pages images : List ℕ) (from j : ℕ) → AreStamped stamp pages (slices_from from images (length pages)) → j < length pages → bears (get_or pages j 0) stamp (sector_in images (from + j)) ≡ true
stamped_at stamp [] images from j stamped lt = absurd (omega arith)
stamped_at stamp (page ∷ pages) images from zero stamped lt = subst (λ (k : ℕ). bears page stamp (sector_in images k) ≡ true) (omega arith) stamped.0
stamped_at stamp (page ∷ pages) images from (suc j) stamped lt =
    let at : suc from + j ≡ from + suc j = omega arith in
    subst (λ (k : ℕ). bears (get_or pages j 0) stamp (sector_in images k) ≡ true) at (stamped_at stamp pages images (suc from) j stamped.1 (omega arith))

pub images_at : (stamp : Stamp) (pages images : List ℕ) (from k : ℕ) (at : Reader) → AreStamped stamp pages (slices_from from images (length pages)) → ((j : ℕ) → j < length pages → at (k + j) ≡ Some (sector_in images (from + j)))
    → ImagesStand stamp at k pages (slices_from from images (length pages))
images_at stamp [] images from k at stamped stand = tt
images_at stamp (page ∷ pages) images from k at stamped stand =
    let e : k ≡ k + 0 = omega arith in
    let f : from + 0 ≡ from = omega arith in
    let here : at k ≡ Some (sector_in images from) = ap at e ∙ stand 0 (omega arith) ∙ ap (λ (m : ℕ). Some (sector_in images m)) f in (
      (here, stamped.0),
      images_at stamp pages images (suc from) (k + 1) at stamped.1 (λ j lt.
          let left : (k + 1) + j ≡ k + suc j = omega arith in
          let right : from + suc j ≡ suc from + j = omega arith in
          ap at left ∙ stand (suc j) (omega arith) ∙ ap (λ (m : ℕ). Some (sector_in images m)) right),
    )

-- as it is laid
pub record IsLaidAs (gap : ℕ) (stamp : Stamp) (pages images bytes : List ℕ) : Type 0 where
  pub long : length bytes ≡ 512 * record_len gap (length pages)
  pub header : sector_in bytes 0 ≡ header_bytes stamp pages
  pub header_copy : sector_in bytes (2 + gap) ≡ header_bytes stamp pages
  pub image : (j : ℕ) → j < length pages → sector_in bytes (3 + gap + j) ≡ sector_in images j
  pub ends : sector_in bytes (3 + gap + length pages) ≡ end_bytes stamp (length pages)
  pub copy : (j : ℕ) → j < length pages → sector_in bytes (4 + 2 * gap + length pages + j) ≡ sector_in images j
  pub last : sector_in bytes (4 + 2 * gap + 2 * length pages) ≡ end_bytes stamp (length pages)
  -- each sector bears this stamp or none
  pub borne : (k : ℕ) → k < record_len gap (length pages) → (borne_by (sector_in bytes k) ≡ Some stamp) ⊎ (borne_by (sector_in bytes k) ≡ None)
  pub stamped : AreStamped stamp pages (slices_from 0 images (length pages))

pub laid_as : (gap : ℕ) → (stamp : Stamp) (fits : FitsStamp stamp) (pages images : List ℕ) → length pages ≤ 96 → length images ≡ 512 * length pages → AreStamped stamp pages (slices_from 0 images (length pages)) → IsLaidAs gap stamp pages images (laid_bytes gap stamp pages images)
unfolding laid_bytes
laid_as gap stamp fits pages images few long stamped =
    let h = header_bytes stamp pages in
    let e = end_bytes stamp (length pages) in
    let lh : length (header_bytes stamp pages) ≡ 512 = header_long stamp pages few in
    record {
      long = all_long gap h e images (length pages) lh refl long;
      header = row_0 gap h e images (length pages) lh refl long;
      header_copy = row_2 gap h e images (length pages) lh refl long;
      image = λ j lt. row_image gap h e images (length pages) lh refl long j lt;
      ends = row_end gap h e images (length pages) lh refl long;
      copy = λ j lt. row_copy gap h e images (length pages) lh refl long j lt;
      last = row_last gap h e images (length pages) lh refl long (4 + 2 * gap + 2 * length pages) refl;
      borne = λ k lt. elim (row_is gap h e images (length pages) lh refl long k lt) [
        | inl header ↦ inl (ap borne_by header ∙ header_bears stamp fits pages)
        | inr (inl blank) ↦ inr (ap borne_by blank)
        | inr (inr (inl last)) ↦ inl (ap borne_by last ∙ end_bears stamp fits (length pages))
        | inr (inr (inr image)) ↦ inl (ap borne_by image.2 ∙ page_bears (get_or pages image.0 0) stamp (sector_in images image.0) (subst (λ (m : ℕ). bears (get_or pages image.0 0) stamp (sector_in images m) ≡ true) (omega arith) (stamped_at stamp pages images 0 image.0 stamped image.1)))
      ];
      stamped = stamped;
    }
