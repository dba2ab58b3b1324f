-- Records as they were laid: which stay, and how a new one stands behind them.
use Rattle.std.proofs.Common.{◌*◌, ◌≡◌, ℕ, zero, suc, ◌+◌, ◌<◌, List, [], ◌∷◌, ◌++◌, length, get_or, refl, sym, ap, subst, ◌∙◌, arith, inl, inr}
use Rattle.std.specs.Prelude.{IsTrue}
use Rattle.std.proofs.lemmas.List.{length_push}
use Rattle.volume_layout.specs.declared.layout.Layout.{Layout}
use Rattle.volume_layout.specs.Kinds.{gap_of}
use Rattle.fsd_formats.specs.declared.anchor.Anchor.{Anchor}
use Rattle.fsd_formats.specs.Record.{Stamp, end_bytes, bears, record_len}
use Rattle.sector_disk.specs.declared.sector.Sector.TheVariants.{Whole}
use Rattle.sector_disk.specs.Image.{sector_at}
use Rattle.fsd_log.specs.Judged.{sector_in}
use Rattle.fsd_log.specs.Laid.{slices, slices_from}
use Rattle.fsd_log.specs.Scan.{Placed}
use Rattle.fsd_files.specs.Disk.{Image, Sectors, Has}
use Rattle.fsd_sound.specs.Laid.{stamp_of, begin, AllStand, HasFront, HasCopies, GoodCopies, IsLaid, AllLaid}

-- ---- slices

pub length-slices : (n k : ℕ) (bytes : List ℕ) → length (slices_from k bytes n) ≡ n
length-slices zero k bytes = refl
length-slices (suc n) k bytes = ap suc (length-slices n (suc k) bytes)

pub get_or-slices : (n k : ℕ) (bytes : List ℕ) (j : ℕ) → j < n → get_or (slices_from k bytes n) j [] ≡ sector_in bytes (k + j)
get_or-slices zero k bytes j lt = absurd (omega arith)
get_or-slices (suc n) k bytes zero lt = ap (sector_in bytes) (let e : k ≡ k + 0 = omega arith in e)
get_or-slices (suc n) k bytes (suc j) lt = get_or-slices n (suc k) bytes j (omega arith) ∙ ap (sector_in bytes) (let e : suc k + j ≡ k + suc j = omega arith in e)

pub slice_at : (n : ℕ) (bytes : List ℕ) (j : ℕ) → j < n → get_or (slices n bytes) j [] ≡ sector_in bytes j
slice_at n bytes j lt = get_or-slices n 0 bytes j lt ∙ ap (sector_in bytes) (let e : 0 + j ≡ j = omega arith in e)

module _ (l : Layout) (a : Anchor) (weak : Sectors) where
  -- ---- sectors that stay

  module _ (old new : Image) where
    has_same : (bytes : List ℕ) (s : ℕ) → sector_at new s ≡ sector_at old s → Has weak old bytes s → Has weak new bytes s
    has_same bytes s same (inl whole) = inl (same ∙ whole)
    has_same bytes s same (inr hurt) = inr (hurt.0, same ∙ hurt.1)

    stand_same : (s : ℕ) (xs : List (List ℕ)) → ((k : ℕ) → k < length xs → sector_at new (s + k) ≡ sector_at old (s + k)) → AllStand l a weak old s xs → AllStand l a weak new s xs
    stand_same s [] same all = tt
    stand_same s (x ∷ xs) same all =
        let here : sector_at new s ≡ sector_at old s = subst (λ (t : ℕ). sector_at new t ≡ sector_at old t) (let e : s + 0 ≡ s = omega arith in e) (same 0 (omega arith)) in (
          has_same x s here all.0,
          stand_same (s + 1) xs (λ k lt. subst (λ (t : ℕ). sector_at new t ≡ sector_at old t) (let e : s + suc k ≡ s + 1 + k = omega arith in e) (same (suc k) (omega arith))) all.1,
        )

    module _ (r : Placed) (many : length r.entry.images ≡ length r.entry.pages) (same : (k : ℕ) → k < record_len (gap_of l) (length r.entry.pages) → sector_at new (begin l a weak old r + k) ≡ sector_at old (begin l a weak old r + k)) where
      at_place : (k m : ℕ) → k ≡ begin l a weak old r + m → m < record_len (gap_of l) (length r.entry.pages) → sector_at new k ≡ sector_at old k
      at_place k m e lt = subst (λ (t : ℕ). sector_at new t ≡ sector_at old t) (sym e) (same m lt)

      long : length (r.entry.images ++ end_bytes (stamp_of l a weak old r) (length r.entry.pages) ∷ []) ≡ length r.entry.pages + 1
      long = length_push r.entry.images (end_bytes (stamp_of l a weak old r) (length r.entry.pages)) ∙ ap (λ (n : ℕ). n + 1) many

      pub front_same : HasFront l a weak old r → HasFront l a weak new r
      front_same front = record {
        header = has_same _ _ (at_place (begin l a weak old r) 0 (omega arith) (omega arith)) front.header;
        header_copy = has_same _ _ (at_place (begin l a weak old r + (2 + (gap_of l))) (2 + (gap_of l)) refl (omega arith)) front.header_copy;
        pages = stand_same (begin l a weak old r + 3 + (gap_of l)) _ (λ k lt. at_place (begin l a weak old r + 3 + (gap_of l) + k) (3 + (gap_of l) + k) (omega arith) (omega (arith, long))) front.pages;
      }

      pub copies_same : HasCopies l a weak old r → HasCopies l a weak new r
      copies_same copies = stand_same (begin l a weak old r + (4 + 2 * (gap_of l) + length r.entry.pages)) _ (λ k lt. at_place (begin l a weak old r + (4 + 2 * (gap_of l) + length r.entry.pages) + k) (4 + 2 * (gap_of l) + length r.entry.pages + k) (omega arith) (omega (arith, long))) copies

  -- ---- every record as it was laid

  module _ (i : Image) where
    pub all_laid_more : (rs : List Placed) (r : Placed) → AllLaid l a weak i rs → HasFront l a weak i r × HasCopies l a weak i r → AllLaid l a weak i (rs ++ r ∷ [])
    all_laid_more [] r all last = (last, tt)
    all_laid_more (q ∷ rs) r all last = (all.0, all_laid_more rs r all.1 last)

    -- and a last one of which the front stands
    pub is_laid_more : (rs : List Placed) (r : Placed) → AllLaid l a weak i rs → HasFront l a weak i r × GoodCopies l a weak i (stamp_of l a weak i r) (begin l a weak i r + (4 + 2 * (gap_of l) + length r.entry.pages)) r.entry.pages r.entry.images → IsLaid l a weak i (rs ++ r ∷ [])
    is_laid_more [] r all last = last
    is_laid_more (q ∷ []) r all last = (all.0.0, all.0.1, last)
    is_laid_more (q ∷ p ∷ rs) r all last = (all.0.0, all.0.1, is_laid_more (p ∷ rs) r all.1 last)

    -- ---- rows that stand

    pub good_rows : (stamp : Stamp) (s : ℕ) (pages : List ℕ) (xs : List (List ℕ)) → length xs ≡ length pages
        → ((k : ℕ) → k < length pages → (bytes : List ℕ) → sector_at i (s + k) ≡ Whole bytes → IsTrue (bears (get_or pages k 0) stamp bytes) → bytes ≡ get_or xs k []) → GoodCopies l a weak i stamp s pages xs
    good_rows stamp s [] xs many each = tt
    good_rows stamp s (page ∷ pages) [] many each = absurd (omega (arith, many))
    good_rows stamp s (page ∷ pages) (x ∷ xs) many each = (
      (λ bytes is bear. each 0 (omega arith) bytes (subst (λ (t : ℕ). sector_at i t ≡ Whole bytes) (let e : s ≡ s + 0 = omega arith in e) is) bear),
      good_rows stamp (s + 1) pages xs (omega (arith, many)) (λ k lt bytes is bear. each (suc k) (omega arith) bytes (subst (λ (t : ℕ). sector_at i t ≡ Whole bytes) (let e : s + 1 + k ≡ s + suc k = omega arith in e) is) bear),
    )
