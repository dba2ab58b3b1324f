-- Where a record was laid whole, each of its images stands in two sectors, of which a narrow run wears one at most.
use Rattle.std.proofs.Common.{◌*◌, ◌≡◌, ◌⊎◌, inl, inr, ℕ, zero, suc, ◌+◌, ◌<◌, ◌≤◌, List, [], ◌∷◌, ◌++◌, length, get_or, sym, subst, arith}
use Rattle.std.specs.Prelude.{Contains, slice_index_or}
use Rattle.std.specs.List.{AllByRecursion}
use Rattle.volume_layout.specs.declared.layout.Layout.{Layout}
use Rattle.volume_layout.specs.Kinds.{gap_of}
use Rattle.fsd_formats.specs.declared.anchor.Anchor.{Anchor}
use Rattle.fsd_formats.specs.Record.{end_bytes}
use Rattle.sector_disk.specs.declared.sector.Sector.TheVariants.{Whole, Damaged}
use Rattle.sector_disk.specs.Image.{sector_at, IsWorn}
use Rattle.fsd_log.specs.Scan.{Placed, place_of}
use Rattle.fsd_log.proofs.RobustLaws.{get_left, length_more}
use Rattle.fsd_files.specs.Disk.{Image, Sectors, Has}
use Rattle.fsd_sound.specs.Laid.{HasFront, HasCopies, AllLaid, StandsTwice}
use Rattle.fsd_sound.specs.Shown.{records_by}
use Rattle.fsd_sound.specs.Windows.{IsApart}
use Rattle.fsd_sound.proofs.LaidLaws.{has_worn, stand_at}
use Rattle.fsd_sound.proofs.LogPlaces.{IsRecord, scan_records}
use Rattle.fsd_sound.proofs.SectorFacts.{has_bytes, has_weak}

module _ (l : Layout) (a : Anchor) (weak : Sectors) (i : Image) (r : Placed) (is : IsRecord l a.third r) (front : HasFront l a weak i r) (copies : HasCopies l a weak i r) where
  pub image_stands : (k : ℕ) → k < length r.entry.pages → StandsTwice (gap_of l) weak i (get_or r.entry.images k []) (place_of l a.third r.at + 3 + (gap_of l) + k) (place_of l a.third r.at + (4 + 2 * (gap_of l) + length r.entry.pages) + k)
  image_stands k lt =
      let within : k < length (r.entry.images ++ end_bytes (record { epoch = a.epoch; number = r.entry.number }) (length r.entry.pages) ∷ []) = omega (arith, lt, is.images, length_more r.entry.images (end_bytes (record { epoch = a.epoch; number = r.entry.number }) (length r.entry.pages))) in
      let row = get_left r.entry.images (end_bytes (record { epoch = a.epoch; number = r.entry.number }) (length r.entry.pages)) k (omega (arith, lt, is.images)) in
      record {
        first = subst (λ (b : List ℕ). Has weak i b (place_of l a.third r.at + 3 + (gap_of l) + k)) row (stand_at l a weak i _ _ front.pages k within);
        second = subst (λ (b : List ℕ). Has weak i b (place_of l a.third r.at + (4 + 2 * (gap_of l) + length r.entry.pages) + k)) row (stand_at l a weak i _ _ copies k within);
        apart = omega arith;
      }

all_by_place : {A : Type 0} (P : A → Type 0) (xs : List A) (x : A) → AllByRecursion P xs → (k : ℕ) → k < length xs → P (slice_index_or xs k x)
all_by_place P [] x all k lt = absurd (omega arith)
all_by_place P (y ∷ xs) x all zero lt = all.0
all_by_place P (y ∷ xs) x all (suc k) lt = all_by_place P xs x all.1 k (omega (arith, lt))

-- so each image of a log does
pub laid_twice : (l : Layout) (a : Anchor) (weak : Sectors) (i : Image) (r : Placed) (k : ℕ) → a.third ≤ 2 → AllLaid l a weak i (records_by l i a) → Contains (records_by l i a) r → k < length r.entry.pages
    → StandsTwice (gap_of l) weak i (get_or r.entry.images k []) (place_of l a.third r.at + 3 + (gap_of l) + k) (place_of l a.third r.at + (4 + 2 * (gap_of l) + length r.entry.pages) + k)
laid_twice l a weak i r k low laid there lt =
    let is = subst (IsRecord l a.third) there.2 (all_by_place (IsRecord l a.third) (records_by l i a) r (scan_records l i a low) there.0 there.1) in
    let stands = subst (λ (q : Placed). HasFront l a weak i q × HasCopies l a weak i q) there.2 (all_by_place (λ q. HasFront l a weak i q × HasCopies l a weak i q) (records_by l i a) r laid there.0 there.1) in
    image_stands l a weak i r is stands.0 stands.1 k lt

module _ (gap : ℕ) (weak : Sectors) (apart : IsApart gap weak) (i j : Image) (w : IsWorn weak i j) (x : List ℕ) (place copy : ℕ) (twice : StandsTwice gap weak i x place copy) where
  -- what stands whole in one of the two is the image
  pub one_is : (bytes : List ℕ) → (sector_at j place ≡ Whole bytes) ⊎ (sector_at j copy ≡ Whole bytes) → bytes ≡ x
  one_is bytes (inl is) = sym (has_bytes weak j x bytes place (has_worn weak i j x place w twice.first) is)
  one_is bytes (inr is) = sym (has_bytes weak j x bytes copy (has_worn weak i j x copy w twice.second) is)

  pub not_both : sector_at j place ≡ Damaged → sector_at j copy ≡ Damaged → ⊥
  not_both first second = apart place copy twice.apart (has_weak weak j x place (has_worn weak i j x place w twice.first) first) (has_weak weak j x copy (has_worn weak i j x copy w twice.second) second)
