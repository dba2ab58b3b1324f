-- Records of the log as they were laid on the disk.
use Rattle.std.specs.Prelude.{◌≡◌, ◌≤◌, ℕ, ◌+◌, ◌*◌, List, [], ◌∷◌, ◌++◌, length, IsTrue, ⊤}
use Rattle.std.specs.List.{AllByRecursion}
use Rattle.volume_layout.specs.declared.layout.Layout.{Layout}
use Rattle.volume_layout.specs.Kinds.{gap_of}
use Rattle.volume_layout.specs.Root.{root_bytes}
use Rattle.fsd_formats.specs.declared.anchor.Anchor.{Anchor}
use Rattle.fsd_formats.specs.Record.{Stamp, header_bytes, end_bytes, bears}
use Rattle.sector_disk.specs.declared.sector.Sector.TheVariants.{Whole}
use Rattle.sector_disk.specs.Image.{sector_at}
use Rattle.fsd_log.specs.Scan.{Placed, Head, IsLog, place_of, tape}
use Rattle.fsd_files.specs.Disk.{Image, Sectors, Has, bytes_at}
use Rattle.fsd_sound.specs.Anchors.{EachAnchor}
use Rattle.fsd_sound.specs.Saved.{IsOpen}

module _ (l : Layout) (a : Anchor) (weak : Sectors) (i : Image) where
  abbrev pub stamp_of : Placed → Stamp
  stamp_of r = record { epoch = a.epoch; number = r.entry.number }

  -- where the record begins on the disk
  abbrev pub begin : Placed → ℕ
  begin r = place_of l a.third r.at

  -- each of the sectors stands from this place on
  abbrev pub AllStand : ℕ → List (List ℕ) → Type 0
  AllStand s [] = ⊤
  AllStand s (bytes ∷ more) = Has weak i bytes s × AllStand (s + 1) more

  -- header and copy, pages and end
  pub record HasFront (r : Placed) : Type 0 where
    pub header : Has weak i (header_bytes (stamp_of r) r.entry.pages) (begin r)
    pub header_copy : Has weak i (header_bytes (stamp_of r) r.entry.pages) (begin r + (2 + gap_of l))
    pub pages : AllStand (begin r + 3 + gap_of l) (r.entry.images ++ end_bytes (stamp_of r) (length r.entry.pages) ∷ [])

  -- the copies of pages and end
  abbrev pub HasCopies : Placed → Type 0
  HasCopies r = AllStand (begin r + (4 + 2 * gap_of l + length r.entry.pages)) (r.entry.images ++ end_bytes (stamp_of r) (length r.entry.pages) ∷ [])

  -- each page copy that is good is the page's image (an end copy that is good has one spelling)
  abbrev pub GoodCopies : Stamp → (s : ℕ) → (pages : List ℕ) → (images : List (List ℕ)) → Type 0
  GoodCopies stamp s [] images = ⊤
  GoodCopies stamp s (page ∷ pages) [] = ⊥
  GoodCopies stamp s (page ∷ pages) (image ∷ images) =
      ((bytes : List ℕ) → sector_at i s ≡ Whole bytes → IsTrue (bears page stamp bytes) → bytes ≡ image) × GoodCopies stamp (s + 1) pages images

  -- every record but the last as it was laid, and of the last its front, and each copy that is good
  abbrev pub IsLaid : List Placed → Type 0
  IsLaid [] = ⊤
  IsLaid (r ∷ []) = HasFront r × GoodCopies (stamp_of r) (begin r + (4 + 2 * gap_of l + length r.entry.pages)) r.entry.pages r.entry.images
  IsLaid (r ∷ q ∷ records) = HasFront r × HasCopies r × IsLaid (q ∷ records)

  -- every record as it was laid
  abbrev pub AllLaid : List Placed → Type 0
  AllLaid records = AllByRecursion (λ r. HasFront r × HasCopies r) records

-- The bytes stand in the one sector and in the other, but where one is weak and damaged, and the two lie apart.
pub record StandsTwice (gap : ℕ) (weak : Sectors) (i : Image) (bytes : List ℕ) (place copy : ℕ) : Type 0 where
  pub first : Has weak i bytes place
  pub second : Has weak i bytes copy
  pub apart : place + (2 + gap) ≤ copy

-- each copy of the root is the layout's, but where it is weak and damaged
abbrev pub HasOwnRoots : Layout → Sectors → Image → Type 0
HasOwnRoots l weak i = Has weak i (root_bytes l) 0 × Has weak i (root_bytes l) 4

-- The log of a mounted volume: each root and each anchor that stands is its own, and says of no volume that it was closed;
-- by that anchor the log is these records and the head behind them, and they stand as they were laid.
pub record HasOwnLog (l : Layout) (a : Anchor) (records : List Placed) (head : Head) (weak : Sectors) (i : Image) : Type 0 where
  pub roots : HasOwnRoots l weak i
  pub own : EachAnchor i (λ b. b ≡ a)
  pub opened : IsOpen i
  pub log : IsLog l a.epoch a.first (tape l a.third (bytes_at i)) records head
  pub laid : AllLaid l a weak i records
