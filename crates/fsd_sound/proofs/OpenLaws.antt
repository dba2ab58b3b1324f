-- What drafts and readers have stands on each image that agrees there, or is worn where damage may have come.
use Rattle.std.proofs.Common.{◌≡◌, inl, ℕ, List, [], ◌∷◌, Option, Some, None}
use Rattle.std.specs.Prelude.{IsTrue, ◌||◌}
use Rattle.std.specs.List.{AllZip, flat_map}
use Rattle.std.proofs.lemmas.Bool.{or_left, or_right}
use Rattle.run_table.specs.declared.run.Run.{Run}
use Rattle.run_table.specs.RunTable.{sectors_of}
use Rattle.run_table.proofs.SectorLaws.{first_there, rest_there}
use Rattle.sector_disk.specs.Image.{sector_at}
use Rattle.fsd_files.specs.Disk.{Image, Sectors, SectorWorn}
use Rattle.fsd_files.specs.Kept.{KeptIn, data_sectors}
use Rattle.fsd_files.specs.Volume.{is_in}
use Rattle.fsd_files.proofs.KeptLaws.{AgreeWorn, has_on, kept_in_worn, behind_there, front_there, back_there}
use Rattle.fsd_sound.specs.Mounted.{Wrote, HasOpen, Mounted}

module _ (hurt : Sectors) (i j : Image) where
  wrote_worn : (slice : Option (List ℕ)) (s : ℕ) → SectorWorn (hurt s) (sector_at i s) (sector_at j s) → Wrote hurt i slice s → Wrote hurt j slice s
  wrote_worn None s worn is = tt
  wrote_worn (Some bytes) s worn is = has_on hurt i j bytes s worn is

  slices_worn : (slices : List (Option (List ℕ))) (sectors : List ℕ) → AgreeWorn hurt sectors i j → AllZip (Wrote hurt i) slices sectors → AllZip (Wrote hurt j) slices sectors
  slices_worn [] [] agree is = tt
  slices_worn [] (s ∷ sectors) agree is = absurd is
  slices_worn (x ∷ slices) [] agree is = absurd is
  slices_worn (x ∷ slices) (s ∷ sectors) agree is = (wrote_worn x s (agree s (first_there s sectors)) is.0, slices_worn slices sectors (λ t h. agree t (rest_there s t sectors h)) is.1)

  pub drafts_worn : (all : List (List (Option (List ℕ)))) (drafts : List (List Run)) → AgreeWorn hurt (flat_map sectors_of drafts) i j
      → AllZip (λ slices runs. AllZip (Wrote hurt i) slices (data_sectors runs)) all drafts → AllZip (λ slices runs. AllZip (Wrote hurt j) slices (data_sectors runs)) all drafts
  drafts_worn [] [] agree is = tt
  drafts_worn [] (d ∷ drafts) agree is = absurd is
  drafts_worn (x ∷ all) [] agree is = absurd is
  drafts_worn (x ∷ all) (d ∷ drafts) agree is = (
    slices_worn x (data_sectors d) (λ s h. agree s (front_there s (sectors_of d) (flat_map sectors_of drafts) (behind_there s (sectors_of d) h))) is.0,
    drafts_worn all drafts (λ s h. agree s (back_there s (sectors_of d) (flat_map sectors_of drafts) h)) is.1,
  )

  held_worn : (all : List (List ℕ)) (held : List (List Run)) → AgreeWorn hurt (flat_map sectors_of held) i j → AllZip (KeptIn i hurt) all held → AllZip (KeptIn j hurt) all held
  held_worn [] [] agree is = tt
  held_worn [] (d ∷ held) agree is = absurd is
  held_worn (x ∷ all) [] agree is = absurd is
  held_worn (x ∷ all) (d ∷ held) agree is = (
    kept_in_worn hurt i j x d (λ s h. agree s (front_there s (sectors_of d) (flat_map sectors_of held) h)) is.0,
    held_worn all held (λ s h. agree s (back_there s (sectors_of d) (flat_map sectors_of held) h)) is.1,
  )

  pub open_worn : (m : Mounted) → ((s : ℕ) → IsTrue (is_in m.volume.drafts s || is_in m.volume.held s) → SectorWorn (hurt s) (sector_at i s) (sector_at j s)) → HasOpen hurt i m → HasOpen hurt j m
  open_worn m agree is = record {
    drafts = drafts_worn m.slices m.volume.drafts (λ s h. agree s (or_left (is_in m.volume.drafts s) (is_in m.volume.held s) h)) is.drafts;
    held = held_worn m.bytes m.volume.held (λ s h. agree s (or_right (is_in m.volume.drafts s) (is_in m.volume.held s) h)) is.held;
  }

  pub open_on : (m : Mounted) → ((s : ℕ) → IsTrue (is_in m.volume.drafts s || is_in m.volume.held s) → sector_at j s ≡ sector_at i s) → HasOpen hurt i m → HasOpen hurt j m
  open_on m agree is = open_worn m (λ s h. inl (agree s h)) is
