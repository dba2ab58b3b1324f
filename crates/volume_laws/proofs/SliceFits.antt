-- The sectors of an unfinished creation lie on the volume, and slices that fit it in its sectors.
use Rattle.std.proofs.Common.{◌≡◌, ℕ, zero, suc, ◌+◌, ◌-◌, ◌^◌, ◌<◌, ◌≤◌, true, nat_le, nat_lt, List, [], ◌∷◌, length, map, Option, Some, None, refl, ap, ◌∙◌, arith}
use Rattle.std.specs.Prelude.{All, option_map}
use Rattle.std.proofs.lemmas.Bool.{and_from, le-leb, lt-ltb}
use Rattle.std.proofs.lemmas.List.{length-drop}
use Rattle.volume_layout.specs.Layout.{data_start, is_data}
use Rattle.volume_layout.proofs.RootLaws.{planned_bounds}
use Rattle.run_table.specs.RunTable.{sectors_of}
use Rattle.run_table.specs.Space.{contains}
use Rattle.run_table.proofs.SectorLaws.{length_of_sectors}
use Rattle.fsd_bytes.specs.declared.refusal.Refusal.TheVariants as Why
use Rattle.fsd_formats.specs.declared.entry.Entry.{Entry}
use Rattle.fsd_formats.specs.NamePage.{is_entry, sectors_for}
use Rattle.fsd_files.specs.Disk.{Sectors}
use Rattle.fsd_files.specs.Kept.{data_sectors, filled_slices, filled_slices_from}
use Rattle.volume_contract.specs.declared.token.Draft.{Draft}
use Rattle.volume_contract.specs.Order.{Disk, Test, is_idle, slices_steps}
use Rattle.volume_contract.specs.Pieces.{FitsDraft, IsDraft}
use Rattle.volume_contract.specs.State.{State}
use Rattle.volume_laws.specs.Placing.{IsPlace}
use Rattle.volume_laws.specs.State.{state}
use Rattle.volume_laws.specs.Volume.{IsWholeVolume, VolumeValue}
use Rattle.volume_laws.proofs.PieceLaws.{in_data}
use Rattle.volume_laws.proofs.PlaceLaws.{entry_good}
use Rattle.volume_laws.proofs.RangeLaws.{all_below, data_runs}

-- ---- of a creation

module _ (v : VolumeValue) (whole : IsWholeVolume v) (d : Draft) (draft : IsDraft (state v) d) where
  -- its sectors are a place among those of unfinished creations
  pub place_of_draft : IsPlace v.shadow.unfinished (sectors_for d.length) d.runs
  place_of_draft = record { free = record { inside = draft.unfinished; differ = draft.differ }; count = draft.size; few = draft.few; some = draft.some }

  pub draft_data : (s : ℕ) → contains (sectors_of d.runs) s ≡ true → is_data v.layout s ≡ true
  draft_data s here =
      let at = in_data v.layout v.shadow.unfinished d.runs whole.unfinished place_of_draft.free s here in
      and_from (nat_le (data_start v.layout) s) (nat_lt s v.layout.sectors) (le-leb (data_start v.layout) s at.0) (lt-ltb s v.layout.sectors at.1)

  pub draft_below : All (λ s. s < v.layout.sectors) (sectors_of d.runs)
  draft_below = all_below v.layout (sectors_of d.runs) draft_data

  -- an entry with its sizes is one by the grammar
  abbrev some_entry : Entry
  some_entry = record { key = record { name = 97 ∷ []; version = 1 }; keep = 0; serial = d.serial; length = d.length; runs = d.runs }

  some_good : is_entry some_entry ≡ true
  some_good = entry_good v.shadow.unfinished some_entry place_of_draft refl (omega arith) draft.small

  pub draft_runs : All (λ r. r.start + r.length ≤ 2 ^ 32) d.runs
  draft_runs =
      let bounds = planned_bounds v.layout whole.planned in
      data_runs v.layout some_entry draft_data (omega (arith, bounds.sectors_most)) some_good

  -- as many sectors as its bytes take
  pub draft_count : length (sectors_of d.runs) ≡ sectors_for d.length
  draft_count = length_of_sectors d.runs ∙ draft.size

  pub draft_small : length (sectors_of d.runs) < 2 ^ 32
  draft_small = omega (arith, draft_count, draft.small)

  pub slices_within : (first count : ℕ) → FitsDraft d.length first count → first + (sectors_for count - 1) ≤ length (data_sectors d.runs)
  slices_within first count fits = omega (arith, draft_count, fits.within, length-drop 1 (sectors_of d.runs))

-- ---- slices

length_from : (n k : ℕ) (bytes : List ℕ) → length (filled_slices_from k n bytes) ≡ n
length_from zero k bytes = refl
length_from (suc n) k bytes = ap suc (length_from n (k + 1) bytes)

length_mapped : {A B : Type 0} (f : A → B) (xs : List A) → length (map f xs) ≡ length xs
length_mapped f [] = refl
length_mapped f (x ∷ xs) = ap suc (length_mapped f xs)

-- as many as there are sectors for the bytes
pub count_slices : (bytes : List ℕ) → length (filled_slices bytes) ≡ sectors_for (length bytes) - 1
count_slices bytes = length_from (sectors_for (length bytes) - 1) 0 bytes

pub count_if : (f : List ℕ → Option (List ℕ)) (bytes : List ℕ) → length (map f (filled_slices bytes)) ≡ sectors_for (length bytes) - 1
count_if f bytes = length_mapped f (filled_slices bytes) ∙ count_slices bytes

-- ---- the steps

pub busy_slices : (s : State) (may : Sectors) → option_map Why.Down s.down ≡ None → is_idle (slices_steps s may) ≡ true → ⊥
busy_slices s may up idle = by s.down up idle
  where
    by : (down : Option ℕ) → option_map Why.Down down ≡ None → is_idle (Test (option_map Why.Down down) ∷ Disk may ∷ []) ≡ true → ⊥
    by None is none = absurd (cc none)
    by (Some place) is none = absurd (cc is)
