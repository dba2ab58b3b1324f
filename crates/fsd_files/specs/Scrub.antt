-- What a scrub finds of the versions' data, and how many other sectors it heals.
use Rattle.std.specs.Prelude.{◌≡◌, ◌⊎◌, ℕ, suc, ◌+◌, ◌-◌, ◌^◌, min, Bool, true, false, if◌then◌else◌, List, [], ◌∷◌, ◌++◌, map, IsTrue, slice_index_or}
use Rattle.std.specs.List.{flat_map, range_with_len}
use Rattle.fsd_bytes.specs.declared.key.Key.{Key}
use Rattle.run_table.specs.RunTable.{sectors_of}
use Rattle.volume_layout.specs.declared.layout.Layout.{Layout}
use Rattle.volume_layout.specs.Layout.{home_a, home_b}
use Rattle.fsd_formats.specs.declared.entry.Entry.{Entry}
use Rattle.fsd_formats.specs.Leader.{leader_of, leader_bytes}
use Rattle.sector_disk.specs.declared.machine.Seen.{Seen}
use Rattle.sector_disk.specs.declared.machine.Seen.TheVariants.{Whole as SeenWhole, Damaged as SeenDamaged}
use Rattle.sector_disk.specs.declared.sector.Sector.TheVariants.{Whole, Damaged}
use Rattle.sector_disk.specs.Image.{sector_at, open_damage}
use Rattle.sector_disk.specs.Machine.{Moment}
use Rattle.fsd_files.specs.Disk.{Image}
use Rattle.fsd_files.specs.Kept.{IsWhole, data_sectors}

-- ---- what is found

-- a version's data sectors in order, each with its key
abbrev pub data_of : Entry → List (Key × ℕ)
data_of e = map (λ s. (e.key, s)) (data_sectors e.runs)

-- the place of one of its data sectors
abbrev pub slice_place : Entry → (slice : ℕ) → ℕ
slice_place e slice = slice_index_or (data_sectors e.runs) slice 0

-- those of all versions, by key and then by place in the file
abbrev pub all_data : List Entry → List (Key × ℕ)
all_data entries = flat_map data_of entries

-- what is seen of a sector between these images: it was whole, or it is damaged
abbrev pub Sees : ℕ → (i j : Image) → Seen → Type 0
Sees s i j SeenWhole = IsWhole i s
Sees s i j SeenDamaged = sector_at j s ≡ Damaged

-- i is the image at a call's entry and j at its exit: of all these in order, each that is found is Damaged in j, and each
-- other one is whole in i
abbrev pub Picks : Image → Image → (all found : List (Key × ℕ)) → Type 0
Picks i j [] found = found ≡ []
Picks i j (x ∷ all) found = (IsWhole i x.1 × Picks i j all found) ⊎ ((rest : List (Key × ℕ)) × (found ≡ x ∷ rest) × (sector_at j x.1 ≡ Damaged) × Picks i j all rest)

-- so it is of some first of them
pub record PicksSome (i j : Image) (all found : List (Key × ℕ)) : Type 0 where
  pub done : List (Key × ℕ)
  pub rest : List (Key × ℕ)
  pub are : all ≡ done ++ rest
  pub picks : Picks i j done found

-- ---- what is healed

-- so many of these need healing, and the others are well
abbrev pub CountsNeeds : {A : Type 0} → (Needs Well : A → Type 0) → List A → ℕ → Type 0
CountsNeeds Needs Well [] count = count ≡ 0
CountsNeeds Needs Well (x ∷ xs) count = (Well x × CountsNeeds Needs Well xs count) ⊎ ((rest : ℕ) × (count ≡ suc rest) × Needs x × CountsNeeds Needs Well xs rest)

-- a sector that reads damaged in a call: it was so as the call began, or an open window may have worn it since
abbrev pub ReadsDamaged : Moment → ℕ → Type 0
ReadsDamaged old s = (sector_at old.image s ≡ Damaged) ⊎ IsTrue (open_damage old.windows s)

-- the roots, the anchors and the two homes of each page: what stands twice outside the log
abbrev pub twins : Layout → List ℕ
twins l = 0 ∷ 4 ∷ 8 ∷ 12 ∷ flat_map (λ page. home_a l page ∷ home_b l page ∷ []) (range_with_len 0 l.pages)

-- of these so many read damaged, and the others are whole
abbrev pub CountsTwins : Layout → Moment → ℕ → Type 0
CountsTwins l old count = CountsNeeds (ReadsDamaged old) (IsWhole old.image) (twins l) count

-- the place of a version's leader
abbrev pub leader_place : Entry → ℕ
leader_place e = slice_index_or (sectors_of e.runs) 0 0

-- the leader stands there
abbrev pub StandsLed : Image → Entry → Type 0
StandsLed i e = sector_at i (leader_place e) ≡ Whole (leader_bytes (leader_of e))

-- it reads damaged, or otherwise than the entry has it
abbrev pub NeedsLeader : Moment → Entry → Type 0
NeedsLeader old e = ReadsDamaged old (leader_place e) ⊎ ((other : List ℕ) × (sector_at old.image (leader_place e) ≡ Whole other) × (other ≡ leader_bytes (leader_of e) → ⊥))

-- a leader stood as the entry has it, or needed to be written
abbrev pub FindsLeader : Entry → Moment → (written : Bool) → Type 0
FindsLeader e old true = NeedsLeader old e
FindsLeader e old false = StandsLed old.image e

abbrev pub leader_count : Bool → ℕ
leader_count written = if written then 1 else 0

abbrev pub CountsLeaders : List Entry → Moment → ℕ → Type 0
CountsLeaders entries old count = CountsNeeds (NeedsLeader old) (StandsLed old.image) entries count

-- So many twins and leaders are healed, as they stood at this moment; no more are counted than a number can tell.
pub record CountsHealed (l : Layout) (entries : List Entry) (old : Moment) (count : ℕ) : Type 0 where
  pub twin_count : ℕ
  pub leader_count : ℕ
  pub sum : count ≡ min (twin_count + leader_count) (2 ^ 32 - 1)
  pub of_twins : CountsTwins l old twin_count
  pub of_leaders : CountsLeaders entries old leader_count
