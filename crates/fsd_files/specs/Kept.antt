-- The bytes of a version in its sectors, and what a read gives.
use Rattle.std.specs.Prelude.{◌≡◌, ◌⊎◌, ℕ, zero, suc, ◌+◌, ◌-◌, ◌*◌, ◌/◌, List, [], ◌∷◌, length, map, take, drop, slice_range}
use Rattle.std.specs.List.{AllZip}
use Rattle.fsd_bytes.specs.Bytes.{sector, sector_len}
use Rattle.fsd_bytes.specs.declared.key.Key.{Key}
use Rattle.run_table.specs.declared.run.Run.{Run}
use Rattle.fsd_formats.specs.declared.entry.Entry.{Entry}
use Rattle.fsd_formats.specs.NamePage.{sectors_for}
use Rattle.sector_disk.specs.declared.sector.Sector.TheVariants.{Whole, Damaged}
use Rattle.fsd_files.specs.Disk.{Image, Sectors, Has}
use Rattle.sector_disk.specs.Image.{sector_at}
use Rattle.fsd_files.specs.Files.{File, Files}
use Rattle.fsd_files.specs.Space.{Apart}
use Rattle.volume_layout.specs.declared.layout.Layout.{Layout}
use Rattle.run_table.specs.RunTable.{sectors_of}

-- slice k of the bytes, filled up with zeros
abbrev pub filled_slice : List ℕ → ℕ → List ℕ
filled_slice bytes k = sector (take sector_len (drop (k * sector_len) bytes))

abbrev pub filled_slices_from : ℕ → ℕ → List ℕ → List (List ℕ)
filled_slices_from k zero bytes = []
filled_slices_from k (suc n) bytes = filled_slice bytes k ∷ filled_slices_from (k + 1) n bytes

-- all of them
abbrev pub filled_slices : List ℕ → List (List ℕ)
filled_slices bytes = filled_slices_from 0 (sectors_for (length bytes) - 1) bytes

-- behind the leader
abbrev pub data_sectors : List Run → List ℕ
data_sectors runs = drop 1 (sectors_of runs)

abbrev pub KeptIn : Image → Sectors → List ℕ → List Run → Type 0
KeptIn i hurt bytes runs = AllZip (Has hurt i) (filled_slices bytes) (data_sectors runs)

-- the entry is that of the version: its key, length and keep
pub record IsEntryOf (version : Key × File) (e : Entry) : Type 0 where
  pub key : e.key ≡ version.0
  pub keep : e.keep ≡ version.1.keep
  pub length : e.length ≡ length version.1.bytes

-- the entries are those of the files, in order
abbrev pub Lists : Files → List Entry → Type 0
Lists s entries = AllZip IsEntryOf s entries

-- each data sector of each version has its slice, or is Damaged where damage may have come
abbrev pub Kept : Image → Files → List Entry → Sectors → Type 0
Kept i s entries hurt = AllZip (λ version e. KeptIn i hurt version.1.bytes e.runs) s entries

-- the entries are those of the files, their sectors are apart, and each has its slice but for damage
pub record Describes (l : Layout) (hurt : Sectors) (i : Image) (s : Files) (entries : List Entry) : Type 0 where
  pub lists : Lists s entries
  pub apart : Apart l (map (λ e. e.runs) entries)
  pub kept : Kept i s entries hurt

-- ---- reads

-- the data sectors of a range of n bytes from a place, within the version
abbrev pub range_sectors : List Run → (from n : ℕ) → List ℕ
range_sectors runs from zero = []
range_sectors runs from (suc n) = slice_range (data_sectors runs) (from / sector_len) ((from + n) / sector_len + 1)

abbrev pub IsWhole : Image → ℕ → Type 0
IsWhole i s = (bytes : List ℕ) × (sector_at i s ≡ Whole bytes)

-- the first sectors are Whole in i, and the one after them is s, which is Damaged in j
abbrev pub FirstDamaged : Image → Image → List ℕ → ℕ → Type 0
FirstDamaged i j [] s = ⊥
FirstDamaged i j (t ∷ sectors) s = ((t ≡ s) × (sector_at j s ≡ Damaged)) ⊎ (IsWhole i t × FirstDamaged i j sectors s)
