-- What is found of the data of versions.
use Rattle.std.specs.Prelude.{◌≡◌, ℕ, List, ◌++◌, IsTrue, Option, Result, Ok, Err}
use Rattle.std.specs.List.{AllByRecursion}
use Rattle.volume_layout.specs.declared.layout.Layout.{Layout}
use Rattle.volume_layout.specs.Layout.{is_data}
use Rattle.fsd_bytes.specs.declared.key.Key.{Key}
use Rattle.fsd_bytes.specs.declared.refusal.Refusal.{Refusal}
use Rattle.fsd_formats.specs.declared.entry.Entry.{Entry}
use Rattle.sector_disk.specs.declared.sector.Sector.TheVariants.{Damaged}
use Rattle.sector_disk.specs.Image.{sector_at}
use Rattle.fsd_files.specs.Disk.{Image}
use Rattle.fsd_files.specs.Scrub.{Picks, PicksSome, all_data}
use Rattle.scrub.specs.Walk.{IsWalked}

-- each names a data sector, which is damaged in the image
abbrev pub AreDamaged : Layout → Image → List (Key × ℕ) → Type 0
AreDamaged l i found = AllByRecursion (λ x. IsTrue (is_data l x.1) × (sector_at i x.1 ≡ Damaged)) found

-- of all these sectors those that read damaged are found, or of some first of them where the call is refused
abbrev pub FindsIn : {T : Type 0} → (i j : Image) → (all found : List (Key × ℕ)) → Result T Refusal → Type 0
FindsIn i j all found (Ok x) = Picks i j all found
FindsIn i j all found (Err why) = PicksSome i j all found

-- The first ones of the entries were looked at.
pub record HasLooked (entries : List Entry) (count : ℕ) (last : Option Key) (i j : Image) (found : List (Key × ℕ)) : Type 0 where
  pub front : List Entry
  pub walked : IsWalked entries front count last
  pub picks : Picks i j (all_data front) found

-- they stand behind those that were found before
pub record Adds {T : Type 0} (i j : Image) (all before after : List (Key × ℕ)) (result : Result T Refusal) : Type 0 where
  pub more : List (Key × ℕ)
  pub is : after ≡ before ++ more
  pub finds : FindsIn i j all more result
