-- Why no version is found or planned.
use Rattle.std.specs.Prelude.{ℕ, ◌<◌, ⊤, length, Option, None, Result, Ok, Err}
use Rattle.fsd_bytes.specs.declared.refusal.Refusal.{Refusal}
use Rattle.fsd_table.specs.Table.{BreaksTable}
use Rattle.name_page.specs.declared.pages.Pages.{Ghosts}
use Rattle.name_page.specs.Pages.{Step}
use Rattle.name_btree.specs.Fault.{HasTreeCause, BarsTable, IsAmong, IsOnWay, ShowsCause, outer_of}
use Rattle.version_table.specs.declared.fault.VersionFault.{VersionFault}
use Rattle.version_table.specs.declared.fault.VersionFault.TheVariants.{Table, NoSuch, VersionsUsedUp}

-- the refusal from outside that a fault tells, and a result
abbrev pub outside_in : VersionFault → Option Refusal
outside_in (Table fault) = outer_of fault
outside_in NoSuch = None
outside_in VersionsUsedUp = None

abbrev pub outer_met : {T : Type 0} → Result T VersionFault → Option Refusal
outer_met (Ok x) = None
outer_met (Err fault) = outside_in fault

-- a page that is named is one of so many
abbrev pub NamesInside : ℕ → VersionFault → Type 0
NamesInside pages (Table fault) = IsAmong pages fault
NamesInside pages NoSuch = ⊤
NamesInside pages VersionsUsedUp = ⊤

-- the look-up failed and has its cause, or there is no such version, or the numbers are used up
abbrev pub FailsLook : {D : Type 0} (P : Ghosts D) (new : D) (Absent UsedUp : Type 0) → VersionFault → Type 0
FailsLook P new Absent UsedUp (Table fault) = HasTreeCause (P.step new) (BreaksTable (P.step new).images) (BarsTable (P.step new)) fault
FailsLook P new Absent UsedUp NoSuch = Absent
FailsLook P new Absent UsedUp VersionsUsedUp = UsedUp

-- the same, and a page that is named is one of the table
pub record FailsToFindVersion {D : Type 0} (P : Ghosts D) (old new : D) (Absent UsedUp : Type 0) (fault : VersionFault) : Type 0 where
  pub among : 0 < length (P.step old).images → NamesInside (length (P.step old).images) fault
  pub cause : FailsLook P new Absent UsedUp fault

-- what was reached shows that the page of a look-up's fault breaks the table, or is on the way
abbrev pub ShowsLook : Step → VersionFault → Type 0
ShowsLook s (Table fault) = ShowsCause s BreaksTable IsOnWay fault
ShowsLook s NoSuch = ⊤
ShowsLook s VersionsUsedUp = ⊤
