-- The newest version of a name, as it is found.
use Rattle.std.specs.Prelude.{◌≡◌, ℕ, IfOk, List, Result, Some}
use Rattle.fsd_files.specs.Answers.{highest_entry}
use Rattle.name_page.specs.declared.pages.Pages.{Ghosts}
use Rattle.name_btree.specs.declared.lookup.FoundEntry.{FoundEntry}
use Rattle.name_btree.specs.Lookup.{IsMetAs}
use Rattle.name_btree.specs.Path.{HasWayTo, TakesNone}
use Rattle.version_table.specs.declared.fault.VersionFault.{VersionFault}
use Rattle.version_table.specs.Fault.{outer_met}
use Rattle.version_table.specs.Table.{OfTable}

-- it was met in its leaf, and is the highest that the table has
pub record IsNewest {D : Type 0} (P : Ghosts D) (name : List ℕ) (old new : D) (found : FoundEntry) : Type 0 where
  pub met : IsMetAs (P.step new) (λ e. e.key.name ≡ name) found
  pub highest : OfTable P old new (λ table. highest_entry name table ≡ Some found.entry)

-- its search takes no memory, and the way to it is in memory then
pub record StaysAtNewest {D : Type 0} (P : Ghosts D) (old new : D) (result : Result FoundEntry VersionFault) : Type 0 where
  pub none : TakesNone P (outer_met result) old new
  pub back : IfOk result (λ found. HasWayTo P found.entry new)
