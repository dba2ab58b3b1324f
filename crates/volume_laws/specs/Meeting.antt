-- An entry that was met in a leaf: what the pages that were read show of it, and what it is told as.
use Rattle.std.specs.Prelude.{ℕ, List, Option, Some, Result, Ok, None}
use Rattle.fsd_bytes.specs.declared.refusal.Refusal.{Refusal}
use Rattle.fsd_formats.specs.declared.entry.Entry.{Entry}
use Rattle.sector_disk.specs.Machine.{Moment}
use Rattle.name_btree.specs.declared.lookup.FoundEntry.{FoundEntry}
use Rattle.volume_contract.specs.Causes.{ShowsOfPages}
use Rattle.volume_contract.specs.State.{State}
use Rattle.volume_contract.specs.Ends.{found_one}
use Rattle.volume_laws.specs.Taken.{met_entry}
use Rattle.volume_laws.specs.Volume.{VolumeValue}
use Rattle.cached_table.specs.Looking.{LeadsTo}

-- some pages were read, and show that the entry is in the leaf
abbrev pub ShowsEntry : (old new : State) → (resident : ℕ → Option (List ℕ)) → (before now : Moment) → FoundEntry → Type 0
ShowsEntry old new resident before now f = ShowsOfPages old new resident before now (λ pages. LeadsTo pages f)

-- what was found, which is the table's only where its sectors are taken
abbrev pub met_found : VolumeValue → Option FoundEntry → Result (Option Entry) Refusal
met_found v None = Ok None
met_found v (Some f) = found_one (met_entry v f.page f.entry)
