-- What is told of a call of the table, of its result.
use Rattle.std.proofs.Common.{ℕ, Bool, List, Option, Some, None, Result, Ok, Err}
use Rattle.std.specs.Prelude.{IfErr, IfNone, IfOk, IfSome}
use Rattle.std.specs.Option.{MatchOption}
use Rattle.fsd_bytes.specs.declared.key.Key.{Key}
use Rattle.fsd_formats.specs.declared.entry.Entry.{Entry}
use Rattle.sector_disk.specs.declared.machine.Machine.{Ghosts as MachineGhosts}
use Rattle.page_cache.specs.declared.source.PageSource.{Ghosts as SourceGhosts}
use Rattle.page_cache.specs.Cache.{CacheValue}
use Rattle.name_btree.specs.declared.fault.TreeFault.{TreeFault}
use Rattle.name_btree.specs.declared.lookup.FoundEntry.{FoundEntry}
use Rattle.version_table.specs.declared.fault.VersionFault.{VersionFault}
use Rattle.cached_table.specs.Editing.{GivesKeepIn, KeepsNoneIn}
use Rattle.cached_table.specs.Finding.{FailsToFind, IsFoundIn}

-- of each entry that is found
pub found_each : (A : Type 0) {c : CacheValue} {count : ℕ} {Suits : Entry → Type 0} {Is : FoundEntry → Type 0} (r : Result (Option FoundEntry) TreeFault) → ((f : FoundEntry) → IsFoundIn c count Suits f → Is f)
    → IfOk r (λ found. MatchOption found A (IsFoundIn c count Suits)) → IfOk r (λ found. IfSome found Is)
found_each A (Err fault) is told = tt
found_each A (Ok None) is told = tt
found_each A (Ok (Some f)) is told = is f told

-- where none is
pub found_none : (A : Type 0) (B : FoundEntry → Type 0) (r : Result (Option FoundEntry) TreeFault) → IfOk r (λ found. MatchOption found A B) → IfOk r (λ found. IfNone found A)
found_none A B (Err fault) told = tt
found_none A B (Ok None) told = told
found_none A B (Ok (Some f)) told = tt

-- why a look-up fails
pub failed_each : {D E T : Type 0} {M : MachineGhosts D} {S : SourceGhosts E} {source : E} {m m' : D} {old new : CacheValue} {free : List Bool} {home_a : ℕ} {Is : TreeFault → Type 0} (r : Result T TreeFault)
    → ((fault : TreeFault) → FailsToFind M S source m m' old new free home_a fault → Is fault) → IfErr r (FailsToFind M S source m m' old new free home_a) → IfErr r Is
failed_each (Ok x) is fails = tt
failed_each (Err fault) is fails = is fault fails

-- what another keep makes, and why none is set
module _ {D E : Type 0} {M : MachineGhosts D} {S : SourceGhosts E} {source : E} {m m' : D} {old new : CacheValue} {free flags : List Bool} {name : List ℕ} where
  pub given_each : {keep : ℕ} {Is : Key → Type 0} (r : Result Key VersionFault) → ((key : Key) → GivesKeepIn M S source m m' old new free flags name keep key → Is key)
      → IfOk r (GivesKeepIn M S source m m' old new free flags name keep) → IfOk r Is
  given_each (Ok key) is gives = is key gives
  given_each (Err fault) is gives = tt

  pub kept_each : {home_a : ℕ} {Is : VersionFault → Type 0} (r : Result Key VersionFault) → ((fault : VersionFault) → KeepsNoneIn M S source m m' old new free flags home_a name fault → Is fault)
      → IfErr r (KeepsNoneIn M S source m m' old new free flags home_a name) → IfErr r Is
  kept_each (Ok key) is none = tt
  kept_each (Err fault) is none = is fault none
