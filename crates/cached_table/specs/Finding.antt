-- What a look-up in a table over a cache finds, and why it fails.
use Rattle.std.specs.Prelude.{◌≡◌, ◌<◌, ℕ, Bool, true, List, Option, Some, length}
use Rattle.std.specs.Option.{MatchOption}
use Rattle.fsd_bytes.specs.declared.key.Key.{Key}
use Rattle.fsd_bytes.specs.declared.refusal.Refusal.{Refusal}
use Rattle.fsd_bytes.specs.declared.refusal.Refusal.TheVariants.{Memory}
use Rattle.fsd_formats.specs.declared.entry.Entry.{Entry}
use Rattle.fsd_formats.specs.NamePage.{is_entry}
use Rattle.sector_disk.specs.declared.machine.Machine.{Ghosts as MachineGhosts}
use Rattle.page_cache.specs.declared.source.PageSource.{Ghosts as SourceGhosts}
use Rattle.page_cache.specs.Cache.{CacheValue}
use Rattle.name_page.specs.Lookups.{is_after}
use Rattle.name_btree.specs.declared.fault.TreeFault.{TreeFault}
use Rattle.name_btree.specs.declared.lookup.FoundEntry.{FoundEntry}
use Rattle.fsd_sound.specs.Lookups.{LacksKey, LacksLater, HasNext}
use Rattle.fsd_table.specs.Reached.{ReachesPage}
use Rattle.cached_table.specs.Absent.{LacksName}
use Rattle.cached_table.specs.Looking.{FaultsOver, HasAllUsed, HasEnoughIn, HasPathIn, HavePages, LeadsTo, ShowsFault}

-- it is so of all lists of so many pages with those that the cache has
abbrev pub IsOfPages : CacheValue → (count : ℕ) → (List (List ℕ) → Type 0) → Type 0
IsOfPages c count Is = (pages : List (List ℕ)) → HavePages c count pages → Is pages

-- ---- what is found

-- An entry by the grammar, that was looked for, with the page of its leaf: in all such pages a path leads there.
pub record IsFoundIn (c : CacheValue) (count : ℕ) (Suits : Entry → Type 0) (f : FoundEntry) : Type 0 where
  pub page : f.page < count
  pub entry : is_entry f.entry ≡ true
  pub suits : Suits f.entry
  pub way : IsOfPages c count (λ pages. LeadsTo pages f)

-- it is the next one in all such pages, and later
pub record IsNextIn (c : CacheValue) (count : ℕ) (after : Option Key) (e : Entry) : Type 0 where
  pub later : is_after after e.key ≡ true
  pub next : IsOfPages c count (λ pages. ReachesPage (HasNext after e pages) pages)

-- an entry as it was looked for, or, where none is told, the leaf that shows that in all such pages
abbrev pub FindsKey : CacheValue → (count : ℕ) → Key → Option FoundEntry → Type 0
FindsKey c count key found = MatchOption found (IsOfPages c count (ReachesPage (LacksKey key))) (IsFoundIn c count (λ e. e.key ≡ key))

abbrev pub FindsLater : CacheValue → (count : ℕ) → (after : Option Key) → Option FoundEntry → Type 0
FindsLater c count after found = MatchOption found (IsOfPages c count (ReachesPage (LacksLater after))) (IsFoundIn c count (IsNextIn c count after))

abbrev pub FindsNewest : CacheValue → (count : ℕ) → (name : List ℕ) → Option FoundEntry → Type 0
FindsNewest c count name found = MatchOption found (IsOfPages c count (λ pages. ReachesPage (LacksName name pages) pages)) (IsFoundIn c count (λ e. e.key.name ≡ name))

-- ---- why it fails, and what it needs

-- why a look-up fails: by the pages of the cache and the source, and by what the cache has
pub record FailsToFind {D E : Type 0} (M : MachineGhosts D) (S : SourceGhosts E) (source : E) (m m' : D) (old new : CacheValue) (free : List Bool) (home_a : ℕ) (fault : TreeFault) : Type 0 where
  pub cause : FaultsOver M S source m' new free home_a fault
  pub shown : ShowsFault M S source m m' old new free home_a fault

-- Memory is not wanting where the pages of the search for a name are there, and they stay.
pub record SparesMemory (free : List Bool) (name : List ℕ) (refusal : Option Refusal) (old new : CacheValue) : Type 0 where
  pub enough : HasEnoughIn free name old → refusal ≡ Some Memory → ⊥
  pub path_stays : HasPathIn (length free) name old → HasPathIn (length free) name new
  pub all_stay : HasAllUsed free old → HasAllUsed free new
