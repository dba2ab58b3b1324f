-- A list of calls, beside a map from keys to entries.
use Rattle.std.specs.Prelude.{◌≡◌, ◌<◌, ◌⊎◌, ℕ, ⊤, List, [], ◌∷◌, ◌++◌, Option, None, Result, Ok, Err, IsTrue, map, take, length}
use Rattle.fsd_bytes.specs.declared.refusal.Refusal.TheVariants.{NameTableFull}
use Rattle.fsd_formats.specs.declared.entry.Entry.{Entry}
use Rattle.fsd_formats.specs.NamePage.{is_entry, FitsEntry}
use Rattle.fsd_table.specs.Tree.{table_of}
use Rattle.name_page.specs.Edits.{put, with_entry, without}
use Rattle.name_page.specs.Lookups.{entry_with, first_after, highest_of}
use Rattle.name_page.specs.Pages.{Step, spare_count, IsOuter}
use Rattle.name_btree.specs.declared.calls.TableCall.{TableCall}
use Rattle.name_btree.specs.declared.calls.TableCall.TheVariants.{Find, Highest, NextAfter, Insert, Remove, Replace}
use Rattle.name_btree.specs.declared.fault.TreeFault.{TreeFault}
use Rattle.name_btree.specs.declared.fault.TreeFault.TheVariants.{Pages, Broken}
use Rattle.name_btree.specs.declared.lookup.FoundEntry.{FoundEntry}
use Rattle.name_btree.specs.Lookup.{found_entry}
use Rattle.name_btree.specs.Map.{IsTable, HasTable, without_all}
use Rattle.name_btree.specs.Replace.{HasAsLong}

-- ---- one call

-- what the map answers; a change answers nothing
abbrev pub map_answer : List Entry → TableCall → Option Entry
map_answer table (Find key) = entry_with key table
map_answer table (Highest name) = highest_of name table
map_answer table (NextAfter key) = first_after key table
map_answer table other = None

-- what becomes of the map
abbrev pub made_of : List Entry → TableCall → List Entry
made_of table (Insert entry gone) = with_entry entry (without_all gone.items table)
made_of table (Remove key) = without key table
made_of table (Replace entry) = map (put entry) table
made_of table other = table

-- the entry that comes may stand in a leaf
abbrev pub IsFormed : TableCall → Type 0
IsFormed (Insert entry gone) = IsTrue (is_entry entry) × FitsEntry entry
IsFormed (Replace entry) = IsTrue (is_entry entry) × FitsEntry entry
IsFormed other = ⊤

-- an entry comes with a new key, and one is replaced by one that takes as many bytes
abbrev pub Allows : List Entry → TableCall → Type 0
Allows table (Insert entry gone) = entry_with entry.key (without_all gone.items table) ≡ None
Allows table (Replace entry) = HasAsLong entry table
Allows table other = ⊤

-- ---- one after another

abbrev pub answers_of : List Entry → List TableCall → List (Option Entry)
answers_of table [] = []
answers_of table (c ∷ calls) = map_answer table c ∷ answers_of (made_of table c) calls

abbrev pub after_calls : List Entry → List TableCall → List Entry
after_calls table [] = table
after_calls table (c ∷ calls) = after_calls (made_of table c) calls

abbrev pub AllowsAll : List Entry → List TableCall → Type 0
AllowsAll table [] = ⊤
AllowsAll table (c ∷ calls) = Allows table c × AllowsAll (made_of table c) calls

-- ---- over pages

-- the pages are a table that allows the calls
pub record Permits (s : Step) (calls : List TableCall) : Type 0 where
  pub height : ℕ
  pub is : IsTable s height
  pub allows : AllowsAll (table_of s.images height) calls

-- only an insert takes pages
abbrev pub TakesPages : TableCall → Type 0
TakesPages (Insert entry gone) = ⊤
TakesPages other = ⊥

-- the refusal came from outside, or too few pages are spare for an insert
abbrev pub IsExcused : Step → TableCall → TreeFault → Type 0
IsExcused s call (Pages refusal) = IsOuter refusal ⊎ (TakesPages call × (refusal ≡ NameTableFull (spare_count s)) × (spare_count s < 8))
IsExcused s call (Broken page) = ⊥

-- the map's answer, and the changed table; or an excuse, and the table as it was
abbrev pub CarriesOut : List Entry → TableCall → Result (Option Entry) TreeFault → Step → Type 0
CarriesOut table call (Ok answer) s = (answer ≡ map_answer table call) × HasTable s (made_of table call)
CarriesOut table call (Err fault) s = IsExcused s call fault × HasTable s table

-- the map's answers, and the table that the calls make
pub record RunsCalls (table : List Entry) (calls : List TableCall) (answers : List (Option Entry)) (s : Step) : Type 0 where
  pub answers_are : answers ≡ answers_of table calls
  pub makes : HasTable s (after_calls table calls)

-- one of the calls has an excuse, and those before it were made
pub record StopsAt (table : List Entry) (calls : List TableCall) (answers : List (Option Entry)) (fault : TreeFault) (s : Step) : Type 0 where
  pub before : List TableCall
  pub call : TableCall
  pub behind : List TableCall
  pub parts : calls ≡ before ++ call ∷ behind
  pub ran : RunsCalls table before (take (length before) answers) s
  pub excuse : IsExcused s call fault

-- all calls were made, or one of them failed
abbrev pub RunsTo : List Entry → List TableCall → List (Option Entry) → Result (Unit {0}) TreeFault → Step → Type 0
RunsTo table calls answers (Ok done) s = RunsCalls table calls answers s
RunsTo table calls answers (Err fault) s = StopsAt table calls answers fault s

-- an answer without the leaf that has it
abbrev pub without_page : Result (Option FoundEntry) TreeFault → Result (Option Entry) TreeFault
without_page (Ok found) = Ok (found_entry found)
without_page (Err fault) = Err fault

-- a change that is done answers nothing
abbrev pub without_answer : Result (Unit {0}) TreeFault → Result (Option Entry) TreeFault
without_answer (Ok done) = Ok None
without_answer (Err fault) = Err fault
