-- What a look-up finds.
use Rattle.std.specs.Prelude.{◌≡◌, ℕ, ◌+◌, ◌⊎◌, Bool, true, false, List, [], ◌∷◌, ◌++◌, Option, Some, None, IfSome, option_map}
use Rattle.std.specs.Option.{MatchOption}
use Rattle.std.specs.List.{AllByRecursion, Contains}
use Rattle.fsd_bytes.specs.declared.key.Key.{Key}
use Rattle.fsd_formats.specs.declared.entry.Entry.{Entry}
use Rattle.fsd_formats.specs.NamePage.{is_entry, FitsEntry, Leaf}
use Rattle.fsd_table.specs.declared.child.Child.{Child}
use Rattle.fsd_table.specs.Pages.{content_fits, not_below, page_at}
use Rattle.fsd_table.specs.Table.{IsVisited, Visit, visits}
use Rattle.fsd_table.specs.Tree.{table_of, IsTree}
use Rattle.name_page.specs.Cut.{after_cut, is_before}
use Rattle.name_page.specs.declared.cut.Cut.{Cut}
use Rattle.name_page.specs.declared.cut.Cut.TheVariants.{Named, UpTo}
use Rattle.name_page.specs.Lookups.{first_after, entry_with, is_after, last_that, same_name}
use Rattle.name_page.specs.Looks.{ShowsEach}
use Rattle.name_page.specs.Pages.{Step, is_spare, IsReached}
use Rattle.name_btree.specs.Descent.{FoundLeaf}
use Rattle.name_btree.specs.declared.descent.LeafAtKey.{LeafAtKey}
use Rattle.name_btree.specs.declared.descent.Neighbour.{Neighbour}
use Rattle.name_btree.specs.declared.fault.TreeFault.{TreeFault}
use Rattle.name_btree.specs.declared.lookup.FoundEntry.{FoundEntry}
use Rattle.name_btree.specs.Descent.{BeginsWithEntry, EndsWithEntry, HasNeighbours, IsNeighbour, IsLeafOfPlace, LeadsDown}
use Rattle.name_btree.specs.Fault.{BarsBelow, BreaksBelow, FailsShown, IsOnWay}
use Rattle.name_btree.specs.Replace.{IsLeafAt}

-- the entry without its leaf
abbrev pub found_entry : Option FoundEntry → Option Entry
found_entry found = option_map (λ f. f.entry) found

-- the page is one of the table, was reached and isn't spare, and by the grammar it is a leaf that has the entry
pub record StandsIn (s : Step) (f : FoundEntry) : Type 0 where
  pub reached : IsReached s f.page
  pub used : is_spare s.spares f.page ≡ false
  pub entries : List Entry
  pub leaf : page_at s.images f.page ≡ Some (Leaf entries)
  pub there : Contains entries f.entry

-- a path from page 0 reaches the page, which keeps within the bounds that the path leaves to it
abbrev pub IsInPlace : List (List ℕ) → (page : ℕ) → Type 0
IsInPlace pages page = (visit : Visit) × Contains (visits pages) visit × (visit.page ≡ page) × (content_fits visit.low visit.high visit.content ≡ true)

-- what was reached shows it of the leaf
abbrev pub IsLedTo : Step → FoundEntry → Type 0
IsLedTo s f = ShowsEach s (λ pages. IsInPlace pages f.page)

-- what some entries have at a key is what the table has
abbrev pub AgreesAt : Key → List (List ℕ) → List Entry → Type 0
AgreesAt key pages entries = (height : ℕ) → IsTree pages height → entry_with key entries ≡ entry_with key (table_of pages height)

-- ---- on the way

-- where a path reaches the child below so many pages, another reaches the page
abbrev pub IsBelow : List (List ℕ) → (above : ℕ) → Child → (page : ℕ) → Type 0
IsBelow pages above c page = IsVisited pages (above + 1) c → IsOnWay pages page

-- where one reaches the child, one reaches the page so
abbrev pub HasInPlace : List (List ℕ) → (above : ℕ) → Child → (page : ℕ) → Type 0
HasInPlace pages above c page = IsVisited pages (above + 1) c → IsInPlace pages page

-- what was reached shows the same of a child beside the way
abbrev pub IsLedBeside : Step → Neighbour → FoundEntry → Type 0
IsLedBeside s n f = ShowsEach s (λ pages. IsNeighbour pages n → IsInPlace pages f.page)

-- the keys of the child are from one behind the place on
abbrev pub BeginsBehindPlace : (Key → Bool) → Neighbour → Type 0
BeginsBehindPlace before n = (k : Key) × (n.child.low ≡ Some k) × (before k ≡ false)

-- the keys of the child left of the way end up to the place
abbrev pub EndsUpToPlace : (Key → Bool) → Neighbour → Type 0
EndsUpToPlace before n = (k : Key) × (n.child.high ≡ Some k) × (before k ≡ true)

-- the keys of the way's child end where those of the child right of it begin, and where none is there, with those of the start
abbrev pub EndsBeside : (high : Option Key) → Option Neighbour → Option Key → Type 0
EndsBeside high next end = MatchOption next (end ≡ high) (λ n. n.child.low ≡ end)

-- they begin where those of the child left of the way end, and where none is there, with those of the start
abbrev pub BeginsBeside : (low : Option Key) → Option Neighbour → Option Key → Type 0
BeginsBeside low previous begin = MatchOption previous (begin ≡ low) (λ n. n.child.high ≡ begin)

-- the way from a start to a place leads to the leaf, and where the keys of the leaf begin and end
pub record IsLedFrom (s : Step) (before : Key → Bool) (above : ℕ) (start : Child) (found : FoundLeaf) (leaf : Child) : Type 0 where
  pub page : leaf.page ≡ found.page
  pub below : ℕ
  pub way : ShowsEach s (λ pages. LeadsDown before pages above start → LeadsDown before pages below leaf)
  pub path : ShowsEach s (λ pages. IsVisited pages (above + 1) start → IsVisited pages (below + 1) leaf)
  pub low : BeginsBeside start.low found.previous leaf.low
  pub high : EndsBeside start.high found.next leaf.high
  pub left : IfSome found.previous (EndsUpToPlace before)
  pub fits : content_fits leaf.low leaf.high (Some (Leaf found.entries)) ≡ true

-- a leaf that was reached and isn't spare has these entries, and keeps within its bounds
pub record IsReadLeaf (s : Step) (leaf : Child) (entries : List Entry) : Type 0 where
  pub reached : IsReached s leaf.page
  pub used : is_spare s.spares leaf.page ≡ false
  pub has : page_at s.images leaf.page ≡ Some (Leaf entries)
  pub fits : content_fits leaf.low leaf.high (Some (Leaf entries)) ≡ true

-- such a leaf below a child beside the way ends with the entry, and its keys end with those of the child
pub record IsLastBeside (s : Step) (n : Neighbour) (last : Entry) : Type 0 where
  pub leaf : Child
  pub rest : List Entry
  pub is_read : IsReadLeaf s leaf (rest ++ last ∷ [])
  pub depth : ℕ
  pub path : ShowsEach s (λ pages. IsNeighbour pages n → IsVisited pages depth leaf)
  pub high : leaf.high ≡ n.child.high

-- such a leaf below a child beside the way begins with the entry, and its keys begin with those of the child
pub record IsFirstBeside (s : Step) (n : Neighbour) (first : Entry) : Type 0 where
  pub leaf : Child
  pub rest : List Entry
  pub is_read : IsReadLeaf s leaf (first ∷ rest)
  pub depth : ℕ
  pub path : ShowsEach s (λ pages. IsNeighbour pages n → IsVisited pages depth leaf)
  pub low : leaf.low ≡ n.child.low

-- ---- what a way finds

-- the leaf at a place below a child that so many pages stand above, and what stands beside the way
pub record IsFoundBelow (old new : Step) (cut : Cut) (above : ℕ) (start : Child) (found : FoundLeaf) : Type 0 where
  pub reached : IsReached new found.page
  pub used : is_spare old.spares found.page ≡ false
  pub leaf : page_at new.images found.page ≡ Some (Leaf found.entries)
  pub way : ShowsEach new (λ pages. HasInPlace pages above start found.page)
  pub least : AllByRecursion (λ e. not_below start.low e.key ≡ true) found.entries
  pub next : IfSome found.next (BeginsBehindPlace (is_before cut))
  pub at : ShowsEach new (λ pages. IsLeafAt cut pages start found)
  pub place : ShowsEach new (λ pages. IsLeafOfPlace (is_before cut) pages start found)
  pub beside : ShowsEach new (λ pages. HasNeighbours pages above start found)
  pub from : (leaf : Child) × IsLedFrom new (is_before cut) above start found leaf

-- why it is not found
abbrev pub FailsBelow : Step → (above : ℕ) → Child → TreeFault → Type 0
FailsBelow s above start = FailsShown s (λ pages. BreaksBelow pages above start) (BarsBelow s above start) (λ pages. IsBelow pages above start)

-- the first entry below a child beside the way
pub record IsFirstBelow (s : Step) (n : Neighbour) (f : FoundEntry) : Type 0 where
  pub there : StandsIn s f
  pub way : IsLedBeside s n f
  pub fits : FitsEntry f.entry
  pub least : not_below n.child.low f.entry.key ≡ true
  pub first : ShowsEach s (λ pages. BeginsWithEntry pages n.child f.entry)
  pub beside : IsFirstBeside s n f.entry

-- and the last
pub record IsLastBelow (s : Step) (n : Neighbour) (f : FoundEntry) : Type 0 where
  pub there : StandsIn s f
  pub way : IsLedBeside s n f
  pub fits : FitsEntry f.entry
  pub last : ShowsEach s (λ pages. EndsWithEntry pages n.child f.entry)
  pub beside : IsLastBeside s n f.entry

-- ---- where nothing is found

-- a leaf that was read; what was reached shows that the way to the place leads to it, along a path from page 0
pub record IsLeafBy (s : Step) (before : Key → Bool) (leaf : Child) (entries : List Entry) : Type 0 where
  pub is_read : IsReadLeaf s leaf entries
  pub above : ℕ
  pub way : ShowsEach s (λ pages. LeadsDown before pages above leaf)
  pub path : ShowsEach s (λ pages. IsVisited pages (above + 1) leaf)

-- the leaf to which the way to the place leads, by its page
abbrev pub HasLeafBy : Step → (Key → Bool) → (page : ℕ) → List Entry → Type 0
HasLeafBy s before page entries = (leaf : Child) × (leaf.page ≡ page) × IsLeafBy s before leaf entries

-- the leaf at a key, which has what the table has there
pub record IsFoundLeaf (old new : Step) (key : Key) (found : LeafAtKey) : Type 0 where
  pub reached : IsReached new found.page
  pub used : is_spare old.spares found.page ≡ false
  pub leaf : page_at new.images found.page ≡ Some (Leaf found.entries)
  pub way : ShowsEach new (λ pages. IsInPlace pages found.page)
  pub holds : ShowsEach new (λ pages. AgreesAt key pages found.entries)
  pub at : HasLeafBy new (is_before (UpTo key)) found.page found.entries

-- no entry of the leaf at a key has the key
pub record ShowsAbsent (s : Step) (key : Key) : Type 0 where
  pub leaf : Child
  pub entries : List Entry
  pub at : IsLeafBy s (is_before (UpTo key)) leaf entries
  pub none : entry_with key entries ≡ None

-- no entry of the leaf at the place behind a key, or before all, is after it, and no key stands behind the leaf
pub record ShowsNoneAfter (s : Step) (after : Option Key) : Type 0 where
  pub leaf : Child
  pub entries : List Entry
  pub at : IsLeafBy s (is_before (after_cut after)) leaf entries
  pub last : leaf.high ≡ None
  pub none : first_after after entries ≡ None

-- a leaf that was read, whose keys end where those of another begin, ends with an entry of another name; what was
-- reached shows that a path from page 0 leads to it
pub record HasOtherLeft (s : Step) (name : List ℕ) (leaf : Child) : Type 0 where
  pub left : Child
  pub rest : List Entry
  pub last : Entry
  pub is_read : IsReadLeaf s left (rest ++ last ∷ [])
  pub depth : ℕ
  pub path : ShowsEach s (λ pages. IsVisited pages depth left)
  pub beside : left.high ≡ leaf.low
  pub other : same_name last.key.name name ≡ false

-- the last entry of the leaf at the place behind a name that stands before it has another name; where none does, no key
-- stands before the leaf, or the leaf left of it ends with an entry of another name
pub record ShowsNoVersion (s : Step) (name : List ℕ) : Type 0 where
  pub leaf : Child
  pub entries : List Entry
  pub at : IsLeafBy s (is_before (Named name)) leaf entries
  pub other : MatchOption (last_that (λ e. is_before (Named name) e.key) entries) ((leaf.low ≡ None) ⊎ HasOtherLeft s name leaf) (λ e. same_name e.key.name name ≡ false)

-- ---- where the next is found

-- a leaf that was read, whose keys begin where those of another end, begins with the entry; what was reached shows that a
-- path from page 0 leads to it
pub record HasRight (s : Step) (leaf : Child) (first : Entry) : Type 0 where
  pub right : Child
  pub rest : List Entry
  pub is_read : IsReadLeaf s right (first ∷ rest)
  pub depth : ℕ
  pub path : ShowsEach s (λ pages. IsVisited pages depth right)
  pub beside : right.low ≡ leaf.high

-- the entry is the first after the key, or of all, in the leaf at the place behind the key, or before all; where none is
-- there, the leaf right of it begins with the entry
pub record ShowsNext (s : Step) (after : Option Key) (e : Entry) : Type 0 where
  pub leaf : Child
  pub entries : List Entry
  pub at : IsLeafBy s (is_before (after_cut after)) leaf entries
  pub first : MatchOption (first_after after entries) (HasRight s leaf e) (λ x. x ≡ e)

-- ---- what a look-up tells

-- An entry that was found: a leaf that was reached has it, what was reached shows that a path leads there, it is one by
-- the grammar, and it is what was looked for.
pub record IsMetAs (s : Step) (Suits : Entry → Type 0) (f : FoundEntry) : Type 0 where
  pub there : StandsIn s f
  pub way : IsLedTo s f
  pub entry : is_entry f.entry ≡ true
  pub fits : FitsEntry f.entry
  pub suits : Suits f.entry

-- it is the next one where it was met, and later
pub record IsNextAfter (s : Step) (after : Option Key) (e : Entry) : Type 0 where
  pub next : ShowsNext s after e
  pub later : is_after after e.key ≡ true

-- an entry as it was looked for, or, where none is told, what shows that
abbrev pub TellsAt : Step → Key → Option FoundEntry → Type 0
TellsAt s key found = MatchOption found (ShowsAbsent s key) (IsMetAs s (λ e. e.key ≡ key))

abbrev pub TellsNewest : Step → (name : List ℕ) → Option FoundEntry → Type 0
TellsNewest s name found = MatchOption found (ShowsNoVersion s name) (IsMetAs s (λ e. e.key.name ≡ name))

abbrev pub TellsLater : Step → (after : Option Key) → Option FoundEntry → Type 0
TellsLater s after found = MatchOption found (ShowsNoneAfter s after) (IsMetAs s (IsNextAfter s after))
