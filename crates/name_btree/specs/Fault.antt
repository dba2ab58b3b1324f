-- Why a call of the table fails.
use Rattle.std.specs.Prelude.{◌≡◌, ℕ, ◌+◌, ◌⊎◌, Bool, true, false, List, length, Option, Some, None, Result, Ok, Err, ◌<◌, ⊤}
use Rattle.std.specs.List.{Contains, AllByRecursion}
use Rattle.fsd_bytes.specs.declared.refusal.Refusal.{Refusal}
use Rattle.fsd_bytes.specs.declared.refusal.Refusal.TheVariants.{Unsound, NameTableFull}
use Rattle.fsd_table.specs.declared.child.Child.{Child}
use Rattle.fsd_table.specs.Pages.{page_at, content_fits}
use Rattle.fsd_table.specs.Table.{Visit, visits, IsVisited, BreaksTable}
use Rattle.fsd_table.specs.Tree.{IsTree, pages_of}
use Rattle.name_page.specs.Looks.{Agrees, ShowsEach}
use Rattle.name_page.specs.declared.pages.Pages.{Ghosts}
use Rattle.name_page.specs.Pages.{Step, home_sector, is_spare, outer_refusal, IsOuter, IsBarred}
use Rattle.name_btree.specs.Descent.{IsNeighbour}
use Rattle.name_btree.specs.declared.descent.Neighbour.{Neighbour}
use Rattle.name_btree.specs.declared.fault.TreeFault.{TreeFault}
use Rattle.name_btree.specs.declared.fault.TreeFault.TheVariants.{Pages, Broken}

-- the refusal from outside that a fault tells, and a result
abbrev pub outer_of : TreeFault → Option Refusal
outer_of (Pages refusal) = outer_refusal refusal
outer_of (Broken page) = None

abbrev pub outer_told : {T : Type 0} → Result T TreeFault → Option Refusal
outer_told (Ok x) = None
outer_told (Err fault) = outer_of fault

-- the refusal came from outside, or it names a page that may be refused
abbrev pub IsCaused : Step → (Bars : ℕ → Type 0) → Refusal → Type 0
IsCaused s Bars refusal = IsOuter refusal ⊎ ((page : ℕ) × (refusal ≡ Unsound (home_sector s page)) × Bars page)

-- the pages gave this refusal, and it has its cause, or the page breaks something
abbrev pub HasTreeCause : Step → (Breaks Bars : ℕ → Type 0) → TreeFault → Type 0
HasTreeCause s Breaks Bars (Pages refusal) = (s.refusal ≡ Some refusal) × IsCaused s Bars refusal
HasTreeCause s Breaks Bars (Broken page) = Breaks page

-- a path from page 0 reaches the page
abbrev pub IsOnWay : List (List ℕ) → ℕ → Type 0
IsOnWay pages page = (visit : Visit) × Contains (visits pages) visit × (visit.page ≡ page)

-- the page breaks the table, or it is spare and a path reaches it
abbrev pub BarsTable : Step → ℕ → Type 0
BarsTable s page = BreaksTable s.images page ⊎ ((is_spare s.spares page ≡ true) × IsOnWay s.images page)

-- a page that is named is one of so many
abbrev pub IsAmong : ℕ → TreeFault → Type 0
IsAmong pages (Pages refusal) = ⊤
IsAmong pages (Broken page) = page < pages

-- why a call of the table fails: where the outside is trusted, the page that it names breaks the table, or is spare
abbrev pub FailsTable : {D : Type 0} (P : Ghosts D) (new : D) → TreeFault → Type 0
FailsTable P new = HasTreeCause (P.step new) (λ page. P.trusted new → BreaksTable (P.step new).images page) (λ page. P.trusted new → BarsTable (P.step new) page)

-- the same, and a page that is named is one of the table
pub record FailsAmong {D : Type 0} (P : Ghosts D) (old new : D) (fault : TreeFault) : Type 0 where
  pub among : 0 < length (P.step old).images → IsAmong (length (P.step old).images) fault
  pub cause : FailsTable P new fault

-- the same of an insert, where so many pages are spare
abbrev pub FailsSpare : {D : Type 0} (P : Ghosts D) (free : ℕ) (new : D) → TreeFault → Type 0
FailsSpare P free new fault = FailsTable P new fault ⊎ ((fault ≡ Pages (NameTableFull free)) × ((P.step new).refusal ≡ Some (NameTableFull free)))

-- this page may not be reached
abbrev pub BarsPage : Step → (page : ℕ) → ℕ → Type 0
BarsPage s page other = (other ≡ page) × IsBarred s page

-- what was reached shows that a page breaks something; where a page was refused, it does so once the grammar refuses it
abbrev pub FailsBy : Step → (Breaks : List (List ℕ) → ℕ → Type 0) → TreeFault → Type 0
FailsBy s Breaks (Pages refusal) =
    (s.refusal ≡ Some refusal) × (IsOuter refusal ⊎ ((page : ℕ) × (refusal ≡ Unsound (home_sector s page)) × IsBarred s page × ((images : List (List ℕ)) → Agrees images s → page_at images page ≡ None → Breaks images page)))
FailsBy s Breaks (Broken page) = (images : List (List ℕ)) → Agrees images s → Breaks images page

-- Whatever the other pages have, what was reached shows that the page breaks something; where a page may not be
-- reached, that it is on the way.
abbrev pub ShowsCause : Step → (Breaks IsThere : List (List ℕ) → ℕ → Type 0) → TreeFault → Type 0
ShowsCause s Breaks IsThere (Pages refusal) = IsOuter refusal ⊎ ((page : ℕ) × (refusal ≡ Unsound (home_sector s page)) × IsBarred s page × ShowsEach s (λ pages. IsThere pages page))
ShowsCause s Breaks IsThere (Broken page) = ShowsEach s (λ pages. Breaks pages page)

-- why a way fails: the cause, and what was reached shows it
pub record FailsShown (s : Step) (Breaks : List (List ℕ) → ℕ → Type 0) (Bars : ℕ → Type 0) (IsThere : List (List ℕ) → ℕ → Type 0) (fault : TreeFault) : Type 0 where
  pub cause : HasTreeCause s (Breaks s.images) Bars fault
  pub shown : ShowsCause s Breaks IsThere fault

-- why a look-up fails: a page that is named is one of the table, and breaks it or may not be reached
pub record FailsLookup {D : Type 0} (P : Ghosts D) (old new : D) (fault : TreeFault) : Type 0 where
  pub among : 0 < length (P.step old).images → IsAmong (length (P.step old).images) fault
  pub cause : HasTreeCause (P.step new) (BreaksTable (P.step new).images) (BarsTable (P.step new)) fault
  pub shown : ShowsCause (P.step new) BreaksTable IsOnWay fault

-- no page breaks anything
abbrev pub Never : ℕ → Type 0
Never page = ⊥

-- the child is no page whose keys stand between its own
abbrev pub IsMisfit : List (List ℕ) → Child → ℕ → Type 0
IsMisfit pages c page = (page ≡ c.page) × (content_fits c.low c.high (page_at pages c.page) ≡ false)

-- what was reached shows that a page that is named is no page whose keys stand between those of its child
abbrev pub ShowsMisfit : Step → Child → TreeFault → Type 0
ShowsMisfit s c (Pages refusal) = ⊤
ShowsMisfit s c (Broken page) = ShowsEach s (λ pages. IsMisfit pages c page)

-- the pages are no tree
abbrev pub IsNoTree : List (List ℕ) → Type 0
IsNoTree pages = (height : ℕ) → IsTree pages height → ⊥

-- a tree, none of whose pages is spare
abbrev pub IsNoUsedTree : Step → Type 0
IsNoUsedTree s = (height : ℕ) → IsTree s.images height → AllByRecursion (λ page. is_spare s.spares page ≡ false) (pages_of s.images height) → ⊥

-- the pages have the fault, and not the outside
abbrev pub is_inner : TreeFault → Bool
is_inner (Pages (Unsound s)) = true
is_inner (Pages other) = false
is_inner (Broken page) = true

-- where the outside is trusted, the pages are none, whichever page was met
abbrev pub FailsTree : {D : Type 0} (P : Ghosts D) (new : D) → TreeFault → Type 0
FailsTree P new = HasTreeCause (P.step new) (λ page. P.trusted new → IsNoUsedTree (P.step new)) (λ page. P.trusted new → IsNoUsedTree (P.step new))

-- where a path reaches the child below so many pages, this page breaks the table
abbrev pub BreaksBelow : List (List ℕ) → (above : ℕ) → Child → ℕ → Type 0
BreaksBelow pages above c page = IsVisited pages (above + 1) c → BreaksTable pages page

abbrev pub BreaksBeside : List (List ℕ) → Neighbour → ℕ → Type 0
BreaksBeside pages n page = IsNeighbour pages n → BreaksTable pages page

-- where a path reaches the neighbour, another reaches the page
abbrev pub IsBeside : List (List ℕ) → Neighbour → ℕ → Type 0
IsBeside pages n page = IsNeighbour pages n → IsOnWay pages page

abbrev pub BarsBelow : Step → (above : ℕ) → Child → ℕ → Type 0
BarsBelow s above start page = IsVisited s.images (above + 1) start → BarsTable s page

abbrev pub BarsBeside : Step → Neighbour → ℕ → Type 0
BarsBeside s n page = IsNeighbour s.images n → BarsTable s page

-- the same of a way from page 0, and of one below a child beside the way
abbrev pub FailsDown : Step → TreeFault → Type 0
FailsDown s = FailsShown s BreaksTable (BarsTable s) IsOnWay

abbrev pub FailsBeside : Step → Neighbour → TreeFault → Type 0
FailsBeside s n = FailsShown s (λ pages. BreaksBeside pages n) (BarsBeside s n) (λ pages. IsBeside pages n)
