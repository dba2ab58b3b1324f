-- What becomes of a tree from which a key is taken out.
use Rattle.std.specs.Prelude.{◌≡◌, ◌≢◌, ℕ, zero, suc, ◌+◌, ◌≤◌, ◌<◌, ◌||◌, true, List, [], ◌∷◌, length, ⊤}
use Rattle.run_table.specs.Space.{contains, all_differ}
use Rattle.fsd_bytes.specs.declared.key.Key.{Key}
use Rattle.fsd_formats.specs.declared.entry.Entry.{Entry}
use Rattle.fsd_formats.specs.NamePage.{least_separators}
use Rattle.fsd_table.specs.declared.child.Child.{Child}
use Rattle.fsd_table.specs.Pages.{page_at, children, children_of, entries_of, not_below, below}
use Rattle.fsd_table.specs.Tree.{pages_below, IsSubtree}
use Rattle.fsd_forest.specs.Forest.{Stay, Becomes}
use Rattle.name_page.specs.Edits.{without}
use Rattle.name_page.specs.Pages.{Step}
use Rattle.name_btree.specs.declared.draft.Draft.{Draft}
use Rattle.name_btree.specs.declared.trimming.Trimmed.{Trimmed}
use Rattle.name_btree.specs.declared.trimming.Trimmed.TheVariants.{Whole, Leaf, Interior}
use Rattle.name_btree.specs.Draft.{IsTreeDraft}
use Rattle.name_btree.specs.Trim.{IsLeft, MayHave}

-- a subtree around a key, which reaches no page twice, and page 0 only as its first
pub record IsAround (key : Key) (pages : List (List ℕ)) (level : ℕ) (c : Child) : Type 0 where
  pub subtree : IsSubtree level pages c
  pub low : not_below c.low key ≡ true
  pub high : below c.high key ≡ true
  pub apart : all_differ (pages_below level pages c) ≡ true
  pub inner : contains (pages_below level pages c) 0 ≡ true → c.page ≡ 0

-- what is left of a page has the edited entries below it
abbrev pub LeftBecomes : (List Entry → List Entry) → (pages after : List (List ℕ)) → (went : List ℕ) → (level : ℕ) → Child → Trimmed → Type 0
LeftBecomes edit pages after went level c Whole = Becomes edit pages after [] went level (c ∷ []) (c ∷ [])
LeftBecomes edit pages after went zero c (Leaf list) = (went ≡ []) × (list.items ≡ edit (entries_of (page_at pages c.page))) × Stay pages after []
LeftBecomes edit pages after went zero c (Interior first list) = ⊥
LeftBecomes edit pages after went (suc level) c (Leaf list) = ⊥
LeftBecomes edit pages after went (suc level) c (Interior first list) =
    Becomes edit pages after [] went level (children_of c.low c.high (page_at pages c.page)) (children first c.low c.high list.items)

-- a subtree without a key, or what is left of it; the pages that went are freed
pub record IsTrimmed (key : Key) (pages after : List (List ℕ)) (old new : List ℕ) (level : ℕ) (c : Child) (left : Trimmed) : Type 0 where
  pub went : List ℕ
  pub freed : (page : ℕ) → contains new page ≡ (contains old page || contains went page)
  pub stay : Stay pages after (pages_below level pages c)
  pub becomes : LeftBecomes (without key) pages after went level c left

-- each subtree of so many levels at most is trimmed
abbrev pub IsTrimmedBelow : Key → (pages after : List (List ℕ)) → (old new : List ℕ) → ℕ → Child → Trimmed → Type 0
IsTrimmedBelow key pages after old new levels c left = (level : ℕ) → level ≤ levels → IsAround key pages level c → IsTrimmed key pages after old new level c left

-- there is none
abbrev pub BreaksAround : Key → List (List ℕ) → ℕ → Child → ℕ → Type 0
BreaksAround key pages levels c page = (level : ℕ) → level ≤ levels → IsAround key pages level c → ⊥

-- of page 0 no leaf is left, and no separator
abbrev pub IsRootLeft : ℕ → Trimmed → Type 0
IsRootLeft page Whole = ⊤
IsRootLeft page (Leaf list) = page ≢ 0
IsRootLeft page (Interior first list) = length list.items < least_separators page

-- the page of a child may be written, and what is left of it may be, in a table of so many pages
pub record MayBeLeft (step : Step) (pages : ℕ) (c : Child) (left : Trimmed) : Type 0 where
  pub page : MayHave step c.page
  pub fits : IsLeft pages c left
  pub root : IsRootLeft c.page left

-- the draft may be written, with so many sheets and so many freed pages more at most
pub record TrimsDraft (step : Step) (old new : Draft) (more gone : ℕ) : Type 0 where
  pub draft : IsTreeDraft step new
  pub sheets : length new.sheets.items ≤ length old.sheets.items + more
  pub freed : length new.freed.items ≤ length old.freed.items + gone
