-- What breaks a table beside its order and shape: the sectors of its entries.
use Rattle.std.specs.Prelude.{◌≡◌, ◌⊎◌, ℕ, Bool, not, ◌||◌, List, filter, IsTrue}
use Rattle.std.specs.List.{flat_map, list_any, Contains}
use Rattle.volume_layout.specs.declared.layout.Layout.{Layout}
use Rattle.volume_layout.specs.Layout.{home_a, is_data}
use Rattle.run_table.specs.RunTable.{sectors_of}
use Rattle.run_table.specs.Space.{contains, all_differ}
use Rattle.fsd_bytes.specs.declared.key.Key.{Key}
use Rattle.fsd_bytes.specs.Keys.{key_lt}
use Rattle.fsd_formats.specs.declared.entry.Entry.{Entry}
use Rattle.fsd_table.specs.Pages.{entries_of}
use Rattle.fsd_table.specs.Table.{Visit, visits, entries_in, BreaksTable}

-- the sectors of the entries of lesser keys
abbrev pub taken_before : Key → List Entry → List ℕ
taken_before key entries = flat_map (λ x. sectors_of x.runs) (filter (λ x. key_lt x.key key) entries)

-- the entry has a sector twice, one outside the data area, or one of an entry with a lesser key
abbrev pub entry_clashes : Layout → List Entry → Entry → Bool
entry_clashes l entries e =
    let sectors = sectors_of e.runs in
    not (all_differ sectors) || list_any (λ s. not (is_data l s) || contains (taken_before e.key entries) s) sectors

-- a leaf that is reached has such an entry
pub record BreaksSectors (l : Layout) (pages : List (List ℕ)) (page : ℕ) : Type 0 where
  pub visit : Visit
  pub reached : Contains (visits pages) visit
  pub page_is : visit.page ≡ page
  pub entry : Entry
  pub has : Contains (entries_of visit.content) entry
  pub clash : IsTrue (entry_clashes l (entries_in (visits pages)) entry)

-- The page is reached from page 0, and breaks the table: its order or shape, or by the sectors of an entry.
abbrev pub Breaks : Layout → List (List ℕ) → ℕ → Type 0
Breaks l pages page = BreaksTable pages page ⊎ BreaksSectors l pages page

-- a page of these at this home breaks the table
abbrev pub BreaksAt : Layout → List (List ℕ) → ℕ → Type 0
BreaksAt l pages s = (page : ℕ) × (s ≡ home_a l page) × Breaks l pages page
