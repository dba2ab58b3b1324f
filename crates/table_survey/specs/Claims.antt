-- Sets of sectors of the data area, and entries whose sectors are taken out of one.
use Rattle.std.specs.Prelude.{◌≡◌, ℕ, Bool, true, not, ◌&&◌, List, IsTrue, nat_lt}
use Rattle.std.specs.List.{flat_map}
use Rattle.volume_layout.specs.declared.layout.Layout.{Layout}
use Rattle.volume_layout.specs.Layout.{data_start, most_of, IsPlanned}
use Rattle.run_table.specs.RunTable.{sectors_of}
use Rattle.run_table.specs.Space.{contains, all_differ}
use Rattle.fsd_formats.specs.declared.entry.Entry.{Entry}
use Rattle.fsd_files.specs.Volume.{plans_of, is_in}
use Rattle.fsd_table.specs.Breaks.{Breaks}
use Rattle.fsd_table.specs.Tree.{IsTree}
use Rattle.name_page.specs.declared.pages.Pages.{Ghosts}
use Rattle.name_btree.specs.declared.fault.TreeFault.{TreeFault}
use Rattle.name_btree.specs.declared.fault.TreeFault.TheVariants.{Broken}
use Rattle.name_btree.specs.declared.lookup.FoundEntry.{FoundEntry}
use Rattle.name_btree.specs.Fault.{HasTreeCause, BarsTable}
use Rattle.sector_set.specs.Area.{Area, area, AreIn}

-- the sectors of the data area that pass the test; the interval has room for the most sectors that the volume may grow to
abbrev pub data_area : Layout → (ℕ → Bool) → Area
data_area l test = area (data_start l) (most_of l) (λ s. nat_lt s l.sectors && test s)

-- the whole data area
abbrev pub whole_area : Layout → Area
whole_area l = data_area l (λ s. true)

-- the set is of sectors of the data area
abbrev pub IsOfData : Layout → Area → Type 0
IsOfData l m = m ≡ data_area l (contains m.sectors)

-- the sectors of all entries differ and were in the area, and only they are gone
pub record IsClaimed (old : Area) (entries : List Entry) (new : Area) : Type 0 where
  pub differ : IsTrue (all_differ (flat_map sectors_of (plans_of entries)))
  pub inside : (s : ℕ) → IsTrue (is_in (plans_of entries) s) → IsTrue (contains old.sectors s)
  pub left : new ≡ area old.from old.to (λ s. contains old.sectors s && not (is_in (plans_of entries) s))

-- the second has sectors of the first alone, in the same interval
abbrev pub IsLeftOf : Area → Area → Type 0
IsLeftOf old new = new ≡ area old.from old.to (λ s. contains old.sectors s && contains new.sectors s)

-- the fault names the entry's page, and its sectors are not all in the area, each named once
abbrev pub IsClaimRefused : Area → FoundEntry → TreeFault → Type 0
IsClaimRefused old found fault = (fault ≡ Broken found.page) × (AreIn old found.entry.runs → ⊥)

-- where the outside is trusted and the pages are a tree, the page breaks it by the sectors of its entries, or bars it
abbrev pub FailsClaims : {D : Type 0} (P : Ghosts D) (old : Area) (new : D) → TreeFault → Type 0
FailsClaims P old new =
    HasTreeCause (P.step new)
    (λ page. P.trusted new → (l : Layout) → IsPlanned l → old ≡ whole_area l → (height : ℕ) → IsTree (P.step new).images height → Breaks l (P.step new).images page)
    (λ page. P.trusted new → BarsTable (P.step new) page)
