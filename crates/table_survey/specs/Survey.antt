-- What a whole table tells.
use Rattle.std.specs.Prelude.{◌≡◌, ℕ, Bool, not, List, length, map, Some, count_by}
use Rattle.std.specs.List.{AllByRecursion}
use Rattle.volume_layout.specs.declared.layout.Layout.{Layout}
use Rattle.fsd_files.specs.Space.{Apart}
use Rattle.fsd_files.specs.Volume.{plans_of, is_in}
use Rattle.fsd_table.specs.Breaks.{Breaks}
use Rattle.fsd_table.specs.Table.{Telling, visits, told_in}
use Rattle.name_page.specs.declared.pages.Pages.{Ghosts}
use Rattle.name_page.specs.Pages.{Step}
use Rattle.name_btree.specs.declared.fault.TreeFault.{TreeFault}
use Rattle.name_btree.specs.Fault.{HasTreeCause, BarsTable}
use Rattle.name_btree.specs.Walk.{AreMarksOf, IsUsed}
use Rattle.sector_set.specs.Area.{Area}
use Rattle.table_survey.specs.Claims.{IsOfData, data_area}
use Rattle.table_survey.specs.declared.surveying.TableCounts.{TableCounts}

-- the pages that paths from page 0 reach
abbrev pub visited : List (List ℕ) → List ℕ
visited pages = map (λ v. v.page) (visits pages)

-- What the pages tell: those that are reached are marked and none of them is spare, the versions' sectors lie apart in
-- the data area, and all others there are free.
pub record IsSurveyed (l : Layout) (step : Step) (free : Area) (marks : List Bool) (s : TableCounts) : Type 0 where
  pub telling : Telling
  pub told : told_in step.images ≡ Some telling
  pub pages : telling.reached ≡ s.pages
  pub versions : length telling.entries ≡ s.versions
  pub marked : AreMarksOf (visited step.images) marks
  pub used : AllByRecursion (IsUsed step.spares) (visited step.images)
  pub apart : Apart l (plans_of telling.entries)
  pub left : free ≡ data_area l (λ sector. not (is_in (plans_of telling.entries) sector))

-- What a survey that has gone over a whole table tells: where the outside is trusted at its end what the pages say, and
-- that none breaks the table; and at any rate which area is left, and that as many pages are marked as it tells.
pub record SurveysWhole (Trusted : Type 0) (l : Layout) (step : Step) (free : Area) (marks : List Bool) (s : TableCounts) : Type 0 where
  pub told : Trusted → IsSurveyed l step free marks s
  pub unbroken : Trusted → (page : ℕ) → Breaks l step.images page → ⊥
  pub area_is : IsOfData l free
  pub counted : s.pages ≡ count_by (λ mark. mark) marks

-- why a survey fails: where the outside is trusted, the page that it names breaks the table, or is spare
abbrev pub FailsSurvey : {D : Type 0} → Layout → (P : Ghosts D) (new : D) → TreeFault → Type 0
FailsSurvey l P new = HasTreeCause (P.step new) (λ page. P.trusted new → Breaks l (P.step new).images page) (λ page. P.trusted new → BarsTable (P.step new) page)
