-- What a change of the table leaves of the pages, and why it fails.
use Rattle.std.specs.Prelude.{ℕ, ◌+◌, ◌≤◌, ◌<◌, length, OnErr, Result}
use Rattle.name_page.specs.declared.pages.Pages.{Ghosts}
use Rattle.name_page.specs.Looks.{ChangesPages, OnlyEdits, OnlyWalks}
use Rattle.name_page.specs.Pages.{Step, changes, spare_count, reaches}
use Rattle.name_btree.specs.declared.fault.TreeFault.{TreeFault}
use Rattle.name_btree.specs.Fault.{FailsSpare, IsAmong, outer_told}

-- each page that is changed may be, and a change that fails has only walked
pub record ChangesTable {D : Type 0} {T : Type 0} (P : Ghosts D) (old new : D) (result : Result T TreeFault) : Type 0 where
  pub calls : OnlyEdits P (outer_told result) old new
  pub pages : ChangesPages (P.step old) (P.step new)
  pub kept : OnErr result (OnlyWalks P (outer_told result) old new)

-- so many pages more are reached and changed at most
pub record SpendsAtMost (reached changed : ℕ) (old new : Step) : Type 0 where
  pub reaches : reaches old ≤ reaches new + reached
  pub changes : changes old ≤ changes new + changed

-- why an insert fails: a page that is named is one of the table, and breaks it or is spare, or too few pages are spare
pub record FailsInsert {D : Type 0} (P : Ghosts D) (old new : D) (fault : TreeFault) : Type 0 where
  pub among : 0 < length (P.step old).images → IsAmong (length (P.step old).images) fault
  pub cause : FailsSpare P (spare_count (P.step old)) new fault
