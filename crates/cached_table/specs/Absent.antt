-- Why no version of a name is found: what the pages that were read show, whatever the others have.
use Rattle.std.specs.Prelude.{◌≡◌, ◌⊎◌, ℕ, true, false, List, [], ◌∷◌, ◌++◌, Some, None}
use Rattle.std.specs.Option.{MatchOption}
use Rattle.fsd_formats.specs.declared.entry.Entry.{Entry}
use Rattle.fsd_formats.specs.NamePage.{Leaf}
use Rattle.fsd_table.specs.Pages.{content_fits}
use Rattle.fsd_table.specs.Table.{Visit}
use Rattle.name_page.specs.Cut.{AtHigh, AtLow, is_before}
use Rattle.name_page.specs.declared.cut.Cut.TheVariants.{Named}
use Rattle.name_page.specs.Lookups.{last_that, same_name}
use Rattle.fsd_table.specs.Reached.{ReachesPage}

-- a leaf that keeps within its bounds, which end where those of another begin, and whose last entry has another name
pub record EndsOther (name : List ℕ) (v w : Visit) : Type 0 where
  pub rest : List Entry
  pub last : Entry
  pub leaf : w.content ≡ Some (Leaf (rest ++ last ∷ []))
  pub fits : content_fits w.low w.high w.content ≡ true
  pub beside : w.high ≡ v.low
  pub other : same_name last.key.name name ≡ false

-- a leaf that keeps within its bounds, between which the keys up to a name end, and whose last entry up to it has another
-- name; where it has none, no key stands before the leaf, or a path reaches the one before it, which ends with another name
pub record LacksName (name : List ℕ) (pages : List (List ℕ)) (v : Visit) : Type 0 where
  pub entries : List Entry
  pub leaf : v.content ≡ Some (Leaf entries)
  pub fits : content_fits v.low v.high v.content ≡ true
  pub low : AtLow (is_before (Named name)) v.low
  pub high : AtHigh (is_before (Named name)) v.high
  pub other : MatchOption (last_that (λ e. is_before (Named name) e.key) entries) ((v.low ≡ None) ⊎ ReachesPage (EndsOther name v) pages) (λ e. same_name e.key.name name ≡ false)
