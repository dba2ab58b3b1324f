-- A version that was met on the way through the table.
use Rattle.std.specs.Prelude.{◌≡◌, ℕ, List, None, true, map}
use Rattle.fsd_formats.specs.declared.entry.Entry.{Entry}
use Rattle.fsd_formats.specs.NamePage.{is_entry, FitsEntry}
use Rattle.name_page.specs.declared.pages.Pages.{Ghosts}
use Rattle.name_page.specs.Looks.{OnlyWalks}
use Rattle.name_btree.specs.Lookup.{StandsIn, IsLedTo}
use Rattle.name_btree.specs.declared.lookup.FoundEntry.{FoundEntry}
use Rattle.version_table.specs.declared.oldest.Leaving.{Leaving}

abbrev pub found_of : Leaving → FoundEntry
found_of g = record { entry = g.entry; page = g.page }

abbrev pub leaving_of : FoundEntry → Leaving
leaving_of f = record { entry = f.entry; page = f.page }

abbrev pub entries_left : List Leaving → List Entry
entries_left gone = map (λ g. g.entry) gone

-- some state between two in which the version stood in its leaf, to which what was reached shows a path
pub record IsMetBetween {D : Type 0} (P : Ghosts D) (name : List ℕ) (old new : D) (g : Leaving) : Type 0 where
  pub at : D
  pub before : OnlyWalks P None old at
  pub after : OnlyWalks P None at new
  pub stands : StandsIn (P.step at) (found_of g)
  pub way : IsLedTo (P.step at) (found_of g)
  pub entry : is_entry g.entry ≡ true
  pub fits : FitsEntry g.entry
  pub named : g.entry.key.name ≡ name
