-- What is found in a table that stays as it was.
use Rattle.std.proofs.Common.{◌≡◌, ℕ, List, Option, None, sym, subst, ◌∙◌}
use Rattle.fsd_bytes.specs.declared.key.Key.{Key}
use Rattle.fsd_table.specs.Tree.{IsTree, table_of}
use Rattle.name_page.specs.declared.pages.Pages.{Ghosts}
use Rattle.name_page.specs.Looks.{OnlyReaches, OnlyWalks}
use Rattle.name_page.specs.Lookups.{first_after}
use Rattle.name_btree.specs.Lookup.{found_entry}
use Rattle.name_btree.specs.declared.lookup.FoundEntry.{FoundEntry}

pub found_then : {D : Type 0} (P : Ghosts D) (old rest new : D) (after copied : Option Key) → copied ≡ after → (found : Option FoundEntry) → OnlyWalks P None old new → OnlyReaches P None rest new
    → (P.trusted new → (height : ℕ) → IsTree (P.step rest).images height → found_entry found ≡ first_after copied (table_of (P.step rest).images height))
    → P.trusted new → (height : ℕ) → IsTree (P.step old).images height → found_entry found ≡ first_after after (table_of (P.step old).images height)
found_then P old rest new after copied is found walks reaches h t height tree =
    let same : (P.step old).images ≡ (P.step rest).images = sym (walks.stays t) ∙ reaches.stays t in
    subst (λ (pages : List (List ℕ)). found_entry found ≡ first_after after (table_of pages height)) (sym same)
    (subst (λ (a : Option Key). found_entry found ≡ first_after a (table_of (P.step rest).images height)) is
    (h t height (subst (λ (pages : List (List ℕ)). IsTree pages height) same tree)))
