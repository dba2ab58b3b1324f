-- A leaf that was found, with what stands beside the way to it.
use Rattle.std.specs.Prelude.{ℕ, Ok}
use Rattle.fsd_table.specs.declared.child.Child.{Child}
use Rattle.name_page.specs.Cut.{is_before}
use Rattle.name_page.specs.declared.cut.Cut.{Cut}
use Rattle.name_page.specs.declared.pages.Pages.{Ghosts}
use Rattle.name_btree.specs.declared.descent.LeafBelow.{LeafBelow}
use Rattle.name_btree.specs.declared.descent.Way.{Way}
use Rattle.name_btree.specs.Descent.{way_from, with_beside, GoesDown}
use Rattle.name_btree.specs.Lookup.{IsFoundBelow}
use Rattle.name_btree.specs.Path.{HasMet, StaysBelow}

-- the way leads to it over pages that were reached, so that they show again what stands beside
pub record IsFoundAlong {D : Type 0} (P : Ghosts D) (cut : Cut) (above : ℕ) (start : Child) (old new : D) (leaf : LeafBelow) : Type 0 where
  pub way : Way
  pub goes : GoesDown (P.step new) (is_before cut) leaf.levels above (way_from start) way
  pub found : IsFoundBelow (P.step old) (P.step new) cut above start (with_beside leaf way)
  pub stays : HasMet P above (is_before cut) start old → StaysBelow P (is_before cut) above start old new (Ok (with_beside leaf way))
