use Rattle.std.proofs.Common.{◌≡◌, take}
use Rattle.name_page.specs.Cut.{is_before}
use Rattle.name_page.specs.Lookups.{last_that}
use Rattle.name_btree.proofs.lookup.last_before.Given as goal

-- none of those behind is before the place
abbrev pub invariant-loop-i : goal.invariant-loop-i
invariant-loop-i l = last_that (λ e. is_before l.cut e.key) (take l.i l.entries) ≡ last_that (λ e. is_before l.cut e.key) l.entries
