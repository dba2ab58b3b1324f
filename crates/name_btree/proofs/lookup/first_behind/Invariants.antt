use Rattle.std.proofs.Common.{◌≡◌, drop, not}
use Rattle.std.specs.Prelude.{find}
use Rattle.name_page.specs.Cut.{is_before}
use Rattle.name_btree.proofs.lookup.first_behind.Given as goal

-- none of those before is behind the place
abbrev pub invariant-loop-i : goal.invariant-loop-i
invariant-loop-i l = find (λ e. not (is_before l.cut e.key)) (drop l.i l.entries) ≡ find (λ e. not (is_before l.cut e.key)) l.entries
