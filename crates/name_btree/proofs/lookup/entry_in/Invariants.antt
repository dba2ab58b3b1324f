use Rattle.std.proofs.Common.{◌≡◌, drop}
use Rattle.name_page.specs.Lookups.{entry_with}
use Rattle.name_btree.proofs.lookup.entry_in.Given as goal

-- none before has the key
abbrev pub invariant-loop-i : goal.invariant-loop-i
invariant-loop-i l = entry_with l.key (drop l.i l.entries) ≡ entry_with l.key l.entries
