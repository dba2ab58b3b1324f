use Rattle.std.proofs.Common.{◌≡◌, map, take}
use Rattle.version_table.specs.Plan.{key_left}
use Rattle.version_table.proofs.editing.keys_left.Given as goal

-- the keys of those before
abbrev pub invariant-loop-gone : goal.invariant-loop-gone
invariant-loop-gone l = l.keys.items ≡ map key_left (take l.gone-index l.gone-items)
