use Rattle.std.proofs.Common.{◌≡◌, take}
use Rattle.version_table.proofs.version.gone.Given as goal

abbrev pub invariant-loop-version : goal.invariant-loop-version
invariant-loop-version l = l.out.items ≡ take l.version-index l.version-items
