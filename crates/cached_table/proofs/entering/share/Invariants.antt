use Rattle.std.proofs.Common.{◌≡◌, drop}
use Rattle.cached_table.specs.Entering.{share}
use Rattle.cached_table.proofs.entering.share.Given as goal

abbrev pub invariant-loop-one : goal.invariant-loop-one
invariant-loop-one l = share l.gone l.runs ≡ share (drop l.one-index l.gone) l.runs
