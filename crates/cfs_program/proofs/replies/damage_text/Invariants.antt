use Rattle.std.proofs.Common.{◌≡◌, take}
use Rattle.fsd_runs.specs.Commands.{found_text}
use Rattle.cfs_program.proofs.replies.damage_text.Given as goal

abbrev pub invariant-loop-x : goal.invariant-loop-x
invariant-loop-x l = l.said ≡ found_text (take l.x-index l.found)
