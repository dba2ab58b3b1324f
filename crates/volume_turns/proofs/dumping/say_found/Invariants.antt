use Rattle.std.proofs.Common.{take}
use Rattle.volume_turns.specs.Dumping.{SaysAtEnd, damages_text}
use Rattle.volume_turns.proofs.dumping.say_found.Given as goal

-- the lines of the first ones are said
abbrev pub invariant-loop-x : goal.invariant-loop-x
invariant-loop-x g l = SaysAtEnd g.M.Machine (damages_text (take l.x-index l.found)) 8 l.fn.m l.m 8
