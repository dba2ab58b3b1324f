use Rattle.std.proofs.Common.{◌≡◌, ◌++◌, take}
use Rattle.std.specs.List.{flat_map}
use Rattle.script_text.proofs.PartLaws.{spaced}
use Rattle.script_text.proofs.parts.say_parts.Given as goal

-- behind the first part stand the others so far, a space in front of each
abbrev pub invariant-loop-part : goal.invariant-loop-part
invariant-loop-part l = l.out ≡ l.initial.out ++ flat_map spaced (take l.part-index l.rest)
