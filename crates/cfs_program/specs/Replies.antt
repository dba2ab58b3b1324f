-- How replies are said.
use Rattle.std.specs.Prelude.{true, []}
use Rattle.fsd_runs.specs.Commands.{reply_alone, reply_text}
use Rattle.fsd_runs.specs.Errands.{Errand, alone_ending, group_ending, is_forced}

-- a get by itself says the bytes alone, and all is forced before a reply is said
abbrev pub alone_replies : Errand
alone_replies = record { commands = []; says = reply_alone; forces = λ reply. true; ends = alone_ending }

-- a script says of each reply what it is
abbrev pub script_replies : Errand
script_replies = record { commands = []; says = reply_text; forces = is_forced; ends = λ done. group_ending [] 0 }
