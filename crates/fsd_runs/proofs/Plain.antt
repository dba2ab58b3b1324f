-- Volumes and runs for worked examples: nothing is damaged, no force comes by itself, and the table has one page.
use Rattle.std.proofs.Common.{ℕ, List, [], ◌∷◌, ◌++◌, map, Some, None}
use Rattle.std.specs.Prelude.{false, length, replicate}
use Rattle.volume_layout.specs.declared.kind.Kind.TheVariants.{Two}
use Rattle.fsd_files.specs.Answers.{Met}
use Rattle.fsd_files.specs.Volume.{Volume}
use Rattle.fsd_texts.specs.declared.command.Command.{Command}
use Rattle.fsd_texts.specs.Script.{script_in}
use Rattle.fsd_texts.specs.Text.{newline}
use Rattle.fsd_runs.specs.Commands.{answer}
use Rattle.fsd_runs.specs.Errands.{Errand, Turn, scripted}
use Rattle.fsd_runs.specs.Runs.{answered, turns_of, said_in}
use Rattle.fsd_runs.specs.Sessions.{Meeting, session_over}

abbrev pub plain : Met
plain = record { forces = false; reached = 1; damaged = None; found = []; healed = 0 }

-- a sector of the data reads as damaged
abbrev pub finds_922 : Met
finds_922 = record plain { damaged = Some 922 }

-- where no client reads
abbrev pub meets : Met → Meeting
meets met = record { met = met; held = [] }

abbrev pub no_reader : Meeting
no_reader = meets plain

-- right behind the first mount after a format
abbrev pub fresh : (n t p : ℕ) → Volume
fresh n t p = record {
  layout = record { kind = Two; sectors = n; third = t; pages = p; most = 0 };
  files = [];
  entries = [];
  removed = [];
  held = [];
  drafts = [];
  reached = 1;
  unforced = 0;
  serial = record { epoch = 2; count = 1 };
}

abbrev pub default : Volume
default = fresh 2048 256 64

abbrev pub plainly : Errand → List Met
plainly e = replicate (length e.commands) plain

-- its turns over a volume
abbrev pub turns_on : Errand → List Met → Volume → List Turn
turns_on e mets v = turns_of e (map (λ met. meets met) mets) (session_over v)

-- the status that it gives
abbrev pub status_of : Errand → List Met → Volume → ℕ
status_of e mets v = (e.ends (answered (map (λ met. meets met) mets) (session_over v) e.commands)).status

-- all that an errand says
abbrev pub says : Errand → Volume → List ℕ
says e v = said_in (turns_on e (plainly e) v)

abbrev pub script_says : Volume → List ℕ → List ℕ
script_says v input = says (scripted (script_in input)) v

-- the volume behind some commands
abbrev pub behind : Volume → List Command → Volume
behind v [] = v
behind v (c ∷ commands) = behind (answer plain v c).1 commands

-- lines
abbrev pub lines : List (List ℕ) → List ℕ
lines [] = []
lines (l ∷ ls) = l ++ newline ++ lines ls
