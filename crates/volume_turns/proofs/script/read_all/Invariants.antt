use Rattle.std.proofs.Common.{◌≡◌, ◌≤◌, ◌-◌, None, Ok}
use Rattle.fsd_texts.specs.Script.{max_input, script_in}
use Rattle.script_text.specs.Reading.{fresh, script_left}
use Rattle.client_desk.specs.Clients.{IsDesk}
use Rattle.volume_turns.specs.Each.{SyncsRead}
use Rattle.volume_turns.specs.Numbers.{GoesUp}
use Rattle.volume_turns.specs.Script.{DoneSo, SpeaksReading}
use Rattle.volume_turns.proofs.script.read_all.Given as goal

-- Some first commands of the script are done.
abbrev pub invariant-loop-stop : goal.invariant-loop-stop
invariant-loop-stop g l =
    let M = g.M.Machine in
    record {
      layout : (g.V.Files.state l.v).layout ≡ (g.V.Files.state l.fn.v).layout;
      up : (g.V.Files.state l.v).down ≡ None;
      desk : IsDesk (g.V.Files.state l.v) l.desk;
      speaks : SpeaksReading {T = Unit {0}} M l.fn.m l.m (Ok tt);
      input : (M.report l.m).input_faults ≡ (M.report l.fn.m).input_faults;
      few : l.reader.given ≤ max_input;
      numbers : M.honest l.m → GoesUp l.reader.given (g.V.Files.state l.fn.v) (g.V.Files.state l.v);
      going : l.reader.end ≡ None;
      syncs : M.honest l.m → SyncsRead g.T.Says.errand.forces 0 (script_in (M.ledger l.fn.m).input).0 (script_left l.reader (M.ledger l.m).input).0 (M.ledger l.fn.m) (M.ledger l.m);
      so_far : M.tells l.m → DoneSo g.V.Files.state g.V.Files.holds M g.T.Says.errand fresh l.reader (l.fn.v, l.fn.desk) l.fn.m (l.v, l.desk) l.m;
    }

abbrev pub decreases-loop-stop : goal.decreases-loop-stop
decreases-loop-stop g l = max_input - l.reader.given
