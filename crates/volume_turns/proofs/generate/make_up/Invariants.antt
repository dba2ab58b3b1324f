use Rattle.std.proofs.Common.{◌≡◌, ◌+◌, None, Ok, length}
use Rattle.std.specs.Prelude.{Result}
use Rattle.fsd_texts.specs.declared.counts.Counts.{Counts}
use Rattle.fsd_texts.specs.Generator.{made_up}
use Rattle.script_text.specs.Making.{made_left}
use Rattle.client_desk.specs.Clients.{IsDesk, no_desk}
use Rattle.volume_turns.specs.declared.turns.Halt.{Halt}
use Rattle.volume_turns.specs.Generate.{RunsCounted}
use Rattle.volume_turns.specs.Numbers.{GoesUp}
use Rattle.volume_turns.specs.Tally.{nothing_done}
use Rattle.volume_turns.specs.Turns.{KeepsCalls, Speaks}
use Rattle.volume_turns.proofs.generate.make_up.Given as goal

-- What is left to make up is what is left of the run.
abbrev pub invariant-loop : goal.invariant-loop
invariant-loop g l = record {
  layout : (g.V.Files.state l.v).layout ≡ (g.V.Files.state l.fn.v).layout;
  up : (g.V.Files.state l.v).down ≡ None;
  idle : IsDesk (g.V.Files.state l.v) no_desk;
  speaks : Speaks {T = Unit {0}} g.M.Machine 0 l.fn.m l.m (Ok tt);
  quiet : g.M.Machine.honest l.m → (g.M.Machine.now l.m).said ≡ (g.M.Machine.now l.fn.m).said;
  counts : l.tally.count ≡ l.counter;
  numbers : g.M.Machine.honest l.m → GoesUp l.counter (g.V.Files.state l.fn.v) (g.V.Files.state l.v);
  left : length (made_left l.maker) + l.counter ≡ l.count;
  rest : (z : g.row.V.Denot) (b : g.row.M.Denot) (r : Result Counts Halt) → KeepsCalls g.M.Machine l.m b →
      RunsCounted g.V.Files.state g.V.Files.holds g.M.Machine (made_left l.maker) l.v l.m z b l.tally r →
      RunsCounted g.V.Files.state g.V.Files.holds g.M.Machine (made_up l.seed l.count) l.fn.v l.fn.m z b nothing_done r;
}
