use Rattle.std.proofs.Common.{◌≡◌, None, Ok, drop}
use Rattle.std.specs.Prelude.{Option, Result}
use Rattle.fsd_bytes.specs.declared.refusal.Refusal.{Refusal}
use Rattle.client_desk.specs.Clients.{IsDesk, no_desk}
use Rattle.volume_turns.specs.declared.turns.Halt.{Halt}
use Rattle.volume_turns.specs.Loading.{LoadsAll, loads_of}
use Rattle.volume_turns.specs.Numbers.{GoesUp}
use Rattle.volume_turns.specs.Turns.{KeepsCalls, Speaks}
use Rattle.volume_turns.proofs.loading.load_all.Given as goal

-- What is left to load is what is left of the run.
abbrev pub invariant-loop-place : goal.invariant-loop-place
invariant-loop-place g l = record {
  layout : (g.V.Files.state l.v).layout ≡ (g.V.Files.state l.fn.v).layout;
  up : (g.V.Files.state l.v).down ≡ None;
  idle : IsDesk (g.V.Files.state l.v) no_desk;
  speaks : Speaks {T = Option Refusal} g.M.Machine 0 l.fn.m l.m (Ok None);
  quiet : g.M.Machine.honest l.m → (g.M.Machine.now l.m).said ≡ (g.M.Machine.now l.fn.m).said;
  numbers : g.M.Machine.honest l.m → GoesUp l.place (g.V.Files.state l.fn.v) (g.V.Files.state l.v);
  rest : (z : g.row.V.Denot) (b : g.row.M.Denot) (r : Result (Option Refusal) Halt) → KeepsCalls g.M.Machine l.m b →
      LoadsAll g.V.Files.state g.V.Files.holds g.M.Machine (loads_of l.input (drop l.place l.items)) l.v l.m z b r →
      LoadsAll g.V.Files.state g.V.Files.holds g.M.Machine (loads_of l.input l.items) l.fn.v l.fn.m z b r;
}
