-- Versions that are made again: each is loaded with nothing said, up to the first that is refused.
use Rattle.std.specs.Prelude.{◌≡◌, ℕ, List, ◌∷◌, map, take, Option, Some, None, Result, Ok, Err}
use Rattle.fsd_log.specs.Scan.{Placed}
use Rattle.fsd_bytes.specs.declared.refusal.Refusal.{Refusal}
use Rattle.sector_disk.specs.declared.machine.Machine.{Ghosts}
use Rattle.sector_disk.specs.Machine.{Moment}
use Rattle.fsd_sound.specs.Mounted.{Mounted}
use Rattle.fsd_texts.specs.declared.script_command.ScriptCommand.{ScriptCommand}
use Rattle.fsd_runs.specs.Errands.{Answered, first_refusal, load_of, refusal_of}
use Rattle.fsd_runs.specs.Runs.{RefusesLast, answered}
use Rattle.fsd_runs.specs.Sessions.{answer_in}
use Rattle.client_desk.specs.Clients.{no_desk}
use Rattle.dump_text.specs.declared.item.Item.{Item}
use Rattle.dump_text.specs.Items.{dumped}
use Rattle.volume_contract.specs.State.{State, Ages}
use Rattle.volume_turns.specs.declared.turns.Halt.{Halt}
use Rattle.volume_turns.specs.Generate.{silent}
use Rattle.volume_turns.specs.Seats.{Seated, SitsAt, known_of, session_in}
use Rattle.volume_turns.specs.Turns.{OnDisk, RunsFrom, StepsOk}

-- the versions that are meant, of these bytes, as commands
abbrev pub loads_of : List ℕ → List Item → List ScriptCommand
loads_of bytes items = map load_of (map (dumped bytes) items)

-- ---- what is refused

abbrev pub NoneRefused : List Answered → Type 0
NoneRefused done = first_refusal done ≡ None

-- the last of so many is refused for this, and none before it
abbrev pub RefusedFor : (count : ℕ) → Refusal → List Answered → Type 0
RefusedFor count why done = RefusesLast count done × (first_refusal done ≡ Some why)

-- ---- over a volume that stands

module _ {S : Type 0} (state : S → State) (has : S → Mounted → List Placed → Type 0) where
  -- Commands with nothing said, and what holds of their replies.
  pub record RanSo {D : Type 0} (M : Ghosts D) (k : Seated) (f : ℕ) (from : Moment) (commands : List ScriptCommand) (a b : D) (s : S) (result : Result (Unit {0}) Halt) (So : List Answered → Type 0) : Type 0 where
    pub ran : RunsFrom state has M silent k f from commands a b (s, no_desk) result
    pub so : So (answered ran.mets (session_in k) commands)

  -- whichever volume it is that stands
  abbrev pub RunsSo : {D : Type 0} → (M : Ghosts D) → List ScriptCommand → (old : S) → (a : D) → (new : S) → (b : D) → Result (Unit {0}) Halt → (List Answered → Type 0) → Type 0
  RunsSo M commands old a new b result So =
      M.honest b → (k : Seated) (f : ℕ) (from : Moment) → SitsAt state has (old, no_desk) k from → Ages from (M.now a) → OnDisk M (known_of k) f a → RanSo M k f from commands a b new result So

  -- all are loaded, or those up to the first that is refused, or a fault has ended them
  abbrev pub LoadsAll : {D : Type 0} → (M : Ghosts D) → List ScriptCommand → (old : S) → (a : D) → (new : S) → (b : D) → Result (Option Refusal) Halt → Type 0
  LoadsAll M commands old a new b (Ok None) = RunsSo M commands old a new b (Ok tt) NoneRefused
  LoadsAll M commands old a new b (Ok (Some why)) = (count : ℕ) × RunsSo M (take count commands) old a new b (Ok tt) (RefusedFor count why)
  LoadsAll M commands old a new b (Err end) = RunsSo M commands old a new b (Err end) NoneRefused

  -- One is done, and its refusal told.
  pub record LoadedStep {D : Type 0} (M : Ghosts D) (k : Seated) (f : ℕ) (from : Moment) (command : ScriptCommand) (a b : D) (s : S) (refused : Option Refusal) : Type 0 where
    pub step : StepsOk state has M silent k f from command a b (s, no_desk)
    pub is : refusal_of (answer_in step.met (session_in k) command).0 ≡ refused

  -- where a fault ends it, it does so whatever commands would follow
  abbrev pub LoadsBy : {D : Type 0} → (M : Ghosts D) → Seated → (f : ℕ) → Moment → ScriptCommand → (a b : D) → S → Result (Option Refusal) Halt → Type 0
  LoadsBy M k f from command a b s (Ok refused) = LoadedStep M k f from command a b s refused
  LoadsBy M k f from command a b s (Err end) = (more : List ScriptCommand) → RanSo M k f from (command ∷ more) a b s (Err end) NoneRefused

  abbrev pub LoadsOne : {D : Type 0} → (M : Ghosts D) → ScriptCommand → (old : S) → (a : D) → (new : S) → (b : D) → Result (Option Refusal) Halt → Type 0
  LoadsOne M command old a new b result =
      M.honest b → (k : Seated) (f : ℕ) (from : Moment) → SitsAt state has (old, no_desk) k from → Ages from (M.now a) → OnDisk M (known_of k) f a → LoadsBy M k f from command a b new result
