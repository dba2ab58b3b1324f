-- Commands that are made up: they are done one after another with nothing said, and counted.
use Rattle.std.specs.Prelude.{◌≡◌, ℕ, Bool, true, false, List, [], ◌∷◌, map, Option, Some, None, Result, Ok, Err, IfErr, IfOk, IfSome}
use Rattle.volume_layout.specs.declared.layout.Layout.{Layout}
use Rattle.fsd_log.specs.Scan.{Placed}
use Rattle.sector_disk.specs.declared.machine.Machine.{Ghosts}
use Rattle.sector_disk.specs.Machine.{Moment}
use Rattle.fsd_sound.specs.Mounted.{Mounted}
use Rattle.fsd_texts.specs.declared.command.Command.{Command}
use Rattle.fsd_texts.specs.declared.script_command.ScriptCommand.{ScriptCommand}
use Rattle.fsd_texts.specs.declared.script_command.ScriptCommand.TheVariants.{Plain}
use Rattle.fsd_texts.specs.declared.counts.Counts.{Counts}
use Rattle.fsd_runs.specs.Errands.{Errand, generated}
use Rattle.fsd_runs.specs.Runs.{answered}
use Rattle.fsd_runs.specs.Sessions.{answer_in, session_over}
use Rattle.script_text.specs.Making.{Making, made_left}
use Rattle.client_desk.specs.Clients.{no_desk}
use Rattle.volume_contract.specs.State.{State, Ages, Known, volume_of}
use Rattle.volume_turns.specs.declared.turns.Halt.{Halt}
use Rattle.volume_turns.specs.Group.{IsGroup}
use Rattle.volume_turns.specs.Once.{unit_of}
use Rattle.volume_turns.specs.Seats.{Seated, SitsAt, known_of, session_in}
use Rattle.volume_turns.specs.Tally.{all_counted, counted, nothing_done}
use Rattle.volume_turns.specs.Turns.{IsEndOn, OnDisk, RunsTurns, RunsFrom, StepsOk}

-- as a script has them
abbrev pub all_plain : List Command → List ScriptCommand
all_plain commands = map (λ command. Plain command) commands

-- nothing is said of a reply
abbrev pub silent : Errand
silent = generated 0 0

-- Nothing is said, and what the fault that ends it tells of the image is so by this layout.
pub record SaysNothing {D T : Type 0} (M : Ghosts D) (AreCopies : Layout → ℕ → ℕ → Type 0) (l : Layout) (a b : D) (result : Result T Halt) : Type 0 where
  pub quiet : M.honest b → (M.now b).said ≡ (M.now a).said
  pub image : IfErr result (λ end. M.honest b → IsEndOn AreCopies l (M.now b).image end)

module _ {S : Type 0} (state : S → State) (has : S → Mounted → List Placed → Type 0) where
  -- A command is done, and counted by its answer.
  pub record CountedStep {D : Type 0} (M : Ghosts D) (k : Seated) (f : ℕ) (from : Moment) (command : Command) (a b : D) (s : S) (t u : Counts) : Type 0 where
    pub step : StepsOk state has M silent k f from (Plain command) a b (s, no_desk)
    pub counts : u ≡ counted t (Plain command) (answer_in step.met (session_in k) (Plain command)).0

  abbrev pub StepsCountedBy : {D : Type 0} → (M : Ghosts D) → Seated → (f : ℕ) → Moment → Command → (a b : D) → S → Counts → Result Counts Halt → Type 0
  StepsCountedBy M k f from command a b s t (Ok u) = CountedStep M k f from command a b s t u
  StepsCountedBy M k f from command a b s t (Err end) = (more : List ScriptCommand) → RunsFrom state has M silent k f from (Plain command ∷ more) a b (s, no_desk) (Err end)

  abbrev pub StepsCounted : {D : Type 0} → (M : Ghosts D) → Command → (old : S) → (a : D) → (new : S) → (b : D) → Counts → Result Counts Halt → Type 0
  StepsCounted M command old a new b t result =
      M.honest b → (k : Seated) (f : ℕ) (from : Moment) → SitsAt state has (old, no_desk) k from → Ages from (M.now a) → OnDisk M (known_of k) f a → StepsCountedBy M k f from command a b new t result

  -- Commands are done, and where all of them are they are counted.
  pub record CountedRun {D : Type 0} (M : Ghosts D) (k : Seated) (f : ℕ) (from : Moment) (commands : List Command) (a b : D) (s : S) (t : Counts) (result : Result Counts Halt) : Type 0 where
    pub ran : RunsFrom state has M silent k f from (all_plain commands) a b (s, no_desk) (unit_of result)
    pub counts : IfOk result (λ u. u ≡ all_counted t (answered ran.mets (session_in k) (all_plain commands)))

  abbrev pub RunsCounted : {D : Type 0} → (M : Ghosts D) → List Command → (old : S) → (a : D) → (new : S) → (b : D) → Counts → Result Counts Halt → Type 0
  RunsCounted M commands old a new b t result =
      M.honest b → (k : Seated) (f : ℕ) (from : Moment) → SitsAt state has (old, no_desk) k from → Ages from (M.now a) → OnDisk M (known_of k) f a → CountedRun M k f from commands a b new t result

  -- the next of them, or that there is none, or what has ended them
  abbrev pub Draws : {D : Type 0} → (M : Ghosts D) → (before now : Making) → (old : S) → (a : D) → (new : S) → (b : D) → Counts → Result (Option Counts) Halt → Type 0
  Draws M before now old a new b t (Ok (Some u)) = (command : Command) × (made_left before ≡ command ∷ made_left now) × StepsCounted M command old a new b t (Ok u)
  Draws M before now old a new b t (Ok None) = (made_left before ≡ []) × (new ≡ old) × (b ≡ a)
  Draws M before now old a new b t (Err end) = RunsTurns state has M silent (all_plain (made_left before)) (old, no_desk) a (new, no_desk) b (Err end)

-- ---- with the force behind them

-- whether all were done, or the mount is worn out
abbrev pub all_of : Result (Option Counts) Halt → Result Bool Halt
all_of (Ok (Some t)) = Ok true
all_of (Ok None) = Ok false
all_of (Err end) = Err end

-- A group of them, which are counted where all were done.
pub record CountedGroup {D : Type 0} (M : Ghosts D) (k : Known) (commands : List Command) (a b : D) (result : Result (Option Counts) Halt) : Type 0 where
  pub group : IsGroup M silent k (M.now a) (all_plain commands) a b (all_of result)
  pub counts : IfOk result (λ o. IfSome o (λ t. t ≡ all_counted nothing_done (answered group.mets (session_over (volume_of k)) (all_plain commands))))
