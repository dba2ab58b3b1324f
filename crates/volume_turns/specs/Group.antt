-- A group of commands over a mounted volume: each is answered and said, then all is forced, and that is said.
use Rattle.std.specs.Prelude.{◌≡◌, ⊤, ℕ, ◌≤◌, ◌==◌, ◌||◌, Bool, true, false, not, List, [], ◌∷◌, ◌++◌, length, slice_get, IsTrue, Result, Ok, Err}
use Rattle.sector_disk.specs.declared.machine.Machine.{Ghosts}
use Rattle.sector_disk.specs.Calls.{StopsOnly}
use Rattle.sector_disk.specs.Machine.{Moment}
use Rattle.fsd_files.specs.Desk.{Session}
use Rattle.fsd_files.specs.Disk.{Image, in_runs}
use Rattle.fsd_files.specs.Volume.{Volume}
use Rattle.fsd_texts.specs.declared.fault.Fault.TheVariants as Ends
use Rattle.fsd_texts.specs.declared.script_command.ScriptCommand.{ScriptCommand}
use Rattle.fsd_runs.specs.Errands.{Errand, Turn, blank, forced_turn}
use Rattle.fsd_runs.specs.Runs.{Goes, IsWornOut, session_behind, WearsOut, turns_begun}
use Rattle.fsd_runs.specs.Sessions.{Meeting, session_over}
use Rattle.volume_turns.specs.declared.turns.Halt.{Halt}
use Rattle.volume_turns.specs.declared.turns.Halt.TheVariants.{Fault as Stopped, Output}
use Rattle.volume_turns.specs.Once.{IsDone}
use Rattle.volume_contract.specs.State.{Known, volume_of, forced_of}
use Rattle.volume_turns.specs.Turns.{InRun, EndsAtOnce, Said}

-- where it cut the group off, the mount is worn out
abbrev pub WornIf : Bool → Volume → Image → Type 0
WornIf true v i = IsWornOut v i
WornIf false v i = ⊤

-- a group is cut off in front of a command that a worn-out mount refuses
abbrev pub CutsOff : Bool → List Meeting → Session → List ScriptCommand → Type 0
CutsOff true mets s commands = WearsOut (session_behind mets s commands) (slice_get commands (length mets))
CutsOff false mets s commands = ⊤

-- all commands were begun, or those in front of which the group was cut off
abbrev pub is_through : (cut : Bool) → List Meeting → List ScriptCommand → Bool
is_through cut mets commands = cut || length mets == length commands

-- this is said once all is forced
abbrev pub closing_turn : List ℕ → Turn
closing_turn bytes = record { said = bytes; changes = []; forces = true }

-- what follows the commands that were begun: the force, and what stands behind it, such as the line of a fault that cut
-- the group off; or nothing, where it was broken off
abbrev pub turns_behind : (through : Bool) → (more : List Turn) → List Turn
turns_behind true more = forced_turn ∷ more
turns_behind false more = blank ∷ []

abbrev pub EndsGroup : {D : Type 0} → (M : Ghosts D) → Errand → Known → (cut : Bool) → List Meeting → List ScriptCommand → (a b : D) → Result Bool Halt → Type 0
EndsGroup M e k cut mets commands a b (Ok all) =
    (all ≡ not cut) × IsTrue (is_through cut mets commands) × IsDone M k (turns_begun e mets (session_over (volume_of k)) commands ++ forced_turn ∷ []) (session_behind mets (session_over (volume_of k)) commands).volume a b
EndsGroup M e k cut mets commands a b (Err (Stopped fault)) = EndsAtOnce fault × Said M k (forced_of k) fault (turns_begun e mets (session_over (volume_of k)) commands) a b
EndsGroup M e k cut mets commands a b (Err Output) = ⊤

-- Of a group from a moment on.
pub record IsGroup {D : Type 0} (M : Ghosts D) (e : Errand) (k : Known) (from : Moment) (commands : List ScriptCommand) (a b : D) (result : Result Bool Halt) : Type 0 where
  pub mets : List Meeting
  pub cut : Bool
  pub before : CutsOff cut mets (session_over (volume_of k)) commands
  pub goes : (t : ℕ) → t ≤ M.moment a → Goes (in_runs k.windows) (M.left_since b t) (WornIf cut) e (M.now a).said from.image (session_over (volume_of k)) mets commands
  pub moments : (more : List Turn) → StopsOnly M a b (InRun k (forced_of k) (turns_begun e mets (session_over (volume_of k)) commands ++ turns_behind (is_through cut mets commands) more) (M.now a))
  pub ends : EndsGroup M e k cut mets commands a b result

abbrev pub is_worn_end : Halt → Bool
is_worn_end (Stopped Ends.WornOut) = true
is_worn_end end = false
