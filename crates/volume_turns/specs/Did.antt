-- What one command does to a mounted volume that is up.
use Rattle.std.specs.Prelude.{◌≡◌, ℕ, List, Option, None, Result, OnOk, IfOk, IfErr}
use Rattle.sector_disk.specs.declared.machine.Machine.{Ghosts}
use Rattle.sector_disk.specs.Calls.{WritesDisk}
use Rattle.fsd_log.specs.Scan.{Placed}
use Rattle.fsd_sound.specs.Mounted.{Mounted}
use Rattle.fsd_texts.specs.declared.command.Command.{Command}
use Rattle.fsd_texts.specs.declared.fault.Fault.{Fault}
use Rattle.fsd_runs.specs.Commands.{reply_status}
use Rattle.volume_contract.specs.State.{State, Known, Stands}
use Rattle.scrub.specs.Scrub.{KeepsOpen}
use Rattle.fsd_files.specs.declared.reply.Reply.{Reply}
use Rattle.volume_turns.specs.Answering.{MayAnswer}
use Rattle.volume_turns.specs.Commands.{Because, HasWrittenBy, IsStatusFrom}
use Rattle.volume_turns.specs.Steps.{Does, IsOfCall, Stays, device_by}

-- What is told of any image: with which fault or status it ends, that it may be answered so, how much is written, and why.
pub record TellsAnswer {D S : Type 0} (M : Ghosts D) (state : S → State) (resident : S → ℕ → Option (List ℕ)) (command : Command) (old new : S) (before now : D) (result : Result Reply Fault) : Type 0 where
  pub fault : IfErr result IsOfCall
  pub status : IfOk result (λ a. IsStatusFrom command (reply_status a))
  pub answers : M.honest now → MayAnswer command (state old) (state new) (M.now before) (M.now now) result
  pub written : M.tells now → HasWrittenBy command (state old) (M.ledger before) (M.ledger now) result
  pub because : M.honest now → IfOk result (λ a. Because state resident command (state old) (state new) (M.now before) (M.now now) a)

-- It is answered, or a fault has ended it, and this holds beside.
pub record Did {D S : Type 0} (M : Ghosts D) (state : S → State) (holds : S → Mounted → List Placed → Type 0) (resident : S → ℕ → Option (List ℕ)) (command : Command) (old new : S) (before now : D) (result : Result Reply Fault) : Type 0 where
  -- the layout stays, and what clients have open; where it is answered the volume is up still
  pub layout : (state new).layout ≡ (state old).layout
  pub opened : KeepsOpen (state old) (state new)
  pub up : OnOk result ((state new).down ≡ None)
  -- a stop leaves the disk sound as it was
  pub disk : WritesDisk M (device_by result) (Stays state holds old) before now
  pub tells : TellsAnswer M state resident command old new before now result
  -- of a volume that stands: it is answered as the definitions do
  pub done : M.honest now → (k : Known) → Stands state holds old k (M.now before) → Does state holds command old new k (M.now before) (M.now now) result
