-- A mounted volume with its desk, as a script has them: what stands, how one of the script's commands ends, and what a stop
-- leaves of it.
use Rattle.std.specs.Prelude.{◌≡◌, ⊤, List, ◌++◌, None, Result, Ok, Err, OnOk, IsTrue, IsFalse}
use Rattle.sector_disk.specs.declared.sector.WeakRun.{WeakRun}
use Rattle.sector_disk.specs.Machine.{Moment}
use Rattle.fsd_log.specs.Scan.{Placed}
use Rattle.fsd_files.specs.Desk.{Open, Session}
use Rattle.fsd_files.specs.Disk.{Image}
use Rattle.fsd_files.specs.Files.{Change}
use Rattle.fsd_files.specs.declared.reply.Reply.{Reply}
use Rattle.fsd_sound.specs.Mounted.{Mounted}
use Rattle.fsd_texts.specs.declared.fault.Fault.{Fault}
use Rattle.fsd_texts.specs.declared.fault.Fault.TheVariants as Ends
use Rattle.fsd_texts.specs.declared.script_command.ScriptCommand.{ScriptCommand}
use Rattle.fsd_runs.specs.Sessions.{HoldsRead, MayFindIn, Meeting, answer_in, changes_in_session, may_wear_out_in}
use Rattle.volume_contract.specs.State.{Known, OpenParts, State, is_worn}
use Rattle.client_desk.specs.declared.client.Client.{Client}
use Rattle.client_desk.specs.Clients.{IsDesk}
use Rattle.client_desk.specs.Ends.{Sits, session_of}
use Rattle.volume_turns.specs.Steps.{StaysSoundFor}

-- What stands: the volume with what it has in memory, what is open, the windows and the changes so far, and what each
-- client has open.
pub record Seated : Type 0 where
  pub mounted : Mounted
  pub opened : OpenParts
  pub windows : List WeakRun
  pub changes : List Change
  pub clients : List Open

-- the volume alone
abbrev pub known_of : Seated → Known
known_of k = record { mounted = k.mounted; opened = k.opened; windows = k.windows; changes = k.changes }

-- a volume and its clients
abbrev pub seated : Known → List Open → Seated
seated k clients = record { mounted = k.mounted; opened = k.opened; windows = k.windows; changes = k.changes; clients = clients }

abbrev pub session_in : Seated → Session
session_in k = session_of (known_of k) k.clients

-- The layout stays, and the desk is the volume's still; where all went well the volume is up.
pub record KeepsSeat {T E : Type 0} (old new : State) (clients : List Client) (result : Result T E) : Type 0 where
  pub layout : new.layout ≡ old.layout
  pub up : OnOk result (new.down ≡ None)
  pub desk : IsDesk new clients

-- The command is answered as the definitions do, over the images from its entry to its exit, and isn't one that a worn-out
-- mount refuses. The volume holds what clients read then.
pub record IsAnsweredIn (command : ScriptCommand) (s : State) (k after : Seated) (i j : Image) (reply : Reply) : Type 0 where
  pub met : Meeting
  pub is : answer_in met (session_in k) command ≡ (reply, session_in after)
  pub windows : after.windows ≡ k.windows
  pub changes : after.changes ≡ k.changes ++ changes_in_session (session_in k) command reply
  pub find : MayFindIn i j (session_in k) command met.met
  pub hold : HoldsRead (session_in after)
  pub unworn : IsTrue (may_wear_out_in (session_in k) command) → IsFalse (is_worn s)

-- The mount is worn out, and would have to change something.
pub record IsRefusedWornIn (command : ScriptCommand) (k : Seated) (s : State) : Type 0 where
  pub may : IsTrue (may_wear_out_in (session_in k) command)
  pub worn : IsTrue (is_worn s)

module _ {S : Type 0} (state : S → State) (has : S → Mounted → List Placed → Type 0) where
  -- the volume stands, and its desk has that open
  abbrev pub SitsAt : S × List Client → Seated → Moment → Type 0
  SitsAt x k now = Sits state has x.0 x.1 (known_of k) k.clients now

  -- what a stop leaves
  abbrev pub StaysIn : S × List Client → Moment → Moment → Type 0
  StaysIn x old left = (k : Seated) → SitsAt x k old → StaysSoundFor (known_of k) old left

  -- how a command ends
  abbrev pub DoesIn : ScriptCommand → (old new : S × List Client) → Seated → (before now : Moment) → Result Reply Fault → Type 0
  DoesIn command old new k before now (Ok a) = (after : Seated) × IsAnsweredIn command (state old.0) k after before.image now.image a × SitsAt new after now
  DoesIn command old new k before now (Err (Ends.Device s)) = ⊤
  DoesIn command old new k before now (Err Ends.Memory) = ⊤
  DoesIn command old new k before now (Err Ends.WornOut) = IsRefusedWornIn command k (state old.0) × SitsAt new k now
  DoesIn command old new k before now (Err fault) = ⊥
