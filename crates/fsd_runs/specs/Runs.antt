-- Runs over a mounted volume: what is said, what is changed, and how much of it is forced.
use Rattle.std.specs.Prelude.{◌≡◌, ◌⊎◌, ◌≤◌, ℕ, ◌+◌, ◌-◌, ◌^◌, List, [], ◌∷◌, ◌++◌, length, map, suc, take, slice_get, Option, Some, None, IfSome, IsSome, IsTrue, IsFalse, Result, Ok, Err, ⊤, ◌==◌, if◌then◌else◌}
use Rattle.std.specs.List.{concat, list_any, flat_map}
use Rattle.volume_layout.specs.declared.layout.Layout.{Layout}
use Rattle.sector_disk.specs.declared.sector.WeakRun.{WeakRun}
use Rattle.sector_disk.specs.Machine.{Moment}
use Rattle.fsd_files.specs.Answers.{Met}
use Rattle.fsd_files.specs.Desk.{Session}
use Rattle.fsd_files.specs.Disk.{Image, Sectors, in_runs}
use Rattle.fsd_files.specs.Files.{Change, after}
use Rattle.fsd_files.specs.Kept.{Describes, Kept}
use Rattle.fsd_files.specs.Scrub.{Picks, all_data}
use Rattle.fsd_files.specs.Volume.{Volume}
use Rattle.fsd_sound.specs.Anchors.{anchor_of}
use Rattle.fsd_sound.specs.Mounted.{telling_of}
use Rattle.fsd_sound.specs.Shown.{scan_by, told}
use Rattle.fsd_formats.specs.declared.anchor.Anchor.{Anchor}
use Rattle.fsd_texts.specs.declared.fault.Fault.TheVariants as Ends
use Rattle.fsd_texts.specs.declared.command.Command.{Command}
use Rattle.fsd_texts.specs.declared.script_command.ScriptCommand.{ScriptCommand}
use Rattle.fsd_texts.specs.declared.script_command.ScriptCommand.TheVariants.{Plain}
use Rattle.fsd_runs.specs.declared.span.Span.{Span}
use Rattle.fsd_runs.specs.declared.request.Request.{Request}
use Rattle.fsd_runs.specs.declared.request.Request.TheVariants.{Dump, Restore}
use Rattle.fsd_runs.specs.Dumps.{AreWhole, IsSpoiltAt, chosen, dump_of, span_of}
use Rattle.fsd_runs.specs.Commands.{answer, changes_of}
use Rattle.fsd_runs.specs.Errands.{Answered, ByFault, ByRefusal, BySector, Cut, Damages, Errand, MayCut, Turn, answered_so, blank, cut_off, errand_of, first_refusal}
use Rattle.fsd_runs.specs.Sessions.{Meeting, MayMeet, answer_in, finished, may_wear_out_in, session_over}

-- ---- the volume that a run begins with

-- A mount of the image gives this volume: its files are those after the changes h, its table is the one that the image
-- tells, its epoch that of the image's anchor, and nothing waits.
pub record Starts (l : Layout) (windows : List WeakRun) (h : List Change) (v : Volume) (i : Image) : Type 0 where
  pub layout : v.layout ≡ l
  pub files : v.files ≡ after h
  pub tells : told l i ≡ Some (telling_of v)
  pub described : Describes l (in_runs windows) i v.files v.entries
  pub epoch : IfSome (anchor_of i) (λ a. a.epoch ≡ v.serial.epoch)
  pub count : v.serial.count ≡ 1
  pub removed : v.removed ≡ []
  pub held : v.held ≡ []
  pub drafts : v.drafts ≡ []
  pub unforced : v.unforced ≡ 0

-- ---- replies

-- the commands that were begun, in order, and their replies: one for each of these
abbrev pub answered : List Meeting → Session → List ScriptCommand → List Answered
answered (x ∷ xs) s (command ∷ commands) =
    let out = answer_in x s command in
    answered_so s command out.0 ∷ answered xs out.1 commands
answered xs s commands = []

-- the session behind them
abbrev pub session_behind : List Meeting → Session → List ScriptCommand → Session
session_behind (x ∷ xs) s (command ∷ commands) = session_behind xs (answer_in x s command).1 commands
session_behind xs s commands = s

-- so it is of commands of the volume alone
abbrev pub volume_answered : List Met → Volume → List Command → List Answered
volume_answered (met ∷ mets) v (command ∷ commands) =
    let out = answer met v command in
    record { command = Plain command; reply = out.0; changes = changes_of command out.0 } ∷ volume_answered mets out.1 commands
volume_answered mets v commands = []

abbrev pub volume_behind : List Met → Volume → List Command → Volume
volume_behind (met ∷ mets) v (command ∷ commands) = volume_behind mets (answer met v command).1 commands
volume_behind mets v commands = v

-- ---- turns

abbrev pub turn_of : Errand → Answered → Turn
turn_of e p = record { said = e.says p.reply; changes = p.changes; forces = e.forces p.reply }

-- the turns of the commands that were begun; behind them, where these are all, those of the end
abbrev pub turns_with : Errand → List Answered → List Turn
turns_with e done = map (turn_of e) done ++ (if length done == length e.commands then (e.ends done).turns else blank ∷ [])

-- of those alone
abbrev pub turns_begun : Errand → List Meeting → Session → List ScriptCommand → List Turn
turns_begun e xs s commands = map (turn_of e) (answered xs s commands)

abbrev pub turns_of : Errand → List Meeting → Session → List Turn
turns_of e xs s = turns_with e (answered xs s e.commands)

abbrev pub changes_in : List Turn → List Change
changes_in turns = flat_map (λ t. t.changes) turns

abbrev pub said_in : List Turn → List ℕ
said_in turns = flat_map (λ t. t.said) turns

-- how many changes are forced once all of this is said: those up to the last turn that forces
abbrev pub forced_in : List Turn → ℕ
forced_in [] = 0
forced_in (t ∷ turns) = if list_any (λ u. u.forces) (t ∷ turns) then length t.changes + forced_in turns else 0

-- ---- where a mount is worn out

-- the first serial count, and the first record number, that a mount doesn't give any more
abbrev pub last_count : ℕ
last_count = 2 ^ 32 - 16

-- by where the disk's log ends
pub record LogIsFull (l : Layout) (i : Image) : Type 0 where
  pub anchor : Anchor
  pub taken : anchor_of i ≡ Some anchor
  pub full : last_count ≤ (scan_by l i anchor).head.number

-- the serials of this mount are used up, or its log is
abbrev pub IsWornOut : Volume → Image → Type 0
IsWornOut v i = (last_count ≤ v.serial.count) ⊎ LogIsFull v.layout i

-- ---- the images between commands

-- an image of the run at which just this was said
pub record StoodAt (Passed : Moment → Type 0) (said : List ℕ) (i : Image) : Type 0 where
  pub moment : Moment
  pub passed : Passed moment
  pub image : moment.image ≡ i
  pub so_far : moment.said ≡ said

-- One command, from the image i on to the image j of its exit, before its reply is said: all versions are kept as it
-- begins; where no change is unforced the disk's own table is the volume's; the mount isn't worn out, where that would
-- refuse it; and it meets what it may.
pub record IsStep (hurt : Sectors) (Passed : Moment → Type 0) (said : List ℕ) (i j : Image) (s : Session) (command : ScriptCommand) (x : Meeting) : Type 0 where
  pub kept : Kept i s.volume.files s.volume.entries hurt
  pub tells : s.volume.unforced ≡ 0 → told s.volume.layout i ≡ Some (telling_of s.volume)
  pub unworn : IsTrue (may_wear_out_in s command) → IsWornOut s.volume i → ⊥
  pub exit : StoodAt Passed said j
  pub may : MayMeet i j s command x

-- The commands are begun one after another, one for each of what they meet, and each is answered over images of the
-- run. Last is what has to be so behind them.
abbrev pub Goes : Sectors → (Moment → Type 0) → (Volume → Image → Type 0) → Errand → (said : List ℕ) → Image → Session → List Meeting → List ScriptCommand → Type 0
Goes hurt Passed Last e said i s [] commands = Last s.volume i
Goes hurt Passed Last e said i s (x ∷ xs) [] = ⊥
Goes hurt Passed Last e said i s (x ∷ xs) (command ∷ commands) =
    (j : Image) × IsStep hurt Passed said i j s command x
    × Goes hurt Passed Last e (said ++ e.says (answer_in x s command).0) j (answer_in x s command).1 xs commands

-- ---- a run

-- a group is cut off by a mount that is worn out only in front of a command that this refuses
abbrev pub WearsOut : Session → Option ScriptCommand → Type 0
WearsOut s None = ⊥
WearsOut s (Some command) = IsTrue (may_wear_out_in s command)

abbrev pub IsCutBefore : Cut → Session → List ScriptCommand → Type 0
IsCutBefore (Some (ByFault k Ends.WornOut)) s commands = WearsOut s (slice_get commands k)
IsCutBefore cut s commands = ⊤

-- and only where it is so
abbrev pub IsCutAt : Cut → Volume → Image → Type 0
IsCutAt (Some (ByFault k Ends.WornOut)) v i = IsWornOut v i
IsCutAt cut v i = ⊤

abbrev pub errand_in : Request → (input : List ℕ) → Cut → Volume → Errand
errand_in request input cut v = cut_off cut (errand_of request input v)

-- what was answered last is refused, and nothing before it
abbrev pub RefusesLast : (count : ℕ) → List Answered → Type 0
RefusesLast count done = (length done ≡ count) × (first_refusal (take (count - 1) done) ≡ None) × IsSome (first_refusal done)

-- A restore goes on as long as nothing is refused, and ends there.
abbrev pub IsRestoredSo : Cut → List Answered → Type 0
IsRestoredSo (Some (ByRefusal k)) done = RefusesLast k done
IsRestoredSo cut done = first_refusal done ≡ None

-- Once its head is said, no data sector of its versions was damaged as a dump began. It tells those that it has met at
-- its first reading, at an image of the run at which nothing was said; and ends behind the versions in front of one with
-- a sector that was whole then and is damaged at an image at which these were said.
abbrev pub IsDumpedSo : Result Span ℕ → Cut → (Passed : Moment → Type 0) → (base : List ℕ) → Volume → Image → Type 0
IsDumpedSo (Ok span) None Passed base v i = (m : Moment) (more : List ℕ) → Passed m → m.said ≡ base ++ (concat (take 1 (dump_of span v)) ++ more) → AreWhole i (chosen span v.entries)
IsDumpedSo (Ok span) (Some (Damages found)) Passed base v i = IsFalse (length found == 0) × ((j : Image) × StoodAt Passed base j × Picks i j (all_data (chosen span v.entries)) found)
IsDumpedSo (Ok span) (Some (BySector k s)) Passed base v i =
    AreWhole i (chosen span v.entries) × ((j : Image) × StoodAt Passed (base ++ concat (take (suc k) (dump_of span v))) j × IsSpoiltAt j (chosen span v.entries) k s)
IsDumpedSo (Err need) None Passed base v i = ⊤
IsDumpedSo span cut Passed base v i = ⊥

-- what is asked of the replies of a restore, and of how a dump goes
abbrev pub GoesSo : Request → Cut → (Passed : Moment → Type 0) → (base : List ℕ) → Volume → Image → List Answered → Type 0
GoesSo Restore cut Passed base v i done = IsRestoredSo cut done
GoesSo (Dump since most) cut Passed base v i done = IsDumpedSo (span_of since most v.entries) cut Passed base v i
GoesSo request cut Passed base v i done = ⊤

-- What the words ask for is done over this volume, from the image i on: where it is cut off, if it is, and what the
-- commands that were begun meet. Passed is the moments of the run, and base what was said before it.
pub record Course (request : Request) (input : List ℕ) (windows : List WeakRun) (Passed : Moment → Type 0) (base : List ℕ) (v : Volume) (i : Image) : Type 0 where
  pub cut : Cut
  pub may : MayCut request cut
  pub mets : List Meeting
  pub before : IsCutBefore cut (session_behind mets (session_over v) (errand_in request input cut v).commands) (errand_of request input v).commands
  pub goes : Goes (in_runs windows) Passed (IsCutAt cut) (errand_in request input cut v) base i (session_over v) mets (errand_in request input cut v).commands
  pub so : GoesSo request cut Passed base v i (answered mets (session_over v) (errand_in request input cut v).commands)

module _ {request : Request} {input : List ℕ} {windows : List WeakRun} {Passed : Moment → Type 0} {base : List ℕ} {v : Volume} {i : Image} (r : Course request input windows Passed base v i) where
  abbrev pub run_turns : List Turn
  run_turns = turns_of (errand_in request input r.cut v) r.mets (session_over v)

  abbrev pub run_status : ℕ
  run_status = ((errand_in request input r.cut v).ends (answered r.mets (session_over v) (errand_in request input r.cut v).commands)).status

  -- the volume behind the commands that were begun: what clients have open is dropped, or done
  abbrev pub run_end : Volume
  run_end = (finished (session_behind r.mets (session_over v) (errand_in request input r.cut v).commands)).volume

  -- all commands were begun
  abbrev pub IsThrough : Type 0
  IsThrough = length r.mets ≡ length (errand_in request input r.cut v).commands
