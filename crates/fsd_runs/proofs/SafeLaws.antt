-- A run over a sound disk never ends as one whose mount is refused for what the disk has.
use Rattle.std.proofs.Common.{◌≡◌, ◌⊎◌, inl, inr, ℕ, Bool, true, false, cond, List, [], ◌∷◌, ◌++◌, length, take, Option, Some, None, Ok, Err, sym, ◌∙◌, arith}
use Rattle.std.specs.Prelude.{Result, nat_lt}
use Rattle.volume_layout.specs.declared.layout.Layout.{Layout}
use Rattle.sector_disk.specs.declared.sector.WeakRun.{WeakRun}
use Rattle.sector_disk.specs.Machine.{Moment, Report}
use Rattle.fsd_bytes.specs.declared.key.Key.{Key}
use Rattle.fsd_bytes.specs.declared.refusal.Refusal.{Refusal}
use Rattle.fsd_dumps.specs.Dump.{Dumped}
use Rattle.fsd_dumps.specs.Front.{ItemsRead, dumped_in}
use Rattle.fsd_files.specs.Volume.{Volume}
use Rattle.fsd_files.specs.Disk.{Image}
use Rattle.fsd_files.specs.Files.{Change}
use Rattle.fsd_files.specs.declared.reply.Reply.{Reply}
use Rattle.fsd_files.specs.declared.reply.Reply.TheVariants as Said
use Rattle.fsd_texts.specs.declared.command.Command.{Command}
use Rattle.fsd_texts.specs.declared.command.Command.TheVariants as Word
use Rattle.fsd_texts.specs.declared.fault.Fault.{Fault}
use Rattle.fsd_texts.specs.declared.fault.Fault.TheVariants as Ends
use Rattle.fsd_texts.specs.declared.end.End.{End}
use Rattle.fsd_texts.specs.declared.end.End.TheVariants.{Done}
use Rattle.fsd_texts.specs.Script.{max_input, script_in}
use Rattle.fsd_runs.specs.declared.request.Request.{Request}
use Rattle.fsd_runs.specs.declared.request.Request.TheVariants as Asks
use Rattle.fsd_runs.specs.Errands.{Answered, ByFault, ByRefusal, BySector, Cut, Damages, Errand, IfMounts, MayCut, Turn, dumping, errand_alone, blank, errand_of, fault_status, first_refusal, nothing_but, restore_of, restored_unless, restoring_unless, script_ending}
use Rattle.fsd_runs.specs.declared.span.Span.{Span}
use Rattle.fsd_runs.specs.Dumps.{first_there, span_of}
use Rattle.fsd_runs.specs.Commands.{reply_status}
use Rattle.fsd_runs.specs.Leaves.{IsBrokenOff, IsOutside, IsReplied, IsUnderWay, IsUndone, IsSpent, IsUnsaid, LeavesBy, LeavesMounted, LeavesSaid, LeavesUnmounted, Unbegun, Whatever}
use Rattle.fsd_runs.specs.Runs.{IsThrough, answered, errand_in, run_end, run_status, run_turns}
use Rattle.fsd_runs.specs.Sessions.{session_over}

abbrev NotThree : ℕ → Type 0
NotThree status = status ≡ 3 → ⊥

abbrev EndsOtherwise : Errand → Type 0
EndsOtherwise e = (done : List Answered) → NotThree (e.ends done).status

-- ---- what is said of replies and of scripts

reply_otherwise : (reply : Reply) → NotThree (reply_status reply)
reply_otherwise (Said.Refused why) e = absurd (omega (arith, e))
reply_otherwise (Said.Scrubbed [] healed) e = absurd (omega (arith, e))
reply_otherwise (Said.Scrubbed (x ∷ found) healed) e = absurd (omega (arith, e))
reply_otherwise reply e = absurd (omega (arith, e))

alone_otherwise : (command : Command) → EndsOtherwise (errand_alone command)
alone_otherwise command [] e = absurd (omega (arith, e))
alone_otherwise command (p ∷ done) e = reply_otherwise p.reply e

script_otherwise : (ends : End) → NotThree (script_ending ends).status
script_otherwise Done e = absurd (omega (arith, e))
script_otherwise end e = absurd (omega (arith, e))

-- where the input may be too long
input_otherwise : (b : Bool) (errand : Errand) → EndsOtherwise errand → EndsOtherwise (cond b (nothing_but Ends.InputTooLong) errand)
input_otherwise true errand otherwise done e = absurd (omega (arith, e))
input_otherwise false errand otherwise done e = otherwise done e

restored_otherwise : (o : Option Refusal) (count : ℕ) → NotThree (restored_unless o count).status
restored_otherwise (Some why) count e = absurd (omega (arith, e))
restored_otherwise None count e = absurd (omega (arith, e))

unless_otherwise : (there : Option Key) (items : List Dumped) → EndsOtherwise (restoring_unless there items)
unless_otherwise (Some key) items done e = absurd (omega (arith, e))
unless_otherwise None items done e = restored_otherwise (first_refusal done) (length done) e

restore_otherwise : (read : ItemsRead) (v : Volume) → EndsOtherwise (restore_of read v)
restore_otherwise (Err place) v done e = absurd (omega (arith, e))
restore_otherwise (Ok items) v done e = unless_otherwise (first_there items v.entries) items done e

dumping_otherwise : (span : Result Span ℕ) (v : Volume) → EndsOtherwise (dumping span v)
dumping_otherwise (Ok span) v done e = absurd (omega (arith, e))
dumping_otherwise (Err need) v done e = absurd (omega (arith, e))

-- ---- of a request that mounts, cut off or not

-- over each volume
abbrev AllEndOtherwise : (Volume → Errand) → Type 0
AllEndOtherwise errand = (v : Volume) → EndsOtherwise (errand v)

errand_otherwise : (request : Request) (input : List ℕ) → IfMounts request (AllEndOtherwise (errand_of request input))
errand_otherwise (Asks.Put name keep) input = λ v. input_otherwise (nat_lt max_input (length input)) (errand_alone (Word.Put name input keep)) (alone_otherwise (Word.Put name input keep))
errand_otherwise (Asks.One command) input = λ v. alone_otherwise command
errand_otherwise Asks.Script input = λ v done e. script_otherwise (script_in input).1 e
errand_otherwise (Asks.Generate seed count) input = λ v done e. absurd (omega (arith, e))
errand_otherwise (Asks.Dump since most) input = λ v. dumping_otherwise (span_of since most v.entries) v
errand_otherwise Asks.Restore input = λ v. input_otherwise (nat_lt max_input (length input)) (restore_of (dumped_in input) v) (restore_otherwise (dumped_in input) v)
errand_otherwise request input = tt

-- so it is of each request that mounts
if_mounts : (request : Request) (P Q : Type 0) → (P → Q) → IfMounts request P → IfMounts request Q
if_mounts (Asks.Put name keep) P Q so p = so p
if_mounts (Asks.One command) P Q so p = so p
if_mounts Asks.Script P Q so p = so p
if_mounts (Asks.Generate seed count) P Q so p = so p
if_mounts (Asks.Dump since most) P Q so p = so p
if_mounts Asks.Restore P Q so p = so p
if_mounts request P Q so p = tt

cut_otherwise : (request : Request) (k : ℕ) (why : Fault) → MayCut request (Some (ByFault k why)) → NotThree (fault_status why)
cut_otherwise Asks.Script k Ends.Input may e = absurd (omega (arith, e))
cut_otherwise Asks.Script k Ends.WornOut may e = absurd (omega (arith, e))
cut_otherwise (Asks.Generate seed count) k Ends.WornOut may e = absurd (omega (arith, e))
cut_otherwise request k why may e = absurd may

in_otherwise : (request : Request) (input : List ℕ) (cut : Cut) → MayCut request cut → AllEndOtherwise (errand_of request input) → AllEndOtherwise (errand_in request input cut)
in_otherwise request input None may otherwise v done e = otherwise v done e
in_otherwise request input (Some (ByFault k why)) may otherwise v done e = cut_otherwise request k why may e
in_otherwise request input (Some (ByRefusal k)) may otherwise v done e = otherwise v done e
in_otherwise request input (Some (Damages found)) may otherwise v done e = absurd (omega (arith, e))
in_otherwise request input (Some (BySector k s)) may otherwise v done e = absurd (omega (arith, e))

-- ---- the whole

broken_otherwise : (request : Request) (Undone : ℕ → Image → Type 0) (UnderWay : ℕ → Type 0) (before after : Report) (turns : List Turn) (old new : Moment) (result : ℕ) → IsUnsaid before after result ⊎ IsBrokenOff request Undone UnderWay before after turns old new result → NotThree result
broken_otherwise request Undone UnderWay before after turns old new result (inl unsaid) e = let six = unsaid.ends in absurd (omega (arith, e, six))
broken_otherwise request Undone UnderWay before after turns old new result (inr broken) e = by request broken.why broken.outside (sym broken.ends ∙ e)
  where
    by : (r : Request) (why : Fault) → IsOutside r before after why → NotThree (fault_status why)
    by r (Ends.Device s) outside e = absurd (omega (arith, e))
    by r Ends.Memory outside e = absurd (omega (arith, e))
    by (Asks.Put name keep) Ends.Input outside e = absurd (omega (arith, e))
    by Asks.Restore Ends.Input outside e = absurd (omega (arith, e))
    by r why outside e = absurd outside

module _ (request : Request) (input rest : List ℕ) (l : Layout) (windows : List WeakRun) (h : List Change) (f : ℕ) (Past Stops : ℕ → Moment → Type 0) (began : ℕ) (Had : Moment → Type 0) (Only Held : (Moment → Type 0) → Type 0) (before after : Report) (old new : Moment) (result : ℕ) where
  unmounted_otherwise : LeavesUnmounted request l windows h f Had Only Held before after old new result → NotThree result
  unmounted_otherwise u e = by u.ends
    where
      by : IsSpent old new result ⊎ (IsUnsaid before after result ⊎ IsBrokenOff request Unbegun Whatever before after (blank ∷ []) old new result) → ⊥
      by (inl spent) = let nine = spent.ends in omega (arith, e, nine)
      by (inr other) = broken_otherwise request Unbegun Whatever before after (blank ∷ []) old new result other e

  mounted_otherwise : AllEndOtherwise (errand_of request input) → LeavesMounted request input rest l windows h f Past Stops began Had Only Held before after old new result → NotThree result
  mounted_otherwise otherwise m e = by m.ends
    where
      by : (IsThrough m.run × IsReplied l windows m.next h m.count (run_turns m.run) (run_status m.run) (run_end m.run) Held old new result)
          ⊎ (IsUnsaid before after result ⊎ IsBrokenOff request (IsUndone l (windows ++ m.next ∷ []) (take m.count h) m.count (run_turns m.run)) (IsUnderWay l (windows ++ m.next ∷ []) (take m.count h) m.count (run_turns m.run) Held) before after (run_turns m.run) old new result) → ⊥
      by (inl through) = in_otherwise request input m.run.cut m.run.may otherwise m.volume (answered m.run.mets (session_over m.volume) (errand_in request input m.run.cut m.volume).commands) (sym through.1.ends ∙ e)
      by (inr other) = broken_otherwise request (IsUndone l (windows ++ m.next ∷ []) (take m.count h) m.count (run_turns m.run)) (IsUnderWay l (windows ++ m.next ∷ []) (take m.count h) m.count (run_turns m.run) Held) before after (run_turns m.run) old new result other e

  by_otherwise : AllEndOtherwise (errand_of request input) → LeavesBy request input rest l windows h f Past Stops began Had Only Held before after old new result → NotThree result
  by_otherwise otherwise (inl u) = unmounted_otherwise u
  by_otherwise otherwise (inr m) = mounted_otherwise otherwise m

module _ (request : Request) (input rest : List ℕ) (l : Layout) (windows : List WeakRun) (h : List Change) (f : ℕ) (Past Stops : ℕ → Moment → Type 0) (began : ℕ) (Had : Moment → Type 0) (Only Held : (Moment → Type 0) → Type 0) (before after : Report) (old new : Moment) (result : ℕ) where
  run_otherwise : AllEndOtherwise (errand_of request input) → LeavesSaid request input rest l windows h f Past Stops began Had Only Held before after old new result → NotThree result
  run_otherwise otherwise leaves = by_otherwise request input rest leaves.0 windows h f Past Stops began Had Only Held before after old new result otherwise leaves.2

  pub never_refused : IfMounts request (LeavesSaid request input rest l windows h f Past Stops began Had Only Held before after old new result → result ≡ 3 → ⊥)
  never_refused = if_mounts request (AllEndOtherwise (errand_of request input)) (LeavesSaid request input rest l windows h f Past Stops began Had Only Held before after old new result → NotThree result) run_otherwise (errand_otherwise request input)
