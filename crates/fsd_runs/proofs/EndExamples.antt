-- Worked examples of how runs end, and of ends that are refused, computed.
use Rattle.std.proofs.Common.{◌≡◌, ℕ, List, [], ◌∷◌, ◌++◌, map, Some, None, refl, inl, codes, arith}
use Rattle.std.specs.Fmt.{digits}
use Rattle.std.specs.Prelude.{length, replicate, true, false}
use Rattle.fsd_bytes.specs.Keys.{key_of}
use Rattle.run_table.specs.RunTable.{run_of}
use Rattle.fsd_files.specs.Answers.{put_outcome}
use Rattle.fsd_files.specs.Disk.{Image, Sectors}
use Rattle.fsd_files.specs.declared.reply.Reply.TheVariants.{Made}
use Rattle.fsd_files.specs.Volume.{Volume}
use Rattle.sector_disk.specs.Machine.{Moment}
use Rattle.fsd_texts.specs.declared.script_command.ScriptCommand.{ScriptCommand}
use Rattle.fsd_texts.specs.declared.script_command.ScriptCommand.TheVariants.{Plain}
use Rattle.fsd_texts.specs.declared.command.Command.TheVariants as Word
use Rattle.fsd_texts.specs.declared.fault.Fault.TheVariants as Ends
use Rattle.fsd_texts.specs.declared.end.End.TheVariants.{Done}
use Rattle.fsd_texts.specs.Script.{script_in, script_of}
use Rattle.fsd_runs.specs.Commands.{may_wear_out}
use Rattle.fsd_runs.specs.Errands.{ByFault, Errand, Turn, errand_alone, blank, cut_off, forced_turn, scripted}
use Rattle.fsd_runs.specs.Runs.{IsCutBefore, IsStep, last_count, said_in}
use Rattle.fsd_runs.specs.Sessions.{Meeting, session_over}
use Rattle.fsd_runs.proofs.Plain.{behind, default, finds_922, fresh, lines, plain, plainly, says, status_of, turns_on}

abbrev puts_a_b_c : List ℕ
puts_a_b_c = lines (codes "put a 0" ∷ codes "" ∷ codes "put b 0" ∷ codes "" ∷ codes "put c 0" ∷ codes "" ∷ [])

-- ---- a bad line behind three puts

abbrev three_and_bad : Errand
three_and_bad = scripted (script_in (puts_a_b_c ++ lines (codes "tick x" ∷ [])))

says_three_and_bad : says three_and_bad default ≡ lines (codes "made a!1 1" ∷ codes "made b!1 1" ∷ codes "made c!1 1" ∷ codes "forced" ∷ codes "bad line 4: word count" ∷ [])
unfolding digits
says_three_and_bad = refl

status_of_bad : status_of three_and_bad (plainly three_and_bad) default ≡ 2
status_of_bad = refl

-- ---- a force that makes place

abbrev small : Volume
small = behind (fresh 721 200 16) (Word.Put (codes "a") (replicate 16384 1) None ∷ Word.Delete (key_of (codes "a") 1) ∷ [])

-- 33 sectors wait and 31 are free; behind the force all 64 are
finds_place : (put_outcome plain small (codes "b") (replicate 20480 2) None).0 ≡ Made (key_of (codes "b") 1) 41
finds_place = refl

from_the_start : map (λ e. e.runs) (put_outcome plain small (codes "b") (replicate 20480 2) None).1.entries ≡ (run_of 657 41 ∷ []) ∷ []
from_the_start = refl

one_waits : (put_outcome plain small (codes "b") (replicate 20480 2) None).1.unforced ≡ 1
one_waits = refl

-- ---- a damaged sector

abbrev gets : Errand
gets = scripted (map (λ c. Plain c) (Word.Put (codes "a") (codes "x") None ∷ Word.Get (key_of (codes "a") 1) ∷ Word.Delete (key_of (codes "a") 1) ∷ []), Done)

-- a script goes on behind it
status_in_a_script : status_of gets (plain ∷ finds_922 ∷ plain ∷ []) default ≡ 0
status_in_a_script = refl

status_alone : status_of (errand_alone (Word.Get (key_of (codes "a") 1))) (finds_922 ∷ []) (behind default (Word.Put (codes "a") (codes "x") None ∷ [])) ≡ 8
status_alone = refl

-- ---- a group that is cut off

abbrev three : List ScriptCommand
three = map (λ c. Plain c) (Word.Put (codes "a") (codes "x") None ∷ Word.Delete (key_of (codes "a") 1) ∷ Word.Put (codes "b") (codes "y") None ∷ Word.Get (key_of (codes "b") 1) ∷ [])

abbrev worn : Errand
worn = cut_off (Some (ByFault 1 Ends.WornOut)) (scripted (three, Done))

says_worn_out : said_in (turns_on worn (plain ∷ []) default) ≡ lines (codes "made a!1 2" ∷ codes "forced" ∷ codes "fault worn out" ∷ [])
unfolding digits
says_worn_out = refl

status_worn_out : status_of worn (plain ∷ []) default ≡ 9
status_worn_out = refl

-- the second command would change something, the fourth would not, and there is no fifth
before_a_delete : IsCutBefore (Some (ByFault 1 Ends.WornOut)) (session_over default) three
before_a_delete = refl

not_before_a_get : IsCutBefore (Some (ByFault 3 Ends.WornOut)) (session_over default) three → ⊥
not_before_a_get is = absurd (cc is)

not_at_the_end : IsCutBefore (Some (ByFault 4 Ends.WornOut)) (session_over default) three → ⊥
not_at_the_end is = is

-- what is refused before that is no place for it
not_before_a_long_one : may_wear_out (Word.Keep (codes "a") 1000) ≡ false
not_before_a_long_one = refl

-- a mount whose serials are used up makes nothing
abbrev used_up : Volume
used_up = record default { serial = record { epoch = 2; count = last_count } }

makes_nothing : (hurt : Sectors) (Passed : Moment → Type 0) (said : List ℕ) (i j : Image) (x : Meeting) → IsStep hurt Passed said i j (session_over used_up) (Plain (Word.Put (codes "a") [] None)) x → ⊥
makes_nothing hurt Passed said i j x step = step.unworn refl (inl (omega arith))

-- an input that fails behind two commands
abbrev cut_short : Errand
cut_short = cut_off (Some (ByFault 2 Ends.Input)) (scripted (script_in puts_a_b_c))

says_input : said_in (turns_on cut_short (plain ∷ plain ∷ []) default) ≡ lines (codes "made a!1 1" ∷ codes "made b!1 1" ∷ codes "forced" ∷ codes "fault input" ∷ [])
unfolding digits
says_input = refl

-- the third command was not taken whole, though its line was
two_taken : length (script_of (lines (codes "put a 0" ∷ codes "" ∷ codes "put b 0" ∷ codes "" ∷ codes "put c 3" ∷ []) ++ codes "xy")).0 ≡ 2
two_taken = refl

-- ---- a run that ends at once

-- a script whose mount fails in the walk has no whole turn, also where it has no command
walk_fails : turns_on (scripted (three, Done)) [] default ≡ blank ∷ []
walk_fails = refl

walk_fails_with_no_command : turns_on (scripted ([], Done)) [] default ≡ forced_turn ∷ []
walk_fails_with_no_command = refl

-- of one change all is forced once it is said, and nothing before
alone_is_forced : map (λ (t : Turn). t.forces) (turns_on (errand_alone (Word.Put (codes "a") [] None)) (plain ∷ []) default) ≡ true ∷ []
alone_is_forced = refl
