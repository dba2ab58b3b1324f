-- Worked examples of a stat: its word and its line, and what it counts behind other commands, computed.
use Rattle.std.proofs.Common.{◌≡◌, ℕ, List, [], ◌∷◌, ◌++◌, map, None, refl, codes}
use Rattle.std.specs.Fmt.{digits}
use Rattle.std.specs.Prelude.{replicate, true}
use Rattle.fsd_bytes.specs.Keys.{key_of}
use Rattle.run_table.specs.RunTable.{run_of}
use Rattle.fsd_files.specs.Answers.{Met}
use Rattle.fsd_files.specs.declared.reply.Reply.TheVariants.{Counts}
use Rattle.fsd_texts.specs.declared.bad_line.Cause.{Cause}
use Rattle.fsd_texts.specs.declared.bad_line.Cause.TheVariants.{NoNewline, UnknownWord, WordCount}
use Rattle.fsd_texts.specs.declared.command.Command.{Command}
use Rattle.fsd_texts.specs.declared.command.Command.TheVariants as Word
use Rattle.fsd_texts.specs.declared.end.End.TheVariants.{Bad, Done, TooLong}
use Rattle.fsd_texts.specs.declared.script_command.ScriptCommand.TheVariants.{Plain}
use Rattle.fsd_texts.specs.Script.{Script, script_from, script_in}
use Rattle.fsd_texts.specs.Text.{newline}
use Rattle.fsd_runs.specs.Commands.{reply_text}
use Rattle.fsd_runs.specs.Errands.{errand_alone, scripted}
use Rattle.fsd_runs.specs.Runs.{said_in, turns_of}
use Rattle.fsd_runs.specs.Sessions.{Meeting, session_over}
use Rattle.fsd_runs.proofs.Plain.{default, finds_922, lines, no_reader, plain, says, script_says, turns_on}

-- ---- its word and its line

abbrev bad_first : Cause → Script
bad_first cause = ([], Bad (record { line = 1; cause = cause }))

its_word : map (λ (bytes : List ℕ). script_in (bytes ++ newline)) (codes "stat" ∷ codes " stat" ∷ codes "Stat" ∷ codes "stat " ∷ codes "stat x" ∷ [])
    ≡ (Plain Word.Stat ∷ [], Done) ∷ bad_first UnknownWord ∷ bad_first UnknownWord ∷ bad_first WordCount ∷ bad_first WordCount ∷ []
its_word = refl

-- with room for five bytes
stat_limits : map (λ (bytes : List ℕ). script_from 5 1 bytes) ((codes "stat" ++ newline) ∷ (codes "stat" ++ newline ++ codes "x") ∷ codes "force" ∷ (codes "force" ++ newline) ∷ (codes "nil" ++ newline ++ codes "stat") ∷ [])
    ≡ (Plain Word.Stat ∷ [], Done) ∷ (Plain Word.Stat ∷ [], TooLong) ∷ bad_first NoNewline ∷ ([], TooLong) ∷ bad_first UnknownWord ∷ []
stat_limits = refl

stat_no_newline : script_says default (codes "stat") ≡ lines (codes "forced" ∷ codes "bad line 1: no newline" ∷ [])
unfolding digits
stat_no_newline = refl

its_line : reply_text (Counts 1 2 3 4) ≡ lines (codes "stat free 1 waiting 2 pages 3 versions 4" ∷ [])
unfolding digits
its_line = refl

-- ---- what it counts

fresh_stat : says (errand_alone Word.Stat) default ≡ lines (codes "stat free 1127 waiting 0 pages 63 versions 0" ∷ [])
unfolding digits
fresh_stat = refl

-- a version of no bytes takes one sector
stat_after_put : script_says default (lines (codes "put a 0" ∷ codes "" ∷ codes "stat" ∷ [])) ≡ lines (codes "made a!1 1" ∷ codes "stat free 1126 waiting 0 pages 63 versions 1" ∷ codes "forced" ∷ [])
unfolding digits
stat_after_put = refl

-- the oldest beyond the keep goes, and waits for a force
keep_of_two : script_says default (lines (codes "put c 0" ∷ codes "" ∷ codes "put c 0" ∷ codes "" ∷ codes "put c 0" ∷ codes "" ∷ codes "get c!1" ∷ codes "stat" ∷ codes "force" ∷ codes "stat" ∷ []))
    ≡ lines (codes "made c!1 1" ∷ codes "made c!2 1" ∷ codes "made c!3 1" ∷ codes "refused no-such" ∷ codes "stat free 1124 waiting 1 pages 63 versions 2" ∷ codes "forced" ∷ codes "stat free 1125 waiting 0 pages 63 versions 2" ∷ codes "forced" ∷ [])
unfolding digits
keep_of_two = refl

-- ---- with a force by itself

abbrev forcing : Met
forcing = record { forces = true; reached = 1; damaged = None; found = []; healed = 0 }

-- what a script of these commands says
abbrev said_of : List Command → List Met → List ℕ
said_of commands mets = said_in (turns_on (scripted (map (λ c. Plain c) commands, Done)) mets default)

abbrev two_puts : List Command
two_puts = Word.Put (codes "a") (codes "x") None ∷ Word.Delete (key_of (codes "a") 1) ∷ Word.Put (codes "b") (codes "y") None ∷ Word.Stat ∷ []

-- it comes behind the pick, so b!1 lies behind what waits, which is free then
forced_behind_the_pick : said_of two_puts (plain ∷ plain ∷ forcing ∷ plain ∷ [])
    ≡ lines (codes "made a!1 2" ∷ codes "deleted a!1" ∷ codes "made b!1 2" ∷ codes "stat free 1125 waiting 0 pages 63 versions 1" ∷ codes "forced" ∷ [])
unfolding digits
forced_behind_the_pick = refl

-- with one change it can't come
not_behind_one : said_of two_puts (plain ∷ forcing ∷ plain ∷ plain ∷ [])
    ≡ lines (codes "made a!1 2" ∷ codes "deleted a!1" ∷ codes "made b!1 2" ∷ codes "stat free 1123 waiting 2 pages 63 versions 1" ∷ codes "forced" ∷ [])
unfolding digits
not_behind_one = refl

-- ---- behind a damaged sector

-- a script says it and goes on
counts_behind_damage : said_of (Word.Put (codes "a") (codes "x") None ∷ Word.Get (key_of (codes "a") 1) ∷ Word.Stat ∷ []) (plain ∷ finds_922 ∷ plain ∷ [])
    ≡ lines (codes "made a!1 2" ∷ codes "damaged a!1 922" ∷ codes "stat free 1125 waiting 0 pages 63 versions 1" ∷ codes "forced" ∷ [])
unfolding digits
counts_behind_damage = refl

-- ---- with clients

-- a version that a client reads stays where it lies when it is gone
abbrev f_is_read : Meeting
f_is_read = record { met = plain; held = (run_of 921 3 ∷ []) ∷ [] }

abbrev reads_and_deletes : List ℕ
reads_and_deletes = codes "put f 600" ++ newline ++ replicate 600 97 ++ newline ++ lines (codes "open 1 f!1" ∷ codes "delete f!1" ∷ codes "force" ∷ codes "open 1 f!1" ∷ codes "stat" ∷ codes "next 1 600" ∷ codes "done 1" ∷ codes "stat" ∷ [])

reads_what_is_gone : said_in (turns_of (scripted (script_in reads_and_deletes)) (no_reader ∷ f_is_read ∷ no_reader ∷ no_reader ∷ no_reader ∷ no_reader ∷ no_reader ∷ no_reader ∷ no_reader ∷ []) (session_over default))
    ≡ lines (codes "made f!1 3" ∷ codes "opened 1 600" ∷ codes "deleted f!1" ∷ codes "forced" ∷ codes "refused busy 1" ∷ codes "stat free 1124 waiting 3 pages 63 versions 0" ∷ codes "next 1 600" ∷ replicate 600 97 ∷ codes "done 1"
    ∷ codes "stat free 1127 waiting 0 pages 63 versions 0" ∷ codes "forced" ∷ [])
unfolding digits
reads_what_is_gone = refl

-- the sectors of a creation wait, and its end frees them
creation_waits : script_says default (lines (codes "begin 1 h 600" ∷ codes "stat" ∷ codes "put z 0" ∷ codes "" ∷ codes "force" ∷ codes "drop 1" ∷ codes "stat" ∷ []))
    ≡ lines (codes "begun 1" ∷ codes "stat free 1124 waiting 3 pages 63 versions 0" ∷ codes "made z!1 1" ∷ codes "forced" ∷ codes "dropped 1" ∷ codes "stat free 1126 waiting 0 pages 63 versions 1" ∷ codes "forced" ∷ [])
unfolding digits
creation_waits = refl
