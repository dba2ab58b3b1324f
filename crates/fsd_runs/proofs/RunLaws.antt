-- What the answers of a run do to the files and to what is forced.
use Rattle.std.proofs.Common.{◌≡◌, ℕ, ◌+◌, ◌≤◌, Bool, true, false, cond, List, [], ◌∷◌, ◌++◌, length, map, refl, sym, ap, ◌∙◌, arith}
use Rattle.std.specs.Prelude.{◌||◌, fold}
use Rattle.std.specs.List.{concat, list_any}
use Rattle.std.proofs.lemmas.List.{length-append}
use Rattle.fsd_files.proofs.HistoryLaws.{fold_both}
use Rattle.fsd_files.specs.Desk.{Session}
use Rattle.fsd_files.specs.Files.{Files, step}
use Rattle.fsd_files.specs.declared.reply.Reply.{Reply}
use Rattle.fsd_texts.specs.declared.command.Command.{Command}
use Rattle.fsd_texts.specs.declared.script_command.ScriptCommand.{ScriptCommand}
use Rattle.fsd_texts.specs.declared.script_command.ScriptCommand.TheVariants.{Plain}
use Rattle.fsd_runs.specs.Commands.{answer}
use Rattle.fsd_runs.specs.Errands.{Answered, Errand, Turn, answered_so, is_forced, said_turn}
use Rattle.fsd_runs.specs.Runs.{answered, session_behind, changes_in, forced_in, said_in, turn_of, turns_begun, volume_answered, volume_behind}
use Rattle.fsd_runs.specs.Sessions.{Meeting, answer_in, changes_in_session}
use Rattle.fsd_runs.proofs.SessionLaws.{all_forced, command_follows, command_grows}

-- ---- the files

pub run_follows : (e : Errand) (xs : List Meeting) (s : Session) (commands : List ScriptCommand) → (session_behind xs s commands).volume.files ≡ fold step s.volume.files (changes_in (turns_begun e xs s commands))
run_follows e [] s commands = refl
run_follows e (x ∷ xs) s [] = refl
run_follows e (x ∷ xs) s (command ∷ commands) =
    let out = answer_in x s command in
    run_follows e xs out.1 commands
    ∙ ap (λ (f : Files). fold step f (changes_in (turns_begun e xs out.1 commands))) (command_follows x s command)
    ∙ sym (fold_both s.volume.files (changes_in_session s command out.0) (changes_in (turns_begun e xs out.1 commands)))

-- ---- what is forced

abbrev any_forces : List Turn → Bool
any_forces turns = list_any (λ t. t.forces) turns

-- Behind the commands no more is unforced than was made since the last `forced`.
record Counts (all : ℕ) (before now : ℕ) (turns : List Turn) : Type 0 where
  grown : now ≤ all + before
  told : any_forces turns ≡ true → forced_in turns + now ≤ all
  none : any_forces turns ≡ false → forced_in turns ≡ 0

counts_step : (t : Turn) (more : List Turn) (before mid now : ℕ) → mid ≤ length t.changes + before → (t.forces ≡ true → mid ≡ 0) → Counts (length (changes_in more)) mid now more
    → Counts (length (changes_in (t ∷ more))) before now (t ∷ more)
counts_step t more before mid now grows resets rest = by t.forces refl (any_forces more) refl
  where
    long : length (changes_in (t ∷ more)) ≡ length t.changes + length (changes_in more)
    long = length-append t.changes (changes_in more)

    grown : now ≤ length (changes_in (t ∷ more)) + before
    grown = omega (arith, long, grows, rest.grown)

    any_is : (b c : Bool) → t.forces ≡ b → any_forces more ≡ c → any_forces (t ∷ more) ≡ (b || c)
    any_is b c is others = ap (λ (x : Bool). x || any_forces more) is ∙ ap (λ (x : Bool). b || x) others

    forced_is : (b : Bool) → any_forces (t ∷ more) ≡ b → forced_in (t ∷ more) ≡ cond b (length t.changes + forced_in more) 0
    forced_is b is = ap (λ (x : Bool). cond x (length t.changes + forced_in more) 0) is

    by : (b : Bool) → t.forces ≡ b → (c : Bool) → any_forces more ≡ c → Counts (length (changes_in (t ∷ more))) before now (t ∷ more)
    by b is true others = record {
      grown = grown;
      told = λ any. let there = rest.told others in let sum = forced_is true any in omega (arith, long, there, sum);
      none = λ any. absurd (let bad : (b || true) ≡ false = sym (any_is b true is others) ∙ any in no b bad);
    }
      where
        no : (b : Bool) → (b || true) ≡ false → ⊥
        no true e = cc
        no false e = cc
    by true is false others = record {
      grown = grown;
      told = λ any. let none = rest.none others in let sum = forced_is true any in let small = rest.grown in let gone = resets is in omega (arith, long, none, sum, small, gone);
      none = λ any. absurd (let bad : (true || false) ≡ false = sym (any_is true false is others) ∙ any in cc);
    }
    by false is false others = record {
      grown = grown;
      told = λ any. absurd (let bad : (false || false) ≡ true = sym (any_is false false is others) ∙ any in cc);
      none = λ any. forced_is false any;
    }

counts : (e : Errand) → ((r : Reply) → e.forces r ≡ is_forced r) → (xs : List Meeting) (s : Session) (commands : List ScriptCommand)
    → Counts (length (changes_in (turns_begun e xs s commands))) s.volume.unforced (session_behind xs s commands).volume.unforced (turns_begun e xs s commands)
counts e same [] s commands = record { grown = omega arith; told = λ t. absurd cc; none = λ t. refl }
counts e same (x ∷ xs) s [] = record { grown = omega arith; told = λ t. absurd cc; none = λ t. refl }
counts e same (x ∷ xs) s (command ∷ commands) =
    let out = answer_in x s command in
    counts_step (turn_of e (answered_so s command out.0)) (turns_begun e xs out.1 commands) s.volume.unforced out.1.volume.unforced (session_behind xs out.1 commands).volume.unforced
    (command_grows x s command) (λ t. all_forced x s command (sym (same out.0) ∙ t)) (counts e same xs out.1 commands)

-- what the replies of a script tell as forced is forced
pub told_is_forced : (e : Errand) → ((r : Reply) → e.forces r ≡ is_forced r) → (xs : List Meeting) (s : Session) (commands : List ScriptCommand)
    → forced_in (turns_begun e xs s commands) + (session_behind xs s commands).volume.unforced ≤ length (changes_in (turns_begun e xs s commands)) + s.volume.unforced
told_is_forced e same xs s commands = by (any_forces (turns_begun e xs s commands)) refl
  where
    c : Counts (length (changes_in (turns_begun e xs s commands))) s.volume.unforced (session_behind xs s commands).volume.unforced (turns_begun e xs s commands)
    c = counts e same xs s commands

    by : (b : Bool) → any_forces (turns_begun e xs s commands) ≡ b → forced_in (turns_begun e xs s commands) + (session_behind xs s commands).volume.unforced ≤ length (changes_in (turns_begun e xs s commands)) + s.volume.unforced
    by true any = let told = c.told any in omega (arith, told)
    by false any = let none = c.none any in let grown = c.grown in omega (arith, none, grown)

-- ---- commands of a volume alone

pub clients_stay : (xs : List Meeting) (s : Session) (commands : List Command) → session_behind xs s (map (λ x. Plain x) commands) ≡ record s { volume = volume_behind (map (λ x. x.met) xs) s.volume commands }
clients_stay [] s commands = refl
clients_stay (x ∷ xs) s [] = refl
clients_stay (x ∷ xs) s (command ∷ commands) = clients_stay xs (record s { volume = (answer x.met s.volume command).1 }) commands

pub answered_alone : (xs : List Meeting) (s : Session) (commands : List Command) → answered xs s (map (λ x. Plain x) commands) ≡ volume_answered (map (λ x. x.met) xs) s.volume commands
answered_alone [] s commands = refl
answered_alone (x ∷ xs) s [] = refl
answered_alone (x ∷ xs) s (command ∷ commands) =
    ap (λ (more : List Answered). answered_so s (Plain command) (answer x.met s.volume command).0 ∷ more) (answered_alone xs (record s { volume = (answer x.met s.volume command).1 }) commands)

-- ---- of no commands

pub answered_none : (xs : List Meeting) (s : Session) → answered xs s [] ≡ []
answered_none [] s = refl
answered_none (x ∷ xs) s = refl

-- ---- turns that say parts

pub said_parts : (parts : List (List ℕ)) → said_in (map said_turn parts) ≡ concat parts
said_parts [] = refl
said_parts (part ∷ parts) = ap (λ (bytes : List ℕ). part ++ bytes) (said_parts parts)
