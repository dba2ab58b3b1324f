-- The syncs of calls, one behind the other.
use Rattle.std.proofs.Common.{◌≡◌, ℕ, ◌+◌, ◌≤◌, Bool, true, false, List, [], ◌∷◌, inl, inr, refl, sym, ◌∙◌, ap, subst, arith}
use Rattle.std.specs.Prelude.{sum_by}
use Rattle.std.proofs.lemmas.List.Sums.{sum_by-cons}
use Rattle.sector_disk.specs.Machine.{Ledger, OnlyWrites, synced_once, took}
use Rattle.fsd_files.specs.Disk.{Image}
use Rattle.fsd_files.specs.declared.reply.Reply.{Reply}
use Rattle.fsd_files.specs.declared.reply.Reply.TheVariants as Said
use Rattle.fsd_texts.specs.declared.call.Call.{Call}
use Rattle.fsd_texts.specs.declared.call.Call.TheVariants as Calls
use Rattle.fsd_texts.specs.declared.command.Command.TheVariants as Word
use Rattle.fsd_texts.specs.declared.script_command.ScriptCommand.{ScriptCommand}
use Rattle.fsd_texts.specs.declared.script_command.ScriptCommand.TheVariants.{Plain, OfClient}
use Rattle.fsd_texts.specs.Script.{Script}
use Rattle.fsd_runs.specs.Errands.{is_forced}
use Rattle.volume_turns.specs.Calls.{CallMayReply, MayReplyTo}
use Rattle.volume_turns.specs.Each.{CountsForced, SyncsFor, SyncsRead}
use Rattle.volume_turns.specs.Syncs.{OnlyTakes, SyncsOnce, SyncsUpTo, asks_force}

-- ---- at most so many

pub none_up_to : (most : ℕ) (a : Ledger) → SyncsUpTo most a a
none_up_to most a = record { input = refl; attaches = refl; syncs = omega arith }

pub writes_up_to : (most : ℕ) (a b : Ledger) → OnlyWrites a b → SyncsUpTo most a b
writes_up_to most a b writes = record { input = writes.input; attaches = writes.attaches; syncs = let same = writes.syncs in omega (arith, same) }

-- behind a call that only writes
pub syncs_behind : (most : ℕ) (a m b : Ledger) → OnlyWrites a m → SyncsUpTo most m b → SyncsUpTo most a b
syncs_behind most a m b writes s = record {
  input = s.input ∙ writes.input;
  attaches = s.attaches ∙ writes.attaches;
  syncs = let same = writes.syncs in let more = s.syncs in omega (arith, same, more);
}

-- behind calls that have done none
pub syncs_then : (most : ℕ) (a m b : Ledger) → SyncsUpTo 0 a m → SyncsUpTo most m b → SyncsUpTo most a b
syncs_then most a m b first s = record {
  input = s.input ∙ first.input;
  attaches = s.attaches ∙ first.attaches;
  syncs = let none = first.syncs in let more = s.syncs in omega (arith, none, more);
}

-- and in front of one that asks for nothing
pub syncs_on : (most : ℕ) (a p b : Ledger) → b ≡ p → SyncsUpTo most a p → SyncsUpTo most a b
syncs_on most a p b same s = subst (λ (l : Ledger). SyncsUpTo most a l) (sym same) s

pub syncs_more : (most more : ℕ) (a b : Ledger) → most ≤ more → SyncsUpTo most a b → SyncsUpTo more a b
syncs_more most more a b le s = record { input = s.input; attaches = s.attaches; syncs = let few = s.syncs in omega (arith, few, le) }

-- ---- input is taken

pub only_takes_none : (a b : Ledger) → b ≡ a → OnlyTakes a b
only_takes_none a b same = record { attaches = ap (λ (l : Ledger). l.attaches) same; syncs = ap (λ (l : Ledger). l.syncs) same }

pub only_takes_some : (a b : Ledger) (count : ℕ) → b ≡ took a count → OnlyTakes a b
only_takes_some a b count same = record { attaches = ap (λ (l : Ledger). l.attaches) same; syncs = ap (λ (l : Ledger). l.syncs) same }

pub only_takes_then : (a b c : Ledger) → OnlyTakes a b → OnlyTakes b c → OnlyTakes a c
only_takes_then a b c first then = record { attaches = then.attaches ∙ first.attaches; syncs = then.syncs ∙ first.syncs }

-- ---- one or none

pub one_up_to : (a : Ledger) → SyncsUpTo 1 a (synced_once a)
one_up_to a = record { input = refl; attaches = refl; syncs = omega arith }

pub once_up_to : (syncs : Bool) (a b : Ledger) → SyncsOnce syncs a b → SyncsUpTo 1 a b
once_up_to syncs a b (inl same) = syncs_on 1 a a b same (none_up_to 1 a)
once_up_to syncs a b (inr once) = syncs_on 1 a (synced_once a) b once.1 (one_up_to a)

-- a text that is said behind a sync
pub synced_said : (a p b : Ledger) → p ≡ synced_once a → SyncsOnce false p b → SyncsOnce true a b
synced_said a p b one (inl same) = inr (refl, same ∙ one)
synced_said a p b one (inr once) = absurd (cc once.0)

-- ---- one command

once_more : (forces : Reply → Bool) (command : ScriptCommand) (i : Image) (reply : Reply) (m b : Ledger) → MayReplyTo command i reply → SyncsOnce (forces reply) m b → SyncsFor forces command m b
once_more forces command i reply m b may (inl same) = inl (ap (λ (l : Ledger). l.syncs) same)
once_more forces command i reply m b may (inr once) = inr (i, reply, may, once.0, ap (λ (l : Ledger). l.syncs) once.1)

syncs_from : (forces : Reply → Bool) (command : ScriptCommand) (a m b : Ledger) → m.syncs ≡ a.syncs → SyncsFor forces command m b → SyncsFor forces command a b
syncs_from forces command a m b same (inl none) = inl (none ∙ same)
syncs_from forces command a m b same (inr one) = inr (one.0, one.1, one.2, one.3, one.4 ∙ ap (λ (n : ℕ). n + 1) same)

-- its call only writes, and its reply is said
pub syncs_answered : (forces : Reply → Bool) (command : ScriptCommand) (i : Image) (reply : Reply) (a m b : Ledger) → OnlyWrites a m → MayReplyTo command i reply → SyncsOnce (forces reply) m b → SyncsFor forces command a b
syncs_answered forces command i reply a m b writes may once = syncs_from forces command a m b writes.syncs (once_more forces command i reply m b may once)

-- ---- commands that are read

syncs_counted : (forces : Reply → Bool) (count : ScriptCommand → ℕ) → CountsForced forces count → (command : ScriptCommand) (a b : Ledger) → SyncsFor forces command a b → b.syncs ≤ a.syncs + count command
syncs_counted forces count counts command a b (inl none) = omega (arith, none)
syncs_counted forces count counts command a b (inr one) = let some = counts command one.0 one.1 one.2 one.3 in let more = one.4 in omega (arith, some, more)

-- the first one is done
pub syncs_first : (forces : Reply → Bool) (command : ScriptCommand) (before now : Script) (a m b : Ledger) → before ≡ (command ∷ now.0, now.1) → m.syncs ≡ a.syncs → SyncsFor forces command m b → SyncsRead forces 0 before.0 now.0 a b
syncs_first forces command before now a m b is same done count counts =
    let all : sum_by count before.0 ≡ count command + sum_by count now.0 = ap (λ (s : Script). sum_by count s.0) is ∙ sum_by-cons count command now.0 in
    let few = syncs_counted forces count counts command m b done in
    omega (arith, all, same, few)

-- no matter what is left
pub syncs_ended : (forces : Reply → Bool) (more : ℕ) (commands left : List ScriptCommand) (a b : Ledger) → SyncsRead forces more commands left a b → SyncsRead forces more commands [] a b
syncs_ended forces more commands left a b read count counts = let few = read count counts in omega (arith, few)

-- none is done, and input was taken
pub syncs_taken : (forces : Reply → Bool) (commands : List ScriptCommand) (a b : Ledger) (some : ℕ) → b ≡ took a some → SyncsRead forces 0 commands [] a b
syncs_taken forces commands a b some same count counts = let none = ap (λ (l : Ledger). l.syncs) same in omega (arith, none)

pub syncs_still : (forces : Reply → Bool) (commands : List ScriptCommand) (a : Ledger) → SyncsRead forces 0 commands commands a a
syncs_still forces commands a count counts = omega arith

-- one behind the other
pub syncs_read : (forces : Reply → Bool) (commands mid left : List ScriptCommand) (a m b : Ledger) → SyncsRead forces 0 commands mid a m → SyncsRead forces 0 mid left m b → SyncsRead forces 0 commands left a b
syncs_read forces commands mid left a m b first then count counts = let x = first count counts in let y = then count counts in omega (arith, x, y)

-- with the force behind them
pub syncs_forced : (forces : Reply → Bool) (commands : List ScriptCommand) (a m b : Ledger) → SyncsRead forces 0 commands [] a m → SyncsUpTo 1 m b → SyncsRead forces 1 commands [] a b
syncs_forced forces commands a m b read force count counts = let x = read count counts in let y = force.syncs in omega (arith, x, y)

pub syncs_unforced : (forces : Reply → Bool) (commands : List ScriptCommand) (a b : Ledger) → SyncsRead forces 0 commands [] a b → SyncsRead forces 1 commands [] a b
syncs_unforced forces commands a b read count counts = let x = read count counts in omega (arith, x)

-- ---- a script's

call_unforced : (c : ℕ) (call : Call) (i : Image) → CallMayReply c call i Said.Forced → ⊥
call_unforced c (Calls.Begin name len) i may = may
call_unforced c (Calls.Piece bytes) i may = may
call_unforced c Calls.Close i may = may
call_unforced c Calls.Drop i may = may
call_unforced c (Calls.Open key) i may = may
call_unforced c (Calls.Next len) i may = may
call_unforced c Calls.Done i may = may

forced_asked : (command : ScriptCommand) (i : Image) → MayReplyTo command i Said.Forced → 1 ≤ asks_force command
forced_asked (Plain Word.Force) i may = omega arith
forced_asked (Plain Word.Tick) i may = omega arith
forced_asked (Plain (Word.Put name bytes keep)) i may = absurd may
forced_asked (Plain (Word.Delete key)) i may = absurd may
forced_asked (Plain (Word.Keep name keep)) i may = absurd may
forced_asked (Plain (Word.Move key name)) i may = absurd may
forced_asked (Plain (Word.Load key keep bytes)) i may = absurd may
forced_asked (Plain (Word.List pattern)) i may = absurd may
forced_asked (Plain (Word.Get key)) i may = absurd may
forced_asked (Plain Word.Stat) i may = absurd may
forced_asked (Plain Word.Scrub) i may = absurd may
forced_asked (Plain Word.Upgrade) i may = absurd may
forced_asked (Plain (Word.Grow sectors)) i may = absurd may
forced_asked (OfClient c call) i may = absurd (call_unforced c call i may)

counts_asked : CountsForced is_forced asks_force
counts_asked command i Said.Forced may so = forced_asked command i may
counts_asked command i reply may so = absurd (cc so)

pub syncs_asked : (forces : Reply → Bool) (commands : List ScriptCommand) (a b : Ledger) → forces ≡ is_forced → SyncsRead forces 1 commands [] a b → b.syncs ≤ a.syncs + (sum_by asks_force commands + 1)
syncs_asked forces commands a b is read = let few = read asks_force (subst (λ (f : Reply → Bool). CountsForced f asks_force) (sym is) counts_asked) in omega (arith, few)
