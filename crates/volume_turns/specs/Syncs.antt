-- How many syncs are done.
use Rattle.std.specs.Prelude.{◌≡◌, ◌⊎◌, ◌≤◌, ℕ, ◌+◌, Bool, List, IsTrue, sum_by}
use Rattle.sector_disk.specs.Machine.{Ledger, synced_once}
use Rattle.fsd_texts.specs.declared.command.Command.TheVariants as Word
use Rattle.fsd_texts.specs.declared.script_command.ScriptCommand.{ScriptCommand}
use Rattle.fsd_texts.specs.declared.script_command.ScriptCommand.TheVariants.{Plain}
use Rattle.fsd_texts.specs.Script.{script_in}

-- nothing is asked for, or one sync, where it is to be behind one
abbrev pub SyncsOnce : (syncs : Bool) → Ledger → Ledger → Type 0
SyncsOnce syncs old new = (new ≡ old) ⊎ (IsTrue syncs × (new ≡ synced_once old))

-- Nothing was attached, no input was taken, and so many syncs were done at most; sectors may have been written.
pub record SyncsUpTo (most : ℕ) (old new : Ledger) : Type 0 where
  pub input : new.input ≡ old.input
  pub attaches : new.attaches ≡ old.attaches
  pub syncs : new.syncs ≤ old.syncs + most

-- Nothing was attached and no sync was done; input may have been taken.
pub record OnlyTakes (old new : Ledger) : Type 0 where
  pub attaches : new.attaches ≡ old.attaches
  pub syncs : new.syncs ≡ old.syncs

-- of a command, whether it asks for a force
abbrev pub asks_force : ScriptCommand → ℕ
asks_force (Plain Word.Force) = 1
asks_force (Plain Word.Tick) = 1
-- by default it does not
asks_force command = 0

-- a script does at most one sync for each command that asks for a force, and one at its end
abbrev pub most_in_script : (input : List ℕ) → ℕ
most_in_script input = sum_by asks_force (script_in input).0 + 1
