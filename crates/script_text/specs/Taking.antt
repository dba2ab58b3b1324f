-- What reading a script takes of the input, and what it leaves alone.
use Rattle.std.specs.Prelude.{◌≡◌, ℕ, ◌+◌, ◌<◌, ◌≤◌, Bool, true, false, List, [], ◌++◌, length, take, drop, Option, None, Result, Ok, Err}
use Rattle.fsd_texts.specs.declared.script_command.ScriptCommand.{ScriptCommand}
use Rattle.sector_disk.specs.Machine.{Ledger, took}
use Rattle.script_text.specs.declared.fault.ScriptFault.{ScriptFault}
use Rattle.script_text.specs.declared.fault.ScriptFault.TheVariants.{Input, Memory}
use Rattle.script_text.specs.Reading.{Ahead, WantsMore, Reading, count_with, script_left}

-- whether the input failed
abbrev pub input_in : {T : Type 0} → Result T ScriptFault → Bool
input_in (Ok x) = false
input_in (Err Input) = true
input_in (Err other) = false

-- Bytes are not taken only where the input failed or memory was refused.
abbrev pub IsUntaken : ScriptFault → Type 0
IsUntaken Input = Unit {0}
IsUntaken Memory = Unit {0}
IsUntaken other = ⊥

-- some bytes of the input, none only at its end, stand behind the others
pub record ComesIn (old new : List ℕ) (count : ℕ) (before now : Ledger) : Type 0 where
  pub some : count ≤ length before.input
  pub left : now ≡ took before count
  pub bytes : new ≡ old ++ take count before.input
  pub end : count ≡ 0 → before.input ≡ []

-- a call that takes bytes and gives none
pub record TakesBytes (old new : Reading) (before now : Ledger) : Type 0 where
  pub count : ℕ
  pub some : count ≤ length before.input
  pub left : now ≡ took before count
  pub taken : new.taken ≡ old.taken + count
  pub needed : 0 < count → WantsMore old.waiting
  pub waiting : new.waiting ≡ old.waiting ++ take count before.input
  pub ahead : new.end ≡ None → (rest : List ℕ) → script_left old (take count before.input ++ rest) ≡ script_left new rest

-- So many bytes are taken off the input's front, none where a command waits whole, and stand behind those that waited.
-- Of all these, a command that is given takes so many first ones away, and any other answer none. Unless the script has
-- ended, the answer is the same whatever else would follow the bytes that are taken.
pub record MovesInput (result : Result (Option ScriptCommand) ScriptFault) (old new : Reading) (before now : Ledger) : Type 0 where
  pub count : ℕ
  pub some : count ≤ length before.input
  pub left : now ≡ took before count
  pub taken : new.taken ≡ old.taken + count
  pub needed : 0 < count → WantsMore old.waiting
  pub used : ℕ
  pub within : used ≤ length old.waiting + count
  pub kept : count_with result ≡ 0 → used ≡ 0
  pub waiting : new.waiting ≡ drop used (old.waiting ++ take count before.input)
  pub ahead : (rest : List ℕ) → Ahead result (script_left old (take count before.input ++ rest)) (script_left new rest)
