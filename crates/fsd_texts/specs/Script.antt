-- Scripts: the commands that bytes spell, and how they end.
use Rattle.std.specs.Prelude.{ℕ, zero, suc, ◌+◌, ◌^◌, Bool, true, false, ◌&&◌, List, [], ◌∷◌, length, take, drop, Option, Some, None, Result, Ok, Err, ok_or, nat_lt, nat_le, ◌==◌, if◌then◌else◌, slice_index, codes}
use Rattle.std.specs.List.{slice_split}
use Rattle.fsd_bytes.specs.Bytes.{same_bytes}
use Rattle.fsd_bytes.specs.declared.key.Key.{Key}
use Rattle.fsd_bytes.specs.declared.pattern.Pattern.{Pattern}
use Rattle.fsd_bytes.specs.Keys.{max_u32, read_number, read_name, read_key, read_pattern}
use Rattle.fsd_texts.specs.declared.bad_line.Cause.{Cause}
use Rattle.fsd_texts.specs.declared.bad_line.Cause.TheVariants.{LongLine, NoNewline, EmptyLine, UnknownWord, WordCount, BadNumber, BadName, BadKey, BadPattern, ShortBytes, NoNewlineAfterBytes}
use Rattle.fsd_texts.specs.declared.asking.Asking.{Asking}
use Rattle.fsd_texts.specs.declared.asking.Asking.TheVariants.{Plainly, Put, OfClient, Piece}
use Rattle.fsd_texts.specs.declared.call.Call.{Call}
use Rattle.fsd_texts.specs.declared.call.Call.TheVariants as Calls
use Rattle.fsd_texts.specs.declared.command.Command.{Command}
use Rattle.fsd_texts.specs.declared.command.Command.TheVariants as Word
use Rattle.fsd_texts.specs.declared.script_command.ScriptCommand.{ScriptCommand}
use Rattle.fsd_texts.specs.declared.script_command.ScriptCommand.TheVariants as Asked
use Rattle.fsd_texts.specs.declared.end.End.{End}
use Rattle.fsd_texts.specs.declared.end.End.TheVariants.{Done, Bad, TooLong}

-- what follows, unless there is a cause already
infixl 10 ◌>>=◌
abbrev pub ◌>>=◌ : {A B : Type 0} → Result A Cause → (A → Result B Cause) → Result B Cause
(Ok x) >>= f = f x
(Err e) >>= f = Err e

-- ---- lines and words

abbrev pub max_line : ℕ
max_line = 128

-- a line of at most so many bytes, and what follows its newline
abbrev pub line_at : (room : ℕ) → List ℕ → Result (List ℕ × List ℕ) Cause
line_at room [] = Err NoNewline
line_at zero (b ∷ bytes) = if b == 10 then Ok ([], bytes) else Err LongLine
line_at (suc room) (b ∷ bytes) = if b == 10 then Ok ([], bytes) else (line_at room bytes >>= λ x. Ok (b ∷ x.0, x.1))

-- the parts between single spaces, which may be empty
abbrev pub words_of : List ℕ → List (List ℕ)
words_of bytes = slice_split (λ b. b == 32) bytes

-- ---- fields

abbrev pub number_in : List ℕ → Result ℕ Cause
number_in w = ok_or (read_number max_u32 w) BadNumber

abbrev pub name_in : List ℕ → Result (List ℕ) Cause
name_in w = ok_or (read_name w) BadName

abbrev pub key_in : List ℕ → Result Key Cause
key_in w = ok_or (read_key w) BadKey

abbrev pub pattern_in : List ℕ → Result Pattern Cause
pattern_in w = ok_or (read_pattern w) BadPattern

-- ---- what a line asks for

abbrev pub asks_put : List (List ℕ) → Result Asking Cause
asks_put (name ∷ len ∷ []) = do
  n ← name_in name
  l ← number_in len
  Ok (Put n l None)
asks_put (name ∷ len ∷ keep ∷ []) = do
  n ← name_in name
  l ← number_in len
  k ← number_in keep
  Ok (Put n l (Some k))
asks_put other = Err WordCount

abbrev pub asks_keep : List (List ℕ) → Result Asking Cause
asks_keep (name ∷ keep ∷ []) = do
  n ← name_in name
  k ← number_in keep
  Ok (Plainly (Word.Keep n k))
asks_keep other = Err WordCount

abbrev pub asks_move : List (List ℕ) → Result Asking Cause
asks_move (key ∷ name ∷ []) = do
  k ← key_in key
  n ← name_in name
  Ok (Plainly (Word.Move k n))
asks_move other = Err WordCount

abbrev pub with_no_field : Command → List (List ℕ) → Result Asking Cause
with_no_field command [] = Ok (Plainly command)
with_no_field command other = Err WordCount

abbrev pub with_field : {A : Type 0} → (List ℕ → Result A Cause) → (A → Command) → List (List ℕ) → Result Asking Cause
with_field read make (w ∷ []) = read w >>= λ x. Ok (Plainly (make x))
with_field read make other = Err WordCount

-- of a client, whose number is the first field

abbrev pub asks_begin : List (List ℕ) → Result Asking Cause
asks_begin (client ∷ name ∷ len ∷ []) = do
  c ← number_in client
  n ← name_in name
  l ← number_in len
  Ok (OfClient c (Calls.Begin n l))
asks_begin other = Err WordCount

abbrev pub asks_piece : List (List ℕ) → Result Asking Cause
asks_piece (client ∷ len ∷ []) = do
  c ← number_in client
  l ← number_in len
  Ok (Piece c l)
asks_piece other = Err WordCount

abbrev pub call_with_field : {A : Type 0} → (List ℕ → Result A Cause) → (A → Call) → List (List ℕ) → Result Asking Cause
call_with_field read make (client ∷ w ∷ []) = do
  c ← number_in client
  x ← read w
  Ok (OfClient c (make x))
call_with_field read make other = Err WordCount

abbrev pub call_with_none : Call → List (List ℕ) → Result Asking Cause
call_with_none call (client ∷ []) = number_in client >>= λ c. Ok (OfClient c call)
call_with_none call other = Err WordCount

abbrev pub asks_client : List ℕ → List (List ℕ) → Result Asking Cause
asks_client word fields =
    if same_bytes word (codes "begin") then asks_begin fields
    else (if same_bytes word (codes "piece") then asks_piece fields
    else (if same_bytes word (codes "close") then call_with_none Calls.Close fields
    else (if same_bytes word (codes "drop") then call_with_none Calls.Drop fields
    else (if same_bytes word (codes "open") then call_with_field key_in Calls.Open fields
    else (if same_bytes word (codes "next") then call_with_field number_in Calls.Next fields
    else (if same_bytes word (codes "done") then call_with_none Calls.Done fields
    else Err UnknownWord))))))

-- the words that stand alone, and the command of each
abbrev pub lone_words : List (List ℕ × Command)
lone_words = (codes "force", Word.Force) ∷ (codes "tick", Word.Tick) ∷ (codes "stat", Word.Stat) ∷ []

-- the command of the first of these words that this one is
abbrev pub lone_in : List (List ℕ × Command) → List ℕ → Option Command
lone_in [] word = None
lone_in (x ∷ lone) word = if same_bytes word x.0 then Some x.1 else lone_in lone word

-- by a word that stands alone, where it is one
abbrev pub asks_lone : Option Command → List ℕ → List (List ℕ) → Result Asking Cause
asks_lone (Some command) word fields = with_no_field command fields
asks_lone None word fields = asks_client word fields

abbrev pub asks_alone : List ℕ → List (List ℕ) → Result Asking Cause
asks_alone word fields = asks_lone (lone_in lone_words word) word fields

-- by the first word, and the others
abbrev pub asks : List ℕ → List (List ℕ) → Result Asking Cause
asks word fields =
    if same_bytes word (codes "put") then asks_put fields
    else (if same_bytes word (codes "delete") then with_field key_in Word.Delete fields
    else (if same_bytes word (codes "keep") then asks_keep fields
    else (if same_bytes word (codes "move") then asks_move fields
    else (if same_bytes word (codes "list") then with_field pattern_in Word.List fields
    else (if same_bytes word (codes "get") then with_field key_in Word.Get fields
    else asks_alone word fields)))))

-- a line of no bytes has one word of none
abbrev pub asked_by : List (List ℕ) → Result Asking Cause
asked_by [] = Err EmptyLine
asked_by ([] ∷ []) = Err EmptyLine
asked_by (word ∷ fields) = asks word fields

-- ---- the bytes behind a line

-- what is read of a command: it, and the bytes behind it; or why there is none
abbrev pub CommandRead : Type 0
CommandRead = Result (ScriptCommand × List ℕ) Cause

-- so many bytes and a newline, and the command that they make with their line
abbrev pub taking_bytes : (List ℕ → ScriptCommand) → (len : ℕ) → List ℕ → Result (ScriptCommand × List ℕ) Cause
taking_bytes make len rest =
    if nat_le (length rest) len then Err ShortBytes
    else (if slice_index rest len == 10 then Ok (make (take len rest), drop (len + 1) rest) else Err NoNewlineAfterBytes)

abbrev pub whole_command : Asking → List ℕ → Result (ScriptCommand × List ℕ) Cause
whole_command (Plainly command) rest = Ok (Asked.Plain command, rest)
whole_command (Put name len keep) rest = taking_bytes (λ bytes. Asked.Plain (Word.Put name bytes keep)) len rest
whole_command (OfClient client call) rest = Ok (Asked.OfClient client call, rest)
whole_command (Piece client len) rest = taking_bytes (λ bytes. Asked.OfClient client (Calls.Piece bytes)) len rest

-- the command that begins the bytes, and what follows it; or why none does
abbrev pub command_at : List ℕ → Result (ScriptCommand × List ℕ) Cause
command_at bytes = do
  line ← line_at max_line bytes
  asking ← asked_by (words_of line.0)
  whole_command asking line.1

-- ---- scripts

-- the commands, and how they end
abbrev pub Script : Type 0
Script = List ScriptCommand × End

-- one command, and those behind it
abbrev pub then_more : (ordinal : ℕ) → (List ℕ → Script) → Result (ScriptCommand × List ℕ) Cause → Script
then_more ordinal more (Err cause) = ([], Bad (record { line = ordinal; cause = cause }))
then_more ordinal more (Ok x) = (x.0 ∷ (more x.1).0, (more x.1).1)

-- at most so many commands, the first of them with this ordinal
abbrev pub commands_from : (most ordinal : ℕ) → List ℕ → Script
commands_from most ordinal [] = ([], Done)
commands_from zero ordinal (b ∷ bytes) = ([], Done)
commands_from (suc most) ordinal (b ∷ bytes) = then_more ordinal (λ rest. commands_from most (ordinal + 1) rest) (command_at (b ∷ bytes))

-- the commands that the bytes spell; each takes a byte at least
abbrev pub script_of : List ℕ → Script
script_of bytes = commands_from (length bytes) 1 bytes

-- ---- the limit on input

abbrev pub max_input : ℕ
max_input = 2 ^ 24

-- whether one byte more is needed to tell so
abbrev pub ends_early : Cause → Bool
ends_early NoNewline = true
ends_early ShortBytes = true
ends_early other = false

abbrev pub needs_more : End → Bool
needs_more Done = true
needs_more (Bad bad) = ends_early bad.cause
needs_more TooLong = false

-- the script that ends where it needs a byte past the most that is there
abbrev pub ended_at : (most : ℕ) → List ℕ → Script → Script
ended_at most input s = if nat_lt most (length input) && needs_more s.1 then (s.0, TooLong) else s

-- the script that an input is, of which so many bytes may be read, and the first command has this ordinal
abbrev pub script_from : (most ordinal : ℕ) → List ℕ → Script
script_from most ordinal input = ended_at most input (commands_from (length (take most input)) ordinal (take most input))

-- the script that an input is
abbrev pub script_in : List ℕ → Script
script_in input = script_from max_input 1 input
