-- Scripts, and how they end.
use Rattle.std.proofs.Common.{◌≡◌, ℕ, List, [], ◌∷◌, ◌++◌, map, replicate, refl, Some, None, codes}
use Rattle.fsd_bytes.specs.Keys.{key_of}
use Rattle.fsd_texts.specs.declared.bad_line.Cause.{Cause}
use Rattle.fsd_texts.specs.declared.bad_line.Cause.TheVariants as Causes
use Rattle.fsd_texts.specs.declared.call.Call.TheVariants as Calls
use Rattle.fsd_texts.specs.declared.command.Command.TheVariants as Word
use Rattle.fsd_texts.specs.declared.script_command.ScriptCommand.TheVariants.{Plain, OfClient}
use Rattle.fsd_texts.specs.declared.end.End.{End}
use Rattle.fsd_texts.specs.declared.end.End.TheVariants as Ends
use Rattle.fsd_texts.specs.Script.{script_from, script_in, script_of}
use Rattle.fsd_texts.specs.Text.{newline}

abbrev ends_at : ℕ → Cause → End
ends_at ordinal cause = Ends.Bad (record { line = ordinal; cause = cause })

no_input : script_in [] ≡ ([], Ends.Done)
no_input = refl

cut_short : script_in (codes "put a 3" ++ newline ++ codes "xyz" ++ newline ++ codes "put b 10" ++ newline ++ codes "12")
    ≡ (Plain (Word.Put (codes "a") (codes "xyz") None) ∷ [], ends_at 2 Causes.ShortBytes)
cut_short = refl

each_word : script_in (codes "put a 0" ++ newline ++ newline ++ codes "put a 1 7" ++ newline ++ newline ++ newline ++ codes "delete a!1" ++ newline ++ codes "keep a 1000" ++ newline ++ codes "move a!1 b" ++ newline ++ codes "get a!4294967295" ++ newline
    ++ codes "force" ++ newline ++ codes "tick" ++ newline)
    ≡ (
      map (λ command. Plain command) (Word.Put (codes "a") [] None ∷ Word.Put (codes "a") newline (Some 7) ∷ Word.Delete (key_of (codes "a") 1) ∷ Word.Keep (codes "a") 1000 ∷ Word.Move (key_of (codes "a") 1) (codes "b") ∷ Word.Get (key_of (codes "a") 4294967295)
          ∷ Word.Force ∷ Word.Tick ∷ []),
      Ends.Done,
    )
each_word = refl

each_client_word : script_in (codes "begin 1 h 600" ++ newline ++ codes "piece 1 3" ++ newline ++ codes "xyz" ++ newline ++ codes "close 1" ++ newline ++ codes "drop 2" ++ newline ++ codes "open 9 h!1" ++ newline
    ++ codes "next 9 4294967295" ++ newline ++ codes "done 0" ++ newline)
    ≡ (
      OfClient 1 (Calls.Begin (codes "h") 600) ∷ OfClient 1 (Calls.Piece (codes "xyz")) ∷ OfClient 1 Calls.Close ∷ OfClient 2 Calls.Drop ∷ OfClient 9 (Calls.Open (key_of (codes "h") 1)) ∷ OfClient 9 (Calls.Next 4294967295)
          ∷ OfClient 0 Calls.Done ∷ [],
      Ends.Done,
    )
each_client_word = refl

client_lines : map (λ (bytes : List ℕ). (script_of (bytes ++ newline)).1)
    (codes "begin 1 h" ∷ codes "begin h h! 01" ∷ codes "begin 1 h! 01" ∷ codes "begin 1 h 01" ∷ codes "piece 1" ∷ codes "piece h 1" ∷ codes "piece 1 1" ∷ codes "close" ∷ codes "drop h" ∷ codes "open 1 h" ∷ codes "next 1" ∷ codes "done 1 1" ∷ [])
    ≡ map (ends_at 1) (Causes.WordCount ∷ Causes.BadNumber ∷ Causes.BadName ∷ Causes.BadNumber ∷ Causes.WordCount ∷ Causes.BadNumber ∷ Causes.ShortBytes ∷ Causes.WordCount ∷ Causes.BadNumber ∷ Causes.BadKey ∷ Causes.WordCount
    ∷ Causes.WordCount ∷ [])
client_lines = refl

-- what a script of one line ends with
lines : map (λ (bytes : List ℕ). (script_of (bytes ++ newline)).1)
    (replicate 129 97 ∷ [] ∷ replicate 128 97 ∷ codes " tick" ∷ codes "Tick" ∷ codes "scrub" ∷ codes "upgrade v" ∷ codes "tick " ∷ codes "put a" ∷ codes "put a 1 2 3" ∷ codes "put  3" ∷ codes "put a! 01" ∷ codes "put a 4294967296" ∷ codes "put a 1 01"
    ∷ codes "keep a -1" ∷ codes "keep a " ∷ codes "delete a!0" ∷ codes "get a" ∷ codes "list a*b" ∷ codes "put a 1" ∷ [])
    ≡ map (ends_at 1) (Causes.LongLine ∷ Causes.EmptyLine ∷ Causes.UnknownWord ∷ Causes.UnknownWord ∷ Causes.UnknownWord ∷ Causes.UnknownWord ∷ Causes.UnknownWord ∷ Causes.WordCount ∷ Causes.WordCount ∷ Causes.WordCount ∷ Causes.BadName ∷ Causes.BadName
    ∷ Causes.BadNumber ∷ Causes.BadNumber ∷ Causes.BadNumber ∷ Causes.BadNumber ∷ Causes.BadKey ∷ Causes.BadKey ∷ Causes.BadPattern ∷ Causes.ShortBytes ∷ [])
lines = refl

-- of a move the key is read first
move_lines : map (λ (bytes : List ℕ). (script_of (bytes ++ newline)).1) (codes "move a!1" ∷ codes "move a!1 b c" ∷ codes "move a b!" ∷ codes "move a!1 b!" ∷ codes "move a!1 " ∷ [])
    ≡ map (ends_at 1) (Causes.WordCount ∷ Causes.WordCount ∷ Causes.BadKey ∷ Causes.BadName ∷ Causes.BadName ∷ [])
move_lines = refl

-- the same where the input ends inside it, or behind it
inputs : map (λ (bytes : List ℕ). (script_of bytes).1) (replicate 129 97 ∷ replicate 128 97 ∷ codes "xyz" ∷ (codes "put a 1" ++ newline ++ codes "x") ∷ (codes "put a 1" ++ newline ++ codes "xy") ∷ [])
    ≡ map (ends_at 1) (Causes.LongLine ∷ Causes.NoNewline ∷ Causes.NoNewline ∷ Causes.ShortBytes ∷ Causes.NoNewlineAfterBytes ∷ [])
inputs = refl

-- with room for five bytes
limits : map (λ (bytes : List ℕ). script_from 5 1 bytes) ((codes "tick" ++ newline) ∷ (codes "tick" ++ newline ++ codes "x") ∷ codes "force" ∷ (codes "force" ++ newline) ∷ (codes "nil" ++ newline ++ codes "tick") ∷ [])
    ≡ (Plain Word.Tick ∷ [], Ends.Done) ∷ (Plain Word.Tick ∷ [], Ends.TooLong) ∷ ([], ends_at 1 Causes.NoNewline) ∷ ([], Ends.TooLong) ∷ ([], ends_at 1 Causes.UnknownWord) ∷ []
limits = refl
