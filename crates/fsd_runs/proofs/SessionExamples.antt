-- Worked examples of sessions with clients, computed.
use Rattle.std.proofs.Common.{◌≡◌, ℕ, List, [], ◌∷◌, ◌++◌, map, None, refl, codes}
use Rattle.std.specs.Fmt.{digits}
use Rattle.std.specs.Prelude.{false, true}
use Rattle.fsd_bytes.specs.Keys.{key_of}
use Rattle.run_table.specs.RunTable.{run_of}
use Rattle.fsd_files.specs.Desk.{Session}
use Rattle.fsd_files.specs.Files.{Change}
use Rattle.fsd_files.specs.declared.reply.Reply.TheVariants.{Made}
use Rattle.fsd_texts.specs.declared.call.Call.TheVariants as Calls
use Rattle.fsd_texts.specs.declared.command.Command.TheVariants as Word
use Rattle.fsd_texts.specs.declared.script_command.ScriptCommand.TheVariants.{Plain, OfClient}
use Rattle.fsd_texts.specs.Script.{script_in}
use Rattle.fsd_texts.specs.Text.{newline}
use Rattle.fsd_runs.specs.Errands.{scripted}
use Rattle.fsd_runs.specs.Runs.{session_behind, said_in, turns_of}
use Rattle.fsd_runs.specs.Sessions.{Meeting, changes_in_session, finished, may_wear_out_in, session_over}
use Rattle.fsd_runs.proofs.Plain.{default, finds_922, lines, meets, no_reader, plain, script_says}

abbrev said_with : List Meeting → List ℕ → List ℕ
said_with xs input = said_in (turns_of (scripted (script_in input)) xs (session_over default))

-- a version in pieces, too few of them and then too many
makes_in_pieces : script_says default (codes "begin 1 h 5" ++ newline ++ codes "piece 1 3" ++ newline ++ codes "abc" ++ newline ++ codes "close 1" ++ newline ++ codes "piece 1 3" ++ newline ++ codes "def" ++ newline
    ++ codes "piece 1 2" ++ newline ++ codes "de" ++ newline ++ codes "close 1" ++ newline ++ codes "close 1" ++ newline ++ codes "begin 9 h 0" ++ newline)
    ≡ lines (codes "begun 1" ∷ codes "took 1 3" ∷ codes "refused short 5 3" ∷ codes "refused long 5 6" ∷ codes "took 1 5" ∷ codes "made h!1 2" ∷ codes "refused idle 1" ∷ codes "refused client 9" ∷ codes "forced" ∷ [])
unfolding digits
makes_in_pieces = refl

abbrev a_is_read : Meeting
a_is_read = record { met = plain; held = (run_of 921 2 ∷ []) ∷ [] }

-- a damaged sector is told, and the client goes on where it was
damaged_as_it_is_read : said_with (no_reader ∷ a_is_read ∷ meets finds_922 ∷ no_reader ∷ []) (lines (codes "put a 2" ∷ codes "xy" ∷ codes "open 8 a!1" ∷ codes "next 8 1" ∷ codes "next 8 9" ∷ []))
    ≡ lines (codes "made a!1 2" ∷ codes "opened 8 2" ∷ codes "damaged a!1 922" ∷ codes "next 8 2" ∷ codes "xy" ∷ codes "forced" ∷ [])
unfolding digits
damaged_as_it_is_read = refl

-- ---- what is changed

abbrev two_bytes : Session
two_bytes = session_behind (no_reader ∷ no_reader ∷ []) (session_over default) (OfClient 2 (Calls.Begin (codes "h") 2) ∷ OfClient 2 (Calls.Piece (codes "xy")) ∷ [])

-- a client's version is a put of all its bytes
closes : changes_in_session two_bytes (OfClient 2 Calls.Close) (Made (key_of (codes "h") 1) 2) ≡ Change.Put (codes "h") None (codes "xy") ∷ []
closes = refl

-- a mount that is worn out refuses this, and no client's call beside
worn_calls : map (λ command. may_wear_out_in two_bytes command)
    (OfClient 1 (Calls.Begin (codes "h") 2) ∷ OfClient 2 (Calls.Begin (codes "h") 2) ∷ OfClient 1 (Calls.Begin (codes "h") 4193793) ∷ OfClient 2 Calls.Close ∷ OfClient 1 Calls.Close ∷ OfClient 9 Calls.Close ∷ OfClient 2 (Calls.Piece [])
    ∷ OfClient 2 Calls.Drop ∷ Plain Word.Tick ∷ [])
    ≡ true ∷ false ∷ false ∷ true ∷ false ∷ false ∷ false ∷ false ∷ false ∷ []
worn_calls = refl

-- behind the end nothing waits for a client
nothing_is_open : (finished two_bytes).volume.drafts ≡ []
nothing_is_open = refl
