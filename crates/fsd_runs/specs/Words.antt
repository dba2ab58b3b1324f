-- What the words of the command line ask for. Which words the command set has, and which argument each word is, are
-- `clap`'s own definitions of a simple command; then each field is read.
use Rattle.std.specs.Prelude.{ℕ, ◌-◌, ◌^◌, ◌==◌, true, false, List, [], ◌∷◌, Option, Some, None, unwrap_or, Result, Ok, Err, ok_or, codes, if◌then◌else◌}
use Rattle.clap.specs.Simple.{App, Shape, new_rule, new_shape, subcommand_of}
use Rattle.clap.specs.Takes.{takes}
use Rattle.clap.specs.Walk.{Rule, Row, Text, first_of}
use Rattle.volume_layout.specs.declared.kind.Kind.{Kind}
use Rattle.volume_layout.specs.declared.kind.Kind.TheVariants.{Two, Three}
use Rattle.fsd_bytes.specs.Bytes.{same_bytes}
use Rattle.fsd_bytes.specs.Keys.{read_number}
use Rattle.fsd_texts.specs.declared.bad_line.Cause.{Cause}
use Rattle.fsd_texts.specs.declared.bad_line.Cause.TheVariants.{BadNumber}
use Rattle.fsd_texts.specs.declared.command.Command.TheVariants as Word
use Rattle.fsd_texts.specs.Script.{◌>>=◌, number_in, name_in, key_in, pattern_in}
use Rattle.fsd_runs.specs.declared.request.Request.{Request}
use Rattle.fsd_runs.specs.declared.request.Request.TheVariants.{NoCommand, BadField, Format, Put, One, Script, Generate, Dump, Restore, Drill}

-- ---- the command set

-- a word that has to be there
abbrev pub positional : Text → Rule
positional id = record (new_rule id) { required = true }

-- an option with a value, as `--keep K`, `--layout V`, `--most Q` and `--bytes B`
abbrev pub option : Text → Rule
option id = record (new_rule id) { long = Some id }

abbrev pub subcommand : Text → List Rule → Shape
subcommand name rules = record (new_shape name) { rules = rules }

abbrev pub image : Rule
image = positional (codes "image")

-- in the order of the rows that the program tells `clap`: the contract of its `command_set` says that the two are one
abbrev pub cfs : App
cfs = record {
  top = record (new_shape (codes "cfs")) { is_leaf = false };
  subs = subcommand (codes "format") (image ∷ positional (codes "n") ∷ positional (codes "t") ∷ positional (codes "p") ∷ option (codes "layout") ∷ option (codes "most") ∷ [])
      ∷ subcommand (codes "put") (image ∷ positional (codes "name") ∷ option (codes "keep") ∷ [])
      ∷ subcommand (codes "get") (image ∷ positional (codes "key") ∷ [])
      ∷ subcommand (codes "list") (image ∷ positional (codes "pat") ∷ [])
      ∷ subcommand (codes "delete") (image ∷ positional (codes "key") ∷ [])
      ∷ subcommand (codes "keep") (image ∷ positional (codes "name") ∷ positional (codes "k") ∷ [])
      ∷ subcommand (codes "move") (image ∷ positional (codes "key") ∷ positional (codes "name") ∷ [])
      ∷ subcommand (codes "stat") (image ∷ [])
      ∷ subcommand (codes "scrub") (image ∷ [])
      ∷ subcommand (codes "upgrade") (image ∷ [])
      ∷ subcommand (codes "grow") (image ∷ positional (codes "n") ∷ [])
      ∷ subcommand (codes "dump") (image ∷ positional (codes "e") ∷ positional (codes "c") ∷ option (codes "bytes") ∷ [])
      ∷ subcommand (codes "restore") (image ∷ [])
      ∷ subcommand (codes "script") (image ∷ [])
      ∷ subcommand (codes "generate") (image ∷ positional (codes "seed") ∷ positional (codes "count") ∷ [])
      ∷ subcommand (codes "drill") []
      ∷ [];
}

-- ---- the fields

abbrev pub field : Text → List Row → List ℕ
field id rows = unwrap_or (first_of id rows) []

abbrev pub max_u64 : ℕ
max_u64 = 2 ^ 64 - 1

abbrev pub seed_in : List ℕ → Result ℕ Cause
seed_in w = ok_or (read_number max_u64 w) BadNumber

-- the number of an option, where that is given
abbrev pub if_given : Option (List ℕ) → Result (Option ℕ) Cause
if_given None = Ok None
if_given (Some w) = number_in w >>= λ n. Ok (Some n)

-- of the layout with this number
abbrev pub kind_numbered : ℕ → Result Kind Cause
kind_numbered number = if number == 1 then Ok Two else (if number == 2 then Ok Three else Err BadNumber)

-- without a number it is layout 1
abbrev pub layout_in : Option (List ℕ) → Result Kind Cause
layout_in None = Ok Two
layout_in (Some w) = number_in w >>= kind_numbered

abbrev pub reads_format : List Row → Result Request Cause
reads_format rows = do
  n ← number_in (field (codes "n") rows)
  t ← number_in (field (codes "t") rows)
  p ← number_in (field (codes "p") rows)
  kind ← layout_in (first_of (codes "layout") rows)
  most ← if_given (first_of (codes "most") rows)
  Ok (Format n t p kind (unwrap_or most 0))

abbrev pub reads_put : List Row → Result Request Cause
reads_put rows = do
  name ← name_in (field (codes "name") rows)
  keep ← if_given (first_of (codes "keep") rows)
  Ok (Put name keep)

abbrev pub reads_keep : List Row → Result Request Cause
reads_keep rows = do
  name ← name_in (field (codes "name") rows)
  keep ← number_in (field (codes "k") rows)
  Ok (One (Word.Keep name keep))

abbrev pub reads_move : List Row → Result Request Cause
reads_move rows = do
  key ← key_in (field (codes "key") rows)
  name ← name_in (field (codes "name") rows)
  Ok (One (Word.Move key name))

abbrev pub reads_dump : List Row → Result Request Cause
reads_dump rows = do
  e ← number_in (field (codes "e") rows)
  c ← number_in (field (codes "c") rows)
  most ← if_given (first_of (codes "bytes") rows)
  Ok (Dump (record { epoch = e; count = c }) most)

abbrev pub reads_generate : List Row → Result Request Cause
reads_generate rows = do
  seed ← seed_in (field (codes "seed") rows)
  count ← number_in (field (codes "count") rows)
  Ok (Generate seed count)

-- the fields of a subcommand, from the left
abbrev pub reads_fields : Text → List Row → Result Request Cause
reads_fields name rows =
    if same_bytes name (codes "format") then reads_format rows
    else (if same_bytes name (codes "put") then reads_put rows
    else (if same_bytes name (codes "get") then (key_in (field (codes "key") rows) >>= λ key. Ok (One (Word.Get key)))
    else (if same_bytes name (codes "list") then (pattern_in (field (codes "pat") rows) >>= λ pattern. Ok (One (Word.List pattern)))
    else (if same_bytes name (codes "delete") then (key_in (field (codes "key") rows) >>= λ key. Ok (One (Word.Delete key)))
    else (if same_bytes name (codes "keep") then reads_keep rows
    else (if same_bytes name (codes "move") then reads_move rows
    else (if same_bytes name (codes "stat") then Ok (One Word.Stat)
    else (if same_bytes name (codes "scrub") then Ok (One Word.Scrub)
    else (if same_bytes name (codes "upgrade") then Ok (One Word.Upgrade)
    else (if same_bytes name (codes "grow") then (number_in (field (codes "n") rows) >>= λ n. Ok (One (Word.Grow n)))
    else (if same_bytes name (codes "dump") then reads_dump rows
    else (if same_bytes name (codes "restore") then Ok Restore
    else (if same_bytes name (codes "script") then Ok Script
    else (if same_bytes name (codes "generate") then reads_generate rows
    else (if same_bytes name (codes "drill") then Ok Drill
    else Ok NoCommand)))))))))))))))

-- ---- the words

abbrev pub or_bad_field : Result Request Cause → Request
or_bad_field (Ok request) = request
or_bad_field (Err cause) = BadField cause

abbrev pub entered_request : Option (Text × List Row) → Request
entered_request None = NoCommand
entered_request (Some x) = or_bad_field (reads_fields x.0 x.1)

-- what the words ask for; the program's name stands first
abbrev pub request_of : List (List ℕ) → Request
request_of words = if takes cfs words then entered_request (subcommand_of cfs words) else NoCommand

abbrev pub image_word : Option (Text × List Row) → List ℕ
image_word None = []
image_word (Some x) = field (codes "image") x.1

-- the image that the words name, where they are of the command set
abbrev pub path_of : List (List ℕ) → List ℕ
path_of words = if takes cfs words then image_word (subcommand_of cfs words) else []
