-- Worked examples of the words of the command line, computed.
use Rattle.std.proofs.Common.{◌≡◌, [], ◌∷◌, Some, None, refl, codes}
use Rattle.clap.proofs.OnLiterals.{clap_on_literals}
use Rattle.volume_layout.specs.declared.kind.Kind.TheVariants.{Two, Three}
use Rattle.fsd_bytes.specs.Keys.{key_of}
use Rattle.fsd_bytes.specs.declared.pattern.Pattern.TheVariants.{Prefix}
use Rattle.fsd_texts.specs.declared.bad_line.Cause.TheVariants.{BadNumber, BadName, BadKey}
use Rattle.fsd_texts.specs.declared.command.Command.TheVariants as Word
use Rattle.fsd_runs.specs.declared.request.Request.TheVariants.{NoCommand, BadField, Format, Put, One, Script, Generate, Dump, Restore, Drill}
use Rattle.fsd_runs.specs.Words.{request_of, path_of}

formats : request_of (codes "cfs" ∷ codes "format" ∷ codes "v" ∷ codes "2048" ∷ codes "256" ∷ codes "64" ∷ []) ≡ Format 2048 256 64 Two 0
unfolding clap_on_literals
formats = refl

formats_to_grow : request_of (codes "cfs" ∷ codes "format" ∷ codes "v" ∷ codes "2048" ∷ codes "256" ∷ codes "64" ∷ codes "--most" ∷ codes "8000" ∷ []) ≡ Format 2048 256 64 Two 8000
unfolding clap_on_literals
formats_to_grow = refl

formats_layout_2 : request_of (codes "cfs" ∷ codes "format" ∷ codes "v" ∷ codes "2048" ∷ codes "256" ∷ codes "64" ∷ codes "--layout" ∷ codes "2" ∷ []) ≡ Format 2048 256 64 Three 0
unfolding clap_on_literals
formats_layout_2 = refl

formats_layout_1 : request_of (codes "cfs" ∷ codes "format" ∷ codes "--layout=1" ∷ codes "v" ∷ codes "2048" ∷ codes "256" ∷ codes "64" ∷ []) ≡ Format 2048 256 64 Two 0
unfolding clap_on_literals
formats_layout_1 = refl

-- no other layout is there
no_layout_3 : request_of (codes "cfs" ∷ codes "format" ∷ codes "v" ∷ codes "2048" ∷ codes "256" ∷ codes "64" ∷ codes "--layout" ∷ codes "3" ∷ []) ≡ BadField BadNumber
unfolding clap_on_literals
no_layout_3 = refl

no_layout_of_a_name : request_of (codes "cfs" ∷ codes "format" ∷ codes "v" ∷ codes "2048" ∷ codes "256" ∷ codes "64" ∷ codes "--layout" ∷ codes "two" ∷ []) ≡ BadField BadNumber
unfolding clap_on_literals
no_layout_of_a_name = refl

layout_twice : request_of (codes "cfs" ∷ codes "format" ∷ codes "v" ∷ codes "2048" ∷ codes "256" ∷ codes "64" ∷ codes "--layout" ∷ codes "1" ∷ codes "--layout" ∷ codes "2" ∷ []) ≡ NoCommand
unfolding clap_on_literals
layout_twice = refl

puts : request_of (codes "cfs" ∷ codes "put" ∷ codes "v" ∷ codes "a" ∷ []) ≡ Put (codes "a") None
unfolding clap_on_literals
puts = refl

puts_and_keeps : request_of (codes "cfs" ∷ codes "put" ∷ codes "v" ∷ codes "a" ∷ codes "--keep" ∷ codes "7" ∷ []) ≡ Put (codes "a") (Some 7)
unfolding clap_on_literals
puts_and_keeps = refl

-- the option may stand in front, and with `=`
keeps_first : request_of (codes "cfs" ∷ codes "put" ∷ codes "--keep=7" ∷ codes "v" ∷ codes "a" ∷ []) ≡ Put (codes "a") (Some 7)
unfolding clap_on_literals
keeps_first = refl

the_image : path_of (codes "cfs" ∷ codes "put" ∷ codes "--keep=7" ∷ codes "v" ∷ codes "a" ∷ []) ≡ codes "v"
unfolding clap_on_literals
the_image = refl

unknown_word : request_of (codes "cfs" ∷ codes "frob" ∷ codes "v" ∷ []) ≡ NoCommand
unfolding clap_on_literals
unknown_word = refl

no_word : request_of (codes "cfs" ∷ []) ≡ NoCommand
unfolding clap_on_literals
no_word = refl

no_name : request_of [] ≡ NoCommand
unfolding clap_on_literals
no_name = refl

asks_for_help : request_of (codes "cfs" ∷ codes "help" ∷ []) ≡ NoCommand
unfolding clap_on_literals
asks_for_help = refl

asks_for_help_of_one : request_of (codes "cfs" ∷ codes "get" ∷ codes "--help" ∷ []) ≡ NoCommand
unfolding clap_on_literals
asks_for_help_of_one = refl

too_few : request_of (codes "cfs" ∷ codes "get" ∷ codes "v" ∷ []) ≡ NoCommand
unfolding clap_on_literals
too_few = refl

too_many : request_of (codes "cfs" ∷ codes "scrub" ∷ codes "v" ∷ codes "w" ∷ []) ≡ NoCommand
unfolding clap_on_literals
too_many = refl

-- the option is a put's alone
keeps_elsewhere : request_of (codes "cfs" ∷ codes "get" ∷ codes "v" ∷ codes "a!1" ∷ codes "--keep" ∷ codes "7" ∷ []) ≡ NoCommand
unfolding clap_on_literals
keeps_elsewhere = refl

gets : request_of (codes "cfs" ∷ codes "get" ∷ codes "v" ∷ codes "a!1" ∷ []) ≡ One (Word.Get (key_of (codes "a") 1))
unfolding clap_on_literals
gets = refl

lists : request_of (codes "cfs" ∷ codes "list" ∷ codes "v" ∷ codes "*" ∷ []) ≡ One (Word.List (Prefix []))
unfolding clap_on_literals
lists = refl

keeps : request_of (codes "cfs" ∷ codes "keep" ∷ codes "v" ∷ codes "a" ∷ codes "1000" ∷ []) ≡ One (Word.Keep (codes "a") 1000)
unfolding clap_on_literals
keeps = refl

moves : request_of (codes "cfs" ∷ codes "move" ∷ codes "v" ∷ codes "a!1" ∷ codes "b" ∷ []) ≡ One (Word.Move (key_of (codes "a") 1) (codes "b"))
unfolding clap_on_literals
moves = refl

-- from a key to a name, and not from a name to a key
moves_a_name : request_of (codes "cfs" ∷ codes "move" ∷ codes "v" ∷ codes "a" ∷ codes "b!1" ∷ []) ≡ BadField BadKey
unfolding clap_on_literals
moves_a_name = refl

moves_to_a_key : request_of (codes "cfs" ∷ codes "move" ∷ codes "v" ∷ codes "a!1" ∷ codes "b!1" ∷ []) ≡ BadField BadName
unfolding clap_on_literals
moves_to_a_key = refl

scripts : request_of (codes "cfs" ∷ codes "script" ∷ codes "v" ∷ []) ≡ Script
unfolding clap_on_literals
scripts = refl

generates : request_of (codes "cfs" ∷ codes "generate" ∷ codes "v" ∷ codes "18446744073709551615" ∷ codes "1" ∷ []) ≡ Generate 18446744073709551615 1
unfolding clap_on_literals
generates = refl

bad_key : request_of (codes "cfs" ∷ codes "get" ∷ codes "v" ∷ codes "a!0" ∷ []) ≡ BadField BadKey
unfolding clap_on_literals
bad_key = refl

-- the first field from the left
bad_name : request_of (codes "cfs" ∷ codes "put" ∷ codes "v" ∷ codes "a b" ∷ codes "--keep" ∷ codes "x" ∷ []) ≡ BadField BadName
unfolding clap_on_literals
bad_name = refl

bad_keep : request_of (codes "cfs" ∷ codes "put" ∷ codes "v" ∷ codes "a" ∷ codes "--keep" ∷ codes "01" ∷ []) ≡ BadField BadNumber
unfolding clap_on_literals
bad_keep = refl

-- ---- where the option may stand

keeps_between : request_of (codes "cfs" ∷ codes "put" ∷ codes "v" ∷ codes "--keep" ∷ codes "7" ∷ codes "a" ∷ []) ≡ Put (codes "a") (Some 7)
unfolding clap_on_literals
keeps_between = refl

-- it comes once
keeps_twice : request_of (codes "cfs" ∷ codes "put" ∷ codes "v" ∷ codes "a" ∷ codes "--keep" ∷ codes "7" ∷ codes "--keep" ∷ codes "7" ∷ []) ≡ NoCommand
unfolding clap_on_literals
keeps_twice = refl

-- it has a value
keeps_nothing : request_of (codes "cfs" ∷ codes "put" ∷ codes "v" ∷ codes "a" ∷ codes "--keep" ∷ []) ≡ NoCommand
unfolding clap_on_literals
keeps_nothing = refl

-- which may not begin as an option does
keeps_minus : request_of (codes "cfs" ∷ codes "put" ∷ codes "v" ∷ codes "a" ∷ codes "--keep" ∷ codes "-1" ∷ []) ≡ NoCommand
unfolding clap_on_literals
keeps_minus = refl

keeps_is_minus : request_of (codes "cfs" ∷ codes "put" ∷ codes "v" ∷ codes "a" ∷ codes "--keep=-1" ∷ []) ≡ BadField BadNumber
unfolding clap_on_literals
keeps_is_minus = refl

-- behind `--` all words are positionals
names_behind_dashes : request_of (codes "cfs" ∷ codes "put" ∷ codes "v" ∷ codes "--" ∷ codes "--keep" ∷ []) ≡ Put (codes "--keep") None
unfolding clap_on_literals
names_behind_dashes = refl

no_name_with_a_dash : request_of (codes "cfs" ∷ codes "put" ∷ codes "v" ∷ codes "-a" ∷ []) ≡ NoCommand
unfolding clap_on_literals
no_name_with_a_dash = refl

-- the image is any text, no text too
no_image : request_of (codes "cfs" ∷ codes "scrub" ∷ [] ∷ []) ≡ One Word.Scrub
unfolding clap_on_literals
no_image = refl

-- help is asked for by any of these
asks_for_help_by_one_letter : request_of (codes "cfs" ∷ codes "-h" ∷ []) ≡ NoCommand
unfolding clap_on_literals
asks_for_help_by_one_letter = refl

asks_for_help_of_a_word : request_of (codes "cfs" ∷ codes "help" ∷ codes "put" ∷ []) ≡ NoCommand
unfolding clap_on_literals
asks_for_help_of_a_word = refl

asks_for_help_with_all : request_of (codes "cfs" ∷ codes "get" ∷ codes "v" ∷ codes "a!1" ∷ codes "--help" ∷ []) ≡ NoCommand
unfolding clap_on_literals
asks_for_help_with_all = refl

a_scrub : request_of (codes "cfs" ∷ codes "scrub" ∷ codes "v" ∷ []) ≡ One Word.Scrub
unfolding clap_on_literals
a_scrub = refl

an_upgrade : request_of (codes "cfs" ∷ codes "upgrade" ∷ codes "v" ∷ []) ≡ One Word.Upgrade
unfolding clap_on_literals
an_upgrade = refl

-- it names no layout
upgrades_to_2_alone : request_of (codes "cfs" ∷ codes "upgrade" ∷ codes "v" ∷ codes "--layout" ∷ codes "2" ∷ []) ≡ NoCommand
unfolding clap_on_literals
upgrades_to_2_alone = refl

a_growth : request_of (codes "cfs" ∷ codes "grow" ∷ codes "v" ∷ codes "3968" ∷ []) ≡ One (Word.Grow 3968)
unfolding clap_on_literals
a_growth = refl

a_growth_to_no_number : request_of (codes "cfs" ∷ codes "grow" ∷ codes "v" ∷ codes "all" ∷ []) ≡ BadField BadNumber
unfolding clap_on_literals
a_growth_to_no_number = refl

dumps : request_of (codes "cfs" ∷ codes "dump" ∷ codes "v" ∷ codes "2" ∷ codes "1" ∷ []) ≡ Dump (record { epoch = 2; count = 1 }) None
unfolding clap_on_literals
dumps = refl

dumps_so_many_bytes : request_of (codes "cfs" ∷ codes "dump" ∷ codes "v" ∷ codes "2" ∷ codes "1" ∷ codes "--bytes" ∷ codes "100" ∷ []) ≡ Dump (record { epoch = 2; count = 1 }) (Some 100)
unfolding clap_on_literals
dumps_so_many_bytes = refl

dumps_past_the_bytes : request_of (codes "cfs" ∷ codes "dump" ∷ codes "v" ∷ codes "2" ∷ codes "1" ∷ codes "--bytes=4294967296" ∷ []) ≡ BadField BadNumber
unfolding clap_on_literals
dumps_past_the_bytes = refl

-- both numbers have to be there
dumps_of_one_number : request_of (codes "cfs" ∷ codes "dump" ∷ codes "v" ∷ codes "2" ∷ []) ≡ NoCommand
unfolding clap_on_literals
dumps_of_one_number = refl

dumps_past_the_numbers : request_of (codes "cfs" ∷ codes "dump" ∷ codes "v" ∷ codes "0" ∷ codes "4294967296" ∷ []) ≡ BadField BadNumber
unfolding clap_on_literals
dumps_past_the_numbers = refl

restores : request_of (codes "cfs" ∷ codes "restore" ∷ codes "v" ∷ []) ≡ Restore
unfolding clap_on_literals
restores = refl

-- the dump is the input, and no word of the line
restores_of_two : request_of (codes "cfs" ∷ codes "restore" ∷ codes "v" ∷ codes "w" ∷ []) ≡ NoCommand
unfolding clap_on_literals
restores_of_two = refl

-- a drill names no image
drills : request_of (codes "cfs" ∷ codes "drill" ∷ []) ≡ Drill
unfolding clap_on_literals
drills = refl

drills_on_none : path_of (codes "cfs" ∷ codes "drill" ∷ []) ≡ []
unfolding clap_on_literals
drills_on_none = refl

drills_alone : request_of (codes "cfs" ∷ codes "drill" ∷ codes "v" ∷ []) ≡ NoCommand
unfolding clap_on_literals
drills_alone = refl
