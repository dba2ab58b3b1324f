-- Worked examples of scripts, computed.
use Rattle.std.proofs.Common.{◌≡◌, [], ◌∷◌, ◌++◌, map, Some, None, refl, codes}
use Rattle.std.specs.Fmt.{digits}
use Rattle.std.specs.Prelude.{replicate}
use Rattle.fsd_bytes.specs.declared.refusal.Refusal.TheVariants.{TooLong, NoSpace}
use Rattle.fsd_bytes.specs.Keys.{key_of}
use Rattle.volume_layout.specs.declared.kind.Kind.TheVariants.{Three}
use Rattle.volume_layout.specs.Layout.{with_kind}
use Rattle.run_table.specs.RunTable.{run_of}
use Rattle.fsd_files.specs.Answers.{Met, no_place, size_fault}
use Rattle.fsd_files.specs.Volume.{Volume, free_count}
use Rattle.fsd_texts.specs.declared.command.Command.TheVariants as Word
use Rattle.fsd_texts.specs.Text.{newline}
use Rattle.fsd_runs.specs.Commands.{answer, reply_status}
use Rattle.fsd_runs.specs.Errands.{errand_alone}
use Rattle.fsd_runs.specs.Runs.{said_in}
use Rattle.fsd_runs.proofs.Plain.{behind, default, lines, plain, says, script_says, turns_on}

fresh_count : free_count default ≡ 1127
fresh_count = refl

first_put : says (errand_alone (Word.Put (codes "a") [] None)) default ≡ lines (codes "made a!1 1" ∷ [])
unfolding digits
first_put = refl

-- 512 bytes are one slice, and one byte more is of two
slices_of_512 : script_says default (codes "put b 512" ++ newline ++ replicate 512 7 ++ newline ++ codes "put b 513" ++ newline ++ replicate 513 7 ++ newline) ≡ lines (codes "made b!1 2" ∷ codes "made b!2 3" ∷ codes "forced" ∷ [])
unfolding digits
slices_of_512 = refl

places_of_512 : map (λ e. e.runs) (behind default (Word.Put (codes "b") (replicate 512 7) None ∷ Word.Put (codes "b") (replicate 513 7) None ∷ [])).entries ≡ (run_of 921 2 ∷ []) ∷ (run_of 923 3 ∷ []) ∷ []
places_of_512 = refl

too_long : size_fault 0 4193793 ≡ Some (TooLong 4193793)
too_long = refl

no_space : no_place default 8192 ≡ NoSpace 8192 1127
no_space = refl

-- d!1 waits, so e!1 takes the next place
abbrev two_files : Volume
two_files = behind default (Word.Put (codes "d") (codes "x") (Some 1) ∷ Word.Force ∷ Word.Delete (key_of (codes "d") 1) ∷ Word.Put (codes "e") (codes "y") (Some 1) ∷ [])

places_after_delete : map (λ e. e.runs) two_files.entries ≡ (run_of 923 2 ∷ []) ∷ []
places_after_delete = refl

removed_waits : two_files.removed ≡ 921 ∷ 922 ∷ []
removed_waits = refl

-- what was read whole before is carried out
short_bytes : script_says default (codes "put a 3" ++ newline ++ codes "xyz" ++ newline ++ codes "put b 10" ++ newline ++ codes "12") ≡ lines (codes "made a!1 2" ∷ codes "forced" ∷ codes "bad line 2: short bytes" ∷ [])
unfolding digits
short_bytes = refl

nothing_at_all : script_says default [] ≡ lines (codes "forced" ∷ [])
unfolding digits
nothing_at_all = refl

keeps_and_lists : script_says default (lines (codes "put a 1 7" ∷ codes "x" ∷ codes "put b/c 0" ∷ codes "" ∷ codes "keep a 3" ∷ codes "list *" ∷ codes "list b*" ∷ codes "list a" ∷ codes "get a!1" ∷ codes "delete a!1" ∷ codes "get a!1" ∷ codes "keep a 1000" ∷ codes "keep a 999" ∷ codes "tick" ∷ []))
    ≡ lines (codes "made a!1 2" ∷ codes "made b/c!1 1" ∷ codes "kept a!1 3" ∷ codes "a!1 1 2 3" ∷ codes "b/c!1 0 1 2" ∷ codes "listed 2" ∷ codes "b/c!1 0 1 2" ∷ codes "listed 1" ∷ codes "a!1 1 2 3" ∷ codes "listed 1"
    ∷ codes "bytes a!1 1" ∷ codes "x" ∷ codes "deleted a!1" ∷ codes "refused no-such" ∷ codes "refused keep 1000" ∷ codes "refused no-such" ∷ codes "forced" ∷ codes "forced" ∷ [])
unfolding digits
keeps_and_lists = refl

-- a get by itself says the bytes alone
bytes_alone : says (errand_alone (Word.Get (key_of (codes "a") 1))) (behind default (Word.Put (codes "a") (codes "hi") None ∷ [])) ≡ codes "hi"
bytes_alone = refl

-- a scrub by itself names the damaged data sectors by key, and counts what it has healed
abbrev scrub_met : Met
scrub_met = record plain { found = (key_of (codes "g") 1, 923) ∷ []; healed = 1 }

scrub_says : said_in (turns_on (errand_alone Word.Scrub) (scrub_met ∷ []) default) ≡ lines (codes "damaged g!1 923" ∷ codes "scrubbed healed 1 damaged 1" ∷ [])
unfolding digits
scrub_says = refl

scrub_status : reply_status (answer scrub_met default Word.Scrub).0 ≡ 8
scrub_status = refl

scrub_well : reply_status (answer plain default Word.Scrub).0 ≡ 0
scrub_well = refl

-- a volume of layout 1 is one of layout 2 then, the same but for that, and is upgraded once
abbrev three : Volume
three = record default { layout = with_kind Three default.layout }

upgrade_says : says (errand_alone Word.Upgrade) default ≡ lines (codes "upgraded 2" ∷ [])
unfolding digits
upgrade_says = refl

upgrade_leaves : (answer plain default Word.Upgrade).1 ≡ three
upgrade_leaves = refl

upgraded_already : says (errand_alone Word.Upgrade) three ≡ lines (codes "refused layout 2" ∷ [])
unfolding digits
upgraded_already = refl

-- it grows to the sectors that its map has bits for
grow_says : map (λ n. says (errand_alone (Word.Grow n)) default) (3969 ∷ 2048 ∷ 3968 ∷ [])
    ≡ map lines ((codes "refused most 3968" ∷ []) ∷ (codes "refused size 2048" ∷ []) ∷ (codes "grown 3968 free 3047" ∷ []) ∷ [])
unfolding digits
grow_says = refl

upgrade_status : map (λ v. reply_status (answer plain v Word.Upgrade).0) (default ∷ three ∷ []) ≡ 0 ∷ 1 ∷ []
upgrade_status = refl

-- ---- lines that are no commands

bad_unknown_word : script_says default (codes " tick" ++ newline) ≡ lines (codes "forced" ∷ codes "bad line 1: unknown word" ∷ [])
unfolding digits
bad_unknown_word = refl

bad_word_count : script_says default (codes "tick x" ++ newline) ≡ lines (codes "forced" ∷ codes "bad line 1: word count" ∷ [])
unfolding digits
bad_word_count = refl

bad_name : script_says default (codes "put  a 1" ++ newline) ≡ lines (codes "forced" ∷ codes "bad line 1: bad name" ∷ [])
unfolding digits
bad_name = refl

bad_number : script_says default (codes "put a 01" ++ newline) ≡ lines (codes "forced" ∷ codes "bad line 1: bad number" ∷ [])
unfolding digits
bad_number = refl

bad_key : script_says default (codes "get a!0" ++ newline) ≡ lines (codes "forced" ∷ codes "bad line 1: bad key" ∷ [])
unfolding digits
bad_key = refl

bad_pattern : script_says default (codes "list *a" ++ newline) ≡ lines (codes "forced" ∷ codes "bad line 1: bad pattern" ∷ [])
unfolding digits
bad_pattern = refl

bad_long_line : script_says default (replicate 129 97) ≡ lines (codes "forced" ∷ codes "bad line 1: long line" ∷ [])
unfolding digits
bad_long_line = refl

-- 128 bytes are a line, whatever comes of it
long_enough : script_says default (replicate 128 97 ++ newline) ≡ lines (codes "forced" ∷ codes "bad line 1: unknown word" ∷ [])
unfolding digits
long_enough = refl

bad_empty_line : script_says default newline ≡ lines (codes "forced" ∷ codes "bad line 1: empty line" ∷ [])
unfolding digits
bad_empty_line = refl

bad_no_newline : script_says default (codes "tick") ≡ lines (codes "forced" ∷ codes "bad line 1: no newline" ∷ [])
unfolding digits
bad_no_newline = refl

bad_after_bytes : script_says default (codes "put a 1" ++ newline ++ codes "xy" ++ newline) ≡ lines (codes "forced" ∷ codes "bad line 1: no newline after bytes" ∷ [])
unfolding digits
bad_after_bytes = refl
