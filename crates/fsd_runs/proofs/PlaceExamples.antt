-- Worked examples of where versions go, of tables that are full, and of commands that are made up, computed.
use Rattle.std.proofs.Common.{◌≡◌, ℕ, List, [], ◌∷◌, ◌++◌, map, Some, None, refl, codes, ◌+◌, ◌*◌, ◌/◌, ◌%◌}
use Rattle.std.specs.Fmt.{digits}
use Rattle.std.specs.Prelude.{replicate}
use Rattle.std.specs.List.{range_with_len}
use Rattle.fsd_bytes.specs.declared.refusal.Refusal.TheVariants.{TooFragmented, NameTableFull, VersionsUsedUp}
use Rattle.fsd_bytes.specs.Keys.{key_of}
use Rattle.run_table.specs.RunTable.{run_of}
use Rattle.fsd_files.specs.Answers.{put_outcome, delete_outcome}
use Rattle.fsd_files.specs.Files.{next_version, gone}
use Rattle.fsd_files.specs.declared.reply.Reply.{Reply}
use Rattle.fsd_files.specs.declared.reply.Reply.TheVariants.{Refused, Made, Deleted}
use Rattle.fsd_files.specs.Volume.{Volume, place_for}
use Rattle.fsd_texts.specs.declared.command.Command.{Command}
use Rattle.fsd_texts.specs.declared.command.Command.TheVariants as Word
use Rattle.fsd_texts.specs.Generator.{next_state}
use Rattle.fsd_texts.specs.Text.{format_line, text}
use Rattle.volume_layout.specs.declared.kind.Kind.TheVariants.{Two, Three}
use Rattle.volume_layout.specs.Layout.{plan, plan_most}
use Rattle.fsd_runs.specs.Errands.{generated}
use Rattle.fsd_runs.proofs.Plain.{behind, default, fresh, lines, plain, says}

-- ---- formats

format_says : text (format_line (plan Two 2048 256 64)) ≡ lines (codes "formatted 2048 free 1127" ∷ [])
unfolding digits
format_says = refl

-- layout 2 takes no more sectors
format_says_of_2 : text (format_line (plan Three 2048 256 64)) ≡ lines (codes "formatted 2048 free 1127" ∷ [])
unfolding digits
format_says_of_2 = refl

format_says_of_more : map (λ planned. text (format_line planned)) (plan_most Two 2048 256 64 8000 ∷ plan_most Two 2048 256 64 2047 ∷ plan_most Two 920 256 64 8000 ∷ [])
    ≡ map lines ((codes "formatted 2048 free 1125" ∷ []) ∷ (codes "refused most 2047" ∷ []) ∷ (codes "refused too-small 987" ∷ []) ∷ [])
unfolding digits
format_says_of_more = refl

too_small : text (format_line (plan Two 720 200 16)) ≡ lines (codes "refused too-small 721" ∷ [])
unfolding digits
too_small = refl

just_large : text (format_line (plan Two 721 200 16)) ≡ lines (codes "formatted 721 free 64" ∷ [])
unfolding digits
just_large = refl

-- ---- every other sector free

abbrev q : ℕ → List ℕ
q k = codes "q" ++ (48 + k / 10) ∷ (48 + k % 10) ∷ []

abbrev puts : List Command
puts = map (λ k. Word.Put (q k) [] None) (range_with_len 0 64)

abbrev deletes : List Command
deletes = map (λ k. Word.Delete (key_of (q (2 * k + 1)) 1)) (range_with_len 0 32)

abbrev sparse : Volume
sparse = behind (fresh 817 200 64) (puts ++ deletes)

-- it forces first, since what was deleted waits
abbrev too_much : Reply × Volume
too_much = put_outcome plain sparse (codes "r") (replicate 4096 0) None

too_fragmented : too_much.0 ≡ Refused (TooFragmented 9 8)
too_fragmented = refl

forced_for_it : too_much.1.removed ≡ []
forced_for_it = refl

in_eight_runs : (put_outcome plain too_much.1 (codes "r") (replicate 3584 0) None).0 ≡ Made (key_of (codes "r") 1) 8
in_eight_runs = refl

the_lowest_eight : place_for too_much.1 8 ≡ Some (map (λ s. run_of s 1) (754 ∷ 756 ∷ 758 ∷ 760 ∷ 762 ∷ 764 ∷ 766 ∷ 768 ∷ []))
the_lowest_eight = refl

-- ---- tables that are full

-- 16 name pages, of which nine are reached, and eight versions
abbrev full : Volume
full = record (behind (fresh 3000 200 16) (map (λ k. Word.Put (q k) [] None) (range_with_len 0 8))) { reached = 9 }

table_full : (put_outcome plain full (codes "r") [] None).0 ≡ Refused (NameTableFull 7)
table_full = refl

still_deleted : (delete_outcome plain full (key_of (q 3) 1)).0 ≡ Deleted (key_of (q 3) 1)
still_deleted = refl

-- ---- versions

versions_follow : map next_version (None ∷ Some 4294967294 ∷ []) ≡ 1 ∷ 4294967295 ∷ []
versions_follow = refl

-- the last version of a name
abbrev last_version : Volume
last_version = record default { files = (key_of (codes "z") 4294967295, record { bytes = []; keep = 2 }) ∷ [] }

none_behind_the_last : (put_outcome plain last_version (codes "z") [] None).0 ≡ Refused VersionsUsedUp
none_behind_the_last = refl

-- two at most go at once, and none where the keep is 0
two_go : gone {X = ℕ} 1 (1 ∷ 2 ∷ 3 ∷ 4 ∷ []) ≡ 1 ∷ 2 ∷ []
two_go = refl

none_goes : gone {X = ℕ} 0 (1 ∷ 2 ∷ 3 ∷ 4 ∷ []) ≡ []
none_goes = refl

-- ---- commands that are made up

first_states : next_state 1 ∷ next_state 2 ∷ next_state 3 ∷ [] ≡ 7806831264735756412 ∷ 14170967488582549417 ∷ 2088359638719790806 ∷ []
first_states = refl

says_of_seed_three : says (generated 3 1) default ≡ lines (codes "forced" ∷ codes "generated 1 made 1 deleted 0 kept 0 read 0 bytes 838 refused 0" ∷ [])
unfolding digits
says_of_seed_three = refl

says_of_seed_one : says (generated 1 1) default ≡ lines (codes "forced" ∷ codes "generated 1 made 0 deleted 0 kept 0 read 0 bytes 0 refused 1" ∷ [])
unfolding digits
says_of_seed_one = refl

says_of_seed_two : says (generated 2 1) default ≡ lines (codes "forced" ∷ codes "generated 1 made 0 deleted 0 kept 0 read 0 bytes 0 refused 1" ∷ [])
unfolding digits
says_of_seed_two = refl
