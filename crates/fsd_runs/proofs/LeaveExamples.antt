-- Worked examples of what a run may meet and leave, and of what it may not.
use Rattle.std.proofs.Common.{◌≡◌, ◌≤◌, ℕ, List, [], ◌∷◌, length, map, Option, Some, None, refl, sym, ap, subst, ◌∙◌, inl, inr, codes, arith}
use Rattle.std.specs.Fmt.{digits}
use Rattle.std.specs.Prelude.{replicate, false, ⊤}
use Rattle.std.specs.List.{range_with_len, concat}
use Rattle.fsd_bytes.specs.Bytes.{sector}
use Rattle.fsd_bytes.specs.Keys.{key_of}
use Rattle.volume_layout.specs.declared.layout.Layout.{Layout}
use Rattle.volume_layout.specs.Root.{root_bytes}
use Rattle.run_table.specs.RunTable.{run_of}
use Rattle.fsd_formats.specs.declared.entry.Entry.{Entry}
use Rattle.fsd_formats.specs.Anchors.{anchor_bytes}
use Rattle.fsd_formats.specs.Leader.{leader_of, leader_bytes}
use Rattle.fsd_formats.specs.NamePage.{Free, Leaf, page_bytes}
use Rattle.sector_disk.specs.declared.sector.Sector.TheVariants.{Damaged}
use Rattle.sector_disk.specs.declared.sector.WeakRun.{WeakRun}
use Rattle.sector_disk.specs.Image.{stand}
use Rattle.sector_disk.specs.Machine.{Moment}
use Rattle.fsd_log.specs.Judged.{judged, record_in}
use Rattle.fsd_log.specs.Scan.{Head, scan}
use Rattle.fsd_table.specs.Pages.{page_at}
use Rattle.fsd_table.specs.Table.{Telling, told_in, visits}
use Rattle.fsd_files.specs.Answers.{FindsDamageIn}
use Rattle.fsd_files.specs.Disk.{Image, nowhere, in_runs}
use Rattle.fsd_files.specs.Files.{Change}
use Rattle.fsd_files.specs.Kept.{Kept}
use Rattle.fsd_files.specs.Volume.{Volume}
use Rattle.fsd_sound.specs.Format.{format_stamp}
use Rattle.fsd_sound.specs.Mounted.{telling_of}
use Rattle.fsd_sound.specs.Shown.{scan_by, told}
use Rattle.fsd_sound.specs.Anchors.{anchor_of}
use Rattle.fsd_formats.specs.declared.anchor.Anchor.{Anchor}
use Rattle.fsd_texts.specs.declared.command.Command.{Command}
use Rattle.fsd_texts.specs.declared.command.Command.TheVariants as Word
use Rattle.fsd_texts.specs.declared.script_command.ScriptCommand.TheVariants.{Plain}
use Rattle.fsd_texts.specs.declared.end.End.TheVariants.{Done}
use Rattle.fsd_texts.specs.Script.{script_in}
use Rattle.fsd_texts.specs.Script.{Script as Spelled}
use Rattle.fsd_runs.specs.Commands.{answer, reply_text}
use Rattle.fsd_runs.specs.declared.request.Request.TheVariants.{Script}
use Rattle.fsd_runs.specs.Errands.{Turn, blank, forced_turn, generated, scripted}
use Rattle.fsd_runs.specs.Leaves.{SaysNext}
use Rattle.fsd_runs.specs.Runs.{Course, Goes, IsCutAt, IsStep, IsWornOut, StoodAt, forced_in, last_count}
use Rattle.fsd_runs.specs.Sessions.{session_over}
use Rattle.fsd_runs.proofs.Plain.{default, lines, meets, plain, turns_on}

-- ---- how much is forced

abbrev made : List ℕ → Turn
made name = record { said = []; changes = Change.Put name None [] ∷ []; forces = false }

-- those before the last line `forced`
two_of_three : forced_in (made (codes "a") ∷ forced_turn ∷ made (codes "b") ∷ forced_turn ∷ made (codes "c") ∷ []) ≡ 2
two_of_three = refl

none_of_one : forced_in (made (codes "a") ∷ []) ≡ 0
none_of_one = refl

-- nothing is known to be forced before the last lines of commands that are made up
none_of_generated : forced_in (map (λ t. record { said = t.said; changes = Change.Put [] None [] ∷ []; forces = t.forces }) (turns_on (generated 3 2) (plain ∷ []) default)) ≡ 0
none_of_generated = refl

-- ---- a run that is broken off

-- behind the commands that were begun a fault's line may stand, and no other
broken_off : turns_on (scripted (map (λ c. Plain c) (Word.Force ∷ Word.Tick ∷ []), Done)) (plain ∷ []) default ≡ forced_turn ∷ blank ∷ []
broken_off = refl

a_fault_may_follow : SaysNext (Unit {0}) (Some blank) (codes "fault dev")
unfolding digits
a_fault_may_follow = inr (Rattle.fsd_texts.specs.declared.fault.Fault.TheVariants.Device 7, 9, tt, refl)

-- ---- images

abbrev l : Layout
l = default.layout

abbrev name_pages : List (List ℕ)
name_pages = page_bytes 0 format_stamp (Leaf []) ∷ map (λ p. page_bytes p format_stamp Free) (range_with_len 1 63)

abbrev anchor : List ℕ
anchor = anchor_bytes (record { epoch = 2; third = 0; first = 1 })

abbrev entry_a : Entry
entry_a = record { key = key_of (codes "a") 1; keep = 2; serial = record { epoch = 2; count = 1 }; length = 1; runs = run_of 921 2 ∷ [] }

abbrev written : ℕ → List (List ℕ) → Image → Image
written s sectors i = stand i s (concat sectors) (length sectors)

-- a volume that was just mounted, and then with the sectors of a!1
mounted : Image
mounted =
    written 8 (anchor ∷ []) (written 12 (anchor ∷ []) (written 0 (root_bytes l ∷ []) (written 4 (root_bytes l ∷ [])
    (written 784 name_pages (written 852 name_pages (replicate 2048 Damaged))))))

with_a : Image
with_a = written 921 (leader_bytes (leader_of entry_a) ∷ sector (codes "x") ∷ []) mounted

-- it tells an empty table of one page
mounted_tells : told l mounted ≡ Some (telling_of default)
unfolding mounted told_in visits page_at scan record_in judged
mounted_tells = refl

-- ---- a run that can be

abbrev window : List WeakRun
window = record { first = 100; count = 2 } ∷ []

abbrev input : List ℕ
input = lines (codes "put a 1" ∷ codes "x" ∷ codes "get a!1" ∷ [])

abbrev put_a : Command
put_a = Word.Put (codes "a") (codes "x") None

abbrev get_a : Command
get_a = Word.Get (key_of (codes "a") 1)

abbrev at_any : Moment → Type 0
at_any t = ⊤

stood : (said : List ℕ) (i : Image) → StoodAt at_any said i
stood said i = record { moment = record { image = i; windows = record { present = None; next = None }; said = said; time = 0; synced = 0 }; passed = tt; image = refl; so_far = refl }

-- right behind a mount neither the serials nor the log are used up
abbrev fresh_anchor : Anchor
fresh_anchor = record { epoch = 2; third = 0; first = 1 }

anchor_is : anchor_of mounted ≡ Some fresh_anchor
unfolding mounted
anchor_is = refl

head_is : (scan_by l mounted fresh_anchor).head ≡ record { number = 1; at = 0; end = 256 }
unfolding mounted scan record_in judged
head_is = refl

not_worn_out : IsWornOut default mounted → ⊥
not_worn_out (inl low) = omega (arith, low)
not_worn_out (inr log) = by log.anchor (sym log.taken ∙ anchor_is) log.full
  where
    at_head : (h : Head) → h ≡ record { number = 1; at = 0; end = 256 } → (last_count ≤ h.number) → ⊥
    at_head h is low = let one : h.number ≡ 1 = ap (λ (x : Head). x.number) is in omega (arith, low, one)

    same : (a : Anchor) → Some a ≡ Some fresh_anchor → a ≡ fresh_anchor
    same a e = cc

    by : (a : Anchor) → Some a ≡ Some fresh_anchor → (last_count ≤ (scan_by l mounted a).head.number) → ⊥
    by a is full = at_head (scan_by l mounted a).head (ap (λ (x : Anchor). (scan_by l mounted x).head) (same a is) ∙ head_is) full

put_step : (said : List ℕ) → IsStep (in_runs window) at_any said mounted with_a (session_over default) (Plain put_a) (meets plain)
put_step said = record {
  kept = tt;
  tells = λ e. mounted_tells;
  unworn = λ may. not_worn_out;
  exit = stood said with_a;
  may = record { find = tt; reach = record { root = omega arith; most = omega arith }; hold = λ t. refl };
}

abbrev after_put : Volume
after_put = (answer plain default put_a).1

a_is_kept : Kept with_a after_put.files after_put.entries (in_runs window)
unfolding with_a mounted
a_is_kept = ((inl refl, tt), tt)

a_is_found : FindsDamageIn with_a with_a after_put (key_of (codes "a") 1) None
unfolding with_a mounted
a_is_found = ((sector (codes "x"), refl), tt)

get_step : (said : List ℕ) → IsStep (in_runs window) at_any said with_a with_a (session_over after_put) (Plain get_a) (meets plain)
get_step said = record {
  kept = a_is_kept;
  tells = λ e. absurd (omega (arith, e));
  unworn = λ may. absurd (cc may);
  exit = stood said with_a;
  may = record { find = a_is_found; reach = record { root = omega arith; most = omega arith }; hold = λ t. refl };
}

abbrev spelled : Spelled
spelled = (Plain put_a ∷ Plain get_a ∷ [], Done)

input_is : script_in input ≡ spelled
input_is = refl

said_of_put : List ℕ
said_of_put = reply_text (answer plain default put_a).0

two_steps : Goes (in_runs window) at_any (IsCutAt None) (scripted spelled) [] mounted (session_over default) (meets plain ∷ meets plain ∷ []) (Plain put_a ∷ Plain get_a ∷ [])
unfolding said_of_put
two_steps = (with_a, put_step [], (with_a, get_step said_of_put, tt))

put_and_get : Course Script input window at_any [] default mounted
put_and_get = record {
  cut = None;
  may = tt;
  before = tt;
  mets = meets plain ∷ meets plain ∷ [];
  goes = subst (λ (s : Spelled). Goes (in_runs window) at_any (IsCutAt None) (scripted s) [] mounted (session_over default) (meets plain ∷ meets plain ∷ []) (scripted s).commands) (sym input_is) two_steps;
  so = tt;
}

-- ---- runs that can't

-- a version that was just made is kept as the next command begins, so it can't be called damaged by an older image
an_older_image_keeps_not : IsStep nowhere at_any [] mounted mounted (session_over after_put) (Plain get_a) (meets (record { forces = false; reached = 1; damaged = Some 922; found = []; healed = 0 })) → ⊥
unfolding mounted
an_older_image_keeps_not step = by step.kept.0.0
  where
    by : Rattle.fsd_files.specs.Disk.Has nowhere mounted (sector (codes "x")) 922 → ⊥
    by (inl same) = cc
    by (inr none) = cc

-- where nothing is unforced, the pages are those of the disk's own table
other_pages_are_refused : IsStep nowhere at_any [] mounted mounted (session_over (record default { reached = 2 })) (Plain (Word.Get (key_of (codes "a") 1))) (meets plain) → ⊥
other_pages_are_refused step =
    let bad : 1 ≡ 2 = ap reached (sym mounted_tells ∙ step.tells refl) in
    omega (arith, bad)
  where
    reached : Option Telling → ℕ
    reached None = 0
    reached (Some t) = t.reached

-- no table has more pages than its versions and one
too_many_pages : IsStep nowhere at_any [] mounted with_a (session_over default) (Plain put_a) (meets (record { forces = false; reached = 3; damaged = None; found = []; healed = 0 })) → ⊥
too_many_pages step = let most = step.may.reach.most in omega (arith, most)
