-- A version that is made in pieces: where it goes, and the end of its creation.
use Rattle.std.specs.Prelude.{ℕ, not, List, ◌∷◌, filter, Option, Some, None, Result, Ok, Err, nat_lt, if◌then◌else◌}
use Rattle.run_table.specs.declared.run.Run.{Run}
use Rattle.run_table.specs.RunTable.{same_runs, total}
use Rattle.fsd_bytes.specs.declared.key.Serial.{Serial}
use Rattle.fsd_bytes.specs.declared.refusal.Refusal.{Refusal}
use Rattle.fsd_bytes.specs.declared.refusal.Refusal.TheVariants.{KeepTooLarge, TooLong}
use Rattle.fsd_formats.specs.NamePage.{max_keep, max_length, sectors_for}
use Rattle.fsd_files.specs.Answers.{Met, Outcome, enter_fault, keep_given, no_place, refused, with_version}
use Rattle.fsd_files.specs.Files.{new_key}
use Rattle.fsd_files.specs.declared.reply.Reply.TheVariants.{Made}
use Rattle.fsd_files.specs.Volume.{Volume, drawn, forced_for_place, forced_if, place_for}

-- a creation lies in these runs, and its serial is drawn
abbrev pub with_draft : Volume → List Run → Volume
with_draft v runs = record (drawn v) { drafts = runs ∷ v.drafts }

abbrev pub undrafted : Volume → List Run → Volume
undrafted v runs = record v { drafts = filter (λ d. not (same_runs d runs)) v.drafts }

-- ---- the beginning

abbrev pub reserve_at : Volume → ℕ → Option (List Run) → Result (List Run) Refusal × Volume
reserve_at v need None = (Err (no_place v need), v)
reserve_at v need (Some runs) = (Ok runs, with_draft v runs)

-- the runs of a creation of so many bytes or why there are none, and the volume then
abbrev pub reserve_outcome : Volume → (len : ℕ) → Result (List Run) Refusal × Volume
reserve_outcome v len =
    let need = sectors_for len in
    let at = forced_for_place need v in
    if nat_lt max_length len then (Err (TooLong len), v) else reserve_at at need (place_for at need)

-- ---- the end

abbrev pub enter_unless : Option Refusal → Volume → List ℕ → List ℕ → Option ℕ → List Run → Serial → ℕ → Outcome
enter_unless (Some why) v name bytes given runs serial r = refused v why
enter_unless None v name bytes given runs serial r = (Made (new_key name v.files) (total runs), with_version (undrafted v runs) name bytes given runs serial r)

-- a creation that has these bytes becomes a version, or stays one
abbrev pub enter_outcome : Met → Volume → List ℕ → List ℕ → Option ℕ → List Run → Serial → Outcome
enter_outcome met v name bytes given runs serial =
    let at = forced_if met.forces v in
    if nat_lt max_keep (keep_given given) then refused v (KeepTooLarge (keep_given given))
    else enter_unless (enter_fault at name) at name bytes given runs serial met.reached
