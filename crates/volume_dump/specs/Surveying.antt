-- What a survey finds of the versions.
use Rattle.std.specs.Prelude.{◌≡◌, ℕ, ◌+◌, List, [], ◌∷◌, length, map, Option, Result, Ok, Err}
use Rattle.std.specs.List.{fold}
use Rattle.fsd_bytes.specs.declared.key.Key.{Key}
use Rattle.fsd_bytes.specs.declared.refusal.Refusal.{Refusal}
use Rattle.fsd_formats.specs.declared.entry.Entry.{Entry}
use Rattle.fsd_files.specs.Disk.{Image}
use Rattle.fsd_files.specs.Scrub.{Picks, all_data}
use Rattle.fsd_runs.specs.declared.span.Span.{Span}
use Rattle.fsd_runs.specs.Dumps.{chosen, later_of, latest_of, made_before}
use Rattle.scrub.specs.Walk.{IsFromOutside, IsWalked}
use Rattle.volume_dump.specs.declared.survey.Tally.{Tally}

-- Of these entries so many are chosen, this is the greatest serial, and of the data sectors of the chosen ones those that
-- read damaged are found.
pub record IsSurveyed (span : Span) (entries : List Entry) (i j : Image) (s : Tally) (found : List (Key × ℕ)) : Type 0 where
  pub count : s.chosen ≡ length (chosen span entries)
  pub latest : s.latest ≡ latest_of (made_before span.before entries)
  pub picks : Picks i j (all_data (chosen span entries)) found

-- The first ones of the entries are surveyed.
pub record HasSurveyed (span : Span) (entries : List Entry) (count : ℕ) (last : Option Key) (i j : Image) (s : Tally) (found : List (Key × ℕ)) : Type 0 where
  pub front : List Entry
  pub walked : IsWalked entries front count last
  pub surveyed : IsSurveyed span front i j s found

-- One entry more is counted.
pub record CountsOne (span : Span) (e : Entry) (before after : Tally) : Type 0 where
  pub count : after.chosen ≡ before.chosen + length (chosen span (e ∷ []))
  pub latest : after.latest ≡ fold later_of before.latest (map (λ x. x.serial) (made_before span.before (e ∷ [])))

-- all are surveyed, or a fault from outside has ended it
abbrev pub EndsSurvey : Span → List Entry → (i j : Image) → (found : List (Key × ℕ)) → Result Tally Refusal → Type 0
EndsSurvey span entries i j found (Ok s) = IsSurveyed span entries i j s found
EndsSurvey span entries i j found (Err why) = IsFromOutside why
