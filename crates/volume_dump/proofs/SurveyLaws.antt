-- Entries that are surveyed, one after another.
use Rattle.std.proofs.Common.{◌≡◌, ℕ, ◌+◌, ◌≤◌, Bool, true, false, List, [], ◌∷◌, ◌++◌, length, map, Option, Some, None, sym, ap, ◌∙◌, subst, arith, length-append}
use Rattle.std.specs.Prelude.{Result, Ok, Err, if◌then◌else◌}
use Rattle.std.specs.List.{fold}
use Rattle.std.proofs.lemmas.List.{map-append}
use Rattle.std.proofs.lemmas.List.Elements.{filter-append}
use Rattle.std.proofs.lemmas.List.Sums.{fold-append}
use Rattle.fsd_bytes.specs.declared.key.Key.{Key}
use Rattle.fsd_bytes.specs.declared.key.Serial.{Serial}
use Rattle.fsd_bytes.specs.declared.refusal.Refusal.{Refusal}
use Rattle.fsd_formats.specs.declared.entry.Entry.{Entry}
use Rattle.fsd_log.specs.Scan.{Placed}
use Rattle.fsd_runs.specs.declared.span.Span.{Span}
use Rattle.fsd_runs.specs.Dumps.{chosen, first_serial, is_before, is_in_span, later_of, latest_of, made_before}
use Rattle.sector_disk.specs.Image.{IsWorn}
use Rattle.sector_disk.specs.Machine.{Moment}
use Rattle.sector_disk.proofs.Wear.{worn_whole}
use Rattle.fsd_files.specs.Answers.{entry_after}
use Rattle.fsd_files.specs.Disk.{Image}
use Rattle.fsd_files.specs.declared.reply.Reply.TheVariants.{Found}
use Rattle.fsd_files.specs.Scrub.{Picks, all_data}
use Rattle.fsd_files.proofs.ScrubLaws.{picks_longer}
use Rattle.fsd_sound.specs.Mounted.{Mounted}
use Rattle.volume_contract.specs.State.{Known, Stands, State, volume_of}
use Rattle.scrub.specs.Looking.{Adds}
use Rattle.scrub.proofs.LookLaws.{Any, anything, data_both, picks_both, picks_on}
use Rattle.scrub.proofs.WalkLaws.{walked_all, walked_counted, walked_more}
use Rattle.volume_dump.specs.declared.survey.Tally.{Tally}
use Rattle.volume_dump.specs.Surveying.{CountsOne, EndsSurvey, HasSurveyed, IsSurveyed}

-- ---- one entry more

pub chosen_both : (span : Span) (xs ys : List Entry) → chosen span (xs ++ ys) ≡ chosen span xs ++ chosen span ys
chosen_both span xs ys = filter-append (λ e. is_in_span span e.serial) xs ys

-- the greatest serial in front of the end, with more entries
latest_more : (end : Option Serial) (xs ys : List Entry) → latest_of (made_before end (xs ++ ys)) ≡ fold later_of (latest_of (made_before end xs)) (map (λ (x : Entry). x.serial) (made_before end ys))
latest_more end xs ys =
    ap (λ (es : List Entry). latest_of es) (filter-append (λ (x : Entry). is_before end x.serial) xs ys)
    ∙ ap (λ (ss : List Serial). fold later_of first_serial ss) (map-append (λ (x : Entry). x.serial) (made_before end xs) (made_before end ys))
    ∙ fold-append later_of first_serial (map (λ (x : Entry). x.serial) (made_before end xs)) (map (λ (x : Entry). x.serial) (made_before end ys))

one_chosen : (is : Bool) (e : Entry) → length (if is then e ∷ [] else []) ≤ 1
one_chosen true e = omega arith
one_chosen false e = omega arith

-- one entry more is one chosen more at most
pub one_most : (span : Span) (e : Entry) → length (chosen span (e ∷ [])) ≤ 1
one_most span e = one_chosen (is_in_span span e.serial) e

module _ (may more_may : ℕ → Bool) (h i j : Image) (first : IsWorn may h i) (second : IsWorn more_may i j) (span : Span) (front : List Entry) (s : Tally) (found : List (Key × ℕ)) (is : IsSurveyed span front h i s found) where
  -- while the image wears on
  pub surveyed_on : IsSurveyed span front h j s found
  surveyed_on = record { count = is.count; latest = is.latest; picks = picks_on may more_may h i j first second (all_data (chosen span front)) found is.picks }

  surveyed_more : (e : Entry) (t : Tally) (after : List (Key × ℕ)) → CountsOne span e s t → (let done : Result Tally Refusal = Ok t in Adds i j (all_data (chosen span (e ∷ []))) found after done) → IsSurveyed span (front ++ e ∷ []) h j t after
  surveyed_more e t after counts adds = record {
    count = counts.count
        ∙ ap (λ (n : ℕ). n + length (chosen span (e ∷ []))) is.count
        ∙ sym (length-append (chosen span front) (chosen span (e ∷ [])))
        ∙ ap (λ (es : List Entry). length es) (sym (chosen_both span front (e ∷ [])));
    latest = counts.latest ∙ ap (λ (x : Serial). fold later_of x (map (λ (y : Entry). y.serial) (made_before span.before (e ∷ [])))) is.latest ∙ sym (latest_more span.before front (e ∷ []));
    picks = subst (λ (xs : List (Key × ℕ)). Picks h j xs after) (sym (ap all_data (chosen_both span front (e ∷ [])) ∙ data_both (chosen span front) (chosen span (e ∷ []))))
        (subst (Picks h j (all_data (chosen span front) ++ all_data (chosen span (e ∷ [])))) (sym adds.is)
        (picks_both may more_may h i j first second (all_data (chosen span front)) (all_data (chosen span (e ∷ []))) found adds.more is.picks adds.finds));
  }

module _ {S : Type 0} (state : S → State) (has : S → Mounted → List Placed → Type 0) (v : S) (k : Known) (now : Moment) (stands : Stands state has v k now)
    (may more_may : ℕ → Bool) (h i j : Image) (first : IsWorn may h i) (second : IsWorn more_may i j) (span : Span) (count : ℕ) (last : Option Key) (s : Tally) (found : List (Key × ℕ)) (l : HasSurveyed span (volume_of k).entries count last h i s found) where
  pub survey_kept : HasSurveyed span (volume_of k).entries count last h j s found
  survey_kept = record { front = l.front; walked = l.walked; surveyed = surveyed_on may more_may h i j first second span l.front s found l.surveyed }

  pub survey_more : (e : Entry) → Found (entry_after last (volume_of k).entries) ≡ Found (Some e) → (t : Tally) (after : List (Key × ℕ)) → CountsOne span e s t
      → (let done : Result Tally Refusal = Ok t in Adds i j (all_data (chosen span (e ∷ []))) found after done) → HasSurveyed span (volume_of k).entries (count + 1) (Some e.key) h j t after
  survey_more e looks t after counts adds = record {
    front = l.front ++ e ∷ [];
    walked = walked_more state has v k now stands l.front count last l.walked e looks;
    surveyed = surveyed_more may more_may h i j first second span l.front s found l.surveyed e t after counts adds;
  }

  pub survey_all : Found (entry_after last (volume_of k).entries) ≡ Found None → IsSurveyed span (volume_of k).entries h j s found
  survey_all looks = subst (λ (es : List Entry). IsSurveyed span es h j s found) (sym (walked_all state has v k now stands l.front count last l.walked looks)) (surveyed_on may more_may h i j first second span l.front s found l.surveyed)

  pub survey_counted : (versions : ℕ) → versions ≡ (state v).versions → versions ≤ count → IsSurveyed span (volume_of k).entries h i s found
  survey_counted versions asked ended = subst (λ (es : List Entry). IsSurveyed span es h i s found) (sym (walked_counted state has v k now stands l.front count last l.walked versions asked ended)) l.surveyed

-- ---- since an earlier moment

pub surveyed_since : (may : ℕ → Bool) (h i j : Image) → IsWorn may h i → (span : Span) (entries : List Entry) (s : Tally) (found : List (Key × ℕ)) → IsSurveyed span entries i j s found → IsSurveyed span entries h j s found
surveyed_since may h i j first span entries s found is = record {
  count = is.count;
  latest = is.latest;
  picks = picks_longer Any h i j j (λ n any whole. (whole.0, worn_whole may h i n whole.0 first whole.1)) (λ n any hurt. hurt) (all_data (chosen span entries)) found (anything (all_data (chosen span entries))) is.picks;
}

pub survey_since : (may : ℕ → Bool) (h i j : Image) → IsWorn may h i → (span : Span) (entries : List Entry) (found : List (Key × ℕ)) (r : Result Tally Refusal) → EndsSurvey span entries i j found r → EndsSurvey span entries h j found r
survey_since may h i j first span entries found (Ok s) is = surveyed_since may h i j first span entries s found is
survey_since may h i j first span entries found (Err why) is = is
