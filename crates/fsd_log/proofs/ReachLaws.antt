-- Which record sectors begin, those say that the headers reach: nothing is asked of the sectors beyond.
use Rattle.std.proofs.Common.{◌≡◌, ℕ, ◌+◌, ◌≤◌, Bool, true, false, List, length, Option, Some, None, nat_le, refl, sym, ap, ◌∙◌, arith}
use Rattle.std.specs.Prelude.{option_and_then, option_map, if◌then◌else◌}
use Rattle.std.specs.Option.{option_or}
use Rattle.std.proofs.lemmas.Bool.{cond-true, cond-false, le-leb, leb-true}
use Rattle.fsd_formats.specs.Record.{Stamp, read_header, record_len}
use Rattle.fsd_log.specs.Judged.{Reader, Serving, judged_with, judged_by, judged, logged_of, record_in}
use Rattle.fsd_log.specs.Reach.{len_within, len_by, reach}
use Rattle.fsd_log.proofs.JudgedLaws.{Alike, with_same, is_judged, record_with_same}

len_most : (gap : ℕ) → (room : ℕ) (o : Option (List ℕ)) → len_within gap room o ≤ room
len_most gap room None = omega arith
len_most gap room (Some pages) = by_test (nat_le (record_len gap (length pages)) room) refl
  where
    by_test : (b : Bool) → nat_le (record_len gap (length pages)) room ≡ b → (if b then record_len gap (length pages) else 0) ≤ room
    by_test true is = leb-true _ _ is
    by_test false is = omega arith

pub reach_most : (gap : ℕ) → (p : ℕ) (stamp : Stamp) (room : ℕ) (at : Reader) → reach gap p stamp room at ≤ room
reach_most gap p stamp room at = omega (arith, len_most gap room (option_and_then (read_header p stamp) (at 0)), len_most gap room (option_and_then (read_header p stamp) (at (2 + gap))))

-- A reading of some first sectors, and one of more: they are alike as far as the first one goes, and in the headers.
pub record ReadsOn (gap : ℕ) (room far : ℕ) (all part : Reader) : Type 0 where
  pub within : far ≤ room
  pub alike : Alike all part far
  pub header : part 0 ≡ all 0
  pub copy : part (2 + gap) ≡ all (2 + gap)

module _ (gap : ℕ) (p : ℕ) (stamp : Stamp) (room far : ℕ) (all part : Reader) (on : ReadsOn gap room far all part) where
  not_beyond : (n : ℕ) → nat_le n room ≡ false → nat_le n far ≡ false
  not_beyond n none = by_test (nat_le n far) refl
    where
      by_test : (b : Bool) → nat_le n far ≡ b → b ≡ false
      by_test false is = refl
      by_test true is = sym (le-leb n room (let le : n ≤ far = leb-true n far is in omega (arith, on.within))) ∙ none

  with_within : (hc : Bool) (pages : List ℕ) (b : Bool) → nat_le (record_len gap (length pages)) room ≡ b → (if b then record_len gap (length pages) else 0) ≤ far
      → judged_with gap stamp far part hc pages ≡ judged_with gap stamp room all hc pages
  with_within hc pages true fits reaches =
      with_same gap stamp far all part hc pages (λ k lt. on.alike k (omega arith))
      ∙ cond-true _ _ None (le-leb _ _ reaches) ∙ sym (cond-true _ _ None fits)
  with_within hc pages false past reaches = cond-false _ _ None (not_beyond _ past) ∙ sym (cond-false _ _ None past)

  pages_within : (hc : Bool) (o : Option (List ℕ)) → len_within gap room o ≤ far → option_and_then (judged_with gap stamp far part hc) o ≡ option_and_then (judged_with gap stamp room all hc) o
  pages_within hc None reaches = refl
  pages_within hc (Some pages) reaches = with_within hc pages (nat_le (record_len gap (length pages)) room) refl reaches

  by_within : (hc : Bool) (k : ℕ) → part k ≡ all k → len_by gap p stamp room (part k) ≤ far → judged_by gap p stamp far part hc (part k) ≡ judged_by gap p stamp room all hc (all k)
  by_within hc k same reaches =
      pages_within hc (option_and_then (read_header p stamp) (part k)) reaches ∙ ap (judged_by gap p stamp room all hc) same

  module _ (reaches : reach gap p stamp room part ≤ far) where
    pub judged_within : judged gap p stamp far part ≡ judged gap p stamp room all
    unfolding judged
    judged_within =
        let one = by_within false 0 on.header (omega (arith, reaches)) in
        let two = by_within true (2 + gap) on.copy (omega (arith, reaches)) in
        λ i. option_or (one i) (two i)

    -- and its images
    pub record_within : record_in gap p stamp far part ≡ record_in gap p stamp room all
    unfolding record_in
    record_within = by_found (judged gap p stamp far part) refl ∙ ap (option_map (logged_of gap stamp.number all)) judged_within
      where
        by_found : (o : Option Serving) → judged gap p stamp far part ≡ o → option_map (logged_of gap stamp.number part) (judged gap p stamp far part) ≡ option_map (logged_of gap stamp.number all) (judged gap p stamp far part)
        by_found None is = ap (option_map (logged_of gap stamp.number part)) is ∙ sym (ap (option_map (logged_of gap stamp.number all)) is)
        by_found (Some f) is =
            let found = is_judged gap p stamp far part f is in
            let le : record_len gap (length f.pages) ≤ far = leb-true _ _ found.roomy in
            ap (option_map (logged_of gap stamp.number part)) is
            ∙ ap (λ r. Some r) (sym (record_with_same gap stamp.number p stamp far part all f found (λ k lt. sym (on.alike k (omega arith)))))
            ∙ sym (ap (option_map (logged_of gap stamp.number all)) is)
