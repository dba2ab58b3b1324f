-- A record that is written behind the last one, on a machine whose sectors don't wear.
use Rattle.std.proofs.Common.{◌≡◌, ℕ, suc, ◌+◌, ◌-◌, ◌*◌, ◌^◌, ◌<◌, ◌≤◌, true, List, [], ◌∷◌, length, get_or, nat_le, refl, sym, subst, arith, inl, inr}
use Rattle.std.specs.List.{AllByRecursion}
use Rattle.std.proofs.lemmas.Bool.{cond-true, cond-false, le-leb, cases_lt, lt-leb}
use Rattle.volume_layout.specs.Shape.{Shape}
use Rattle.volume_layout.specs.Kinds.{gap_of}
use Rattle.fsd_formats.specs.Record.{are_pages, AreStamped, record_len}
use Rattle.fsd_log.specs.Laid.{laid_bytes, slices}
use Rattle.fsd_log.proofs.LaidLaws.{IsLaidAs, laid_as}
use Rattle.fsd_log.proofs.TornLaws.{ArePages}
use Rattle.fsd_log.specs.Scan.{Head, IsIn, HasRoom, spot_for, place_of}
use Rattle.log_thirds.specs.LogValue.{LogValue}
use Rattle.log_thirds.specs.Append.{stamp_now}
use Rattle.fsd_log.proofs.WalkLaws.{next_end}
use Rattle.fsd_log.proofs.AppendLaws.{IsSpot}
use Rattle.fsd_log.proofs.PlaceLaws.{InThird, place_inside}
use Rattle.fsd_log.proofs.TornLaws.{are_few}
use Rattle.volume_layout.proofs.KindLaws.{gap_most}

pub all_small : (xs : List ℕ) → ((i : ℕ) → get_or xs i 0 < 2 ^ 32) → AllByRecursion (λ n. n < 2 ^ 32) xs
all_small [] each = tt
all_small (x ∷ xs) each = (each 0, all_small xs (λ i. each (suc i)))

pub spot_is : (l : Shape) (n : ℕ) (h : Head) → 200 ≤ l.third → n ≤ 96 → IsIn l h → HasRoom l n h → IsSpot l n h (spot_for l n h) × InThird l 0 (spot_for l n h).at (record_len (gap_of l) n) (spot_for l n h).end
spot_is l n h third few is_in room = elim (cases_lt h.end (h.at + record_len (gap_of l) n)) [
  | inr fits ↦
      subst (λ (s : Head). IsSpot l n h s × InThird l 0 s.at (record_len (gap_of l) n) s.end) (sym (cond-true (nat_le (h.at + record_len (gap_of l) n) h.end) h (record { number = h.number; at = h.end; end = h.end + l.third }) (le-leb _ _ fits)))
      (record { number = refl; place = inl (refl, refl); fits = fits }, record { one_of = omega arith; ends = is_in.ends; from = is_in.from; to = fits })
  | inl over ↦
      let further : h.end < 3 * l.third = elim room [ inl fits ↦ absurd (omega (arith, over, fits)) | inr lt ↦ lt ] in
      let some : 0 < h.at = elim is_in.ends [ inl e ↦ omega (arith, is_in.from, gap_most l) | inr (inl e) ↦ omega (arith, is_in.from, gap_most l) | inr (inr e) ↦ omega (arith, is_in.from, gap_most l) ] in
      subst (λ (s : Head). IsSpot l n h s × InThird l 0 s.at (record_len (gap_of l) n) s.end) (sym (cond-false (nat_le (h.at + record_len (gap_of l) n) h.end) h (record { number = h.number; at = h.end; end = h.end + l.third }) (lt-leb _ _ over))) (
        record { number = refl; place = inr (record { some = some; further = further }, refl, refl); fits = omega (arith, gap_most l) },
        record { one_of = omega arith; ends = next_end l h.end is_in.ends further; from = omega arith; to = omega (arith, gap_most l) },
      )
]

-- what the log's own invariant and the call's premises say
pub record MayAppend (log : LogValue) (pages images : List ℕ) (long : ℕ) : Type 0 where
  pub least : 200 ≤ log.layout.third
  pub one_of : log.anchor.third ≤ 2
  pub is_in : IsIn log.layout log.head
  pub epoch : log.anchor.epoch < 2 ^ 32
  pub number : log.head.number < 2 ^ 32 - 1
  pub accepted : are_pages log.layout.pages pages ≡ true
  pub small : AllByRecursion (λ n. n < 2 ^ 32) pages
  pub bytes : length images ≡ 512 * length pages
  pub stamped : AreStamped (stamp_now log) pages (slices (length pages) images)
  pub room : HasRoom log.layout (length pages) log.head
  pub sized : 16 + 3 * log.layout.third ≤ long

module _ (log : LogValue) (pages images : List ℕ) (long : ℕ) (may : MayAppend log pages images long) where
  n : ℕ
  n = length pages

  pub few : length pages ≤ 96
  few = are_few log.layout.pages pages may.accepted

  pub spots : IsSpot log.layout (length pages) log.head (spot_for log.layout (length pages) log.head) × InThird log.layout 0 (spot_for log.layout (length pages) log.head).at (record_len (gap_of log.layout) (length pages)) (spot_for log.layout (length pages) log.head).end
  spots = spot_is log.layout (length pages) log.head may.least few may.is_in may.room

  pub in_third : InThird log.layout log.anchor.third (spot_for log.layout (length pages) log.head).at (record_len (gap_of log.layout) (length pages)) (spot_for log.layout (length pages) log.head).end
  in_third = record { one_of = may.one_of; ends = spots.1.ends; from = spots.1.from; to = spots.1.to }

  pub write_inside : place_of log.layout log.anchor.third (spot_for log.layout (length pages) log.head).at + record_len (gap_of log.layout) (length pages) ≤ 16 + 3 * log.layout.third
  write_inside = place_inside log.layout log.anchor.third (spot_for log.layout (length pages) log.head).at (record_len (gap_of log.layout) (length pages)) (spot_for log.layout (length pages) log.head).end in_third (omega arith)

  pub laid : IsLaidAs (gap_of log.layout) (stamp_now log) pages images (laid_bytes (gap_of log.layout) (stamp_now log) pages images)
  laid = laid_as (gap_of log.layout) (stamp_now log) (record { epoch = may.epoch; number = omega (arith, may.number) }) pages images few may.bytes may.stamped

  pub are : ArePages log.layout.pages pages
  are = record { accepted = may.accepted; small = may.small; few = few }
