-- Looking for a record: what is read is the tape's window.
use Rattle.std.proofs.Common.{◌≡◌, inl, inr, ℕ, ◌+◌, ◌-◌, ◌*◌, ◌<◌, ◌≤◌, true, length, Option, Some, None, nat_lt, sym, ap, subst, ◌∙◌, arith}
use Rattle.std.specs.Prelude.{◌&&◌, option_map}
use Rattle.std.proofs.lemmas.Bool.{cases_lt, cond-true, lt-ltb, leb-true, and_from}
use Rattle.volume_layout.specs.Shape.{Shape}
use Rattle.volume_layout.specs.Kinds.{gap_of}
use Rattle.fsd_formats.specs.Record.{Stamp, record_len}
use Rattle.fsd_log.specs.Judged.{Reader, Logged, Serving, judged}
use Rattle.fsd_log.proofs.JudgedLaws.{is_judged}
use Rattle.fsd_log.specs.Scan.{IsEnd, Head, Placed, place_of, record_here, behind, entered, next}
use Rattle.log_thirds.specs.declared.find.Spot.{Spot}
use Rattle.std.specs.Option.{option_or}
use Rattle.log_thirds.specs.Reading.{GoesOnTo, Stepped, stepped_of}
use Rattle.fsd_log.proofs.PlaceLaws.{place_cases, place_inside, end_most, first_most}

pub place_most : (l : Shape) (first w : ℕ) → first ≤ 2 → w ≤ 3 * l.third → place_of l first w ≤ 16 + 3 * l.third
place_most l first w one le = elim (place_cases l first w) [ inl p ↦ omega (arith, p.0, p.1) | inr p ↦ omega (arith, p.0, p.1, first_most l first one) ]

-- the sectors that are looked at lie in the log
pub run_inside : (l : Shape) (first at end count : ℕ) → first ≤ 2 → at ≤ end → end ≤ at + l.third → IsEnd l end → count ≤ end - at → place_of l first at + count ≤ 16 + 3 * l.third
run_inside l first at end count one before from ends le = elim (cases_lt 0 count) [
  | inl some ↦ place_inside l first at count end (record { one_of = one; ends = ends; from = from; to = omega arith }) some
  | inr none ↦ omega (arith, place_most l first at one (omega (arith, before, end_most l end ends)))
]

pub judged_room : (gap : ℕ) → (p : ℕ) (stamp : Stamp) (room : ℕ) (at : Reader) (s : Serving) → Some s ≡ judged gap p stamp room at → record_len gap (length s.pages) ≤ room
judged_room gap p stamp room at s is = leb-true _ _ (is_judged gap p stamp room at s (sym is)).roomy

-- ---- where the head goes

pub goes_to : (l : Shape) (from at n end : ℕ) (spot : Spot) → spot ≡ record { at = at + (2 * n + (5 + 2 * (gap_of l))); end = end } → from ≤ at → at + (2 * n + (5 + 2 * (gap_of l))) ≤ end → end ≤ at + l.third → IsEnd l end → GoesOnTo l from spot
goes_to l from at n end spot is le fits after ends = subst (GoesOnTo l from) (sym is) (record { on = omega arith; before = fits; after = omega arith; ends = ends })

some_step : (gap : ℕ) → (number at end : ℕ) (entry : Logged) (o : Option Logged) → Some entry ≡ o
    → ◌≡◌ {A = Option Stepped} (Some (record { from = at; entry = entry; at = at + (2 * length entry.pages + (5 + 2 * gap)); end = end })) (option_map stepped_of (option_map (behind gap number at end) o))
some_step gap number at end entry o is = ap (λ (x : Option Logged). option_map stepped_of (option_map (behind gap number at end) x)) is

module _ (l : Shape) (epoch : ℕ) (disk : Reader) (h : Head) where
  pub here_found : (entry : Logged) → Some entry ≡ record_here l epoch disk h.number h.at h.end → ◌≡◌ {A = Option Stepped} (Some (record { from = h.at; entry = entry; at = h.at + (2 * length entry.pages + (5 + 2 * (gap_of l))); end = h.end })) (option_map stepped_of (next l epoch disk h))
  here_found entry is = ap (λ (x : Option Logged). option_map stepped_of (option_or (option_map (behind (gap_of l) h.number h.at h.end) x) (entered l epoch disk h))) is

  pub not_here : (o : Option Stepped) → None ≡ record_here l epoch disk h.number h.at h.end → o ≡ option_map stepped_of (entered l epoch disk h)
      → o ≡ option_map stepped_of (next l epoch disk h)
  not_here o none is =
      is ∙ ap (λ (r : Option Logged). option_map stepped_of (option_or (option_map (behind (gap_of l) h.number h.at h.end) r) (entered l epoch disk h))) none

  may : 0 < h.at → h.end < 3 * l.third → (nat_lt 0 h.at && nat_lt h.end (3 * l.third)) ≡ true
  may some further = and_from _ _ (lt-ltb _ _ some) (lt-ltb _ _ further)

  pub there_found : (entry : Logged) → 0 < h.at → h.end < 3 * l.third → Some entry ≡ record_here l epoch disk h.number h.end (h.end + l.third)
      → ◌≡◌ {A = Option Stepped} (Some (record { from = h.end; entry = entry; at = h.end + (2 * length entry.pages + (5 + 2 * (gap_of l))); end = h.end + l.third })) (option_map stepped_of (entered l epoch disk h))
  there_found entry some further is =
      some_step (gap_of l) h.number h.end (h.end + l.third) entry (record_here l epoch disk h.number h.end (h.end + l.third)) is
      ∙ ap (λ (o : Option (Placed × Head)). option_map stepped_of o) (sym (cond-true _ (option_map (behind (gap_of l) h.number h.end (h.end + l.third)) (record_here l epoch disk h.number h.end (h.end + l.third))) None (may some further)))

  pub not_there : 0 < h.at → h.end < 3 * l.third → None ≡ record_here l epoch disk h.number h.end (h.end + l.third)
      → ◌≡◌ {A = Option Stepped} None (option_map stepped_of (entered l epoch disk h))
  not_there some further none =
      ap (λ (o : Option (Placed × Head)). option_map stepped_of o)
      (ap (λ (r : Option Logged). option_map (behind (gap_of l) h.number h.end (h.end + l.third)) r) none ∙ sym (cond-true _ (option_map (behind (gap_of l) h.number h.end (h.end + l.third)) (record_here l epoch disk h.number h.end (h.end + l.third))) None (may some further)))
