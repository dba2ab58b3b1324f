-- The spot of the next record, and what does not bear a stamp.
use Rattle.std.proofs.Common.{◌≡◌, ℕ, ◌+◌, ◌<◌, ◌≤◌, Bool, true, false, List, Option, Some, None, nat_lt, refl, sym, ap, subst, ◌∙◌, arith, inl, inr, ◌⊎◌}
use Rattle.std.proofs.lemmas.Bool.{cond-true, cond-false, lt-ltb, ltb-true, cases_lt}
use Rattle.volume_layout.specs.Shape.{Shape}
use Rattle.volume_layout.specs.Kinds.{gap_of}
use Rattle.fsd_formats.specs.Record.{Stamp, record_len}
use Rattle.fsd_log.specs.Judged.{Reader}
use Rattle.fsd_log.specs.Borne.{borne_by, Foreign}
use Rattle.fsd_log.specs.Scan.{Head, window}
use Rattle.fsd_log.proofs.WalkLaws.{stamp_of, MayEnter}

-- the spot of the new record
pub record IsSpot (l : Shape) (n : ℕ) (h spot : Head) : Type 0 where
  pub number : spot.number ≡ h.number
  pub place : ((spot.at ≡ h.at) × (spot.end ≡ h.end)) ⊎ (MayEnter l h × (spot.at ≡ h.end) × (spot.end ≡ h.end + l.third))
  pub fits : spot.at + record_len (gap_of l) n ≤ spot.end

pub none_foreign : (stamp : Stamp) → Foreign stamp None
none_foreign stamp e = absurd (cc e)

pub window_foreign : (stamp : Stamp) (disk : Reader) (at room : ℕ) → ((k : ℕ) → k < room → Foreign stamp (disk (at + k))) → (k : ℕ) → Foreign stamp (window disk at room k)
window_foreign stamp disk at room all k = elim (cases_lt k room) [
  | inl lt ↦ subst (Foreign stamp) (sym (cond-true (nat_lt k room) (disk (at + k)) None (lt-ltb k room lt))) (all k lt)
  | inr past ↦ subst (Foreign stamp) (sym (cond-false (nat_lt k room) (disk (at + k)) None (not_below k room past))) (none_foreign stamp)
]
  where
    not_below : (k room : ℕ) → room ≤ k → nat_lt k room ≡ false
    not_below k room past = by_test (nat_lt k room) refl
      where
        by_test : (b : Bool) → nat_lt k room ≡ b → b ≡ false
        by_test true is = absurd (let lt : k < room = ltb-true k room is in omega arith)
        by_test false is = refl

pub two_stamps : (epoch a b : ℕ) (bytes : List ℕ) → borne_by bytes ≡ Some (stamp_of epoch a) → borne_by bytes ≡ Some (stamp_of epoch b) → a ≡ b
two_stamps epoch a b bytes ea eb = ap number_of (sym ea ∙ eb)
  where
    number_of : Option Stamp → ℕ
    number_of None = 0
    number_of (Some s) = s.number
