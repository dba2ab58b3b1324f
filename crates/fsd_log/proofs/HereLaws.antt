-- Where a record is looked for.
use Rattle.std.proofs.Common.{◌≡◌, ℕ, ◌<◌, ◌≤◌, Bool, true, false, cond, Option, Some, None, nat_lt, refl}
use Rattle.std.proofs.lemmas.Bool.{cond-true, cond-false, ltb-true, lt-ltb, le-ltb}
use Rattle.volume_layout.specs.Shape.{Shape}
use Rattle.volume_layout.specs.Kinds.{gap_of}
use Rattle.fsd_log.specs.Judged.{Reader, Logged, record_in}
use Rattle.fsd_log.specs.Scan.{last_number, room_at, window, record_here}

module _ (l : Shape) (epoch : ℕ) (disk : Reader) (number at end : ℕ) where
  abbrev pub looked : Option Logged
  looked = record_in (gap_of l) l.pages (record { epoch = epoch; number = number }) (room_at at end) (window disk at (room_at at end))

  pub here_looks : number < last_number → record_here l epoch disk number at end ≡ looked
  here_looks lt = cond-true (nat_lt number last_number) looked None (lt-ltb number last_number lt)

  pub here_last : last_number ≤ number → record_here l epoch disk number at end ≡ None
  here_last ge = cond-false (nat_lt number last_number) looked None (le-ltb number last_number ge)

  pub here_none : looked ≡ None → record_here l epoch disk number at end ≡ None
  here_none none = by_test (nat_lt number last_number)
    where
      by_test : (b : Bool) → cond b looked None ≡ None
      by_test true = none
      by_test false = refl

  pub here_some : (r : Logged) → record_here l epoch disk number at end ≡ Some r → (number < last_number) × (looked ≡ Some r)
  here_some r is = by_test (nat_lt number last_number) refl is
    where
      by_test : (b : Bool) → nat_lt number last_number ≡ b → cond b looked None ≡ Some r → (number < last_number) × (looked ≡ Some r)
      by_test true e is = (ltb-true number last_number e, is)
      by_test false e is = absurd (cc)
