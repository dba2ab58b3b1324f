-- A page that is written home.
use Rattle.std.proofs.Common.{◌≡◌, ℕ, ◌/◌, List, length, arith}
use Rattle.volume_layout.specs.declared.layout.Layout.{Layout}
use Rattle.volume_layout.specs.Layout.{home_a, home_b}
use Rattle.sector_disk.specs.Image.{stand}
use Rattle.sector_disk.specs.Machine.{Moment, Tears, Holds}
use Rattle.sector_disk.proofs.Holding.{holds_now, holds_tears, holds_on}
use Rattle.twin_home.specs.Home.{WritesPart, with_homes, HomesIn}

module _ (place : ℕ) (bytes : List ℕ) (long : length bytes ≡ 512) (old left : Moment) where
  one : length bytes / 512 ≡ 1
  one = omega (arith, long)

  pub torn_part : Tears place bytes old left → WritesPart place bytes old left
  torn_part torn =
      let some = holds_tears old old.image old left (holds_now old) place bytes torn in
      record { stood = some.stood; within = omega (arith, some.some, one); holds = some.holds }

module _ (l : Layout) (page : ℕ) (bytes : List ℕ) (long : length bytes ≡ 512) (old : Moment) where
  pub first_only : (left : Moment) → Tears (home_a l page) bytes old left → HomesIn l page bytes old left
  first_only left torn =
      let part = torn_part (home_a l page) bytes long old left torn in record { first = part.stood; second = 0; in_order = omega arith; once = part.within; holds = part.holds }

  pub then_second : (mid left : Moment) → Holds old (stand old.image (home_a l page) bytes 1) mid → Tears (home_b l page) bytes mid left → HomesIn l page bytes old left
  then_second mid left first torn =
      let part = torn_part (home_b l page) bytes long mid left torn in record {
        first = 1;
        second = part.stood;
        in_order = part.within;
        once = omega arith;
        holds = holds_on old mid left (stand old.image (home_a l page) bytes 1) (home_b l page) bytes part.stood first part.holds;
      }

  pub both_stand : (mid left : Moment) → Holds old (stand old.image (home_a l page) bytes 1) mid → Holds mid (stand mid.image (home_b l page) bytes 1) left → Holds old (with_homes l page bytes old.image 1 1) left
  both_stand mid left first second = holds_on old mid left (stand old.image (home_a l page) bytes 1) (home_b l page) bytes 1 first second
