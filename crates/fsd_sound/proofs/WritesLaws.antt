-- Where a mount does not write, place by place.
use Rattle.std.proofs.Common.{◌≡◌, ◌≢◌, ◌⊎◌, inl, inr, ⊎_elim, ℕ, ◌+◌, ◌<◌, ◌≤◌, Bool, true, false, ◌&&◌, ◌||◌, ◌==◌, refl, arith}
use Rattle.std.specs.Prelude.{IsFalse, nat_le, nat_lt}
use Rattle.std.proofs.lemmas.Bool.{cases_lt, eqb-false, leb-false, ltb-false, or_parts}
use Rattle.std.proofs.lemmas.Bool.Decides.{nat_tests}
use Rattle.volume_layout.specs.declared.layout.Layout.{Layout}
use Rattle.volume_layout.specs.Layout.{home_a, home_b, map_start}
use Rattle.sector_disk.specs.Machine.{Moment}
use Rattle.fsd_files.specs.Disk.{Sectors}
use Rattle.fsd_sound.specs.Mounted.{SameData}
use Rattle.fsd_sound.specs.Sound.{is_home}
use Rattle.fsd_sound.specs.Writes.{WritesAsMount, force_writes, mount_writes}

-- The sector is neither a root nor an anchor, lies outside the log, and is no page's home.
pub record IsElsewhere (l : Layout) (s : ℕ) : Type 0 where
  pub root : s ≢ 0
  pub root_copy : s ≢ 4
  pub anchor : s ≢ 8
  pub anchor_copy : s ≢ 12
  pub log : (s < 16) ⊎ (home_a l 0 ≤ s)
  pub home : (page : ℕ) → page < l.pages → s ≢ home_a l page
  pub home_copy : (page : ℕ) → page < l.pages → s ≢ home_b l page

not_between : (a b s : ℕ) → (nat_le a s && nat_lt s b) ≡ false → (s < a) ⊎ (b ≤ s)
not_between a b s none = by (nat_le a s) (nat_lt s b) refl refl none
  where
    by : (x y : Bool) → nat_le a s ≡ x → nat_lt s b ≡ y → (x && y) ≡ false → (s < a) ⊎ (b ≤ s)
    by false y low high none = inl (leb-false a s low)
    by true false low high none = inr (ltb-false s b high)
    by true true low high none = absurd (cc none)

pub elsewhere : (l : Layout) (s : ℕ) → IsFalse (mount_writes l s) → IsElsewhere l s
elsewhere l s out =
    let first = or_parts ((s == 0) || (s == 4)) (force_writes l s) out in
    let roots = or_parts (s == 0) (s == 4) first.0 in
    let second = or_parts ((s == 8) || (s == 12) || nat_le 16 s && nat_lt s (home_a l 0)) (is_home l s) first.1 in
    let third = or_parts ((s == 8) || (s == 12)) (nat_le 16 s && nat_lt s (home_a l 0)) second.0 in
    let anchors = or_parts (s == 8) (s == 12) third.0 in
    let homes = or_parts (nat_le (home_a l 0) s && nat_lt s (home_a l l.pages)) (nat_le (home_b l 0) s && nat_lt s (home_b l l.pages)) second.1 in
    record {
      root = eqb-false s 0 roots.0;
      root_copy = eqb-false s 4 roots.1;
      anchor = eqb-false s 8 anchors.0;
      anchor_copy = eqb-false s 12 anchors.1;
      log = not_between 16 (home_a l 0) s third.1;
      home = λ page lt is. ⊎_elim (λ low. omega (arith, low, is)) (λ high. omega (arith, high, is, lt)) (not_between (home_a l 0) (home_a l l.pages) s homes.0);
      home_copy = λ page lt is. ⊎_elim (λ low. omega (arith, low, is)) (λ high. omega (arith, high, is, lt)) (not_between (home_b l 0) (home_b l l.pages) s homes.1);
    }

-- a write of one sector at most lies beside another one
pub beside : (s place count : ℕ) → s ≢ place → count ≤ 1 → (s < place) ⊎ (place + count ≤ s)
beside s place count other once = ⊎_elim (λ low. inl low) (λ high. inr (by high)) (cases_lt s place)
  where
    by : place ≤ s → place + count ≤ s
    by high = ⊎_elim (λ below. absurd (other (omega (arith, below, high)))) (λ above. omega (arith, above, once)) (cases_lt s (place + 1))

-- the map and the data are written by no mount
pub data_elsewhere : (l : Layout) (s : ℕ) → map_start l ≤ s → IsFalse (mount_writes l s)
data_elsewhere l s from = grind (arith, nat_tests)

-- so they stay, but for wear
pub data_stays : (l : Layout) (weak : Sectors) (old left : Moment) → WritesAsMount l weak old left → SameData l weak old.image left.image
data_stays l weak old left rest s from = rest s (data_elsewhere l s from)
