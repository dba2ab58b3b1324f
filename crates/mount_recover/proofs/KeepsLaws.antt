-- The calls of a mount keep the windows, what was said, and each sector where they do not write.
use Rattle.std.proofs.Common.{◌≡◌, ◌≢◌, inl, inr, ℕ, ◌<◌, ◌≤◌, List, refl, subst, ◌∙◌}
use Rattle.volume_layout.specs.declared.layout.Layout.{Layout}
use Rattle.volume_layout.specs.Layout.{home_a, home_b}
use Rattle.sector_disk.specs.Image.{Windows, sector_at, stand, open_damage}
use Rattle.sector_disk.specs.Machine.{Moment, Holds, Wears}
use Rattle.sector_disk.proofs.Wear.{stand_other, worn_twice}
use Rattle.fsd_files.specs.Disk.{Image, SectorWorn}
use Rattle.fsd_sound.proofs.WritesLaws.{beside, elsewhere}
use Rattle.twin_home.specs.Home.{WritesPart}
use Rattle.twin_home.specs.Heal.{Heals, HealsRoots}
use Rattle.mount_recover.specs.Mending.{IsHomeOf, KeepsUnwritten, KeepsBut}
use Rattle.mount_recover.proofs.MendingLaws.{not_home}

-- ---- but for two sectors

-- where one sector is written, once at most, and another
pub two_written : (a b : ℕ) (bytes : List ℕ) (j k : ℕ) → j ≤ 1 → k ≤ 1 → (i : Image) (s : ℕ) → s ≢ a → s ≢ b → sector_at (stand (stand i a bytes j) b bytes k) s ≡ sector_at i s
two_written a b bytes j k once twice i s not_a not_b = stand_other (stand i a bytes j) b bytes k s (beside s b k not_b twice) ∙ stand_other i a bytes j s (beside s a j not_a once)

but_holds : (a b : ℕ) (old new : Moment) (image : Image) → Holds old image new → ((s : ℕ) → s ≢ a → s ≢ b → sector_at image s ≡ sector_at old.image s) → KeepsBut a b old new
but_holds a b old new image holds same = record {
  windows = holds.windows;
  said = holds.said;
  others = λ s not_a not_b. worn_twice (open_damage old.windows s) (sector_at old.image s) (sector_at image s) (sector_at new.image s) (inl (same s not_a not_b)) (holds.worn.each s);
}

pub but_part : (place : ℕ) (bytes : List ℕ) (old new : Moment) → WritesPart place bytes old new → KeepsBut place place old new
but_part place bytes old new part = but_holds place place old new (stand old.image place bytes part.stood) part.holds
    (λ s other again. stand_other old.image place bytes part.stood s (beside s place part.stood other part.within))

pub but_heals : (a b : ℕ) (old new : Moment) → Heals a b old new → KeepsBut a b old new
but_heals a b old new (inl holds) = but_holds a b old new old.image holds (λ s not_a not_b. refl)
but_heals a b old new (inr (inl mends)) = but_holds a b old new (stand old.image a mends.bytes mends.part.stood) mends.part.holds
    (λ s not_a not_b. stand_other old.image a mends.bytes mends.part.stood s (beside s a mends.part.stood not_a mends.part.within))
but_heals a b old new (inr (inr mends)) = but_holds a b old new (stand old.image b mends.bytes mends.part.stood) mends.part.holds
    (λ s not_a not_b. stand_other old.image b mends.bytes mends.part.stood s (beside s b mends.part.stood not_b mends.part.within))

pub but_roots : (bytes : List ℕ) (old new : Moment) → HealsRoots bytes old new → KeepsBut 0 4 old new
but_roots bytes old new roots = but_holds 0 4 old new (stand (stand old.image 0 bytes roots.first) 4 bytes roots.second) roots.holds
    (two_written 0 4 bytes roots.first roots.second roots.once roots.once_more old.image)

-- it was read before
pub but_then : (a b : ℕ) (old mid new : Moment) → Wears old mid → KeepsBut a b mid new → KeepsBut a b old new
but_then a b old mid new wears but = record {
  windows = but.windows ∙ wears.windows;
  said = but.said ∙ wears.said;
  others = λ s not_a not_b. worn_twice (open_damage old.windows s) (sector_at old.image s) (sector_at mid.image s) (sector_at new.image s) (wears.image.each s)
      (subst (λ (w : Windows). SectorWorn (open_damage w s) (sector_at mid.image s) (sector_at new.image s)) wears.windows (but.others s not_a not_b));
}

-- it was only read
pub but_read : (a b : ℕ) (old new : Moment) → Wears old new → KeepsBut a b old new
but_read a b old new wears = record { windows = wears.windows; said = wears.said; others = λ s not_a not_b. wears.image.each s }

-- ---- but where a mount writes

pub keeps_none : (l : Layout) (old : Moment) → KeepsUnwritten l old old
keeps_none l old = record { windows = refl; said = refl; rest = λ s out. inl refl }

pub keeps_on : (l : Layout) (a b c : Moment) → KeepsUnwritten l a b → KeepsUnwritten l b c → KeepsUnwritten l a c
keeps_on l a b c first second = record {
  windows = second.windows ∙ first.windows;
  said = second.said ∙ first.said;
  rest = λ s out. worn_twice (open_damage a.windows s) (sector_at a.image s) (sector_at b.image s) (sector_at c.image s) (first.rest s out)
      (subst (λ (w : Windows). SectorWorn (open_damage w s) (sector_at b.image s) (sector_at c.image s)) first.windows (second.rest s out));
}

pub keeps_page : (l : Layout) (page : ℕ) → page < l.pages → (old new : Moment) → KeepsBut (home_a l page) (home_b l page) old new → KeepsUnwritten l old new
keeps_page l page lt old new but = record {
  windows = but.windows;
  said = but.said;
  rest = λ s out. let is = elsewhere l s out in but.others s (is.home page lt) (is.home_copy page lt);
}

-- one home of it
pub keeps_home : (l : Layout) (page : ℕ) → page < l.pages → (place : ℕ) → IsHomeOf l page place → (old new : Moment) → KeepsBut place place old new → KeepsUnwritten l old new
keeps_home l page lt place home old new but = record {
  windows = but.windows;
  said = but.said;
  rest = λ s out. let is = elsewhere l s out in let other = not_home l page place s home (is.home page lt) (is.home_copy page lt) in but.others s other other;
}

pub keeps_roots : (l : Layout) (old new : Moment) → KeepsBut 0 4 old new → KeepsUnwritten l old new
keeps_roots l old new but = record {
  windows = but.windows;
  said = but.said;
  rest = λ s out. let is = elsewhere l s out in but.others s is.root is.root_copy;
}
