-- What healing all that stands twice outside the log leaves.
use Rattle.std.specs.Prelude.{ℕ, zero, suc, ◌<◌, List, [], ◌∷◌, IsTrue}
use Rattle.std.specs.List.{flat_map, range_with_len}
use Rattle.volume_layout.specs.declared.layout.Layout.{Layout}
use Rattle.volume_layout.specs.Layout.{home_a, home_b}
use Rattle.sector_disk.specs.Machine.{Moment, Holds}
use Rattle.fsd_files.specs.Kept.{IsWhole}
use Rattle.fsd_files.specs.Scrub.{CountsNeeds, ReadsDamaged}
use Rattle.fsd_sound.specs.Homes.{HasBothHomes, HasSome}
use Rattle.fsd_sound.specs.Sound.{is_twin}
use Rattle.twin_home.specs.Heal.{Heals}

-- ---- what a stop leaves

-- Of each of so many first pages one home is written from the other, or neither, page after page.
abbrev pub HealsPages : Layout → (count : ℕ) → Moment → Moment → Type 0
HealsPages l zero old left = Holds old old.image left
HealsPages l (suc page) old left = (mid : Moment) × HealsPages l page old mid × Heals (home_a l page) (home_b l page) mid left

-- So it is of the roots, then of the anchors, and then of all pages.
pub record HealsTwins (l : Layout) (old left : Moment) : Type 0 where
  pub roots_at : Moment
  pub anchors_at : Moment
  pub roots : Heals 0 4 old roots_at
  pub anchors : Heals 8 12 roots_at anchors_at
  pub pages : HealsPages l l.pages anchors_at left

-- ---- what is healed

-- the homes of so many first pages
abbrev pub first_homes : Layout → (count : ℕ) → List ℕ
first_homes l count = flat_map (λ page. home_a l page ∷ home_b l page ∷ []) (range_with_len 0 count)

-- of these so many read damaged, and the others are whole
abbrev pub CountsHomes : Layout → (pages : ℕ) → Moment → ℕ → Type 0
CountsHomes l pages old count = CountsNeeds (ReadsDamaged old) (IsWhole old.image) (first_homes l pages) count

abbrev pub HomesStand : Layout → (count : ℕ) → Moment → Type 0
HomesStand l count now = (page : ℕ) → page < count → HasBothHomes l now page

abbrev pub TwinsHaveSome : Layout → Moment → Type 0
TwinsHaveSome l now = (s : ℕ) → IsTrue (is_twin l s) → HasSome now s
