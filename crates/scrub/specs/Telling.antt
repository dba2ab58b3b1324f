-- What a refused call tells of the image, by the layout of its volume alone.
use Rattle.std.specs.Prelude.{◌≡◌, ◌⊎◌, ◌<◌, ⊤, ℕ}
use Rattle.volume_layout.specs.declared.layout.Layout.{Layout}
use Rattle.volume_layout.specs.Layout.{home_a}
use Rattle.fsd_bytes.specs.declared.refusal.Refusal.{Refusal}
use Rattle.fsd_bytes.specs.declared.refusal.Refusal.TheVariants as Why
use Rattle.fsd_log.specs.Places.{LieInRecord}
use Rattle.sector_disk.specs.Damage.{AreLost}
use Rattle.fsd_files.specs.Disk.{Image}
use Rattle.fsd_sound.specs.Lost.{AreHomes, AreTwinCopies}

-- the sectors are two copies of one page: its own and its copy in a record in the log, or its homes
abbrev pub AreOfPage : Layout → (a b : ℕ) → Type 0
AreOfPage l a b = LieInRecord l a b ⊎ AreHomes l a b

-- the sectors are a page's own and its copy in a record in the log; or the two copies of the root, of the anchor,
-- or of a page at home
abbrev pub StandTwice : Layout → (a b : ℕ) → Type 0
StandTwice l a b = LieInRecord l a b ⊎ AreTwinCopies l a b

-- it is the home of a page of the table
abbrev pub IsHomeOfPage : Layout → ℕ → Type 0
IsHomeOfPage l s = (page : ℕ) × (page < l.pages) × (s ≡ home_a l page)

-- what is told as lost is both copies, damaged in the image, and a page that is told as unsound is one of the table
abbrev pub TellsOn : Layout → Image → Refusal → Type 0
TellsOn l i (Why.Lost a b) = AreLost (StandTwice l) i a b
TellsOn l i (Why.Unsound s) = IsHomeOfPage l s
TellsOn l i why = ⊤
