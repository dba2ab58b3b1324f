-- What a mount writes at most, by a root of the image; its pages at home.
use Rattle.std.specs.Prelude.{◌≡◌, ◌⊎◌, ◌+◌, ◌<◌, ◌≤◌, ℕ}
use Rattle.volume_layout.specs.declared.layout.Layout.{Layout}
use Rattle.fsd_formats.specs.declared.anchor.Anchor.{Anchor}
use Rattle.sector_disk.specs.Machine.{Ledger, Moment}
use Rattle.fsd_files.specs.Disk.{Image}
use Rattle.fsd_sound.specs.Homes.{home_of}
use Rattle.fsd_sound.specs.Mounting.{HasRoot}
use Rattle.fsd_sound.specs.Shown.{records_by, newest}
use Rattle.mount_recover.specs.Recover.{writes_most}

-- Nothing was written; or there is a root of the image by whose layout no more was written than a mount writes.
abbrev pub WritesMost : ℕ → Moment → (before after : Ledger) → Type 0
WritesMost sectors old before after = (after.written ≡ before.written) ⊎ ((l : Layout) × HasRoot sectors old.image l × (after.written ≤ before.written + writes_most l.pages))

-- each page stands at home of the image j as the image i showed it
abbrev pub StandAsShown : Layout → Anchor → Image → Image → Type 0
StandAsShown l a i j = (page : ℕ) → page < l.pages → home_of l j page ≡ newest l i (records_by l i a) page
