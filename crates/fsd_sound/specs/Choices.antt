-- Which page lists a sound disk may show.
use Rattle.std.specs.Prelude.{ℕ, List, Contains}
use Rattle.volume_layout.specs.declared.layout.Layout.{Layout}
use Rattle.sector_disk.specs.declared.sector.WeakRun.{WeakRun}
use Rattle.fsd_table.specs.Table.{told_in}
use Rattle.fsd_files.specs.Disk.{Image, in_runs}
use Rattle.fsd_files.specs.Files.{Change}
use Rattle.fsd_sound.specs.Saved.{SavesPages}
use Rattle.fsd_sound.specs.Sound.{ShowsPages, Tells}

-- However its weak run wears, the image shows one of some page lists, and each of them tells a prefix of the changes,
-- with the data of this image, and what its saved map says.
pub record TellsChoices (l : Layout) (windows : List WeakRun) (h : List Change) (f : ℕ) (i : Image) : Type 0 where
  pub choices : List (List (List ℕ))
  pub shows : ShowsPages l windows choices i
  pub tells : (pages : List (List ℕ)) → Contains choices pages → Tells l (in_runs windows) i h f (told_in pages)
  pub saved : (pages : List (List ℕ)) → Contains choices pages → SavesPages l i pages
