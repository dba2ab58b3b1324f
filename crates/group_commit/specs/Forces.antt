-- What a force leaves of a disk that shows some pages.
use Rattle.std.specs.Prelude.{ℕ, List}
use Rattle.sector_disk.specs.declared.sector.WeakRun.{WeakRun}
use Rattle.sector_disk.specs.Machine.{Moment}
use Rattle.fsd_log.specs.Scan.{Placed}
use Rattle.fsd_sound.specs.Sound.{EndIn}
use Rattle.log_thirds.specs.LogValue.{LogValue}
use Rattle.group_commit.specs.Resident.{ResidentValue}
use Rattle.group_commit.specs.Force.{StandsOverDisk, Commits, stamped_by}
use Rattle.group_commit.specs.Newest.{KnowsImages}

-- Whatever pages the old moment shows over this log, the left one shows them, or these with the ones that wait stamped.
abbrev pub ForceLeaves : LogValue → ResidentValue → Moment → Moment → Type 0
ForceLeaves log s old left = (windows : List WeakRun) (records : List Placed) (disk : List (List ℕ)) → EndIn old.windows windows → StandsOverDisk log records disk s windows old.image → KnowsImages log old.image
    → Commits log.layout windows disk (stamped_by log s) old left
