-- What writing the leader of a version leaves.
use Rattle.std.specs.Prelude.{ℕ, ◌≤◌}
use Rattle.fsd_formats.specs.declared.entry.Entry.{Entry}
use Rattle.fsd_formats.specs.Leader.{leader_bytes, leader_of}
use Rattle.sector_disk.specs.Image.{stand}
use Rattle.sector_disk.specs.Machine.{Holds, Moment}
use Rattle.fsd_files.specs.Scrub.{leader_place}

-- The leader is written, or not yet, and no other sector.
pub record WritesLeader (e : Entry) (old left : Moment) : Type 0 where
  pub stood : ℕ
  pub within : stood ≤ 1
  pub holds : Holds old (stand old.image (leader_place e) (leader_bytes (leader_of e)) stood) left
