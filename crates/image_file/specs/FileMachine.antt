-- What a machine over a file tells: its report, and nothing of content.
use Rattle.std.specs.Prelude.{◌<◌, ◌^◌}
use Rattle.sector_disk.specs.Machine.{Report}

pub record Told : Type 0 where
  pub report : Report
  pub small : report.sectors < 2 ^ 32
