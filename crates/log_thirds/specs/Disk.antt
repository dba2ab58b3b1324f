-- What the sectors of a disk give.
use Rattle.std.specs.Prelude.{List}
use Rattle.sector_disk.specs.declared.sector.Sector.{Sector}
use Rattle.sector_disk.specs.Image.{bytes_of, sector_at}
use Rattle.fsd_log.specs.Judged.{Reader}

abbrev pub reads : List Sector → Reader
reads image s = bytes_of (sector_at image s)
