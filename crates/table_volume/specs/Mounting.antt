-- The volume that a mount makes.
use Rattle.std.specs.Prelude.{◌≡◌, ℕ, false, List, [], None, Result, Ok, Err, replicate}
use Rattle.volume_layout.specs.declared.layout.Layout.{Layout}
use Rattle.volume_layout.specs.Layout.{data_start, most_of}
use Rattle.sector_set.specs.Area.{Area, area}
use Rattle.shadow_frees.specs.Waits.{Waits}
use Rattle.sector_disk.specs.Machine.{Moment}
use Rattle.fsd_sound.specs.declared.fault.MountFault.{MountFault}
use Rattle.fsd_sound.specs.declared.fault.MountFault.TheVariants.{Memory}
use Rattle.fsd_files.specs.Files.{Files}
use Rattle.fsd_sound.specs.Mounted.{Mounted}
use Rattle.fsd_table.specs.Table.{Telling}
use Rattle.log_thirds.specs.LogValue.{FitsLayout, LogValue}
use Rattle.mount_recover.specs.Recover.{IsFreshLog}
use Rattle.saved_map.specs.declared.believing.SavedMap.{SavedMap}
use Rattle.cached_table.specs.Opening.{IsNoTable, IsOpened, IsTableOf, home_pages, opened_by}
use Rattle.volume_laws.specs.Volume.{VolumeValue}
use Rattle.cached_table.specs.declared.opening.Opened.{Opened}

-- no sector of the data area, with room for the most
abbrev pub no_area : Layout → Area
no_area l = area (data_start l) (most_of l) (λ s. false)

-- nothing waits, and no reader holds anything
abbrev pub none_waits : Layout → Waits
none_waits l = record { removed = no_area l; kept = no_area l; unfinished = no_area l; held = replicate 8 None }

-- with what was opened, and a log of its epoch
abbrev pub assembled : Layout → LogValue → Opened → VolumeValue
assembled l log o = record {
  layout = l;
  map = o.map;
  shadow = none_waits l;
  log = log;
  cache = o.cache;
  free_pages = o.free_pages;
  serial = record { epoch = log.anchor.epoch; count = 1 };
  versions = o.versions;
  down = None;
}

-- the volume of these pages, which tell this of these files, with nothing logged yet and nothing that waits
abbrev pub fresh_mounted : Layout → LogValue → List (List ℕ) → Telling → Files → Mounted
fresh_mounted l log pages telling files = record {
  volume = record {
    layout = l;
    files = files;
    entries = telling.entries;
    removed = [];
    held = [];
    drafts = [];
    reached = telling.reached;
    unforced = 0;
    serial = record { epoch = log.anchor.epoch; count = 1 };
  };
  pages = pages;
  dirty = [];
  anchor = log.anchor;
  head = log.head;
  slices = [];
  bytes = [];
}

-- what of a volume was opened
abbrev pub opened_of : VolumeValue → Opened
opened_of v = record { cache = v.cache; free_pages = v.free_pages; map = v.map; versions = v.versions }

-- what is opened where the pages at home are known: they are a table, or no table
abbrev pub OpensTable : Layout → Moment → Result Opened MountFault → Type 0
OpensTable l at (Ok o) = IsTableOf l (home_pages l at.image) o
OpensTable l at (Err fault) = IsNoTable l (home_pages l at.image) fault

-- so it is of a volume
abbrev pub OpensKnown : Layout → Moment → Result VolumeValue MountFault → Type 0
OpensKnown l at (Ok v) = IsTableOf l (home_pages l at.image) (opened_of v)
OpensKnown l at (Err fault) = IsNoTable l (home_pages l at.image) fault

-- what is opened by a saved map; only memory may be refused
abbrev pub OpensBy : SavedMap → Result Opened MountFault → Type 0
OpensBy saved (Ok o) = o ≡ opened_by saved
OpensBy saved (Err fault) = fault ≡ Memory

-- so it is of a volume
abbrev pub OpensSaved : SavedMap → Result VolumeValue MountFault → Type 0
OpensSaved saved (Ok v) = opened_of v ≡ opened_by saved
OpensSaved saved (Err fault) = fault ≡ Memory

-- The volume of this layout and this log, in which nothing is logged yet, with what was opened.
pub record IsAssembled (l : Layout) (log : LogValue) (v : VolumeValue) : Type 0 where
  pub is : v ≡ assembled l log (opened_of v)
  pub fresh : IsFreshLog l log
  pub fits : FitsLayout log
  pub opened : IsOpened l (opened_of v)
