-- A volume with more sectors, by its parts.
use Rattle.std.specs.Prelude.{ℕ, [], ◌∷◌}
use Rattle.volume_layout.specs.Layout.{with_sectors}
use Rattle.sector_set.specs.Area.{together}
use Rattle.shadow_frees.specs.Waits.{run_between}
use Rattle.log_thirds.specs.Append.{of_layout}
use Rattle.volume_laws.specs.Volume.{VolumeValue}

-- the volume of so many sectors: those behind the old ones are free
abbrev pub value_grown : ℕ → VolumeValue → VolumeValue
value_grown n v = record v {
  layout = with_sectors n v.layout;
  map = together v.map (run_between (v.layout.sectors, n) ∷ []);
  log = of_layout (with_sectors n v.layout) v.log;
}
