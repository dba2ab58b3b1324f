-- Which layout an image tells.
use Rattle.std.specs.Prelude.{ℕ, Option, Some, None, option_and_then, nat_le, if◌then◌else◌}
use Rattle.volume_layout.specs.declared.layout.Layout.{Layout}
use Rattle.volume_layout.specs.Root.{read_root}
use Rattle.fsd_files.specs.Disk.{Image, bytes_at, first_whole}

-- a root counts where so many sectors have room for its layout
abbrev pub counted_root : ℕ → Layout → Option Layout
counted_root sectors l = if nat_le l.sectors sectors then Some l else None

abbrev pub root_at : ℕ → Image → ℕ → Option Layout
root_at sectors i s = option_and_then (counted_root sectors) (option_and_then read_root (bytes_at i s))

-- the root at 0, else that at 4
abbrev pub root_of : ℕ → Image → Option Layout
root_of sectors i = first_whole (root_at sectors i 0) (root_at sectors i 4)
