-- Which anchor an image has.
use Rattle.std.specs.Prelude.{ℕ, Option, IfSome}
use Rattle.fsd_formats.specs.declared.anchor.Anchor.{Anchor}
use Rattle.fsd_log.specs.Scan.{anchor_in, anchor_on}
use Rattle.fsd_files.specs.Disk.{Image, bytes_at}

abbrev pub anchor_at : Image → ℕ → Option Anchor
anchor_at i s = anchor_in (bytes_at i s)

-- the newer of its two copies
abbrev pub anchor_of : Image → Option Anchor
anchor_of i = anchor_on (bytes_at i)

-- P of each copy that stands
abbrev pub EachAnchor : Image → (Anchor → Type 0) → Type 0
EachAnchor i P = IfSome (anchor_at i 8) P × IfSome (anchor_at i 12) P

-- the anchor of an epoch in which nothing was logged
abbrev pub fresh_anchor : ℕ → Anchor
fresh_anchor epoch = record { epoch = epoch; third = 0; first = 1 }
