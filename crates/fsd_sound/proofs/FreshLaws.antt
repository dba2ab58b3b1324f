-- The anchor of a new epoch is found where it stands.
use Rattle.std.proofs.Common.{◌≡◌, ℕ, ◌^◌, ◌<◌, ◌≤◌, Bool, true, ◌&&◌, Some, ap, ◌∙◌, arith}
use Rattle.std.specs.Prelude.{option_and_then, nat_le}
use Rattle.std.proofs.lemmas.Bool.{le-leb}
use Rattle.fsd_formats.specs.Anchors.{anchor_bytes, read_anchor, is_anchor}
use Rattle.fsd_formats.proofs.SpellingLaws.{anchor_is_read}
use Rattle.sector_disk.specs.declared.sector.Sector.{Sector}
use Rattle.sector_disk.specs.declared.sector.Sector.TheVariants.{Whole}
use Rattle.sector_disk.specs.Image.{sector_at}
use Rattle.fsd_files.specs.Disk.{Image, bytes_of}
use Rattle.fsd_sound.specs.Anchors.{anchor_at, fresh_anchor}

pub anchor_stands : (epoch : ℕ) (i : Image) (s : ℕ) → 1 ≤ epoch → epoch < 2 ^ 32 → sector_at i s ≡ Whole (anchor_bytes (fresh_anchor epoch)) → anchor_at i s ≡ Some (fresh_anchor epoch)
anchor_stands epoch i s first last stands =
    let fits : is_anchor (fresh_anchor epoch) ≡ true = ap (λ (b : Bool). b && nat_le 0 2 && nat_le 1 1) (le-leb 1 epoch first) in
    ap (λ (x : Sector). option_and_then read_anchor (bytes_of x)) stands
    ∙ anchor_is_read (fresh_anchor epoch) fits last (omega arith)
