-- Images that are laid one over another, worn.
use Rattle.std.proofs.Common.{◌≡◌, ℕ, ◌+◌, ◌/◌, List, length, set, sym, ap, subst, arith, add-one}
use Rattle.sector_disk.specs.declared.sector.Sector.{Sector}
use Rattle.sector_disk.specs.declared.sector.Sector.TheVariants.{Whole}
use Rattle.sector_disk.specs.Image.{lay, stand, slice_of}
use Rattle.sector_disk.specs.Machine.{Moment, Holds, Writes}
use Rattle.sector_disk.proofs.Wear.{set_worn}
use Rattle.sector_disk.proofs.Holding.{holds_now, holds_writes}
use Rattle.sector_disk.specs.Image.{with_sector}
use Rattle.version_data.proofs.LayLaws.{Monotone, holds_then}
use Rattle.fsd_log.proofs.LaidLaws.{slice_all}

pub monotone_sector : (place : ℕ) (bytes : List ℕ) → Monotone (λ image. with_sector image place bytes)
monotone_sector place bytes = record { worn = λ may a b worn. set_worn may a b place (Whole bytes) worn }

pub holds_sector : (old new : Moment) (place : ℕ) (bytes : List ℕ) → length bytes ≡ 512 → Writes place bytes old new → Holds old (with_sector old.image place bytes) new
holds_sector old new place bytes size written =
    let one : length bytes / 512 ≡ 1 = ap (λ (n : ℕ). n / 512) size in
    let here : place + 0 ≡ place = omega arith in
    let laid = subst (λ (n : ℕ). Holds old (stand old.image place bytes n) new) one (holds_writes old old.image old new (holds_now old) place bytes written) in
    let moved = subst (λ (p : ℕ). Holds old (set old.image p (Whole (slice_of bytes 0))) new) here laid in
    subst (λ (b : List ℕ). Holds old (set old.image place (Whole b)) new) (slice_all bytes size) moved

-- one sector more of a row
pub holds_row : (old mid new : Moment) (first : ℕ) (sector : ℕ → Sector) (k : ℕ) (bytes : List ℕ) → Whole bytes ≡ sector k
    → Holds old (lay old.image first sector k) mid → Holds mid (with_sector mid.image (first + k) bytes) new → Holds old (lay old.image first sector (k + 1)) new
holds_row old mid new first sector k bytes is so_far next =
    let more = holds_then (λ image. with_sector image (first + k) bytes) old mid new (lay old.image first sector k) (monotone_sector (first + k) bytes) so_far next in
    let here = subst (λ (x : Sector). Holds old (set (lay old.image first sector k) (first + k) x) new) is more in
    subst (λ (n : ℕ). Holds old (lay old.image first sector n) new) (sym (add-one k)) here
