-- A sector is whole or damaged, and whole by one list of bytes.
use Rattle.std.proofs.Common.{◌≡◌, ◌⊎◌, inl, inr, ℕ, Bool, List, refl, sym, ◌∙◌}
use Rattle.std.specs.Prelude.{IsTrue}
use Rattle.sector_disk.specs.declared.sector.Sector.{Sector}
use Rattle.sector_disk.specs.declared.sector.Sector.TheVariants.{Whole, Damaged}
use Rattle.sector_disk.specs.Image.{sector_at}
use Rattle.fsd_files.specs.Disk.{Image, Sectors, SectorWorn, Has}

pub whole_or_damaged : (x : Sector) → ((bytes : List ℕ) × (x ≡ Whole bytes)) ⊎ (x ≡ Damaged)
whole_or_damaged (Whole bytes) = inl (bytes, refl)
whole_or_damaged Damaged = inr refl

pub same_bytes : (s : Sector) (x y : List ℕ) → s ≡ Whole x → s ≡ Whole y → y ≡ x
same_bytes s x y a b = let e : Whole y ≡ Whole x = sym b ∙ a in cc

pub not_damaged : (s : Sector) (x : List ℕ) → s ≡ Whole x → s ≡ Damaged → ⊥
not_damaged s x is hurt = absurd (cc (is, hurt))

-- what stands whole stood so before it was worn
pub whole_before : (b : Bool) (x y : Sector) (bytes : List ℕ) → SectorWorn b x y → y ≡ Whole bytes → x ≡ Whole bytes
whole_before b x y bytes (inl same) is = sym same ∙ is
whole_before b x y bytes (inr hurt) is = absurd (cc (is, hurt.1))

-- ---- what has its bytes, or is weak and damaged

pub has_bytes : (weak : Sectors) (i : Image) (x bytes : List ℕ) (s : ℕ) → Has weak i x s → sector_at i s ≡ Whole bytes → x ≡ bytes
has_bytes weak i x bytes s (inl is) there = same_bytes (sector_at i s) bytes x there is
has_bytes weak i x bytes s (inr hurt) there = absurd (not_damaged (sector_at i s) bytes there hurt.1)

pub has_weak : (weak : Sectors) (i : Image) (x : List ℕ) (s : ℕ) → Has weak i x s → sector_at i s ≡ Damaged → IsTrue (weak s)
has_weak weak i x s (inl is) hurt = absurd (not_damaged (sector_at i s) x is hurt)
has_weak weak i x s (inr at) hurt = at.0
