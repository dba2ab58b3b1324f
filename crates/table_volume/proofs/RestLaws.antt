-- What a mount writes, and how much: its reading of the name table writes nothing.
use Rattle.std.proofs.Common.{◌≡◌, inl, inr, ◌+◌, ◌≤◌, Bool, ◌||◌, sym, ap, subst, ◌∙◌, arith}
use Rattle.std.proofs.lemmas.Bool.{or_right}
use Rattle.volume_layout.specs.declared.layout.Layout.{Layout}
use Rattle.sector_disk.specs.declared.sector.Sector.{Sector}
use Rattle.sector_disk.specs.Image.{Windows, open_damage, sector_at}
use Rattle.sector_disk.specs.Machine.{Ledger, Moment, Wears}
use Rattle.fsd_files.specs.Disk.{SectorWorn}
use Rattle.fsd_sound.specs.Writes.{KeepsElsewhere}
use Rattle.log_thirds.specs.LogValue.{LogValue}
use Rattle.mount_recover.specs.Recover.{writes_most}
use Rattle.volume_contract.specs.Mount.{CountsMount}
use Rattle.table_volume.specs.Mounting.{IsAssembled}
use Rattle.volume_laws.specs.State.{state}
use Rattle.volume_laws.specs.Volume.{VolumeValue}

-- worn more, in the later windows
worn_later : (a b : Bool) (x y z : Sector) → SectorWorn (a || b) x y → SectorWorn b y z → SectorWorn (a || b) x z
worn_later a b x y z first (inr hurt) = inr (or_right a b hurt.0, hurt.1)
worn_later a b x y z (inl same) (inl again) = inl (again ∙ same)
worn_later a b x y z (inr hurt) (inl again) = inr (hurt.0, again ∙ hurt.1)

-- what is not written stays so while it is read
pub rest_read : (l : Layout) (old mid new : Moment) → KeepsElsewhere l old mid → Wears mid new → KeepsElsewhere l old new
rest_read l old mid new keeps wears s out =
    let still = sym wears.windows in
    worn_later (open_damage old.windows s) (open_damage new.windows s) (sector_at old.image s) (sector_at mid.image s) (sector_at new.image s)
    (subst (λ (w : Windows). SectorWorn (open_damage old.windows s || open_damage w s) (sector_at old.image s) (sector_at mid.image s)) still (keeps s out))
    (subst (λ (w : Windows). SectorWorn (open_damage w s) (sector_at mid.image s) (sector_at new.image s)) still (wears.image.each s))

-- no more is counted than what was written before
pub counts_mount : (l : Layout) (log : LogValue) (old mid new : Ledger) → old.written ≤ mid.written → mid.written ≤ old.written + writes_most l.pages → new ≡ mid → (v : VolumeValue) → IsAssembled l log v → CountsMount (state v) old new
counts_mount l log old mid new low high same v a =
    let pages : v.layout.pages ≡ l.pages = ap (λ (x : VolumeValue). x.layout.pages) a.is in
    let written : new.written ≡ mid.written = ap (λ (x : Ledger). x.written) same in
    (omega (arith, low, written), omega (arith, high, written, pages))
