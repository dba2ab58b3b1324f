-- What a mount loses: a page both of whose copies are damaged.
use Rattle.std.specs.Prelude.{◌≡◌, ◌⊎◌, ◌<◌, ⊤, ℕ, Some, None}
use Rattle.volume_layout.specs.declared.layout.Layout.{Layout}
use Rattle.sector_disk.specs.Damage.{AreLost}
use Rattle.sector_disk.specs.Image.{IsCalm}
use Rattle.sector_disk.specs.Machine.{Moment}
use Rattle.fsd_formats.specs.declared.anchor.Anchor.{Anchor}
use Rattle.fsd_log.specs.Places.{LieInRecord, last_places}
use Rattle.fsd_files.specs.Disk.{Image}
use Rattle.fsd_sound.specs.Homes.{AreHomesOf}
use Rattle.fsd_sound.specs.Mounting.{HasRoot, IsVolume}
use Rattle.fsd_sound.specs.Roots.{root_of}
use Rattle.fsd_sound.specs.Shown.{records_by, newest}
use Rattle.fsd_sound.specs.declared.fault.MountFault.{MountFault}
use Rattle.fsd_sound.specs.declared.fault.MountFault.TheVariants.{Lost}

-- ---- in the log

-- The sectors are a page's own and its copy in the last record of the image's log that has it.
pub record AreLastOf (sectors : ℕ) (i : Image) (a b : ℕ) : Type 0 where
  pub layout : Layout
  pub anchor : Anchor
  pub found : IsVolume sectors i layout anchor
  pub page : ℕ
  pub within : page < layout.pages
  pub lies : last_places layout anchor.third page (records_by layout i anchor) ≡ Some (a, b)

-- The sectors are a page's own and its copy in a record in the log, by a root of the image; where nothing wears, in the
-- last record of its log that has it.
pub record AreLoggedOn (sectors : ℕ) (old : Moment) (a b : ℕ) : Type 0 where
  pub layout : Layout
  pub root : HasRoot sectors old.image layout
  pub in_record : LieInRecord layout a b
  pub calm : IsCalm old.windows → AreLastOf sectors old.image a b

-- ---- at home

-- The sectors are the two homes of some page.
pub record AreHomes (l : Layout) (a b : ℕ) : Type 0 where
  pub page : ℕ
  pub within : page < l.pages
  pub homes : AreHomesOf l page a b

-- So they are by a root of the image; where nothing wears, by the one that it tells.
pub record AreHomesOn (sectors : ℕ) (old : Moment) (a b : ℕ) : Type 0 where
  pub layout : Layout
  pub root : HasRoot sectors old.image layout
  pub homes : AreHomes layout a b
  pub calm : IsCalm old.windows → root_of sectors old.image ≡ Some layout

-- ---- either

-- the sectors are the two copies of the root, of the anchor, or of a page at home
abbrev pub AreTwinCopies : Layout → (a b : ℕ) → Type 0
AreTwinCopies l a b = ((a ≡ 0) × (b ≡ 4)) ⊎ (((a ≡ 8) × (b ≡ 12)) ⊎ AreHomes l a b)

-- the sectors are the two copies of one page of the image, in its log or at home, or of the root
abbrev pub AreCopiesOn : ℕ → Moment → ℕ → ℕ → Type 0
AreCopiesOn sectors old a b = AreLoggedOn sectors old a b ⊎ (AreHomesOn sectors old a b ⊎ ((a ≡ 0) × (b ≡ 4)))

-- The sectors are the two homes of a page that the image does not show.
pub record AreNotShown (sectors : ℕ) (i : Image) (a b : ℕ) : Type 0 where
  pub layout : Layout
  pub anchor : Anchor
  pub found : IsVolume sectors i layout anchor
  pub page : ℕ
  pub within : page < layout.pages
  pub homes : AreHomesOf layout page a b
  pub none : newest layout i (records_by layout i anchor) page ≡ None

-- nothing is lost that the image shows
abbrev pub LosesShown : ℕ → Image → MountFault → Type 0
LosesShown sectors i (Lost a b) = AreNotShown sectors i a b
LosesShown sectors i fault = ⊤

-- the two copies that the fault tells as lost are damaged in the image
abbrev pub LostIn : (ℕ → ℕ → Type 0) → Image → MountFault → Type 0
LostIn AreCopies image (Lost a b) = AreLost AreCopies image a b
LostIn AreCopies image fault = ⊤
