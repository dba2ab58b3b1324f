-- A disk on which a new epoch has begun.
use Rattle.std.specs.Prelude.{◌≡◌, ◌⊎◌, ℕ, ◌^◌, ◌<◌, ◌≤◌, List, [], ◌∷◌, ◌++◌, length, Some, None, Ok}
use Rattle.volume_layout.specs.declared.layout.Layout.{Layout}
use Rattle.volume_layout.specs.Layout.{IsPlanned}
use Rattle.volume_layout.specs.Root.{root_bytes}
use Rattle.fsd_formats.specs.Anchors.{anchor_bytes}
use Rattle.sector_disk.specs.declared.sector.Sector.TheVariants.{Whole}
use Rattle.sector_disk.specs.declared.sector.WeakRun.{WeakRun}
use Rattle.sector_disk.specs.Image.{sector_at}
use Rattle.sector_disk.specs.Machine.{Moment}
use Rattle.fsd_files.specs.Disk.{Image}
use Rattle.fsd_sound.specs.Anchors.{EachAnchor, fresh_anchor}
use Rattle.fsd_sound.specs.Homes.{StandAtHome}
use Rattle.fsd_sound.specs.Sound.{EachStamp, ShowsPages}

-- Both roots stand, each page stands at both homes, and the log has nothing of this epoch or a later one.
pub record IsHomed (l : Layout) (epoch : ℕ) (pages : List (List ℕ)) (i : Image) : Type 0 where
  pub planned : IsPlanned l
  pub long : l.sectors ≤ length i
  pub root : sector_at i 0 ≡ Whole (root_bytes l)
  pub root_copy : sector_at i 4 ≡ Whole (root_bytes l)
  pub first : 1 ≤ epoch
  pub last : epoch < 2 ^ 32
  pub stamps : EachStamp l i (λ stamp. stamp.epoch < epoch)
  pub size : length pages ≡ l.pages
  pub home : StandAtHome l pages i

-- the anchors of that epoch stand too
pub record IsBegun (l : Layout) (epoch : ℕ) (pages : List (List ℕ)) (i : Image) : Type 0 where
  pub homed : IsHomed l epoch pages i
  pub anchor : sector_at i 8 ≡ Whole (anchor_bytes (fresh_anchor epoch))
  pub anchor_copy : sector_at i 12 ≡ Whole (anchor_bytes (fresh_anchor epoch))

-- each anchor is of an epoch before this one, or is this one's own
abbrev pub AreOlder : (epoch : ℕ) → Image → Type 0
AreOlder epoch i = EachAnchor i (λ a. (a.epoch < epoch) ⊎ (a ≡ fresh_anchor epoch))

-- A run is the present window, and in it the disk shows the pages.
pub record IsMountedIn (l : Layout) (windows : List WeakRun) (run : WeakRun) (pages : List (List ℕ)) (new : Moment) : Type 0 where
  pub settled : new.windows ≡ record { present = Some run; next = None }
  pub shows : ShowsPages l (windows ++ run ∷ []) (pages ∷ []) new.image
