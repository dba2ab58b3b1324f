-- An upgrade of a volume to layout 2: when it may be asked for, and what it leaves.
use Rattle.std.specs.Prelude.{◌≡◌, ◌==◌, ◌&&◌, Bool, List, length, not, Some, Result, Ok, Err, is_some}
use Rattle.std.specs.List.{list_any}
use Rattle.volume_layout.specs.declared.kind.Kind.TheVariants.{Three}
use Rattle.volume_layout.specs.Layout.{with_kind}
use Rattle.volume_layout.specs.Root.{root_bytes}
use Rattle.fsd_bytes.specs.declared.refusal.Refusal.{Refusal}
use Rattle.fsd_bytes.specs.declared.refusal.Refusal.TheVariants as Why
use Rattle.sector_disk.specs.Image.{open_damage}
use Rattle.sector_disk.specs.Machine.{Moment}
use Rattle.fsd_log.specs.Scan.{Placed}
use Rattle.fsd_files.specs.Disk.{Sectors, Touches}
use Rattle.fsd_sound.specs.Laid.{StandsTwice}
use Rattle.fsd_sound.specs.Mounted.{Mounted}
use Rattle.volume_contract.specs.State.{Known, LeavesRelaid, Stands, State, volume_of}

-- no record was written in this mount, so that the next one is its first and no page is in the log, and no page waits
abbrev pub is_fresh : State → Bool
is_fresh s = (s.head.number == 1) && not (list_any is_some s.slots) && (length s.dirty == 0)

-- both roots are the volume's, but for what the open window may wear
abbrev pub RootsStand : State → Moment → Type 0
RootsStand s now = StandsTwice 1 (open_damage now.windows) now.image (root_bytes s.layout) 0 4

-- ---- over an honest machine

-- it bears runs of three, and all else is as it was
abbrev pub upgraded_known : Known → Known
upgraded_known k = record k { mounted = record k.mounted { volume = record (volume_of k) { layout = with_kind Three (volume_of k).layout } } }

module _ {S : Type 0} (state : S → State) (has : S → Mounted → List Placed → Type 0) where
  -- a root that says another layout says the one that bears runs of three
  abbrev pub LeavesUpgraded : S → Sectors → (old left : Moment) → Type 0
  LeavesUpgraded s may old left = (k : Known) → Stands state has s k old → LeavesRelaid k (with_kind Three k.mounted.volume.layout) (Touches may old left) old left

  -- it is upgraded, or is already, or a write of a root has failed
  abbrev pub EndsUpgrade : {T : Type 0} → Known → S → Moment → Result T Refusal → Type 0
  EndsUpgrade k new now (Ok x) = Stands state has new (upgraded_known k) now
  EndsUpgrade k new now (Err (Why.Device s)) = (state new).down ≡ Some s
  EndsUpgrade k new now (Err (Why.LayoutIs number)) = Stands state has new k now
  EndsUpgrade k new now (Err other) = ⊥
