-- What a mount tells as a fault.
use Rattle.std.proofs.Common.{◌≡◌, ℕ, List, Result, Ok, Err, refl, sym, ap, subst, ◌∙◌, arith}
use Rattle.std.specs.Prelude.{IfErr, IsErrAnd, MatchResult, OnOk}
use Rattle.volume_layout.specs.declared.layout.Layout.{Layout}
use Rattle.volume_layout.specs.Layout.{home_a, home_b}
use Rattle.sector_disk.specs.declared.machine.LoadFault.{LoadFault}
use Rattle.sector_disk.specs.declared.machine.LoadFault.TheVariants as load
use Rattle.sector_disk.specs.declared.sector.Sector.TheVariants.{Damaged}
use Rattle.sector_disk.specs.declared.sector.WeakRun.{WeakRun}
use Rattle.sector_disk.specs.Damage.{AreLost, LostCause, IsDevice}
use Rattle.sector_disk.specs.Image.{sector_at}
use Rattle.sector_disk.specs.Calls.{load_failed_at}
use Rattle.fsd_files.specs.Disk.{Image}
use Rattle.fsd_sound.specs.Sound.{ShowsPages, weak_of}
use Rattle.fsd_sound.specs.Windows.{IsNarrow}
use Rattle.fsd_sound.proofs.TwinLaws.{twin_a, twin_b}
use Rattle.fsd_sound.specs.declared.fault.MountFault.{MountFault}
use Rattle.fsd_sound.specs.declared.fault.MountFault.TheVariants.{NotVolume, Device, Lost, NoAnchor, Unsound}
use Rattle.log_thirds.specs.declared.fault.LogFault.{LogFault}
use Rattle.log_thirds.specs.declared.fault.LogFault.TheVariants as log
use Rattle.log_thirds.specs.declared.reading.ReadFault.TheVariants as read
use Rattle.log_thirds.specs.Reading.{log_failed_at}
use Rattle.mount_recover.specs.Finding.{IsExcuse, mount_fault_of}
use Rattle.fsd_sound.specs.Lost.{AreHomes, LostIn}
use Rattle.sector_disk.specs.Machine.{Moment, Wears}
use Rattle.mount_recover.specs.Recover.{IsNotUnsound, LeavesAll}
use Rattle.fsd_sound.specs.Mounting.{device_of_mount}
use Rattle.mount_recover.specs.Mending.{AreRoots, IsLoadFault}
use Rattle.fsd_sound.specs.Mounting.{load_fault_of}

pub load_excused : (fault : LoadFault) → IsDevice fault → IsExcuse (load_fault_of fault)
load_excused (load.Device s) device = tt
load_excused (load.Lost a b) device = absurd device

-- an excuse tells nothing that is lost
pub excuse_lost : (AreCopies : ℕ → ℕ → Type 0) (image : Image) (fault : MountFault) → IsExcuse fault → LostIn AreCopies image fault
excuse_lost AreCopies image (Lost a b) excuse = absurd excuse
excuse_lost AreCopies image other excuse = tt

-- what was read is not lost
pub load_not_lost : (AreCopies : ℕ → ℕ → Type 0) (image : Image) (fault : LoadFault) (told : MountFault) → told ≡ load_fault_of fault → ((a b : ℕ) → AreLost AreCopies image a b → ⊥) → LostCause AreCopies image fault → IsExcuse told
load_not_lost AreCopies image (load.Device s) told is none lost = subst IsExcuse (sym is) tt
load_not_lost AreCopies image (load.Lost a b) told is none lost = absurd (none a b lost)

-- where none of these can be lost
pub cause_excused : (AreCopies : ℕ → ℕ → Type 0) (image : Image) (fault : MountFault) → ((a b : ℕ) → AreLost AreCopies image a b → ⊥) → IsLoadFault fault → LostIn AreCopies image fault → IsExcuse fault
cause_excused AreCopies image (Lost a b) none cause lost = none a b lost
cause_excused AreCopies image NotVolume none cause lost = absurd cause
cause_excused AreCopies image NoAnchor none cause lost = absurd cause
cause_excused AreCopies image (Unsound s) none cause lost = absurd cause
cause_excused AreCopies image other none cause lost = tt

module _ (l : Layout) (windows : List WeakRun) (narrow : IsNarrow (weak_of windows)) (choices : List (List (List ℕ))) (i : Image) (shows : ShowsPages l windows choices i) where
  -- of a page one home is whole
  pub homes_serve : (a b : ℕ) → AreLost (AreHomes l) i a b → ⊥
  homes_serve a b lost =
      let first : sector_at i (home_a l lost.copies.page) ≡ Damaged = ap (sector_at i) (sym lost.copies.homes.first) ∙ lost.first in
      let second : sector_at i (home_b l lost.copies.page) ≡ Damaged = ap (sector_at i) (sym lost.copies.homes.second) ∙ lost.second in
      narrow (home_a l lost.copies.page) (home_b l lost.copies.page) (omega arith)
      (shows.readable.roots.twins (home_a l lost.copies.page) (twin_a l lost.copies.page lost.copies.within) first)
      (shows.readable.roots.twins (home_b l lost.copies.page) (twin_b l lost.copies.page lost.copies.within) second)

  -- and one root
  pub roots_serve : (a b : ℕ) → AreLost AreRoots i a b → ⊥
  roots_serve a b lost =
      let first : sector_at i 0 ≡ Damaged = ap (sector_at i) (sym lost.copies.0) ∙ lost.first in
      let second : sector_at i 4 ≡ Damaged = ap (sector_at i) (sym lost.copies.1) ∙ lost.second in
      narrow 0 4 (omega arith) (shows.readable.roots.twins 0 refl first) (shows.readable.roots.twins 4 refl second)

-- ---- a fault that is handed up

-- what holds of the fault alone holds of the result that hands it up
pub handed_so : {T : Type 0} (P : Result T MountFault → Type 0) (r : Result T MountFault) (fault : MountFault) → IsErrAnd r (λ told. told ≡ fault) → P (Err fault) → P r
handed_so P (Ok x) fault is holds = absurd is
handed_so P (Err told) fault is holds = subst (λ (f : MountFault). P (Err f)) (sym is) holds

-- what is so at the end, and at each fault
pub either_end : {T : Type 0} (P R : Type 0) (Q S : MountFault → Type 0) (r : Result T MountFault) → (P → R) → ((fault : MountFault) → Q fault → S fault) → OnOk r P → IfErr r Q → MatchResult r (λ _. R) S
either_end P R Q S (Ok x) more told p q = more p
either_end P R Q S (Err fault) more told p q = told fault q

-- by the end: what holds of each value, and of each fault of which this is known
pub by_end : {T : Type 0} (P : Result T MountFault → Type 0) (Q : MountFault → Type 0) (r : Result T MountFault) → ((x : T) → P (Ok x)) → ((fault : MountFault) → Q fault → P (Err fault)) → IfErr r Q → P r
by_end P Q (Ok x) done failed known = done x
by_end P Q (Err fault) done failed known = failed fault known

-- what is lost of some copies is lost of more
pub lost_more : (P Q : ℕ → ℕ → Type 0) (image : Image) (fault : MountFault) → ((a b : ℕ) → P a b → Q a b) → LostIn P image fault → LostIn Q image fault
lost_more P Q image (Lost a b) more lost = record { copies = more a b lost.copies; first = lost.first; second = lost.second }
lost_more P Q image other more lost = tt

pub load_lost : (P Q : ℕ → ℕ → Type 0) (image : Image) (fault : LoadFault) (told : MountFault) → told ≡ load_fault_of fault → ((a b : ℕ) → P a b → Q a b) → LostCause P image fault → LostIn Q image told
load_lost P Q image (load.Device s) told is more lost = subst (LostIn Q image) (sym is) tt
load_lost P Q image (load.Lost a b) told is more lost = subst (LostIn Q image) (sym is) (record { copies = more a b lost.copies; first = lost.first; second = lost.second })

-- a fault of a load, of which the place is told
pub load_told : (fault : LoadFault) (told : MountFault) → told ≡ load_fault_of fault → device_of_mount told ≡ load_failed_at fault
load_told (load.Device s) told is = ap device_of_mount is
load_told (load.Lost a b) told is = ap device_of_mount is

pub is_load : (fault : LoadFault) (told : MountFault) → told ≡ load_fault_of fault → IsLoadFault told
is_load (load.Device s) told is = subst IsLoadFault (sym is) tt
is_load (load.Lost a b) told is = subst IsLoadFault (sym is) tt

pub scan_told : (fault : LogFault) (told : MountFault) → told ≡ mount_fault_of fault → device_of_mount told ≡ log_failed_at fault
scan_told (log.Read (read.Device s)) told is = ap device_of_mount is
scan_told (log.Read read.Memory) told is = ap device_of_mount is
scan_told log.NoAnchor told is = ap device_of_mount is
scan_told log.WornOut told is = ap device_of_mount is

-- ---- what a mount does not say

pub scan_sound : (fault : LogFault) (told : MountFault) → told ≡ mount_fault_of fault → IsNotUnsound told
scan_sound (log.Read (read.Device s)) told is = subst IsNotUnsound (sym is) tt
scan_sound (log.Read read.Memory) told is = subst IsNotUnsound (sym is) tt
scan_sound log.NoAnchor told is = subst IsNotUnsound (sym is) tt
scan_sound log.WornOut told is = subst IsNotUnsound (sym is) tt

pub load_sound : (fault : MountFault) → IsLoadFault fault → IsNotUnsound fault
load_sound (Unsound s) load = load
load_sound other load = tt

-- what is only worn is left, whatever the fault
pub worn_left : (old new : Moment) (fault : MountFault) → Wears old new → LeavesAll fault old new
worn_left old new (Device s) worn = tt
worn_left old new (Lost a b) worn = tt
worn_left old new other worn = worn

pub load_left : (old new : Moment) (fault : MountFault) → IsLoadFault fault → LeavesAll fault old new
load_left old new (Device s) load = tt
load_left old new (Lost a b) load = tt
load_left old new other load = absurd load
