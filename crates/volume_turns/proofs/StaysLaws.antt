-- What a call leaves of a mounted volume: the disk is sound, and its roots say no other layout.
use Rattle.std.proofs.Common.{◌≡◌, ◌⊎◌, inl, inr, ⊎_elim, ◌∙◌}
use Rattle.volume_layout.specs.declared.layout.Layout.{Layout}
use Rattle.volume_layout.specs.Layout.{IsPlanned}
use Rattle.sector_disk.specs.declared.machine.Machine.{Ghosts}
use Rattle.sector_disk.specs.Machine.{LeavesOnly, Moment}
use Rattle.sector_disk.proofs.Moments.{leaves_more}
use Rattle.fsd_files.specs.Disk.{Image, Sectors}
use Rattle.fsd_sound.specs.Laid.{HasOwnRoots}
use Rattle.fsd_sound.specs.Mounted.{IsMounted}
use Rattle.fsd_sound.specs.Sound.{weak_of}
use Rattle.fsd_sound.proofs.MountedLaws.{mounted_sound}
use Rattle.fsd_sound.proofs.SaidLaws.{own_said, said_either}
use Rattle.volume_contract.specs.State.{Known, LeavesRelaid, LeavesSound, forced_of}
use Rattle.volume_turns.specs.Steps.{SaysEither, StaysSaying, StaysSoundFor}

-- both roots are its own
pub own_either : (own : Layout) (k : Known) (i : Image) → IsPlanned own → HasOwnRoots own (weak_of k.windows) i → SaysEither own k i
own_either own k i planned roots l there says = inl (own_said own (weak_of k.windows) i planned roots l there says)

module _ (k : Known) (old left : Moment) where
  -- the volume is mounted on what is left
  pub mounted_stays : IsMounted k.mounted k.windows k.changes (forced_of k) left.image → left.windows ≡ old.windows → left.said ≡ old.said → StaysSoundFor k old left
  mounted_stays is windows said = record {
    sound = mounted_sound k.mounted k.windows k.changes (forced_of k) left.image is;
    says = own_either k.mounted.volume.layout k left.image is.over.shows.readable.roots.planned is.over.own.roots;
    windows = windows;
    said = said;
  }

  -- a call that keeps the layout
  pub sound_stays : (may : Sectors) → LeavesSound k may old left → StaysSoundFor k old left
  sound_stays may l = record { sound = l.sound; says = own_either k.mounted.volume.layout k left.image l.sound.readable.roots.planned l.roots; windows = l.windows; said = l.said }

  -- one that gives it another
  pub relaid_stays : (other : Layout) (Touched : Type 0) → LeavesRelaid k other Touched old left → StaysSaying other k old left
  relaid_stays other Touched l = record {
    sound = l.sound;
    says = said_either k.mounted.volume.layout (weak_of k.windows) left.image l.sound.readable.roots (λ x. x ≡ other) l.says;
    windows = l.windows;
    said = l.said;
  }

-- at each moment
pub stays_say : {D : Type 0} (M : Ghosts D) (own : Layout) (k : Known) (old : Moment) (a b : D) → LeavesOnly M.moment M.left_since a b (StaysSaying own k old) → LeavesOnly M.moment M.left_since a b (λ c. SaysEither own k c.image)
stays_say M own k old a b run = leaves_more M.moment M.left_since a b (StaysSaying own k old) (λ c. SaysEither own k c.image) (λ c stays. stays.says) run

-- where the layout that may come is the volume's own, or the one behind it
pub say_as : {D : Type 0} (M : Ghosts D) (own behind : Layout) (k : Known) (a b : D) → (own ≡ behind) ⊎ (own ≡ k.mounted.volume.layout) → LeavesOnly M.moment M.left_since a b (λ c. SaysEither own k c.image) → LeavesOnly M.moment M.left_since a b (λ c. SaysEither behind k c.image)
say_as M own behind k a b same run = leaves_more M.moment M.left_since a b (λ c. SaysEither own k c.image) (λ c. SaysEither behind k c.image) (λ c says l there is. either l (says l there is)) run
  where
    either : (l : Layout) → (l ≡ own) ⊎ (l ≡ k.mounted.volume.layout) → (l ≡ behind) ⊎ (l ≡ k.mounted.volume.layout)
    either l (inl is) = ⊎_elim (λ e. inl (is ∙ e)) (λ e. inr (is ∙ e)) same
    either l (inr is) = inr is
