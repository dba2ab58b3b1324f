-- How the use of a volume ends: all its changes are forced, and its disk tells them.
use Rattle.std.proofs.Common.{◌≡◌, ℕ, ◌-◌, List, [], length, Some, Err, sym, ap, subst, ◌∙◌, arith}
use Rattle.std.proofs.lemmas.List.{append-nil}
use Rattle.volume_layout.specs.declared.layout.Layout.{Layout}
use Rattle.fsd_bytes.specs.declared.refusal.Refusal.{Refusal}
use Rattle.fsd_bytes.specs.declared.refusal.Refusal.TheVariants as Why
use Rattle.sector_disk.specs.declared.sector.WeakRun.{WeakRun}
use Rattle.sector_disk.specs.Image.{IsWorn}
use Rattle.sector_disk.specs.Machine.{Moment}
use Rattle.fsd_table.specs.Table.{Telling}
use Rattle.fsd_files.specs.Answers.{Met, Outcome, force_outcome}
use Rattle.fsd_files.specs.Disk.{Image}
use Rattle.fsd_files.specs.Files.{Change}
use Rattle.fsd_files.specs.declared.reply.Reply.{Reply}
use Rattle.fsd_files.specs.declared.reply.Reply.TheVariants.{Forced as IsForced}
use Rattle.fsd_files.specs.Volume.{Volume, forced}
use Rattle.fsd_sound.specs.Laid.{HasOwnRoots}
use Rattle.fsd_sound.specs.Mounted.{telling_of}
use Rattle.fsd_sound.specs.Shown.{told}
use Rattle.fsd_sound.specs.Sound.{IsSound, weak_of}
use Rattle.fsd_sound.proofs.MountedLaws.{mounted_lasts, mounted_sound}
use Rattle.volume_contract.specs.Ends.{AnswersAndStands, Closes, EndsForce}
use Rattle.volume_contract.specs.Order.{IsDeviceRefusal}
use Rattle.volume_contract.specs.State.{Known, Stands, forced_of, volume_of}
use Rattle.volume_laws.specs.State.{IsMemoryOf, state}
use Rattle.volume_laws.specs.Volume.{VolumeValue}
use Rattle.volume_laws.proofs.StoreLaws.{IsOn}

-- a volume whose changes are all forced has closed
pub forced_closes : (k : Known) (w : VolumeValue) (at : Moment) → Stands state IsMemoryOf w k at → (volume_of k).unforced ≡ 0 → Closes k at.image
forced_closes k w at stands none =
    let count : forced_of k ≡ length k.changes = omega (arith, none) in
    record {
      sound = subst (λ (n : ℕ). IsSound (volume_of k).layout k.windows k.changes n at.image) count (mounted_sound k.mounted k.windows k.changes (forced_of k) at.image stands.disk);
      tells = mounted_lasts k.mounted k.windows k.changes (forced_of k) at.image stands.disk none;
      roots = stands.disk.over.own.roots;
    }

-- and so has one with its changes and its table, on the same disk
pub closes_on : (k after : Known) (i : Image) → IsOn k after → telling_of (volume_of after) ≡ telling_of (volume_of k) → Closes after i → Closes k i
closes_on k after i on telling closes = record {
  sound = subst (λ (l : Layout). IsSound l k.windows k.changes (length k.changes) i) on.layout
      (subst (λ (h : List Change). IsSound (volume_of after).layout k.windows h (length h) i) on.changes
      (subst (λ (ws : List WeakRun). IsSound (volume_of after).layout ws after.changes (length after.changes) i) on.windows closes.sound));
  tells = λ j worn. ap (λ (l : Layout). told l j) (sym on.layout) ∙ closes.tells j (subst (λ (ws : List WeakRun). IsWorn (weak_of ws) i j) (sym on.windows) worn) ∙ ap (λ (t : Telling). Some t) telling;
  roots = subst (λ (l : Layout). HasOwnRoots l (weak_of k.windows) i) on.layout (subst (λ (ws : List WeakRun). HasOwnRoots (volume_of after).layout (weak_of ws) i) on.windows closes.roots);
}

-- ---- behind a force

module _ (k : Known) (w : VolumeValue) (at : Moment) (ends : AnswersAndStands state IsMemoryOf (λ met. force_outcome (volume_of k)) IsForced [] k w at) where
  volume_then : forced (volume_of k) ≡ volume_of ends.0
  volume_then = ap (λ (o : Outcome). o.1) ends.1.is

  pub none_unforced : (volume_of ends.0).unforced ≡ 0
  none_unforced = sym (ap (λ (v : Volume). v.unforced) volume_then)

  pub forced_on : IsOn k ends.0
  forced_on =
      let changes : ends.0.changes ≡ k.changes = ends.1.changes ∙ append-nil k.changes in
      record {
        layout = sym (ap (λ (v : Volume). v.layout) volume_then);
        windows = ends.1.windows;
        changes = changes;
        more = omega (arith, none_unforced, ap (λ (h : List Change). length h) changes);
      }

  pub same_telling : telling_of (volume_of ends.0) ≡ telling_of (volume_of k)
  same_telling = sym (ap telling_of volume_then)

  -- what it has ended with
  pub closes : Closes k at.image
  closes = closes_on k ends.0 at.image forced_on same_telling (forced_closes ends.0 w at ends.2 none_unforced)

-- and a force that fails over a volume that stands is one that the disk failed
pub ends_device : (T : Type 0) (outcome : Met → Outcome) (reply : Reply) (k : Known) (w : VolumeValue) (at : Moment) (why : Refusal) → EndsForce state IsMemoryOf {T = T} outcome reply k w at (Err why) → IsDeviceRefusal why
ends_device T outcome reply k w at (Why.Device s) ends = tt
ends_device T outcome reply k w at why ends = absurd ends
