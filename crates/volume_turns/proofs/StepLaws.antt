-- What a command's answer says, by how the volume's call ended.
use Rattle.std.proofs.Common.{◌≡◌, Bool, List, [], ◌++◌, refl, sym, ◌∙◌, ap, ℕ, length}
use Rattle.fsd_log.specs.Scan.{Placed}
use Rattle.std.specs.Prelude.{IsTrue, IsFalse, Result, Err}
use Rattle.fsd_bytes.specs.declared.key.Key.{Key}
use Rattle.fsd_bytes.specs.declared.refusal.Refusal.{Refusal}
use Rattle.fsd_bytes.specs.declared.refusal.Refusal.TheVariants as Why
use Rattle.run_table.specs.declared.run.Run.{Run}
use Rattle.run_table.specs.RunTable.{total}
use Rattle.fsd_files.specs.Answers.{Met, Outcome, stat_reply}
use Rattle.fsd_files.specs.Files.{Change}
use Rattle.fsd_files.specs.declared.reply.Reply.{Reply}
use Rattle.fsd_files.specs.declared.reply.Reply.TheVariants.{Counts}
use Rattle.fsd_files.specs.declared.reply.Reply.TheVariants as Said
use Rattle.fsd_files.specs.Volume.{free_count, pages_free, waiting_count}
use Rattle.fsd_texts.specs.declared.command.Command.{Command}
use Rattle.fsd_texts.specs.declared.command.Command.TheVariants as Word
use Rattle.fsd_runs.specs.Commands.{answer, changes_of, MayFind, may_wear_out}
use Rattle.sector_disk.specs.Machine.{Moment, Wears}
use Rattle.fsd_sound.specs.Mounted.{Mounted}
use Rattle.volume_contract.specs.Ends.{EndsRefused, EndsForce, Answers, device_of}
use Rattle.volume_contract.specs.declared.files.Forced.{Forced}
use Rattle.volume_contract.specs.State.{State, Fits, Known, volume_of, Stands, Leaves, is_worn}
use Rattle.scrub.specs.Walk.{IsFromOutside}
use Rattle.volume_turns.specs.Steps.{Does, Heals, IsAnswered, IsRefusedWorn, Stays, device_by, ended_by, read_ended_by}
use Rattle.volume_turns.proofs.StaysLaws.{mounted_stays, sound_stays}

-- the fault that is told is the one that was counted
pub same_device : (why : Refusal) → ((s : ℕ) → why ≡ Why.Down s → ⊥) → device_of why ≡ device_by (ended_by why)
same_device (Why.Device s) up = refl
same_device (Why.Down s) up = absurd (up s refl)
same_device why up = refl

pub same_read_device : (key : Key) (why : Refusal) → ((s : ℕ) → why ≡ Why.Down s → ⊥) → device_of why ≡ device_by (read_ended_by key why)
same_read_device key (Why.Damaged s) up = refl
same_read_device key (Why.Device s) up = refl
same_read_device key (Why.Down s) up = absurd (up s refl)
same_read_device key why up = refl

module _ {S : Type 0} (state : S → State) (has : S → Mounted → List Placed → Type 0) where
  pub less_touched : (s : S) (may : ℕ → Bool) (old left : Moment) → Leaves state has s may old left → Stays state has s old left
  less_touched s may old left leaves k stands = sound_stays k old left may (leaves k stands)

  module _ (command : Command) (old new : S) (k : Known) (before now : Moment) (outcome : Met → Outcome)
      (same : (met : Met) → answer met (volume_of k) command ≡ outcome met)
      (find : (met : Met) → MayFind before.image now.image (volume_of k) command met) where
    -- it is answered
    pub answered_does : (reply : Reply) (made : List Change) → made ≡ changes_of command reply → (after : Known) → Answers outcome reply made k after → (IsTrue (may_wear_out command) → IsFalse (is_worn (state old)))
        → IsAnswered command (state old) k after before.image now.image reply
    answered_does reply made is after answers unworn = record {
      met = answers.met;
      is = same answers.met ∙ answers.is;
      opened = answers.opened;
      windows = answers.windows;
      changes = answers.changes ∙ ap (λ (c : List Change). k.changes ++ c) is;
      find = find answers.met;
      unworn = unworn;
    }

    refused_heals : (c : Command) (why : Refusal) → Heals state has c new k before now (Said.Refused why)
    refused_heals Word.Scrub why = tt
    refused_heals c why = tt

    -- it is refused: the refusal is the reply, or ends the run
    pub refused_does : (why : Refusal) → changes_of command (Said.Refused why) ≡ [] → ((why ≡ Why.WornOut → ⊥) → IsTrue (may_wear_out command) → IsFalse (is_worn (state old))) → (why ≡ Why.WornOut → IsRefusedWorn command (state old))
        → EndsRefused state has outcome k new now why → Does state has command old new k before now (ended_by why)
    refused_does (Why.Device s) none unworn worn ends = tt
    refused_does (Why.Down s) none unworn worn ends = tt
    refused_does (Why.Lost a b) none unworn worn ends = ends
    refused_does (Why.Unsound s) none unworn worn ends = ends
    refused_does Why.Memory none unworn worn ends = tt
    refused_does Why.WornOut none unworn worn ends = (worn refl, ends)
    refused_does why none unworn worn ends = (ends.0, answered_does (Said.Refused why) [] (sym none) ends.0 ends.1 (unworn (λ is. cc is)), ends.2, refused_heals command why)

  -- a force that fails leaves the volume down
  pub force_does : (command : Command) (old new : S) (k : Known) (before now : Moment) (outcome : Met → Outcome) (reply : Reply) (why : Refusal) → (let r : Result Forced Refusal = Err why in EndsForce state has outcome reply k new now r) → Does state has command old new k before now (ended_by why)
  force_does command old new k before now outcome reply (Why.Device s) ends = tt
  force_does command old new k before now outcome reply why ends = absurd ends

  -- a look-up that fails by a fault from outside
  pub outside_does : (command : Command) (old new : S) (k : Known) (before now : Moment) (why : Refusal) → IsFromOutside why → Does state has command old new k before now (ended_by why)
  outside_does command old new k before now (Why.Device s) is = tt
  outside_does command old new k before now Why.Memory is = tt
  outside_does command old new k before now why is = absurd is

  -- wear leaves the disk sound
  pub wear_stays : (s : S) (old left : Moment) → ((k : Known) → Stands state has s k old → Stands state has s k left) → Wears old left → Stays state has s old left
  wear_stays s old left wears worn k stands = mounted_stays k old left (wears k stands).disk worn.windows worn.said

-- what the volume counts is what its state tells
pub counts_are : (s : State) (m : Mounted) → Fits s m → (free waiting pages versions : ℕ) → free ≡ total s.free → waiting ≡ length s.waiting → pages ≡ length s.free_pages → versions ≡ s.versions
    → stat_reply m.volume ≡ Counts free waiting pages versions
counts_are s m fits free waiting pages versions f w p v =
    let a : free_count m.volume ≡ free = ap (λ (x : List Run). total x) fits.free ∙ sym f in
    let b : waiting_count m.volume ≡ waiting = ap (λ (x : List ℕ). length x) fits.waiting ∙ sym w in
    let c : pages_free m.volume ≡ pages = fits.pages_free ∙ sym p in
    let d : length m.volume.files ≡ versions = fits.versions ∙ sym v in
    ap (λ (n : ℕ). Counts n (waiting_count m.volume) (pages_free m.volume) (length m.volume.files)) a ∙ ap (λ (n : ℕ). Counts free n (pages_free m.volume) (length m.volume.files)) b
    ∙ ap (λ (n : ℕ). Counts free waiting n (length m.volume.files)) c ∙ ap (λ (n : ℕ). Counts free waiting pages n) d
