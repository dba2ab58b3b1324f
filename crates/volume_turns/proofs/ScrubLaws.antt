-- What a scrub answers and leaves.
use Rattle.std.proofs.Common.{◌≡◌, inl, inr, ℕ, ◌≤◌, Bool, true, false, List, [], ◌∷◌, length, None, refl, ap, arith}
use Rattle.std.specs.Prelude.{Err, Result, nat_lt}
use Rattle.std.specs.List.{AllByRecursion}
use Rattle.volume_layout.specs.declared.layout.Layout.{Layout}
use Rattle.fsd_bytes.specs.declared.key.Key.{Key}
use Rattle.fsd_bytes.specs.declared.refusal.Refusal.{Refusal}
use Rattle.fsd_bytes.specs.declared.refusal.Refusal.TheVariants as Why
use Rattle.sector_disk.specs.Machine.{Moment}
use Rattle.fsd_log.specs.Scan.{Placed}
use Rattle.fsd_files.specs.Disk.{Image}
use Rattle.fsd_files.specs.declared.reply.Reply.TheVariants as Said
use Rattle.fsd_sound.specs.Mounted.{Mounted}
use Rattle.fsd_texts.specs.declared.command.Command.TheVariants as Word
use Rattle.fsd_runs.specs.Commands.{reply_status}
use Rattle.volume_contract.specs.Order.{Comes, Force, Heal, IsLookUp, KeepsRefused, LookUp, Single}
use Rattle.volume_contract.specs.State.{Known, State}
use Rattle.scrub.specs.declared.whole.Healed.{Healed}
use Rattle.scrub.specs.Looking.{AreDamaged}
use Rattle.scrub.specs.Scrub.{EndsScrub, LeavesScrubbed, heal_writes, scrub_steps}
use Rattle.volume_turns.specs.Commands.{HasDamaged, IsStatusFrom}
use Rattle.volume_turns.specs.Numbers.{GoesUp}
use Rattle.volume_turns.specs.Steps.{Does, Stays, ended_by}
use Rattle.volume_turns.proofs.AnsweringLaws.{data_inside}
use Rattle.volume_turns.proofs.NumberLaws.{goes_by, keeps_goes, one_force}
use Rattle.volume_turns.proofs.OrderLaws.{starts_up}
use Rattle.volume_turns.proofs.StatusLaws.{device_looks, loss_looks}
use Rattle.volume_turns.proofs.StaysLaws.{sound_stays}

-- ---- what it refuses

pub scrub_looks : (s : State) → s.down ≡ None → (why : Refusal) → Comes (scrub_steps s) why → IsLookUp why
scrub_looks s up why comes =
    elim (starts_up s up (Force (nat_lt 0 (length s.dirty)) ∷ Heal ∷ LookUp ∷ Single ∷ []) why comes) [
      | inl force ↦ loss_looks why force.1
      | inr behind ↦ elim behind.1 [ inl heal ↦ loss_looks why heal | inr then ↦ elim then.1 [ inl look ↦ look | inr last ↦ elim last.1 [ inl one ↦ device_looks why one | inr none ↦ absurd none.1 ] ] ]
    ]

-- ---- the state

-- where no page waits it stays
pub scrub_still : (why : Refusal) (s t : State) → KeepsRefused (scrub_steps s) why s t → s.dirty ≡ [] → t ≡ s
scrub_still why s t (inl here) none = here.1
scrub_still why s t (inr (passes, later)) none = by (nat_lt 0 (length s.dirty)) (ap (λ (x : List ℕ). nat_lt 0 (length x)) none) later
  where
    single : KeepsRefused (Single ∷ []) why s t → t ≡ s
    single (inl here) = here.1
    single (inr none) = absurd none.1

    look : KeepsRefused (LookUp ∷ Single ∷ []) why s t → t ≡ s
    look (inl here) = here.1
    look (inr more) = single more.1

    heal : KeepsRefused (Heal ∷ LookUp ∷ Single ∷ []) why s t → t ≡ s
    heal (inl here) = here.1
    heal (inr more) = look more.1

    by : (comes : Bool) → comes ≡ false → KeepsRefused (Force comes ∷ Heal ∷ LookUp ∷ Single ∷ []) why s t → t ≡ s
    by true is keeps = absurd (cc is)
    by false is (inl here) = here.1
    by false is (inr more) = heal more.1

pub scrub_goes : (why : Refusal) (s t : State) → KeepsRefused (scrub_steps s) why s t → GoesUp 1 s t
scrub_goes why s t keeps = goes_by (scrub_steps s) s t (omega arith) (one_force (nat_lt 0 (length s.dirty))) (keeps_goes (scrub_steps s) why s t keeps)

-- ---- what it answers

pub scrub_status : (found : List (Key × ℕ)) (healed : ℕ) → IsStatusFrom Word.Scrub (reply_status (Said.Scrubbed found healed))
scrub_status [] healed = refl
scrub_status (x ∷ found) healed = refl

pub all_damaged : (l : Layout) (i : Image) → l.sectors ≤ length i → (found : List (Key × ℕ)) → AreDamaged l i found → AllByRecursion (λ x. HasDamaged i x.1) found
all_damaged l i room [] damaged = tt
all_damaged l i room (x ∷ found) damaged = ((data_inside l x.1 (length i) damaged.0.0 room, damaged.0.1), all_damaged l i room found damaged.1)

-- ---- over a volume that stands

module _ {S : Type 0} (state : S → State) (has : S → Mounted → List Placed → Type 0) where
  pub scrub_stays : (s : S) (old left : Moment) → LeavesScrubbed state has s old left → Stays state has s old left
  scrub_stays s old left leaves k stands = sound_stays k old left (heal_writes k) (leaves k stands)

  pub scrub_does : (old new : S) (k : Known) (before now : Moment) (found : List (Key × ℕ)) (why : Refusal) → (let r : Result Healed Refusal = Err why in EndsScrub state has k new before now found r) → Does state has Word.Scrub old new k before now (ended_by why)
  scrub_does old new k before now found (Why.Device s) ends = tt
  scrub_does old new k before now found Why.Memory ends = tt
  scrub_does old new k before now found why ends = absurd ends
