-- What refusals are told as.
use Rattle.std.proofs.Common.{◌≡◌, inl, inr, ℕ, false, Option, Some, None, refl, sym, ap, ◌∙◌, subst}
use Rattle.std.specs.Prelude.{IsTrue, Err, option_map}
use Rattle.volume_layout.specs.declared.layout.Layout.{Layout}
use Rattle.volume_layout.specs.Layout.{is_data}
use Rattle.fsd_bytes.specs.declared.refusal.Refusal.{Refusal}
use Rattle.fsd_bytes.specs.declared.refusal.Refusal.TheVariants as Why
use Rattle.sector_disk.specs.declared.sector.Sector.TheVariants.{Damaged}
use Rattle.sector_disk.specs.Image.{sector_at}
use Rattle.fsd_files.specs.Disk.{Image}
use Rattle.volume_contract.specs.Ends.{device_of}
use Rattle.volume_contract.specs.Order.{Comes, IsData, held_steps, next_steps}
use Rattle.volume_contract.specs.State.{State}
use Rattle.scrub.specs.Telling.{TellsOn}
use Rattle.volume_dump.specs.declared.fault.DumpFault.{DumpFault}
use Rattle.volume_dump.specs.Dump.{FollowsDump, TellsDump, device_in_dump, dump_steps, is_unsaid_dump}
use Rattle.volume_dump.specs.Told.{told_as}

-- a volume that is down is told as that alone
only_down : (d : Option ℕ) (why : Refusal) → ((s : ℕ) → why ≡ Why.Down s → ⊥) → option_map Why.Down d ≡ Some why → ⊥
only_down None why other is = cc is
only_down (Some s) why other is = other s (cc is)

up_for : (s : State) (why : Refusal) → ((t : ℕ) → why ≡ Why.Down t → ⊥) → Comes (dump_steps s) why → option_map Why.Down s.down ≡ None
up_for s why other (inl here) = absurd (only_down s.down why other here)
up_for s why other (inr later) = later.0

follows_by : (T : Type 0) (s : State) (why : Refusal) → Comes (dump_steps s) why → FollowsDump {T = T} s (Err (told_as why))
follows_by T s Why.Memory comes = (up_for s Why.Memory (λ t is. cc is) comes, tt)
follows_by T s (Why.Damaged n) comes = (up_for s (Why.Damaged n) (λ t is. cc is) comes, tt)
follows_by T s why comes = comes

-- a look-up comes first
pub next_comes : (s : State) (why : Refusal) → Comes (next_steps s) why → Comes (dump_steps s) why
next_comes s why (inl here) = inl here
next_comes s why (inr (passes, inl looks)) = inr (passes, inl looks)
next_comes s why (inr (passes, inr later)) = absurd later.1

-- and a read by an entry behind it
pub read_comes : (s : State) (why : Refusal) → Comes (held_steps s) why → Comes (dump_steps s) why
read_comes s why (inl here) = inl here
read_comes s why (inr later) = inr (later.0, inr (tt, later.1))

-- which is refused neither for want of memory nor for its page
pub read_told : (s : State) (why : Refusal) (l : Layout) (i : Image) → s.down ≡ None → Comes (held_steps s) why → TellsOn l i why
read_told s why l i up (inl here) = absurd (let down = ap (λ (d : Option ℕ). d) up in cc (here, up))
read_told s why l i up (inr (passes, inl cause)) = by why cause
  where
    by : (why : Refusal) → IsData why → TellsOn l i why
    by (Why.Device t) cause = tt
    by (Why.Damaged t) cause = tt
    by why cause = absurd cause
read_told s why l i up (inr (passes, inr later)) = absurd later.1

-- and tells no data sector
pub undamaged : (s : State) (why : Refusal) → Comes (next_steps s) why → (t : ℕ) → why ≡ Why.Damaged t → ⊥
undamaged s (Why.Damaged n) (inl here) t is = only_down s.down (Why.Damaged n) (λ m no. cc no) here
undamaged s (Why.Damaged n) (inr (passes, inl looks)) t is = looks
undamaged s (Why.Damaged n) (inr (passes, inr later)) t is = later.1
undamaged s why comes t is = cc is

device_by : (T : Type 0) (why : Refusal) → device_in_dump {T = T} (Err (told_as why)) ≡ device_of why
device_by T Why.Memory = refl
device_by T (Why.Damaged s) = refl
device_by T why = refl

unsaid_by : (T : Type 0) (why : Refusal) → is_unsaid_dump {T = T} (Err (told_as why)) ≡ false
unsaid_by T Why.Memory = refl
unsaid_by T (Why.Damaged s) = refl
unsaid_by T why = refl

tells_by : (T : Type 0) (l : Layout) (i : Image) (why : Refusal) → TellsOn l i why → ((t : ℕ) → why ≡ Why.Damaged t → IsTrue (is_data l t) × (sector_at i t ≡ Damaged)) → TellsDump {T = T} l i (Err (told_as why))
tells_by T l i Why.Memory on damaged = tt
tells_by T l i (Why.Damaged t) on damaged = damaged t refl
tells_by T l i why on damaged = on

-- ---- of a fault that tells a refusal

module _ (T : Type 0) (why : Refusal) (fault : DumpFault) (is : fault ≡ told_as why) where
  pub follows_told : (s : State) → Comes (dump_steps s) why → FollowsDump {T = T} s (Err fault)
  follows_told s comes = subst (λ (x : DumpFault). FollowsDump {T = T} s (Err x)) (sym is) (follows_by T s why comes)

  pub device_told : device_in_dump {T = T} (Err fault) ≡ device_of why
  device_told = ap (λ (x : DumpFault). device_in_dump {T = T} (Err x)) is ∙ device_by T why

  pub unsaid_told : is_unsaid_dump {T = T} (Err fault) ≡ false
  unsaid_told = ap (λ (x : DumpFault). is_unsaid_dump {T = T} (Err x)) is ∙ unsaid_by T why

  pub tells_told : (l : Layout) (i : Image) → TellsOn l i why → ((t : ℕ) → why ≡ Why.Damaged t → IsTrue (is_data l t) × (sector_at i t ≡ Damaged)) → TellsDump {T = T} l i (Err fault)
  tells_told l i on damaged = subst (λ (x : DumpFault). TellsDump {T = T} l i (Err x)) (sym is) (tells_by T l i why on damaged)
