-- What a force that fails has written, and what it has lost.
use Rattle.std.proofs.Common.{◌≡◌, ℕ, ◌+◌, ◌*◌, ◌<◌, ◌≤◌, Bool, true, false, cond, not, ◌||◌, ◌&&◌, nat_le, nat_lt, length, inl, refl, sym, ap, subst, ◌∙◌, arith}
use Rattle.std.specs.Prelude.{None, slice_index_or}
use Rattle.volume_layout.specs.declared.layout.Layout.{Layout}
use Rattle.volume_layout.specs.Kinds.{gap_of}
use Rattle.fsd_bytes.specs.declared.refusal.Refusal.{Refusal}
use Rattle.fsd_formats.specs.Record.{record_len}
use Rattle.sector_disk.specs.declared.machine.LoadFault.{LoadFault}
use Rattle.sector_disk.specs.declared.machine.LoadFault.TheVariants as fault
use Rattle.sector_disk.specs.Machine.{Ledger, Moment}
use Rattle.sector_disk.specs.Written.{WroteMost}
use Rattle.sector_disk.proofs.Damage.{lost_as}
use Rattle.log_thirds.specs.Images.{AreOfLogged}
use Rattle.fsd_log.specs.Slots.{AreOfSlot}
use Rattle.group_commit.specs.Entering.{LosesLogged}
use Rattle.group_commit.specs.Room.{pages_in_first, sectors_before}
use Rattle.volume_contract.specs.Causes.{AreSomeCopies, HasCallCause}
use Rattle.volume_contract.specs.State.{State, enters_again, force_len, homed}
use Rattle.volume_laws.specs.Forcing.{force_refusal}
use Rattle.volume_laws.specs.State.{resident, state}
use Rattle.volume_laws.specs.Volume.{IsWholeVolume, VolumeValue}
use Rattle.volume_laws.proofs.ForceCountLaws.{again_is, some_pages}

-- ---- how much is written

-- a record that doesn't go before the first third is laid in it
laid_again : (at end thirds : ℕ) → (nat_le at end || nat_lt end thirds) ≡ false → (nat_lt end at && nat_le thirds end) ≡ true
laid_again at end thirds is = again_is at end thirds ∙ ap not is

before_within : (before again : Bool) (n count : ℕ) → (before ≡ false → again ≡ true) → cond before 0 n ≤ count + cond again n 0
before_within true again n count is = omega arith
before_within false again n count is = subst (λ (b : Bool). n ≤ count + cond b n 0) (sym (is refl)) (omega arith)

-- what is written before the record is part of what a force writes
before_force : (v : VolumeValue) → IsWholeVolume v → 1 ≤ length v.cache.dirty → sectors_before v.log (length v.cache.dirty) ≤ force_len (state v)
before_force v whole some =
    let n = length v.cache.dirty in
    let log = v.log in
    let here = before_within (nat_le (log.head.at + record_len (gap_of log.layout) n) log.head.end || nat_lt log.head.end (3 * log.layout.third)) (nat_lt log.head.end (log.head.at + record_len (gap_of log.layout) n) && nat_le (3 * log.layout.third) log.head.end)
    (2 * pages_in_first log + 2) (record_len (gap_of log.layout) n) (laid_again (log.head.at + record_len (gap_of log.layout) n) log.head.end (3 * log.layout.third)) in
    subst (λ (b : Bool). sectors_before log n ≤ cond b 0 (record_len (gap_of v.layout) n + cond (enters_again (state v)) (2 * homed (state v) + 2) 0)) (sym (some_pages n some))
    (subst (λ (l : Layout). sectors_before log n ≤ record_len (gap_of l) n + cond (enters_again (record (state v) { layout = l })) (2 * homed (record (state v) { layout = l }) + 2) 0) whole.log here)

pub failed_counted : (v w : VolumeValue) → v ≡ w → IsWholeVolume v → 1 ≤ length v.cache.dirty → (old new : Ledger) → WroteMost (sectors_before v.log (length v.cache.dirty)) old new
    → (old.written ≤ new.written) × (new.written ≤ old.written + force_len (state w))
failed_counted v w is whole some old new most =
    let no_more = most.no_more in
    let within = subst (λ (x : VolumeValue). sectors_before v.log (length v.cache.dirty) ≤ force_len (state x)) is (before_force v whole some) in
    (most.no_fewer, omega (arith, no_more, within))

before_none : (before again : Bool) (n : ℕ) → (before ≡ false → again ≡ true) → again ≡ false → cond before 0 n ≡ 0
before_none true again n laid never = refl
before_none false again n laid never = absurd (cc (laid refl, never))

-- where the first third isn't entered again a force that fails has written nothing
pub failed_none : (v w : VolumeValue) → v ≡ w → IsWholeVolume v → (old new : Ledger) → WroteMost (sectors_before v.log (length v.cache.dirty)) old new → enters_again (state w) ≡ false → new.written ≡ old.written
failed_none v w is whole old new most never =
    let n = length v.cache.dirty in
    let log = v.log in
    let not_again : (nat_lt log.head.end (log.head.at + record_len (gap_of log.layout) n) && nat_le (3 * log.layout.third) log.head.end) ≡ false =
    subst (λ (l : Layout). (nat_lt log.head.end (log.head.at + record_len (gap_of l) n) && nat_le (3 * l.third) log.head.end) ≡ false) (sym whole.log) (subst (λ (x : VolumeValue). enters_again (state x) ≡ false) (sym is) never) in
    let none : sectors_before log n ≡ 0 = before_none (nat_le (log.head.at + record_len (gap_of log.layout) n) log.head.end || nat_lt log.head.end (3 * log.layout.third)) (nat_lt log.head.end (log.head.at + record_len (gap_of log.layout) n) && nat_le (3 * log.layout.third) log.head.end)
    (2 * pages_in_first log + 2) (laid_again (log.head.at + record_len (gap_of log.layout) n) log.head.end (3 * log.layout.third)) not_again in
    omega (arith, none, most.no_fewer, most.no_more)

-- ---- what is lost

lost_copies : (v : VolumeValue) → IsWholeVolume v → (new : State) (a b : ℕ) → AreOfLogged v.log a b → AreSomeCopies (state v) new a b
lost_copies v whole new a b of = record { page = of.page; within = subst (λ (l : Layout). of.page < l.pages) whole.log of.within; copies = inl (inl (subst (λ (l : Layout). AreOfSlot l (slice_index_or v.log.slots of.page None) a b) whole.log of.logged)) }

caused : (v : VolumeValue) → IsWholeVolume v → (new : State) (before now : Moment) (f : LoadFault) → LosesLogged v.log now.image f → HasCallCause (state v) new (resident v) before now (force_refusal f)
caused v whole new before now (fault.Device place) lost = tt
caused v whole new before now (fault.Lost a b) lost = lost_as (AreOfLogged v.log) a b (AreSomeCopies (state v) new) now.image (lost_copies v whole new a b) lost

-- the copies are those of the log as the force began
pub failed_cause : (v w : VolumeValue) → v ≡ w → IsWholeVolume v → (new : State) (before now : Moment) (f : LoadFault) (why : Refusal) → why ≡ force_refusal f → LosesLogged v.log now.image f
    → HasCallCause (state w) new (resident w) before now why
failed_cause v w is whole new before now f why told lost =
    subst (λ (x : VolumeValue). HasCallCause (state x) new (resident x) before now why) is
    (subst (λ (r : Refusal). HasCallCause (state v) new (resident v) before now r) (sym told) (caused v whole new before now f lost))
