-- A machine in memory as the layers above see it, and what one call notes.
use Rattle.std.specs.Prelude.{◌≡◌, ◌⊎◌, ◌<◌, ◌≤◌, IsTrue, ℕ, ◌-◌, ◌/◌, ◌^◌, Bool, true, false, ◌&&◌, List, [], ◌∷◌, ◌++◌, length, take, drop, min, max, replicate, count_by, Option, None, Some, IfSome, Vec}
use Rattle.std.proofs.Common.{arith}
use Rattle.std.proofs.lemmas.Bool.{and_parts, leb-true}
use Rattle.std.specs.declared.alloc.Global.{Global}
use Rattle.sector_disk.specs.declared.sector.Sector.{Sector}
use Rattle.sector_disk.specs.declared.sector.Sector.TheVariants.{Damaged}
use Rattle.sector_disk.specs.declared.sector.WeakRun.{WeakRun}
use Rattle.memory_machine.specs.declared.past.Hurt.{Hurt}
use Rattle.memory_machine.specs.declared.past.Work.{Work}
use Rattle.memory_machine.specs.declared.past.Work.TheVariants.{Attaching, Writing}
use Rattle.sector_disk.specs.declared.machine.Attach.{Attach}
use Rattle.sector_disk.specs.declared.machine.Attach.TheVariants.{Old, New}
use Rattle.memory_machine.specs.declared.event.Event.{Event}
use Rattle.memory_machine.specs.declared.memory.MemoryMachine.{MemoryMachine}
use Rattle.sector_disk.specs.Image.{Windows, longest_run, IsShort, AreShort}
use Rattle.memory_machine.specs.Windows.{is_short, all_weak}
use Rattle.memory_machine.specs.State.{DiskState, Line, Faults, next_verdict, call_goes, one_more}
use Rattle.memory_machine.specs.Events.{is_stop}
use Rattle.memory_machine.specs.Past.{LeftSince, begins_at, due, hurt_all, attaches_in, written_in, syncs_in}
use Rattle.sector_disk.specs.Machine.{Report, Moment, Ledger, Elapses, Reaches, Utters, Says, Tears, Writes, wrote, synced_once, Wears, Extends, Grows, Before, Attaches, IsSynced, asked_for, Trusts}

-- the number of sectors that is told, of an image of so many
abbrev pub told_of : (told size : ℕ) → ℕ
told_of told size = min told (min size (2 ^ 32 - 1))

abbrev pub memory_report : MemoryMachine → Report
memory_report m = record {
  sectors = told_of m.told (length m.image.items);
  fault_place = m.fault_place;
  disk_faults = m.disk_faults;
  input_faults = m.input_faults;
  output_faults = m.output_faults;
}

abbrev pub memory_now : MemoryMachine → Moment
memory_now m = record {
  image = m.image.items;
  windows = record { present = m.present; next = m.next };
  said = m.said.items;
  time = length m.past.items;
  synced = min m.synced (length m.past.items);
}

abbrev pub memory_ledger : MemoryMachine → Ledger
memory_ledger m = record { input = drop m.taken m.input.items; attaches = attaches_in m.past.items; written = written_in m.past.items; syncs = syncs_in m.past.items }

-- the runs of its windows are short
abbrev pub has_short_runs : MemoryMachine → Bool
has_short_runs m = is_short m.present && is_short m.next

-- each hurt so far lay in the windows, and their runs were and are short
abbrev pub memory_honest : MemoryMachine → Bool
memory_honest m = m.honest && has_short_runs m

abbrev pub IsHonest : MemoryMachine → Type 0
IsHonest m = IsTrue (memory_honest m)

abbrev pub has_stopped : MemoryMachine → Bool
has_stopped m = m.stopped

abbrev pub memory_faults : MemoryMachine → Faults
memory_faults m = record { place = m.fault_place; disk = m.disk_faults; input = m.input_faults; output = m.output_faults }

-- how many calls were noted
abbrev pub memory_calls : MemoryMachine → ℕ
memory_calls m = length m.past.items

-- what is to happen to it
abbrev pub memory_events : MemoryMachine → List Event
memory_events m = m.events.items

-- the sectors that its writes have put, also those of a write that failed or was stopped
abbrev pub memory_written : MemoryMachine → ℕ
memory_written m = m.written

-- the first sector of the first write since the last sync
abbrev pub memory_waiting : MemoryMachine → Option ℕ
memory_waiting m = m.waiting

-- how often a growth was refused
abbrev pub memory_starved : MemoryMachine → ℕ
memory_starved m = m.starved

abbrev pub memory_line : MemoryMachine → Line
memory_line m = record { runs = m.runs.items; named = m.named }

-- how many writes have begun at a sector
abbrev pub memory_begun : MemoryMachine → ℕ → ℕ
memory_begun m first = count_by (begins_at first) m.past.items

abbrev pub memory_state : MemoryMachine → DiskState
memory_state m = record {
  now = memory_now m;
  ledger = memory_ledger m;
  told = (memory_report m).sectors;
  faults = memory_faults m;
  line = memory_line m;
  events = memory_events m;
  calls = memory_calls m;
  begun = memory_begun m;
  written = memory_written m;
  waiting = memory_waiting m;
  stopped = has_stopped m;
  allowed = m.honest;
  starved = memory_starved m;
}

-- A call is noted, after the hurts before it, and may have stopped the machine.
pub record Notes (settle : Bool) (work : Work) (old new : MemoryMachine) : Type 0 where
  pub running : old.stopped ≡ false
  pub hurts : Vec Hurt Global
  pub all_due : hurts.items ≡ due old.image.items (length old.past.items) settle old.events.items
  pub image : new.image.items ≡ hurt_all hurts.items old.image.items
  pub past : new.past.items ≡ old.past.items ++ record { hurts = hurts; present = old.present; next = old.next; said = length old.said.items; synced = (memory_now old).synced; work = work } ∷ []
  pub honest : new.honest ≡ (memory_honest old && all_weak old.present old.next hurts.items)
  pub synced : new.synced ≡ (memory_now old).synced
  pub rest : new ≡ record old { image = new.image; past = new.past; honest = new.honest; synced = new.synced; stopped = new.stopped }

-- A call is refused with nothing done.
pub record Refuses (old new : MemoryMachine) : Type 0 where
  pub past : new.past.items ≡ old.past.items
  pub rest : new ≡ record old { past = new.past; starved = new.starved }
  pub cause : ((old.stopped ≡ true) × (new.starved ≡ old.starved)) ⊎ ((old.stopped ≡ false) × (new.starved ≡ one_more old.starved))

-- A call is noted, and failed or stopped by an event.
pub record Ends (settle : Bool) (work : Work) (old new : MemoryMachine) : Type 0 where
  pub noted : Notes settle work old new
  pub fails : call_goes (memory_state old) ≡ false
  pub stops : new.stopped ≡ is_stop (next_verdict (memory_state old))

-- A call of a machine in memory fails: it is refused, or ends so.
abbrev pub Fails : Bool → Work → MemoryMachine → MemoryMachine → Type 0
Fails settle work old new = Refuses old new ⊎ Ends settle work old new

pub memory_small : (m : MemoryMachine) → (memory_report m).sectors < 2 ^ 32
memory_small m = omega arith

short_of : (run : Option WeakRun) → IsTrue (is_short run) → IfSome run IsShort
short_of None short = tt
short_of (Some run) short = leb-true run.count longest_run short

pub memory_short : (m : MemoryMachine) → IsHonest m → AreShort (memory_now m).windows
memory_short m honest =
    let both = and_parts (is_short m.present) (is_short m.next) (and_parts m.honest (has_short_runs m) honest).1 in
    record { present = short_of m.present both.0; next = short_of m.next both.1 }

pub memory_sized : (m : MemoryMachine) → (memory_report m).sectors ≤ length (memory_now m).image
memory_sized m = omega arith

-- the work of a write, with what it is written over
abbrev pub IsWriting : List Sector → ℕ → List ℕ → ℕ → Bool → Work → Type 0
IsWriting image sector text stood finished (Writing first bytes old done) = (first ≡ sector) × (bytes.items ≡ text) × (old.items ≡ take stood (drop sector image)) × (done ≡ finished)
IsWriting image sector text stood finished work = ⊥

-- the image that there was is kept where a new one is made
abbrev pub IsKept : Attach → List Sector → List Sector → Type 0
IsKept Old kept was = Unit {0}
IsKept (New count) kept was = kept ≡ was

-- the work of an attach
abbrev pub IsAttaching : List Sector → List ℕ → Attach → Work → Type 0
IsAttaching was text asked (Attaching path how kept) = (path.items ≡ text) × (how ≡ asked) × IsKept how kept.items was
IsAttaching was text asked work = ⊥

-- an image that is made
abbrev pub IsFresh : Attach → List Sector → Type 0
IsFresh Old image = Unit {0}
IsFresh (New count) image = image ≡ replicate count Damaged

-- What a call does to a machine in memory, whether it is done or not, if a stop in it may leave this.
pub record Passes (during : Moment → Moment → Type 0) (old new : MemoryMachine) : Type 0 where
  pub sectors : (memory_report new).sectors ≡ (memory_report old).sectors
  pub honest : IsHonest new → IsHonest old
  pub may : IsHonest new → during (memory_now old) (memory_now new)
  pub ledger : memory_ledger new ≡ memory_ledger old
  pub time : IsHonest new → Elapses (length old.past.items) (length new.past.items) (LeftSince (memory_now old) old.past.items) (LeftSince (memory_now new) new.past.items) (during (memory_now old))

-- a stop in the call might have left all of this
abbrev pub Reached : (Moment → Moment → Type 0) → MemoryMachine → MemoryMachine → Type 0
Reached during old new = Reaches (memory_now old) (LeftSince (memory_now new) new.past.items) (during (memory_now old))

-- Bytes are said, or some first ones in a call that isn't done.
pub record Spoken (bytes : List ℕ) (finished : Bool) (old new : MemoryMachine) : Type 0 where
  pub passes : Passes (Utters bytes) old new
  pub said : IsTrue finished → IsHonest new → Says bytes (memory_now old) (memory_now new)
  pub reached : IsTrue finished → Reached (Utters bytes) old new

-- A write is done, or some first sectors of it in one that isn't.
pub record Stood (sector : ℕ) (bytes : List ℕ) (finished : Bool) (old new : MemoryMachine) : Type 0 where
  pub sectors : (memory_report new).sectors ≡ (memory_report old).sectors
  pub honest : IsHonest new → IsHonest old
  pub cut : IsHonest new → Tears sector bytes (memory_now old) (memory_now new)
  pub time : IsHonest new → Elapses (length old.past.items) (length new.past.items) (LeftSince (memory_now old) old.past.items) (LeftSince (memory_now new) new.past.items) (Tears sector bytes (memory_now old))
  pub counted : IsTrue finished → memory_ledger new ≡ wrote (memory_ledger old) (length bytes / 512)
  pub uncounted : finished ≡ false → memory_ledger new ≡ memory_ledger old
  pub written : IsTrue finished → IsHonest new → Writes sector bytes (memory_now old) (memory_now new)
  pub reached : IsTrue finished → Reached (Tears sector bytes) old new

-- A sync is done and counted, or fails.
pub record Flushed (finished : Bool) (old new : MemoryMachine) : Type 0 where
  pub sectors : (memory_report new).sectors ≡ (memory_report old).sectors
  pub honest : IsHonest new → IsHonest old
  pub worn : IsHonest new → Wears (memory_now old) (memory_now new)
  pub time : IsHonest new → Elapses (length old.past.items) (length new.past.items) (LeftSince (memory_now old) old.past.items) (LeftSince (memory_now new) new.past.items) (Wears (memory_now old))
  pub counted : IsTrue finished → memory_ledger new ≡ synced_once (memory_ledger old)
  pub uncounted : finished ≡ false → memory_ledger new ≡ memory_ledger old
  pub synced : IsTrue finished → IsSynced (memory_now new)
  pub reached : IsTrue finished → Reached Wears old new

-- The image has so many sectors at least, behind a sync, and they are told. A call that isn't done has given it them or
-- changed nothing but wear, and tells no more than before.
pub record Widened (count : ℕ) (finished : Bool) (old new : MemoryMachine) : Type 0 where
  pub sectors : IsTrue finished → (memory_report new).sectors ≡ max (memory_report old).sectors count
  pub sectors_err : finished ≡ false → (memory_report new).sectors ≡ (memory_report old).sectors
  pub honest : IsHonest new → IsHonest old
  pub extends : IsTrue finished → IsHonest new → Extends count (memory_now old) (memory_now new)
  pub grows : IsHonest new → Grows count (memory_now old) (memory_now new)
  pub synced : IsTrue finished → IsSynced (memory_now new)
  pub ledger : memory_ledger new ≡ memory_ledger old
  pub time : IsHonest new → Elapses (length old.past.items) (length new.past.items) (LeftSince (memory_now old) old.past.items) (LeftSince (memory_now new) new.past.items) (Grows count (memory_now old))
  pub reached : IsTrue finished → Reached (Grows count) old new

-- An image is found or made, and so many sectors are told.
pub record Opened (path : List ℕ) (how : Attach) (count : ℕ) (old new : MemoryMachine) : Type 0 where
  pub sectors : (memory_report new).sectors ≡ count
  pub honest : IsHonest new → IsHonest old
  pub attached : IsHonest new → Attaches how (memory_now old) (memory_now new)
  pub synced : IsSynced (memory_now new)
  pub size : count ≡ min (length new.image.items) (2 ^ 32 - 1)
  pub time : IsHonest new → Elapses (length old.past.items) (length new.past.items) (LeftSince (memory_now old) old.past.items) (LeftSince (memory_now new) new.past.items) (Before (memory_now old) (memory_now new))
  pub reached : Reached Wears old new
  pub asked : memory_ledger new ≡ asked_for (memory_ledger old) path how

-- It isn't, and may have been asked for.
pub record NotOpened (path : List ℕ) (how : Attach) (old new : MemoryMachine) : Type 0 where
  pub sectors : (memory_report new).sectors ≡ (memory_report old).sectors
  pub honest : IsHonest new → IsHonest old
  pub worn : IsHonest new → Wears (memory_now old) (memory_now new)
  pub time : IsHonest new → Elapses (length old.past.items) (length new.past.items) (LeftSince (memory_now old) old.past.items) (LeftSince (memory_now new) new.past.items) (Before (memory_now old) (memory_now new))
  pub asked : (memory_ledger new ≡ memory_ledger old) ⊎ (memory_ledger new ≡ asked_for (memory_ledger old) path how)

-- a pair of sectors
abbrev pub pair_at : ℕ → WeakRun
pair_at first = record { first = first; count = 2 }

-- the first window
abbrev pub first_window : Option WeakRun → Windows
first_window present = record { present = present; next = None }

-- A machine over this image, these windows and this line of weak runs, of which nothing was asked yet: nothing is said or told,
-- no fault is counted or told, no call is noted, and no write waits for a sync.
pub record IsMade (image : List Sector) (windows : Windows) (line : Line) (events : List Event) (input : List ℕ) (m : MemoryMachine) : Type 0 where
  pub now : memory_now m ≡ record { image = image; windows = windows; said = []; time = 0; synced = 0 }
  pub names : memory_line m ≡ line
  pub ledger : memory_ledger m ≡ record { input = input; attaches = []; written = 0; syncs = 0 }
  pub report : memory_report m ≡ record { sectors = 0; fault_place = 0; disk_faults = 0; input_faults = 0; output_faults = 0 }
  pub starved : memory_starved m ≡ 0
  pub running : has_stopped m ≡ false
  pub calls : memory_calls m ≡ 0
  pub begun : (first : ℕ) → memory_begun m first ≡ 0
  pub written : memory_written m ≡ 0
  pub waiting : memory_waiting m ≡ None
  pub happens : memory_events m ≡ events

-- what was there since a moment
abbrev pub memory_left : MemoryMachine → ℕ → Moment → Type 0
memory_left m t left = LeftSince (memory_now m) m.past.items t left

abbrev pub MemoryTrusts : MemoryMachine → MemoryMachine → Type 0
MemoryTrusts old new = Trusts (Unit {0}) (Unit {0}) (IsHonest old) (IsHonest new)

abbrev pub MemoryElapses : MemoryMachine → MemoryMachine → (Moment → Type 0) → Type 0
MemoryElapses old new during = IsHonest new → Elapses (memory_calls old) (memory_calls new) (memory_left old) (memory_left new) during

abbrev pub MemoryReaches : MemoryMachine → MemoryMachine → (Moment → Type 0) → Type 0
MemoryReaches old new during = IsHonest new → Reaches (memory_now old) (memory_left new) during
