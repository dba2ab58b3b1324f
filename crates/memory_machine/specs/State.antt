-- A machine in memory as its events see it, and what each call makes of it.
use Rattle.std.specs.Prelude.{◌≡◌, ◌⊎◌, ℕ, ◌+◌, ◌-◌, ◌/◌, ◌^◌, ◌==◌, Bool, true, false, ◌&&◌, if◌then◌else◌, List, ◌++◌, length, min, max, replicate, Option, Some, None, unwrap_or}
use Rattle.sector_disk.specs.declared.sector.Sector.TheVariants.{Damaged}
use Rattle.sector_disk.specs.declared.sector.WeakRun.{WeakRun}
use Rattle.memory_machine.specs.declared.past.Hurt.{Hurt}
use Rattle.sector_disk.specs.declared.machine.Attach.{Attach}
use Rattle.sector_disk.specs.declared.machine.Attach.TheVariants.{Old, New}
use Rattle.memory_machine.specs.declared.event.Event.{Event}
use Rattle.memory_machine.specs.declared.event.Verdict.{Verdict}
use Rattle.sector_disk.specs.Image.{stand, settled, extended}
use Rattle.memory_machine.specs.Windows.{is_short, all_weak, weak_run_at}
use Rattle.memory_machine.specs.Events.{verdict_of, call_verdict_of, comes_by, piece_of, stood_by, is_going, is_stop}
use Rattle.memory_machine.specs.Past.{due, hurt_all}
use Rattle.sector_disk.specs.Machine.{Moment, Ledger, asked_for, wrote, synced_once, took}

-- The weak runs, the first present one first, and how many of them healings have named since.
pub record Line : Type 0 where
  pub runs : List WeakRun
  pub named : ℕ

-- the run that the next healing names, where it may have so many sectors
abbrev pub next_run : (longest : ℕ) → Line → WeakRun
next_run longest line = weak_run_at longest line.runs (line.named + 1)

-- one more, but not past the last value of a count
abbrev pub one_more : ℕ → ℕ
one_more n = min (n + 1) (2 ^ 64 - 1)

-- the line after a healing
abbrev pub moved_on : Line → Line
moved_on line = record { runs = line.runs; named = one_more line.named }

-- the line before any healing
abbrev pub from_first : List WeakRun → Line
from_first runs = record { runs = runs; named = 0 }

-- How often the disk, the input and the output have failed, and the place of the disk's last fault.
pub record Faults : Type 0 where
  pub place : ℕ
  pub disk : ℕ
  pub input : ℕ
  pub output : ℕ

-- All of a machine but its earlier moments: what is there, what was asked, the number of sectors that is told, the faults,
-- what is to happen, how many calls were noted, how many writes have begun at each sector, how many sectors writes have
-- put, the first sector of the first write since the last sync, whether it has stopped, whether the hurts lay in the windows and the runs before the last call were short, and
-- how often a growth was refused.
pub record DiskState : Type 0 where
  pub now : Moment
  pub ledger : Ledger
  pub told : ℕ
  pub faults : Faults
  pub line : Line
  pub events : List Event
  pub calls : ℕ
  pub begun : ℕ → ℕ
  pub written : ℕ
  pub waiting : Option ℕ
  pub stopped : Bool
  pub allowed : Bool
  pub starved : ℕ

-- each hurt so far lay in the windows, and their runs were and are short
abbrev pub is_honest : DiskState → Bool
is_honest s = s.allowed && (is_short s.now.windows.present && is_short s.now.windows.next)

-- the first sector of the first write that waits for a sync, and 0 where none waits
abbrev pub first_waiting : DiskState → ℕ
first_waiting s = unwrap_or s.waiting 0

-- what becomes of the next call, which isn't a write
abbrev pub next_verdict : DiskState → Verdict
next_verdict s = call_verdict_of s.events s.calls

-- no event fails or stops it
abbrev pub call_goes : DiskState → Bool
call_goes s = is_going (next_verdict s)

-- a call that fails stops the machine, or not
abbrev pub ended : Verdict → DiskState → DiskState
ended verdict s = record s { stopped = is_stop verdict }

-- what becomes of the next call, which is a write of so many sectors from one on
abbrev pub write_verdict : ℕ → ℕ → DiskState → Verdict
write_verdict first count s = verdict_of s.events record { calls = s.calls; written = s.written; first = first; begun = s.begun first; count = count }

-- the hurts that are due before the next call, which is a `settle` or not
abbrev pub due_next : Bool → DiskState → List Hurt
due_next settle s = due s.now.image s.calls settle s.events

-- a call is noted, and the hurts before it have come
abbrev pub noted : Bool → DiskState → DiskState
noted settle s = record s {
  now = record s.now { image = hurt_all (due_next settle s) s.now.image; time = s.calls + 1 };
  calls = s.calls + 1;
  allowed = is_honest s && all_weak s.now.windows.present s.now.windows.next (due_next settle s);
}

-- an attach is asked for
abbrev pub asked : List ℕ → Attach → DiskState → DiskState
asked path how s = record s { ledger = asked_for s.ledger path how }

-- and finds or makes its image, behind a sync
abbrev pub opened : Attach → DiskState → DiskState
opened Old s = record s { now = record s.now { windows = record { present = s.now.windows.present; next = None }; synced = s.calls }; told = min (length s.now.image) (2 ^ 32 - 1); waiting = None }
opened (New count) s = record s { now = record s.now { image = replicate count Damaged; windows = record { present = None; next = None }; synced = s.calls }; told = count; waiting = None }

-- a write that waits behind those that wait
abbrev pub waits_behind : Option ℕ → ℕ → Option ℕ
waits_behind None first = Some first
waits_behind (Some earlier) first = Some earlier

-- so many sectors of a write stand; it is done, or not, and stops the machine, or not
abbrev pub put_sectors : ℕ → List ℕ → ℕ → Bool → Bool → DiskState → DiskState
put_sectors first bytes stood done stops s = record s {
  now = record s.now { image = stand s.now.image first bytes stood };
  ledger = if done then wrote s.ledger (length bytes / 512) else s.ledger;
  begun = λ sector. s.begun sector + (if first == sector then 1 else 0);
  written = min (s.written + stood) (2 ^ 64 - 1);
  waiting = waits_behind s.waiting first;
  stopped = stops;
}

-- a write, by its verdict
abbrev pub put_by : Verdict → ℕ → List ℕ → DiskState → DiskState
put_by verdict first bytes = put_sectors first bytes (stood_by verdict (length bytes / 512)) (is_going verdict) (is_stop verdict)

-- all that was written is brought to the disk, by a sync that is counted
abbrev pub flushed : DiskState → DiskState
flushed s = record s { now = record s.now { synced = s.calls }; ledger = synced_once s.ledger; waiting = None }

-- the image has so many sectors at least, behind a sync, and they are told
abbrev pub grown : (count : ℕ) → DiskState → DiskState
grown count s = record s { now = record s.now { image = extended count s.now.image; synced = s.calls }; told = max s.told count; waiting = None }

-- or it may have them where an extend fails, behind no sync and untold
abbrev pub grown_by : Verdict → (count : ℕ) → DiskState → DiskState
grown_by verdict count s = record s { now = record s.now { image = if comes_by verdict (count - length s.now.image) then extended count s.now.image else s.now.image } }

-- the next run is named, behind a sync
abbrev pub healed : (longest : ℕ) → DiskState → DiskState
healed longest s = record s {
  now = record s.now { windows = record { present = s.now.windows.present; next = Some (next_run longest s.line) }; synced = s.calls };
  line = moved_on s.line;
  waiting = None;
}

-- the named run is the present one, behind a sync
abbrev pub closed : DiskState → DiskState
closed s = record s { now = record s.now { windows = settled s.now.windows.present s.now.windows.next; synced = s.calls }; waiting = None }

-- how many bytes a `take` gives where there is room for so many
abbrev pub given : DiskState → ℕ → ℕ
given s room = min (piece_of room s.events) (length s.ledger.input)

-- and they are taken
abbrev pub taken : ℕ → DiskState → DiskState
taken room s = record s { ledger = took s.ledger (given s room) }

abbrev pub spoken : List ℕ → DiskState → DiskState
spoken bytes s = record s { now = record s.now { said = s.now.said ++ bytes } }

abbrev pub same : DiskState → DiskState
same s = s

-- a fault of the disk is counted, and its place is told
abbrev pub disk_failed : ℕ → DiskState → DiskState
disk_failed place s = record s { faults = record { place = place; disk = one_more s.faults.disk; input = s.faults.input; output = s.faults.output } }

-- one of the input is counted
abbrev pub input_failed : DiskState → DiskState
input_failed s = record s { faults = record { place = s.faults.place; disk = s.faults.disk; input = one_more s.faults.input; output = s.faults.output } }

-- one of the output is counted
abbrev pub output_failed : DiskState → DiskState
output_failed s = record s { faults = record { place = s.faults.place; disk = s.faults.disk; input = s.faults.input; output = one_more s.faults.output } }

-- A call isn't noted: the machine had stopped, or a growth was refused and that is counted. It counts its fault and
-- does nothing else.
abbrev pub Rests : (DiskState → DiskState) → DiskState → DiskState → Type 0
Rests fault old new = ((old.stopped ≡ true) × (new ≡ fault old))
    ⊎ ((old.stopped ≡ false) × (new ≡ fault (record old { starved = one_more old.starved })))

-- A call of a machine that runs is noted, and whether it goes is said by the events.
pub record Runs (going finished : Bool) (old new noted : DiskState) : Type 0 where
  pub running : old.stopped ≡ false
  pub goes : going ≡ finished
  pub after : new ≡ noted

-- Where a call answers Ok it is noted and done, and counts no fault. One that fails rests, or is noted and failed or
-- stopped by an event, and counts its fault.
abbrev pub Exactly : Bool → (done failed : DiskState) → (fault : DiskState → DiskState) → DiskState → DiskState → Bool → Type 0
Exactly going done failed fault old new true = Runs going true old new done
Exactly going done failed fault old new false = Rests fault old new ⊎ Runs going false old new (fault failed)

-- so is a call that isn't a write
abbrev pub Calls : Bool → (does fault : DiskState → DiskState) → DiskState → DiskState → Bool → Type 0
Calls settle does fault old new ok = Exactly (call_goes old) (does (noted settle old)) (ended (next_verdict old) (noted settle old)) fault old new ok

-- and an attach, which is asked for also where an event fails it
abbrev pub Attached : List ℕ → Attach → (fault : DiskState → DiskState) → DiskState → DiskState → Bool → Type 0
Attached path how fault old new ok = Exactly (call_goes old) (opened how (asked path how (noted false old))) (ended (next_verdict old) (asked path how (noted false old))) fault old new ok

-- and an extend, whose sectors may come also where an event fails it
abbrev pub Enlarged : ℕ → (fault : DiskState → DiskState) → DiskState → DiskState → Bool → Type 0
Enlarged count fault old new ok = Exactly (call_goes old) (grown count (noted false old)) (ended (next_verdict old) (grown_by (next_verdict old) count (noted false old))) fault old new ok

-- and a write, of which some first sectors stand also where an event fails it
abbrev pub Written : ℕ → List ℕ → (fault : DiskState → DiskState) → DiskState → DiskState → Bool → Type 0
Written first bytes fault old new ok =
    let verdict = write_verdict first (length bytes / 512) old in
    let after = put_by verdict first bytes (noted false old) in
    Exactly (is_going verdict) after after fault old new ok
