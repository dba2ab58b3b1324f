-- What events say of a call.
use Rattle.std.specs.Prelude.{ℕ, ◌+◌, ◌-◌, Bool, true, false, ◌&&◌, ◌==◌, nat_le, nat_lt, if◌then◌else◌, List, [], ◌∷◌, min, max, Option, Some, None}
use Rattle.memory_machine.specs.declared.event.When.TheVariants.{Call, Settle}
use Rattle.memory_machine.specs.declared.event.Event.{Event}
use Rattle.memory_machine.specs.declared.event.Event.TheVariants.{FailCall, FailIn, StopCall, Stop, StopIn, HurtAt, Pieces}
use Rattle.memory_machine.specs.declared.event.Verdict.{Verdict}
use Rattle.memory_machine.specs.declared.event.Verdict.TheVariants.{Goes, Fails, Stops}
use Rattle.memory_machine.specs.declared.event.Write.{Write}

-- what the event says of the call that comes after so many, whichever it is
abbrev pub call_verdict_at : Event → ℕ → Verdict
call_verdict_at (FailCall call stand) calls = if call == calls + 1 then Fails stand else Goes
call_verdict_at (StopCall call stand) calls = if call == calls + 1 then Stops stand else Goes
call_verdict_at event calls = Goes

abbrev pub or_else : Verdict → Verdict → Verdict
or_else Goes other = other
or_else verdict other = verdict

-- the write is the nth of those that begin at this sector
abbrev pub is_nth_at : (first nth : ℕ) → Write → Bool
is_nth_at first nth write = (first == write.first) && (nth == write.begun + 1)

-- what the event says of a write
abbrev pub verdict_at : Event → Write → Verdict
verdict_at (FailIn first nth stand) write = if is_nth_at first nth write then Fails stand else Goes
verdict_at (Stop after) write = if nat_lt after (write.written + write.count) then Stops (after - write.written) else Goes
verdict_at (StopIn first nth stand) write = if is_nth_at first nth write then Stops stand else Goes
verdict_at event write = call_verdict_at event write.calls

-- the first that says something decides
abbrev pub verdict_of : List Event → Write → Verdict
verdict_of [] write = Goes
verdict_of (event ∷ events) write = or_else (verdict_at event write) (verdict_of events write)

-- and so of a call that isn't a write
abbrev pub call_verdict_of : List Event → ℕ → Verdict
call_verdict_of [] calls = Goes
call_verdict_of (event ∷ events) calls = or_else (call_verdict_at event calls) (call_verdict_of events calls)

-- the event counts the writes that begin at this sector
abbrev pub counts_at : ℕ → Event → Bool
counts_at sector (FailIn first nth stand) = first == sector
counts_at sector (StopIn first nth stand) = first == sector
counts_at sector event = false

abbrev pub hurt_by : Event → ℕ → Bool → Option ℕ
hurt_by (HurtAt sector (Call call)) calls settle = if call == calls + 1 then Some sector else None
hurt_by (HurtAt sector Settle) calls settle = if settle then Some sector else None
hurt_by event calls settle = None

-- how many bytes one `take` may give, where there is room for so many
abbrev pub piece_of : ℕ → List Event → ℕ
piece_of room [] = room
piece_of room (Pieces most ∷ events) = piece_of (min room (max most 1)) events
piece_of room (event ∷ events) = piece_of room events

-- how many sectors of a write stand
abbrev pub stood_by : Verdict → ℕ → ℕ
stood_by Goes count = count
stood_by (Fails some) count = min count some
stood_by (Stops some) count = min count some

-- so many new sectors of an extend come, all of them or none: where it fails or stops, if the event lets so many stand
abbrev pub comes_by : Verdict → ℕ → Bool
comes_by Goes more = true
comes_by (Fails some) more = nat_le more some
comes_by (Stops some) more = nat_le more some

-- neither fails nor stops in it
abbrev pub is_going : Verdict → Bool
is_going Goes = true
is_going verdict = false

-- the call stops the machine
abbrev pub is_stop : Verdict → Bool
is_stop (Stops some) = true
is_stop verdict = false
