-- What a call that is refused or noted makes of the state.
use Rattle.std.proofs.Common.{◌≡◌, inl, inr, ℕ, ◌+◌, ◌-◌, ◌/◌, ◌^◌, ◌<◌, ◌==◌, min, replicate, Option, None, Some, Vec, Bool, true, false, ◌&&◌, cond, List, [], ◌∷◌, ◌++◌, length, refl, sym, ◌∙◌, ap, subst, arith}
use Rattle.std.proofs.lemmas.Bool.{or_parts}
use Rattle.std.specs.Prelude.{if◌then◌else◌, count_by, drop, Result, Ok, Err, OnOk, OnErr, is_ok, is_err}
use Rattle.std.specs.List.{list_any}
use Rattle.std.proofs.lemmas.List.{append-nil, length-replicate}
use Rattle.std.specs.declared.alloc.Global.{Global}
use Rattle.sector_disk.specs.declared.sector.Sector.{Sector}
use Rattle.sector_disk.specs.declared.sector.Sector.TheVariants.{Damaged}
use Rattle.sector_disk.specs.declared.sector.WeakRun.{WeakRun}
use Rattle.sector_disk.specs.declared.machine.Attach.{Attach}
use Rattle.sector_disk.specs.declared.machine.Attach.TheVariants.{Old, New}
use Rattle.sector_disk.specs.declared.machine.Failed.{Failed}
use Rattle.memory_machine.specs.declared.past.Step.{Step}
use Rattle.memory_machine.specs.declared.past.Work.{Work}
use Rattle.memory_machine.specs.declared.past.Work.TheVariants.{Attaching, Writing, Extending, Saying, Syncing, Quiet}
use Rattle.memory_machine.specs.declared.event.Event.{Event}
use Rattle.memory_machine.specs.declared.event.Event.TheVariants.{FailCall, FailIn, StopCall, Stop, StopIn, HurtAt, Pieces}
use Rattle.memory_machine.specs.declared.event.Write.{Write}
use Rattle.memory_machine.specs.declared.event.Verdict.{Verdict}
use Rattle.memory_machine.specs.declared.event.Verdict.TheVariants.{Goes, Fails, Stops}
use Rattle.memory_machine.specs.declared.memory.MemoryMachine.{MemoryMachine}
use Rattle.sector_disk.specs.Machine.{wrote}
use Rattle.sector_disk.proofs.Wear.{length-stand}
use Rattle.sector_disk.specs.Image.{settled, stand}
use Rattle.memory_machine.specs.Events.{verdict_at, verdict_of, or_else, counts_at, comes_by, stood_by, is_going, is_stop}
use Rattle.memory_machine.specs.Past.{hurt_all, attaches_in, attach_of, written_in, written_by, syncs_in, synced_by, begins_at, is_write_at, due}
use Rattle.memory_machine.specs.State.{DiskState, Rests, noted, asked, opened, put_sectors, put_by, waits_behind, flushed, spoken, ended, next_verdict, call_goes, write_verdict, Exactly, Calls, Attached, Written, Enlarged, grown, grown_by, same}
use Rattle.memory_machine.specs.Memory.{told_of, memory_state, memory_now, memory_report, memory_ledger, memory_honest, Notes, Refuses, Ends, Fails as Failing, IsAttaching, IsWriting}
use Rattle.memory_machine.specs.Windows.{all_weak}
use Rattle.memory_machine.proofs.Calls.{noted_ledger, noted_sectors}
use Rattle.memory_machine.proofs.Steps.{noted_calls, noted_step, noted_synced}
use Rattle.std.proofs.lemmas.List.Sums.{sum_by-append}

-- A REFUSED CALL

pub refused_state : (old new : MemoryMachine) → Refuses old new → Rests same (memory_state old) (memory_state new)
refused_state old new refused = elim refused.cause [
  | inl stopped ↦ inl (stopped.0, at stopped.1)
  | inr starved ↦ inr (starved.0, at starved.1)
]
  where
    input : drop new.taken new.input.items ≡ drop old.taken old.input.items
    input = ap (λ (m : MemoryMachine). drop m.taken m.input.items) refused.rest

    at : {n : ℕ} → new.starved ≡ n → memory_state new ≡ record (memory_state old) { starved = n }
    at is = ap memory_state refused.rest ∙ (λ i. record (memory_state old) {
      now = record (memory_now old) { time = length (refused.past i); synced = min old.synced (length (refused.past i)) };
      ledger = record { input = drop old.taken old.input.items; attaches = attaches_in (refused.past i); written = written_in (refused.past i); syncs = syncs_in (refused.past i) };
      calls = length (refused.past i);
      begun = λ first. count_by (begins_at first) (refused.past i);
      starved = is i;
    })

-- A NOTED CALL

-- a sync now
pub same_min : (sync n : ℕ) → sync ≡ n → min sync n ≡ n
same_min sync n is = omega (arith, is)

-- no run is named
pub none_settled : (present next : Option WeakRun) → None ≡ next → record { present = present; next = next } ≡ settled present next
none_settled present None is = refl
none_settled present (Some run) is = absurd (cc is)

none_add : (n : ℕ) → 0 + n ≡ n
none_add n = omega arith

count-push : (first : ℕ) (past : List Step) (step : Step) → count_by (begins_at first) (past ++ step ∷ []) ≡ count_by (begins_at first) past + (if is_write_at first step.work then 1 else 0)
count-push first past step =
    sum_by-append (λ (s : Step). cond (begins_at first s) 1 0) past (step ∷ [])
    ∙ ap (λ (n : ℕ). count_by (begins_at first) past + n) (none_add (cond (begins_at first step) 1 0))

-- the state after a noted call, by its work
abbrev noted_by : Bool → Work → DiskState → DiskState
noted_by settle work s = record (noted settle s) {
  ledger = record { input = s.ledger.input; attaches = s.ledger.attaches ++ attach_of work; written = s.ledger.written + written_by work; syncs = s.ledger.syncs + synced_by work };
  begun = λ first. s.begun first + (if is_write_at first work then 1 else 0);
}

-- whether it stops is for the call to say
pub noted_state : (settle : Bool) (work : Work) (old new : MemoryMachine) → Notes settle work old new → memory_state new ≡ record (noted_by settle work (memory_state old)) { stopped = new.stopped }
noted_state settle work old new call = ap memory_state call.rest ∙ (λ i. record (memory_state old) {
  now = record { image = image i; windows = record { present = old.present; next = old.next }; said = old.said.items; time = calls i; synced = synced i };
  ledger = ledger i;
  calls = calls i;
  begun = λ first. begun first i;
  allowed = allowed i;
  told = told i;
  stopped = new.stopped;
})
  where
    image : new.image.items ≡ hurt_all (due old.image.items (length old.past.items) settle old.events.items) old.image.items
    image = call.image ∙ ap (λ l. hurt_all l old.image.items) call.all_due

    mid : MemoryMachine
    mid = record old { image = new.image; past = new.past; honest = new.honest; synced = new.synced; stopped = new.stopped }

    ledger : memory_ledger mid ≡ record { input = (memory_ledger old).input; attaches = (memory_ledger old).attaches ++ attach_of work; written = (memory_ledger old).written + written_by work; syncs = (memory_ledger old).syncs + synced_by work }
    ledger = sym (ap memory_ledger call.rest) ∙ noted_ledger settle work old new call

    told : (memory_report mid).sectors ≡ (memory_report old).sectors
    told = sym (ap (λ (m : MemoryMachine). (memory_report m).sectors) call.rest) ∙ noted_sectors settle work old new call

    calls : length new.past.items ≡ length old.past.items + 1
    calls = noted_calls settle work old new call

    synced : min new.synced (length new.past.items) ≡ (memory_now old).synced
    synced = noted_synced settle work old new call

    begun : (first : ℕ) → count_by (begins_at first) new.past.items ≡ count_by (begins_at first) old.past.items + (if is_write_at first work then 1 else 0)
    begun first = ap (count_by (begins_at first)) call.past ∙ count-push first old.past.items (noted_step settle work old new call)

    allowed : new.honest ≡ (memory_honest old && all_weak old.present old.next (due old.image.items (length old.past.items) settle old.events.items))
    allowed = call.honest ∙ ap (λ l. memory_honest old && all_weak old.present old.next l) call.all_due

-- it goes on
pub going_state : (settle : Bool) (work : Work) (old new : MemoryMachine) → Notes settle work old new → new.stopped ≡ false → memory_state new ≡ noted_by settle work (memory_state old)
going_state settle work old new call runs = noted_state settle work old new call ∙ (λ i. record (noted_by settle work (memory_state old)) { stopped = (runs ∙ sym call.running) i })

-- or ends by its verdict
pub ended_state : (settle : Bool) (work : Work) (old new : MemoryMachine) → Ends settle work old new → memory_state new ≡ ended (next_verdict (memory_state old)) (noted_by settle work (memory_state old))
ended_state settle work old new ends = noted_state settle work old new ends.noted ∙ (λ i. record (noted_by settle work (memory_state old)) { stopped = ends.stops i })

pub going_runs : (verdict : Verdict) → is_going verdict ≡ true → is_stop verdict ≡ false
going_runs Goes goes = refl
going_runs (Fails some) goes = absurd (cc goes)
going_runs (Stops some) goes = absurd (cc goes)

pub going_comes : (verdict : Verdict) (more : ℕ) → is_going verdict ≡ true → comes_by verdict more ≡ true
going_comes Goes more goes = refl
going_comes (Fails some) more goes = absurd (cc goes)
going_comes (Stops some) more goes = absurd (cc goes)

-- what the machine notes is noted also where it stops
pub noted_stopped : (settle : Bool) (work : Work) (old new : MemoryMachine) (stops : Bool) → Notes settle work old new → Notes settle work old (record new { stopped = stops })
noted_stopped settle work old new stops call = record {
  running = call.running;
  hurts = call.hurts;
  all_due = call.all_due;
  image = call.image;
  past = call.past;
  honest = call.honest;
  synced = call.synced;
  rest = ap (λ (m : MemoryMachine). record m { stopped = stops }) call.rest;
}

add_none : (n : ℕ) → n + 0 ≡ n
add_none n = omega arith

-- a call that neither asks nor writes
pub plain : (settle : Bool) (s : DiskState) → record (noted settle s) { ledger = record { input = s.ledger.input; attaches = s.ledger.attaches ++ []; written = s.ledger.written + 0; syncs = s.ledger.syncs + 0 }; begun = λ first. s.begun first + 0 } ≡ noted settle s
plain settle s = λ i. record (noted settle s) {
  ledger = record { input = s.ledger.input; attaches = append-nil s.ledger.attaches i; written = add_none s.ledger.written i; syncs = add_none s.ledger.syncs i };
  begun = λ first. add_none (s.begun first) i;
}

quiet_state : (settle : Bool) (old new : MemoryMachine) → Notes settle Quiet old new → new.stopped ≡ false → memory_state new ≡ noted settle (memory_state old)
quiet_state settle old new call runs = going_state settle Quiet old new call runs ∙ plain settle (memory_state old)

-- a call that fails, by its work
pub failed_exactly : (settle : Bool) (work : Work) (old new : MemoryMachine) (done after : DiskState) → noted_by settle work (memory_state old) ≡ after → Failing settle work old new → Exactly (call_goes (memory_state old)) done (ended (next_verdict (memory_state old)) after) same (memory_state old) (memory_state new) false
failed_exactly settle work old new done after is (inl refused) = inl (refused_state old new refused)
failed_exactly settle work old new done after is (inr ends) = inr (record { running = ends.noted.running; goes = ends.fails; after = ended_state settle work old new ends ∙ ap (ended (next_verdict (memory_state old))) is })

-- by what the call answers
pub quiet_calls : (settle : Bool) (old new : MemoryMachine) (r : Result Unit Failed) → OnOk r (Notes settle Quiet old new) → OnErr r (Failing settle Quiet old new) → OnOk r (call_goes (memory_state old) ≡ true) → OnOk r (new.stopped ≡ false) → Calls settle same same (memory_state old) (memory_state new) (is_ok r)
quiet_calls settle old new (Ok x) ok err goes runs = record { running = ok.running; goes = goes; after = quiet_state settle old new ok runs }
quiet_calls settle old new (Err e) ok failed goes runs = failed_exactly settle Quiet old new (noted settle (memory_state old)) (noted settle (memory_state old)) (plain settle (memory_state old)) failed

-- A SYNC

syncing : (done : Bool) (s : DiskState) → record (noted_by false (Syncing done) s) { now = (noted false s).now } ≡ record (noted false s) { ledger = record s.ledger { syncs = s.ledger.syncs + (if done then 1 else 0) } }
syncing done s = λ i. record (noted false s) {
  ledger = record { input = s.ledger.input; attaches = append-nil s.ledger.attaches i; written = add_none s.ledger.written i; syncs = s.ledger.syncs + (if done then 1 else 0) };
  begun = λ first. add_none (s.begun first) i;
}

-- that is done
pub flushed_calls : (sync : ℕ) (old new : MemoryMachine) → sync ≡ length new.past.items → Notes false (Syncing true) old new → call_goes (memory_state old) ≡ true → new.stopped ≡ false → Calls false flushed same (memory_state old) (memory_state (record new { synced = sync; waiting = None })) true
flushed_calls sync old new now call goes runs =
    let after : memory_state new ≡ record (noted false (memory_state old)) { ledger = record (memory_ledger old) { syncs = (memory_ledger old).syncs + 1 } } = going_state false (Syncing true) old new call runs ∙ syncing true (memory_state old) in
    record {
      running = call.running;
      goes = goes;
      after =
          (λ i. record (memory_state new) { now = record (memory_now new) { synced = same_min sync (length new.past.items) now i }; waiting = None })
          ∙ ap (λ (s : DiskState). record s { now = record s.now { synced = s.calls }; waiting = None }) after;
    }

-- or fails by an event
pub unflushed_calls : (old new : MemoryMachine) → Ends false (Syncing false) old new → Calls false flushed same (memory_state old) (memory_state new) false
unflushed_calls old new ends =
    failed_exactly false (Syncing false) old new (flushed (noted false (memory_state old))) (noted false (memory_state old))
    (syncing false (memory_state old) ∙ (λ i. record (noted false (memory_state old)) { ledger = record (memory_ledger old) { syncs = add_none (memory_ledger old).syncs i } })) (inr ends)

-- A CALL THAT SAYS

-- with room made for the bytes
pub room_state : (old : MemoryMachine) (said : Vec ℕ Global) → said.items ≡ old.said.items → memory_state (record old { said = said }) ≡ memory_state old
room_state old said is = λ i. record (memory_state old) { now = record (memory_now old) { said = is i } }

pub said_none : (bytes : List ℕ) (old : MemoryMachine) (said copy : Vec ℕ Global) (new : MemoryMachine) → said.items ≡ old.said.items → Failing false (Saying copy) (record old { said = said }) new → Calls false (spoken bytes) same (memory_state old) (memory_state new) false
said_none bytes old said copy new is failed =
    let ready : MemoryMachine = record old { said = said } in
    subst (λ (s : DiskState). Calls false (spoken bytes) same s (memory_state new) false) (room_state old said is)
    (failed_exactly false (Saying copy) ready new (spoken bytes (noted false (memory_state ready))) (noted false (memory_state ready)) (plain false (memory_state ready)) failed)

pub said_all : (bytes : List ℕ) (old : MemoryMachine) (said copy : Vec ℕ Global) (new end : MemoryMachine) → said.items ≡ old.said.items → Notes false (Saying copy) (record old { said = said }) new → call_goes (memory_state (record old { said = said })) ≡ true → new.stopped ≡ false
    → end ≡ record new { said = end.said } → end.said.items ≡ new.said.items ++ bytes → Calls false (spoken bytes) same (memory_state old) (memory_state end) true
said_all bytes old said copy new end is call goes runs rest all =
    let ready : MemoryMachine = record old { said = said } in
    let after : memory_state end ≡ spoken bytes (memory_state new) = ap memory_state rest ∙ (λ i. record (memory_state new) { now = record (memory_now new) { said = all i } }) in
    subst (λ (s : DiskState). Calls false (spoken bytes) same s (memory_state end) true) (room_state old said is) (record {
      running = call.running;
      goes = goes;
      after = after ∙ ap (spoken bytes) (going_state false (Saying copy) ready new call runs ∙ plain false (memory_state ready));
    })

-- AN ATTACH

asking : (work : Work) (image : List Sector) (text : List ℕ) (how : Attach) (s : DiskState) → IsAttaching image text how work → noted_by false work s ≡ asked text how (noted false s)
asking (Attaching path asks kept) image text how s is = λ i. record (noted false s) {
  ledger = record { input = s.ledger.input; attaches = s.ledger.attaches ++ record { path = is.0 i; how = is.1 i } ∷ []; written = add_none s.ledger.written i; syncs = add_none s.ledger.syncs i };
  begun = λ first. add_none (s.begun first) i;
}
asking (Writing first bytes olds done) image text how s is = absurd is
asking (Extending had limit) image text how s is = absurd is
asking (Saying bytes) image text how s is = absurd is
asking (Syncing done) image text how s is = absurd is
asking Quiet image text how s is = absurd is

pub unopened : (work : Work) (image : List Sector) (text : List ℕ) (how : Attach) (old new : MemoryMachine) → IsAttaching image text how work → Failing false work old new → Attached text how same (memory_state old) (memory_state new) false
unopened work image text how old new is failed =
    failed_exactly false work old new (opened how (asked text how (noted false (memory_state old)))) (asked text how (noted false (memory_state old))) (asking work image text how (memory_state old) is) failed

pub found_state : (work : Work) (image : List Sector) (text : List ℕ) (sync : ℕ) (old new : MemoryMachine) → sync ≡ length new.past.items → IsAttaching image text Old work → Notes false work old new → call_goes (memory_state old) ≡ true → new.stopped ≡ false → (count : ℕ) → count ≡ min (length new.image.items) (2 ^ 32 - 1)
    → Attached text Old same (memory_state old) (memory_state (record new { next = None; told = count; synced = sync; waiting = None })) true
found_state work image text sync old new now is call goes runs count size =
    let told : told_of count (length new.image.items) ≡ min (length new.image.items) (2 ^ 32 - 1) = omega (arith, size) in
    let found_is : memory_state (record new { next = None; told = count; synced = sync; waiting = None }) ≡ opened Old (memory_state new) =
    λ i. record (memory_state new) { now = record (memory_now new) { windows = record { present = new.present; next = None }; synced = same_min sync (length new.past.items) now i }; told = told i; waiting = None } in
    record { running = call.running; goes = goes; after = found_is ∙ ap (opened Old) (going_state false work old new call runs ∙ asking work image text Old (memory_state old) is) }

pub made_state : (work : Work) (image : List Sector) (text : List ℕ) (count sync : ℕ) (fresh : Vec Sector Global) (old new : MemoryMachine) → sync ≡ length new.past.items → IsAttaching image text (New count) work → fresh.items ≡ replicate count Damaged → Notes false work old new → call_goes (memory_state old) ≡ true → new.stopped ≡ false → count < 2 ^ 32
    → Attached text (New count) same (memory_state old) (memory_state (record new { next = None; present = None; told = count; image = fresh; synced = sync; waiting = None })) true
made_state work image text count sync fresh old new now is made call goes runs small =
    let told : told_of count (length fresh.items) ≡ count = omega (arith, small, ap (λ (l : List Sector). length l) made, length-replicate count Damaged) in
    let fresh_is : memory_state (record new { next = None; present = None; told = count; image = fresh; synced = sync; waiting = None }) ≡ opened (New count) (memory_state new) =
    λ i. record (memory_state new) { now = record (memory_now new) { image = made i; windows = record { present = None; next = None }; synced = same_min sync (length new.past.items) now i }; told = told i; waiting = None } in
    record { running = call.running; goes = goes; after = fresh_is ∙ ap (opened (New count)) (going_state false work old new call runs ∙ asking work image text (New count) (memory_state old) is) }

-- A WRITE

-- what is done to the state beside its ledger and the count of writes
abbrev stands : ℕ → List ℕ → ℕ → Bool → DiskState → DiskState
stands first text some stops s = record s {
  now = record s.now { image = stand s.now.image first text some };
  written = min (s.written + some) (2 ^ 64 - 1);
  waiting = waits_behind s.waiting first;
  stopped = stops;
}

writing : (work : Work) (image : List Sector) (first : ℕ) (text : List ℕ) (some : ℕ) (done stops : Bool) (s : DiskState) → IsWriting image first text some done work → stands first text some stops (noted_by false work s) ≡ put_sectors first text some done stops (noted false s)
writing (Writing from copy olds did) image first text some done stops s is = λ i. record (put_sectors first text some done stops (noted false s)) {
  ledger = (counted_by ∙ counted done) i;
  begun = λ sector. s.begun sector + (if (is.0 i) == sector then 1 else 0);
}
  where
    counted_by : record s.ledger { attaches = s.ledger.attaches ++ []; syncs = s.ledger.syncs + 0; written = s.ledger.written + (if did then length copy.items / 512 else 0) } ≡ record s.ledger { written = s.ledger.written + (if done then length text / 512 else 0) }
    counted_by = λ i. record s.ledger { attaches = append-nil s.ledger.attaches i; syncs = add_none s.ledger.syncs i; written = s.ledger.written + (if is.3 i then length (is.1 i) / 512 else 0) }

    counted : (b : Bool) → record s.ledger { written = s.ledger.written + (if b then length text / 512 else 0) } ≡ (if b then wrote s.ledger (length text / 512) else s.ledger)
    counted true = refl
    counted false = λ i. record s.ledger { written = add_none s.ledger.written i }
writing (Attaching path asks kept) image first text some done stops s is = absurd is
writing (Extending had limit) image first text some done stops s is = absurd is
writing (Saying bytes) image first text some done stops s is = absurd is
writing (Syncing is_done) image first text some done stops s is = absurd is
writing Quiet image first text some done stops s is = absurd is

pub put_state : (work : Work) (first : ℕ) (text : List ℕ) (some : ℕ) (done stops : Bool) (old new end : MemoryMachine) → IsWriting old.image.items first text some done work → Notes false work old new → end.image.items ≡ stand new.image.items first text some
    → end.written ≡ min (new.written + some) (2 ^ 64 - 1) → end.waiting ≡ waits_behind new.waiting first → end ≡ record new { image = end.image; written = end.written; waiting = end.waiting; stopped = stops } → memory_state end ≡ put_sectors first text some done stops (noted false (memory_state old))
put_state work first text some done stops old new end is call image written waits rest =
    ap memory_state rest
    ∙ (λ i. record (memory_state new) { now = record (memory_now new) { image = image i }; told = told i; written = written i; waiting = waits i; stopped = stops })
    ∙ ap (stands first text some stops) (noted_state false work old new call)
    ∙ writing work old.image.items first text some done stops (memory_state old) is
  where
    told : told_of new.told (length end.image.items) ≡ (memory_report new).sectors
    told = ap (λ (l : List Sector). told_of new.told (length l)) image ∙ ap (told_of new.told) (length-stand new.image.items first text some)

pub put_exactly : (work : Work) (first : ℕ) (text : List ℕ) (some : ℕ) (done stops : Bool) (old new end : MemoryMachine) → IsWriting old.image.items first text some done work → Notes false work old new → end.image.items ≡ stand new.image.items first text some
    → end.written ≡ min (new.written + some) (2 ^ 64 - 1) → end.waiting ≡ waits_behind new.waiting first → end ≡ record new { image = end.image; written = end.written; waiting = end.waiting; stopped = stops }
    → Exactly done (put_sectors first text some done stops (noted false (memory_state old))) (put_sectors first text some done stops (noted false (memory_state old))) same (memory_state old) (memory_state end) done
put_exactly work first text some true stops old new end is call image written waits rest = record { running = call.running; goes = refl; after = put_state work first text some true stops old new end is call image written waits rest }
put_exactly work first text some false stops old new end is call image written waits rest = inr (record { running = call.running; goes = refl; after = put_state work first text some false stops old new end is call image written waits rest })

-- COUNTS OF AN EVENT

uncounted_at : (event : Event) (write : Write) (n : ℕ) → counts_at write.first event ≡ false → verdict_at event write ≡ verdict_at event (record write { begun = n })
uncounted_at (FailCall call stand) write n none = refl
uncounted_at (StopCall call stand) write n none = refl
uncounted_at (FailIn first nth stand) write n none =
    ap (λ (b : Bool). if b && (nth == write.begun + 1) then Fails stand else Goes) none ∙ sym (ap (λ (b : Bool). if b && (nth == n + 1) then Fails stand else Goes) none)
uncounted_at (Stop after) write n none = refl
uncounted_at (StopIn first nth stand) write n none =
    ap (λ (b : Bool). if b && (nth == write.begun + 1) then Stops stand else Goes) none ∙ sym (ap (λ (b : Bool). if b && (nth == n + 1) then Stops stand else Goes) none)
uncounted_at (HurtAt sector when) write n none = refl
uncounted_at (Pieces most) write n none = refl

uncounted : (events : List Event) (write : Write) (n : ℕ) → list_any (counts_at write.first) events ≡ false → verdict_of events write ≡ verdict_of events (record write { begun = n })
uncounted [] write n none = refl
uncounted (event ∷ events) write n none =
    let both = or_parts (counts_at write.first event) (list_any (counts_at write.first) events) none in
    λ i. or_else (uncounted_at event write n both.0 i) (uncounted events write n both.1 i)

-- a verdict needs the count only where an event names the sector
pub verdict_counts : (events : List Event) (write : Write) (n : ℕ) → verdict_of events (record write { begun = if list_any (counts_at write.first) events then n else 0 }) ≡ verdict_of events (record write { begun = n })
verdict_counts events write n = by_count (list_any (counts_at write.first) events) refl
  where
    by_count : (b : Bool) → list_any (counts_at write.first) events ≡ b → verdict_of events (record write { begun = if b then n else 0 }) ≡ verdict_of events (record write { begun = n })
    by_count true some = refl
    by_count false none = uncounted events (record write { begun = 0 }) n none

-- BY WHAT A PART OF THE CALL ANSWERS

pub by_err : {T E : Type 0} (r : Result T E) (P : Bool → Type 0) → true ≡ is_err r → P (is_ok r) → P false
by_err (Ok x) P err is = absurd (cc err)
by_err (Err e) P err is = is

pub by_ok : {T E : Type 0} (r : Result T E) (P : Bool → Type 0) → false ≡ is_err r → P (is_ok r) → P true
by_ok (Ok x) P ok is = is
by_ok (Err e) P ok is = absurd (cc ok)

-- and the call does more than its part
pub then_does : (settle : Bool) (does fault : DiskState → DiskState) (old new end : DiskState) → Calls settle same same old new true → end ≡ does new → Calls settle does fault old end true
then_does settle does fault old new end call is = record { running = call.running; goes = call.goes; after = is ∙ ap does call.after }

-- or fails, and its fault is counted
pub then_fails : (going : Bool) (done failed : DiskState) (fault : DiskState → DiskState) (old new end : DiskState) → Exactly going done failed same old new false → end ≡ fault new → Exactly going done failed fault old end false
then_fails going done failed fault old new end (inl (inl stopped)) is = inl (inl (stopped.0, is ∙ ap fault stopped.1))
then_fails going done failed fault old new end (inl (inr starved)) is = inl (inr (starved.0, is ∙ ap fault starved.1))
then_fails going done failed fault old new end (inr runs) is = inr (record { running = runs.running; goes = runs.goes; after = is ∙ ap fault runs.after })

-- a call that isn't a write
pub call_fails : (settle : Bool) (does fault : DiskState → DiskState) (old new end : DiskState) → Calls settle same same old new false → end ≡ fault new → Calls settle does fault old end false
call_fails settle does fault old new end call is = then_fails (call_goes old) (does (noted settle old)) (ended (next_verdict old) (noted settle old)) fault old new end call is

-- an attach
pub attach_fails : (text : List ℕ) (how : Attach) (fault : DiskState → DiskState) (old new end : DiskState) → Attached text how same old new false → end ≡ fault new → Attached text how fault old end false
attach_fails text how fault old new end call is = then_fails (call_goes old) (opened how (asked text how (noted false old))) (ended (next_verdict old) (asked text how (noted false old))) fault old new end call is

-- an extend
pub enlarge_fails : (count : ℕ) (fault : DiskState → DiskState) (old new end : DiskState) → Enlarged count same old new false → end ≡ fault new → Enlarged count fault old end false
enlarge_fails count fault old new end call is = then_fails (call_goes old) (grown count (noted false old)) (ended (next_verdict old) (grown_by (next_verdict old) count (noted false old))) fault old new end call is

-- a write, by the parts of its verdict
pub written_as : (first : ℕ) (text : List ℕ) (some : ℕ) (goes stops : Bool) (verdict : Verdict) (fault : DiskState → DiskState) (old new : DiskState) (ok : Bool) → some ≡ stood_by verdict (length text / 512) → goes ≡ is_going verdict → stops ≡ is_stop verdict → verdict ≡ write_verdict first (length text / 512) old
    → Exactly goes (put_sectors first text some goes stops (noted false old)) (put_sectors first text some goes stops (noted false old)) fault old new ok → Written first text fault old new ok
written_as first text some goes stops verdict fault old new ok some_is goes_is stops_is verdict_is exact =
    let By : ℕ → Bool → Bool → Type 0 = λ (n : ℕ) (g s : Bool). Exactly g (put_sectors first text n g s (noted false old)) (put_sectors first text n g s (noted false old)) fault old new ok in
    let by_verdict = subst (λ (n : ℕ). By n (is_going verdict) (is_stop verdict)) some_is (subst (λ (g : Bool). By some g (is_stop verdict)) goes_is (subst (λ (s : Bool). By some goes s) stops_is exact)) in
    subst (λ (v : Verdict). Exactly (is_going v) (put_by v first text (noted false old)) (put_by v first text (noted false old)) fault old new ok) verdict_is by_verdict
