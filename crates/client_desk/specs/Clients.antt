-- What a desk has in memory of its clients, over any machine.
use Rattle.std.specs.Prelude.{◌≡◌, ◌⊎◌, ⊤, ℕ, ◌+◌, ◌-◌, ◌*◌, ◌/◌, ◌%◌, min, ◌≤◌, ◌||◌, Bool, nat_lt, ◌==◌, List, [], ◌∷◌, ◌++◌, length, take, drop, Option, Some, None, IsSome, IsTrue, IsFalse, false, Result, Ok, Err, if◌then◌else◌, get_or, set, replicate, slice_index_or, IfOk, MatchResult}
use Rattle.sector_disk.specs.declared.machine.Machine.{Ghosts}
use Rattle.run_table.specs.declared.run.Run.{Run}
use Rattle.run_table.specs.RunTable.{sectors_of}
use Rattle.run_table.specs.Space.{contains}
use Rattle.fsd_bytes.specs.declared.key.Key.{Key}
use Rattle.fsd_bytes.specs.declared.refusal.Refusal.{Refusal}
use Rattle.fsd_bytes.specs.declared.refusal.Refusal.TheVariants as Why
use Rattle.fsd_formats.specs.declared.entry.Entry.{Entry}
use Rattle.fsd_formats.specs.NamePage.{sectors_for}
use Rattle.fsd_files.specs.Desk.{is_client}
use Rattle.fsd_files.specs.Disk.{Sectors}
use Rattle.fsd_files.specs.Kept.{data_sectors}
use Rattle.fsd_sound.specs.Lookups.{LacksKey}
use Rattle.volume_contract.specs.Found.{ShowsReached}
use Rattle.volume_contract.specs.Causes.{Causes}
use Rattle.fsd_table.specs.Reached.{HasEntry}
use Rattle.volume_contract.specs.Order.{KeepsRefused, CallStep, Test, reserve_steps, slices_steps, enter_steps, entry_steps, held_steps}
use Rattle.volume_contract.specs.Pieces.{IsDraft, IsHeldVersion, Enters, GivesBack, HoldsAt, Reserves, Unholds, in_leader, slice_count}
use Rattle.volume_contract.specs.State.{GoesOn, HasCounted, State, downs, downs_for, forces_first, most_readers, no_readers}
use Rattle.client_desk.specs.declared.client.Creation.{Creation}
use Rattle.client_desk.specs.declared.client.Reader.{Reader}
use Rattle.client_desk.specs.declared.client.Client.{Client}
use Rattle.client_desk.specs.declared.client.Client.TheVariants.{Idle, Writing, Reading}

abbrev pub client_at : List Client → ℕ → Client
client_at clients i = get_or clients i Idle

-- the sectors of a creation's bytes
abbrev pub draft_sectors : Creation → Sectors
draft_sectors w t = contains (data_sectors w.draft.runs) t

-- It has so many bytes more.
pub record GrowsBy (n : ℕ) (old new : Creation) : Type 0 where
  pub name : new.name ≡ old.name
  pub draft : new.draft ≡ old.draft
  pub got : new.got ≡ old.got + n

-- It has so many of these bytes more: they end a slice, or they are all.
pub record FillsSlice (count : ℕ) (old new : Creation) (n : ℕ) : Type 0 where
  pub grows : GrowsBy n old new
  pub part : n ≤ count
  pub seam : (new.got % 512 ≡ 0) ⊎ (n ≡ count)

-- none has anything open
abbrev pub no_desk : List Client
no_desk = replicate 8 Idle

-- ---- bytes so far

abbrev pub slice_len : ℕ
slice_len = 512

-- how many of the bytes so far are written, of a version of so many: the whole slices of them, or all where it is whole
abbrev pub written_len : (len got : ℕ) → ℕ
written_len len got = if got == len then got else got / slice_len * slice_len

-- how many slices these are: the full ones, or all where it is whole
abbrev pub slices_due : (len got : ℕ) → ℕ
slices_due len got = slice_count (written_len len got)

-- how many slices so many bytes more of a client's creation fill or end
abbrev pub piece_len : Client → (count : ℕ) → ℕ
piece_len (Writing w) count = slices_due w.draft.length (w.got + count) - slices_due w.draft.length w.got
piece_len other count = 0

-- how many of so many bytes fill slices, or all of them
abbrev pub whole_part : ℕ → Bool → ℕ
whole_part count all = if all then count else count / slice_len * slice_len

-- so many bytes in a slice are written: it is full, or the version ends there
abbrev pub is_due : (len filled got : ℕ) → Bool
is_due len filled got = filled == slice_len || got == len

-- those that fill no slice
abbrev pub tail_of : Creation → List ℕ
tail_of w = take (w.got - written_len w.draft.length w.got) w.slice

-- ---- what holds of a client

-- no more bytes than were declared, or than there are
abbrev pub IsClient : Client → Type 0
IsClient Idle = ⊤
IsClient (Writing w) = w.got ≤ w.draft.length
IsClient (Reading r) = r.place ≤ r.held.entry.length

-- what it has open is of this volume
abbrev pub IsOf : State → Client → Type 0
IsOf s Idle = ⊤
IsOf s (Writing w) = IsDraft s w.draft
IsOf s (Reading r) = IsHeldVersion s r.held

-- two clients share no sector that they write, and no place of a version that they read
abbrev pub ShareNothing : Client → Client → Type 0
ShareNothing (Writing a) (Writing b) = (t : ℕ) → IsTrue (contains (sectors_of a.draft.runs) t) → IsFalse (contains (sectors_of b.draft.runs) t)
ShareNothing (Reading a) (Reading b) = a.held.place ≡ b.held.place → ⊥
ShareNothing a b = ⊤

-- the sector is one of the creation that the client writes
abbrev pub WritesAt : Client → ℕ → Type 0
WritesAt (Writing w) t = IsTrue (contains (sectors_of w.draft.runs) t)
WritesAt other t = ⊥

-- the client reads the version of this place
abbrev pub ReadsAt : Client → ℕ → Type 0
ReadsAt (Reading r) place = r.held.place ≡ place
ReadsAt other place = ⊥

-- the client writes the creation that lies in these runs
abbrev pub WritesDraftIn : Client → List Run → Type 0
WritesDraftIn (Writing w) runs = w.draft.runs ≡ runs
WritesDraftIn other runs = ⊥

-- What the clients have open is this volume's, each part of it one client's, and nobody else has anything open.
pub record IsDesk (s : State) (clients : List Client) : Type 0 where
  pub each : (i : ℕ) → IsOf s (client_at clients i)
  pub apart : (i j : ℕ) → (i ≡ j → ⊥) → ShareNothing (client_at clients i) (client_at clients j)
  pub places : length s.readers ≡ most_readers
  pub drafts : (t : ℕ) → IsTrue (contains s.unfinished t) → (i : ℕ) × WritesAt (client_at clients i) t
  pub held : (place : ℕ) (runs : List Run) → slice_index_or s.readers place None ≡ Some runs → (i : ℕ) × ReadsAt (client_at clients i) place

-- what becomes of the volume where a client's part is given up
abbrev pub GivesUpPart : Client → State → State → Type 0
GivesUpPart Idle old new = new ≡ old
GivesUpPart (Writing w) old new = GivesBack w.draft.runs old new
GivesUpPart (Reading r) old new = Unholds r.held.place old new

-- the version that the client writes has this name
abbrev pub IsNamed : Client → List ℕ → Type 0
IsNamed (Writing w) name = w.name ≡ name
IsNamed other name = ⊥

abbrev pub IsReader : Client → Type 0
IsReader (Reading r) = ⊤
IsReader other = ⊥

-- the reader goes on behind so many bytes more
abbrev pub GoesOnBehind : (n : ℕ) → Client → Client → Type 0
GoesOnBehind n (Reading r) new = (new ≡ Reading (record r { place = r.place + n })) × (r.place + n ≤ r.held.entry.length)
GoesOnBehind n other new = ⊥

-- so many bytes are those that it has left, or as many as there is room for
abbrev pub CountsTo : (room n : ℕ) → Client → Type 0
CountsTo room n (Reading r) = n ≡ min (r.held.entry.length - r.place) room
CountsTo room n other = ⊥

-- all bytes of its version came
abbrev pub IsWholeOne : Client → Type 0
IsWholeOne (Writing w) = w.got ≡ w.draft.length
IsWholeOne other = ⊥

abbrev pub IsWriter : Client → Type 0
IsWriter (Writing w) = ⊤
IsWriter other = ⊥

-- so many bytes more may come
abbrev pub MayCome : Client → ℕ → Type 0
MayCome (Writing w) count = w.got + count ≤ w.draft.length
MayCome other count = ⊥

-- it goes on, with so many bytes more, and so many in all
abbrev pub Continuing : (count n : ℕ) → Client → Client → Type 0
Continuing count n (Writing w) new = (x : Creation) × (new ≡ Writing x) × GrowsBy count w x × (n ≡ x.got)
Continuing count n other new = ⊥

-- its creation is over
abbrev pub EntersFor : Client → State → State → Type 0
EntersFor (Writing w) old new = Enters w.draft.runs old new
EntersFor other old new = ⊥

-- ---- tests

abbrev pub client_place : (c : ℕ) → Result ℕ Refusal
client_place c = if is_client c then Ok (c - 1) else Err (Why.BadClient c)

abbrev pub as_idle : (c i : ℕ) → Client → Result ℕ Refusal
as_idle c i Idle = Ok i
as_idle c i other = Err (Why.Busy c)

abbrev pub as_writing : (c i : ℕ) → Client → Result ℕ Refusal
as_writing c i (Writing w) = Ok i
as_writing c i other = Err (Why.Idle c)

abbrev pub as_reading : (c i : ℕ) → Client → Result ℕ Refusal
as_reading c i (Reading r) = Ok i
as_reading c i other = Err (Why.Idle c)

-- the place of a client that has this open, or why it can't be
abbrev pub tested : ((c i : ℕ) → Client → Result ℕ Refusal) → List Client → (c : ℕ) → Result ℕ Refusal → Result ℕ Refusal
tested as_such clients c (Ok i) = as_such c i (client_at clients i)
tested as_such clients c (Err why) = Err why

abbrev pub found : ((c i : ℕ) → Client → Result ℕ Refusal) → List Client → (c : ℕ) → Result ℕ Refusal
found as_such clients c = tested as_such clients c (client_place c)

-- ---- the order of refusals

abbrev pub fault_in : {T : Type 0} → Result T Refusal → Option Refusal
fault_in (Ok x) = None
fault_in (Err why) = Some why

abbrev pub begin_steps : State → List Client → (c len : ℕ) → List CallStep
begin_steps s clients c len = Test (fault_in (found as_idle clients c)) ∷ reserve_steps s len

-- the client's creation, where it has one
abbrev pub long_for : (len got count : ℕ) → Option Refusal
long_for len got count = if nat_lt len (got + count) then Some (Why.Long len (got + count)) else None

abbrev pub too_long : Client → (count : ℕ) → Option Refusal
too_long (Writing w) count = long_for w.draft.length w.got count
too_long other count = None

abbrev pub too_short : Client → Option Refusal
too_short (Writing w) = if nat_lt w.got w.draft.length then Some (Why.Short w.draft.length w.got) else None
too_short other = None

abbrev pub in_data : Client → Sectors
in_data (Writing w) t = contains (data_sectors w.draft.runs) t
in_data other t = contains [] t

abbrev pub in_first : Client → Sectors
in_first (Writing w) t = in_leader w.draft.runs t
in_first other t = contains [] t

abbrev pub piece_steps : State → List Client → (c count : ℕ) → List CallStep
piece_steps s clients c count =
    let client = client_at clients (c - 1) in
    Test (fault_in (found as_writing clients c)) ∷ Test (too_long client count) ∷ slices_steps s (in_data client)

abbrev pub close_steps : State → List Client → (c : ℕ) → List CallStep
close_steps s clients c =
    let client = client_at clients (c - 1) in
    Test (fault_in (found as_writing clients c)) ∷ Test (too_short client) ∷ enter_steps s None (in_first client)

abbrev pub drop_steps : List Client → (c : ℕ) → List CallStep
drop_steps clients c = Test (fault_in (found as_writing clients c)) ∷ []

abbrev pub open_steps : State → List Client → (c : ℕ) → List CallStep
open_steps s clients c = Test (fault_in (found as_idle clients c)) ∷ entry_steps s

abbrev pub desk_next_steps : State → List Client → (c : ℕ) → List CallStep
desk_next_steps s clients c = Test (fault_in (found as_reading clients c)) ∷ held_steps s

abbrev pub done_steps : List Client → (c : ℕ) → List CallStep
done_steps clients c = Test (fault_in (found as_reading clients c)) ∷ []

-- how many bytes a client has left to read
abbrev pub bytes_to_read : Client → Option ℕ
bytes_to_read (Reading r) = Some (r.held.entry.length - r.place)
bytes_to_read other = None

abbrev pub left_at : List Client → Result ℕ Refusal → Option ℕ
left_at clients (Ok i) = bytes_to_read (client_at clients i)
left_at clients (Err why) = None

-- how many bytes were declared of the version that it writes
abbrev pub declared_of : Client → Option ℕ
declared_of (Writing w) = Some w.draft.length
declared_of other = None

abbrev pub declared_at : List Client → Result ℕ Refusal → Option ℕ
declared_at clients (Ok i) = declared_of (client_at clients i)
declared_at clients (Err why) = None

-- the version that it reads
abbrev pub key_read : Client → Option Key
key_read (Reading r) = Some r.held.entry.key
key_read other = None

abbrev pub client_key : List Client → Result ℕ Refusal → Option Key
client_key clients (Ok i) = key_read (client_at clients i)
client_key clients (Err why) = None

-- ---- what a call keeps of a volume

-- It is down where it was, or where a force has failed at this place.
pub record Continues (place : Option ℕ) (old new : State) : Type 0 where
  pub layout : new.layout ≡ old.layout
  pub epoch : new.serial.epoch ≡ old.serial.epoch
  pub down : (new.down ≡ old.down) ⊎ (IsSome place × (new.down ≡ place))

-- A refusal at one of these steps: the clients are as they were, and the volume is as the steps before left it.
pub record DeclinesAt (steps : List CallStep) (why : Refusal) (clients after : List Client) (old new : State) : Type 0 where
  pub desk : after ≡ clients
  pub volume : KeepsRefused steps why old new

-- The client writes a version of this name and length, of which no bytes came, where a place was reserved for it.
pub record StartsWriting (i : ℕ) (name : List ℕ) (len : ℕ) (clients after : List Client) (old new : State) : Type 0 where
  pub creation : Creation
  pub desk : after ≡ set clients i (Writing creation)
  pub named : creation.name ≡ name
  pub long : creation.draft.length ≡ len
  pub none : creation.got ≡ 0
  pub volume : Reserves (sectors_for len) old new creation.draft

-- The client's creation has so many bytes more, which makes so many in all.
pub record WritesMore (i count total : ℕ) (clients after : List Client) (old new : State) : Type 0 where
  pub before : Creation
  pub was : client_at clients i ≡ Writing before
  pub creation : Creation
  pub desk : after ≡ set clients i (Writing creation)
  pub grows : GrowsBy count before creation
  pub got : total ≡ creation.got
  pub volume : new ≡ old

-- A version is made of the client's creation, which is over, and the client has nothing open any more. No serial is
-- drawn, and a record is numbered where a force came first.
pub record MakesOfDraft (i : ℕ) (clients after : List Client) (old new : State) : Type 0 where
  pub desk : after ≡ set clients i Idle
  pub volume : EntersFor (client_at clients i) old new
  pub counted : HasCounted false (forces_first old) old new

-- The client reads the version of this key, which has so many bytes, from its first on.
pub record StartsReading (i : ℕ) (key : Key) (len : ℕ) (clients after : List Client) (old new : State) : Type 0 where
  pub reader : Reader
  pub desk : after ≡ set clients i (Reading reader)
  pub of_key : reader.held.entry.key ≡ key
  pub long : len ≡ reader.held.entry.length
  pub from : reader.place ≡ 0
  pub volume : HoldsAt reader.held old new

-- The client has read so many bytes: those that were left, or as many as there was room for. It goes on behind them.
pub record ReadsMore (i room n : ℕ) (clients after : List Client) (old new : State) : Type 0 where
  pub reader : Reader
  pub was : client_at clients i ≡ Reading reader
  pub count : n ≡ min (reader.held.entry.length - reader.place) room
  pub desk : after ≡ set clients i (Reading (record reader { place = reader.place + n }))
  pub volume : new ≡ old

-- The client has given up what it had open, and has nothing open any more.
pub record Ended (i : ℕ) (clients after : List Client) (old new : State) : Type 0 where
  pub desk : after ≡ set clients i Idle
  pub volume : GivesUpPart (client_at clients i) old new

-- All is as it was.
pub record AllStays (clients after : List Client) (old new : State) : Type 0 where
  pub desk : after ≡ clients
  pub volume : new ≡ old

-- a piece that is refused where the disk fails, or the volume is down, ends the creation
abbrev pub EndsDraftAt : Refusal → (i : ℕ) → (clients after : List Client) → State → State → Type 0
EndsDraftAt (Why.Device s) i clients after old new = Ended i clients after old new
EndsDraftAt (Why.Down s) i clients after old new = Ended i clients after old new
EndsDraftAt why i clients after old new = AllStays clients after old new

-- ---- what a call promises over any machine

-- The desk is still this volume's: an answer makes this of the clients and the volume, a refusal that.
pub record KeepsDesk {T : Type 0} (answers : T → List Client → List Client → State → State → Type 0) (refuses : Refusal → List Client → List Client → State → State → Type 0) (clients after : List Client) (old new : State) (result : Result T Refusal) : Type 0 where
  pub desk : IsDesk new after
  pub kept : MatchResult result (λ x. answers x clients after old new) (λ why. refuses why clients after old new)

-- So it is of a close, whose version has the name of the client's creation; the volume goes on.
pub record KeepsClosing (i : ℕ) (steps : List CallStep) (clients after : List Client) (old new : State) (result : Result Key Refusal) : Type 0 where
  pub desk : IsDesk new after
  pub name : IfOk result (λ key. IsNamed (client_at clients i) key.name)
  pub goes : Continues (downs result) old new
  pub kept : MatchResult result (λ key. MakesOfDraft i clients after old new) (λ why. DeclinesAt steps why clients after old new)

-- What becomes of a client whose creation ends, and of its volume: a version has its name, it has nothing open any more,
-- and the creation is over; or it has all that it had, and the volume goes on.
pub record ClosesClient (client after : Client) (old new : State) (result : Result Key Refusal) : Type 0 where
  pub name : IfOk result (λ key. IsNamed client key.name)
  pub goes : MatchResult result (λ key. after ≡ Idle) (λ why. after ≡ client)
  pub valid : IsClient after
  pub state : MatchResult result (λ key. EntersFor client old new) (λ why. GoesOn (downs_for why) old new)
  pub kept : MatchResult result (λ key. HasCounted false (forces_first old) old new) (λ why. KeepsRefused (enter_steps old None (in_first client)) why old new)

-- A client that reads goes on behind what it has read: what is left, or as much as there is room for; or it stays.
pub record ContinuesReading (room : ℕ) (client after : Client) (result : Result ℕ Refusal) : Type 0 where
  pub goes : MatchResult result (λ n. GoesOnBehind n client after) (λ why. after ≡ client)
  pub count : IfOk result (λ n. CountsTo room n client)
  pub valid : IsClient after

-- Why a version is opened or not: what is lost or unsound, that the pages lack the key, or that they have its entry,
-- which has so many bytes.
pub record CausesOpening {D : Type 0} (M : Ghosts D) (resident : ℕ → Option (List ℕ)) (s t : State) (old new : D) (key : Key) (result : Result ℕ Refusal) : Type 0 where
  pub causes : Causes M resident s t old new result
  pub absent : result ≡ Err Why.NoSuch → ShowsReached M resident s t old new (LacksKey key)
  pub found : IfOk result (λ len. (e : Entry) × (e.key ≡ key) × (e.length ≡ len) × ShowsReached M resident s t old new (HasEntry e))

-- ---- where all is given up

-- the first so many have nothing open any more
abbrev pub cleared_clients : ℕ → List Client → List Client
cleared_clients n clients = replicate n Idle ++ drop n clients

-- only what is open and what is free differs
abbrev pub Frees : State → State → Type 0
Frees old new = new ≡ record old { free = new.free; freed = new.freed; waiting = new.waiting; unfinished = new.unfinished; readers = new.readers }

-- Nothing is open, and all else is as it was but for the sectors that are free.
pub record LeavesNone (old new : State) : Type 0 where
  pub is : Frees old new
  pub unfinished : new.unfinished ≡ []
  pub readers : new.readers ≡ no_readers
