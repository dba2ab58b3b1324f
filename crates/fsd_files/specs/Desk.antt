-- Eight clients, each of which makes one version in pieces, reads one, or has nothing open: what each is answered, and
-- what is open then. Faults of the disk, want of memory and a mount that is worn out stand outside.
use Rattle.std.specs.Prelude.{ℕ, ◌+◌, ◌-◌, min, Bool, ◌&&◌, List, ◌++◌, length, take, drop, replicate, set, [], Option, Some, None, Result, Ok, Err, nat_le, nat_lt, if◌then◌else◌, slice_index_or}
use Rattle.std.specs.FinMap.{find}
use Rattle.run_table.specs.declared.run.Run.{Run}
use Rattle.fsd_bytes.specs.declared.key.Key.{Key}
use Rattle.fsd_bytes.specs.declared.key.Serial.{Serial}
use Rattle.fsd_bytes.specs.Keys.{key_cmp}
use Rattle.fsd_bytes.specs.declared.refusal.Refusal.{Refusal}
use Rattle.fsd_bytes.specs.declared.refusal.Refusal.TheVariants as Why
use Rattle.fsd_formats.specs.declared.entry.Entry.{Entry}
use Rattle.fsd_files.specs.Answers.{Met, entry_of}
use Rattle.fsd_files.specs.Files.{File}
use Rattle.fsd_files.specs.declared.reply.Reply.{Reply}
use Rattle.fsd_files.specs.declared.reply.Reply.TheVariants.{Refused, Made, Begun, Took, Dropped, Opened, Given, Done, DamagedAt}
use Rattle.fsd_files.specs.Pieces.{enter_outcome, reserve_outcome, undrafted}
use Rattle.fsd_files.specs.Volume.{Volume}

-- What a client has open: nothing; a creation of so many bytes in these runs, with the bytes so far; or a version, with
-- its runs and bytes as it was opened, and the place of its next byte.
pub data Open : Type 0 where
  Nothing : Open
  Writes : (name : List ℕ) → (len : ℕ) → (runs : List Run) → (serial : Serial) → (bytes : List ℕ) → Open
  Reads : Key → (runs : List Run) → (bytes : List ℕ) → (place : ℕ) → Open

-- a volume, and what each of its clients has open
pub record Session : Type 0 where
  pub volume : Volume
  pub clients : List Open

-- a reply, and the session as it leaves it
abbrev pub SessionOutcome : Type 0
SessionOutcome = Reply × Session

abbrev pub most_clients : ℕ
most_clients = 8

-- none has something open
abbrev pub no_clients : List Open
no_clients = replicate most_clients Nothing

-- ---- clients

-- a client's number is 1 to 8
abbrev pub is_client : ℕ → Bool
is_client c = nat_le 1 c && nat_le c most_clients

-- what it has open, if there is such a client
abbrev pub opened_by : List Open → (c : ℕ) → Result Open Refusal
opened_by clients c = if is_client c then Ok (slice_index_or clients (c - 1) Nothing) else Err (Why.BadClient c)

abbrev pub with_client : Session → (c : ℕ) → Open → Session
with_client s c x = record s { clients = set s.clients (c - 1) x }

abbrev pub unanswered : Session → Refusal → SessionOutcome
unanswered s why = (Refused why, s)

-- ---- a version in pieces

abbrev pub begun_with : Result (List Run) Refusal → Serial → Session → (c : ℕ) → List ℕ → ℕ → SessionOutcome
begun_with (Err why) serial s c name len = unanswered s why
begun_with (Ok runs) serial s c name len = (Begun c, with_client s c (Writes name len runs serial []))

abbrev pub begin_by : Result Open Refusal → Session → (c : ℕ) → List ℕ → ℕ → SessionOutcome
begin_by (Err why) s c name len = unanswered s why
begin_by (Ok Nothing) s c name len =
    let out = reserve_outcome s.volume len in
    begun_with out.0 s.volume.serial (record s { volume = out.1 }) c name len
begin_by (Ok other) s c name len = unanswered s (Why.Busy c)

abbrev pub begin_outcome : Session → (c : ℕ) → List ℕ → ℕ → SessionOutcome
begin_outcome s c name len = begin_by (opened_by s.clients c) s c name len

abbrev pub piece_by : Result Open Refusal → Session → (c : ℕ) → List ℕ → SessionOutcome
piece_by (Err why) s c bytes = unanswered s why
piece_by (Ok (Writes name len runs serial old)) s c bytes =
    let sum = length old + length bytes in
    if nat_lt len sum then unanswered s (Why.Long len sum) else (Took c sum, with_client s c (Writes name len runs serial (old ++ bytes)))
piece_by (Ok other) s c bytes = unanswered s (Why.Idle c)

abbrev pub piece_outcome : Session → (c : ℕ) → List ℕ → SessionOutcome
piece_outcome s c bytes = piece_by (opened_by s.clients c) s c bytes

-- a version is made, or the client goes on
abbrev pub closed_as : Reply → Session → (c : ℕ) → SessionOutcome
closed_as (Made key sectors) s c = (Made key sectors, with_client s c Nothing)
closed_as reply s c = (reply, s)

abbrev pub close_by : Result Open Refusal → Met → Session → (c : ℕ) → SessionOutcome
close_by (Err why) met s c = unanswered s why
close_by (Ok (Writes name len runs serial bytes)) met s c =
    let out = enter_outcome met s.volume name bytes None runs serial in
    if nat_lt (length bytes) len then unanswered s (Why.Short len (length bytes)) else closed_as out.0 (record s { volume = out.1 }) c
close_by (Ok other) met s c = unanswered s (Why.Idle c)

abbrev pub close_outcome : Met → Session → (c : ℕ) → SessionOutcome
close_outcome met s c = close_by (opened_by s.clients c) met s c

abbrev pub drop_by : Result Open Refusal → Session → (c : ℕ) → SessionOutcome
drop_by (Err why) s c = unanswered s why
drop_by (Ok (Writes name len runs serial bytes)) s c = (Dropped c, with_client (record s { volume = undrafted s.volume runs }) c Nothing)
drop_by (Ok other) s c = unanswered s (Why.Idle c)

abbrev pub drop_outcome : Session → (c : ℕ) → SessionOutcome
drop_outcome s c = drop_by (opened_by s.clients c) s c

-- ---- a version that is read

-- the volume whose readers hold these; in which order it lists them it says for itself
abbrev pub holding : Volume → List (List Run) → Volume
holding v held = record v { held = held }

abbrev pub opened_with : Option File → Option Entry → (held : List (List Run)) → Session → (c : ℕ) → Key → SessionOutcome
opened_with (Some file) (Some e) held s c key = (Opened c (length file.bytes), with_client (record s { volume = holding s.volume held }) c (Reads key e.runs file.bytes 0))
opened_with file e held s c key = unanswered s Why.NoSuch

abbrev pub open_by : Result Open Refusal → (held : List (List Run)) → Session → (c : ℕ) → Key → SessionOutcome
open_by (Err why) held s c key = unanswered s why
open_by (Ok Nothing) held s c key = opened_with (find key_cmp key s.volume.files) (entry_of key s.volume.entries) held s c key
open_by (Ok other) held s c key = unanswered s (Why.Busy c)

abbrev pub open_outcome : (held : List (List Run)) → Session → (c : ℕ) → Key → SessionOutcome
open_outcome held s c key = open_by (opened_by s.clients c) held s c key

-- so many bytes come next
abbrev pub next_count : List ℕ → (place asked : ℕ) → ℕ
next_count bytes place asked = min (length bytes - place) asked

-- or the first of their sectors that read as damaged is told, and the client goes on where it was
abbrev pub next_by : Result Open Refusal → (damaged : Option ℕ) → Session → (c asked : ℕ) → SessionOutcome
next_by (Err why) damaged s c asked = unanswered s why
next_by (Ok (Reads key runs bytes place)) None s c asked =
    let n = next_count bytes place asked in
    (Given c (take n (drop place bytes)), with_client s c (Reads key runs bytes (place + n)))
next_by (Ok (Reads key runs bytes place)) (Some t) s c asked = (DamagedAt key t, s)
next_by (Ok other) damaged s c asked = unanswered s (Why.Idle c)

abbrev pub next_outcome : (damaged : Option ℕ) → Session → (c asked : ℕ) → SessionOutcome
next_outcome damaged s c asked = next_by (opened_by s.clients c) damaged s c asked

-- how many bytes of it are left
abbrev pub bytes_left_by : Result Open Refusal → Option ℕ
bytes_left_by (Ok (Reads key runs bytes place)) = Some (length bytes - place)
bytes_left_by other = None

abbrev pub bytes_left : List Open → (c : ℕ) → Option ℕ
bytes_left clients c = bytes_left_by (opened_by clients c)

abbrev pub done_by : Result Open Refusal → (held : List (List Run)) → Session → (c : ℕ) → SessionOutcome
done_by (Err why) held s c = unanswered s why
done_by (Ok (Reads key runs bytes place)) held s c = (Done c, with_client (record s { volume = holding s.volume held }) c Nothing)
done_by (Ok other) held s c = unanswered s (Why.Idle c)

abbrev pub done_outcome : (held : List (List Run)) → Session → (c : ℕ) → SessionOutcome
done_outcome held s c = done_by (opened_by s.clients c) held s c
