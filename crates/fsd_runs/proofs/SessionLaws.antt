-- What the answers of a session do to its volume and to what is held; and that each command has one.
use Rattle.std.proofs.Common.{◌≡◌, ◌⊎◌, inl, inr, ℕ, zero, suc, ◌+◌, ◌-◌, ◌≤◌, Bool, true, false, cond, List, [], ◌∷◌, ◌++◌, length, Option, Some, None, Result, Ok, Err, refl, sym, ap, ◌∙◌, arith}
use Rattle.std.specs.Prelude.{is_none, not, nat_le, nat_lt, ◌&&◌, ◌==◌, fold, set, slice_index_or}
use Rattle.std.specs.FinMap.{find}
use Rattle.fsd_bytes.specs.declared.key.Key.{Key}
use Rattle.fsd_bytes.specs.declared.key.Serial.{Serial}
use Rattle.fsd_bytes.specs.declared.refusal.Refusal.{Refusal}
use Rattle.fsd_bytes.specs.declared.refusal.Refusal.TheVariants.{BadClient, Long, Short, TooLong}
use Rattle.fsd_bytes.specs.Keys.{key_cmp}
use Rattle.run_table.specs.declared.run.Run.{Run}
use Rattle.fsd_formats.specs.declared.entry.Entry.{Entry}
use Rattle.fsd_formats.specs.NamePage.{max_length, sectors_for}
use Rattle.fsd_files.specs.Answers.{Met, enter_fault, entry_of}
use Rattle.fsd_files.specs.Desk.{Session, SessionOutcome, Open, Nothing, Writes, Reads, begin_by, begun_with, close_by, closed_as, done_by, drop_by, is_client, next_by, next_count, open_by, opened_by, opened_with, piece_by, unanswered, with_client}
use Rattle.fsd_files.specs.Disk.{Image}
use Rattle.fsd_files.specs.Files.{Change, File, Files, step}
use Rattle.fsd_files.specs.Kept.{range_sectors}
use Rattle.fsd_files.specs.Pieces.{enter_unless, reserve_at, reserve_outcome}
use Rattle.fsd_files.specs.declared.reply.Reply.{Reply}
use Rattle.fsd_files.specs.declared.reply.Reply.TheVariants as Replies
use Rattle.fsd_files.specs.Volume.{Volume, HasReach, forced_for_place, forced_if, is_in, place_for}
use Rattle.fsd_texts.specs.declared.call.Call.{Call}
use Rattle.fsd_texts.specs.declared.call.Call.TheVariants as Calls
use Rattle.fsd_texts.specs.declared.command.Command.{Command}
use Rattle.fsd_texts.specs.declared.script_command.ScriptCommand.{ScriptCommand}
use Rattle.fsd_texts.specs.declared.script_command.ScriptCommand.TheVariants.{Plain, OfClient}
use Rattle.fsd_runs.specs.Commands.{answer}
use Rattle.fsd_runs.specs.Errands.{is_forced}
use Rattle.fsd_runs.specs.Sessions.{CallMayFind, FindsNext, HoldsRead, MayMeet, Meeting, answer_in, call_answer, changes_closed, changes_in_session, read_by, runs_read}
use Rattle.fsd_runs.proofs.AnswerLaws.{Does, IsSame, does, finds, forces_all, may_find, met_with, same_forced}

-- ---- one answer: nothing is changed, or the change is made

-- the files and the pages are as before, and no more is unforced
record IsStill (v w : Volume) : Type 0 where
  files : w.files ≡ v.files
  reached : w.reached ≡ v.reached
  unforced : w.unforced ≤ v.unforced

still_itself : (v : Volume) → IsStill v v
still_itself v = record { files = refl; reached = refl; unforced = omega arith }

still_same : (v w : Volume) → IsSame v w → IsStill v w
still_same v w same = record { files = same.files; reached = same.reached; unforced = same.unforced }

record Remains (changes : Reply → List Change) (v : Volume) (out : SessionOutcome) : Type 0 where
  none : changes out.0 ≡ []
  still : IsStill v out.1.volume

record Changed (x : Meeting) (changes : Reply → List Change) (v : Volume) (out : SessionOutcome) : Type 0 where
  change : Change
  is : changes out.0 ≡ change ∷ []
  files : out.1.volume.files ≡ step v.files change
  reached : out.1.volume.reached ≡ x.met.reached
  unforced : out.1.volume.unforced ≤ suc v.unforced

abbrev DoesIn : Meeting → (Reply → List Change) → Volume → SessionOutcome → Type 0
DoesIn x changes v out = Remains changes v out ⊎ Changed x changes v out

-- and it is not answered as a force is
record Goes (x : Meeting) (changes : Reply → List Change) (v : Volume) (out : SessionOutcome) : Type 0 where
  does : DoesIn x changes v out
  quiet : is_forced out.0 ≡ false

abbrev no_change : Reply → List Change
no_change reply = []

goes_still : (x : Meeting) (v : Volume) (out : SessionOutcome) → IsStill v out.1.volume → is_forced out.0 ≡ false → Goes x no_change v out
goes_still x v out still quiet = record { does = inl (record { none = refl; still = still }); quiet = quiet }

-- ---- calls

begun_goes : (x : Meeting) (r : Result (List Run) Refusal) (serial : Serial) (v : Volume) (s : Session) (c : ℕ) (name : List ℕ) (len : ℕ) → IsStill v s.volume → Goes x no_change v (begun_with r serial s c name len)
begun_goes x (Err why) serial v s c name len still = goes_still x v (begun_with (Err why) serial s c name len) still refl
begun_goes x (Ok runs) serial v s c name len still = goes_still x v (begun_with (Ok runs) serial s c name len) still refl

placed_still : (v at : Volume) (need : ℕ) (o : Option (List Run)) → IsStill v at → IsStill v (reserve_at at need o).1
placed_still v at need None still = still
placed_still v at need (Some runs) still = record { files = still.files; reached = still.reached; unforced = still.unforced }

-- where a creation of so many bytes is placed
abbrev placing : Volume → (len : ℕ) → Volume
placing v len = forced_for_place (sectors_for len) v

placing_same : (v : Volume) (len : ℕ) → IsSame v (placing v len)
placing_same v len = same_forced (is_none (place_for v (sectors_for len)) && not (length v.removed == 0)) v

abbrev reserved_if : Bool → Volume → (len : ℕ) → Result (List Run) Refusal × Volume
reserved_if b v len = cond b (Err (TooLong len), v) (reserve_at (placing v len) (sectors_for len) (place_for (placing v len) (sectors_for len)))

reserved_still : (b : Bool) (v : Volume) (len : ℕ) → IsStill v (reserved_if b v len).1
reserved_still true v len = still_itself v
reserved_still false v len = placed_still v (placing v len) (sectors_for len) (place_for (placing v len) (sectors_for len)) (still_same v (placing v len) (placing_same v len))

reserve_still : (v : Volume) (len : ℕ) → IsStill v (reserve_outcome v len).1
reserve_still v len = reserved_still (nat_lt max_length len) v len

begin_goes : (x : Meeting) (r : Result Open Refusal) (s : Session) (c : ℕ) (name : List ℕ) (len : ℕ) → Goes x no_change s.volume (begin_by r s c name len)
begin_goes x (Err why) s c name len = goes_still x s.volume (begin_by (Err why) s c name len) (still_itself s.volume) refl
begin_goes x (Ok Nothing) s c name len =
    let out = reserve_outcome s.volume len in
    begun_goes x out.0 s.volume.serial s.volume (record s { volume = out.1 }) c name len (reserve_still s.volume len)
begin_goes x (Ok (Writes n l runs serial bytes)) s c name len = goes_still x s.volume (begin_by (Ok (Writes n l runs serial bytes)) s c name len) (still_itself s.volume) refl
begin_goes x (Ok (Reads key runs bytes place)) s c name len = goes_still x s.volume (begin_by (Ok (Reads key runs bytes place)) s c name len) (still_itself s.volume) refl

-- a client has so many bytes, or they are too many
abbrev took_or : Session → (c len sum : ℕ) → Open → Bool → SessionOutcome
took_or s c len sum new too_many = cond too_many (unanswered s (Long len sum)) (Replies.Took c sum, with_client s c new)

took_goes : (x : Meeting) (s : Session) (c len sum : ℕ) (new : Open) (b : Bool) → Goes x no_change s.volume (took_or s c len sum new b)
took_goes x s c len sum new true = goes_still x s.volume (took_or s c len sum new true) (still_itself s.volume) refl
took_goes x s c len sum new false = goes_still x s.volume (took_or s c len sum new false) (still_itself s.volume) refl

piece_goes : (x : Meeting) (r : Result Open Refusal) (s : Session) (c : ℕ) (bytes : List ℕ) → Goes x no_change s.volume (piece_by r s c bytes)
piece_goes x (Err why) s c bytes = goes_still x s.volume (piece_by (Err why) s c bytes) (still_itself s.volume) refl
piece_goes x (Ok Nothing) s c bytes = goes_still x s.volume (piece_by (Ok Nothing) s c bytes) (still_itself s.volume) refl
piece_goes x (Ok (Reads key runs old place)) s c bytes = goes_still x s.volume (piece_by (Ok (Reads key runs old place)) s c bytes) (still_itself s.volume) refl
piece_goes x (Ok (Writes name len runs serial old)) s c bytes = took_goes x s c len (length old + length bytes) (Writes name len runs serial (old ++ bytes)) (nat_lt len (length old + length bytes))

-- a creation of all its bytes is entered, or it is told why not
abbrev entered_or : Option Refusal → Session → Volume → (c : ℕ) → (name bytes : List ℕ) → List Run → Serial → (reached : ℕ) → SessionOutcome
entered_or o s at c name bytes runs serial reached = let out = enter_unless o at name bytes None runs serial reached in closed_as out.0 (record s { volume = out.1 }) c

abbrev closed_or : Session → (c : ℕ) → (bytes : List ℕ) → (len : ℕ) → SessionOutcome → Bool → SessionOutcome
closed_or s c bytes len entered too_few = cond too_few (unanswered s (Short len (length bytes))) entered

closed_goes : (x : Meeting) (s : Session) (c : ℕ) (name bytes : List ℕ) (len : ℕ) (runs : List Run) (serial : Serial) (at : Volume) (o : Option Refusal) → IsStill s.volume at
    → Goes x (changes_closed (Ok (Writes name len runs serial bytes))) s.volume (entered_or o s at c name bytes runs serial x.met.reached)
closed_goes x s c name bytes len runs serial at (Some why) still = record { does = inl (record { none = refl; still = still }); quiet = refl }
closed_goes x s c name bytes len runs serial at None still = record {
  does = inr (record {
    change = Change.Put name None bytes;
    is = refl;
    files = ap (λ (f : Files). step f (Change.Put name None bytes)) still.files;
    reached = refl;
    unforced = let few = still.unforced in omega (arith, few);
  });
  quiet = refl;
}

-- the volume as a creation is entered
abbrev entering : Meeting → Session → Volume
entering x s = forced_if x.met.forces s.volume

entering_same : (x : Meeting) (s : Session) → IsSame s.volume (entering x s)
entering_same x s = same_forced (x.met.forces && nat_le 2 s.volume.unforced) s.volume

close_goes : (x : Meeting) (r : Result Open Refusal) (s : Session) (c : ℕ) → Goes x (changes_closed r) s.volume (close_by r x.met s c)
close_goes x (Err why) s c = record { does = inl (record { none = refl; still = still_itself s.volume }); quiet = refl }
close_goes x (Ok Nothing) s c = record { does = inl (record { none = refl; still = still_itself s.volume }); quiet = refl }
close_goes x (Ok (Reads key runs bytes place)) s c = record { does = inl (record { none = refl; still = still_itself s.volume }); quiet = refl }
close_goes x (Ok (Writes name len runs serial bytes)) s c = by (nat_lt (length bytes) len)
  where
    by : (b : Bool) → Goes x (changes_closed (Ok (Writes name len runs serial bytes))) s.volume (closed_or s c bytes len (entered_or (enter_fault (entering x s) name) s (entering x s) c name bytes runs serial x.met.reached) b)
    by true = record { does = inl (record { none = refl; still = still_itself s.volume }); quiet = refl }
    by false = closed_goes x s c name bytes len runs serial (entering x s) (enter_fault (entering x s) name) (still_same s.volume (entering x s) (entering_same x s))

drop_goes : (x : Meeting) (r : Result Open Refusal) (s : Session) (c : ℕ) → Goes x no_change s.volume (drop_by r s c)
drop_goes x (Err why) s c = goes_still x s.volume (drop_by (Err why) s c) (still_itself s.volume) refl
drop_goes x (Ok Nothing) s c = goes_still x s.volume (drop_by (Ok Nothing) s c) (still_itself s.volume) refl
drop_goes x (Ok (Reads key runs bytes place)) s c = goes_still x s.volume (drop_by (Ok (Reads key runs bytes place)) s c) (still_itself s.volume) refl
drop_goes x (Ok (Writes name len runs serial bytes)) s c =
    goes_still x s.volume (drop_by (Ok (Writes name len runs serial bytes)) s c) (record { files = refl; reached = refl; unforced = omega arith }) refl

opened_goes : (x : Meeting) (file : Option File) (e : Option Entry) (s : Session) (c : ℕ) (key : Key) → Goes x no_change s.volume (opened_with file e x.held s c key)
opened_goes x (Some file) (Some e) s c key = goes_still x s.volume (opened_with (Some file) (Some e) x.held s c key) (record { files = refl; reached = refl; unforced = omega arith }) refl
opened_goes x (Some file) None s c key = goes_still x s.volume (opened_with (Some file) None x.held s c key) (still_itself s.volume) refl
opened_goes x None e s c key = goes_still x s.volume (opened_with None e x.held s c key) (still_itself s.volume) refl

open_goes : (x : Meeting) (r : Result Open Refusal) (s : Session) (c : ℕ) (key : Key) → Goes x no_change s.volume (open_by r x.held s c key)
open_goes x (Err why) s c key = goes_still x s.volume (open_by (Err why) x.held s c key) (still_itself s.volume) refl
open_goes x (Ok Nothing) s c key = opened_goes x (find key_cmp key s.volume.files) (entry_of key s.volume.entries) s c key
open_goes x (Ok (Writes name len runs serial bytes)) s c key = goes_still x s.volume (open_by (Ok (Writes name len runs serial bytes)) x.held s c key) (still_itself s.volume) refl
open_goes x (Ok (Reads k runs bytes place)) s c key = goes_still x s.volume (open_by (Ok (Reads k runs bytes place)) x.held s c key) (still_itself s.volume) refl

next_goes : (x : Meeting) (r : Result Open Refusal) (damaged : Option ℕ) (s : Session) (c len : ℕ) → Goes x no_change s.volume (next_by r damaged s c len)
next_goes x (Err why) damaged s c len = goes_still x s.volume (next_by (Err why) damaged s c len) (still_itself s.volume) refl
next_goes x (Ok Nothing) damaged s c len = goes_still x s.volume (next_by (Ok Nothing) damaged s c len) (still_itself s.volume) refl
next_goes x (Ok (Writes name l runs serial bytes)) damaged s c len = goes_still x s.volume (next_by (Ok (Writes name l runs serial bytes)) damaged s c len) (still_itself s.volume) refl
next_goes x (Ok (Reads key runs bytes place)) None s c len = goes_still x s.volume (next_by (Ok (Reads key runs bytes place)) None s c len) (still_itself s.volume) refl
next_goes x (Ok (Reads key runs bytes place)) (Some t) s c len = goes_still x s.volume (next_by (Ok (Reads key runs bytes place)) (Some t) s c len) (still_itself s.volume) refl

done_goes : (x : Meeting) (r : Result Open Refusal) (s : Session) (c : ℕ) → Goes x no_change s.volume (done_by r x.held s c)
done_goes x (Err why) s c = goes_still x s.volume (done_by (Err why) x.held s c) (still_itself s.volume) refl
done_goes x (Ok Nothing) s c = goes_still x s.volume (done_by (Ok Nothing) x.held s c) (still_itself s.volume) refl
done_goes x (Ok (Writes name len runs serial bytes)) s c = goes_still x s.volume (done_by (Ok (Writes name len runs serial bytes)) x.held s c) (still_itself s.volume) refl
done_goes x (Ok (Reads key runs bytes place)) s c =
    goes_still x s.volume (done_by (Ok (Reads key runs bytes place)) x.held s c) (record { files = refl; reached = refl; unforced = omega arith }) refl

call_goes : (x : Meeting) (s : Session) (c : ℕ) (call : Call) → Goes x (changes_in_session s (OfClient c call)) s.volume (call_answer x s c call)
call_goes x s c (Calls.Begin name len) = begin_goes x (opened_by s.clients c) s c name len
call_goes x s c (Calls.Piece bytes) = piece_goes x (opened_by s.clients c) s c bytes
call_goes x s c Calls.Close = close_goes x (opened_by s.clients c) s c
call_goes x s c Calls.Drop = drop_goes x (opened_by s.clients c) s c
call_goes x s c (Calls.Open key) = open_goes x (opened_by s.clients c) s c key
call_goes x s c (Calls.Next len) = next_goes x (opened_by s.clients c) x.met.damaged s c len
call_goes x s c Calls.Done = done_goes x (opened_by s.clients c) s c

-- ---- any command

plain_does : (x : Meeting) (s : Session) (command : Command) → Does x.met s.volume command (answer x.met s.volume command)
    → DoesIn x (changes_in_session s (Plain command)) s.volume (answer_in x s (Plain command))
plain_does x s command (inl r) = inl (record { none = r.none; still = still_same s.volume (answer x.met s.volume command).1 r.same })
plain_does x s command (inr c) = inr (record { change = c.change; is = c.is; files = c.files; reached = c.reached; unforced = c.unforced })

does_in : (x : Meeting) (s : Session) (command : ScriptCommand) → DoesIn x (changes_in_session s command) s.volume (answer_in x s command)
does_in x s (Plain command) = plain_does x s command (does x.met s.volume command)
does_in x s (OfClient c call) = (call_goes x s c call).does

pub command_follows : (x : Meeting) (s : Session) (command : ScriptCommand) → (answer_in x s command).1.volume.files ≡ fold step s.volume.files (changes_in_session s command (answer_in x s command).0)
command_follows x s command = by (does_in x s command)
  where
    by : DoesIn x (changes_in_session s command) s.volume (answer_in x s command) → (answer_in x s command).1.volume.files ≡ fold step s.volume.files (changes_in_session s command (answer_in x s command).0)
    by (inl r) = r.still.files ∙ ap (λ (h : List Change). fold step s.volume.files h) (sym r.none)
    by (inr c) = c.files ∙ ap (λ (h : List Change). fold step s.volume.files h) (sym c.is)

pub command_grows : (x : Meeting) (s : Session) (command : ScriptCommand) → (answer_in x s command).1.volume.unforced ≤ length (changes_in_session s command (answer_in x s command).0) + s.volume.unforced
command_grows x s command = by (does_in x s command)
  where
    by : DoesIn x (changes_in_session s command) s.volume (answer_in x s command) → (answer_in x s command).1.volume.unforced ≤ length (changes_in_session s command (answer_in x s command).0) + s.volume.unforced
    by (inl r) = omega (arith, r.still.unforced)
    by (inr c) = let one : length (changes_in_session s command (answer_in x s command).0) ≡ 1 = ap length c.is in omega (arith, c.unforced, one)

quiet_not : (b : Bool) → b ≡ false → b ≡ true → ⊥
quiet_not true is other = absurd cc
quiet_not false is other = absurd cc

-- a command that is answered by this is a force
pub all_forced : (x : Meeting) (s : Session) (command : ScriptCommand) → is_forced (answer_in x s command).0 ≡ true → (answer_in x s command).1.volume.unforced ≡ 0
all_forced x s (Plain command) e = forces_all x.met s.volume command e
all_forced x s (OfClient c call) e = absurd (quiet_not (is_forced (call_answer x s c call).0) (call_goes x s c call).quiet e)

-- ---- each command has an answer

opened_in : (o : Open) (b : Bool) (x : Open) (why : Refusal) → cond b (Ok x) (Err why) ≡ Ok o → x ≡ o
opened_in o true x why is = cc
opened_in o false x why is = absurd cc

opened_is : (clients : List Open) (c : ℕ) (o : Open) → opened_by clients c ≡ Ok o → slice_index_or clients (c - 1) Nothing ≡ o
opened_is clients c o is = opened_in o (is_client c) (slice_index_or clients (c - 1) Nothing) (BadClient c) is

-- what is read is as before where one client reads what it did
read_set : (clients : List Open) (i : ℕ) (x : Open) → runs_read x ≡ runs_read (slice_index_or clients i Nothing) → read_by (set clients i x) ≡ read_by clients
read_set [] i x same = refl
read_set (o ∷ clients) zero x same = ap (λ (r : List (List Run)). r ++ read_by clients) same
read_set (o ∷ clients) (suc i) x same = ap (λ (r : List (List Run)). runs_read o ++ r) (read_set clients i x same)

holds_still : (s : Session) (held : List (List Run)) (clients : List Open) → HoldsRead s → held ≡ s.volume.held → read_by clients ≡ read_by s.clients → (t : ℕ) → is_in held t ≡ is_in (read_by clients) t
holds_still s held clients h same read t = ap (λ (r : List (List Run)). is_in r t) same ∙ h t ∙ sym (ap (λ (r : List (List Run)). is_in r t) read)

abbrev Holds : SessionOutcome → Type 0
Holds out = HoldsRead out.1

placed_held : (v at : Volume) (need : ℕ) (o : Option (List Run)) → at.held ≡ v.held → (reserve_at at need o).1.held ≡ v.held
placed_held v at need None same = same
placed_held v at need (Some runs) same = same

reserved_held : (b : Bool) (v : Volume) (len : ℕ) → (reserved_if b v len).1.held ≡ v.held
reserved_held true v len = refl
reserved_held false v len = placed_held v (placing v len) (sectors_for len) (place_for (placing v len) (sectors_for len)) (placing_same v len).held

reserve_held : (v : Volume) (len : ℕ) → (reserve_outcome v len).1.held ≡ v.held
reserve_held v len = reserved_held (nat_lt max_length len) v len

module _ (s : Session) (h : HoldsRead s) (c : ℕ) where
  -- in the place of what a client had open
  put_in : (held : List (List Run)) (o x : Open) → slice_index_or s.clients (c - 1) Nothing ≡ o → runs_read x ≡ runs_read o → held ≡ s.volume.held → (t : ℕ) → is_in held t ≡ is_in (read_by (set s.clients (c - 1) x)) t
  put_in held o x was same kept = holds_still s held (set s.clients (c - 1) x) h kept (read_set s.clients (c - 1) x (same ∙ sym (ap runs_read was)))

  begin_holds : (r : Result Open Refusal) (name : List ℕ) (len : ℕ) → opened_by s.clients c ≡ r → Holds (begin_by r s c name len)
  begin_holds (Err why) name len is = h
  begin_holds (Ok Nothing) name len is = by (reserve_outcome s.volume len).0
    where
      kept : (reserve_outcome s.volume len).1.held ≡ s.volume.held
      kept = reserve_held s.volume len

      by : (r : Result (List Run) Refusal) → Holds (begun_with r s.volume.serial (record s { volume = (reserve_outcome s.volume len).1 }) c name len)
      by (Err why) = holds_still s (reserve_outcome s.volume len).1.held s.clients h kept refl
      by (Ok runs) = put_in (reserve_outcome s.volume len).1.held Nothing (Writes name len runs s.volume.serial []) (opened_is s.clients c Nothing is) refl kept
  begin_holds (Ok (Writes n l runs serial bytes)) name len is = h
  begin_holds (Ok (Reads key runs bytes place)) name len is = h

  piece_holds : (r : Result Open Refusal) (bytes : List ℕ) → opened_by s.clients c ≡ r → Holds (piece_by r s c bytes)
  piece_holds (Err why) bytes is = h
  piece_holds (Ok Nothing) bytes is = h
  piece_holds (Ok (Reads key runs old place)) bytes is = h
  piece_holds (Ok (Writes name len runs serial old)) bytes is = by (nat_lt len (length old + length bytes))
    where
      by : (b : Bool) → Holds (took_or s c len (length old + length bytes) (Writes name len runs serial (old ++ bytes)) b)
      by true = h
      by false = put_in s.volume.held (Writes name len runs serial old) (Writes name len runs serial (old ++ bytes)) (opened_is s.clients c (Writes name len runs serial old) is) refl refl

  close_holds : (x : Meeting) (r : Result Open Refusal) → opened_by s.clients c ≡ r → Holds (close_by r x.met s c)
  close_holds x (Err why) is = h
  close_holds x (Ok Nothing) is = h
  close_holds x (Ok (Reads key runs bytes place)) is = h
  close_holds x (Ok (Writes name len runs serial bytes)) is = by (nat_lt (length bytes) len)
    where
      closed : (o : Option Refusal) → Holds (entered_or o s (entering x s) c name bytes runs serial x.met.reached)
      closed (Some why) = holds_still s (entering x s).held s.clients h (entering_same x s).held refl
      closed None = put_in (entering x s).held (Writes name len runs serial bytes) Nothing (opened_is s.clients c (Writes name len runs serial bytes) is) refl (entering_same x s).held

      by : (b : Bool) → Holds (closed_or s c bytes len (entered_or (enter_fault (entering x s) name) s (entering x s) c name bytes runs serial x.met.reached) b)
      by true = h
      by false = closed (enter_fault (entering x s) name)

  drop_holds : (r : Result Open Refusal) → opened_by s.clients c ≡ r → Holds (drop_by r s c)
  drop_holds (Err why) is = h
  drop_holds (Ok Nothing) is = h
  drop_holds (Ok (Reads key runs bytes place)) is = h
  drop_holds (Ok (Writes name len runs serial bytes)) is = put_in s.volume.held (Writes name len runs serial bytes) Nothing (opened_is s.clients c (Writes name len runs serial bytes) is) refl refl

  next_holds : (r : Result Open Refusal) (damaged : Option ℕ) (len : ℕ) → opened_by s.clients c ≡ r → Holds (next_by r damaged s c len)
  next_holds (Err why) damaged len is = h
  next_holds (Ok Nothing) damaged len is = h
  next_holds (Ok (Writes name l runs serial bytes)) damaged len is = h
  next_holds (Ok (Reads key runs bytes place)) None len is =
      put_in s.volume.held (Reads key runs bytes place) (Reads key runs bytes (place + next_count bytes place len)) (opened_is s.clients c (Reads key runs bytes place) is) refl refl
  next_holds (Ok (Reads key runs bytes place)) (Some t) len is = h

  -- what is held then is what clients read then
  open_holds : (r : Result Open Refusal) (key : Key) → (held : List (List Run)) × Holds (open_by r held s c key)
  open_holds (Err why) key = ([], h)
  open_holds (Ok Nothing) key = by (find key_cmp key s.volume.files) (entry_of key s.volume.entries)
    where
      by : (file : Option File) (e : Option Entry) → (held : List (List Run)) × Holds (opened_with file e held s c key)
      by (Some file) (Some e) = (read_by (set s.clients (c - 1) (Reads key e.runs file.bytes 0)), λ t. refl)
      by (Some file) None = ([], h)
      by None e = ([], h)
  open_holds (Ok (Writes name len runs serial bytes)) key = ([], h)
  open_holds (Ok (Reads k runs bytes place)) key = ([], h)

  done_holds : (r : Result Open Refusal) → (held : List (List Run)) × Holds (done_by r held s c)
  done_holds (Err why) = ([], h)
  done_holds (Ok Nothing) = ([], h)
  done_holds (Ok (Writes name len runs serial bytes)) = ([], h)
  done_holds (Ok (Reads key runs bytes place)) = (read_by (set s.clients (c - 1) Nothing), λ t. refl)

  call_holds : (met : Met) (call : Call) → (held : List (List Run)) × Holds (call_answer (record { met = met; held = held }) s c call)
  call_holds met (Calls.Begin name len) = ([], begin_holds (opened_by s.clients c) name len refl)
  call_holds met (Calls.Piece bytes) = ([], piece_holds (opened_by s.clients c) bytes refl)
  call_holds met Calls.Close = ([], close_holds (record { met = met; held = [] }) (opened_by s.clients c) refl)
  call_holds met Calls.Drop = ([], drop_holds (opened_by s.clients c) refl)
  call_holds met (Calls.Open key) = open_holds (opened_by s.clients c) key
  call_holds met (Calls.Next len) = ([], next_holds (opened_by s.clients c) met.damaged len refl)
  call_holds met Calls.Done = done_holds (opened_by s.clients c)

finds_next : (i : Image) (r : Result Open Refusal) (len : ℕ) → (damaged : Option ℕ) × FindsNext i i r len damaged
finds_next i (Err why) len = (None, tt)
finds_next i (Ok Nothing) len = (None, tt)
finds_next i (Ok (Writes name l runs serial bytes)) len = (None, tt)
finds_next i (Ok (Reads key runs bytes place)) len = finds i (range_sectors runs place (next_count bytes place len))

call_finds : (i : Image) (clients : List Open) (c : ℕ) (call : Call) → (damaged : Option ℕ) × CallMayFind i i clients c call (met_with damaged [])
call_finds i clients c (Calls.Begin name len) = (None, tt)
call_finds i clients c (Calls.Piece bytes) = (None, tt)
call_finds i clients c Calls.Close = (None, tt)
call_finds i clients c Calls.Drop = (None, tt)
call_finds i clients c (Calls.Open key) = (None, tt)
call_finds i clients c (Calls.Next len) = finds_next i (opened_by clients c) len
call_finds i clients c Calls.Done = (None, tt)

reaches_in : (x : Meeting) (s : Session) (command : ScriptCommand) → x.met.reached ≡ 1 → HasReach s.volume → DoesIn x (changes_in_session s command) s.volume (answer_in x s command) → HasReach (answer_in x s command).1.volume
reaches_in x s command one reach (inl r) =
    let same = r.still.reached in
    let files = ap length r.still.files in
    let root = reach.root in
    let most = reach.most in
    record { root = omega (arith, same, root); most = omega (arith, same, files, most) }
reaches_in x s command one reach (inr c) = let is = c.reached in record { root = omega (arith, is, one); most = omega (arith, is, one) }

plain_held : (x : Meeting) (s : Session) (command : Command) → Does x.met s.volume command (answer x.met s.volume command) → (answer x.met s.volume command).1.held ≡ s.volume.held
plain_held x s command (inl r) = r.same.held
plain_held x s command (inr c) = c.held

pub some_answer : (i : Image) (s : Session) (command : ScriptCommand) → HasReach s.volume → HoldsRead s → (x : Meeting) × MayMeet i i s command x
some_answer i s (Plain command) reach h =
    let at = may_find i s.volume command in
    let x : Meeting = record { met = met_with at.0 at.1; held = [] } in (
      x,
      record {
        find = at.2;
        reach = reaches_in x s (Plain command) refl reach (does_in x s (Plain command));
        hold = holds_still s (answer x.met s.volume command).1.held s.clients h (plain_held x s command (does x.met s.volume command)) refl;
      },
    )
some_answer i s (OfClient c call) reach h =
    let at = call_finds i s.clients c call in
    let there = call_holds s h c (met_with at.0 []) call in
    let x : Meeting = record { met = met_with at.0 []; held = there.0 } in
    (x, record { find = at.1; reach = reaches_in x s (OfClient c call) refl reach (does_in x s (OfClient c call)); hold = there.1 })
