-- What the answer of a client's call says, by how the call of the desk ended.
use Rattle.std.proofs.Common.{◌≡◌, ℕ, Bool, false, List, [], ◌++◌, Option, None, refl, sym, ◌∙◌, ap}
use Rattle.std.specs.Prelude.{IsFalse, IsTrue, Result, Ok, Err}
use Rattle.fsd_bytes.specs.declared.refusal.Refusal.{Refusal}
use Rattle.fsd_bytes.specs.declared.refusal.Refusal.TheVariants as Why
use Rattle.sector_disk.specs.declared.machine.Machine.{Ghosts}
use Rattle.sector_disk.specs.Calls.{OnlyReads, WritesDisk}
use Rattle.sector_disk.specs.Image.{AreShort}
use Rattle.sector_disk.specs.Machine.{Moment}
use Rattle.sector_disk.proofs.CallLaws.{reads_as_writes, writes_more, writes_none}
use Rattle.fsd_log.specs.Scan.{Placed}
use Rattle.fsd_files.specs.Answers.{Met}
use Rattle.fsd_files.specs.Desk.{SessionOutcome, Open, Nothing, Writes, Reads, Session, opened_by}
use Rattle.fsd_files.specs.Files.{Change}
use Rattle.fsd_files.specs.declared.reply.Reply.{Reply}
use Rattle.fsd_files.specs.declared.reply.Reply.TheVariants as Said
use Rattle.fsd_texts.specs.declared.call.Call.{Call}
use Rattle.fsd_texts.specs.declared.call.Call.TheVariants as Calls
use Rattle.fsd_texts.specs.declared.fault.Fault.{Fault}
use Rattle.fsd_texts.specs.declared.script_command.ScriptCommand.TheVariants.{OfClient}
use Rattle.fsd_runs.specs.Sessions.{CallMayFind, Meeting, call_answer, call_changes, call_may_wear_out, changes_closed}
use Rattle.fsd_sound.specs.Mounted.{Mounted}
use Rattle.volume_contract.specs.State.{Ages, Known, Leaves, Stands, State, is_worn}
use Rattle.client_desk.specs.declared.client.Client.{Client}
use Rattle.client_desk.specs.Clients.{IsDesk}
use Rattle.client_desk.specs.Ends.{AnswersAs, LeavesOf, RefusesCall}
use Rattle.client_desk.proofs.HeldLaws.{holds_read}
use Rattle.volume_turns.specs.Calls.{AnswersIn, CallMayReply}
use Rattle.volume_turns.specs.Seats.{DoesIn, IsAnsweredIn, IsRefusedWornIn, Seated, SitsAt, StaysIn, known_of, seated, session_in}
use Rattle.volume_turns.specs.Steps.{ended_by}
use Rattle.volume_turns.proofs.NumberLaws.{goes_none}
use Rattle.volume_turns.proofs.StepLaws.{less_touched, wear_stays}
use Rattle.volume_turns.proofs.StaysLaws.{mounted_stays, sound_stays}

-- what is met beside the volume, where nothing of it is
abbrev pub met_none : Met
met_none = record { forces = false; reached = 0; damaged = None; found = []; healed = 0 }

-- a refusal changes nothing
refused_none : (clients : List Open) (c : ℕ) (call : Call) (why : Refusal) → call_changes clients c call (Said.Refused why) ≡ []
refused_none clients c (Calls.Begin name len) why = refl
refused_none clients c (Calls.Piece bytes) why = refl
refused_none clients c Calls.Close why = by (opened_by clients c)
  where
    by : (r : Result Open Refusal) → changes_closed r (Said.Refused why) ≡ []
    by (Err other) = refl
    by (Ok Nothing) = refl
    by (Ok (Writes name len runs serial bytes)) = refl
    by (Ok (Reads key runs bytes place)) = refl
refused_none clients c Calls.Drop why = refl
refused_none clients c (Calls.Open key) why = refl
refused_none clients c (Calls.Next len) why = refl
refused_none clients c Calls.Done why = refl

-- a refusal is said, and the volume is as it was
pub says_refused : (c : ℕ) (call : Call) (s t : State) (old new : Moment) (why : Refusal) → CallMayReply c call new.image (Said.Refused why) → t ≡ s → AnswersIn (OfClient c call) s t old new (Ok (Said.Refused why))
says_refused c call s t old new why may same = record { replies = may; worn = λ is. absurd (cc is); numbers = goes_none 1 s t same; told = tt }

module _ {S : Type 0} (state : S → State) (has : S → Mounted → List Placed → Type 0) where
  -- ---- what a stop leaves

  -- a call that writes
  pub writes_stay : {D : Type 0} (M : Ghosts D) (a b : D) (fault : Option ℕ) (v : S) (desk : List Client) (may : ℕ → Bool) → WritesDisk M fault (Leaves state has v may) a b → WritesDisk M fault (StaysIn state has (v, desk)) a b
  writes_stay M a b fault v desk may writes = writes_more {P = Leaves state has v may} writes (λ h left leaves k sits. less_touched state has v may (M.now a) left leaves (known_of k) sits.stands)

  -- one that writes in what its clients have open
  pub writes_of_stay : {D : Type 0} (M : Ghosts D) (a b : D) (fault : Option ℕ) (v : S) (desk : List Client) (may : ℕ → Bool) → WritesDisk M fault (LeavesOf state has v desk may) a b → WritesDisk M fault (StaysIn state has (v, desk)) a b
  writes_of_stay M a b fault v desk may writes = writes_more {P = LeavesOf state has v desk may} writes (λ h left leaves k sits. sound_stays (known_of k) (M.now a) left may (leaves (known_of k) k.clients sits))

  -- a call that only reads
  pub reads_stay : {D : Type 0} (M : Ghosts D) (a b : D) (fault : Option ℕ) (v : S) (desk : List Client) → ((k : Known) (left : Moment) → AreShort (M.now a).windows → Ages (M.now a) left → Stands state has v k (M.now a) → Stands state has v k left) → (M.honest a → AreShort (M.now a).windows)
      → OnlyReads M fault a b → WritesDisk M fault (StaysIn state has (v, desk)) a b
  reads_stay M a b fault v desk wears short reads = reads_as_writes reads
      (λ h left worn k sits. wear_stays state has v (M.now a) left (λ known. wears known left (short (reads.trust.honest h)) (record { image = worn.image; windows = worn.windows })) worn (known_of k) sits.stands)

  -- none
  pub none_stays : {D : Type 0} (M : Ghosts D) (a : D) (v : S) (desk : List Client) → ((c : Moment) → M.honest a → M.left_since a (M.moment a) c → c ≡ M.now a) → WritesDisk M None (StaysIn state has (v, desk)) a a
  none_stays M a v desk only_now = writes_none a only_now (StaysIn state has (v, desk)) (λ h k sits. mounted_stays (known_of k) (M.now a) (M.now a) sits.stands.disk refl refl)

  -- ---- how a call ends

  module _ (c : ℕ) (call : Call) (old new : S) (desk left : List Client) (k : Seated) (before now : Moment) (is_desk : IsDesk (state new) left) where
    abbrev pub AnswersSo : Reply → Type 0
    AnswersSo reply = (after : Seated) × IsAnsweredIn (OfClient c call) (state old) k after before.image now.image reply × SitsAt state has (new, left) after now

    abbrev pub DoesSo : Result Reply Fault → Type 0
    DoesSo r = DoesIn state has (OfClient c call) (old, desk) (new, left) k before now r

    -- what a worn-out mount refuses is not refused so
    abbrev pub IsUnworn : Type 0
    IsUnworn = IsTrue (call_may_wear_out k.clients c call) → IsFalse (is_worn (state old))

    module _ (outcome : Session → SessionOutcome) (met : Meeting) (same : call_answer met (session_in k) c call ≡ outcome (session_in k)) (find : CallMayFind before.image now.image k.clients c call met.met) where
      -- it is answered
      pub answers_does : (reply : Reply) (made : List Change) → made ≡ call_changes k.clients c call reply → IsUnworn → AnswersAs state has outcome reply made (known_of k) k.clients new left now → AnswersSo reply
      answers_does reply made is unworn answers = (
        seated answers.after answers.left,
        record {
          met = met;
          is = same ∙ answers.is;
          windows = answers.windows;
          changes = answers.changes ∙ ap (λ (h : List Change). k.changes ++ h) is;
          find = find;
          hold = holds_read state has new left answers.after answers.left now is_desk answers.sits;
          unworn = unworn;
        },
        answers.sits,
      )

      pub refused_so : (why : Refusal) → IsUnworn → AnswersAs state has outcome (Said.Refused why) [] (known_of k) k.clients new left now → AnswersSo (Said.Refused why)
      refused_so why unworn answers = answers_does (Said.Refused why) [] (sym (refused_none k.clients c call why)) unworn answers

      -- it is refused: the refusal is the reply, or ends the run
      pub refuses_does : (why : Refusal) → ((why ≡ Why.WornOut → ⊥) → IsUnworn) → (why ≡ Why.WornOut → IsRefusedWornIn (OfClient c call) k (state old)) → RefusesCall state has outcome (known_of k) k.clients new left now why → DoesSo (ended_by why)
      refuses_does (Why.Device s) unworn worn ends = tt
      refuses_does (Why.Down s) unworn worn ends = absurd ends
      refuses_does (Why.Lost a b) unworn worn ends = absurd ends
      refuses_does (Why.Unsound s) unworn worn ends = absurd ends
      refuses_does Why.Memory unworn worn ends = tt
      refuses_does Why.WornOut unworn worn ends = (worn refl, ends)
      refuses_does why unworn worn ends = refused_so why (unworn (λ is. cc is)) ends
