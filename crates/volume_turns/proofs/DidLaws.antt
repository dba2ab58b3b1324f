-- How a command ends over a volume that is up, by how the volume's call has ended.
use Rattle.std.proofs.Common.{◌≡◌, inl, inr, ℕ, List, Option, None, refl, sym, ◌∙◌, ap, subst, arith}
use Rattle.std.specs.Prelude.{IfErr, IfOk, IsTrue, OnOk, Result, Ok, Err}
use Rattle.fsd_bytes.specs.declared.refusal.Refusal.{Refusal}
use Rattle.fsd_bytes.specs.declared.refusal.Refusal.TheVariants as Why
use Rattle.fsd_files.specs.Disk.{Image, Sectors}
use Rattle.fsd_files.specs.declared.reply.Reply.{Reply}
use Rattle.fsd_files.specs.declared.reply.Reply.TheVariants as Said
use Rattle.fsd_log.specs.Scan.{Placed}
use Rattle.fsd_runs.specs.Commands.{reply_status}
use Rattle.fsd_sound.specs.Mounted.{Mounted}
use Rattle.fsd_texts.specs.declared.command.Command.{Command}
use Rattle.fsd_texts.specs.declared.command.Command.TheVariants as Word
use Rattle.fsd_texts.specs.declared.fault.Fault.{Fault}
use Rattle.volume_layout.specs.declared.layout.Layout.{Layout}
use Rattle.sector_disk.specs.declared.machine.Machine.{Ghosts}
use Rattle.sector_disk.specs.Calls.{OnlyReads, WritesDisk}
use Rattle.sector_disk.specs.Machine.{Ledger, Moment, Wears}
use Rattle.sector_disk.proofs.CallLaws.{reads_as_writes, writes_more, writes_told}
use Rattle.scrub.specs.Scrub.{KeepsOpen}
use Rattle.scrub.specs.Telling.{AreOfPage}
use Rattle.volume_contract.specs.Causes.{HasCallCause}
use Rattle.volume_contract.specs.Ends.{device_of}
use Rattle.volume_contract.specs.Order.{Comes, IsLookUp, CallStep}
use Rattle.volume_contract.specs.State.{GoesOn, Known, Leaves, Stands, State, downs_for, is_worn}
use Rattle.volume_turns.specs.Commands.{Because, HasWrittenBy, IsStatusFrom, KeepsState, MayLose, MayReply, TouchesBy, most_written}
use Rattle.volume_turns.specs.Did.{Did}
use Rattle.volume_turns.specs.Numbers.{GoesUp}
use Rattle.volume_turns.specs.Reasons.{IsUpTo}
use Rattle.volume_turns.specs.Steps.{Does, IsOfCall, IsRefusedOn, IsToldOn, Stays, ended_by}
use Rattle.volume_turns.proofs.AnsweringLaws.{said_or_fault}
use Rattle.volume_turns.proofs.ReasonLaws.{ended_up_to, nothing_told}
use Rattle.volume_turns.proofs.StatusLaws.{look_up_ends}
use Rattle.volume_turns.proofs.StepLaws.{less_touched, same_device, wear_stays}
use Rattle.volume_turns.proofs.ToldLaws.{told_may, told_of}
use Rattle.volume_turns.proofs.WornLaws.{look_up_worn, told_worn}

-- ---- the state

pub opens : (place : Option ℕ) (s t : State) → GoesOn place s t → KeepsOpen s t
opens place s t goes = record { unfinished = goes.unfinished; readers = goes.readers }

pub goes_same : (place : Option ℕ) (s t : State) → t ≡ s → GoesOn place s t
goes_same place s t same = subst (λ (x : State). GoesOn place s x) (sym same) (record { layout = refl; epoch = refl; unfinished = refl; readers = refl; down = inl refl })

stays_up : (s t : State) → s.down ≡ None → GoesOn None s t → t.down ≡ None
stays_up s t up goes = elim goes.down [ inl same ↦ same ∙ up | inr other ↦ absurd (cc other.0) ]

-- so it is of a refusal that is said
refused_up : (s t : State) → s.down ≡ None → (why : Refusal) → GoesOn (downs_for why) s t → OnOk (ended_by why) (t.down ≡ None)
refused_up s t up (Why.Device n) goes = tt
refused_up s t up (Why.Down n) goes = tt
refused_up s t up (Why.Lost a b) goes = tt
refused_up s t up (Why.Unsound n) goes = tt
refused_up s t up Why.WornOut goes = tt
refused_up s t up Why.Memory goes = tt
refused_up s t up why goes = stays_up s t up goes

pub up_so : (P : Type 0) (r : Result Reply Fault) → P → OnOk r P
up_so P (Ok a) up = up
up_so P (Err fault) up = tt

ends_up : (why : Refusal) → IsLookUp why → (P : Type 0) → OnOk (ended_by why) P
ends_up (Why.Device n) refuses P = tt
ends_up (Why.Lost a b) refuses P = tt
ends_up (Why.Unsound n) refuses P = tt
ends_up Why.Memory refuses P = tt
ends_up why refuses P = absurd refuses

-- ---- what is told, and what is written

of_call : (why : Refusal) → IfErr (ended_by why) IsOfCall
of_call (Why.Device n) = tt
of_call (Why.Down n) = tt
of_call (Why.Lost a b) = tt
of_call (Why.Unsound n) = tt
of_call Why.WornOut = tt
of_call Why.Memory = tt
of_call why = tt

told_any : (command : Command) (l : Layout) (i : Image) (r : Result Reply Fault) → IfErr r (IsToldOn AreOfPage l i) → IfErr r (IsToldOn (MayLose command) l i)
told_any command l i (Ok a) told = tt
told_any command l i (Err why) told = told_may command l i why told

-- no more than it may write
written_by : (command : Command) (s : State) (old new : Ledger) (why : Refusal) → IsUpTo (most_written command s) old new → HasWrittenBy command s old new (ended_by why)
written_by Word.Scrub s old new why most = nothing_told s old new why (ended_by why) refl
written_by command s old new why most = ended_up_to (most_written command s) old new why most

pub reads_none : (old new : Ledger) → new ≡ old → IsUpTo 0 old new
reads_none old new same = let is = ap (λ (l : Ledger). l.written) same in (omega (arith, is), omega (arith, is))

module _ {D S : Type 0} (M : Ghosts D) (state : S → State) (holds : S → Mounted → List Placed → Type 0) (before now : D) where
  -- ---- what a stop leaves

  pub leaves_stay : {fault : Option ℕ} (old : S) (may : Sectors) → WritesDisk M fault (Leaves state holds old may) before now → WritesDisk M fault (Stays state holds old) before now
  leaves_stay old may disk = writes_more disk (λ h left. less_touched state holds old may (M.now before) left)

  -- of a call that only reads
  pub reads_stay : {fault : Option ℕ} (old : S) → (M.honest before → (left : Moment) → Wears (M.now before) left → (k : Known) → Stands state holds old k (M.now before) → Stands state holds old k left)
      → OnlyReads M fault before now → WritesDisk M fault (Stays state holds old) before now
  reads_stay old wears disk = reads_as_writes disk (λ h left worn. wear_stays state holds old (M.now before) left (wears (disk.trust.honest h) left worn) worn)

  module _ (resident : S → ℕ → Option (List ℕ)) (command : Command) (old new : S) where
    abbrev Ended : Result Reply Fault → Type 0
    Ended r = Did M state holds resident command old new before now r

    abbrev DoesSo : Result Reply Fault → Type 0
    DoesSo r = M.honest now → (k : Known) → Stands state holds old k (M.now before) → Does state holds command old new k (M.now before) (M.now now) r

    module _ (rest : M.honest now → TouchesBy command (state old) (M.now before) (M.now now)) (still : KeepsState command (state old) (state new)) (numbers : GoesUp 1 (state old) (state new)) where
      -- ---- it is answered

      pub answered_did : (a : Reply) → (state old).down ≡ None → GoesOn None (state old) (state new) → WritesDisk M None (Stays state holds old) before now → IsStatusFrom command (reply_status a)
          → (M.honest now → MayReply command (M.now now).image a) → (let r : Result Reply Fault = Ok a in M.tells now → HasWrittenBy command (state old) (M.ledger before) (M.ledger now) r)
          → (M.honest now → Because state resident command (state old) (state new) (M.now before) (M.now now) a) → (let r : Result Reply Fault = Ok a in DoesSo r) → Ended (Ok a)
      answered_did a up goes disk status replies written because done = record {
        layout = goes.layout;
        opened = opens None (state old) (state new) goes;
        up = stays_up (state old) (state new) up goes;
        disk = disk;
        tells = record {
          fault = tt;
          status = status;
          answers = λ h. record { replies = replies h; rest = rest h; still = still; worn = λ is. absurd (cc is); numbers = numbers; told = tt };
          written = written;
          because = because;
        };
        done = done;
      }

      -- ---- a step of the call refuses it

      pub refused_did : (steps : List CallStep) (why : Refusal) → (state old).down ≡ None → Comes steps why → ((t : ℕ) → why ≡ Why.Down t → ⊥) → (Comes steps Why.WornOut → IsTrue (is_worn (state old)))
          → GoesOn (downs_for why) (state old) (state new) → WritesDisk M (device_of why) (Stays state holds old) before now → (M.honest now → HasCallCause (state old) (state new) (resident old) (M.now before) (M.now now) why)
          → IsStatusFrom command 1 → (M.honest now → IfOk (ended_by why) (λ a. MayReply command (M.now now).image a)) → (M.tells now → IsUpTo (most_written command (state old)) (M.ledger before) (M.ledger now))
          → (M.honest now → Because state resident command (state old) (state new) (M.now before) (M.now now) (Said.Refused why)) → DoesSo (ended_by why) → Ended (ended_by why)
      refused_did steps why up comes down worn goes disk causes status replies counted because done = record {
        layout = goes.layout;
        opened = opens (downs_for why) (state old) (state new) goes;
        up = refused_up (state old) (state new) up why goes;
        disk = writes_told (sym (same_device why down)) disk;
        tells = record {
          fault = of_call why;
          status = said_or_fault (λ a. IsStatusFrom command (reply_status a)) why status;
          answers = λ h. record {
            replies = replies h;
            rest = rest h;
            still = still;
            worn = told_worn (state old) steps why (ended_by why) refl comes worn;
            numbers = numbers;
            told = told_any command (state old).layout (M.now now).image (ended_by why) (told_of (state old) (state new) (resident old) (M.now before) (M.now now) goes.layout why (causes h));
          };
          written = λ t. written_by command (state old) (M.ledger before) (M.ledger now) why (counted t);
          because = λ h. said_or_fault (λ a. Because state resident command (state old) (state new) (M.now before) (M.now now) a) why (because h);
        };
        done = done;
      }

      -- ---- a look-up or a force fails, which ends the run

      pub ended_did : (why : Refusal) → IsLookUp why → (state new).layout ≡ (state old).layout → KeepsOpen (state old) (state new) → WritesDisk M (device_of why) (Stays state holds old) before now
          → (M.honest now → IsRefusedOn (MayLose command) (state old).layout (M.now now).image why) → (M.tells now → HasWrittenBy command (state old) (M.ledger before) (M.ledger now) (ended_by why)) → DoesSo (ended_by why) → Ended (ended_by why)
      ended_did why refuses layout opened disk told written done = record {
        layout = layout;
        opened = opened;
        up = ends_up why refuses ((state new).down ≡ None);
        disk = writes_told (sym (same_device why (λ t is. subst IsLookUp is refuses))) disk;
        tells = record {
          fault = of_call why;
          status = look_up_ends (λ a. IsStatusFrom command (reply_status a)) why (ended_by why) refl refuses;
          answers = λ h. record {
            replies = look_up_ends (λ a. MayReply command (M.now now).image a) why (ended_by why) refl refuses;
            rest = rest h;
            still = still;
            worn = look_up_worn (state old) why (ended_by why) refl refuses;
            numbers = numbers;
            told = told h;
          };
          written = written;
          because = λ h. look_up_ends (λ a. Because state resident command (state old) (state new) (M.now before) (M.now now) a) why (ended_by why) refl refuses;
        };
        done = done;
      }
