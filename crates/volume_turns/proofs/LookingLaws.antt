-- Which versions of a dump are there already.
use Rattle.std.proofs.Common.{◌≡◌, ℕ, true, false, List, ◌∷◌, Option, Some, None, refl, sym, ap}
use Rattle.std.specs.Prelude.{Bool, Result, Ok, Err, IfErr, is_some, if◌then◌else◌}
use Rattle.sector_disk.specs.declared.machine.Machine.{Ghosts}
use Rattle.sector_disk.specs.Calls.{OnlyReads}
use Rattle.sector_disk.proofs.CallLaws.{reads_told}
use Rattle.fsd_log.specs.Scan.{Placed}
use Rattle.fsd_bytes.specs.declared.key.Key.{Key}
use Rattle.fsd_bytes.specs.declared.refusal.Refusal.{Refusal}
use Rattle.fsd_bytes.specs.declared.refusal.Refusal.TheVariants as Why
use Rattle.fsd_formats.specs.declared.entry.Entry.{Entry}
use Rattle.fsd_files.specs.Answers.{entry_of, entry_reply, found_or}
use Rattle.fsd_files.specs.declared.reply.Reply.{Reply}
use Rattle.fsd_files.specs.declared.reply.Reply.TheVariants as Said
use Rattle.fsd_sound.specs.Mounted.{Mounted}
use Rattle.fsd_texts.specs.declared.command.Command.TheVariants as Word
use Rattle.fsd_texts.specs.declared.fault.Fault.{Fault}
use Rattle.fsd_texts.specs.declared.fault.Fault.TheVariants as Ends
use Rattle.fsd_dumps.specs.Dump.{Dumped}
use Rattle.fsd_runs.specs.Dumps.{first_there}
use Rattle.scrub.specs.Telling.{AreOfPage}
use Rattle.volume_contract.specs.Ends.{LooksUp}
use Rattle.volume_contract.specs.State.{Known, Stands, State, volume_of}
use Rattle.volume_turns.specs.Did.{Did}
use Rattle.volume_turns.specs.Restore.{FindsOr, LooksFor, none_unless}
use Rattle.volume_turns.specs.Steps.{IsOfCall, IsToldOn, device_by, ended_by}

-- ---- one key

pub found_there : (o : Option Entry) (e : Entry) → found_or o ≡ Said.Found (Some e) → true ≡ is_some o
found_there None e is = cc is
found_there (Some x) e is = refl

none_there : (o : Option Entry) → found_or o ≡ Said.Refused Why.NoSuch → false ≡ is_some o
none_there None is = refl
none_there (Some x) is = cc is

-- by the refusal of a look-up
unfound_by : (o : Option Entry) (why : Refusal) → LooksUp (found_or o) (Err why) → FindsOr (λ there. there ≡ is_some o) (none_unless (ended_by why))
unfound_by o (Why.Device s) looks = tt
unfound_by o Why.Memory looks = tt
unfound_by o Why.NoSuch looks = none_there o looks
unfound_by o why looks = absurd looks

unworn_by : (why : Refusal) → (why ≡ Why.WornOut → ⊥) → IfErr (none_unless (ended_by why)) (λ fault. fault ≡ Ends.WornOut → ⊥)
unworn_by Why.WornOut other = absurd (other refl)
unworn_by (Why.Device s) other = λ is. cc is
unworn_by (Why.Down s) other = λ is. cc is
unworn_by (Why.Lost a b) other = λ is. cc is
unworn_by (Why.Unsound s) other = λ is. cc is
unworn_by Why.Memory other = λ is. cc is
unworn_by why other = tt

-- what holds of a fault holds of it still
err_on : (P : Fault → Type 0) (r : Result Reply Fault) → IfErr r P → IfErr (none_unless r) P
err_on P (Ok reply) holds = tt
err_on P (Err fault) holds = holds

device_on : (r : Result Reply Fault) → device_by (none_unless r) ≡ device_by r
device_on (Ok reply) = refl
device_on (Err fault) = refl

module _ {D S : Type 0} (M : Ghosts D) (state : S → State) (has : S → Mounted → List Placed → Type 0) (resident : S → ℕ → Option (List ℕ)) (key : Key) (v w : S) (a b : D) (why : Refusal) where
  pub looks_unfound : (why ≡ Why.WornOut → ⊥) → OnlyReads M (device_by (ended_by why)) a b → state w ≡ state v → Did M state has resident (Word.Get key) v w a b (ended_by why)
      → (M.honest b → (k : Known) → Stands state has v k (M.now a) → Stands state has w k (M.now b)) → (M.honest b → (k : Known) → Stands state has v k (M.now a) → LooksUp (entry_reply (volume_of k) key) (Err why))
      → LooksFor M state has (λ x there. there ≡ is_some (entry_of key x.entries)) v w a b (none_unless (ended_by why))
  looks_unfound other disk still did stands looks = record {
    still = still;
    disk = reads_told (device_on (ended_by why)) disk;
    fault = err_on IsOfCall (ended_by why) did.tells.fault;
    told = λ h. err_on (IsToldOn AreOfPage (state v).layout (M.now b).image) (ended_by why) (did.tells.answers h).told;
    unworn = unworn_by why other;
    stands = stands;
    found = λ h k stood. unfound_by (entry_of key (volume_of k).entries) why (looks h k stood);
  }

-- ---- one after another

-- of the first ones none is there
pub there_then : (x : Dumped) (items : List Dumped) (entries : List Entry) → false ≡ is_some (entry_of x.key entries) → first_there (x ∷ items) entries ≡ first_there items entries
there_then x items entries none = ap (λ (b : Bool). if b then Some x.key else first_there items entries) (sym none)

pub there_now : (x : Dumped) (items : List Dumped) (entries : List Entry) → true ≡ is_some (entry_of x.key entries) → first_there (x ∷ items) entries ≡ Some x.key
there_now x items entries there = ap (λ (b : Bool). if b then Some x.key else first_there items entries) (sym there)
