-- A restore of what was taken, to its end.
use Rattle.std.proofs.Common.{◌≡◌, inl, inr, ℕ, zero, suc, ◌≤◌, ◌<◌, Bool, true, false, List, [], length, Option, Some, None, refl, sym, ap, subst, arith}
use Rattle.std.specs.Prelude.{if◌then◌else◌, nat_lt, IsSome, Result, Ok, Err, slice_get}
use Rattle.std.proofs.lemmas.Bool.{lt-ltb, ltb-true}
use Rattle.sector_disk.specs.declared.machine.Machine.{Ghosts}
use Rattle.sector_disk.specs.Calls.{IsTimed, LeavesDisk, Since}
use Rattle.sector_disk.specs.Image.{AreShort}
use Rattle.sector_disk.specs.Machine.{Report, Utters}
use Rattle.fsd_files.specs.Desk.{Session}
use Rattle.fsd_files.specs.Disk.{Image, in_runs}
use Rattle.fsd_files.specs.Volume.{Volume}
use Rattle.fsd_sound.specs.Sound.{EndIn}
use Rattle.fsd_texts.specs.declared.command.Command.{Command}
use Rattle.fsd_texts.specs.declared.command.Command.TheVariants as Word
use Rattle.fsd_texts.specs.declared.fault.Fault.{Fault}
use Rattle.fsd_texts.specs.declared.fault.Fault.TheVariants as Ends
use Rattle.fsd_texts.specs.declared.script_command.ScriptCommand.{ScriptCommand}
use Rattle.fsd_texts.specs.Script.{max_input}
use Rattle.fsd_texts.specs.Text.{fault_text}
use Rattle.fsd_dumps.specs.Front.{dumped_in}
use Rattle.fsd_runs.specs.declared.request.Request.TheVariants.{Restore}
use Rattle.fsd_runs.specs.Errands.{ByRefusal, Errand, cut_off, errand_of, nothing_but, restore_of}
use Rattle.fsd_runs.specs.Runs.{Goes, IsCutAt, IsCutBefore, IsRestoredSo, answered, session_behind, turns_of}
use Rattle.fsd_runs.specs.Sessions.{session_over}
use Rattle.volume_contract.specs.State.{Known, volume_of}
use Rattle.volume_turns.specs.declared.turns.Halt.{Halt}
use Rattle.volume_turns.specs.declared.turns.Halt.TheVariants.{Fault as Stopped, Output}
use Rattle.volume_turns.specs.Commands.{IsStatusFrom}
use Rattle.volume_turns.specs.Line.{EndsWith, is_unsaid}
use Rattle.volume_turns.specs.Once.{Anything}
use Rattle.volume_turns.specs.Restore.{IsRestored, cut_at}
use Rattle.volume_turns.specs.Turns.{FaultTold}
use Rattle.volume_turns.specs.Whole.{Finishes, RunsOut}
use Rattle.volume_turns.proofs.GroupLaws.{goes_wider}
use Rattle.volume_turns.proofs.HaltLaws.{broken_ends, broken_moments}
use Rattle.volume_turns.proofs.LookedLaws.{some_restore}

-- ---- what a restore asks for, by how long its input is

abbrev asked : Bool → List ℕ → Volume → Errand
asked long input v = if long then nothing_but Ends.InputTooLong else restore_of (dumped_in input) v

pub asks_restore : (input : List ℕ) (v : Volume) → length input ≤ max_input → errand_of Restore input v ≡ restore_of (dumped_in input) v
asks_restore input v few = by (nat_lt max_input (length input)) refl
  where
    by : (b : Bool) → nat_lt max_input (length input) ≡ b → errand_of Restore input v ≡ restore_of (dumped_in input) v
    by true is = absurd (let more = ltb-true max_input (length input) is in omega (arith, few, more))
    by false is = ap (λ (b : Bool). asked b input v) is

pub asks_nothing : (input : List ℕ) (v : Volume) → max_input < length input → errand_of Restore input v ≡ nothing_but Ends.InputTooLong
asks_nothing input v many = ap (λ (b : Bool). asked b input v) (lt-ltb max_input (length input) many)

-- the run has a turn to say, whatever the volume
pub some_turn : (input : List ℕ) (v : Volume) → IsSome (slice_get (turns_of (errand_of Restore input v) [] (session_over v)) 0)
some_turn input v = by (nat_lt max_input (length input))
  where
    by : (long : Bool) → IsSome (slice_get (turns_of (asked long input v) [] (session_over v)) 0)
    by true = refl
    by false = some_restore (dumped_in input) v (session_over v)

-- ---- its status

-- any load
abbrev pub some_load : Command
some_load = Word.Load (record { name = []; version = 0 }) 0 []

pub low_from : (status : ℕ) → status ≤ 1 → IsStatusFrom some_load status
low_from zero low = refl
low_from (suc zero) low = refl
low_from (suc (suc n)) low = absurd (omega (arith, low))

-- ---- to the last line

ahead_all : (o : Option ℕ) (s : Session) (commands : List ScriptCommand) → IsCutBefore (cut_at o) s commands
ahead_all None s commands = tt
ahead_all (Some count) s commands = tt

at_all : (o : Option ℕ) (v : Volume) (i : Image) → IsCutAt (cut_at o) v i
at_all None v i = tt
at_all (Some count) v i = tt

module _ {D : Type 0} (M : Ghosts D) (before : Report) (k : Known) (a b : D) where
  -- Such an errand goes to its end.
  pub record RunsAs (e : Errand) (status : ℕ) : Type 0 where
    pub refused : Option ℕ
    pub finishes : Finishes M Restore (cut_off (cut_at refused) e) (λ s. IsCutBefore (cut_at refused) s e.commands) (IsCutAt (cut_at refused)) before k a b status
    pub so : IsRestoredSo (cut_at refused) (answered finishes.mets (session_over (volume_of k)) (cut_off (cut_at refused) e).commands)

  module _ (input rest : List ℕ) (status : ℕ) where
    out_by : (o : Option ℕ) (f : Finishes M Restore (cut_off (cut_at o) (errand_of Restore input (volume_of k))) (λ s. IsCutBefore (cut_at o) s (errand_of Restore input (volume_of k)).commands) (IsCutAt (cut_at o)) before k a b status)
        → IsRestoredSo (cut_at o) (answered f.mets (session_over (volume_of k)) (cut_off (cut_at o) (errand_of Restore input (volume_of k))).commands) → RunsOut M Restore input rest before k a b status
    out_by None f so = record { cut = None; may = tt; cause = tt; finishes = f; says = tt; rooted = tt; so = so }
    out_by (Some count) f so = record { cut = Some (ByRefusal count); may = tt; cause = tt; finishes = f; says = tt; rooted = tt; so = so }

    pub runs_restored : length input ≤ max_input → RunsAs (restore_of (dumped_in input) (volume_of k)) status → RunsOut M Restore input rest before k a b status
    runs_restored few runs = let x = subst (λ (e : Errand). RunsAs e status) (sym (asks_restore input (volume_of k) few)) runs in out_by x.refused x.finishes x.so

-- up to the line of a fault, or as it is
module _ {D : Type 0} (M : Ghosts D) (k : Known) (e : Errand) (a p b : D) (since : Since M p b) (result : Result ℕ Halt) (r : IsRestored M e k a p result) where
  abbrev cut_so : Errand
  cut_so = cut_off (cut_at r.refused) e

  goes_on : (t : ℕ) → t ≤ M.moment a → Goes (in_runs k.windows) (M.left_since b t) (IsCutAt (cut_at r.refused)) cut_so (M.now a).said (M.now a).image (session_over (volume_of k)) r.ended.mets cut_so.commands
  goes_on t le = let later = r.ended.moments.later in
      goes_wider (in_runs k.windows) (M.left_since p t) (M.left_since b t) (λ x was. since t x (omega (arith, le, later)) was) Anything (IsCutAt (cut_at r.refused)) (λ v i is. at_all r.refused v i) cut_so (M.now a).said (M.now a).image (session_over (volume_of k)) r.ended.mets cut_so.commands (r.ended.goes t le)

module _ {D : Type 0} (M : Ghosts D) (k : Known) (e : Errand) (a p b : D) where
  still : (c : D) → Since M c c
  still c t left le was = was

  pub restored_said : (before : Report) (status : ℕ) → IsRestored M e k a b (Ok status) → RunsAs M before k a b e status
  restored_said before status r = record {
    refused = r.refused;
    finishes = record {
      mets = r.ended.mets;
      ahead = ahead_all r.refused (session_behind r.ended.mets (session_over (volume_of k)) (cut_so M k e a b b (still b) (Ok status) r).commands) e.commands;
      goes = goes_on M k e a b b (still b) (Ok status) r;
      moments = r.ended.moments;
      ends = inl r.ended.ends;
    };
    so = r.so;
  }

  pub restored_unsaid : {T : Type 0} (before : Report) → IsRestored M e k a b (Err Output) → FaultTold {T = T} before (M.report b) (Err Output) → RunsAs M before k a b e 6
  restored_unsaid before r told = record {
    refused = r.refused;
    finishes = record {
      mets = r.ended.mets;
      ahead = ahead_all r.refused (session_behind r.ended.mets (session_over (volume_of k)) (cut_so M k e a b b (still b) (Err Output) r).commands) e.commands;
      goes = goes_on M k e a b b (still b) (Err Output) r;
      moments = r.ended.moments;
      ends = inr (inl (record { ends = refl; rose = told.output }));
    };
    so = r.so;
  }

  pub restored_broken : (before : Report) (why : Fault) → IsRestored M e k a p (Err (Stopped why)) → Since M p b → M.honest b → AreShort (M.now p).windows → EndIn (M.now a).windows k.windows → IsTimed M p → IsTimed M b
      → {T : Type 0} → FaultTold {T = T} before (M.report p) (Err (Stopped why)) → (status : ℕ) → LeavesDisk M false (is_unsaid status) (Utters (fault_text why)) p b → EndsWith why (M.now p) (M.now b) status → RunsAs M before k a b e status
  restored_broken before why r since honest short ends at_p at_b told status says ended =
      let cut = cut_so M k e a p b since (Err (Stopped why)) r in
      let turns = turns_of cut r.ended.mets (session_over (volume_of k)) in
      record {
        refused = r.refused;
        finishes = record {
          mets = r.ended.mets;
          ahead = ahead_all r.refused (session_behind r.ended.mets (session_over (volume_of k)) cut.commands) e.commands;
          goes = goes_on M k e a p b since (Err (Stopped why)) r;
          moments = broken_moments M Restore before k turns a p b r.ended.moments why r.ended.ends.1 short ends at_p at_b r.ended.ends.0 told status says honest ended;
          ends = inr (broken_ends M Restore before k turns a p b r.ended.moments why r.ended.ends.1 short ends at_p at_b r.ended.ends.0 told status says honest ended);
        };
        so = r.so;
      }
