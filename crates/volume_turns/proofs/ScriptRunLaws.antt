-- What a script leaves, from the mounted volume to the last line.
use Rattle.std.proofs.Common.{◌≡◌, ◌⊎◌, inl, inr, ℕ, Bool, true, false, List, [], ◌∷◌, ◌++◌, length, take, Some, None, refl, sym, ◌∙◌, ap, subst}
use Rattle.std.specs.Prelude.{◌==◌, if◌then◌else◌, IsSome, slice_get}
use Rattle.sector_disk.specs.declared.machine.Machine.{Ghosts}
use Rattle.sector_disk.specs.Machine.{Report, Rose}
use Rattle.fsd_files.specs.declared.reply.Reply.{Reply}
use Rattle.fsd_files.specs.Volume.{Volume}
use Rattle.fsd_runs.specs.Sessions.{session_over}
use Rattle.fsd_texts.specs.declared.script_command.ScriptCommand.{ScriptCommand}
use Rattle.fsd_texts.specs.declared.fault.Fault.TheVariants as Ends
use Rattle.fsd_texts.specs.declared.line.Line.TheVariants as Says
use Rattle.fsd_texts.specs.declared.end.End.{End as ScriptEnd}
use Rattle.fsd_texts.specs.declared.end.End.TheVariants.{Done, Bad, TooLong}
use Rattle.fsd_texts.specs.Script.{script_in, script_of}
use Rattle.fsd_runs.specs.Commands.{reply_text}
use Rattle.fsd_runs.specs.declared.request.Request.TheVariants.{Script}
use Rattle.fsd_runs.specs.Errands.{Answered, ByFault, Ending, Errand, Turn, blank, cut_ending, errand_of, group_ending, is_forced, line_turn, script_ending, scripted}
use Rattle.fsd_runs.specs.Runs.{IsWornOut, WearsOut, turns_of}
use Rattle.volume_contract.specs.State.{Known}
use Rattle.volume_turns.specs.Group.{WornIf}
use Rattle.volume_turns.specs.Whole.{Always, Finishes, RunsOut}
use Rattle.volume_turns.proofs.GroupEndLaws.{ended_as}
use Rattle.volume_turns.proofs.ScriptEndLaws.{WornOff, but_input, finishes_in}

-- the run has turns to say, whatever the volume
pub some_forced : (input : List ℕ) (v : Volume) → IsSome (slice_get (turns_of (errand_of Script input v) [] (session_over v)) 0)
some_forced input v = by (0 == length (script_in input).0) (script_in input).1
  where
    by : (b : Bool) (end : ScriptEnd) → IsSome (slice_get (if b then (script_ending end).turns else blank ∷ []) 0)
    by true Done = refl
    by true (Bad bad) = refl
    by true TooLong = refl
    by false end = refl

abbrev spoken : Errand
spoken = scripted ([], Done)

module _ (e : Errand) (says : e.says ≡ reply_text) (forces : e.forces ≡ is_forced) where
  as_spoken : (commands : List ScriptCommand) (ends : List Answered → Ending) → ended_as e commands ends ≡ ended_as spoken commands ends
  as_spoken commands ends =
      ap (λ (s : Reply → List ℕ). record { commands = commands; says = s; forces = e.forces; ends = ends }) says
      ∙ ap (λ (f : Reply → Bool). record { commands = commands; says = reply_text; forces = f; ends = ends }) forces

  module _ {D : Type 0} (M : Ghosts D) (input rest : List ℕ) (x p : Report) (k : Known) (a b : D) (status : ℕ) where
    abbrev Over : Type 0
    Over = RunsOut M Script input rest x k a b status

    pub runs_all : Finishes M Script (ended_as e (script_in input).0 (λ done. script_ending (script_in input).1)) Always (WornIf false) (but_input x p) k a b status → Over
    runs_all f = record {
      cut = None;
      may = tt;
      cause = tt;
      says = tt;
      rooted = tt;
      so = tt;
      finishes = subst (λ (y : Errand). Finishes M Script y Always (WornIf false) x k a b status) (as_spoken (script_in input).0 (λ done. script_ending (script_in input).1)) (finishes_in M _ Always (WornIf false) x p k a b status f);
    }

    pub runs_ended : (end : ScriptEnd) → (script_in input).1 ≡ end → Finishes M Script (ended_as e (script_in input).0 (λ done. script_ending end)) Always (WornIf false) (but_input x p) k a b status → Over
    runs_ended end is f = runs_all (subst (λ (y : ScriptEnd). Finishes M Script (ended_as e (script_in input).0 (λ done. script_ending y)) Always (WornIf false) (but_input x p) k a b status) (sym is) f)

    pub runs_worn : WornOff M e (script_in input).0 (but_input x p) k a b status → Over
    runs_worn w = record {
      cut = Some (ByFault w.count Ends.WornOut);
      may = tt;
      cause = tt;
      says = tt;
      rooted = tt;
      so = tt;
      finishes = subst (λ (y : Errand). Finishes M Script y (λ s. WearsOut s (slice_get (script_in input).0 w.count)) (λ v i. IsWornOut v i) x k a b status) (as_spoken (take w.count (script_in input).0) (λ done. cut_ending Ends.WornOut)) (finishes_in M _ (λ s. WearsOut s (slice_get (script_in input).0 w.count)) (λ v i. IsWornOut v i) x p k a b status w.finishes);
    }

    pub runs_failed : (done : List ScriptCommand) → take (length done) (script_in input).0 ≡ done → Rose x.input_faults (M.report b).input_faults → (taken : List ℕ) → input ≡ taken ++ rest → length (script_of taken).0 ≡ length done
        → Finishes M Script (ended_as e done (λ d. cut_ending Ends.Input)) Always (WornIf false) (but_input x p) k a b status → Over
    runs_failed done front rose taken all whole f = record {
      cut = Some (ByFault (length done) Ends.Input);
      may = tt;
      cause = record { rose = rose; taken = taken; all = all; commands = whole };
      says = tt;
      rooted = tt;
      so = tt;
      finishes = subst (λ (cs : List ScriptCommand). Finishes M Script (ended_as spoken cs (λ d. cut_ending Ends.Input)) Always (WornIf false) x k a b status) (sym front)
          (subst (λ (y : Errand). Finishes M Script y Always (WornIf false) x k a b status) (as_spoken done (λ d. cut_ending Ends.Input)) (finishes_in M _ Always (WornIf false) x p k a b status f));
    }

    -- by how the script ends, whatever it is
    pub runs_either : ((more : List Turn) (gives : ℕ) → Finishes M Script (ended_as e (script_in input).0 (λ done. group_ending more gives)) Always (WornIf false) (but_input x p) k a b status ⊎ WornOff M e (script_in input).0 (but_input x p) k a b status) → Over
    runs_either over = by (script_in input).1 refl
      where
        from : (end : ScriptEnd) → (script_in input).1 ≡ end → Finishes M Script (ended_as e (script_in input).0 (λ done. script_ending end)) Always (WornIf false) (but_input x p) k a b status ⊎ WornOff M e (script_in input).0 (but_input x p) k a b status → Over
        from end is (inl f) = runs_ended end is f
        from end is (inr w) = runs_worn w

        by : (end : ScriptEnd) → (script_in input).1 ≡ end → Over
        by Done is = from Done is (over [] 0)
        by (Bad bad) is = from (Bad bad) is (over (line_turn (Says.Bad bad) ∷ []) 2)
        by TooLong is = from TooLong is (over (line_turn (Says.Ended Ends.InputTooLong) ∷ []) 5)
