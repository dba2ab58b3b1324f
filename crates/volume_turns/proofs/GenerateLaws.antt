-- What commands that are made up leave, from the mounted volume to the last line.
use Rattle.std.proofs.Common.{◌≡◌, ℕ, ◌≤◌, Bool, true, false, List, [], ◌∷◌, ◌++◌, length, take, Some, None, refl, sym, ◌∙◌, ap, subst, arith, append_assoc}
use Rattle.std.specs.Prelude.{◌==◌, if◌then◌else◌, IsSome, IsTrue, Result, Ok, Err, slice_get}
use Rattle.std.proofs.lemmas.Bool.{eq-eqb, eqb-true}
use Rattle.fsd_texts.specs.Text.{fault_text, text}
use Rattle.sector_disk.specs.declared.machine.Machine.{Ghosts}
use Rattle.sector_disk.specs.Calls.{IsTimed, LeavesDisk, Since, StopsOnly}
use Rattle.sector_disk.specs.Image.{AreShort}
use Rattle.sector_disk.specs.Machine.{Utters}
use Rattle.fsd_files.specs.Desk.{Session}
use Rattle.fsd_files.specs.Disk.{Image, in_runs}
use Rattle.fsd_files.specs.Volume.{Volume}
use Rattle.fsd_sound.specs.Sound.{EndIn}
use Rattle.fsd_texts.specs.declared.script_command.ScriptCommand.{ScriptCommand}
use Rattle.fsd_texts.specs.declared.counts.Counts.{Counts}
use Rattle.fsd_texts.specs.declared.fault.Fault.{Fault}
use Rattle.fsd_texts.specs.declared.fault.Fault.TheVariants as Ends
use Rattle.fsd_texts.specs.declared.line.Line.{Line}
use Rattle.fsd_texts.specs.declared.line.Line.TheVariants as Says
use Rattle.fsd_texts.specs.Generator.{made_up}
use Rattle.fsd_runs.specs.declared.request.Request.TheVariants.{Generate}
use Rattle.fsd_runs.specs.Errands.{Answered, ByFault, Ending, Turn, blank, cut_ending, errand_of, forced_turn, generated_line, group_ending, line_turn}
use Rattle.fsd_runs.specs.Sessions.{Meeting, session_over}
use Rattle.fsd_runs.specs.Runs.{Goes, IsWornOut, WearsOut, answered, session_behind, turns_begun, turns_of}
use Rattle.volume_contract.specs.State.{Known, forced_of, volume_of}
use Rattle.volume_turns.specs.declared.turns.Halt.{Halt}
use Rattle.volume_turns.specs.declared.turns.Halt.TheVariants.{Fault as Stopped, Output}
use Rattle.volume_turns.specs.Generate.{all_plain, silent}
use Rattle.volume_turns.specs.Group.{CutsOff, EndsGroup, IsGroup, WornIf, is_through, turns_behind}
use Rattle.volume_turns.specs.Line.{EndsLast, EndsWith, is_unsaid}
use Rattle.volume_turns.specs.Once.{IsDone}
use Rattle.volume_turns.specs.Tally.{all_counted, nothing_done}
use Rattle.volume_turns.specs.Turns.{EndsAtOnce, InRun, Said, FaultTold}
use Rattle.volume_turns.specs.Whole.{Always, RunsOut}
use Rattle.volume_turns.proofs.CountLaws.{line_is}
use Rattle.volume_turns.proofs.GroupEndLaws.{answered_cut, behind_cut, ended_as, finishes_broken, finishes_last, finishes_unsaid, goes_cut, goes_length, goes_within, turns_are}
use Rattle.volume_turns.proofs.GroupLaws.{goes_wider}

-- the run has turns to say, whatever the volume
pub some_turn : (seed count : ℕ) (input : List ℕ) (v : Volume) → IsSome (slice_get (turns_of (errand_of (Generate seed count) input v) [] (session_over v)) 0)
some_turn seed count input v = by (0 == length (all_plain (made_up seed count)))
  where
    by : (b : Bool) → IsSome (slice_get (if b then (group_ending (line_turn (generated_line []) ∷ []) 0).turns else blank ∷ []) 0)
    by true = refl
    by false = refl

module _ {D : Type 0} (M : Ghosts D) (seed count : ℕ) (input rest : List ℕ) (k : Known) (a p b : D) (honest : M.honest b) (since : Since M p b) (short : AreShort (M.now p).windows) (ends : EndIn (M.now a).windows k.windows) (at_p : IsTimed M p) (at_b : IsTimed M b) (status : ℕ) where
  abbrev commands : List ScriptCommand
  commands = all_plain (made_up seed count)

  abbrev v : Session
  v = session_over (volume_of k)

  abbrev Over : Type 0
  Over = RunsOut M (Generate seed count) input rest (M.report a) k a b status

  -- how it ends, where all were done, and where it was cut off
  abbrev ending : List Answered → Ending
  ending done = group_ending (line_turn (generated_line done) ∷ []) 0

  abbrev cut_short : List Answered → Ending
  cut_short done = cut_ending Ends.WornOut

  module _ (mets : List Meeting) where
    abbrev turns : List Turn
    turns = turns_begun silent mets v commands

    abbrev front : List Turn
    front = turns ++ forced_turn ∷ []

    abbrev MayGo : Bool → Type 0
    MayGo cut = (t : ℕ) → t ≤ M.moment a → Goes (in_runs k.windows) (M.left_since p t) (WornIf cut) silent (M.now a).said (M.now a).image v mets commands

    abbrev Leaves : Bool → Type 0
    Leaves through = (more : List Turn) → StopsOnly M a p (InRun k (forced_of k) (turns ++ turns_behind through more) (M.now a))

    on : (L : Volume → Image → Type 0) → (later : M.moment a ≤ M.moment p) → ((t : ℕ) → t ≤ M.moment a → Goes (in_runs k.windows) (M.left_since p t) L silent (M.now a).said (M.now a).image v mets commands)
        → (t : ℕ) → t ≤ M.moment a → Goes (in_runs k.windows) (M.left_since b t) L silent (M.now a).said (M.now a).image v mets commands
    on L later goes t le = goes_wider (in_runs k.windows) (M.left_since p t) (M.left_since b t) (λ c was. since t c (omega (arith, le, later)) was) L L (λ v i is. is) silent (M.now a).said (M.now a).image v mets commands (goes t le)

    -- all were done
    module _ (goes : MayGo false) (leaves : Leaves (is_through false mets commands)) where
      later : M.moment a ≤ M.moment p
      later = (leaves []).later

      known : length (answered mets v commands) ≡ length mets
      known = goes_length (in_runs k.windows) (M.left_since p 0) silent (WornIf false) (M.now a).said (M.now a).image v mets commands (goes 0 (omega arith))

      turns_all : turns_of (errand_of (Generate seed count) input (volume_of k)) mets v ≡ turns ++ turns_behind (is_through false mets commands) (line_turn (generated_line (answered mets v commands)) ∷ [])
      turns_all = turns_are silent v mets commands commands refl ending (line_turn (generated_line (answered mets v commands)) ∷ []) refl (is_through false mets commands) (ap (λ (n : ℕ). n == length commands) (sym known))

      pub all_said : IsTrue (is_through false mets commands) → IsDone M k front (session_behind mets v commands).volume a p → (line : Line) → line ≡ generated_line (answered mets v commands) → (M.report a).output_faults ≤ (M.report p).output_faults
          → LeavesDisk M false (is_unsaid status) (Utters (text line)) p b → EndsLast line 0 (M.now p) (M.now b) status → Over
      all_said through done line is counted says ended =
          let t = line_turn line in
          let split : turns ++ forced_turn ∷ t ∷ [] ≡ front ++ t ∷ [] = sym (append_assoc turns (forced_turn ∷ []) (t ∷ [])) in
          let turns_is : turns_of (errand_of (Generate seed count) input (volume_of k)) mets v ≡ front ++ t ∷ [] =
          turns_all ∙ ap (λ (x : Bool). turns ++ turns_behind x (line_turn (generated_line (answered mets v commands)) ∷ [])) through ∙ ap (λ (l : Line). turns ++ forced_turn ∷ line_turn l ∷ []) (sym is) ∙ split in
          let moments : StopsOnly M a p (InRun k (forced_of k) (front ++ t ∷ []) (M.now a)) =
          subst (λ (x : List Turn). StopsOnly M a p (InRun k (forced_of k) x (M.now a))) split (subst (λ (x : Bool). StopsOnly M a p (InRun k (forced_of k) (turns ++ turns_behind x (t ∷ [])) (M.now a))) through (leaves (t ∷ []))) in
          record {
            cut = None;
            may = tt;
            cause = tt;
            says = tt;
            rooted = tt;
            so = tt;
            finishes = finishes_last M (Generate seed count) (M.report a) k front line (session_behind mets v commands).volume 0 a p b moments done short ends at_p at_b counted status says honest (errand_of (Generate seed count) input (volume_of k)) Always (WornIf false) mets tt turns_is (on (WornIf false) later goes)
                (eqb-true (length mets) (length commands) through) refl refl ended;
          }

      pub all_broken : (why : Fault) → Said M k (forced_of k) why turns a p → EndsAtOnce why → {T : Type 0} → FaultTold {T = T} (M.report a) (M.report p) (Err (Stopped why)) → LeavesDisk M false (is_unsaid status) (Utters (fault_text why)) p b → EndsWith why (M.now p) (M.now b) status → Over
      all_broken why said once told says ended = record {
        cut = None;
        may = tt;
        cause = tt;
        says = tt;
        rooted = tt;
        so = tt;
        finishes = finishes_broken M (Generate seed count) (M.report a) k turns (is_through false mets commands) (line_turn (generated_line (answered mets v commands)) ∷ []) a p b (leaves (line_turn (generated_line (answered mets v commands)) ∷ [])) why said short ends at_p at_b once told status says honest ended
            (errand_of (Generate seed count) input (volume_of k)) Always (WornIf false) mets tt turns_all (on (WornIf false) later goes);
      }

      pub all_unsaid : {T : Type 0} → status ≡ 6 → FaultTold {T = T} (M.report a) (M.report b) (Err Output) → StopsOnly M a b (InRun k (forced_of k) (turns ++ turns_behind (is_through false mets commands) (line_turn (generated_line (answered mets v commands)) ∷ [])) (M.now a)) → Over
      all_unsaid six told moments = subst (λ (n : ℕ). RunsOut M (Generate seed count) input rest (M.report a) k a b n) (sym six) (record {
        cut = None;
        may = tt;
        cause = tt;
        says = tt;
        rooted = tt;
        so = tt;
        finishes = finishes_unsaid M (Generate seed count) (M.report a) k (turns ++ turns_behind (is_through false mets commands) (line_turn (generated_line (answered mets v commands)) ∷ [])) a b moments told (errand_of (Generate seed count) input (volume_of k)) Always (WornIf false) mets tt turns_all (on (WornIf false) later goes);
      })

    -- it was cut off
    module _ (worn : CutsOff true mets v commands) (goes : MayGo true) (leaves : Leaves true) where
      later_cut : M.moment a ≤ M.moment p
      later_cut = (leaves []).later

      abbrev done_commands : List ScriptCommand
      done_commands = take (length mets) commands

      abbrev Worn : Session → Type 0
      Worn s = WearsOut s (slice_get commands (length mets))

      worn_behind : Worn (session_behind mets v done_commands)
      worn_behind = subst Worn (sym (behind_cut mets v commands)) worn

      abbrev last_line : Turn
      last_line = line_turn (Says.Ended Ends.WornOut)

      within : length done_commands ≡ length mets
      within = goes_within (in_runs k.windows) (M.left_since p 0) silent (WornIf true) (M.now a).said (M.now a).image v mets commands (goes 0 (omega arith))

      known_cut : length (answered mets v done_commands) ≡ length done_commands
      known_cut = ap (λ (xs : List Answered). length xs) (answered_cut mets v commands) ∙ goes_length (in_runs k.windows) (M.left_since p 0) silent (WornIf true) (M.now a).said (M.now a).image v mets commands (goes 0 (omega arith)) ∙ sym within

      turns_cut : turns_of (ended_as silent done_commands cut_short) mets v ≡ turns ++ forced_turn ∷ last_line ∷ []
      turns_cut = turns_are silent v mets commands done_commands (answered_cut mets v commands) cut_short (last_line ∷ []) refl true (sym (eq-eqb (length (answered mets v done_commands)) (length done_commands) known_cut))

      went : (t : ℕ) → t ≤ M.moment a → Goes (in_runs k.windows) (M.left_since b t) (λ v i. IsWornOut v i) silent (M.now a).said (M.now a).image v mets done_commands
      went t le = goes_cut (in_runs k.windows) (M.left_since b t) silent (WornIf true) (λ v i. IsWornOut v i) (λ v i is. is) (M.now a).said (M.now a).image v mets commands (on (WornIf true) later_cut goes t le)

      pub cut_said : IsDone M k front (session_behind mets v commands).volume a p → (M.report a).output_faults ≤ (M.report p).output_faults
          → LeavesDisk M false (is_unsaid status) (Utters (fault_text Ends.WornOut)) p b → EndsLast (Says.Ended Ends.WornOut) 9 (M.now p) (M.now b) status → Over
      cut_said done counted says ended =
          let split : turns ++ forced_turn ∷ last_line ∷ [] ≡ front ++ last_line ∷ [] = sym (append_assoc turns (forced_turn ∷ []) (last_line ∷ [])) in
          record {
            cut = Some (ByFault (length mets) Ends.WornOut);
            may = tt;
            cause = tt;
            says = tt;
            rooted = tt;
            so = tt;
            finishes = finishes_last M (Generate seed count) (M.report a) k front (Says.Ended Ends.WornOut) (session_behind mets v commands).volume 9 a p b (subst (λ (x : List Turn). StopsOnly M a p (InRun k (forced_of k) x (M.now a))) split (leaves (last_line ∷ []))) done short ends at_p at_b counted status says honest
                (ended_as silent done_commands cut_short) Worn (λ v i. IsWornOut v i) mets worn_behind (turns_cut ∙ split) went (sym within) refl (ap (λ (x : Session). x.volume) (sym (behind_cut mets v commands))) ended;
          }

      pub cut_broken : (why : Fault) → Said M k (forced_of k) why turns a p → EndsAtOnce why → {T : Type 0} → FaultTold {T = T} (M.report a) (M.report p) (Err (Stopped why)) → LeavesDisk M false (is_unsaid status) (Utters (fault_text why)) p b → EndsWith why (M.now p) (M.now b) status → Over
      cut_broken why said once told says ended = record {
        cut = Some (ByFault (length mets) Ends.WornOut);
        may = tt;
        cause = tt;
        says = tt;
        rooted = tt;
        so = tt;
        finishes = finishes_broken M (Generate seed count) (M.report a) k turns true (last_line ∷ []) a p b (leaves (last_line ∷ [])) why said short ends at_p at_b once told status says honest ended (ended_as silent done_commands cut_short) Worn (λ v i. IsWornOut v i) mets worn_behind turns_cut went;
      }

      pub cut_unsaid : {T : Type 0} → status ≡ 6 → FaultTold {T = T} (M.report a) (M.report b) (Err Output) → StopsOnly M a b (InRun k (forced_of k) (turns ++ forced_turn ∷ last_line ∷ []) (M.now a)) → Over
      cut_unsaid six told moments = subst (λ (n : ℕ). RunsOut M (Generate seed count) input rest (M.report a) k a b n) (sym six) (record {
        cut = Some (ByFault (length mets) Ends.WornOut);
        may = tt;
        cause = tt;
        says = tt;
        rooted = tt;
        so = tt;
        finishes = finishes_unsaid M (Generate seed count) (M.report a) k (turns ++ forced_turn ∷ last_line ∷ []) a b moments told (ended_as silent done_commands cut_short) Worn (λ v i. IsWornOut v i) mets worn_behind turns_cut went;
      })

  -- ---- by how the group ended

  abbrev Group : Result Bool Halt → Type 0
  Group result = IsGroup M silent k (M.now a) commands a p result

  pub made_said : (tally : Counts) → (g : Group (Ok true)) → tally ≡ all_counted nothing_done (answered g.mets v commands) → (line : Line) → line ≡ Says.Generated tally → (M.report a).output_faults ≤ (M.report p).output_faults
      → LeavesDisk M false (is_unsaid status) (Utters (text line)) p b → EndsLast line 0 (M.now p) (M.now b) status → Over
  made_said tally g counts line is counted says ended = by g.cut g.goes g.moments g.ends
    where
      by : (cut : Bool) → MayGo g.mets cut → Leaves g.mets (is_through cut g.mets commands) → EndsGroup M silent k cut g.mets commands a p (Ok true) → Over
      by true goes leaves e = cc e.0
      by false goes leaves e = all_said g.mets goes leaves e.1 e.2 line (is ∙ ap (λ (t : Counts). Says.Generated t) counts ∙ line_is (answered g.mets v commands)) counted says ended

  pub made_worn : Group (Ok false) → (M.report a).output_faults ≤ (M.report p).output_faults
      → LeavesDisk M false (is_unsaid status) (Utters (fault_text Ends.WornOut)) p b → EndsLast (Says.Ended Ends.WornOut) 9 (M.now p) (M.now b) status → Over
  made_worn g counted says ended = by g.cut g.before g.goes g.moments g.ends
    where
      by : (cut : Bool) → CutsOff cut g.mets v commands → MayGo g.mets cut → Leaves g.mets (is_through cut g.mets commands) → EndsGroup M silent k cut g.mets commands a p (Ok false) → Over
      by false worn goes leaves e = cc e.0
      by true worn goes leaves e = cut_said g.mets worn goes leaves e.2 counted says ended

  pub made_broken : (why : Fault) → Group (Err (Stopped why)) → {T : Type 0} → FaultTold {T = T} (M.report a) (M.report p) (Err (Stopped why)) → LeavesDisk M false (is_unsaid status) (Utters (fault_text why)) p b → EndsWith why (M.now p) (M.now b) status → Over
  made_broken why g told says ended = by g.cut g.before g.goes g.moments g.ends
    where
      by : (cut : Bool) → CutsOff cut g.mets v commands → MayGo g.mets cut → Leaves g.mets (is_through cut g.mets commands) → EndsGroup M silent k cut g.mets commands a p (Err (Stopped why)) → Over
      by false worn goes leaves e = all_broken g.mets goes leaves why e.1 e.0 told says ended
      by true worn goes leaves e = cut_broken g.mets worn goes leaves why e.1 e.0 told says ended

-- the output has failed in the group
pub made_unsaid : {D T : Type 0} (M : Ghosts D) (seed count : ℕ) (input rest : List ℕ) (k : Known) (a b : D) → M.honest b → AreShort (M.now b).windows → EndIn (M.now a).windows k.windows → IsTimed M b → IsGroup M silent k (M.now a) (all_plain (made_up seed count)) a b (Err Output) → FaultTold {T = T} (M.report a) (M.report b) (Err Output)
    → RunsOut M (Generate seed count) input rest (M.report a) k a b 6
made_unsaid M seed count input rest k a b honest short ends at_b g told = by g.cut g.before g.goes g.moments
  where
    by : (cut : Bool) → CutsOff cut g.mets (session_over (volume_of k)) (all_plain (made_up seed count)) → ((t : ℕ) → t ≤ M.moment a → Goes (in_runs k.windows) (M.left_since b t) (WornIf cut) silent (M.now a).said (M.now a).image (session_over (volume_of k)) g.mets (all_plain (made_up seed count)))
        → ((more : List Turn) → StopsOnly M a b (InRun k (forced_of k) (turns_begun silent g.mets (session_over (volume_of k)) (all_plain (made_up seed count)) ++ turns_behind (is_through cut g.mets (all_plain (made_up seed count))) more) (M.now a))) → RunsOut M (Generate seed count) input rest (M.report a) k a b 6
    by false worn goes leaves = all_unsaid M seed count input rest k a b b honest (λ t left le was. was) short ends at_b at_b 6 g.mets goes leaves refl told (leaves (line_turn (generated_line (answered g.mets (session_over (volume_of k)) (all_plain (made_up seed count)))) ∷ []))
    by true worn goes leaves = cut_unsaid M seed count input rest k a b b honest (λ t left le was. was) short ends at_b at_b 6 g.mets worn goes leaves refl told (leaves (line_turn (Says.Ended Ends.WornOut) ∷ []))
