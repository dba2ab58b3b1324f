-- How a script that was done goes on to the last line of its run.
use Rattle.std.proofs.Common.{◌≡◌, ◌⊎◌, inl, inr, ℕ, ◌≤◌, Bool, true, false, List, [], ◌∷◌, ◌++◌, length, take, Option, Some, None, refl, sym, ◌∙◌, ap, subst, arith, append_assoc}
use Rattle.std.specs.Prelude.{◌==◌, IsTrue, Result, Ok, Err, slice_get}
use Rattle.std.proofs.lemmas.Bool.{eq-eqb, eqb-true}
use Rattle.fsd_texts.specs.Text.{fault_text, text}
use Rattle.sector_disk.specs.declared.machine.Machine.{Ghosts}
use Rattle.sector_disk.specs.Calls.{DiskFaults, IsTimed, LeavesDisk, Since, StopsOnly}
use Rattle.sector_disk.specs.Image.{AreShort}
use Rattle.sector_disk.specs.Machine.{Moment, Report, Utters}
use Rattle.fsd_files.specs.Desk.{Session}
use Rattle.fsd_files.specs.Disk.{Image, in_runs}
use Rattle.fsd_files.specs.Volume.{Volume}
use Rattle.fsd_sound.specs.Sound.{EndIn}
use Rattle.fsd_texts.specs.declared.script_command.ScriptCommand.{ScriptCommand}
use Rattle.fsd_texts.specs.declared.fault.Fault.{Fault}
use Rattle.fsd_texts.specs.declared.fault.Fault.TheVariants as Ends
use Rattle.fsd_texts.specs.declared.line.Line.{Line}
use Rattle.fsd_texts.specs.declared.line.Line.TheVariants as Says
use Rattle.fsd_runs.specs.declared.request.Request.TheVariants.{Script}
use Rattle.fsd_runs.specs.Errands.{Answered, Ending, Errand, Turn, cut_ending, forced_turn, group_ending, line_turn}
use Rattle.fsd_runs.specs.Leaves.{IsBrokenOff, IsOutside, IsUnsaid}
use Rattle.fsd_runs.specs.Sessions.{Meeting, session_over}
use Rattle.fsd_runs.specs.Runs.{Goes, IsWornOut, WearsOut, answered, session_behind, turns_begun, turns_of}
use Rattle.volume_contract.specs.State.{Known, forced_of, volume_of}
use Rattle.volume_turns.specs.declared.turns.Halt.{Halt}
use Rattle.volume_turns.specs.declared.turns.Halt.TheVariants.{Fault as Stopped, Output}
use Rattle.volume_turns.specs.Group.{CutsOff, EndsGroup, IsGroup, WornIf, is_through, turns_behind}
use Rattle.volume_turns.specs.Line.{EndsLast, EndsWith, is_unsaid}
use Rattle.volume_turns.specs.Once.{IsDone}
use Rattle.volume_turns.specs.Script.{Heard}
use Rattle.volume_turns.specs.Turns.{EndsAtOnce, InRun, Said, FaultTold, device_end}
use Rattle.volume_turns.specs.Whole.{Always, Finishes}
use Rattle.volume_turns.proofs.GroupEndLaws.{answered_cut, behind_cut, ended_as, finishes_broken, finishes_last, finishes_unsaid, goes_cut, goes_length, goes_within, turns_are}
use Rattle.volume_turns.proofs.GroupLaws.{goes_wider}

-- ---- what is counted, but for the input

-- as it was, with the faults of the input as they are since
abbrev pub but_input : Report → Report → Report
but_input old new = record { sectors = old.sectors; fault_place = old.fault_place; disk_faults = old.disk_faults; input_faults = new.input_faults; output_faults = old.output_faults }

disk_but : (a b : Report) (o : Option ℕ) → DiskFaults o a b → DiskFaults o (but_input a b) b
disk_but a b None x = x
disk_but a b (Some place) x = record { rose = x.rose; told = x.told }

pub told_but : {T : Type 0} (a b : Report) (r : Result T Halt) → Heard {T = T} a b r → FaultTold {T = T} (but_input a b) b r
told_but a b (Ok x) h = record { sectors = h.sectors; disk = disk_but a b None h.disk; input = refl; later = h.later; output = h.output }
told_but a b (Err (Stopped why)) h = record { sectors = h.sectors; disk = disk_but a b (device_end {T = Unit {0}} (Err (Stopped why))) h.disk; input = refl; later = h.later; output = h.output }
told_but a b (Err Output) h = record { sectors = h.sectors; disk = disk_but a b None h.disk; input = refl; later = h.later; output = h.output }

outside_in : (a p b : Report) (why : Fault) → IsOutside Script (but_input a p) b why → IsOutside Script a b why
outside_in a p b (Ends.Device s) o = record { rose = o.rose; told = o.told }
outside_in a p b Ends.Memory o = tt
outside_in a p b why o = absurd o

broken_in : (a p b : Report) {Over : ℕ → Image → Type 0} {Way : ℕ → Type 0} {turns : List Turn} {old new : Moment} {status : ℕ} → IsBrokenOff Script Over Way (but_input a p) b turns old new status → IsBrokenOff Script Over Way a b turns old new status
broken_in a p b x = record { why = x.why; outside = outside_in a p b x.why x.outside; ends = x.ends; says = x.says; held = x.held; undone = x.undone; unread = x.unread }

pub finishes_in : {D : Type 0} (M : Ghosts D) (e : Errand) (Ahead : Session → Type 0) (Last : Volume → Image → Type 0) (x p : Report) (k : Known) (a b : D) (status : ℕ) → Finishes M Script e Ahead Last (but_input x p) k a b status → Finishes M Script e Ahead Last x k a b status
finishes_in M e Ahead Last x p k a b status f = record { mets = f.mets; ahead = f.ahead; goes = f.goes; moments = f.moments; ends = ended f.ends }
  where
    ended : {All : Type 0} {Over : ℕ → Image → Type 0} {Way : ℕ → Type 0} {turns : List Turn} {old new : Moment} → All ⊎ (IsUnsaid (but_input x p) (M.report b) status ⊎ IsBrokenOff Script Over Way (but_input x p) (M.report b) turns old new status) → All ⊎ (IsUnsaid x (M.report b) status ⊎ IsBrokenOff Script Over Way x (M.report b) turns old new status)
    ended (inl out) = inl out
    ended (inr (inl u)) = inr (inl (record { ends = u.ends; rose = u.rose }))
    ended (inr (inr y)) = inr (inr (broken_in x p (M.report b) y))

-- ---- a group, and how its errand ends

-- The errand was cut off by a mount that is worn out, behind so many commands.
pub record WornOff {D : Type 0} (M : Ghosts D) (e : Errand) (commands : List ScriptCommand) (before : Report) (k : Known) (a b : D) (status : ℕ) : Type 0 where
  pub count : ℕ
  pub finishes : Finishes M Script (ended_as e (take count commands) (λ done. cut_ending Ends.WornOut)) (λ s. WearsOut s (slice_get commands count)) (λ v i. IsWornOut v i) before k a b status

module _ {D : Type 0} (M : Ghosts D) (before : Report) (k : Known) (a p b : D) (honest : M.honest b) (since : Since M p b) (short : AreShort (M.now p).windows) (ends : EndIn (M.now a).windows k.windows) (at_p : IsTimed M p) (at_b : IsTimed M b) (status : ℕ) (e : Errand) (commands : List ScriptCommand) where
  abbrev v : Session
  v = session_over (volume_of k)

  module _ (mets : List Meeting) where
    abbrev turns : List Turn
    turns = turns_begun e mets v commands

    abbrev front : List Turn
    front = turns ++ forced_turn ∷ []

    abbrev MayGo : Bool → Type 0
    MayGo cut = (t : ℕ) → t ≤ M.moment a → Goes (in_runs k.windows) (M.left_since p t) (WornIf cut) e (M.now a).said (M.now a).image v mets commands

    abbrev Leaves : Bool → Type 0
    Leaves through = (more : List Turn) → StopsOnly M a p (InRun k (forced_of k) (turns ++ turns_behind through more) (M.now a))

    on : (L : Volume → Image → Type 0) → (later : M.moment a ≤ M.moment p) → ((t : ℕ) → t ≤ M.moment a → Goes (in_runs k.windows) (M.left_since p t) L e (M.now a).said (M.now a).image v mets commands)
        → (t : ℕ) → t ≤ M.moment a → Goes (in_runs k.windows) (M.left_since b t) L e (M.now a).said (M.now a).image v mets commands
    on L later goes t le = goes_wider (in_runs k.windows) (M.left_since p t) (M.left_since b t) (λ c was. since t c (omega (arith, le, later)) was) L L (λ v i is. is) e (M.now a).said (M.now a).image v mets commands (goes t le)

    -- all were done
    module _ (ending : List Answered → Ending) (more : List Turn) (is : (ending (answered mets v commands)).turns ≡ forced_turn ∷ more) (goes : MayGo false) (leaves : Leaves (is_through false mets commands)) where
      abbrev all_errand : Errand
      all_errand = ended_as e commands ending

      later : M.moment a ≤ M.moment p
      later = (leaves []).later

      known : length (answered mets v commands) ≡ length mets
      known = goes_length (in_runs k.windows) (M.left_since p 0) e (WornIf false) (M.now a).said (M.now a).image v mets commands (goes 0 (omega arith))

      turns_all : turns_of all_errand mets v ≡ turns ++ turns_behind (is_through false mets commands) more
      turns_all = turns_are e v mets commands commands refl ending more is (is_through false mets commands) (ap (λ (n : ℕ). n == length commands) (sym known))

      pub all_said : IsTrue (is_through false mets commands) → IsDone M k front (session_behind mets v commands).volume a p → (line : Line) → more ≡ line_turn line ∷ [] → (gives : ℕ) → gives ≡ (ending (answered mets v commands)).status → before.output_faults ≤ (M.report p).output_faults
          → LeavesDisk M false (is_unsaid status) (Utters (text line)) p b → EndsLast line gives (M.now p) (M.now b) status → Finishes M Script all_errand Always (WornIf false) before k a b status
      all_said through done line one gives same counted says ended =
          let t = line_turn line in
          let split : turns ++ forced_turn ∷ t ∷ [] ≡ front ++ t ∷ [] = sym (append_assoc turns (forced_turn ∷ []) (t ∷ [])) in
          let turns_is : turns_of all_errand mets v ≡ front ++ t ∷ [] =
          turns_all ∙ ap (λ (x : Bool). turns ++ turns_behind x more) through ∙ ap (λ (x : List Turn). turns ++ forced_turn ∷ x) one ∙ split in
          let moments : StopsOnly M a p (InRun k (forced_of k) (front ++ t ∷ []) (M.now a)) =
          subst (λ (x : List Turn). StopsOnly M a p (InRun k (forced_of k) x (M.now a))) split (subst (λ (x : Bool). StopsOnly M a p (InRun k (forced_of k) (turns ++ turns_behind x (t ∷ [])) (M.now a))) through (leaves (t ∷ []))) in
          finishes_last M Script before k front line (session_behind mets v commands).volume gives a p b moments done short ends at_p at_b counted status says honest all_errand Always (WornIf false) mets tt turns_is (on (WornIf false) later goes)
          (eqb-true (length mets) (length commands) through) same refl ended

      pub all_broken : (why : Fault) → Said M k (forced_of k) why turns a p → EndsAtOnce why → {T : Type 0} → FaultTold {T = T} before (M.report p) (Err (Stopped why)) → LeavesDisk M false (is_unsaid status) (Utters (fault_text why)) p b → EndsWith why (M.now p) (M.now b) status
          → Finishes M Script all_errand Always (WornIf false) before k a b status
      all_broken why said once told says ended =
          finishes_broken M Script before k turns (is_through false mets commands) more a p b (leaves more) why said short ends at_p at_b once told status says honest ended all_errand Always (WornIf false) mets tt turns_all (on (WornIf false) later goes)

      pub all_unsaid : {T : Type 0} → status ≡ 6 → FaultTold {T = T} before (M.report b) (Err Output) → StopsOnly M a b (InRun k (forced_of k) (turns ++ turns_behind (is_through false mets commands) more) (M.now a)) → Finishes M Script all_errand Always (WornIf false) before k a b status
      all_unsaid six told moments = subst (λ (n : ℕ). Finishes M Script all_errand Always (WornIf false) before k a b n) (sym six)
          (finishes_unsaid M Script before k (turns ++ turns_behind (is_through false mets commands) more) a b moments told all_errand Always (WornIf false) mets tt turns_all (on (WornIf false) later goes))

      -- and nothing is said behind the force
      pub all_quiet : more ≡ [] → IsTrue (is_through false mets commands) → status ≡ (ending (answered mets v commands)).status → StopsOnly M a b (InRun k (forced_of k) (turns ++ turns_behind (is_through false mets commands) []) (M.now a))
          → IsDone M k front (session_behind mets v commands).volume a b → Finishes M Script all_errand Always (WornIf false) before k a b status
      all_quiet none through gives moments done =
          let turns_none : turns_of all_errand mets v ≡ turns ++ turns_behind (is_through false mets commands) [] = turns_all ∙ ap (λ (x : List Turn). turns ++ turns_behind (is_through false mets commands) x) none in
          let turns_is : turns_of all_errand mets v ≡ front = turns_none ∙ ap (λ (x : Bool). turns ++ turns_behind x []) through in
          record {
            mets = mets;
            ahead = tt;
            goes = on (WornIf false) later goes;
            moments = subst (λ (x : List Turn). StopsOnly M a b (InRun k (forced_of k) x (M.now a))) (sym turns_none) moments;
            ends = inl (record {
              through = eqb-true (length mets) (length commands) through;
              gives = gives;
              done = subst (λ (x : List Turn). IsDone M k x (session_behind mets v commands).volume a b) (sym turns_is) done;
            });
          }

    -- it was cut off
    module _ (worn : CutsOff true mets v commands) (goes : MayGo true) (leaves : Leaves true) where
      later_cut : M.moment a ≤ M.moment p
      later_cut = (leaves []).later

      abbrev done_commands : List ScriptCommand
      done_commands = take (length mets) commands

      abbrev Worn : Session → Type 0
      Worn s = WearsOut s (slice_get commands (length mets))

      worn_behind : Worn (session_behind mets v done_commands)
      worn_behind = subst Worn (sym (behind_cut mets v commands)) worn

      abbrev cut_short : List Answered → Ending
      cut_short done = cut_ending Ends.WornOut

      abbrev last_turn : Turn
      last_turn = line_turn (Says.Ended Ends.WornOut)

      within : length done_commands ≡ length mets
      within = goes_within (in_runs k.windows) (M.left_since p 0) e (WornIf true) (M.now a).said (M.now a).image v mets commands (goes 0 (omega arith))

      known_cut : length (answered mets v done_commands) ≡ length done_commands
      known_cut = ap (λ (xs : List Answered). length xs) (answered_cut mets v commands) ∙ goes_length (in_runs k.windows) (M.left_since p 0) e (WornIf true) (M.now a).said (M.now a).image v mets commands (goes 0 (omega arith)) ∙ sym within

      turns_cut : turns_of (ended_as e done_commands cut_short) mets v ≡ turns ++ forced_turn ∷ last_turn ∷ []
      turns_cut = turns_are e v mets commands done_commands (answered_cut mets v commands) cut_short (last_turn ∷ []) refl true (sym (eq-eqb (length (answered mets v done_commands)) (length done_commands) known_cut))

      went : (t : ℕ) → t ≤ M.moment a → Goes (in_runs k.windows) (M.left_since b t) (λ v i. IsWornOut v i) e (M.now a).said (M.now a).image v mets done_commands
      went t le = goes_cut (in_runs k.windows) (M.left_since b t) e (WornIf true) (λ v i. IsWornOut v i) (λ v i is. is) (M.now a).said (M.now a).image v mets commands (on (WornIf true) later_cut goes t le)

      pub cut_said : IsDone M k front (session_behind mets v commands).volume a p → before.output_faults ≤ (M.report p).output_faults
          → LeavesDisk M false (is_unsaid status) (Utters (fault_text Ends.WornOut)) p b → EndsLast (Says.Ended Ends.WornOut) 9 (M.now p) (M.now b) status → WornOff M e commands before k a b status
      cut_said done counted says ended =
          let split : turns ++ forced_turn ∷ last_turn ∷ [] ≡ front ++ last_turn ∷ [] = sym (append_assoc turns (forced_turn ∷ []) (last_turn ∷ [])) in
          record {
            count = length mets;
            finishes = finishes_last M Script before k front (Says.Ended Ends.WornOut) (session_behind mets v commands).volume 9 a p b (subst (λ (x : List Turn). StopsOnly M a p (InRun k (forced_of k) x (M.now a))) split (leaves (last_turn ∷ []))) done short ends at_p at_b counted status says honest
                (ended_as e done_commands cut_short) Worn (λ v i. IsWornOut v i) mets worn_behind (turns_cut ∙ split) went (sym within) refl (ap (λ (x : Session). x.volume) (sym (behind_cut mets v commands))) ended;
          }

      pub cut_broken : (why : Fault) → Said M k (forced_of k) why turns a p → EndsAtOnce why → {T : Type 0} → FaultTold {T = T} before (M.report p) (Err (Stopped why)) → LeavesDisk M false (is_unsaid status) (Utters (fault_text why)) p b → EndsWith why (M.now p) (M.now b) status → WornOff M e commands before k a b status
      cut_broken why said once told says ended = record {
        count = length mets;
        finishes = finishes_broken M Script before k turns true (last_turn ∷ []) a p b (leaves (last_turn ∷ [])) why said short ends at_p at_b once told status says honest ended (ended_as e done_commands cut_short) Worn (λ v i. IsWornOut v i) mets worn_behind turns_cut went;
      }

      pub cut_unsaid : {T : Type 0} → status ≡ 6 → FaultTold {T = T} before (M.report b) (Err Output) → StopsOnly M a b (InRun k (forced_of k) (turns ++ forced_turn ∷ last_turn ∷ []) (M.now a)) → WornOff M e commands before k a b status
      cut_unsaid six told moments = subst (λ (n : ℕ). WornOff M e commands before k a b n) (sym six) (record {
        count = length mets;
        finishes = finishes_unsaid M Script before k (turns ++ forced_turn ∷ last_turn ∷ []) a b moments told (ended_as e done_commands cut_short) Worn (λ v i. IsWornOut v i) mets worn_behind turns_cut went;
      })

-- ---- by how the group ended

module _ {D : Type 0} (M : Ghosts D) (before : Report) (k : Known) (a p b : D) (honest : M.honest b) (since : Since M p b) (short : AreShort (M.now p).windows) (ends : EndIn (M.now a).windows k.windows) (at_p : IsTimed M p) (at_b : IsTimed M b) (status : ℕ) (e : Errand) (commands : List ScriptCommand) where
  abbrev Group : Result Bool Halt → Type 0
  Group result = IsGroup M e k (M.now a) commands a p result

  -- the errand ends so, whatever is answered
  abbrev ended_in : List Turn → ℕ → Errand
  ended_in more gives = ended_as e commands (λ done. group_ending more gives)

  pub group_said : Group (Ok true) → (line : Line) (gives : ℕ) → before.output_faults ≤ (M.report p).output_faults → LeavesDisk M false (is_unsaid status) (Utters (text line)) p b → EndsLast line gives (M.now p) (M.now b) status
      → Finishes M Script (ended_in (line_turn line ∷ []) gives) Always (WornIf false) before k a b status
  group_said g line gives counted says ended = by g.cut g.goes g.moments g.ends
    where
      by : (cut : Bool) → MayGo M before k a p b honest since short ends at_p at_b status e commands g.mets cut → Leaves M before k a p b honest since short ends at_p at_b status e commands g.mets (is_through cut g.mets commands) → EndsGroup M e k cut g.mets commands a p (Ok true)
          → Finishes M Script (ended_in (line_turn line ∷ []) gives) Always (WornIf false) before k a b status
      by true goes leaves x = cc x.0
      by false goes leaves x = all_said M before k a p b honest since short ends at_p at_b status e commands g.mets (λ done. group_ending (line_turn line ∷ []) gives) (line_turn line ∷ []) refl goes leaves x.1 x.2 line refl gives refl counted says ended

  pub group_worn_said : Group (Ok false) → before.output_faults ≤ (M.report p).output_faults → LeavesDisk M false (is_unsaid status) (Utters (fault_text Ends.WornOut)) p b → EndsLast (Says.Ended Ends.WornOut) 9 (M.now p) (M.now b) status
      → WornOff M e commands before k a b status
  group_worn_said g counted says ended = by g.cut g.before g.goes g.moments g.ends
    where
      by : (cut : Bool) → CutsOff cut g.mets (session_over (volume_of k)) commands → MayGo M before k a p b honest since short ends at_p at_b status e commands g.mets cut → Leaves M before k a p b honest since short ends at_p at_b status e commands g.mets (is_through cut g.mets commands) → EndsGroup M e k cut g.mets commands a p (Ok false)
          → WornOff M e commands before k a b status
      by false worn goes leaves x = cc x.0
      by true worn goes leaves x = cut_said M before k a p b honest since short ends at_p at_b status e commands g.mets worn goes leaves x.2 counted says ended

  abbrev Over : List Turn → ℕ → Type 0
  Over more gives = Finishes M Script (ended_in more gives) Always (WornIf false) before k a b status ⊎ WornOff M e commands before k a b status

  module _ (more : List Turn) (gives : ℕ) where
    pub group_fault : (why : Fault) → (g : Group (Err (Stopped why))) → {T : Type 0} → FaultTold {T = T} before (M.report p) (Err (Stopped why)) → LeavesDisk M false (is_unsaid status) (Utters (fault_text why)) p b → EndsWith why (M.now p) (M.now b) status → Over more gives
    group_fault why g told says ended = by g.cut g.before g.goes g.moments g.ends
      where
        by : (cut : Bool) → CutsOff cut g.mets (session_over (volume_of k)) commands → MayGo M before k a p b honest since short ends at_p at_b status e commands g.mets cut → Leaves M before k a p b honest since short ends at_p at_b status e commands g.mets (is_through cut g.mets commands) → EndsGroup M e k cut g.mets commands a p (Err (Stopped why)) → Over more gives
        by false worn goes leaves x = inl (all_broken M before k a p b honest since short ends at_p at_b status e commands g.mets (λ done. group_ending more gives) more refl goes leaves why x.1 x.0 told says ended)
        by true worn goes leaves x = inr (cut_broken M before k a p b honest since short ends at_p at_b status e commands g.mets worn goes leaves why x.1 x.0 told says ended)

    -- it was not cut off
    pub group_fault_all : (why : Fault) → (g : Group (Err (Stopped why))) → g.cut ≡ false → {T : Type 0} → FaultTold {T = T} before (M.report p) (Err (Stopped why)) → LeavesDisk M false (is_unsaid status) (Utters (fault_text why)) p b → EndsWith why (M.now p) (M.now b) status
        → Finishes M Script (ended_in more gives) Always (WornIf false) before k a b status
    group_fault_all why g uncut told says ended = by g.cut uncut g.goes g.moments g.ends
      where
        by : (cut : Bool) → cut ≡ false → MayGo M before k a p b honest since short ends at_p at_b status e commands g.mets cut → Leaves M before k a p b honest since short ends at_p at_b status e commands g.mets (is_through cut g.mets commands) → EndsGroup M e k cut g.mets commands a p (Err (Stopped why))
            → Finishes M Script (ended_in more gives) Always (WornIf false) before k a b status
        by true is goes leaves x = cc is
        by false is goes leaves x = all_broken M before k a p b honest since short ends at_p at_b status e commands g.mets (λ done. group_ending more gives) more refl goes leaves why x.1 x.0 told says ended

-- and nothing follows the group
module _ {D : Type 0} (M : Ghosts D) (before : Report) (k : Known) (a b : D) (honest : M.honest b) (short : AreShort (M.now b).windows) (ends : EndIn (M.now a).windows k.windows) (at_b : IsTimed M b) (e : Errand) (commands : List ScriptCommand) where
  still : Since M b b
  still t left le was = was

  pub group_quiet : IsGroup M e k (M.now a) commands a b (Ok true) → Finishes M Script (ended_as e commands (λ done. group_ending [] 0)) Always (WornIf false) before k a b 0
  group_quiet g = by g.cut g.goes g.moments g.ends
    where
      by : (cut : Bool) → MayGo M before k a b b honest still short ends at_b at_b 0 e commands g.mets cut → Leaves M before k a b b honest still short ends at_b at_b 0 e commands g.mets (is_through cut g.mets commands) → EndsGroup M e k cut g.mets commands a b (Ok true)
          → Finishes M Script (ended_as e commands (λ done. group_ending [] 0)) Always (WornIf false) before k a b 0
      by true goes leaves x = cc x.0
      by false goes leaves x = all_quiet M before k a b b honest still short ends at_b at_b 0 e commands g.mets (λ done. group_ending [] 0) [] refl goes leaves refl x.1 refl (leaves []) x.2

  module _ (more : List Turn) (gives : ℕ) {T : Type 0} (told : FaultTold {T = T} before (M.report b) (Err Output)) where
    pub group_unsaid : IsGroup M e k (M.now a) commands a b (Err Output) → Finishes M Script (ended_as e commands (λ done. group_ending more gives)) Always (WornIf false) before k a b 6 ⊎ WornOff M e commands before k a b 6
    group_unsaid g = by g.cut g.before g.goes g.moments
      where
        by : (cut : Bool) → CutsOff cut g.mets (session_over (volume_of k)) commands → MayGo M before k a b b honest still short ends at_b at_b 6 e commands g.mets cut → Leaves M before k a b b honest still short ends at_b at_b 6 e commands g.mets (is_through cut g.mets commands)
            → Finishes M Script (ended_as e commands (λ done. group_ending more gives)) Always (WornIf false) before k a b 6 ⊎ WornOff M e commands before k a b 6
        by false worn goes leaves = inl (all_unsaid M before k a b b honest still short ends at_b at_b 6 e commands g.mets (λ done. group_ending more gives) more refl goes leaves refl told (leaves more))
        by true worn goes leaves = inr (cut_unsaid M before k a b b honest still short ends at_b at_b 6 e commands g.mets worn goes leaves refl told (leaves (line_turn (Says.Ended Ends.WornOut) ∷ [])))

    pub group_unsaid_all : (g : IsGroup M e k (M.now a) commands a b (Err Output)) → g.cut ≡ false → Finishes M Script (ended_as e commands (λ done. group_ending more gives)) Always (WornIf false) before k a b 6
    group_unsaid_all g uncut = by g.cut uncut g.goes g.moments
      where
        by : (cut : Bool) → cut ≡ false → MayGo M before k a b b honest still short ends at_b at_b 6 e commands g.mets cut → Leaves M before k a b b honest still short ends at_b at_b 6 e commands g.mets (is_through cut g.mets commands) → Finishes M Script (ended_as e commands (λ done. group_ending more gives)) Always (WornIf false) before k a b 6
        by true is goes leaves = cc is
        by false is goes leaves = all_unsaid M before k a b b honest still short ends at_b at_b 6 e commands g.mets (λ done. group_ending more gives) more refl goes leaves refl told (leaves more)
