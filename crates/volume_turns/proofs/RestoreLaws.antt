-- A restore over a mounted volume, up to its last line.
use Rattle.std.proofs.Common.{◌≡◌, ℕ, ◌≤◌, Bool, true, false, List, [], ◌∷◌, ◌++◌, length, map, take, Option, Some, None, refl, sym, ◌∙◌, ap, subst, arith}
use Rattle.std.specs.Prelude.{◌==◌, if◌then◌else◌, IfOk, Result, Ok, Err}
use Rattle.std.proofs.lemmas.Bool.{eq-eqb}
use Rattle.std.proofs.lemmas.List.{length-map}
use Rattle.fsd_log.specs.Scan.{Placed}
use Rattle.volume_layout.specs.declared.layout.Layout.{Layout}
use Rattle.sector_disk.specs.declared.machine.Machine.{Ghosts}
use Rattle.sector_disk.specs.Calls.{IsTimed, Since, StopsOnly}
use Rattle.fsd_bytes.specs.declared.refusal.Refusal.{Refusal}
use Rattle.fsd_files.specs.Desk.{Session, no_clients}
use Rattle.fsd_files.specs.Disk.{Image, in_runs}
use Rattle.fsd_sound.specs.Mounted.{Mounted}
use Rattle.fsd_texts.specs.declared.fault.Fault.{Fault}
use Rattle.fsd_texts.specs.declared.fault.Fault.TheVariants as Ends
use Rattle.fsd_texts.specs.declared.line.Line.{Line}
use Rattle.fsd_texts.specs.declared.line.Line.TheVariants as Says
use Rattle.fsd_texts.specs.declared.script_command.ScriptCommand.{ScriptCommand}
use Rattle.fsd_texts.specs.Text.{text}
use Rattle.fsd_dumps.specs.Dump.{Dumped}
use Rattle.fsd_runs.specs.Errands.{Answered, Ending, Errand, Turn, blank, first_refusal, forced_line, load_of, restored_unless, restoring, refusing}
use Rattle.fsd_runs.specs.Runs.{Goes, RefusesLast, answered, session_behind, turns_begun, turns_of}
use Rattle.fsd_runs.specs.Sessions.{Meeting, session_over}
use Rattle.client_desk.specs.Clients.{no_desk}
use Rattle.client_desk.specs.declared.client.Client.{Client}
use Rattle.scrub.specs.Telling.{AreOfPage}
use Rattle.volume_contract.specs.State.{IsNew, Known, State, forced_of, is_worn, volume_of}
use Rattle.fsd_runs.proofs.RunLaws.{answered_none}
use Rattle.volume_turns.specs.declared.turns.Halt.{Halt}
use Rattle.volume_turns.specs.declared.turns.Halt.TheVariants.{Fault as Stopped, Output}
use Rattle.volume_turns.specs.Generate.{silent}
use Rattle.volume_turns.specs.Group.{closing_turn}
use Rattle.volume_turns.specs.Loading.{NoneRefused, RanSo, RefusedFor}
use Rattle.volume_turns.specs.Once.{Anything, ClosesAndSays, EndsClosed, IsDone, unit_of}
use Rattle.volume_turns.specs.Restore.{EndsErrand, IsEnded, IsRestored}
use Rattle.volume_turns.specs.Seats.{Seated, SitsAt, known_of, seated}
use Rattle.volume_turns.specs.Steps.{IsToldOn}
use Rattle.volume_turns.specs.Turns.{Behind, EndsAtOnce, EndsBy, InRun, IsEndOn, OnDisk, RunsFrom, Said}
use Rattle.volume_turns.specs.Whole.{Halted}
use Rattle.volume_turns.proofs.GroupEndLaws.{ended_as, goes_length}
use Rattle.volume_turns.proofs.GroupLaws.{closing_done, closing_moments, closing_unsaid, goes_wider}
use Rattle.volume_turns.proofs.HaltLaws.{said_halts}
use Rattle.volume_turns.proofs.NumberLaws.{new_may, worn_may}

-- ---- the line that is said once all is forced

pub told_end : (l : Layout) (i : Image) (end : Halt) → ((why : Fault) → end ≡ Stopped why → IsToldOn AreOfPage l i why) → IsEndOn AreOfPage l i end
told_end l i (Stopped why) told = told why refl
told_end l i Output told = tt

-- ---- commands with nothing said, and the end of their errand

-- the turns of the end follow where all commands were begun
abbrev ending_turns : Bool → Ending → List Turn
ending_turns through e = if through then e.turns else blank ∷ []

module _ (commands : List ScriptCommand) (ends : List Answered → Ending) (line_of : List Answered → Line) (closes : (done : List Answered) → (ends done).turns ≡ closing_turn (text (line_of done)) ∷ []) where
  abbrev e : Errand
  e = ended_as silent commands ends

  module _ {S D : Type 0} (state : S → State) (has : S → Mounted → List Placed → Type 0) (M : Ghosts D) (k : Known) (a m : D) (w : S × List Client) (at_m : M.moment a ≤ M.moment m) where
    abbrev s : Session
    s = session_over (volume_of k)

    module _ (result : Result (Unit {0}) Halt) (ran : RunsFrom state has M silent (seated k no_clients) (forced_of k) (M.now a) commands a m w result) where
      abbrev done : List Answered
      done = answered ran.mets s commands

      abbrev turns : List Turn
      turns = turns_begun silent ran.mets s commands

      known : length done ≡ length ran.mets
      known = goes_length (in_runs k.windows) (M.left_since m 0) silent (Behind result) (M.now a).said (M.now a).image s ran.mets commands (ran.goes 0 (omega arith))

      turns_are : (through : Bool) → through ≡ (length done == length commands) → turns_of e ran.mets s ≡ turns ++ ending_turns through (ends done)
      turns_are through is = ap (λ (b : Bool). turns ++ ending_turns b (ends done)) (sym is)

      goes_on : (b : D) → Since M m b → (t : ℕ) → t ≤ M.moment a → Goes (in_runs k.windows) (M.left_since b t) Anything e (M.now a).said (M.now a).image s ran.mets commands
      goes_on b since t le = goes_wider (in_runs k.windows) (M.left_since m t) (M.left_since b t) (λ c was. since t c (omega (arith, le, at_m)) was) (Behind result) Anything (λ v i is. tt) silent (M.now a).said (M.now a).image s ran.mets commands (ran.goes t le)

    -- all were done, and the line is said once all is forced
    module _ (ran : RunsFrom state has M silent (seated k no_clients) (forced_of k) (M.now a) commands a m w (Ok tt)) (b : D) (since : Since M m b) (timed : IsTimed M b) (line : Line) (gives : ℕ)
        (line_is : line_of (answered ran.mets (session_over (volume_of k)) commands) ≡ line) (gives_is : (ends (answered ran.mets (session_over (volume_of k)) commands)).status ≡ gives)
        (result : Result ℕ Halt) (same : IfOk result (λ status. status ≡ gives)) (says : (x : Seated) (f : ℕ) → SitsAt state has w x (M.now m) → OnDisk M (known_of x) f m → ClosesAndSays M (known_of x) f (text line) m b (unit_of result)) where
      abbrev front : List Turn
      front = turns_begun silent ran.mets s commands

      abbrev t : Turn
      t = closing_turn (text line)

      turns_is : turns_of e ran.mets s ≡ front ++ t ∷ []
      turns_is = turns_are (Ok tt) ran true (sym (eq-eqb (length (done (Ok tt) ran)) (length commands) (known (Ok tt) ran ∙ ran.ends.0)))
          ∙ ap (λ (x : List Turn). front ++ x) (closes (done (Ok tt) ran)) ∙ ap (λ (x : Line). front ++ closing_turn (text x) ∷ []) line_is

      said : ClosesAndSays M (known_of ran.ends.1.after) ran.ends.1.told (text line) m b (unit_of result)
      said = says ran.ends.1.after ran.ends.1.told ran.ends.1.stands ran.ends.1.held

      ends_by : (r : Result ℕ Halt) → IfOk r (λ status. status ≡ gives) → EndsClosed M (known_of ran.ends.1.after) ran.ends.1.told (text line) m b (unit_of r) → EndsErrand M e k ran.mets a b r
      ends_by (Ok status) is c = record {
        through = ran.ends.0;
        gives = is ∙ sym gives_is;
        done = subst (λ (ts : List Turn). IsDone M k ts (session_behind ran.mets s commands).volume a b) (sym turns_is) (closing_done state has M silent k (M.now a) commands a m b w since at_m timed (Ok tt) ran ran.ends.1 (text line) c);
      }
      ends_by (Err (Stopped why)) is c = (
        c.0,
        subst (λ (ts : List Turn). Halted M k why ts a b) (sym turns_is) (said_halts M k why c.0 front t [] refl a b (closing_unsaid state has M silent k (M.now a) commands a m b w since at_m timed (Ok tt) ran ran.ends.1 (text line) why c.1)),
      )
      ends_by (Err Output) is c = tt

      pub ended_last : IsEnded M e k a b result
      ended_last = record {
        mets = ran.mets;
        goes = goes_on (Ok tt) ran b since;
        moments = subst (λ (ts : List Turn). StopsOnly M a b (InRun k (forced_of k) ts (M.now a))) (sym turns_is) (closing_moments state has M silent k (M.now a) commands a m b w since at_m timed (Ok tt) ran ran.ends.1 (text line) said.moments []);
        ends = ends_by result same said.ends;
      }

      pub ended_last_mets : ended_last.mets ≡ ran.mets
      unfolding ended_last
      ended_last_mets = refl

    -- a fault has ended them
    module _ (end : Halt) (other : end ≡ Stopped Ends.WornOut → ⊥) (ran : RunsFrom state has M silent (seated k no_clients) (forced_of k) (M.now a) commands a m w (Err end)) where
      halted_by : (why : Fault) → EndsAtOnce why → Said M k (forced_of k) why (turns_begun silent ran.mets s commands) a m → (through : Bool) → through ≡ (length (done (Err end) ran) == length commands) → Halted M k why (turns_of e ran.mets s) a m
      halted_by why once x true is = subst (λ (ts : List Turn). Halted M k why ts a m) (sym (turns_are (Err end) ran true is ∙ ap (λ (ts : List Turn). turns_begun silent ran.mets s commands ++ ts) (closes (done (Err end) ran))))
          (said_halts M k why once (turns_begun silent ran.mets s commands) (closing_turn (text (line_of (done (Err end) ran)))) [] refl a m x)
      halted_by why once x false is = subst (λ (ts : List Turn). Halted M k why ts a m) (sym (turns_are (Err end) ran false is)) (said_halts M k why once (turns_begun silent ran.mets s commands) blank [] refl a m x)

      stops_by : (h : Halt) → (h ≡ Stopped Ends.WornOut → ⊥) → EndsBy state has M silent (seated k no_clients) (forced_of k) ran.mets commands w a m (Err h) → EndsErrand M e k ran.mets a m (Err h)
      stops_by (Stopped Ends.WornOut) never x = absurd (never refl)
      stops_by Output never x = tt
      stops_by (Stopped why) never x = (x.0, halted_by why x.0 x.1 (length (done (Err end) ran) == length commands) refl)

      pub ended_stop : IsEnded M e k a m (Err end)
      ended_stop = record {
        mets = ran.mets;
        goes = goes_on (Err end) ran m (λ t left le was. was);
        moments = subst (λ (ts : List Turn). StopsOnly M a m (InRun k (forced_of k) ts (M.now a))) (sym (turns_are (Err end) ran (length (done (Err end) ran) == length commands) refl)) (ran.moments (ending_turns (length (done (Err end) ran) == length commands) (ends (done (Err end) ran))));
        ends = stops_by end other ran.ends;
      }

      pub ended_stop_mets : ended_stop.mets ≡ ran.mets
      unfolding ended_stop
      ended_stop_mets = refl

-- ---- a restore

abbrev end_line : Option Refusal → (count : ℕ) → Line
end_line (Some why) count = Says.Refused why
end_line None count = Says.Restored count

abbrev said_end : List Answered → Line
said_end done = end_line (first_refusal done) (length done)

abbrev end_of : List Answered → Ending
end_of done = restored_unless (first_refusal done) (length done)

closes_so : (done : List Answered) → (end_of done).turns ≡ closing_turn (text (said_end done)) ∷ []
closes_so done = by (first_refusal done)
  where
    by : (o : Option Refusal) → (restored_unless o (length done)).turns ≡ closing_turn (text (end_line o (length done))) ∷ []
    by None = refl
    by (Some why) = refl

module _ {S D : Type 0} (state : S → State) (has : S → Mounted → List Placed → Type 0) (M : Ghosts D) (k : Known) (a m : D) (w : S) (later : M.moment a ≤ M.moment m) where
  abbrev Ran : List ScriptCommand → Result (Unit {0}) Halt → (List Answered → Type 0) → Type 0
  Ran commands result So = RanSo state has M (seated k no_clients) (forced_of k) (M.now a) commands a m w result So

  abbrev here : Session
  here = session_over (volume_of k)

  module _ (b : D) (since : Since M m b) (timed : IsTimed M b) (result : Result ℕ Halt) where
    abbrev Closing : Line → Type 0
    Closing line = (x : Seated) (f : ℕ) → SitsAt state has (w, no_desk) x (M.now m) → OnDisk M (known_of x) f m → ClosesAndSays M (known_of x) f (text line) m b (unit_of result)

    -- all are made again
    pub restored_all : (items : List Dumped) → Ran (map load_of items) (Ok tt) NoneRefused → IfOk result (λ status. status ≡ 0) → Closing (Says.Restored (length items)) → IsRestored M (restoring items) k a b result
    restored_all items x same says =
        let commands = map load_of items in
        let all : List Answered = answered x.ran.mets here commands in
        let long : length all ≡ length items = known commands end_of said_end closes_so state has M k a m (w, no_desk) later (Ok tt) x.ran ∙ x.ran.ends.0 ∙ length-map items load_of in
        let line_is : said_end all ≡ Says.Restored (length items) = ap (λ (o : Option Refusal). end_line o (length all)) x.so ∙ ap (λ (n : ℕ). Says.Restored n) long in
        let gives_is : (end_of all).status ≡ 0 = ap (λ (o : Option Refusal). (restored_unless o (length all)).status) x.so in
        record {
          refused = None;
          ended = ended_last commands end_of said_end closes_so state has M k a m (w, no_desk) later x.ran b since timed (Says.Restored (length items)) 0 line_is gives_is result same says;
          so = subst (λ (mets : List Meeting). NoneRefused (answered mets here commands)) (sym (ended_last_mets commands end_of said_end closes_so state has M k a m (w, no_desk) later x.ran b since timed (Says.Restored (length items)) 0 line_is gives_is result same says)) x.so;
        }

    -- one of them was refused
    pub restored_up_to : (items : List Dumped) (count : ℕ) (why : Refusal) → Ran (take count (map load_of items)) (Ok tt) (RefusedFor count why) → IfOk result (λ status. status ≡ 1) → Closing (Says.Refused why) → IsRestored M (restoring items) k a b result
    restored_up_to items count why x same says =
        let commands = take count (map load_of items) in
        let all : List Answered = answered x.ran.mets here commands in
        let line_is : said_end all ≡ Says.Refused why = ap (λ (o : Option Refusal). end_line o (length all)) x.so.1 in
        let gives_is : (end_of all).status ≡ 1 = ap (λ (o : Option Refusal). (restored_unless o (length all)).status) x.so.1 in
        record {
          refused = Some count;
          ended = ended_last commands end_of said_end closes_so state has M k a m (w, no_desk) later x.ran b since timed (Says.Refused why) 1 line_is gives_is result same says;
          so = subst (λ (mets : List Meeting). RefusesLast count (answered mets here commands)) (sym (ended_last_mets commands end_of said_end closes_so state has M k a m (w, no_desk) later x.ran b since timed (Says.Refused why) 1 line_is gives_is result same says)) x.so.0;
        }

    -- none is begun, and the line says why
    pub restored_none : (line : Line) → RunsFrom state has M silent (seated k no_clients) (forced_of k) (M.now a) [] a m (w, no_desk) (Ok tt) → IfOk result (λ status. status ≡ 1) → Closing line → IsRestored M (refusing line) k a b result
    restored_none line ran same says = record {
      refused = None;
      ended = ended_last [] (λ done. forced_line line 1) (λ done. line) (λ done. refl) state has M k a m (w, no_desk) later ran b since timed line 1 refl refl result same says;
      so = ap first_refusal (answered_none (ended_last [] (λ done. forced_line line 1) (λ done. line) (λ done. refl) state has M k a m (w, no_desk) later ran b since timed line 1 refl refl result same says).mets here);
    }

  -- a fault has ended it
  pub restored_not : (items : List Dumped) (end : Halt) (other : end ≡ Stopped Ends.WornOut → ⊥) → Ran (map load_of items) (Err end) NoneRefused → IsRestored M (restoring items) k a m (Err end)
  restored_not items end other x =
      let commands = map load_of items in
      record {
        refused = None;
        ended = ended_stop commands end_of said_end closes_so state has M k a m (w, no_desk) later end other x.ran;
        so = subst (λ (mets : List Meeting). NoneRefused (answered mets here commands)) (sym (ended_stop_mets commands end_of said_end closes_so state has M k a m (w, no_desk) later end other x.ran)) x.so;
      }

-- ---- its status

pub low_of : (gives : ℕ) → gives ≤ 1 → (r : Result ℕ Halt) → IfOk r (λ status. status ≡ gives) → IfOk r (λ status. status ≤ 1)
low_of gives low (Ok status) is = omega (arith, low, is)
low_of gives low (Err end) is = tt

-- ---- a mount that was just made

-- has numbers left
pub new_unworn : (s : State) → IsNew s → is_worn s ≡ false
new_unworn s new = by (is_worn s) refl
  where
    by : (b : Bool) → is_worn s ≡ b → b ≡ false
    by false is = refl
    by true is = absurd (let many = new_may 1 s new (worn_may s is) in omega (arith, many))
