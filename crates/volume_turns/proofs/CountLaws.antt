-- Commands that are counted as they are done.
use Rattle.std.proofs.Common.{◌≡◌, ℕ, Bool, zero, suc, ◌+◌, ◌≤◌, List, [], ◌∷◌, length, true, false, Option, Some, None, refl, sym, ◌∙◌, ap, subst, arith}
use Rattle.std.proofs.lemmas.Option.{same_Some}
use Rattle.fsd_log.specs.Scan.{Placed}
use Rattle.std.specs.Prelude.{IsTrue, Result, Ok, Err, IfOk}
use Rattle.std.specs.List.{sum_by}
use Rattle.std.proofs.lemmas.List.{append-nil}
use Rattle.std.proofs.lemmas.List.Sums.{sum_by-cons}
use Rattle.sector_disk.specs.declared.machine.Machine.{Ghosts}
use Rattle.sector_disk.specs.Calls.{IsTimed, Since, WritesDisk}
use Rattle.sector_disk.specs.Image.{AreShort, open_damage}
use Rattle.sector_disk.specs.Machine.{LeavesOnly, Moment, Report}
use Rattle.sector_disk.proofs.CallLaws.{faults_then}
use Rattle.sector_disk.proofs.Moments.{started}
use Rattle.sector_disk.proofs.Wear.{worn_refl}
use Rattle.fsd_files.specs.Desk.{Session, no_clients}
use Rattle.fsd_files.specs.declared.reply.Reply.{Reply}
use Rattle.fsd_sound.specs.Mounted.{Mounted}
use Rattle.fsd_texts.specs.declared.command.Command.{Command}
use Rattle.fsd_texts.specs.declared.script_command.ScriptCommand.{ScriptCommand}
use Rattle.fsd_texts.specs.declared.script_command.ScriptCommand.TheVariants.{Plain}
use Rattle.fsd_texts.specs.declared.counts.Counts.{Counts}
use Rattle.fsd_texts.specs.declared.fault.Fault.{Fault}
use Rattle.fsd_texts.specs.declared.fault.Fault.TheVariants as Ends
use Rattle.fsd_texts.specs.declared.line.Line.TheVariants as Says
use Rattle.fsd_texts.specs.Generator.{made_from, next_state}
use Rattle.fsd_runs.specs.Sessions.{Meeting, answer_in, session_over}
use Rattle.fsd_runs.specs.Errands.{Answered, moved_in, forced_turn, generated_line, is_deleted, is_kept, is_made, is_read, is_refused}
use Rattle.fsd_runs.specs.Runs.{answered}
use Rattle.client_desk.specs.Clients.{no_desk}
use Rattle.volume_contract.specs.State.{State, Ages, Known, Stands, forced_of, volume_of}
use Rattle.volume_turns.specs.declared.turns.Halt.{Halt}
use Rattle.volume_turns.specs.declared.turns.Halt.TheVariants.{Fault as Stopped, Output}
use Rattle.volume_turns.specs.Generate.{CountedGroup, CountedRun, CountedStep, RunsCounted, StepsCounted, all_plain, silent}
use Rattle.volume_turns.specs.Group.{is_worn_end}
use Rattle.volume_turns.specs.Once.{ClosesAndSays, unit_of}
use Rattle.volume_turns.specs.Seats.{DoesIn, IsAnsweredIn, Seated, SitsAt, StaysIn, known_of, seated, session_in}
use Rattle.volume_turns.specs.Tally.{all_counted, counted, nothing_done}
use Rattle.volume_turns.specs.Steps.{StaysSoundFor}
use Rattle.volume_turns.specs.Turns.{KeepsCalls, OnDisk, FaultTold, FaultToldBy, Unheard, device_end, RunsTurns, RunsFrom, SaysAll, Steps, StepsOk, UttersBehind}
use Rattle.volume_turns.proofs.GroupLaws.{group_all, group_all_mets, group_stop, group_worn}
use Rattle.volume_turns.proofs.LongerLaws.{keeps_behind}
use Rattle.volume_turns.proofs.RunLaws.{from_both, from_both_mets, reply_is, runs_nil, runs_nil_mets, step_fault, step_ok, step_ok_met, step_unsaid}
use Rattle.volume_turns.proofs.SeatLaws.{seat_wears}
use Rattle.volume_turns.proofs.TurnLaws.{said_nothing, stays_stops}
use Rattle.volume_turns.proofs.StaysLaws.{mounted_stays}

-- ---- counts

-- a field that grows by something with each
field_is : (f : Counts → ℕ) (g : Answered → ℕ) → ((t : Counts) (p : Answered) → f (counted t p.command p.reply) ≡ f t + g p) → (t : Counts) (done : List Answered) → f (all_counted t done) ≡ f t + sum_by g done
field_is f g grows t [] = omega arith
field_is f g grows t (p ∷ done) =
    let rest = field_is f g grows (counted t p.command p.reply) done in
    let one = grows t p in
    let sum = sum_by-cons g p done in
    omega (arith, rest, one, sum)

-- from none on
sum_is : (f : Counts → ℕ) (g : Answered → ℕ) → ((t : Counts) (p : Answered) → f (counted t p.command p.reply) ≡ f t + g p) → f nothing_done ≡ 0 → (done : List Answered) → f (all_counted nothing_done done) ≡ sum_by g done
sum_is f g grows none done = let all = field_is f g grows nothing_done done in omega (arith, all, none)

count_is : (t : Counts) (done : List Answered) → (all_counted t done).count ≡ t.count + length done
count_is t [] = omega arith
count_is t (p ∷ done) = let rest = count_is (counted t p.command p.reply) done in omega (arith, rest)

pub line_is : (done : List Answered) → Says.Generated (all_counted nothing_done done) ≡ generated_line done
line_is done =
    let t = all_counted nothing_done done in
    let made = sum_is (λ x. x.made) (λ p. is_made p.reply) (λ t p. refl) refl done in
    let deleted = sum_is (λ x. x.deleted) (λ p. is_deleted p.reply) (λ t p. refl) refl done in
    let kept = sum_is (λ x. x.kept) (λ p. is_kept p.reply) (λ t p. refl) refl done in
    let read = sum_is (λ x. x.read) (λ p. is_read p.reply) (λ t p. refl) refl done in
    let bytes = sum_is (λ x. x.bytes) (λ p. moved_in p.command p.reply) (λ t p. refl) refl done in
    let refused = sum_is (λ x. x.refused) (λ p. is_refused p.reply) (λ t p. refl) refl done in
    let count : t.count ≡ length done = let all = count_is nothing_done done in omega (arith, all) in
    λ i. Says.Generated (record { count = count i; made = made i; deleted = deleted i; kept = kept i; read = read i; bytes = bytes i; refused = refused i })

-- so many commands are made up
pub made_length : (count i x : ℕ) → length (made_from count i x) ≡ count
made_length zero i x = refl
made_length (suc count) i x = ap (λ (n : ℕ). suc n) (made_length count (i + 1) (next_state x))

-- none is left
pub none_left : (commands : List Command) → length commands ≡ 0 → commands ≡ []
none_left [] none = refl
none_left (c ∷ commands) none = cc none

pub never : (x : Meeting) (s : Session) (c : ScriptCommand) → IsTrue (silent.forces (answer_in x s c).0) → (answer_in x s c).1.volume.unforced ≡ 0
never x s c is = cc is

-- ---- one command, and nothing said

module _ {S D : Type 0} (state : S → State) (has : S → Mounted → List Placed → Type 0) (M : Ghosts D)
    (wears : (s : S) (k : Known) (old new : Moment) → AreShort old.windows → Ages old new → Stands state has s k old → Stands state has s k new)
    (short : (m : D) → M.honest m → AreShort (M.now m).windows)
    (timed : (m : D) → M.honest m → IsTimed M m)
    (command : Command) (v w : S) (a m : D) (k : Seated) (f : ℕ) (from : Moment) (stood_from : SitsAt state has (v, no_desk) k from) (aged : Ages from (M.now a)) (stood : SitsAt state has (v, no_desk) k (M.now a))
    (fault : Option ℕ) (disk : WritesDisk M fault (StaysIn state has (v, no_desk)) a m) (layout : (state w).layout ≡ (state v).layout) (honest : M.honest m) (held : OnDisk M (known_of k) f a) where
  abbrev plain : ScriptCommand
  plain = Plain command

  still : Since M m m
  still t left le was = was

  at_m : IsTimed M m
  at_m = timed m honest

  module _ (after : Seated) (reply : Reply) (is : IsAnsweredIn plain (state v) k after (M.now a).image (M.now m).image reply) (stands : SitsAt state has (w, no_desk) after (M.now m)) where
    run : LeavesOnly M.moment M.left_since m m (UttersBehind (silent.forces reply) (silent.says reply) (M.now m))
    run = started M.moment M.left_since m (M.now m) (UttersBehind (silent.forces reply) (silent.says reply) (M.now m)) at_m.only
        (record { utters = record { image = worn_refl (open_damage (M.now m).windows) (M.now m).image; windows = refl; heard = 0; said = sym (append-nil (M.now m).said) }; synced = λ is. cc is })

    says : SaysAll (silent.says reply) (M.now m) (M.now m)
    says = record { ages = record { image = worn_refl (open_damage (M.now m).windows) (M.now m).image; windows = refl }; said = sym (append-nil (M.now m).said) }

    synced : IsTrue (silent.forces reply) → (M.now m).time ≤ (M.now m).synced
    synced is = cc is

    pub silent_step : StepsOk state has M silent k f from plain a m (w, no_desk)
    silent_step = step_ok state has M wears short timed silent never plain (v, no_desk) (w, no_desk) a m m k f from stood_from aged stood fault disk honest still held after reply is stands layout at_m run says synced

    pub silent_reply : (answer_in silent_step.met (session_in k) plain).0 ≡ reply
    unfolding silent_step
    silent_reply = ap (λ (x : Meeting). (answer_in x (session_in k) plain).0) (step_ok_met state has M wears short timed silent never plain (v, no_desk) (w, no_desk) a m m k f from stood_from aged stood fault disk honest still held after reply is stands layout at_m run says synced)
        ∙ reply_is state has M wears short timed silent never plain (v, no_desk) (w, no_desk) a m m k f from stood_from aged stood fault disk honest still held after reply is stands

    pub counted_step : (t u : Counts) → u ≡ counted t plain reply → CountedStep state has M k f from command a m w t u
    counted_step t u counts = record { step = silent_step; counts = counts ∙ ap (λ (r : Reply). counted t plain r) (sym silent_reply) }

    -- its bytes have no sum
    pub counted_none : (why : Fault) → why ≡ Ends.Memory → (more : List ScriptCommand) → RunsFrom state has M silent k f from (plain ∷ more) a m (w, no_desk) (Err (Stopped why))
    counted_none why is_memory more = subst (λ (x : Fault). RunsFrom state has M silent k f from (plain ∷ more) a m (w, no_desk) (Err (Stopped x))) (sym is_memory)
        (step_unsaid state has M wears short timed silent never plain (v, no_desk) (w, no_desk) a m m k f from stood_from aged stood fault disk honest still held after reply is stands layout at_m run (Stopped Ends.Memory)
        (record { image = worn_refl (open_damage (M.now m).windows) (M.now m).image; windows = refl; said = refl }) more)

  pub counted_fault : (why : Fault) → DoesIn state has plain (v, no_desk) (w, no_desk) k (M.now a) (M.now m) (Err why) → (more : List ScriptCommand) → RunsFrom state has M silent k f from (plain ∷ more) a m (w, no_desk) (Err (Stopped why))
  counted_fault why does more = step_fault state has M wears short timed silent never plain (v, no_desk) (w, no_desk) a m m k f from stood_from aged stood fault disk honest still held why does more

-- ---- one after another

module _ {S D : Type 0} (state : S → State) (has : S → Mounted → List Placed → Type 0) (M : Ghosts D) where
  pub counted_nil : (v : S) (a : D) → ((s : S) (k : Known) (old new : Moment) → AreShort old.windows → Ages old new → Stands state has s k old → Stands state has s k new)
      → (M.honest a → IsTimed M a) → (M.honest a → (from : Moment) → Ages from (M.now a) → AreShort from.windows) → (t : Counts) → RunsCounted state has M [] v a v a t (Ok t)
  counted_nil v a wears timed short t honest k f from stood aged held = record {
    ran = runs_nil state has M silent (v, no_desk) a wears timed short honest k f from stood aged held;
    counts = ap (λ (mets : List Meeting). all_counted t (answered mets (session_in k) [])) (sym (runs_nil_mets state has M silent (v, no_desk) a wears timed short honest k f from stood aged held));
  }

  pub counted_then : (command : Command) (commands : List Command) (v w z : S) (a m b : D) (t u : Counts) (result : Result Counts Halt) → KeepsCalls M m b → (M.honest m → M.moment a ≤ M.moment m)
      → StepsCounted state has M command v a w m t (Ok u) → RunsCounted state has M commands w m z b u result → RunsCounted state has M (command ∷ commands) v a z b t result
  counted_then command commands v w z a m b t u result follows later steps runs honest k f from stood aged held =
      let one : CountedStep state has M k f from command a m w t u = steps (follows.honest honest) k f from stood aged held in
      let rest : CountedRun state has M one.step.after one.step.told one.step.mid commands m b z u result = runs honest one.step.after one.step.told one.step.mid one.step.stands one.step.ages one.step.held in
      let took : RunsTurns state has M silent (all_plain commands) (w, no_desk) m (z, no_desk) b (unit_of result) = λ h x n c s g d. (runs h x n c s g d).ran in
      let step : Steps state has M silent (Plain command) (v, no_desk) a (w, no_desk) m (Ok tt) = λ h x n c s g d. (steps h x n c s g d).step in
      record {
        ran = from_both state has M silent (Plain command) (all_plain commands) (v, no_desk) (w, no_desk) (z, no_desk) a m b (unit_of result) follows later step took honest k f from stood aged held;
        counts = subst (λ (mets : List Meeting). IfOk result (λ x. x ≡ all_counted t (answered mets (session_in k) (all_plain (command ∷ commands))))) (sym (from_both_mets state has M silent (Plain command) (all_plain commands) (v, no_desk) (w, no_desk) (z, no_desk) a m b (unit_of result) follows later step took honest k f from stood aged held))
            (on result one rest rest.counts);
      }
    where
      on : (r : Result Counts Halt) (one : CountedStep state has M k f from command a m w t u) (rest : CountedRun state has M one.step.after one.step.told one.step.mid commands m b z u result)
          → IfOk r (λ x. x ≡ all_counted u (answered rest.ran.mets (session_in one.step.after) (all_plain commands)))
          → IfOk r (λ x. x ≡ all_counted t (answered (one.step.met ∷ rest.ran.mets) (session_in k) (all_plain (command ∷ commands))))
      on (Ok x) one rest is = is ∙ ap (λ (y : Session). all_counted u (answered rest.ran.mets y (all_plain commands))) one.step.is
          ∙ ap (λ (y : Counts). all_counted y (answered rest.ran.mets (answer_in one.step.met (session_in k) (Plain command)).1 (all_plain commands))) one.counts
      on (Err end) one rest is = tt

  -- one that ends them
  pub counted_stop : (commands : List Command) (v z : S) (a b : D) (t : Counts) (end : Halt) → RunsTurns state has M silent (all_plain commands) (v, no_desk) a (z, no_desk) b (Err end) → RunsCounted state has M commands v a z b t (Err end)
  counted_stop commands v z a b t end runs honest k f from stood aged held = record { ran = runs honest k f from stood aged held; counts = tt }

  -- memory was refused for the next of them
  pub counted_refused : (commands : List Command) (v : S) (a : D) → ((s : S) (k : Known) (old new : Moment) → AreShort old.windows → Ages old new → Stands state has s k old → Stands state has s k new)
      → (M.honest a → IsTimed M a) → (M.honest a → (from : Moment) → Ages from (M.now a) → AreShort from.windows) → RunsTurns state has M silent (all_plain commands) (v, no_desk) a (v, no_desk) a (Err (Stopped Ends.Memory))
  counted_refused commands v a wears timed short honest k f from stood aged held =
      let now = seat_wears state has wears (v, no_desk) k from (M.now a) (short honest from aged) aged stood in
      let at = timed honest in
      record {
        mets = [];
        goes = λ t le. tt;
        moments = λ rest. stays_stops M (known_of k) f a a at at (λ t left le was. was) (started M.moment M.left_since a (M.now a) (StaysSoundFor (known_of k) (M.now a)) at.only
            (mounted_stays (known_of k) (M.now a) (M.now a) now.stands.disk refl refl)) held rest;
        ends = (tt, said_nothing M (known_of k) f Ends.Memory a a at held refl refl);
      }

-- ---- with the force behind them

module _ {S D : Type 0} (state : S → State) (has : S → Mounted → List Placed → Type 0) (M : Ghosts D) (k : Known) (commands : List Command) (a m b : D) (w : S) (since : Since M m b) (later : M.moment a ≤ M.moment m) (timed : IsTimed M b) where
  abbrev Closing : Result (Option Counts) Halt → Type 0
  Closing result = (x : Seated) (f : ℕ) → SitsAt state has (w, no_desk) x (M.now m) → OnDisk M (known_of x) f m → ClosesAndSays M (known_of x) f forced_turn.said m b (unit_of result)

  pub counted_all : (tally : Counts) → CountedRun state has M (seated k no_clients) (forced_of k) (M.now a) commands a m w nothing_done (Ok tally) → (result : Result (Option Counts) Halt) → IfOk result (λ x. x ≡ Some tally) → Closing result → CountedGroup M k commands a b result
  counted_all tally run (Ok None) same closes = absurd (cc same)
  counted_all tally run (Ok (Some t)) same closes = record {
    group = group_all state has M silent k (M.now a) (all_plain commands) a m b (w, no_desk) since later timed run.ran (Ok true) refl closes;
    counts = same_Some t tally same ∙ run.counts ∙ ap (λ (mets : List Meeting). all_counted nothing_done (answered mets (session_over (volume_of k)) (all_plain commands))) (sym (group_all_mets state has M silent k (M.now a) (all_plain commands) a m b (w, no_desk) since later timed run.ran (Ok true) refl closes));
  }
  counted_all tally run (Err end) same closes = record { group = group_all state has M silent k (M.now a) (all_plain commands) a m b (w, no_desk) since later timed run.ran (Err end) tt closes; counts = tt }

  pub counted_worn : (end : Halt) → is_worn_end end ≡ true → RunsFrom state has M silent (seated k no_clients) (forced_of k) (M.now a) (all_plain commands) a m (w, no_desk) (Err end) → (result : Result (Option Counts) Halt) → IfOk result (λ x. x ≡ None) → Closing result → CountedGroup M k commands a b result
  counted_worn end worn ran (Ok (Some t)) same closes = absurd (cc same)
  counted_worn end worn ran (Ok None) same closes = record { group = group_worn state has M silent k (M.now a) (all_plain commands) a m b (w, no_desk) since later timed end worn ran (Ok false) refl closes; counts = tt }
  counted_worn end worn ran (Err other) same closes = record { group = group_worn state has M silent k (M.now a) (all_plain commands) a m b (w, no_desk) since later timed end worn ran (Err other) tt closes; counts = tt }

  pub counted_broken : (end : Halt) → is_worn_end end ≡ false → RunsFrom state has M silent (seated k no_clients) (forced_of k) (M.now a) (all_plain commands) a m (w, no_desk) (Err end) → CountedGroup M k commands a m (Err end)
  counted_broken end other ran = record { group = group_stop state has M silent k (M.now a) (all_plain commands) a m (w, no_desk) end other ran; counts = tt }

-- ---- what is counted of faults

pub unheard_on : {T : Type 0} (a b c : Report) → b.output_faults ≡ a.output_faults → (r : Result T Halt) → Unheard b c r → Unheard a c r
unheard_on a b c same (Err Output) rose = omega (arith, same, rose)
unheard_on a b c same (Err (Stopped fault)) is = is ∙ same
unheard_on a b c same (Ok u) is = is ∙ same

pub told_more : {longer : Bool} {T U : Type 0} (a b c : Report) (u : U) (r : Result T Halt) → FaultTold {T = U} a b (Ok u) → FaultToldBy longer {T = T} b c r → FaultToldBy longer {T = T} a c r
told_more {longer} a b c u r x y = record {
  sectors = keeps_behind longer a.sectors b.sectors c.sectors x.sectors y.sectors;
  disk = faults_then (device_end r) a b c x.disk y.disk;
  input = y.input ∙ x.input;
  later = let p = x.later in let q = y.later in omega (arith, p, q);
  output = unheard_on a b c x.output r y.output;
}

pub told_all : {longer : Bool} {T U : Type 0} (a b : Report) (t : T) (u : U) → FaultToldBy longer {T = T} a b (Ok t) → FaultToldBy longer {T = U} a b (Ok u)
told_all a b t u x = record { sectors = x.sectors; disk = x.disk; input = x.input; later = x.later; output = x.output }

pub told_end : {longer : Bool} {T U : Type 0} (a b : Report) (end : Halt) → FaultToldBy longer {T = T} a b (Err end) → FaultToldBy longer {T = U} a b (Err end)
told_end a b (Stopped fault) x = record { sectors = x.sectors; disk = x.disk; input = x.input; later = x.later; output = x.output }
told_end a b Output x = record { sectors = x.sectors; disk = x.disk; input = x.input; later = x.later; output = x.output }

-- up to where the mount was worn out
pub told_worn_out : {T : Type 0} (a b : Report) (end : Halt) → is_worn_end end ≡ true → FaultTold {T = T} a b (Err end) → FaultTold {T = Unit {0}} a b (Ok tt)
told_worn_out a b (Stopped Ends.WornOut) worn x = record { sectors = x.sectors; disk = x.disk; input = x.input; later = x.later; output = x.output }
told_worn_out a b end worn x = cc worn
