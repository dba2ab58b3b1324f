-- Commands that are read from the input, one after another.
use Rattle.std.proofs.Common.{◌≡◌, ℕ, ◌≤◌, List, [], ◌∷◌, ◌++◌, take, Option, Some, None, refl, sym, ◌∙◌, ap, subst, arith, append_assoc, length-append}
use Rattle.fsd_log.specs.Scan.{Placed}
use Rattle.std.specs.Prelude.{IfOk, Result, Ok, Err}
use Rattle.std.proofs.lemmas.List.{length-take, take-append-drop}
use Rattle.sector_disk.specs.declared.machine.Machine.{Ghosts}
use Rattle.sector_disk.specs.Image.{AreShort, Windows, open_damage, IsWorn}
use Rattle.sector_disk.specs.Machine.{Ledger, LeavesOnly, Moment, Report, Rose, Wears}
use Rattle.sector_disk.specs.Calls.{IsTimed, Since, stops}
use Rattle.sector_disk.proofs.CallLaws.{faults_then}
use Rattle.sector_disk.proofs.Moments.{leaves_more, started, then_on}
use Rattle.sector_disk.proofs.Wear.{worn_trans}
use Rattle.fsd_files.specs.Disk.{in_runs}
use Rattle.fsd_sound.specs.Mounted.{Mounted}
use Rattle.fsd_texts.specs.declared.script_command.ScriptCommand.{ScriptCommand}
use Rattle.fsd_texts.specs.declared.end.End.{End as ScriptEnd}
use Rattle.fsd_texts.specs.declared.fault.Fault.{Fault}
use Rattle.fsd_texts.specs.declared.fault.Fault.TheVariants as Ends
use Rattle.fsd_texts.specs.Script.{Script}
use Rattle.fsd_runs.specs.Errands.{Errand, Turn}
use Rattle.fsd_runs.specs.Runs.{Goes, said_in, turns_begun}
use Rattle.script_text.specs.declared.fault.ScriptFault.{ScriptFault}
use Rattle.script_text.specs.Reading.{Ahead, Reading, script_left}
use Rattle.script_text.specs.Taking.{MovesInput}
use Rattle.client_desk.specs.declared.client.Client.{Client}
use Rattle.volume_contract.specs.State.{State, Ages, Known, Stands, forced_of}
use Rattle.volume_turns.specs.declared.turns.Halt.{Halt}
use Rattle.volume_turns.specs.declared.turns.Halt.TheVariants.{Fault as Stopped, Output}
use Rattle.volume_turns.specs.declared.script.Stop.{Stop}
use Rattle.volume_turns.specs.declared.script.Stop.TheVariants.{Ended, Input, WornOut}
use Rattle.volume_turns.specs.Each.{SaysBetween, SaysOnce}
use Rattle.volume_turns.specs.Script.{DoneSo, Heard, ReadsScript, RoseBy, Spells}
use Rattle.volume_turns.specs.Seats.{Seated, SitsAt, known_of, session_in}
use Rattle.volume_turns.specs.Steps.{StaysSoundFor}
use Rattle.volume_turns.specs.Turns.{Behind, EndsBy, KeepsCalls, InRun, RunsTurns, RunsFrom, Said, SaysReplies, StandsBehind, Steps, FaultTold, device_end}
use Rattle.volume_turns.proofs.EachLaws.{between_none, between_one, between_replies, between_then}
use Rattle.volume_turns.proofs.RunLaws.{follows_then, runs_nil, runs_stop, runs_then}
use Rattle.volume_turns.proofs.SeatLaws.{seat_wears}
use Rattle.volume_turns.proofs.TurnLaws.{said_nothing, stays_held, stays_stops}
use Rattle.volume_turns.proofs.CountLaws.{unheard_on}
use Rattle.volume_turns.proofs.StaysLaws.{mounted_stays}

-- ---- a read in front of a run

module _ (k : Known) (f : ℕ) (old mid : Moment) (w : Wears old mid) where
  pub in_from : (turns : List Turn) (left : Moment) → InRun k f turns mid left → InRun k f turns old left
  in_from turns left x = record {
    windows = x.windows ∙ w.windows;
    whole = x.whole;
    part = x.part;
    said = x.said ∙ ap (λ (y : List ℕ). y ++ (said_in (take x.whole turns) ++ x.part)) w.said;
    next = x.next;
    forced = x.forced;
    least = x.least;
    enough = x.enough;
    sound = x.sound;
  }

module _ {D : Type 0} (M : Ghosts D) (k : Known) (f : ℕ) (a m b : D) (w : Wears (M.now a) (M.now m)) where
  said_from : (why : Fault) (turns : List Turn) → Said M k f why turns m b → Said M k f why turns a b
  said_from why turns x = record {
    windows = x.windows ∙ w.windows;
    whole = x.whole;
    most = x.most;
    said = x.said ∙ ap (λ (y : List ℕ). y ++ said_in (take x.whole turns)) w.said;
    forced = x.forced;
    least = x.least;
    enough = x.enough;
    sound = x.sound;
    undone = x.undone;
  }

ages_on : (from old mid : Moment) → Ages from old → Wears old mid → Ages from mid
ages_on from old mid aged w = record {
  image = worn_trans (open_damage from.windows) from.image old.image mid.image aged.image (subst (λ (x : Windows). IsWorn (open_damage x) old.image mid.image) aged.windows w.image);
  windows = w.windows ∙ aged.windows;
}

module _ {S D : Type 0} (state : S → State) (has : S → Mounted → List Placed → Type 0) (M : Ghosts D) (e : Errand)
    (wears : (s : S) (k : Known) (old new : Moment) → AreShort old.windows → Ages old new → Stands state has s k old → Stands state has s k new) where
  module _ (v : S × List Client) (k : Seated) (from : Moment) (short : AreShort from.windows) (stood : SitsAt state has v k from) where
    stays_so : (old left : Moment) → Ages from old → Wears old left → StaysSoundFor (known_of k) old left
    stays_so old left aged w =
        let now = seat_wears state has wears v k from left short (ages_on from old left aged w) stood in
        mounted_stays (known_of k) old left now.stands.disk w.windows w.said

  module _ (v : S × List Client) (a m : D) (trust : M.honest m → M.honest a) (timed : (x : D) → M.honest x → IsTimed M x) (worn : M.honest m → Wears (M.now a) (M.now m)) (read : M.honest m → LeavesOnly M.moment M.left_since a m (Wears (M.now a)))
      (since : M.honest m → Since M a m) (short : M.honest m → (from : Moment) → Ages from (M.now a) → AreShort from.windows) where
    -- the same commands, from before the read on
    pub runs_read : (commands : List ScriptCommand) (z : S × List Client) (b : D) (result : Result (Unit {0}) Halt) → KeepsCalls M m b → RunsTurns state has M e commands v m z b result → RunsTurns state has M e commands v a z b result
    runs_read commands z b result follows runs honest k f from stood aged held = record {
      mets = r.mets;
      goes = λ t le. let later = (read back).later in
          subst (λ (x : List ℕ). Goes (in_runs k.windows) (M.left_since b t) (Behind result) e x from.image (session_in k) r.mets commands) w.said (r.goes t (omega (arith, le, later)));
      moments = λ rest. then_on M.moment (stops M) a m b (InRun (known_of k) f (turns_begun e r.mets (session_in k) commands ++ rest) (M.now a))
          (stays_stops M (known_of k) f a m at_a at_m (since back) stays held (turns_begun e r.mets (session_in k) commands ++ rest))
          (leaves_more M.moment (stops M) m b (InRun (known_of k) f (turns_begun e r.mets (session_in k) commands ++ rest) (M.now m)) (InRun (known_of k) f (turns_begun e r.mets (session_in k) commands ++ rest) (M.now a))
          (λ left x. in_from (known_of k) f (M.now a) (M.now m) w (turns_begun e r.mets (session_in k) commands ++ rest) left x) (r.moments rest));
      ends = by result r.ends;
    }
      where
        back : M.honest m
        back = follows.honest honest

        at_a : IsTimed M a
        at_a = timed a (trust back)

        at_m : IsTimed M m
        at_m = timed m back

        w : Wears (M.now a) (M.now m)
        w = worn back

        stays : LeavesOnly M.moment M.left_since a m (StaysSoundFor (known_of k) (M.now a))
        stays = leaves_more M.moment M.left_since a m (Wears (M.now a)) (StaysSoundFor (known_of k) (M.now a)) (λ left x. stays_so v k from (short back from aged) stood (M.now a) left aged x) (read back)

        r : RunsFrom state has M e k f from commands m b z result
        r = runs honest k f from stood (ages_on from (M.now a) (M.now m) aged w) (stays_held M (known_of k) f a m at_a at_m (since back) stays held)

        stands_so : StandsBehind state has M e k f r.mets commands z m b → StandsBehind state has M e k f r.mets commands z a b
        stands_so x = record {
          after = x.after;
          is = x.is;
          windows = x.windows;
          changes = x.changes;
          said = x.said ∙ ap (λ (y : List ℕ). y ++ said_in (turns_begun e r.mets (session_in k) commands)) w.said;
          open_windows = x.open_windows ∙ w.windows;
          layout = x.layout;
          told = x.told;
          least = x.least;
          forced = x.forced;
          held = x.held;
          stands = x.stands;
        }

        by : (x : Result (Unit {0}) Halt) → EndsBy state has M e k f r.mets commands z m b x → EndsBy state has M e k f r.mets commands z a b x
        by (Ok x) is = (is.0, stands_so is.1)
        by (Err (Stopped Ends.WornOut)) is = (is.0, stands_so is.1)
        by (Err Output) is = tt
        by (Err (Stopped why)) is = (is.0, said_from M (known_of k) f a m b w why (turns_begun e r.mets (session_in k) commands) is.1)

  -- memory was refused for the next of them
  pub runs_refused : (commands : List ScriptCommand) (v : S × List Client) (a : D) → (M.honest a → IsTimed M a) → (M.honest a → (from : Moment) → Ages from (M.now a) → AreShort from.windows)
      → RunsTurns state has M e commands v a v a (Err (Stopped Ends.Memory))
  runs_refused commands v a timed short honest k f from stood aged held =
      let now = seat_wears state has wears v k from (M.now a) (short honest from aged) aged stood in
      let at = timed honest in
      record {
        mets = [];
        goes = λ t le. tt;
        moments = λ rest. stays_stops M (known_of k) f a a at at (λ t left le was. was) (started M.moment M.left_since a (M.now a) (StaysSoundFor (known_of k) (M.now a)) at.only
            (mounted_stays (known_of k) (M.now a) (M.now a) now.stands.disk refl refl)) held rest;
        ends = (tt, said_nothing M (known_of k) f Ends.Memory a a at held refl refl);
      }

-- ---- what is taken

-- a call of the reader, and what the ledger still has
pub moves_spells : (result : Result (Option ScriptCommand) ScriptFault) (old new : Reading) (before now : Ledger) (left : List ℕ) (commands : List ScriptCommand) → left ≡ now.input → (m : MovesInput result old new before now)
    → ((rest : List ℕ) → Ahead result (script_left old (take m.count before.input ++ rest)) (script_left new rest) → script_left old (take m.count before.input ++ rest) ≡ (commands ++ (script_left new rest).0, (script_left new rest).1))
    → Spells before.input left old new commands
moves_spells result old new before now left commands same m spells = record {
  bytes = take m.count before.input;
  all = sym (take-append-drop m.count before.input) ∙ ap (λ (x : List ℕ). take m.count before.input ++ x) (sym (same ∙ ap (λ (l : Ledger). l.input) m.left));
  count = let taken = m.taken in let some = m.some in let long = length-take m.count before.input in omega (arith, taken, some, long);
  spells = λ rest. spells rest (m.ahead rest);
}

pub spells_then : (a b c : List ℕ) (r s t : Reading) (first more : List ScriptCommand) → Spells a b r s first → Spells b c s t more → Spells a c r t (first ++ more)
spells_then a b c r s t first more x y = record {
  bytes = x.bytes ++ y.bytes;
  all = x.all ∙ ap (λ (z : List ℕ). x.bytes ++ z) y.all ∙ sym (append_assoc x.bytes y.bytes c);
  count = let p = x.count in let q = y.count in let sum = length-append x.bytes y.bytes in omega (arith, p, q, sum);
  spells = λ rest. ap (λ (z : List ℕ). script_left r z) (append_assoc x.bytes y.bytes rest) ∙ x.spells (y.bytes ++ rest)
      ∙ ap (λ (z : Script). (first ++ z.0, z.1)) (y.spells rest)
      ∙ ap (λ (z : List ScriptCommand). (z, (script_left t rest).1)) (sym (append_assoc first more (script_left t rest).0));
}

-- nothing yet
pub spells_none : (a : List ℕ) (r : Reading) → Spells a a r r []
spells_none a r = record { bytes = []; all = refl; count = omega arith; spells = λ rest. refl }

-- what is to come of the input that is there
pub spells_here : (a b : List ℕ) (r s : Reading) (first : List ScriptCommand) → Spells a b r s first → script_left r a ≡ (first ++ (script_left s b).0, (script_left s b).1)
spells_here a b r s first x = ap (λ (z : List ℕ). script_left r z) x.all ∙ x.spells b

-- ---- one after another

module _ {S D : Type 0} (state : S → State) (has : S → Mounted → List Placed → Type 0) (M : Ghosts D) (e : Errand) where
  pub reads_then : (r s t : Reading) (v w z : S × List Client) (a m b : D) (result : Result (Option Stop) Halt) → (M.honest m → M.moment a ≤ M.moment m) → KeepsCalls M m b → DoneSo state has M e r s v a w m → ReadsScript state has M e s t w m z b result → ReadsScript state has M e r t v a z b result
  reads_then r s t v w z a m b (Ok None) later follows x y = record {
    done = x.done ++ y.done;
    taken = spells_then _ _ _ r s t x.done y.done x.taken y.taken;
    says = between_then M e.says x.done y.done a m b later follows x.says y.says;
    leads = λ more u c result on runs. subst (λ (cs : List ScriptCommand). RunsTurns state has M e cs v a u c result) (sym (append_assoc x.done y.done more)) (x.leads (y.done ++ more) u c result (follows_then M m b c follows on) (y.leads more u c result on runs));
  }
  reads_then r s t v w z a m b (Ok (Some (Ended end))) later follows x y =
      let here = spells_here (M.ledger a).input (M.ledger m).input r s x.done x.taken in (
        ap (λ (q : Script). q.1) here ∙ y.0,
        subst (λ (q : Script). RunsTurns state has M e q.0 v a z b (Ok tt)) (sym here) (x.leads (script_left s (M.ledger m).input).0 z b (Ok tt) follows y.1),
        subst (λ (q : Script). SaysBetween M e.says q.0 a b) (sym here) (between_then M e.says x.done (script_left s (M.ledger m).input).0 a m b later follows x.says y.2),
      )
  reads_then r s t v w z a m b (Ok (Some Input)) later follows x y = record {
    done = x.done ++ y.done;
    taken = spells_then _ _ _ r s t x.done y.done x.taken y.taken;
    runs = x.leads y.done z b (Ok tt) follows y.runs;
    still = y.still;
    short = y.short;
  }
  reads_then r s t v w z a m b (Ok (Some WornOut)) later follows x y = absurd y
  reads_then r s t v w z a m b (Err end) later follows x y =
      let here = spells_here (M.ledger a).input (M.ledger m).input r s x.done x.taken in
      subst (λ (q : Script). RunsTurns state has M e q.0 v a z b (Err end)) (sym here) (x.leads (script_left s (M.ledger m).input).0 z b (Err end) follows y)

  pub done_none : (r : Reading) (v : S × List Client) (a : D) → DoneSo state has M e r r v a v a
  done_none r v a = record { done = []; taken = spells_none (M.ledger a).input r; says = between_none M e.says a a (λ h. refl); leads = λ more z c result follows runs. runs }

  -- replies were said, each whole
  pub done_replies : (r s : Reading) (old : S × List Client) (a : D) (new : S × List Client) (b : D) → DoneSo state has M e r s old a new b → M.honest b → SaysReplies e.says (M.now a).said (M.now b).said
  done_replies r s old a new b x honest = between_replies M e.says x.done a b x.says honest

-- ---- one more

module _ {S D : Type 0} (state : S → State) (has : S → Mounted → List Placed → Type 0) (M : Ghosts D) (e : Errand)
    (wears : (s : S) (k : Known) (old new : Moment) → AreShort old.windows → Ages old new → Stands state has s k old → Stands state has s k new)
    (short : (m : D) → M.honest m → AreShort (M.now m).windows) (timed : (m : D) → M.honest m → IsTimed M m)
    (v : S × List Client) (a m : D) (trust : M.honest m → M.honest a) (worn : M.honest m → Wears (M.now a) (M.now m)) (read : M.honest m → LeavesOnly M.moment M.left_since a m (Wears (M.now a)))
    (since : M.honest m → Since M a m) where
  here : KeepsCalls M m m
  here = record { honest = λ h. h; since = λ h t left le was. was; later = λ h. omega arith }

  first : (commands : List ScriptCommand) (z : S × List Client) (b : D) (result : Result (Unit {0}) Halt) → KeepsCalls M m b → RunsTurns state has M e commands v m z b result → RunsTurns state has M e commands v a z b result
  first = runs_read state has M e wears v a m trust timed worn read since (λ h from aged. subst (λ (w : Windows). AreShort w) aged.windows (short a (trust h)))

  pub none_done : RunsTurns state has M e [] v a v m (Ok tt)
  none_done = first [] v m (Ok tt) here (runs_nil state has M e v m wears (timed m) (λ h from aged. subst (λ (w : Windows). AreShort w) aged.windows (short m h)))

  pub none_read : (commands : List ScriptCommand) → RunsTurns state has M e commands v a v m (Err (Stopped Ends.Memory))
  none_read commands = first commands v m (Err (Stopped Ends.Memory)) here (runs_refused state has M e wears commands v m (timed m) (λ h from aged. subst (λ (w : Windows). AreShort w) aged.windows (short m h)))

  module _ (r s : Reading) (command : ScriptCommand) (w : S × List Client) (b : D) (step : KeepsCalls M m b) where
    pub one_done : Spells (M.ledger a).input (M.ledger b).input r s (command ∷ []) → (M.honest b → M.moment m ≤ M.moment b) → Steps state has M e command v m w b (Ok tt)
        → ((t : ℕ) → M.honest b → t ≤ M.moment b → M.left_since b t (M.now b)) → (M.honest b → SaysOnce e.says command (M.now m) (M.now b)) → DoneSo state has M e r s v a w b
    one_done taken later steps counts once = record {
      done = command ∷ [];
      taken = taken;
      says = between_one M e.says command a m b (λ h. let x = (read (step.honest h)).later in let y = later h in omega (arith, x, y)) counts (λ h. (worn (step.honest h)).said) once;
      leads = λ more z c result follows runs. first (command ∷ more) z c result (follows_then M m b c step follows) (runs_then state has M e command more v w z m b c result follows later steps runs);
    }

    pub one_stops : (end : Halt) (now : Script) → script_left r (M.ledger a).input ≡ (command ∷ now.0, now.1) → Steps state has M e command v m w b (Err end) → RunsTurns state has M e (script_left r (M.ledger a).input).0 v a w b (Err end)
    one_stops end now is steps = subst (λ (q : Script). RunsTurns state has M e q.0 v a w b (Err end)) (sym is) (first (command ∷ now.0) w b (Err end) step (runs_stop state has M e command now.0 v w m b end steps))

  pub ended_so : (r s : Reading) (end : ScriptEnd) → script_left r (M.ledger a).input ≡ ([], end) → ReadsScript state has M e r s v a v m (Ok (Some (Ended end)))
  ended_so r s end is = (
    ap (λ (q : Script). q.1) is,
    subst (λ (q : Script). RunsTurns state has M e q.0 v a v m (Ok tt)) (sym is) none_done,
    subst (λ (q : Script). SaysBetween M e.says q.0 a m) (sym is) (between_none M e.says a m (λ h. (worn h).said)),
  )

-- ---- what is counted

pub heard_then : {T U : Type 0} (a b c : Report) (u : U) (r : Result T Halt) → Heard {T = U} a b (Ok u) → Heard {T = T} b c r → Heard {T = T} a c r
heard_then a b c u r x y = record {
  sectors = y.sectors ∙ x.sectors;
  disk = faults_then (device_end r) a b c x.disk y.disk;
  later = let p = x.later in let q = y.later in omega (arith, p, q);
  output = unheard_on a b c x.output r y.output;
}

pub heard_of : {T : Type 0} (a b : Report) (r : Result T Halt) → FaultTold {T = T} a b r → Heard {T = T} a b r
heard_of a b r x = record { sectors = x.sectors; disk = x.disk; later = x.later; output = x.output }

pub heard_as : {T U : Type 0} (a b : Report) (t : T) (u : U) → Heard {T = T} a b (Ok t) → Heard {T = U} a b (Ok u)
heard_as a b t u x = record { sectors = x.sectors; disk = x.disk; later = x.later; output = x.output }

pub heard_end : {T U : Type 0} (a b : Report) (end : Halt) → Heard {T = T} a b (Err end) → Heard {T = U} a b (Err end)
heard_end a b (Stopped fault) x = record { sectors = x.sectors; disk = x.disk; later = x.later; output = x.output }
heard_end a b Output x = record { sectors = x.sectors; disk = x.disk; later = x.later; output = x.output }

pub heard_none : (a : Report) → Heard {T = Unit {0}} a a (Ok tt)
heard_none a = record { sectors = refl; disk = (refl, refl); later = omega arith; output = refl }

pub rose_then : (a b c : Report) (o : Option Stop) → b.input_faults ≡ a.input_faults → RoseBy b c o → RoseBy a c o
rose_then a b c None same rose = rose ∙ same
rose_then a b c (Some Input) same rose = subst (λ (n : ℕ). Rose n c.input_faults) same rose
rose_then a b c (Some (Ended end)) same rose = rose ∙ same
rose_then a b c (Some WornOut) same rose = rose ∙ same

-- the rest keeps the count of the input
rose_on : (a b c : Report) (o : Option Stop) → RoseBy a b o → c.input_faults ≡ b.input_faults → RoseBy a c o
rose_on a b c None rose same = same ∙ rose
rose_on a b c (Some Input) rose same = subst (λ (n : ℕ). Rose a.input_faults n) (sym same) rose
rose_on a b c (Some (Ended end)) rose same = same ∙ rose
rose_on a b c (Some WornOut) rose same = same ∙ rose

pub rose_forced : (a b c : Report) (stop : Stop) (r : Result Stop Halt) → RoseBy a b (Some stop) → c.input_faults ≡ b.input_faults → IfOk r (λ x. x ≡ stop) → IfOk r (λ x. RoseBy a c (Some x))
rose_forced a b c stop (Ok x) rose same is = subst (λ (s : Stop). RoseBy a c (Some s)) (sym is) (rose_on a b c (Some stop) rose same)
rose_forced a b c stop (Err end) rose same is = tt
