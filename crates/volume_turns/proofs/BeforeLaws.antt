-- A run whose first calls do no more than wear the disk: it goes so from where these began.
use Rattle.std.proofs.Common.{◌≡◌, ◌⊎◌, inl, inr, ℕ, ◌≤◌, List, [], ◌∷◌, ◌++◌, take, refl, sym, ◌∙◌, ap, subst, arith}
use Rattle.fsd_log.specs.Scan.{Placed}
use Rattle.std.specs.Prelude.{Bool, false, IsSome, slice_get}
use Rattle.std.proofs.lemmas.List.{append-nil}
use Rattle.sector_disk.specs.declared.machine.Machine.{Ghosts}
use Rattle.sector_disk.specs.Calls.{Counts, IsTimed, LeavesDisk, Since, StopsOnly, stops}
use Rattle.sector_disk.specs.Image.{AreShort, Windows, open_damage}
use Rattle.sector_disk.specs.Machine.{LeavesOnly, Moment, Report, UsesDisk, Utters, Wears}
use Rattle.sector_disk.proofs.Moments.{leaves_more, then_on}
use Rattle.fsd_files.specs.Disk.{Image, in_runs}
use Rattle.fsd_files.specs.Desk.{Session}
use Rattle.fsd_files.specs.Volume.{Volume}
use Rattle.fsd_sound.specs.Mounted.{Mounted}
use Rattle.fsd_sound.proofs.MoreLaws.{sound_more}
use Rattle.fsd_sound.proofs.MountedLaws.{mounted_tells}
use Rattle.fsd_texts.specs.declared.fault.Fault.{Fault}
use Rattle.fsd_texts.specs.declared.script_command.ScriptCommand.{ScriptCommand}
use Rattle.fsd_texts.specs.Text.{fault_text}
use Rattle.fsd_runs.specs.declared.request.Request.{Request}
use Rattle.fsd_runs.specs.Errands.{Errand, Turn}
use Rattle.fsd_runs.specs.Leaves.{IsBrokenOff, IsOutside, IsUnsaid, MayEnd}
use Rattle.fsd_runs.specs.Runs.{Goes, changes_in, said_in, turns_of}
use Rattle.fsd_runs.specs.Sessions.{Meeting, session_over}
use Rattle.volume_contract.specs.State.{State, Ages, Known, Stands, forced_of, is_worn, volume_of}
use Rattle.volume_turns.specs.Line.{EndsWith, is_unsaid}
use Rattle.volume_turns.specs.Steps.{StaysSoundFor}
use Rattle.volume_turns.specs.Turns.{InRun, OnDisk, Undone}
use Rattle.volume_turns.specs.Whole.{Finishes, Halted, SaysOut, UnderWay}
use Rattle.volume_turns.proofs.HaltLaws.{stopped_ends, stopped_moments}
use Rattle.volume_turns.proofs.RunLaws.{earlier_in}
use Rattle.volume_turns.proofs.ScriptLaws.{in_from}
use Rattle.volume_turns.proofs.TurnLaws.{none_done, stays_held, stays_stops, worn_state}
use Rattle.volume_turns.proofs.StaysLaws.{mounted_stays}

-- a call of the input that has not failed uses the disk as little
pub uses_untaken : {D : Type 0} (M : Ghosts D) (a m : D) (takes : Bool) → LeavesDisk M takes false Wears a m → takes ≡ false → UsesDisk (M.report a) (M.report m)
uses_untaken M a m takes read untaken = record {
  sectors = read.spares.sectors;
  disk = let same = read.spares.disk in omega (arith, same);
  input = subst (λ (x : Bool). Counts x (M.report a).input_faults (M.report m).input_faults) untaken read.spares.input;
  output = read.spares.output;
}

module _ {S D : Type 0} (state : S → State) (has : S → Mounted → List Placed → Type 0) (M : Ghosts D) (v : S) (k : Known) (a m : D)
    (wears : (old new : Moment) → AreShort old.windows → Ages old new → Stands state has v k old → Stands state has v k new) (short : AreShort (M.now a).windows) (stands : Stands state has v k (M.now a))
    (on : OnDisk M k (forced_of k) a) (at_a : IsTimed M a) (at_m : IsTimed M m) (worn : Wears (M.now a) (M.now m)) (since : Since M a m) (any_moment : LeavesOnly M.moment M.left_since a m (Wears (M.now a))) where
  abbrev s : Session
  s = session_over (volume_of k)

  pub stands_worn : Stands state has v k (M.now m)
  stands_worn = wears (M.now a) (M.now m) short (record { image = worn.image; windows = worn.windows }) stands

  stays : (left : Moment) → Wears (M.now a) left → StaysSoundFor k (M.now a) left
  stays left w =
      let now = wears (M.now a) left short (record { image = w.image; windows = w.windows }) stands in
      mounted_stays k (M.now a) left now.disk w.windows w.said

  stays_run : LeavesOnly M.moment M.left_since a m (StaysSoundFor k (M.now a))
  stays_run = leaves_more M.moment M.left_since a m (Wears (M.now a)) (StaysSoundFor k (M.now a)) stays any_moment

  pub worn_stops : (turns : List Turn) → StopsOnly M a m (InRun k (forced_of k) turns (M.now a))
  worn_stops turns = stays_stops M k (forced_of k) a m at_a at_m since stays_run on turns

  pub worn_held : OnDisk M k (forced_of k) m
  worn_held = stays_held M k (forced_of k) a m at_a at_m since stays_run on

  -- ---- what goes on from there

  module _ (unworn : is_worn (state v) ≡ false) where
    goes_from : (P : Moment → Type 0) (Last : Volume → Image → Type 0) → (Last (volume_of k) (M.now m).image → Last (volume_of k) (M.now a).image) → (e : Errand) (said : List ℕ) (mets : List Meeting) (commands : List ScriptCommand)
        → Goes (in_runs k.windows) P Last e said (M.now m).image s mets commands → Goes (in_runs k.windows) P Last e said (M.now a).image s mets commands
    goes_from P Last last e said [] commands goes = last goes
    goes_from P Last last e said (met ∷ mets) [] goes = absurd goes
    goes_from P Last last e said (met ∷ mets) (c ∷ commands) goes = (
      goes.0,
      record {
        kept = stands.disk.described.kept;
        tells = mounted_tells k.mounted k.windows k.changes (forced_of k) (M.now a).image stands.disk;
        unworn = λ may full. let so = worn_state state has v k (M.now a) stands full in cc (so, unworn);
        exit = goes.1.exit;
        may = record { find = earlier_in (open_damage (M.now a).windows) (M.now a).image (M.now m).image goes.0 worn.image s c met.met goes.1.may.find; reach = goes.1.may.reach; hold = goes.1.may.hold };
      },
      goes.2,
    )

    pub goes_before : (b : D) (Last : Volume → Image → Type 0) → (Last (volume_of k) (M.now m).image → Last (volume_of k) (M.now a).image) → (e : Errand) (mets : List Meeting)
        → ((t : ℕ) → t ≤ M.moment m → Goes (in_runs k.windows) (M.left_since b t) Last e (M.now m).said (M.now m).image s mets e.commands) → (t : ℕ) → t ≤ M.moment a → Goes (in_runs k.windows) (M.left_since b t) Last e (M.now a).said (M.now a).image s mets e.commands
    goes_before b Last last e mets goes t le = let later = any_moment.later in
        subst (λ (x : List ℕ). Goes (in_runs k.windows) (M.left_since b t) Last e x (M.now a).image s mets e.commands) worn.said (goes_from (M.left_since b t) Last last e (M.now m).said mets e.commands (goes t (omega (arith, le, later))))

  module _ (b : D) where
    pub stops_before : (turns : List Turn) → StopsOnly M m b (InRun k (forced_of k) turns (M.now m)) → StopsOnly M a b (InRun k (forced_of k) turns (M.now a))
    stops_before turns moments = then_on M.moment (stops M) a m b (InRun k (forced_of k) turns (M.now a)) (worn_stops turns)
        (leaves_more M.moment (stops M) m b (InRun k (forced_of k) turns (M.now m)) (InRun k (forced_of k) turns (M.now a)) (λ left x. in_from k (forced_of k) (M.now a) (M.now m) worn turns left x) moments)

    pub out_before : {e : Errand} {mets : List Meeting} {status : ℕ} → SaysOut M e k mets m b status → SaysOut M e k mets a b status
    out_before {e} {mets} {status} out = record {
      through = out.through;
      gives = out.gives;
      done = record {
        windows = out.done.windows ∙ worn.windows;
        said = out.done.said ∙ ap (λ (x : List ℕ). x ++ said_in (turns_of e mets s)) worn.said;
        sound = out.done.sound;
        held = out.done.held;
        tells = out.done.tells;
        lasts = out.done.lasts;
        roots = out.done.roots;
        rooted = out.done.rooted;
      };
    }

    pub halted_before : {why : Fault} {turns : List Turn} → Halted M k why turns m b → Halted M k why turns a b
    halted_before {why} {turns} x = record {
      windows = x.windows ∙ worn.windows;
      whole = x.whole;
      more = x.more;
      said = x.said ∙ ap (λ (y : List ℕ). y ++ said_in (take x.whole turns)) worn.said;
      forced = x.forced;
      least = x.least;
      enough = x.enough;
      sound = x.sound;
      undone = x.undone;
      unread = x.unread;
    }

    -- a run to its end
    module _ (request : Request) (e : Errand) (before : Report) (status : ℕ) where
      abbrev Over : D → List Meeting → Type 0
      Over x mets = SaysOut M e k mets x b status ⊎ (IsUnsaid before (M.report b) status ⊎ IsBrokenOff request (Undone k (forced_of k) (turns_of e mets s)) (UnderWay M k (turns_of e mets s) b) before (M.report b) (turns_of e mets s) (M.now x) (M.now b) status)

      pub ends_before : (mets : List Meeting) → Over m mets → Over a mets
      ends_before mets (inl out) = inl (out_before out)
      ends_before mets (inr (inl u)) = inr (inl u)
      ends_before mets (inr (inr x)) = inr (inr (record {
        why = x.why;
        outside = x.outside;
        ends = x.ends;
        says = record {
          whole = x.says.whole;
          more = x.says.more;
          said = x.says.said ∙ ap (λ (y : List ℕ). y ++ (said_in (take x.says.whole (turns_of e mets s)) ++ fault_text x.why)) worn.said;
        };
        held = x.held;
        undone = x.undone;
        unread = x.unread;
      }))

      abbrev pub finishes_before : is_worn (state v) ≡ false → (Ahead : Session → Type 0) (Last : Volume → Image → Type 0) → (Last (volume_of k) (M.now m).image → Last (volume_of k) (M.now a).image) → Finishes M request e Ahead Last before k m b status → Finishes M request e Ahead Last before k a b status
      finishes_before unworn Ahead Last last f = record { mets = f.mets; ahead = f.ahead; goes = goes_before unworn b Last last e f.mets f.goes; moments = stops_before (turns_of e f.mets s) f.moments; ends = ends_before f.mets f.ends }

  -- ---- it ends there

  -- nothing is done yet, and there are turns to come
  pub halted_here : (why : Fault) (turns : List Turn) → IsSome (slice_get turns 0) → Halted M k why turns a m
  halted_here why turns some = record {
    windows = worn.windows;
    whole = 0;
    more = some;
    said = worn.said ∙ sym (append-nil (M.now a).said);
    forced = forced_of k;
    least = omega arith;
    enough = λ any. absurd (cc any);
    sound = λ c left. sound_more k.mounted.volume.layout k.windows k.changes (changes_in (take 1 turns)) (forced_of k) c.image (worn_held.each c left);
    undone = λ is. none_done k (forced_of k) turns (M.now m).image (stays (M.now m) worn).sound;
    unread = λ is. (refl, none_done k (forced_of k) turns (M.now m).image (stays (M.now m) worn).sound);
  }

  -- by the line of a fault
  module _ (b : D) (request : Request) (e : Errand) (some : IsSome (slice_get (turns_of e [] s) 0)) (before : Report) (why : Fault) (may : MayEnd why) (out : IsOutside request before (M.report b) why) (later : before.output_faults ≤ (M.report m).output_faults)
      (status : ℕ) (says : LeavesDisk M false (is_unsaid status) (Utters (fault_text why)) m b) (honest : M.honest b) (at_b : IsTimed M b) (ended : EndsWith why (M.now m) (M.now b) status) where
    pub short_there : AreShort (M.now m).windows
    short_there = subst (λ (w : Windows). AreShort w) (sym worn.windows) short

    abbrev pub finishes_ended : (Ahead : Session → Type 0) (Last : Volume → Image → Type 0) → Ahead s → Last (volume_of k) (M.now a).image → Finishes M request e Ahead Last before k a b status
    finishes_ended Ahead Last ahead last = record {
      mets = [];
      ahead = ahead;
      goes = λ t le. last;
      moments = stopped_moments M request before k (turns_of e [] s) a m b (worn_stops (turns_of e [] s)) why (halted_here why (turns_of e [] s) some) short_there stands.ends at_m at_b may out later status says honest ended;
      ends = inr (stopped_ends M request before k (turns_of e [] s) a m b (worn_stops (turns_of e [] s)) why (halted_here why (turns_of e [] s) some) short_there stands.ends at_m at_b may out later status says honest ended);
    }
