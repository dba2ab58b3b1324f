-- A command and its reply, and the commands behind it.
use Rattle.std.proofs.Common.{◌≡◌, ◌⊎◌, inl, inr, ⊎_elim, cond, true, false, ℕ, suc, ◌+◌, ◌≤◌, Bool, List, [], ◌∷◌, ◌++◌, length, take, Option, None, refl, sym, ◌∙◌, ap, subst, arith, append_assoc, length-append}
use Rattle.fsd_log.specs.Scan.{Placed}
use Rattle.volume_layout.specs.declared.layout.Layout.{Layout}
use Rattle.std.specs.Prelude.{IsTrue, Result, Ok, Err, OnOk, IfErr, slice_get}
use Rattle.std.specs.List.{list_any}
use Rattle.std.proofs.lemmas.List.{append-nil}
use Rattle.sector_disk.specs.declared.machine.Machine.{Ghosts}
use Rattle.sector_disk.specs.declared.sector.WeakRun.{WeakRun}
use Rattle.sector_disk.specs.Image.{IsWorn, open_damage, AreShort, Windows}
use Rattle.sector_disk.specs.Machine.{LeavesOnly, Moment, Report, UsesDisk, Wears}
use Rattle.sector_disk.proofs.Wear.{worn_whole}
use Rattle.sector_disk.proofs.Lags.{held_by, shows_of, stops_by}
use Rattle.sector_disk.proofs.Moments.{started, then_on, leaves_more}
use Rattle.fsd_files.specs.Answers.{Met, entry_of}
use Rattle.fsd_files.specs.Desk.{Open, Nothing, Writes, Reads, Session, next_count, opened_by}
use Rattle.fsd_files.specs.Disk.{Image, Sectors, in_runs}
use Rattle.fsd_files.specs.Files.{Change}
use Rattle.fsd_files.specs.Kept.{range_sectors}
use Rattle.fsd_files.specs.declared.reply.Reply.{Reply}
use Rattle.fsd_files.specs.Scrub.{Picks, all_data}
use Rattle.fsd_files.specs.Volume.{Volume, HasReach}
use Rattle.fsd_files.proofs.ScrubLaws.{picks_longer}
use Rattle.fsd_bytes.specs.declared.key.Key.{Key}
use Rattle.fsd_bytes.specs.declared.refusal.Refusal.{Refusal}
use Rattle.fsd_sound.specs.Mounted.{Mounted}
use Rattle.fsd_sound.specs.Sound.{EndIn, IsSound}
use Rattle.fsd_sound.proofs.MoreLaws.{sound_fewer, sound_more, wear_sound}
use Rattle.fsd_sound.proofs.MountedLaws.{mounted_sound, mounted_tells, mounted_reach}
use Rattle.fsd_texts.specs.declared.command.Command.{Command}
use Rattle.fsd_texts.specs.declared.command.Command.TheVariants as Word
use Rattle.fsd_texts.specs.declared.fault.Fault.{Fault}
use Rattle.fsd_texts.specs.declared.fault.Fault.TheVariants as Ends
use Rattle.fsd_texts.specs.declared.call.Call.{Call}
use Rattle.fsd_texts.specs.declared.call.Call.TheVariants as Calls
use Rattle.fsd_texts.specs.declared.script_command.ScriptCommand.{ScriptCommand}
use Rattle.fsd_texts.specs.declared.script_command.ScriptCommand.TheVariants.{Plain, OfClient}
use Rattle.fsd_runs.specs.Commands.{MayFind}
use Rattle.fsd_runs.specs.Errands.{Errand, Turn}
use Rattle.fsd_runs.specs.Runs.{Goes, IsStep, StoodAt, session_behind, changes_in, forced_in, said_in, turns_begun, WearsOut}
use Rattle.fsd_runs.specs.Sessions.{CallMayFind, FindsNext, HoldsRead, MayFindIn, Meeting, answer_in, changes_in_session}
use Rattle.fsd_runs.proofs.SessionLaws.{command_grows}
use Rattle.client_desk.specs.declared.client.Client.{Client}
use Rattle.scrub.proofs.LookLaws.{Any, anything}
use Rattle.volume_turns.specs.declared.turns.Halt.{Halt}
use Rattle.volume_turns.specs.declared.turns.Halt.TheVariants.{Fault as Stopped, Output}
use Rattle.sector_disk.specs.Calls.{DiskFaults, IsHeld, IsTimed, Since, StopsOnly, WritesDisk, stops}
use Rattle.volume_contract.specs.State.{State, Ages, Known, forced_of, Stands}
use Rattle.volume_turns.specs.Seats.{DoesIn, IsAnsweredIn, Seated, SitsAt, StaysIn, known_of, session_in}
use Rattle.volume_turns.specs.Steps.{StaysSoundFor, device_told}
use Rattle.volume_turns.specs.Turns.{Carries, KeepsCalls, InRun, OnDisk, RunsFrom, RunsTurns, Steps, StepsBy, StepsOk, StandsBehind, EndsBy, Said, SaysAll, Unsaid, UttersBehind, Behind, FaultTold, turn_by}
use Rattle.volume_turns.proofs.ReadLaws.{finds_earlier, some_earlier}
use Rattle.volume_turns.proofs.SeatLaws.{seat_wears}
use Rattle.volume_turns.proofs.TurnLaws.{in_saying_at, in_unsaid, in_behind, enough_from, said_before, said_more, said_nothing, stays_held, stays_stops, worn_state, state_worn}
use Rattle.volume_turns.proofs.StaysLaws.{mounted_stays}

pub picks_earlier : (may : ℕ → Bool) (i j k : Image) → IsWorn may i j → (all found : List (Key × ℕ)) → Picks j k all found → Picks i k all found
picks_earlier may i j k worn all found picks = picks_longer Any i j k k (λ s any whole. (whole.0, worn_whole may i j s whole.0 worn whole.1)) (λ s any hurt. hurt) all found (anything all) picks

-- what is found, from an earlier image on
find_earlier : (may : ℕ → Bool) (i j k : Image) → IsWorn may i j → (v : Volume) (command : Command) (met : Met) → MayFind j k v command met → MayFind i k v command met
find_earlier may i j k worn v (Word.Get key) met find = some_earlier may i j worn k (entry_of key v.entries) met.damaged find
find_earlier may i j k worn v Word.Scrub met find = picks_earlier may i j k worn (all_data v.entries) met.found find
find_earlier may i j k worn v command met find = tt

next_earlier : (may : ℕ → Bool) (i j k : Image) → IsWorn may i j → (r : Result Open Refusal) (len : ℕ) (damaged : Option ℕ) → FindsNext j k r len damaged → FindsNext i k r len damaged
next_earlier may i j k worn (Ok (Reads key runs bytes place)) len damaged find = finds_earlier may i j worn k (range_sectors runs place (next_count bytes place len)) damaged find
next_earlier may i j k worn (Ok Nothing) len damaged find = tt
next_earlier may i j k worn (Ok (Writes name long runs serial bytes)) len damaged find = tt
next_earlier may i j k worn (Err why) len damaged find = tt

call_earlier : (may : ℕ → Bool) (i j k : Image) → IsWorn may i j → (clients : List Open) (c : ℕ) (call : Call) (met : Met) → CallMayFind j k clients c call met → CallMayFind i k clients c call met
call_earlier may i j k worn clients c (Calls.Next len) met find = next_earlier may i j k worn (opened_by clients c) len met.damaged find
call_earlier may i j k worn clients c call met find = tt

pub earlier_in : (may : ℕ → Bool) (i j k : Image) → IsWorn may i j → (s : Session) (command : ScriptCommand) (met : Met) → MayFindIn j k s command met → MayFindIn i k s command met
earlier_in may i j k worn s (Plain command) met find = find_earlier may i j k worn s.volume command met find
earlier_in may i j k worn s (OfClient c call) met find = call_earlier may i j k worn s.clients c call met find

-- a command that is answered so, from an earlier moment on
module _ {S : Type 0} (state : S → State) (has : S → Mounted → List Placed → Type 0) (command : ScriptCommand) (v w : S × List Client) (k : Seated) (from a m : Moment) (stood_from : SitsAt state has v k from) (aged : Ages from a)
    (after : Seated) (reply : Reply) (is : IsAnsweredIn command (state v.0) k after a.image m.image reply) (stands : SitsAt state has w after m) where
  after_is : session_in after ≡ (answer_in is.met (session_in k) command).1
  after_is = sym (ap (λ (o : Reply × Session). o.1) is.is)

  pub stepped : (Passed : Moment → Type 0) (said : List ℕ) → StoodAt Passed said m.image → IsStep (in_runs k.windows) Passed said from.image m.image (session_in k) command is.met
  stepped Passed said passed = record {
    kept = stood_from.stands.disk.described.kept;
    tells = mounted_tells k.mounted k.windows k.changes (forced_of (known_of k)) from.image stood_from.stands.disk;
    unworn = λ may worn. let so = worn_state state has v.0 (known_of k) from stood_from.stands worn in let not_so = is.unworn may in cc (so, not_so);
    exit = passed;
    may = record {
      find = earlier_in (open_damage from.windows) from.image a.image m.image aged.image (session_in k) command is.met.met is.find;
      reach = subst (λ (x : Session). HasReach x.volume) after_is (mounted_reach after.mounted after.windows after.changes (forced_of (known_of after)) m.image stands.stands.disk);
      hold = subst (λ (x : Session). HoldsRead x) after_is is.hold;
    };
  }

module _ {S D : Type 0} (state : S → State) (has : S → Mounted → List Placed → Type 0) (M : Ghosts D)
    (wears : (s : S) (k : Known) (old new : Moment) → AreShort old.windows → Ages old new → Stands state has s k old → Stands state has s k new)
    (short : (m : D) → M.honest m → AreShort (M.now m).windows)
    (timed : (m : D) → M.honest m → IsTimed M m) (e : Errand)
    (forced : (x : Meeting) (s : Session) (c : ScriptCommand) → IsTrue (e.forces (answer_in x s c).0) → (answer_in x s c).1.volume.unforced ≡ 0) where
  -- ---- one command, from its answer on

  module _ (command : ScriptCommand) (v w : S × List Client) (a m b : D) (k : Seated) (f : ℕ) (from : Moment) (stood_from : SitsAt state has v k from) (aged : Ages from (M.now a)) (stood : SitsAt state has v k (M.now a))
      (fault : Option ℕ) (disk : WritesDisk M fault (StaysIn state has v) a m) (honest : M.honest m) (since : Since M m b) (held : OnDisk M (known_of k) f a) where
    at_a : IsTimed M a
    at_a = timed a (disk.trust.honest honest)

    at_m : IsTimed M m
    at_m = timed m honest

    stays_run : LeavesOnly M.moment M.left_since a m (StaysSoundFor (known_of k) (M.now a))
    stays_run = leaves_more M.moment M.left_since a m (StaysIn state has v (M.now a)) (StaysSoundFor (known_of k) (M.now a)) (λ left stays. stays k stood) (disk.any_moment honest)

    pub before_it : (turns : List Turn) → StopsOnly M a m (InRun (known_of k) f turns (M.now a))
    before_it turns = stays_stops M (known_of k) f a m at_a at_m (disk.since honest) stays_run held turns

    held_there : OnDisk M (known_of k) f m
    held_there = stays_held M (known_of k) f a m at_a at_m (disk.since honest) stays_run held

    module _ (after : Seated) (reply : Reply) (is : IsAnsweredIn command (state v.0) k after (M.now a).image (M.now m).image reply) (stands : SitsAt state has w after (M.now m)) where
      abbrev out : Reply × Session
      out = answer_in is.met (session_in k) command

      abbrev turn : Turn
      turn = turn_by e (session_in k) command is.met

      pub reply_is : out.0 ≡ reply
      reply_is = ap (λ (o : Reply × Session). o.0) is.is

      pub session_is : session_in after ≡ out.1
      session_is = sym (ap (λ (o : Reply × Session). o.1) is.is)

      pub changes_is : after.changes ≡ k.changes ++ turn.changes
      changes_is = is.changes ∙ ap (λ (r : Reply). k.changes ++ changes_in_session (session_in k) command r) (sym reply_is)

      passed : (t : ℕ) → t ≤ M.moment a → StoodAt (M.left_since b t) (M.now a).said (M.now m).image
      passed t le =
          let later = (disk.any_moment honest).later in
          let on : t ≤ M.moment m = omega (arith, le, later) in
          record { moment = M.now m; passed = since t (M.now m) on (at_m.history.sooner t (M.moment m) (M.now m) on at_m.here); image = refl; so_far = disk.quiet honest }

      step_is : (t : ℕ) → t ≤ M.moment a → IsStep (in_runs k.windows) (M.left_since b t) (M.now a).said from.image (M.now m).image (session_in k) command is.met
      step_is t le = stepped state has command v w k from (M.now a) (M.now m) stood_from aged after reply is stands (M.left_since b t) (M.now a).said (passed t le)

      -- a command that keeps the layout
      module _ (layout : (state w.0).layout ≡ (state v.0).layout) where
        grows : forced_of (known_of k) ≤ forced_of (known_of after)
        grows =
            let more = command_grows is.met (session_in k) command in
            let same : after.mounted.volume.unforced ≡ out.1.volume.unforced = ap (λ (x : Session). x.volume.unforced) session_is in
            let sum = length-append k.changes turn.changes in
            let long : length after.changes ≡ length (k.changes ++ turn.changes) = ap (λ (h : List Change). length h) changes_is in
            omega (arith, more, same, sum, long)

        few : f ≤ forced_of (known_of after)
        few = let most = held.most in omega (arith, most, grows)

        layout_is : after.mounted.volume.layout ≡ k.mounted.volume.layout
        layout_is = stands.stands.fits.layout ∙ layout ∙ sym stood.stands.fits.layout

        every : IsTrue turn.forces → forced_of (known_of after) ≡ length after.changes
        every all =
            let none = forced is.met (session_in k) command all in
            let same : after.mounted.volume.unforced ≡ out.1.volume.unforced = ap (λ (x : Session). x.volume.unforced) session_is in
            omega (arith, none, same)

        forces_is : e.forces reply ≡ turn.forces
        forces_is = ap (λ (r : Reply). e.forces r) (sym reply_is)

        -- what is told as forced behind it
        abbrev told_if : Bool → ℕ
        told_if forces = cond forces (forced_of (known_of after)) f

        least_if : (forces : Bool) → f ≤ told_if forces
        least_if true = few
        least_if false = omega arith

        all_if : (forces : Bool) → (IsTrue forces → forced_of (known_of after) ≡ length after.changes) → IsTrue forces → told_if forces ≡ length after.changes
        all_if true all is_so = all refl
        all_if false all is_so = absurd (cc is_so)

        most_if : (forces : Bool) → told_if forces ≤ forced_of (known_of after)
        most_if true = omega arith
        most_if false = few

        pub behind_it : Carries (known_of k) (known_of after) f (told_if turn.forces) turn
        behind_it = record { layout = layout_is; windows = is.windows; changes = changes_is; least = least_if turn.forces; all = all_if turn.forces every }

        abbrev IsSoundBehind : ℕ → Moment → Type 0
        IsSoundBehind n c = IsSound after.mounted.volume.layout after.windows after.changes n c.image

        -- so far for these changes too
        held_here : (c : Moment) → IsSound k.mounted.volume.layout k.windows k.changes f c.image → IsSoundBehind f c
        held_here c sound =
            subst (λ (l : Layout). IsSound l after.windows after.changes f c.image) (sym layout_is)
            (subst (λ (w : List WeakRun). IsSound k.mounted.volume.layout w after.changes f c.image) (sym is.windows)
            (subst (λ (h : List Change). IsSound k.mounted.volume.layout k.windows h f c.image) (sym changes_is) (sound_more k.mounted.volume.layout k.windows k.changes turn.changes f c.image sound)))

        fewer : (c : Moment) → IsSoundBehind (forced_of (known_of after)) c → IsSoundBehind f c
        fewer c sound = sound_fewer after.mounted.volume.layout after.windows after.changes f (forced_of (known_of after)) c.image few sound

        -- while its reply is said
        module _ (at_b : IsTimed M b) (run : LeavesOnly M.moment M.left_since m b (UttersBehind (e.forces reply) (e.says reply) (M.now m))) where
          abbrev Uttered : Moment → Type 0
          Uttered c = UttersBehind (e.forces reply) (e.says reply) (M.now m) c

          said_is : e.says reply ≡ turn.said
          said_is = ap (λ (r : Reply). e.says r) (sym reply_is)

          said_on : (left : Moment) (u : Uttered left) → left.said ≡ (M.now a).said ++ take u.utters.heard turn.said
          said_on left u = u.utters.said ∙ ap (λ (x : List ℕ). x ++ take u.utters.heard (e.says reply)) (disk.quiet honest) ∙ ap (λ (x : List ℕ). (M.now a).said ++ take u.utters.heard x) said_is

          -- the disk as it stood behind the command, worn
          uttered_sound : (left : Moment) → Uttered left → IsSoundBehind (forced_of (known_of after)) left
          uttered_sound left u =
              let at = seat_wears state has wears w after (M.now m) left (short m honest) (record { image = u.utters.image; windows = u.utters.windows }) stands in
              mounted_sound after.mounted after.windows after.changes (forced_of (known_of after)) left.image at.stands.disk

          abbrev Leaves : List Turn → Moment → Type 0
          Leaves rest left = InRun (known_of k) f (turn ∷ rest) (M.now a) left

          saying : (rest : List Turn) (left : Moment) → Uttered left → Leaves rest left
          saying rest left u = in_saying_at (known_of k) (known_of after) f turn rest layout_is is.windows changes_is (forced_of (known_of after)) few (M.now a) left (u.utters.windows ∙ disk.windows honest) (uttered_sound left u) every u.utters.heard (said_on left u)

          -- with the image of an earlier moment
          module _ (rest : List Turn) (last shown : Moment) (u : Uttered last) (lately : M.moment m ≤ last.synced → Uttered shown) (either : IsSoundBehind f shown ⊎ Uttered shown) where
            sound_f : IsSoundBehind f shown
            sound_f = ⊎_elim (λ was. was) (λ now. fewer shown (uttered_sound shown now)) either

            unforced_pair : (turn.forces ≡ false) → Leaves rest (shows_of shown last)
            unforced_pair none = in_saying_at (known_of k) (known_of after) f turn rest layout_is is.windows changes_is f (omega arith) (M.now a) (shows_of shown last) (u.utters.windows ∙ disk.windows honest) sound_f (λ all. absurd (cc (all, none))) u.utters.heard (said_on last u)

            forced_pair : (last.said ≡ (M.now m).said) ⊎ ((M.now m).time ≤ last.synced) → Leaves rest (shows_of shown last)
            forced_pair (inl none) = in_unsaid (known_of k) (known_of after) f turn rest layout_is is.windows changes_is f (omega arith) (M.now a) (shows_of shown last) (u.utters.windows ∙ disk.windows honest) sound_f (none ∙ disk.quiet honest)
            forced_pair (inr synced) = in_saying_at (known_of k) (known_of after) f turn rest layout_is is.windows changes_is (forced_of (known_of after)) few (M.now a) (shows_of shown last) (u.utters.windows ∙ disk.windows honest)
                (uttered_sound shown (lately (let at = at_m.dated in omega (arith, synced, at)))) every u.utters.heard (said_on last u)

            pair_by : (forces : Bool) → forces ≡ turn.forces → Leaves rest (shows_of shown last)
            pair_by true is_so = forced_pair (u.synced (forces_is ∙ sym is_so))
            pair_by false is_so = unforced_pair (sym is_so)

            pair : Leaves rest (shows_of shown last)
            pair = pair_by turn.forces refl

          held_behind : IsHeld M m (IsSoundBehind f)
          held_behind c left = held_here c (held_there.each c left)

          pub in_both : (rest : List Turn) → StopsOnly M a b (InRun (known_of k) f (turn ∷ rest) (M.now a))
          in_both rest = then_on M.moment (stops M) a m b (Leaves rest) (before_it (turn ∷ rest))
              (stops_by M m b Uttered (IsSoundBehind f) at_m at_b since run held_behind (Leaves rest) (saying rest) (λ last shown u left sooner lately either. pair rest last shown u lately either))

          -- however it ended
          held_unsaid : IsHeld M b (IsSoundBehind f)
          held_unsaid = held_by M m b Uttered (IsSoundBehind f) at_m at_b since run held_behind (IsSoundBehind f) (λ c was. was) (λ c u. fewer c (uttered_sound c u))

          held_if : (forces : Bool) → forces ≡ turn.forces → (IsTrue (e.forces reply) → (M.now m).time ≤ (M.now b).synced) → IsHeld M b (IsSoundBehind (told_if forces))
          held_if false is_so synced = held_unsaid
          held_if true is_so synced = λ c left. uttered_sound c (run.each c (at_b.history.sooner (M.moment m) (M.now b).synced c (let late = synced (forces_is ∙ sym is_so) in let at = at_m.dated in omega (arith, late, at)) left))

          pub step_ok : SaysAll (e.says reply) (M.now m) (M.now b) → (IsTrue (e.forces reply) → (M.now m).time ≤ (M.now b).synced) → StepsOk state has M e k f from command a b w
          step_ok says synced = record {
            met = is.met;
            after = after;
            mid = M.now m;
            step = step_is;
            is = session_is;
            told = told_if turn.forces;
            carries = behind_it;
            held = record { most = most_if turn.forces; each = held_if turn.forces refl synced };
            stands = stands;
            ages = says.ages;
            open_windows = says.ages.windows ∙ disk.windows honest;
            said = says.said ∙ ap (λ (x : List ℕ). x ++ e.says reply) (disk.quiet honest) ∙ ap (λ (x : List ℕ). (M.now a).said ++ x) said_is;
            moments = in_both;
          }

          pub step_ok_met : (says : SaysAll (e.says reply) (M.now m) (M.now b)) (synced : IsTrue (e.forces reply) → (M.now m).time ≤ (M.now b).synced) → (step_ok says synced).met ≡ is.met
          unfolding step_ok
          step_ok_met says synced = refl

          -- what was done is on no disk yet
          spared_after : Wears (M.now m) (M.now b) → IsSound k.mounted.volume.layout k.windows k.changes f (M.now b).image
          spared_after worn = sound_fewer k.mounted.volume.layout k.windows k.changes f (forced_of (known_of k)) (M.now b).image held.most
              (wear_sound k.mounted.volume.layout k.windows k.changes (forced_of (known_of k)) (M.now m).windows (M.now m).image (M.now b).image (short m honest)
              (subst (λ (w : Windows). EndIn w k.windows) (sym (disk.windows honest)) stood.stands.ends) worn.image (disk.exit honest k stood).sound)

          unsaid_so : (why : Fault) → Wears (M.now m) (M.now b) → Said M (known_of k) f why (turn ∷ []) a b
          unsaid_so why worn = said_before M (known_of k) (known_of after) f turn [] layout_is is.windows changes_is a b (worn.windows ∙ disk.windows honest) held_unsaid why (λ is. spared_after worn) (worn.said ∙ disk.quiet honest)

          -- it was not said
          pub step_unsaid : (end : Halt) → Unsaid (M.now m) (M.now b) end → (more : List ScriptCommand) → RunsFrom state has M e k f from (command ∷ more) a b w (Err end)
          step_unsaid (Stopped Ends.Memory) unsaid more = record { mets = is.met ∷ []; goes = λ t le. ((M.now m).image, step_is t le, tt); moments = in_both; ends = (tt, unsaid_so Ends.Memory unsaid) }
          step_unsaid (Stopped (Ends.Device s)) unsaid more = record { mets = is.met ∷ []; goes = λ t le. ((M.now m).image, step_is t le, tt); moments = in_both; ends = (tt, unsaid_so (Ends.Device s) unsaid) }
          step_unsaid Output unsaid more = record { mets = is.met ∷ []; goes = λ t le. ((M.now m).image, step_is t le, tt); moments = in_both; ends = tt }
          step_unsaid (Stopped fault) unsaid more = absurd unsaid

          -- by how its reply was said
          pub step_said : (r : Result (Unit {0}) Halt) → OnOk r (SaysAll (e.says reply) (M.now m) (M.now b)) → OnOk r (IsTrue (e.forces reply) → (M.now m).time ≤ (M.now b).synced) → IfErr r (λ end. Unsaid (M.now m) (M.now b) end) → StepsBy state has M e k f from command a b w r
          step_said (Ok x) said synced unsaid = step_ok said synced
          step_said (Err end) said synced unsaid = step_unsaid end unsaid

    -- it was not answered
    pub step_fault : (why : Fault) → DoesIn state has command v w k (M.now a) (M.now m) (Err why) → (more : List ScriptCommand) → RunsFrom state has M e k f from (command ∷ more) a m w (Err (Stopped why))
    step_fault (Ends.Device s) does more = record {
      mets = [];
      goes = λ t le. tt;
      moments = before_it;
      ends = (tt, said_nothing M (known_of k) f (Ends.Device s) a m at_m held_there (disk.windows honest) (disk.quiet honest));
    }
    step_fault Ends.Memory does more = record {
      mets = [];
      goes = λ t le. tt;
      moments = before_it;
      ends = (tt, said_nothing M (known_of k) f Ends.Memory a m at_m held_there (disk.windows honest) (disk.quiet honest));
    }
    step_fault Ends.WornOut does more = record {
      mets = [];
      goes = λ t le. state_worn state has v.0 (known_of k) from stood_from.stands does.0.worn;
      moments = before_it;
      ends = (
        does.0.may,
        record {
          after = k;
          is = refl;
          windows = refl;
          changes = sym (append-nil k.changes);
          said = disk.quiet honest ∙ sym (append-nil (M.now a).said);
          open_windows = disk.windows honest;
          layout = refl;
          told = f;
          least = omega arith;
          forced = λ any. absurd (cc any);
          held = held_there;
          stands = does.1;
        },
      );
    }
    step_fault why does more = absurd does

    pub step_fault_mets : (why : Fault) (does : DoesIn state has command v w k (M.now a) (M.now m) (Err why)) (more : List ScriptCommand) → (step_fault why does more).mets ≡ []
    unfolding step_fault
    step_fault_mets (Ends.Device s) does more = refl
    step_fault_mets Ends.Memory does more = refl
    step_fault_mets Ends.WornOut does more = refl
    step_fault_mets why does more = absurd does

-- ---- commands one after another

module _ {H : Sectors} {P Q : Moment → Type 0} (wider : (c : Moment) → P c → Q c) where
  step_wider : (said : List ℕ) (i j : Image) (s : Session) (command : ScriptCommand) (x : Meeting) → IsStep H P said i j s command x → IsStep H Q said i j s command x
  step_wider said i j s command x step = record {
    kept = step.kept;
    tells = step.tells;
    unworn = step.unworn;
    exit = record { moment = step.exit.moment; passed = wider step.exit.moment step.exit.passed; image = step.exit.image; so_far = step.exit.so_far };
    may = step.may;
  }

-- what two calls keep, one after the other
pub since_on : {D : Type 0} (M : Ghosts D) (a p b : D) → (M.honest b → M.honest p) → (M.honest p → Since M a p) → (M.honest p → M.moment a ≤ M.moment p) → (M.honest b → Since M p b) → M.honest b → Since M a b
since_on M a p b back first later second h t left le was = let reached = later (back h) in second h t left (omega (arith, le, reached)) (first (back h) t left le was)

pub later_on : {D : Type 0} (M : Ghosts D) (a p b : D) → (M.honest b → M.honest p) → (M.honest p → M.moment a ≤ M.moment p) → (M.honest b → M.moment p ≤ M.moment b) → M.honest b → M.moment a ≤ M.moment b
later_on M a p b back first second h = let x = first (back h) in let y = second h in omega (arith, x, y)

pub follows_then : {D : Type 0} (M : Ghosts D) (a b c : D) → KeepsCalls M a b → KeepsCalls M b c → KeepsCalls M a c
follows_then M a b c x y = record {
  honest = λ h. x.honest (y.honest h);
  since = λ h t left le was. let later = x.later (y.honest h) in y.since h t left (omega (arith, le, later)) (x.since (y.honest h) t left le was);
  later = λ h. let p = x.later (y.honest h) in let q = y.later h in omega (arith, p, q);
}

module _ {S D : Type 0} (state : S → State) (has : S → Mounted → List Placed → Type 0) (M : Ghosts D) (e : Errand) where
  pub runs_nil : (v : S × List Client) (a : D) → ((s : S) (k : Known) (old new : Moment) → AreShort old.windows → Ages old new → Stands state has s k old → Stands state has s k new)
      → (M.honest a → IsTimed M a) → (M.honest a → (from : Moment) → Ages from (M.now a) → AreShort from.windows) → RunsTurns state has M e [] v a v a (Ok tt)
  runs_nil v a wears timed short honest k f from stood aged held =
      let now = seat_wears state has wears v k from (M.now a) (short honest from aged) aged stood in
      let at = timed honest in
      record {
        mets = [];
        goes = λ t le. tt;
        moments = λ rest. stays_stops M (known_of k) f a a at at (λ t left le was. was) (started M.moment M.left_since a (M.now a) (StaysSoundFor (known_of k) (M.now a)) at.only
            (mounted_stays (known_of k) (M.now a) (M.now a) now.stands.disk refl refl)) held rest;
        ends = (refl, record { after = k; is = refl; windows = refl; changes = sym (append-nil k.changes); said = sym (append-nil (M.now a).said); open_windows = refl; layout = refl; told = f; least = omega arith; forced = λ any. absurd (cc any); held = held; stands = now });
      }

  pub runs_nil_mets : (v : S × List Client) (a : D) (wears : (s : S) (k : Known) (old new : Moment) → AreShort old.windows → Ages old new → Stands state has s k old → Stands state has s k new) (timed : M.honest a → IsTimed M a)
      (short : M.honest a → (from : Moment) → Ages from (M.now a) → AreShort from.windows) (honest : M.honest a) (k : Seated) (f : ℕ) (from : Moment) (stood : SitsAt state has v k from) (aged : Ages from (M.now a)) (held : OnDisk M (known_of k) f a)
      → (runs_nil v a wears timed short honest k f from stood aged held).mets ≡ []
  unfolding runs_nil
  runs_nil_mets v a wears timed short honest k f from stood aged held = refl

  module _ (command : ScriptCommand) (commands : List ScriptCommand) (v w z : S × List Client) (a m b : D) (result : Result (Unit {0}) Halt) (follows : KeepsCalls M m b) (later : M.honest m → M.moment a ≤ M.moment m)
      (steps : Steps state has M e command v a w m (Ok tt)) (runs : RunsTurns state has M e commands w m z b result) where
    module _ (honest : M.honest b) (k : Seated) (f : ℕ) (from : Moment) (stood : SitsAt state has v k from) (aged : Ages from (M.now a)) (held : OnDisk M (known_of k) f a) where
      ok : StepsOk state has M e k f from command a m w
      ok = steps (follows.honest honest) k f from stood aged held

      rest : RunsFrom state has M e ok.after ok.told ok.mid commands m b z result
      rest = runs honest ok.after ok.told ok.mid ok.stands ok.ages ok.held

      abbrev this_turn : Turn
      this_turn = turn_by e (session_in k) command ok.met

      abbrev next : Session
      next = (answer_in ok.met (session_in k) command).1

      -- the turns behind it
      abbrev turns : List Turn
      turns = turns_begun e rest.mets next commands

      same_turns : turns_begun e rest.mets (session_in ok.after) commands ≡ turns
      same_turns = ap (λ (x : Session). turns_begun e rest.mets x commands) ok.is

      goes : (t : ℕ) → t ≤ M.moment a → Goes (in_runs k.windows) (M.left_since b t) (Behind result) e (M.now a).said from.image (session_in k) (ok.met ∷ rest.mets) (command ∷ commands)
      goes t le =
          let at_m = later (follows.honest honest) in
          let on : t ≤ M.moment m = omega (arith, le, at_m) in (
            ok.mid.image,
            step_wider (λ c was. follows.since honest t c on was) (M.now a).said from.image ok.mid.image (session_in k) command ok.met (ok.step t le),
            subst (λ (x : Session). Goes (in_runs k.windows) (M.left_since b t) (Behind result) e ((M.now a).said ++ this_turn.said) ok.mid.image x rest.mets commands) ok.is
                (subst (λ (x : List ℕ). Goes (in_runs k.windows) (M.left_since b t) (Behind result) e x ok.mid.image (session_in ok.after) rest.mets commands) ok.said
                (subst (λ (x : List WeakRun). Goes (in_runs x) (M.left_since b t) (Behind result) e (M.now m).said ok.mid.image (session_in ok.after) rest.mets commands) ok.carries.windows (rest.goes t on))),
          )

      moments : (more : List Turn) → StopsOnly M a b (InRun (known_of k) f (this_turn ∷ (turns ++ more)) (M.now a))
      moments more = then_on M.moment (stops M) a m b (InRun (known_of k) f (this_turn ∷ (turns ++ more)) (M.now a)) (ok.moments (turns ++ more))
          (leaves_more M.moment (stops M) m b (InRun (known_of ok.after) ok.told (turns ++ more) (M.now m)) (InRun (known_of k) f (this_turn ∷ (turns ++ more)) (M.now a))
          (λ left run. in_behind (known_of k) (known_of ok.after) f ok.told this_turn (turns ++ more) ok.carries (M.now a) (M.now m) left ok.open_windows ok.said run)
          (subst (λ (ts : List Turn). StopsOnly M m b (InRun (known_of ok.after) ok.told (ts ++ more) (M.now m))) same_turns (rest.moments more)))

      stands_behind : StandsBehind state has M e ok.after ok.told rest.mets commands z m b → StandsBehind state has M e k f (ok.met ∷ rest.mets) (command ∷ commands) z a b
      stands_behind x = record {
        after = x.after;
        is = x.is ∙ ap (λ (y : Session). session_behind rest.mets y commands) ok.is;
        windows = x.windows ∙ ok.carries.windows;
        changes = x.changes ∙ ap (λ (h : List Change). h ++ changes_in (turns_begun e rest.mets (session_in ok.after) commands)) ok.carries.changes
            ∙ append_assoc k.changes this_turn.changes (changes_in (turns_begun e rest.mets (session_in ok.after) commands)) ∙ ap (λ (ts : List Turn). k.changes ++ (this_turn.changes ++ changes_in ts)) same_turns;
        said = x.said ∙ ap (λ (y : List ℕ). y ++ said_in (turns_begun e rest.mets (session_in ok.after) commands)) ok.said
            ∙ append_assoc (M.now a).said this_turn.said (said_in (turns_begun e rest.mets (session_in ok.after) commands)) ∙ ap (λ (ts : List Turn). (M.now a).said ++ (this_turn.said ++ said_in ts)) same_turns;
        open_windows = x.open_windows ∙ ok.open_windows;
        layout = x.layout ∙ ok.carries.layout;
        told = x.told;
        least = let p = ok.carries.least in let q = x.least in omega (arith, p, q);
        forced = λ any. enough_from (known_of k) (known_of ok.after) f ok.told this_turn ok.carries turns x.told x.least (subst (λ (ts : List Turn). IsTrue (list_any (λ u. u.forces) ts) → length ok.after.changes + forced_in ts ≤ x.told) same_turns x.forced) any;
        held = x.held;
        stands = x.stands;
      }

      said_behind : (why : Fault) → Said M (known_of ok.after) ok.told why (turns_begun e rest.mets (session_in ok.after) commands) m b → Said M (known_of k) f why (this_turn ∷ turns) a b
      said_behind why x = said_more M (known_of k) (known_of ok.after) f ok.told this_turn turns ok.carries a m b ok.open_windows ok.said why (subst (λ (ts : List Turn). Said M (known_of ok.after) ok.told why ts m b) same_turns x)

      ends : (r : Result (Unit {0}) Halt) → EndsBy state has M e ok.after ok.told rest.mets commands z m b r → EndsBy state has M e k f (ok.met ∷ rest.mets) (command ∷ commands) z a b r
      ends (Ok x) is = (ap (λ (n : ℕ). suc n) is.0, stands_behind is.1)
      ends (Err (Stopped Ends.WornOut)) is = (subst (λ (x : Session). WearsOut (session_behind rest.mets x commands) (slice_get commands (length rest.mets))) ok.is is.0, stands_behind is.1)
      ends (Err Output) is = tt
      ends (Err (Stopped fault)) is = (is.0, said_behind fault is.1)

      pub from_both : RunsFrom state has M e k f from (command ∷ commands) a b z result
      from_both = record { mets = ok.met ∷ rest.mets; goes = goes; moments = moments; ends = ends result rest.ends }

      pub from_both_mets : from_both.mets ≡ (steps (follows.honest honest) k f from stood aged held).met ∷ (let one = steps (follows.honest honest) k f from stood aged held in (runs honest one.after one.told one.mid one.stands one.ages one.held).mets)
      unfolding from_both ok rest
      from_both_mets = refl

    pub runs_then : RunsTurns state has M e (command ∷ commands) v a z b result
    runs_then honest k f from stood aged held = from_both honest k f from stood aged held

  -- one that ends the run
  pub runs_stop : (command : ScriptCommand) (commands : List ScriptCommand) (v z : S × List Client) (a b : D) (end : Halt) → Steps state has M e command v a z b (Err end) → RunsTurns state has M e (command ∷ commands) v a z b (Err end)
  runs_stop command commands v z a b end steps honest k f from stood aged held = steps honest k f from stood aged held commands

-- ---- counts

pub told_done : (old new : Report) → UsesDisk old new → DiskFaults None old new → FaultTold {T = Unit {0}} old new (Ok tt)
told_done old new uses none = record { sectors = uses.sectors; disk = none; input = uses.input; later = let same = uses.output in omega (arith, same); output = uses.output }

pub told_fault : (old new : Report) (fault : Fault) → UsesDisk old new → DiskFaults (device_told fault) old new → FaultTold {T = Unit {0}} old new (Err (Stopped fault))
told_fault old new fault uses faults = record { sectors = uses.sectors; disk = faults; input = uses.input; later = omega (arith, uses.output); output = uses.output }

pub on_ok_said : {T : Type 0} {H : Type 0} (P : Type 0) (r : Result T Halt) → H → OnOk r (H → P) → OnOk r P
on_ok_said P (Ok x) h fact = fact h
on_ok_said P (Err e) h fact = tt

pub on_err_said : {T : Type 0} {H : Type 0} (P : Halt → Type 0) (r : Result T Halt) → H → IfErr r (λ end. H → P end) → IfErr r P
on_err_said P (Ok x) h fact = tt
on_err_said P (Err e) h fact = fact h
