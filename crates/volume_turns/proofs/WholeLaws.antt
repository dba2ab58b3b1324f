-- What a whole run leaves: its mount, and what it did over the mounted volume.
use Rattle.std.proofs.Common.{◌≡◌, ◌⊎◌, inl, inr, Bool, false, ℕ, ◌+◌, ◌<◌, ◌≤◌, List, [], ◌∷◌, ◌++◌, length, take, Option, Some, None, refl, sym, ◌∙◌, ap, subst, arith, length-append}
use Rattle.fsd_log.specs.Scan.{Placed}
use Rattle.std.specs.Prelude.{IsSome, Ok, Err, slice_get}
use Rattle.std.proofs.lemmas.Bool.{eq-eqb}
use Rattle.std.proofs.lemmas.List.{append-nil}
use Rattle.volume_layout.specs.declared.layout.Layout.{Layout}
use Rattle.sector_disk.specs.declared.machine.Machine.{Ghosts}
use Rattle.sector_disk.specs.declared.sector.WeakRun.{WeakRun}
use Rattle.sector_disk.specs.Calls.{Counts, DiskFaults, IsHeld, IsTimed, LeavesDisk, Since, StopsOnly, stops}
use Rattle.sector_disk.specs.Image.{AreShort, IsWorn, Windows, open_damage}
use Rattle.sector_disk.specs.Machine.{LeavesOnly, Moment, Report, Rose, UsesDisk, Utters}
use Rattle.sector_disk.proofs.Lags.{held_by, shows_of, stops_by}
use Rattle.sector_disk.proofs.Moments.{leaves_more, started, then_on}
use Rattle.fsd_files.specs.Disk.{Image, in_runs}
use Rattle.fsd_files.specs.Files.{Change}
use Rattle.fsd_files.specs.Volume.{Volume}
use Rattle.fsd_sound.specs.Laid.{HasOwnRoots}
use Rattle.fsd_sound.specs.Mounted.{IsMounted, Mounted, telling_of}
use Rattle.fsd_sound.specs.Mounting.{device_of_mount}
use Rattle.fsd_sound.specs.Shown.{told}
use Rattle.fsd_sound.specs.Sound.{EachSaid, EndIn, IsPrefixOf, IsSound, Says, SaysNoMore, weak_of}
use Rattle.fsd_sound.specs.Windows.{IsNamedSince}
use Rattle.fsd_sound.proofs.WindowLaws.{named_on}
use Rattle.fsd_sound.specs.declared.fault.MountFault.{MountFault}
use Rattle.fsd_sound.specs.declared.fault.MountFault.TheVariants as Refused
use Rattle.fsd_sound.proofs.MoreLaws.{sound_more, wear_sound}
use Rattle.fsd_sound.proofs.MountedLaws.{fresh_mounted}
use Rattle.fsd_sound.proofs.WindowLaws.{last_snoc}
use Rattle.fsd_texts.specs.declared.fault.Fault.{Fault}
use Rattle.fsd_texts.specs.declared.fault.Fault.TheVariants as Ends
use Rattle.fsd_texts.specs.Text.{fault_text}
use Rattle.fsd_runs.specs.declared.request.Request.{Request}
use Rattle.fsd_runs.specs.declared.request.Request.TheVariants.{One, Put, Restore}
use Rattle.fsd_runs.specs.Errands.{ByFault, Cut, Turn, blank, errand_of, fault_status}
use Rattle.fsd_sound.proofs.SaidLaws.{says_no_more_then, worn_says}
use Rattle.fsd_runs.specs.Leaves.{CutCause, IfOne, IsBrokenOff, IsOutside, IsReplied, IsSpent, IsUnderWay, IsUndone, IsRooted, IsUnsaid, LeavesBy, LeavesRoots, Left, LeftBefore, LeftByTurns, SaysFault, Unbegun, Whatever}
use Rattle.fsd_runs.specs.Sessions.{session_over}
use Rattle.fsd_runs.specs.Runs.{Goes, IsCutAt, IsThrough, Course, GoesSo, answered, changes_in, errand_in, run_end, run_status, run_turns, said_in, turns_of}
use Rattle.volume_contract.specs.Mount.{EndsBefore, EndsSettled, Excuses, ExcusesOf, MountsAs, SettledDisk, SoundAbout, SoundBefore, SoundSince}
use Rattle.volume_contract.specs.State.{State, Known, Stands, forced_of, none_open, volume_of}
use Rattle.volume_turns.specs.declared.turns.Halt.TheVariants.{Fault as Stopped}
use Rattle.volume_turns.specs.Line.{EndsWith, is_unsaid}
use Rattle.volume_turns.specs.Once.{end_by_mount}
use Rattle.volume_turns.specs.Steps.{SaysEither}
use Rattle.volume_turns.specs.Turns.{EndsAtOnce, InRun, OnDisk, SaysAll, FaultTold, Undone}
use Rattle.volume_turns.specs.Whole.{GoesUnsaid, Halted, RunsOut, SaysOut, UnderWay}
use Rattle.volume_turns.proofs.HaltLaws.{broken_ends, broken_moments, held_behind, stops_saying}
use Rattle.volume_turns.proofs.LineLaws.{at_once_ends, excused}
use Rattle.volume_turns.proofs.OneLaws.{fault_line, line_says}
use Rattle.volume_turns.proofs.MountLaws.{as_known, before_left, known_length, known_sound, nothing_said, own_roots, run_left, run_under_way, run_undone, since_left, sound_to, starts}
use Rattle.volume_turns.proofs.RootedLaws.{leaves_roots, mounted_says, was_stops}
use Rattle.volume_turns.proofs.RunLaws.{told_fault}
use Rattle.volume_turns.proofs.StaysLaws.{own_either}
use Rattle.volume_turns.proofs.TurnLaws.{in_before_at, none_done, now_held}
use Rattle.volume_turns.proofs.StatusLaws.{same_device}

-- what was said before the mount is all that was said until it had settled
broken_on_said : (a b : Report) (request : Request) (Over Now : ℕ → Image → Type 0) (Way To : ℕ → Type 0) (turns : List Turn) (old mid new : Moment) (status : ℕ) → mid.said ≡ old.said → ((whole : ℕ) (i : Image) → Over whole i → Now whole i) → ((whole : ℕ) → Way whole → To whole) → IsBrokenOff request Over Way a b turns mid new status → IsBrokenOff request Now To a b turns old new status
broken_on_said a b request Over Now Way To turns old mid new status quiet on held x = record {
  why = x.why;
  outside = x.outside;
  ends = x.ends;
  says = record {
    whole = x.says.whole;
    more = x.says.more;
    said = x.says.said ∙ ap (λ (y : List ℕ). y ++ (said_in (take x.says.whole turns) ++ fault_text x.why)) quiet;
  };
  held = held x.says.whole x.held;
  undone = λ is. on x.says.whole new.image (x.undone is);
  unread = λ is. ((x.unread is).0, on x.says.whole new.image (x.unread is).1);
}

one_both : (request : Request) {P Q R : Type 0} → (P → Q → R) → IfOne request P → IfOne request Q → IfOne request R
one_both (One command) both p q = both p q
one_both request both p q = tt

one_so : (request : Request) {P : Type 0} → P → IfOne request P
one_so (One command) fact = fact
one_so request fact = tt

-- ---- what is counted, from before the mount on

module _ (a m b : Report) (uses : UsesDisk a m) (faults : DiskFaults None a m) where
  pub unsaid_on : (status : ℕ) → IsUnsaid m b status → IsUnsaid a b status
  unsaid_on status u = record { ends = u.ends; rose = subst (λ (n : ℕ). Rose n b.output_faults) uses.output u.rose }

  outside_on : (request : Request) (why : Fault) → IsOutside request m b why → IsOutside request a b why
  outside_on request (Ends.Device s) o = record { rose = subst (λ (n : ℕ). Rose n b.disk_faults) faults.0 o.rose; told = o.told }
  outside_on request Ends.Memory o = tt
  outside_on (Put name keep) Ends.Input o = subst (λ (n : ℕ). Rose n b.input_faults) uses.input o
  outside_on Restore Ends.Input o = subst (λ (n : ℕ). Rose n b.input_faults) uses.input o
  outside_on request why o = absurd o

  pub broken_on : (request : Request) {Over : ℕ → Image → Type 0} {Way : ℕ → Type 0} {turns : List Turn} {old new : Moment} {status : ℕ} → IsBrokenOff request Over Way m b turns old new status → IsBrokenOff request Over Way a b turns old new status
  broken_on request x = record { why = x.why; outside = outside_on request x.why x.outside; ends = x.ends; says = x.says; held = x.held; undone = x.undone; unread = x.unread }

  pub cause_on : (cut : Cut) (input rest : List ℕ) → CutCause cut input rest m b → CutCause cut input rest a b
  cause_on None input rest cause = tt
  cause_on (Some (ByFault k Ends.Input)) input rest cause = record {
    rose = subst (λ (n : ℕ). Rose n b.input_faults) uses.input cause.rose;
    taken = cause.taken;
    all = cause.all;
    commands = cause.commands;
  }
  cause_on (Some cutting) input rest cause = tt

-- the same run, where less was counted before
pub runs_on : {D : Type 0} (M : Ghosts D) (request : Request) (input rest : List ℕ) (a m : Report) (uses : UsesDisk a m) (faults : DiskFaults None a m) (k : Known) (c b : D) (status : ℕ) → RunsOut M request input rest m k c b status → RunsOut M request input rest a k c b status
runs_on M request input rest a m uses faults k c b status r = record {
  cut = r.cut;
  may = r.may;
  cause = cause_on a m (M.report b) uses faults r.cut input rest r.cause;
  finishes = record { mets = r.finishes.mets; ahead = r.finishes.ahead; goes = r.finishes.goes; moments = r.finishes.moments; ends = ended r.finishes.ends };
  says = r.says;
  rooted = r.rooted;
  so = r.so;
}
  where
    ended : {All : Type 0} {Over : ℕ → Image → Type 0} {Way : ℕ → Type 0} {turns : List Turn} {old new : Moment} → All ⊎ (IsUnsaid m (M.report b) status ⊎ IsBrokenOff request Over Way m (M.report b) turns old new status) → All ⊎ (IsUnsaid a (M.report b) status ⊎ IsBrokenOff request Over Way a (M.report b) turns old new status)
    ended (inl out) = inl out
    ended (inr (inl u)) = inr (inl (unsaid_on a m (M.report b) uses faults status u))
    ended (inr (inr x)) = inr (inr (broken_on a m (M.report b) uses faults request x))

-- ---- the mount, over what is held

-- an image of a moment, with all else of the moment of the stop
module _ {D : Type 0} (M : Ghosts D) (l : Layout) (windows : List WeakRun) (h : List Change) (f : ℕ) (a m : D) (at_a : IsTimed M a) (at_m : IsTimed M m) (mounts : Since M a m) (held : IsHeld M a (λ c. IsSound l windows h f c.image)) where
  abbrev IsSoundStill : Moment → Type 0
  IsSoundStill c = IsSound l windows h f c.image

  -- it did not settle
  module _ (mount : LeavesOnly M.moment M.left_since a m (SoundBefore l windows h f (M.now a))) where
    abbrev During : Moment → Type 0
    During c = SoundBefore l windows h f (M.now a) c

    pub before_held : IsHeld M m (λ c. IsSound l windows h f c.image)
    before_held = held_by M a m During IsSoundStill at_a at_m mounts mount held IsSoundStill (λ c x. x) (λ c x. x.sound)

    of_before : (left : Moment) → left.windows.present ≡ (M.now a).windows.present → left.said ≡ (M.now a).said → IsSound l windows h f left.image → LeftBefore l windows h f (M.now a) left
    of_before left present said sound = record { present = present; part = []; said = said ∙ sym (append-nil (M.now a).said); fault = nothing_said; sound = sound }

    pub before_stops : StopsOnly M a m (LeftBefore l windows h f (M.now a))
    before_stops = stops_by M a m During IsSoundStill at_a at_m mounts mount held (LeftBefore l windows h f (M.now a))
        (λ c x. of_before c x.present x.said x.sound)
        (λ last shown x left sooner lately either. of_before (shows_of shown last) x.present x.said (elim either [ inl was ↦ was | inr y ↦ y.sound ]))

  -- it settled at this time
  module _ (run : WeakRun) (n at : ℕ) (mount : LeavesOnly M.moment M.left_since a m (SoundAbout at l windows run h f n (M.now a))) (settled : (left : Moment) → M.left_since m at left → SoundSince l windows run h n (M.now a) left)
      (Q : Moment → Type 0) (before : (left : Moment) → left.windows.present ≡ (M.now a).windows.present → left.said ≡ (M.now a).said → IsSound l windows h f left.image → Q left)
      (since : (left : Moment) → left.windows ≡ record { present = Some run; next = None } → left.said ≡ (M.now a).said → IsSound l (windows ++ run ∷ []) (take n h) n left.image → Q left) where
    abbrev About : Moment → Type 0
    About c = SoundAbout at l windows run h f n (M.now a) c

    one : (c : Moment) → About c → Q c
    one c (inl x) = before c x.0.present x.0.said x.0.sound
    one c (inr x) = since c x.0.settled x.0.said x.0.sound

    -- an image of before the settling is none of a moment since
    early : (last shown : Moment) → last.time ≤ at → M.left_since m last.synced shown → shown.time < last.time → IsSoundStill shown ⊎ About shown → IsSound l windows h f shown.image
    early last shown le left sooner (inl was) = was
    early last shown le left sooner (inr (inl x)) = x.0.sound
    early last shown le left sooner (inr (inr x)) = let synced = at_m.history.synced last.synced shown left in let late = x.1 in absurd (omega (arith, synced, late, sooner, le))

    both : (last shown : Moment) → About last → M.left_since m last.synced shown → shown.time < last.time → (M.moment a ≤ last.synced → About shown) → IsSoundStill shown ⊎ About shown → Q (shows_of shown last)
    both last shown (inl x) left sooner lately either = before (shows_of shown last) x.0.present x.0.said (early last shown x.1 left sooner either)
    both last shown (inr x) left sooner lately either = since (shows_of shown last) x.0.settled x.0.said (settled shown (at_m.history.sooner at last.synced shown x.1 left)).sound

    pub settled_stops : StopsOnly M a m Q
    settled_stops = stops_by M a m About IsSoundStill at_a at_m mounts mount held Q one both

-- ---- it was mounted

-- the disk behind a mount that settled
pub settled_disk : {D : Type 0} (M : Ghosts D) (l : Layout) (windows : List WeakRun) (run : WeakRun) (h : List Change) (f n : ℕ) → IsPrefixOf h f n → (k : Known) (a m : D) → SettledDisk l windows run h n k (M.now a) (M.now m) → (M.now m).said ≡ (M.now a).said → IsTimed M m → (at : ℕ) → at ≤ (M.now m).synced
    → ((left : Moment) → M.left_since m at left → SoundSince l windows run h n (M.now a) left) → OnDisk M k (forced_of k) m
settled_disk M l windows run h f n prefix k a m s quiet at_m at late settled = record {
  most = omega arith;
  each = λ c left. known_sound l windows run h f n prefix k (M.now a) (M.now m) s quiet c.image (settled c (at_m.history.sooner at (M.now m).synced c late left)).sound;
}

module _ {D : Type 0} (M : Ghosts D) (request : Request) (input rest : List ℕ) (l : Layout) (windows : List WeakRun) (run : WeakRun) (h : List Change) (f n : ℕ) (prefix : IsPrefixOf h f n) (k : Known) (a m b : D) (s : SettledDisk l windows run h n k (M.now a) (M.now m)) (quiet : (M.now m).said ≡ (M.now a).said)
    (at_a : IsTimed M a) (at_m : IsTimed M m) (mounts : Since M a m) (held : IsHeld M a (λ c. IsSound l windows h f c.image)) (at : ℕ) (mount : LeavesOnly M.moment M.left_since a m (SoundAbout at l windows run h f n (M.now a))) (settled_at : (left : Moment) → M.left_since m at left → SoundSince l windows run h n (M.now a) left)
    (named : IsNamedSince (M.left_since m) (M.moment a) (Some run)) (at_b : IsTimed M b) (since : Since M m b) (now : M.left_since b (M.moment m) (M.now b)) (status : ℕ) (r : RunsOut M request input rest (M.report a) k m b status) where
  abbrev turns : List Turn
  turns = turns_of (errand_in request input r.cut (volume_of k)) r.finishes.mets (session_over (volume_of k))

  on : (left : Moment) → InRun k (forced_of k) turns (M.now m) left → LeftByTurns l windows run h n turns (M.now a) left
  on left x = run_left l windows run h f n prefix k (M.now a) (M.now m) s quiet turns left x

  mount_left : StopsOnly M a m (Left l windows run h f n turns (M.now a))
  mount_left = settled_stops M l windows h f a m at_a at_m mounts held run n at mount settled_at (Left l windows run h f n turns (M.now a))
      (λ left present said sound. before_left l windows run h f n prefix k (M.now a) (M.now m) s quiet turns left present said sound)
      (λ left settled said sound. inr (since_left l windows run h f n prefix k (M.now a) (M.now m) s quiet turns left settled said sound))

  -- what is there at the end is what a stop leaves then
  stop_now : stops M b (M.moment m) (M.now b)
  stop_now = record { last = M.now b; passed = now; shown = M.now b; held = inl refl; is = refl }

  abbrev run_is : Course request input (windows ++ run ∷ []) (M.left_since b (M.moment m)) (M.now a).said (volume_of k) (M.now m).image
  run_is = record {
    cut = r.cut;
    may = r.may;
    mets = r.finishes.mets;
    before = r.finishes.ahead;
    so = subst (λ (x : List ℕ). GoesSo request r.cut (M.left_since b (M.moment m)) x (volume_of k) (M.now m).image (answered r.finishes.mets (session_over (volume_of k)) (errand_in request input r.cut (volume_of k)).commands)) quiet r.so;
    goes = subst (λ (x : List ℕ). Goes (in_runs (windows ++ run ∷ [])) (M.left_since b (M.moment m)) (IsCutAt r.cut) (errand_in request input r.cut (volume_of k)) x (M.now m).image (session_over (volume_of k)) r.finishes.mets (errand_in request input r.cut (volume_of k)).commands) quiet
        (subst (λ (x : List WeakRun). Goes (in_runs x) (M.left_since b (M.moment m)) (IsCutAt r.cut) (errand_in request input r.cut (volume_of k)) (M.now m).said (M.now m).image (session_over (volume_of k)) r.finishes.mets (errand_in request input r.cut (volume_of k)).commands) s.known (r.finishes.goes (M.moment m) (omega arith)));
  }

  -- what is sound, and has its roots, behind the mount
  sound_as : (i : Image) → IsSound k.mounted.volume.layout k.windows (k.changes ++ changes_in turns) (length (k.changes ++ changes_in turns)) i → IsSound l (windows ++ run ∷ []) (take n h ++ changes_in turns) (n + length (changes_in turns)) i
  sound_as i sound =
      let all : length (k.changes ++ changes_in turns) ≡ n + length (changes_in turns) = let sum = length-append k.changes (changes_in turns) in let known = known_length l windows run h f n prefix k (M.now a) (M.now m) s quiet in omega (arith, sum, known) in
      sound_to k.mounted.volume.layout l k.windows (windows ++ run ∷ []) (k.changes ++ changes_in turns) (take n h ++ changes_in turns) (length (k.changes ++ changes_in turns)) (n + length (changes_in turns)) i s.layout s.known (ap (λ (x : List Change). x ++ changes_in turns) s.changes) all sound

  own_as : (i : Image) → HasOwnRoots (run_end run_is).layout (weak_of k.windows) i → HasOwnRoots (run_end run_is).layout (weak_of (windows ++ run ∷ [])) i
  own_as i own = subst (λ (x : List WeakRun). HasOwnRoots (run_end run_is).layout (weak_of x) i) s.known own

  -- what its roots say
  abbrev own : Layout
  own = (run_end run_is).layout

  mount_says : LeavesOnly M.moment M.left_since a m (λ c. SaysNoMore (M.now a).image c.image)
  mount_says = leaves_more M.moment M.left_since a m (SoundAbout at l windows run h f n (M.now a)) (λ c. SaysNoMore (M.now a).image c.image) about mount
    where
      about : (c : Moment) → SoundAbout at l windows run h f n (M.now a) c → SaysNoMore (M.now a).image c.image
      about c (inl x) = x.0.says
      about c (inr x) = x.0.says

  run_says : LeavesOnly M.moment M.left_since m b (λ c. SaysEither own k c.image) → LeavesOnly M.moment M.left_since a b (λ c. EachSaid c.image (λ x. (x ≡ own) ⊎ Says x (M.now a).image))
  run_says says = mounted_says M own a k m b at_m mount_says (as_known l windows run h f n prefix k (M.now a) (M.now m) s quiet) says

  -- what is said, and where both roots stand
  abbrev Rooted : Moment → Type 0
  Rooted left = IsRooted own (weak_of (windows ++ run ∷ [])) (M.now a) left

  mount_quiet : StopsOnly M a m Rooted
  mount_quiet = settled_stops M l windows h f a m at_a at_m mounts held run n at mount settled_at Rooted
      (λ left present said sound. inl ([], nothing_said, said ∙ sym (append-nil (M.now a).said))) (λ left settled said sound. inl ([], nothing_said, said ∙ sym (append-nil (M.now a).said)))

  roots_on : (left : Moment) → IsRooted own (weak_of k.windows) (M.now m) left → Rooted left
  roots_on left (inl (part, fault, said)) = inl (part, fault, said ∙ ap (λ (x : List ℕ). x ++ part) quiet)
  roots_on left (inr own) = inr (own_as left.image own)

  rooted_stops : StopsOnly M m b (IsRooted own (weak_of k.windows) (M.now m)) → StopsOnly M a b Rooted
  rooted_stops on_line = then_on M.moment (stops M) a m b Rooted mount_quiet
      (leaves_more M.moment (stops M) m b (IsRooted own (weak_of k.windows) (M.now m)) Rooted roots_on on_line)

  since_a : Since M a b
  since_a t c le was = let later = mount.later in since t c (omega (arith, le, later)) (mounts t c le was)

  roots_left : LeavesOnly M.moment M.left_since m b (λ c. SaysEither own k c.image) → StopsOnly M m b (IsRooted own (weak_of k.windows) (M.now m)) → StopsOnly M a b (LeavesRoots own (weak_of (windows ++ run ∷ [])) (M.left_since a (M.now a).synced) (M.now a))
  roots_left says rooted = leaves_roots M own a b at_a at_b since_a (weak_of (windows ++ run ∷ [])) (run_says says) (rooted_stops rooted)

  replied : SaysOut M (errand_in request input r.cut (volume_of k)) k r.finishes.mets m b status → IsReplied l windows run h n turns (run_status run_is) (run_end run_is) (IsHeld M b) (M.now a) (M.now b) status
  replied out =
      let d = out.done in
      record {
        ends = out.gives;
        said = d.said ∙ ap (λ (x : List ℕ). x ++ said_in turns) quiet;
        settled = d.windows ∙ s.settled;
        sound = sound_as (M.now b).image d.sound;
        held = λ c left. sound_as c.image (d.held c left);
        tells = subst (λ (x : Layout). told x (M.now b).image ≡ Some (telling_of (run_end run_is))) s.layout d.tells;
        roots = own_as (M.now b).image d.roots;
        rooted = λ c left. own_as c.image (d.rooted c left);
      }

  abbrev Over : Type 0
  Over = IsUnsaid (M.report a) (M.report b) status ⊎ IsBrokenOff request (Undone k (forced_of k) turns) (UnderWay M k turns b) (M.report a) (M.report b) turns (M.now m) (M.now b) status

  ended : SaysOut M (errand_in request input r.cut (volume_of k)) k r.finishes.mets m b status ⊎ Over
      → (IsThrough run_is × IsReplied l windows run h n (run_turns run_is) (run_status run_is) (run_end run_is) (IsHeld M b) (M.now a) (M.now b) status) ⊎ (IsUnsaid (M.report a) (M.report b) status ⊎ IsBrokenOff request (IsUndone l (windows ++ run ∷ []) (take n h) n (run_turns run_is)) (IsUnderWay l (windows ++ run ∷ []) (take n h) n (run_turns run_is) (IsHeld M b)) (M.report a) (M.report b) (run_turns run_is) (M.now a) (M.now b) status)
  ended (inl out) = inl (out.through, replied out)
  ended (inr (inl u)) = inr (inl u)
  ended (inr (inr x)) = inr (inr (broken_on_said (M.report a) (M.report b) request (Undone k (forced_of k) turns) (IsUndone l (windows ++ run ∷ []) (take n h) n turns) (UnderWay M k turns b) (IsUnderWay l (windows ++ run ∷ []) (take n h) n turns (IsHeld M b)) turns (M.now a) (M.now m) (M.now b) status quiet
      (λ whole i u. run_undone l windows run h f n prefix k (M.now a) (M.now m) s quiet turns whole i u) (λ whole u. run_under_way l windows run h f n prefix k (M.now a) (M.now m) s quiet M turns b whole u) x))

  pub mounted_run : LeavesBy request input rest l windows h f (M.left_since b) (stops M b) (M.moment a) (M.left_since a (M.now a).synced) (StopsOnly M a b) (IsHeld M b) (M.report a) (M.report b) (M.now a) (M.now b) status
  mounted_run = inr (record {
    count = n;
    prefix = prefix;
    next = run;
    named = named_on (M.left_since m) (M.left_since b) (M.moment a) (M.moment m) (Some run) mount.later since named;
    at = M.moment m;
    from = (M.now m).image;
    stood = record { moment = M.now m; passed = since (M.moment m) (M.now m) (omega arith) at_m.here; image = refl; so_far = quiet };
    settled = s.settled;
    raised = s.raised;
    volume = volume_of k;
    starts = starts l windows run h f n prefix k (M.now a) (M.now m) s quiet;
    own = own_roots l windows run h f n prefix k (M.now a) (M.now m) s quiet;
    run = run_is;
    cause = r.cause;
    moments = then_on M.moment (stops M) a m b (Left l windows run h f n turns (M.now a)) mount_left
        (leaves_more M.moment (stops M) m b (InRun k (forced_of k) turns (M.now m)) (Left l windows run h f n turns (M.now a)) (λ left x. inr (on left x)) r.finishes.moments);
    later = λ left stop. on left (r.finishes.moments.each left stop);
    exit = on (M.now b) (r.finishes.moments.each (M.now b) stop_now);
    rooted = one_both request roots_left r.says r.rooted;
    ends = ended r.finishes.ends;
  })

-- ---- it was not

at_once : (fault : MountFault) → Excuses fault → EndsAtOnce (end_by_mount fault)
at_once (Refused.Device s) is = tt
at_once Refused.Memory is = tt
at_once fault is = absurd is

module _ {S D : Type 0} (state : S → State) (has : S → Mounted → List Placed → Type 0) (M : Ghosts D) (request : Request) (input rest : List ℕ) (l : Layout) (windows : List WeakRun) (h : List Change) (f : ℕ) (a m b : D) (at : EndIn (M.now a).windows windows)
    (fault : MountFault) (quiet : (M.now m).said ≡ (M.now a).said) (uses : UsesDisk (M.report a) (M.report m)) (faults : DiskFaults (device_of_mount fault) (M.report a) (M.report m)) (status : ℕ) (says : LeavesDisk M false (is_unsaid status) (Utters (fault_text (end_by_mount fault))) m b)
    (honest : M.honest b) (short : AreShort (M.now m).windows) (ended : EndsWith (end_by_mount fault) (M.now m) (M.now b) status) (at_a : IsTimed M a) (at_m : IsTimed M m) (at_b : IsTimed M b) (mounts : Since M a m)
    (held : IsHeld M a (λ c. IsSound l windows h f c.image)) where
  abbrev why : Fault
  why = end_by_mount fault

  told_is : FaultTold {T = Unit {0}} (M.report a) (M.report m) (Err (Stopped why))
  told_is = told_fault (M.report a) (M.report m) why uses (subst (λ (o : Option ℕ). DiskFaults o (M.report a) (M.report m)) (same_device fault) faults)

  outside : (said : Fault) → EndsAtOnce said → said ≡ why → IsOutside request (M.report a) (M.report b) said
  outside (Ends.Device s) once is =
      let counted : FaultTold {T = Unit {0}} (M.report a) (M.report m) (Err (Stopped (Ends.Device s))) = subst (λ (x : Fault). FaultTold {T = Unit {0}} (M.report a) (M.report m) (Err (Stopped x))) (sym is) told_is in
      record { rose = subst (λ (n : ℕ). Rose (M.report a).disk_faults n) (sym says.spares.disk) counted.disk.rose; told = counted.disk.told ∙ sym says.spares.place }
  outside Ends.Memory once is = tt
  outside said once is = absurd once

  unsaid : status ≡ 6 → IsUnsaid (M.report a) (M.report b) status
  unsaid six =
      let rose : Rose (M.report m).output_faults (M.report b).output_faults = subst (λ (x : Bool). Counts x (M.report m).output_faults (M.report b).output_faults) (eq-eqb status 6 six) says.spares.output in
      let later = told_is.later in
      record { ends = six; rose = omega (arith, later, rose) }

  broken : IsOutside request (M.report a) (M.report b) why → status ≡ fault_status why → SaysAll (fault_text why) (M.now m) (M.now b) → IsBrokenOff request Unbegun Whatever (M.report a) (M.report b) (blank ∷ []) (M.now a) (M.now b) status
  broken out gives all = record {
    why = why;
    outside = out;
    ends = gives;
    says = record { whole = 0; more = refl; said = all.said ∙ ap (λ (x : List ℕ). x ++ fault_text why) quiet };
    held = tt;
    undone = λ is. refl;
    unread = λ is. (refl, refl);
  }

  -- before it settled
  module _ (u : EndsBefore state has l windows h f (λ P. LeavesOnly M.moment M.left_since a m P) (M.now a) (M.now m) (Err fault)) where
    ends_in : EndIn (M.now m).windows windows
    ends_in = record { last = at.last ∙ sym u.exit.present; some = subst (λ (o : Option WeakRun). IsSome o) (sym u.exit.present) at.some }

    -- while its line is said
    on_line : (left : Moment) → IsSound l windows h f left.image → left.windows ≡ (M.now m).windows → (heard : ℕ) → left.said ≡ (M.now m).said ++ take heard (fault_text why) → LeftBefore l windows h f (M.now a) left
    on_line left sound same heard said = record {
      present = ap (λ (w : Windows). w.present) same ∙ u.exit.present;
      part = take heard (fault_text why);
      said = said ∙ ap (λ (x : List ℕ). x ++ take heard (fault_text why)) quiet;
      fault = (why, heard, excused (M.now a).image fault u.why, refl);
      sound = sound;
    }

    worn : (i : Image) → IsSound l windows h f (M.now m).image → IsWorn (open_damage (M.now m).windows) (M.now m).image i → IsSound l windows h f i
    worn i sound wear = wear_sound l windows h f (M.now m).windows (M.now m).image i short ends_in wear sound

    still_held : IsHeld M m (λ c. IsSound l windows h f c.image)
    still_held = before_held M l windows h f a m at_a at_m mounts held u.moments

    line_stops : StopsOnly M m b (LeftBefore l windows h f (M.now a))
    line_stops = stops_saying M m b (fault_text why) (λ i. IsSound l windows h f i) at_m at_b (says.since honest) (says.any_moment honest) still_held worn (LeftBefore l windows h f (M.now a)) on_line

    line_exit : Utters (fault_text why) (M.now m) (M.now b) → LeftBefore l windows h f (M.now a) (M.now b)
    line_exit utters = on_line (M.now b) (worn (M.now b).image u.exit.sound utters.image) utters.windows utters.heard utters.said

    by_fault : (x : MountFault) → ExcusesOf (M.now a).image x → why ≡ end_by_mount x → status ≡ fault_status why → SaysAll (fault_text why) (M.now m) (M.now b)
        → IsSpent (M.now a) (M.now b) status ⊎ (IsUnsaid (M.report a) (M.report b) status ⊎ IsBrokenOff request Unbegun Whatever (M.report a) (M.report b) (blank ∷ []) (M.now a) (M.now b) status)
    by_fault Refused.WornOut last is gives all = inl (record {
      anchor = last.anchor;
      taken = last.taken;
      last = last.last;
      ends = gives ∙ ap fault_status is;
      said = all.said ∙ ap (λ (x : List ℕ). x ++ fault_text why) quiet ∙ ap (λ (w : Fault). (M.now a).said ++ fault_text w) is;
    })
    by_fault (Refused.Device s) excuse is gives all = inr (inr (broken (outside why (subst EndsAtOnce (sym is) tt) refl) gives all))
    by_fault Refused.Memory excuse is gives all = inr (inr (broken (outside why (subst EndsAtOnce (sym is) tt) refl) gives all))
    by_fault x excuse is gives all = absurd excuse

    by_end : EndsWith why (M.now m) (M.now b) status → IsSpent (M.now a) (M.now b) status ⊎ (IsUnsaid (M.report a) (M.report b) status ⊎ IsBrokenOff request Unbegun Whatever (M.report a) (M.report b) (blank ∷ []) (M.now a) (M.now b) status)
    by_end (inl six) = inr (inl (unsaid six))
    by_end (inr (gives, all)) = by_fault fault u.why refl gives all

    -- no root says what none said as it began
    abbrev SaysLess : Moment → Type 0
    SaysLess c = SaysNoMore (M.now a).image c.image

    since_both : Since M a b
    since_both t c le was = let later = u.moments.later in says.since honest t c (omega (arith, le, later)) (mounts t c le was)

    less_run : LeavesOnly M.moment M.left_since a b SaysLess
    less_run = then_on M.moment M.left_since a m b SaysLess (leaves_more M.moment M.left_since a m (SoundBefore l windows h f (M.now a)) SaysLess (λ c x. x.says) u.moments)
        (leaves_more M.moment M.left_since m b (Utters (fault_text why) (M.now m)) SaysLess (λ c utters. says_no_more_then (M.now a).image (M.now m).image c.image u.exit.says (worn_says (open_damage (M.now m).windows) (M.now m).image c.image utters.image)) (says.any_moment honest))

    unmounted_run : LeavesBy request input rest l windows h f (M.left_since b) (stops M b) (M.moment a) (M.left_since a (M.now a).synced) (StopsOnly M a b) (IsHeld M b) (M.report a) (M.report b) (M.now a) (M.now b) status
    unmounted_run = inl (record {
      moments = then_on M.moment (stops M) a m b (LeftBefore l windows h f (M.now a)) (before_stops M l windows h f a m at_a at_m mounts held u.moments) line_stops;
      exit = line_exit (says.exit honest);
      held = held_behind M m b (fault_text why) (λ i. IsSound l windows h f i) at_m at_b (says.since honest) (says.any_moment honest) still_held worn;
      says = was_stops M l a b at_a at_b since_both less_run;
      ends = by_end ended;
    })

  -- behind that, while its table was walked
  module _ (now : M.left_since b (M.moment m) (M.now b))
      (some : (v : Volume) → IsSome (slice_get (turns_of (errand_of request input v) [] (session_over v)) 0)) (unsaid : GoesUnsaid request)
      (e : EndsSettled state has l windows h f (M.left_since m) (M.moment a) (λ P. LeavesOnly M.moment M.left_since a m P) (M.now a) (M.now m) (Err fault)) where
    abbrev k : Known
    k = e.known

    abbrev all_turns : List Turn
    all_turns = turns_of (errand_of request input (volume_of k)) [] (session_over (volume_of k))

    disk : OnDisk M k (forced_of k) m
    disk = settled_disk M l windows e.next h f e.count e.prefix k a m e.settled quiet at_m e.at e.held e.since

    abbrev IsSoundNow : Moment → Type 0
    IsSoundNow c = IsSound k.mounted.volume.layout k.windows k.changes (forced_of k) c.image

    sound : IsSound k.mounted.volume.layout k.windows k.changes (forced_of k) (M.now m).image
    sound = now_held M m IsSoundNow at_m disk.each

    moments : StopsOnly M m m (InRun k (forced_of k) all_turns (M.now m))
    moments = stops_by M m m (λ c. c ≡ M.now m) IsSoundNow at_m at_m (λ t c le was. was) (started M.moment M.left_since m (M.now m) (λ c. c ≡ M.now m) at_m.only refl) disk.each (InRun k (forced_of k) all_turns (M.now m))
        (λ c is. in_before_at k (forced_of k) all_turns (M.now m) c (ap (λ (x : Moment). x.windows) is) (ap (λ (x : Moment). x.said) is) (forced_of k) (omega arith) (subst IsSoundNow (sym is) sound))
        (λ last shown is left sooner lately either. in_before_at k (forced_of k) all_turns (M.now m) (shows_of shown last) (ap (λ (x : Moment). x.windows) is) (ap (λ (x : Moment). x.said) is) (forced_of k) (omega arith)
        (elim either [ inl was ↦ was | inr same ↦ subst IsSoundNow (sym same) sound ]))

    halted : Halted M k why all_turns m m
    halted = record {
      windows = refl;
      whole = 0;
      more = some (volume_of k);
      said = sym (append-nil (M.now m).said);
      forced = forced_of k;
      least = omega arith;
      enough = λ any. absurd (cc any);
      sound = λ c left. sound_more k.mounted.volume.layout k.windows k.changes (changes_in (take 1 all_turns)) (forced_of k) c.image (disk.each c left);
      undone = λ is. none_done k (forced_of k) all_turns (M.now m).image sound;
      unread = λ is. (refl, none_done k (forced_of k) all_turns (M.now m).image sound);
    }

    ends_k : EndIn (M.now m).windows k.windows
    ends_k =
        let present : (M.now m).windows.present ≡ Some e.next = ap (λ (w : Windows). w.present) e.settled.settled in
        subst (λ (x : List WeakRun). EndIn (M.now m).windows x) (sym e.settled.known)
        (record { last = last_snoc None windows e.next ∙ sym present; some = subst (λ (x : Option WeakRun). IsSome x) (sym present) refl })

    fresh : IsMounted k.mounted k.windows k.changes (length k.changes) (M.now m).image
    fresh = fresh_mounted k.mounted k.windows k.changes (M.now m).image e.settled.fresh

    once : EndsAtOnce why
    once = at_once fault e.ends

    -- nothing else is said behind the mount
    fault_only : (c : Moment) → M.left_since b (M.moment m) c → (part : List ℕ) × SaysFault part × (c.said ≡ (M.now m).said ++ part)
    fault_only c left = let line = (says.any_moment honest).each c left in (take line.heard (fault_text why), (why, line.heard, at_once_ends why once, refl), line.said)

    runs : RunsOut M request input rest (M.report a) k m b status
    runs = record {
      cut = None;
      may = tt;
      cause = tt;
      finishes = record {
        mets = [];
        ahead = tt;
        goes = λ t le. tt;
        moments = broken_moments M request (M.report a) k all_turns m m b moments why halted short ends_k at_m at_b once told_is status says honest ended;
        ends = inr (broken_ends M request (M.report a) k all_turns m m b moments why halted short ends_k at_m at_b once told_is status says honest ended);
      };
      so = unsaid (M.left_since b (M.moment m)) (M.now m).said (volume_of k) (M.now m).image fault_only;
      says = one_so request (line_says M k (volume_of k).layout m b (fault_text why) (own_either (volume_of k).layout k (M.now m).image fresh.over.shows.readable.roots.planned fresh.over.own.roots) (says.any_moment honest));
      rooted = one_so request (fault_line M k (volume_of k).layout m m b why (at_once_ends why once) refl at_m at_b (says.since honest) (says.any_moment honest));
    }

    settled_run : LeavesBy request input rest l windows h f (M.left_since b) (stops M b) (M.moment a) (M.left_since a (M.now a).synced) (StopsOnly M a b) (IsHeld M b) (M.report a) (M.report b) (M.now a) (M.now b) status
    settled_run = mounted_run M request input rest l windows e.next h f e.count e.prefix k a m b e.settled quiet at_a at_m mounts held e.at e.moments e.since e.named at_b (says.since honest) now status runs

  pub refused_run : (now : M.left_since b (M.moment m) (M.now b))
      (some : (v : Volume) → IsSome (slice_get (turns_of (errand_of request input v) [] (session_over v)) 0)) (unsaid : GoesUnsaid request) → MountsAs state has l windows h f (M.left_since m) (M.moment a) (λ P. LeavesOnly M.moment M.left_since a m P) (M.now a) (M.now m) (Err fault)
      → LeavesBy request input rest l windows h f (M.left_since b) (stops M b) (M.moment a) (M.left_since a (M.now a).synced) (StopsOnly M a b) (IsHeld M b) (M.report a) (M.report b) (M.now a) (M.now b) status
  refused_run now some unsaid (inl u) = unmounted_run u
  refused_run now some unsaid (inr e) = settled_run now some unsaid e

-- what a request does over a volume that was just mounted
pub joined_run : {S D : Type 0} (state : S → State) (has : S → Mounted → List Placed → Type 0) (M : Ghosts D) (request : Request) (input rest : List ℕ) (l : Layout) (windows : List WeakRun) (h : List Change) (f : ℕ) (a m b : D) (v : S)
    → (M.now m).said ≡ (M.now a).said → UsesDisk (M.report a) (M.report m) → DiskFaults None (M.report a) (M.report m) → IsTimed M a → IsTimed M m → IsTimed M b → Since M a m → Since M m b → IsHeld M a (λ c. IsSound l windows h f c.image) → (M.moment m ≤ M.moment b → M.left_since b (M.moment m) (M.now b)) → (status : ℕ)
    → MountsAs state has l windows h f (M.left_since m) (M.moment a) (λ P. LeavesOnly M.moment M.left_since a m P) (M.now a) (M.now m) (Ok v)
    → ((k : Known) → (volume_of k).unforced ≡ 0 → k.opened ≡ none_open → Stands state has v k (M.now m) → OnDisk M k (forced_of k) m → RunsOut M request input rest (M.report m) k m b status)
    → LeavesBy request input rest l windows h f (M.left_since b) (stops M b) (M.moment a) (M.left_since a (M.now a).synced) (StopsOnly M a b) (IsHeld M b) (M.report a) (M.report b) (M.now a) (M.now b) status
joined_run state has M request input rest l windows h f a m b v quiet uses faults at_a at_m at_b mounts since held now status (inl u) does = absurd u.why
joined_run state has M request input rest l windows h f a m b v quiet uses faults at_a at_m at_b mounts since held now status (inr e) does =
    let k = e.known in
    let r = does k e.settled.fresh.unforced e.settled.opened e.ends (settled_disk M l windows e.next h f e.count e.prefix k a m e.settled quiet at_m e.at e.held e.since) in
    mounted_run M request input rest l windows e.next h f e.count e.prefix k a m b e.settled quiet at_a at_m mounts held e.at e.moments e.since e.named at_b since (now r.finishes.moments.later) status (runs_on M request input rest (M.report a) (M.report m) uses faults k m b status r)
