-- One command by itself.
use Rattle.std.proofs.Common.{◌+◌, ◌≡◌, ◌⊎◌, inl, inr, ⊎_elim, ℕ, zero, suc, ◌≤◌, true, false, List, [], ◌∷◌, ◌++◌, length, take, Option, Some, refl, sym, ◌∙◌, ap, subst, arith, length-append}
use Rattle.fsd_log.specs.Scan.{Placed}
use Rattle.std.specs.Prelude.{⊤, Result, Ok, Err, OnOk, IfOk, IfErr}
use Rattle.std.proofs.lemmas.List.{append-nil}
use Rattle.volume_layout.specs.declared.layout.Layout.{Layout}
use Rattle.volume_layout.specs.Layout.{IsPlanned}
use Rattle.volume_layout.specs.Root.{root_bytes}
use Rattle.fsd_bytes.specs.declared.refusal.Refusal.{Refusal}
use Rattle.fsd_bytes.specs.declared.refusal.Refusal.TheVariants as Why
use Rattle.sector_disk.specs.declared.machine.Machine.{Ghosts}
use Rattle.sector_disk.specs.declared.sector.WeakRun.{WeakRun}
use Rattle.sector_disk.specs.Image.{AllWorn, open_damage, AreShort, IsWorn, Windows}
use Rattle.sector_disk.specs.Machine.{Moment, LeavesOnly, Wears}
use Rattle.sector_disk.proofs.Lags.{held_by, shows_of, stops_by}
use Rattle.sector_disk.proofs.Moments.{started, then_on, leaves_more}
use Rattle.sector_disk.proofs.Wear.{AllWorn-worn, worn_refl}
use Rattle.fsd_files.specs.Desk.{Session, no_clients}
use Rattle.fsd_files.specs.Files.{Change}
use Rattle.fsd_files.specs.declared.reply.Reply.{Reply}
use Rattle.fsd_sound.specs.Laid.{HasOwnRoots}
use Rattle.fsd_sound.specs.Mounted.{Mounted, telling_of}
use Rattle.fsd_sound.specs.Shown.{told}
use Rattle.fsd_sound.specs.Sound.{IsSound, EndIn, weak_of}
use Rattle.fsd_sound.proofs.LaidLaws.{has_worn}
use Rattle.fsd_sound.proofs.MoreLaws.{sound_fewer, sound_more, wear_sound}
use Rattle.fsd_sound.proofs.MountedLaws.{mounted_sound, mounted_tells}
use Rattle.fsd_sound.proofs.WindowLaws.{open_is_weak}
use Rattle.fsd_texts.specs.declared.command.Command.{Command}
use Rattle.fsd_texts.specs.declared.fault.Fault.{Fault}
use Rattle.fsd_texts.specs.declared.fault.Fault.TheVariants as Ends
use Rattle.fsd_texts.specs.declared.script_command.ScriptCommand.{ScriptCommand}
use Rattle.fsd_texts.specs.declared.script_command.ScriptCommand.TheVariants.{Plain}
use Rattle.fsd_runs.specs.Commands.{may_wear_out, reply_alone, reply_status}
use Rattle.fsd_runs.specs.Sessions.{MayMeet, Meeting, answer_in, changes_in_session}
use Rattle.fsd_runs.proofs.SessionLaws.{command_grows}
use Rattle.fsd_runs.specs.Errands.{Turn, errand_alone, blank}
use Rattle.fsd_table.specs.Table.{Telling}
use Rattle.fsd_files.specs.Disk.{Image, Sectors, in_runs}
use Rattle.fsd_runs.specs.Runs.{Goes, StoodAt, forced_in, changes_in}
use Rattle.volume_turns.specs.declared.turns.Halt.{Halt}
use Rattle.volume_turns.specs.declared.turns.Halt.TheVariants.{Fault as Stopped, Output}
use Rattle.sector_disk.specs.Calls.{IsHeld, IsTimed, Since, StopsOnly, WritesDisk, stops}
use Rattle.client_desk.specs.Clients.{no_desk}
use Rattle.client_desk.proofs.FinishLaws.{sits_fresh}
use Rattle.volume_contract.specs.Ends.{Closes}
use Rattle.volume_turns.specs.Once.{Anything, close_fault, InClose, SaysClosedBy, EndsClosedBy, ClosesAndSays, ClosesAndSaysBy, IsDone, EndsAlone, IsAlone, SaysRooted, Unclosed, unit_of}
use Rattle.volume_contract.specs.Order.{IsDeviceRefusal}
use Rattle.volume_contract.specs.Closing.{LeavesClosing, may_close}
use Rattle.volume_contract.specs.State.{State, Ages, Known, volume_of, forced_of, Stands, is_worn, none_open}
use Rattle.volume_turns.specs.Seats.{IsAnsweredIn, Seated, SitsAt, seated, session_in}
use Rattle.volume_turns.specs.Steps.{Does, IsAnswered, SaysEither, StaysBy, StaysSaying, StaysSoundFor}
use Rattle.volume_turns.specs.Turns.{InRun, EndsAtOnce, OnDisk, SaysAll, Unsaid, UttersBehind, turn_by}
use Rattle.volume_turns.proofs.TurnLaws.{in_part, in_saying_at, says_nothing, stays_held, stays_stops}
use Rattle.volume_turns.proofs.RunLaws.{stepped}
use Rattle.volume_turns.proofs.SeatLaws.{none_holds, plain_answered, seat_on}
use Rattle.volume_turns.proofs.LongerLaws.{Wrote}
use Rattle.volume_turns.proofs.StaysLaws.{mounted_stays, own_either, say_as, sound_stays, stays_say}

-- ---- the end of a volume

pub device_ends : (why : Refusal) → IsDeviceRefusal why → EndsAtOnce (close_fault why)
device_ends (Why.Device s) is = tt
device_ends why is = absurd is

-- the roots stand as the disk wears
pub roots_worn : (l : Layout) (weak : Sectors) (i j : Image) → IsWorn weak i j → HasOwnRoots l weak i → HasOwnRoots l weak j
roots_worn l weak i j worn roots = (has_worn weak i j (root_bytes l) 0 worn roots.0, has_worn weak i j (root_bytes l) 4 worn roots.1)

-- a text that tells as forced, behind a volume whose changes are all forced
module _ {D : Type 0} (M : Ghosts D) (k : Known) (f : ℕ) (own : Layout) (text : List ℕ) (a m b : D) (windows : (M.now m).windows ≡ (M.now a).windows) (quiet : (M.now m).said ≡ (M.now a).said) (ends : EndIn (M.now m).windows k.windows)
    (sound : IsSound k.mounted.volume.layout k.windows k.changes (length k.changes) (M.now m).image) (tells : AllWorn (weak_of k.windows) (λ j. told k.mounted.volume.layout j ≡ Some (telling_of (volume_of k))) (M.now m).image) (roots : HasOwnRoots own (weak_of k.windows) (M.now m).image)
    (short : AreShort (M.now m).windows) (disk : OnDisk M k f m) (at_m : IsTimed M m) (at_b : IsTimed M b) (since : Since M m b) (run : LeavesOnly M.moment M.left_since m b (UttersBehind true text (M.now m))) where
  abbrev IsSoundFor : ℕ → Moment → Type 0
  IsSoundFor n c = IsSound k.mounted.volume.layout k.windows k.changes n c.image

  most : f ≤ length k.changes
  most = let few = disk.most in omega (arith, few)

  -- all that there was while it was said is sound for all of them
  worn : (c : Moment) → UttersBehind true text (M.now m) c → IsSoundFor (length k.changes) c
  worn c u = wear_sound k.mounted.volume.layout k.windows k.changes (length k.changes) (M.now m).windows (M.now m).image c.image short ends u.utters.image sound

  fewer : (c : Moment) → UttersBehind true text (M.now m) c → IsSoundFor f c
  fewer c u = sound_fewer k.mounted.volume.layout k.windows k.changes f (length k.changes) c.image most (worn c u)

  rooted : (c : Moment) → UttersBehind true text (M.now m) c → HasOwnRoots own (weak_of k.windows) c.image
  rooted c u = roots_worn own (weak_of k.windows) (M.now m).image c.image (open_is_weak (M.now m).windows k.windows (M.now m).image c.image ends u.utters.image) roots

  said_so : (last : Moment) (u : UttersBehind true text (M.now m) last) → last.said ≡ (M.now a).said ++ take u.utters.heard text
  said_so last u = u.utters.said ∙ ap (λ (x : List ℕ). x ++ take u.utters.heard text) quiet

  saying_closed : (shown last : Moment) → UttersBehind true text (M.now m) last → UttersBehind true text (M.now m) shown → InClose own k f text (M.now a) (shows_of shown last)
  saying_closed shown last u s = record {
    windows = u.utters.windows ∙ windows;
    forced = length k.changes;
    least = most;
    sound = worn shown s;
    heard = u.utters.heard;
    said = said_so last u;
    all = λ some. refl;
    roots = λ some. rooted shown s;
  }

  -- nothing is said yet
  saying_none : (shown last : Moment) → UttersBehind true text (M.now m) last → last.said ≡ (M.now m).said → IsSoundFor f shown → InClose own k f text (M.now a) (shows_of shown last)
  saying_none shown last u none s = record {
    windows = u.utters.windows ∙ windows;
    forced = f;
    least = omega arith;
    sound = s;
    heard = 0;
    said = none ∙ quiet ∙ sym (append-nil (M.now a).said);
    all = λ some. absurd (omega (arith, some));
    roots = λ some. absurd (omega (arith, some));
  }

  pub saying_moments : StopsOnly M m b (InClose own k f text (M.now a))
  saying_moments = stops_by M m b (UttersBehind true text (M.now m)) (IsSoundFor f) at_m at_b since run disk.each (InClose own k f text (M.now a)) (λ c u. saying_closed c c u u)
      (λ last shown u left sooner lately either. ⊎_elim (λ none. saying_none shown last u none (⊎_elim (λ was. was) (fewer shown) either))
      (λ synced. saying_closed shown last u (lately (let dated = at_m.dated in omega (arith, synced, dated)))) (u.synced refl))

  pub saying_own : IsPlanned own → LeavesOnly M.moment M.left_since m b (λ c. SaysEither own k c.image)
  saying_own planned = leaves_more M.moment M.left_since m b (UttersBehind true text (M.now m)) (λ c. SaysEither own k c.image) (λ c u. own_either own k c.image planned (rooted c u)) run

  said_held : (M.now m).time ≤ (M.now b).synced → IsHeld M b (IsSoundFor (length k.changes))
  said_held synced c left = worn c (run.each c (at_b.history.sooner (M.moment m) (M.now b).synced c (let dated = at_m.dated in omega (arith, synced, dated)) left))

  said_rooted : (M.now m).time ≤ (M.now b).synced → IsHeld M b (λ c. HasOwnRoots own (weak_of k.windows) c.image)
  said_rooted synced c left = rooted c (run.each c (at_b.history.sooner (M.moment m) (M.now b).synced c (let dated = at_m.dated in omega (arith, synced, dated)) left))

  unclosed : Wears (M.now m) (M.now b) → Unclosed M k f a b
  unclosed w = record { windows = w.windows ∙ windows; said = w.said ∙ quiet; held = held_by M m b (UttersBehind true text (M.now m)) (IsSoundFor f) at_m at_b since run disk.each (IsSoundFor f) (λ c s. s) fewer }

  pub said_closed : (r : Result (Unit {0}) Halt) → OnOk r (SaysAll text (M.now m) (M.now b)) → OnOk r ((M.now m).time ≤ (M.now b).synced) → IfErr r (λ end. Unsaid (M.now m) (M.now b) end) → EndsClosedBy own M k f text a b r
  said_closed (Ok x) says synced unsaid =
      let weak = open_is_weak (M.now m).windows k.windows (M.now m).image (M.now b).image ends says.ages.image in
      record {
        windows = says.ages.windows ∙ windows;
        said = says.said ∙ ap (λ (x : List ℕ). x ++ text) quiet;
        sound = wear_sound k.mounted.volume.layout k.windows k.changes (length k.changes) (M.now m).windows (M.now m).image (M.now b).image short ends says.ages.image sound;
        held = said_held synced;
        tells = tells (M.now b).image weak;
        lasts = AllWorn-worn (weak_of k.windows) (λ j. told k.mounted.volume.layout j ≡ Some (telling_of (volume_of k))) (M.now m).image (M.now b).image weak tells;
        roots = roots_worn own (weak_of k.windows) (M.now m).image (M.now b).image weak roots;
        rooted = said_rooted synced;
      }
  said_closed (Err (Stopped Ends.Memory)) says synced unsaid = (tt, unclosed unsaid)
  said_closed (Err (Stopped (Ends.Device s))) says synced unsaid = (tt, unclosed unsaid)
  said_closed (Err Output) says synced unsaid = tt
  said_closed (Err (Stopped fault)) says synced unsaid = absurd unsaid

module _ {S D : Type 0} (state : S → State) (has : S → Mounted → List Placed → Type 0) (M : Ghosts D) (v : S) (a m b : D) (k : Known) (f : ℕ) (stands : Stands state has v k (M.now a)) (on : OnDisk M k f a) (text : List ℕ) (fault : Option ℕ)
    (disk : WritesDisk M fault (LeavesClosing state has v) a m) (honest : M.honest m) (at_a : IsTimed M a) (at_m : IsTimed M m) where
  closing_run : LeavesOnly M.moment M.left_since a m (StaysSoundFor k (M.now a))
  closing_run = leaves_more M.moment M.left_since a m (LeavesClosing state has v (M.now a)) (StaysSoundFor k (M.now a)) (λ left leaves. sound_stays k (M.now a) left (may_close (state v)) (leaves k stands).sound) (disk.any_moment honest)

  closing : (n : ℕ) → f ≤ n → (shown last : Moment) → StaysSoundFor k (M.now a) last → IsSound k.mounted.volume.layout k.windows k.changes n shown.image → InClose k.mounted.volume.layout k f text (M.now a) (shows_of shown last)
  closing n least shown last stays sound =
      record { windows = stays.windows; forced = n; least = least; sound = sound; heard = 0; said = stays.said ∙ sym (append-nil (M.now a).said); all = λ some. absurd (omega (arith, some)); roots = λ some. absurd (omega (arith, some)) }

  pub close_moments : StopsOnly M a m (InClose k.mounted.volume.layout k f text (M.now a))
  close_moments = stops_by M a m (StaysSoundFor k (M.now a)) (λ c. IsSound k.mounted.volume.layout k.windows k.changes f c.image) at_a at_m (disk.since honest) closing_run on.each (InClose k.mounted.volume.layout k f text (M.now a))
      (λ c stays. closing (forced_of k) on.most c c stays stays.sound)
      (λ last shown stays left sooner lately either. ⊎_elim (λ was. closing f (omega arith) shown last stays was) (λ now. closing (forced_of k) on.most shown last stays now.sound) either)

  pub close_held : OnDisk M k f m
  close_held = stays_held M k f a m at_a at_m (disk.since honest) closing_run on

  pub close_failed : (why : Refusal) → IsDeviceRefusal why → ClosesAndSays M k f text a m (Err (Stopped (close_fault why)))
  close_failed why is = record { moments = close_moments; says = stays_say M k.mounted.volume.layout k (M.now a) a m closing_run; ends = (device_ends why is, record { windows = disk.windows honest; said = disk.quiet honest; held = close_held.each }) }

  module _ (closes : Closes k (M.now m).image) (short : AreShort (M.now m).windows) (at_b : IsTimed M b) (since : Since M m b) (run : LeavesOnly M.moment M.left_since m b (UttersBehind true text (M.now m))) where
    ends_in : EndIn (M.now m).windows k.windows
    ends_in = subst (λ (w : Windows). EndIn w k.windows) (sym (disk.windows honest)) stands.ends

    both : StopsOnly M a b (InClose k.mounted.volume.layout k f text (M.now a))
    both = then_on M.moment (stops M) a m b (InClose k.mounted.volume.layout k f text (M.now a)) close_moments
        (saying_moments M k f k.mounted.volume.layout text a m b (disk.windows honest) (disk.quiet honest) ends_in closes.sound closes.tells closes.roots short close_held at_m at_b since run)

    pub close_said : (r : Result (Unit {0}) Halt) → OnOk r (SaysAll text (M.now m) (M.now b)) → OnOk r ((M.now m).time ≤ (M.now b).synced) → IfErr r (λ end. Unsaid (M.now m) (M.now b) end) → ClosesAndSays M k f text a b r
    close_said r says synced unsaid = record {
      moments = both;
      says = then_on M.moment M.left_since a m b (λ c. SaysEither k.mounted.volume.layout k c.image) (stays_say M k.mounted.volume.layout k (M.now a) a m closing_run)
          (saying_own M k f k.mounted.volume.layout text a m b (disk.windows honest) (disk.quiet honest) ends_in closes.sound closes.tells closes.roots short close_held at_m at_b since run closes.sound.readable.roots.planned);
      ends = said_closed M k f k.mounted.volume.layout text a m b (disk.windows honest) (disk.quiet honest) ends_in closes.sound closes.tells closes.roots short close_held at_m at_b since run r says synced unsaid;
    }

-- where all was forced before, and the roots are those of this layout
pub says_closed : {D : Type 0} (M : Ghosts D) (m b : D) (k : Known) (f : ℕ) (own : Layout) (text : List ℕ) → IsPlanned own → EndIn (M.now m).windows k.windows → IsSound k.mounted.volume.layout k.windows k.changes (length k.changes) (M.now m).image
    → AllWorn (weak_of k.windows) (λ j. told k.mounted.volume.layout j ≡ Some (telling_of (volume_of k))) (M.now m).image → HasOwnRoots own (weak_of k.windows) (M.now m).image → AreShort (M.now m).windows → OnDisk M k f m → IsTimed M m → IsTimed M b → Since M m b
    → LeavesOnly M.moment M.left_since m b (UttersBehind true text (M.now m)) → (r : Result (Unit {0}) Halt) → OnOk r (SaysAll text (M.now m) (M.now b)) → OnOk r ((M.now m).time ≤ (M.now b).synced) → IfErr r (λ end. Unsaid (M.now m) (M.now b) end) → ClosesAndSaysBy own M k f text m b r
says_closed M m b k f own text planned ends sound tells roots short disk at_m at_b since run r says synced unsaid = record {
  moments = saying_moments M k f own text m m b refl refl ends sound tells roots short disk at_m at_b since run;
  says = saying_own M k f own text m m b refl refl ends sound tells roots short disk at_m at_b since run planned;
  ends = said_closed M k f own text m m b refl refl ends sound tells roots short disk at_m at_b since run r says synced unsaid;
}

-- ---- what was not begun

-- a run of calls that says nothing
quiet_stops : {D : Type 0} {other : Layout} (M : Ghosts D) (a m : D) (k : Known) (own : Layout) → IsTimed M a → IsTimed M m → Since M a m → LeavesOnly M.moment M.left_since a m (StaysSaying other k (M.now a)) → StopsOnly M a m (SaysRooted own k (M.now a))
quiet_stops {other = other} M a m k own at_a at_m since run =
    stops_by M a m (StaysSaying other k (M.now a)) (λ c. ⊤) at_a at_m since run (λ c left. tt) (SaysRooted own k (M.now a)) (λ c stays. inl stays.said) (λ last shown stays left sooner lately either. inl stays.said)

-- it leaves all as it is
module _ {S D : Type 0} (state : S → State) (has : S → Mounted → List Placed → Type 0) (M : Ghosts D) (v : S) (a : D) (k : Known) (f : ℕ) (at_a : IsTimed M a) (stands : Stands state has v k (M.now a)) (on : OnDisk M k f a) where
  still : Since M a a
  still t c le was = was

  sound_here : IsSound k.mounted.volume.layout k.windows k.changes (forced_of k) (M.now a).image
  sound_here = mounted_sound k.mounted k.windows k.changes (forced_of k) (M.now a).image stands.disk

  none_run : LeavesOnly M.moment M.left_since a a (StaysSoundFor k (M.now a))
  none_run = started M.moment M.left_since a (M.now a) (StaysSoundFor k (M.now a)) at_a.only (mounted_stays k (M.now a) (M.now a) stands.disk refl refl)

  pub none_says : LeavesOnly M.moment M.left_since a a (λ c. SaysEither k.mounted.volume.layout k c.image)
  none_says = stays_say M k.mounted.volume.layout k (M.now a) a a none_run

  none_at : (text : List ℕ) (n : ℕ) → f ≤ n → (shown last : Moment) → StaysSoundFor k (M.now a) last → IsSound k.mounted.volume.layout k.windows k.changes n shown.image → InClose k.mounted.volume.layout k f text (M.now a) (shows_of shown last)
  none_at text n least shown last stays sound =
      record { windows = stays.windows; forced = n; least = least; sound = sound; heard = 0; said = stays.said ∙ sym (append-nil (M.now a).said); all = λ some. absurd (omega (arith, some)); roots = λ some. absurd (omega (arith, some)) }

  -- what it would say was refused memory before it ended
  pub close_unbegun : (text : List ℕ) → ClosesAndSays M k f text a a (Err (Stopped Ends.Memory))
  close_unbegun text = record {
    moments = stops_by M a a (StaysSoundFor k (M.now a)) (λ c. IsSound k.mounted.volume.layout k.windows k.changes f c.image) at_a at_a still none_run on.each (InClose k.mounted.volume.layout k f text (M.now a))
        (λ c stays. none_at text (forced_of k) on.most c c stays stays.sound)
        (λ last shown stays left sooner lately either. ⊎_elim (λ was. none_at text f (omega arith) shown last stays was) (λ now. none_at text (forced_of k) on.most shown last stays now.sound) either);
    says = none_says;
    ends = (tt, record { windows = refl; said = refl; held = on.each });
  }

  -- nothing is said
  pub rooted_unbegun : (own : Layout) → StopsOnly M a a (SaysRooted own k (M.now a))
  rooted_unbegun own = quiet_stops M a a k own at_a at_a still none_run

  -- and so was one command
  pub stops_unbegun : (turns : List Turn) → StopsOnly M a a (InRun k f turns (M.now a))
  stops_unbegun turns = stays_stops M k f a a at_a at_a still none_run on turns

-- the changes of no turn
held_none : {D : Type 0} (M : Ghosts D) (k : Known) (n : ℕ) (b : D) → IsHeld M b (λ c. IsSound k.mounted.volume.layout k.windows k.changes n c.image) → IsHeld M b (λ c. IsSound k.mounted.volume.layout k.windows (k.changes ++ []) n c.image)
held_none M k n b held c left = subst (λ (h : List Change). IsSound k.mounted.volume.layout k.windows h n c.image) (sym (append-nil k.changes)) (held c left)

pub alone_unbegun : {S D : Type 0} (state : S → State) (has : S → Mounted → List Placed → Type 0) (M : Ghosts D) (command : Command) (v : S) (a : D) (k : Known) → IsTimed M a → Stands state has v k (M.now a) → OnDisk M k (forced_of k) a
    → IsAlone M command k a a (Err (Stopped Ends.Memory))
alone_unbegun state has M command v a k at_a stands on = record {
  mets = [];
  goes = λ t le. tt;
  moments = stops_unbegun state has M v a k (forced_of k) at_a stands on (blank ∷ []);
  says = none_says state has M v a k (forced_of k) at_a stands on;
  rooted = rooted_unbegun state has M v a k (forced_of k) at_a stands on (volume_of k).layout;
  ends = record { once = tt; said = refl; spared = λ is. sound_here state has M v a k (forced_of k) at_a stands on; held = held_none M k (forced_of k) a on.each };
}

-- ---- one command

module _ {S D : Type 0} (state : S → State) (has : S → Mounted → List Placed → Type 0) (M : Ghosts D)
    (wears : (s : S) (k : Known) (old new : Moment) → AreShort old.windows → Ages old new → Stands state has s k old → Stands state has s k new)
    (short : (m : D) → M.honest m → AreShort (M.now m).windows)
    (timed : (m : D) → M.honest m → IsTimed M m)
    (command : Command) (v w : S) (a m b : D) (k : Known) (none : k.opened ≡ none_open) (stood : Stands state has v k (M.now a)) (on : OnDisk M k (forced_of k) a)
    (turn_to : Layout → Layout) (disk : Wrote M (StaysBy turn_to state has v) a m) (honest : M.honest m) (since : Since M m b) where
  abbrev own : Layout
  own = turn_to k.mounted.volume.layout

  same : Ages (M.now a) (M.now a)
  same = record { image = worn_refl (open_damage (M.now a).windows) (M.now a).image; windows = refl }

  abbrev plain : ScriptCommand
  plain = Plain command

  abbrev idle : Seated
  idle = seated k no_clients

  sits : SitsAt state has (v, no_desk) idle (M.now a)
  sits = sits_fresh state has k v (M.now a) none stood

  at_a : IsTimed M a
  at_a = timed a (disk.back honest)

  at_m : IsTimed M m
  at_m = timed m honest

  stays_run : LeavesOnly M.moment M.left_since a m (StaysSaying own k (M.now a))
  stays_run = leaves_more M.moment M.left_since a m (StaysBy turn_to state has v (M.now a)) (StaysSaying own k (M.now a)) (λ left stays. stays k stood) (disk.any_moment honest)

  says_run : (behind : Layout) → (own ≡ behind) ⊎ (own ≡ k.mounted.volume.layout) → LeavesOnly M.moment M.left_since a m (λ c. SaysEither behind k c.image)
  says_run behind same = say_as M own behind k a m same (stays_say M own k (M.now a) a m stays_run)

  before : (turns : List Turn) → StopsOnly M a m (InRun k (forced_of k) turns (M.now a))
  before turns = stays_stops M k (forced_of k) a m at_a at_m (disk.since honest) stays_run on turns

  quiet_before : (behind : Layout) → StopsOnly M a m (SaysRooted behind k (M.now a))
  quiet_before behind = quiet_stops M a m k behind at_a at_m (disk.since honest) stays_run

  -- what the disk has is sound as it was
  pub alone_held : OnDisk M k (forced_of k) m
  alone_held = stays_held M k (forced_of k) a m at_a at_m (disk.since honest) stays_run on

  spared : IsSound k.mounted.volume.layout k.windows k.changes (forced_of k) (M.now m).image
  spared = (disk.exit honest k stood).sound

  unanswered : own ≡ (volume_of k).layout → (why : Fault) → EndsAtOnce why → IsAlone M command k a m (Err (Stopped why))
  unanswered keeps why once = record {
    mets = [];
    goes = λ t le. tt;
    moments = before (blank ∷ []);
    says = says_run (volume_of k).layout (inl keeps);
    rooted = quiet_before (volume_of k).layout;
    ends = record { once = once; said = disk.quiet honest; spared = λ is. spared; held = held_none M k (forced_of k) m alone_held.each };
  }

  -- it was not answered
  pub alone_fault : own ≡ (volume_of k).layout → (why : Fault) → (why ≡ Ends.WornOut → is_worn (state v) ≡ false) → Does state has command v w k (M.now a) (M.now m) (Err why) → IsAlone M command k a m (Err (Stopped why))
  alone_fault keeps (Ends.Device s) unworn does = unanswered keeps (Ends.Device s) tt
  alone_fault keeps Ends.Memory unworn does = unanswered keeps Ends.Memory tt
  alone_fault keeps Ends.WornOut unworn does = absurd (let worn = does.0.worn in let not_so = unworn refl in cc (not_so, worn))
  alone_fault keeps why unworn does = absurd does

  -- nor was one that would give the volume another layout: a root may say that already
  module _ (met : Meeting) (may : MayMeet (M.now a).image (M.now m).image (session_in idle) plain met) (quiet : may_wear_out command ≡ false) where
    abbrev turn_met : Turn
    turn_met = turn_by (errand_alone command) (session_in idle) plain met

    goes_met : (t : ℕ) → t ≤ M.moment a → Goes (in_runs k.windows) (M.left_since m t) Anything (errand_alone command) (M.now a).said (M.now a).image (session_in idle) (met ∷ []) (plain ∷ [])
    goes_met t le =
        let late = (disk.any_moment honest).later in (
          (M.now m).image,
          record {
            kept = stood.disk.described.kept;
            tells = mounted_tells k.mounted k.windows k.changes (forced_of k) (M.now a).image stood.disk;
            unworn = λ wears worn. cc (quiet, wears);
            exit = record { moment = M.now m; passed = at_m.history.sooner t (M.moment m) (M.now m) (omega (arith, le, late)) at_m.here; image = refl; so_far = disk.quiet honest };
            may = may;
          },
          tt,
        )

    pub alone_undone : own ≡ (answer_in met (session_in idle) plain).1.volume.layout → changes_in (turn_met ∷ []) ≡ [] → (why : Fault) → EndsAtOnce why → IsAlone M command k a m (Err (Stopped why))
    alone_undone behind unchanged why once = record {
      mets = met ∷ [];
      goes = goes_met;
      moments = before (turn_met ∷ []);
      says = says_run (answer_in met (session_in idle) plain).1.volume.layout (inl behind);
      rooted = quiet_before (answer_in met (session_in idle) plain).1.volume.layout;
      ends = record {
        once = once;
        said = disk.quiet honest;
        spared = λ is. spared;
        held = λ c left. subst (λ (h : List Change). IsSound k.mounted.volume.layout k.windows (k.changes ++ h) (forced_of k) c.image) (sym unchanged) (held_none M k (forced_of k) m alone_held.each c left);
      };
    }

  module _ (after : Known) (reply : Reply) (is : IsAnswered command (state v) k after (M.now a).image (M.now m).image reply) (stands : Stands state has w after (M.now m)) where
    abbrev later : Seated
    later = seated after no_clients

    pub is_in : IsAnsweredIn plain (state v) idle later (M.now a).image (M.now m).image reply
    is_in = plain_answered state has command v w no_desk idle (M.now a) (M.now m) sits (λ x same_open there. none_holds state has w (M.now m) x (same_open ∙ none) there) after reply is stands

    later_sits : SitsAt state has (w, no_desk) later (M.now m)
    later_sits = seat_on state has v w no_desk idle after (M.now a) (M.now m) sits is.opened stands

    abbrev turn : Turn
    turn = turn_by (errand_alone command) (session_in idle) plain is_in.met

    abbrev out : Session
    out = (answer_in is_in.met (session_in idle) plain).1

    reply_same : reply ≡ (answer_in is_in.met (session_in idle) plain).0
    reply_same = sym (ap (λ (o : Reply × Session). o.0) is_in.is)

    session_same : session_in later ≡ out
    session_same = sym (ap (λ (o : Reply × Session). o.1) is_in.is)

    text_is : reply_alone reply ≡ turn.said
    text_is = ap (λ (r : Reply). reply_alone r) reply_same

    status_same : reply_status reply ≡ reply_status (answer_in is_in.met (session_in idle) plain).0
    status_same = ap (λ (r : Reply). reply_status r) reply_same

    goes : (t : ℕ) → t ≤ M.moment a → Goes (in_runs k.windows) (M.left_since b t) Anything (errand_alone command) (M.now a).said (M.now a).image (session_in idle) (is_in.met ∷ []) (plain ∷ [])
    goes t le =
        let late = (disk.any_moment honest).later in
        let before_m : t ≤ M.moment m = omega (arith, le, late) in
        let passed : StoodAt (M.left_since b t) (M.now a).said (M.now m).image = record { moment = M.now m; passed = since t (M.now m) before_m (at_m.history.sooner t (M.moment m) (M.now m) before_m at_m.here); image = refl; so_far = disk.quiet honest } in
        ((M.now m).image, stepped state has plain (v, no_desk) (w, no_desk) idle (M.now a) (M.now a) (M.now m) sits same later reply is_in later_sits (M.left_since b t) (M.now a).said passed, tt)

    -- its reply is said behind what has these changes, all of them forced
    module _ (n : Known) (layout : n.mounted.volume.layout ≡ k.mounted.volume.layout) (windows : n.windows ≡ k.windows) (changes : n.changes ≡ k.changes ++ turn.changes) (telling : telling_of (volume_of n) ≡ telling_of (volume_of after)) where
      on_close : (left : Moment) → InClose (volume_of after).layout n (forced_of k) (reply_alone reply) (M.now m) left → InRun k (forced_of k) (turn ∷ []) (M.now a) left
      on_close left c = by c.heard refl
        where
          same_windows : left.windows ≡ (M.now a).windows
          same_windows = c.windows ∙ disk.windows honest

          said : left.said ≡ (M.now a).said ++ take c.heard turn.said
          said = c.said ∙ ap (λ (x : List ℕ). x ++ take c.heard (reply_alone reply)) (disk.quiet honest) ∙ ap (λ (x : List ℕ). (M.now a).said ++ take c.heard x) text_is

          by : (heard : ℕ) → heard ≡ c.heard → InRun k (forced_of k) (turn ∷ []) (M.now a) left
          by zero none = in_part k n (forced_of k) turn [] layout windows changes c.forced c.least (M.now a) left same_windows c.sound [] (said ∙ ap (λ (h : ℕ). (M.now a).said ++ take h turn.said) (sym none)) (says_nothing (length k.changes + forced_in (turn ∷ []) ≤ c.forced) (Some turn))
          by (suc heard) some = in_saying_at k n (forced_of k) turn [] layout windows changes c.forced c.least (M.now a) left same_windows c.sound (λ all. c.all (omega (arith, some))) c.heard said

      telling_same : telling_of (volume_of n) ≡ telling_of out.volume
      telling_same = telling ∙ ap (λ (x : Session). telling_of x.volume) session_same

      all_changes : n.changes ≡ k.changes ++ changes_in (turn ∷ [])
      all_changes = changes ∙ ap (λ (h : List Change). k.changes ++ h) (sym (append-nil turn.changes))

      -- what is sound behind it is so of its one turn
      sound_as : (f : List Change → ℕ) (i : Image) → IsSound n.mounted.volume.layout n.windows n.changes (f n.changes) i → IsSound k.mounted.volume.layout k.windows (k.changes ++ changes_in (turn ∷ [])) (f (k.changes ++ changes_in (turn ∷ []))) i
      sound_as f i sound = subst (λ (h : List Change). IsSound k.mounted.volume.layout k.windows h (f h) i) all_changes
          (subst (λ (x : List WeakRun). IsSound k.mounted.volume.layout x n.changes (f n.changes) i) windows
          (subst (λ (l : Layout). IsSound l n.windows n.changes (f n.changes) i) layout sound))

      own_as : (i : Image) → HasOwnRoots (volume_of after).layout (weak_of n.windows) i → HasOwnRoots out.volume.layout (weak_of k.windows) i
      own_as i own = subst (λ (x : Session). HasOwnRoots x.volume.layout (weak_of k.windows) i) session_same (subst (λ (x : List WeakRun). HasOwnRoots (volume_of after).layout (weak_of x) i) windows own)

      -- its roots stand before the first byte
      on_rooted : (left : Moment) → InClose (volume_of after).layout n (forced_of k) (reply_alone reply) (M.now m) left → SaysRooted out.volume.layout k (M.now a) left
      on_rooted left c = by c.heard refl
        where
          by : (heard : ℕ) → heard ≡ c.heard → SaysRooted out.volume.layout k (M.now a) left
          by zero none = inl (c.said ∙ ap (λ (x : ℕ). (M.now m).said ++ take x (reply_alone reply)) (sym none) ∙ append-nil (M.now m).said ∙ disk.quiet honest)
          by (suc heard) some = inr (own_as left.image (c.roots (omega (arith, some))))

      done : SaysClosedBy (volume_of after).layout M n (reply_alone reply) m b → IsDone M k (turn ∷ []) out.volume a b
      done c =
          record {
            windows = c.windows ∙ disk.windows honest;
            said = c.said ∙ ap (λ (x : List ℕ). x ++ reply_alone reply) (disk.quiet honest) ∙ ap (λ (x : List ℕ). (M.now a).said ++ x) (text_is ∙ sym (append-nil turn.said));
            sound = sound_as (λ (h : List Change). length h) (M.now b).image c.sound;
            held = λ x left. sound_as (λ (h : List Change). length h) x.image (c.held x left);
            tells = subst (λ (l : Layout). told l (M.now b).image ≡ Some (telling_of out.volume)) layout (c.tells ∙ ap (λ (x : Telling). Some x) telling_same);
            lasts = subst (λ (x : List WeakRun). AllWorn (weak_of x) (λ j. told k.mounted.volume.layout j ≡ Some (telling_of out.volume)) (M.now b).image) windows
                (subst (λ (l : Layout). AllWorn (weak_of n.windows) (λ j. told l j ≡ Some (telling_of out.volume)) (M.now b).image) layout
                (subst (λ (x : Telling). AllWorn (weak_of n.windows) (λ j. told n.mounted.volume.layout j ≡ Some x) (M.now b).image) telling_same c.lasts));
            roots = own_as (M.now b).image c.roots;
            rooted = λ x left. own_as x.image (c.rooted x left);
          }

      ended : (r : Result ℕ Halt) → (r ≡ Err (Stopped Ends.Memory) → b ≡ m) → IfOk r (λ status. status ≡ reply_status reply) → EndsClosedBy (volume_of after).layout M n (forced_of k) (reply_alone reply) m b (unit_of r) → EndsAlone M command k (is_in.met ∷ []) a b r
      ended (Ok status) undone gives c = (refl, gives ∙ status_same, done c)
      ended (Err Output) undone gives c = tt
      ended (Err (Stopped why)) undone gives c = record {
        once = c.0;
        said = c.1.said ∙ disk.quiet honest;
        spared = λ is. subst (λ (x : D). IsSound k.mounted.volume.layout k.windows k.changes (forced_of k) (M.now x).image) (sym (undone (ap (λ (w : Fault). Err (Stopped w)) is))) spared;
        held = λ x left. sound_as (λ (h : List Change). forced_of k) x.image (c.1.held x left);
      }

      says_behind : LeavesOnly M.moment M.left_since m b (λ c. SaysEither (volume_of after).layout n c.image) → LeavesOnly M.moment M.left_since m b (λ c. SaysEither out.volume.layout k c.image)
      says_behind run = subst (λ (x : Session). LeavesOnly M.moment M.left_since m b (λ c. SaysEither x.volume.layout k c.image)) session_same
          (leaves_more M.moment M.left_since m b (λ c. SaysEither (volume_of after).layout n c.image) (λ c. SaysEither (volume_of after).layout k c.image) (λ c says l there is. ⊎_elim (λ e. inl e) (λ e. inr (e ∙ layout)) (says l there is)) run)

      pub alone_closed_as : (own ≡ (volume_of after).layout) ⊎ (own ≡ k.mounted.volume.layout) → (r : Result ℕ Halt) → (r ≡ Err (Stopped Ends.Memory) → b ≡ m) → IfOk r (λ status. status ≡ reply_status reply) → ClosesAndSaysBy (volume_of after).layout M n (forced_of k) (reply_alone reply) m b (unit_of r) → IsAlone M command k a b r
      alone_closed_as turns r undone gives c = record {
        mets = is_in.met ∷ [];
        goes = goes;
        says = then_on M.moment M.left_since a m b (λ x. SaysEither out.volume.layout k x.image) (subst (λ (x : Session). LeavesOnly M.moment M.left_since a m (λ c. SaysEither x.volume.layout k c.image)) session_same (says_run (volume_of after).layout turns)) (says_behind c.says);
        moments = then_on M.moment (stops M) a m b (InRun k (forced_of k) (turn ∷ []) (M.now a)) (before (turn ∷ []))
            (leaves_more M.moment (stops M) m b (InClose (volume_of after).layout n (forced_of k) (reply_alone reply) (M.now m)) (InRun k (forced_of k) (turn ∷ []) (M.now a)) on_close c.moments);
        rooted = then_on M.moment (stops M) a m b (SaysRooted out.volume.layout k (M.now a)) (quiet_before out.volume.layout)
            (leaves_more M.moment (stops M) m b (InClose (volume_of after).layout n (forced_of k) (reply_alone reply) (M.now m)) (SaysRooted out.volume.layout k (M.now a)) on_rooted c.moments);
        ends = ended r undone gives c.ends;
      }

    -- by a command that keeps the layout
    module _ (layout : (state w).layout ≡ (state v).layout) where
      layout_same : after.mounted.volume.layout ≡ k.mounted.volume.layout
      layout_same = stands.fits.layout ∙ layout ∙ sym stood.fits.layout

      changes_same : after.changes ≡ k.changes ++ turn.changes
      changes_same = is_in.changes ∙ ap (λ (r : Reply). k.changes ++ changes_in_session (session_in idle) plain r) reply_same

      forced_more : forced_of k ≤ forced_of after
      forced_more =
          let more = command_grows is_in.met (session_in idle) plain in
          let unforced : after.mounted.volume.unforced ≡ out.volume.unforced = ap (λ (x : Session). x.volume.unforced) session_same in
          let sum = length-append k.changes turn.changes in
          let long : length after.changes ≡ length (k.changes ++ turn.changes) = ap (λ (h : List Change). length h) changes_same in
          omega (arith, more, unforced, sum, long)

      -- what the disk has is sound for its changes too
      pub answered_held : OnDisk M after (forced_of k) m
      answered_held = record {
        most = forced_more;
        each = λ c left.
            subst (λ (l : Layout). IsSound l after.windows after.changes (forced_of k) c.image) (sym layout_same)
            (subst (λ (x : List WeakRun). IsSound k.mounted.volume.layout x after.changes (forced_of k) c.image) (sym is_in.windows)
            (subst (λ (h : List Change). IsSound k.mounted.volume.layout k.windows h (forced_of k) c.image) (sym changes_same)
            (sound_more k.mounted.volume.layout k.windows k.changes turn.changes (forced_of k) c.image (alone_held.each c left))));
      }

      pub alone_answered : own ≡ k.mounted.volume.layout → (r : Result ℕ Halt) → (r ≡ Err (Stopped Ends.Memory) → b ≡ m) → IfOk r (λ status. status ≡ reply_status reply) → ClosesAndSays M after (forced_of k) (reply_alone reply) m b (unit_of r) → IsAlone M command k a b r
      alone_answered keeps = alone_closed_as after layout_same is_in.windows changes_same refl (inr keeps)
