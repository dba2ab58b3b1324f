-- A run behind the attach of its image.
use Rattle.std.proofs.Common.{◌≡◌, ◌⊎◌, inl, inr, ⊎_elim, ℕ, ◌^◌, ◌-◌, min, List, [], ◌∷◌, ◌++◌, length, take, Option, Some, refl, sym, ◌∙◌, ap, subst, arith}
use Rattle.std.specs.Prelude.{IsSome}
use Rattle.std.proofs.lemmas.List.{append-nil}
use Rattle.volume_layout.specs.declared.layout.Layout.{Layout}
use Rattle.volume_layout.proofs.RootLaws.{planned_bounds}
use Rattle.sector_disk.specs.declared.machine.Machine.{Ghosts}
use Rattle.sector_disk.specs.declared.sector.WeakRun.{WeakRun}
use Rattle.sector_disk.specs.Calls.{IsHeld, IsTimed, Since, StopsOnly, stops}
use Rattle.sector_disk.specs.Image.{AreShort, IsWorn, Windows, open_damage}
use Rattle.sector_disk.specs.Machine.{Before, Elapses, Finds, IsSynced, LeavesOnly, Moment, Report, Rose, Wears}
use Rattle.sector_disk.proofs.Lags.{shows_of, stops_by}
use Rattle.sector_disk.proofs.Moments.{goes_on, leaves_more, started, then_on}
use Rattle.sector_disk.proofs.Wear.{worn_trans}
use Rattle.fsd_files.specs.Files.{Change}
use Rattle.fsd_files.specs.Disk.{Image, Sectors, in_runs}
use Rattle.fsd_sound.specs.Sound.{EachSaid, IsSaid, IsSound, Says, SaysNoMore, weak_of}
use Rattle.fsd_sound.proofs.WindowLaws.{named_from}
use Rattle.fsd_sound.proofs.MoreLaws.{wear_sound}
use Rattle.fsd_sound.proofs.SaidLaws.{planned_beside, says_worn, worn_says}
use Rattle.fsd_sound.proofs.BesideLaws.{said_sound}
use Rattle.fsd_sound.proofs.WindowLaws.{open_is_weak}
use Rattle.fsd_texts.specs.declared.fault.Fault.{Fault}
use Rattle.fsd_texts.specs.declared.fault.Fault.TheVariants as Ends
use Rattle.fsd_texts.specs.Text.{fault_text}
use Rattle.fsd_runs.specs.declared.request.Request.{Request}
use Rattle.fsd_runs.specs.declared.request.Request.TheVariants.{Put, Restore}
use Rattle.fsd_runs.specs.Errands.{ByFault, Cut, Turn}
use Rattle.fsd_runs.specs.Leaves.{CutCause, IsBrokenOff, IsOutside, IsReplied, IsRooted, IsSoundAsSaid, IsSpent, IsUnderWay, IsUndone, IsUnsaid, LeavesBy, LeavesMounted, LeavesRoots, LeavesSaid, LeavesUnmounted, Left, LeftBefore, LeftByTurns, SaysFault, WasSaid}
use Rattle.fsd_runs.proofs.LeaveLaws.{one_more}
use Rattle.fsd_runs.specs.Sessions.{session_over}
use Rattle.fsd_runs.specs.Runs.{Goes, GoesSo, IsCutAt, IsThrough, Course, answered, errand_in, run_end, run_status, run_turns, said_in}
use Rattle.volume_contract.specs.Mount.{IsSoundAt}
use Rattle.volume_turns.specs.Status.{CountsNone}
use Rattle.volume_turns.proofs.RootedLaws.{leaves_roots, was_stops}
use Rattle.cfs_program.specs.Opening.{IsSoundDisk}
use Rattle.cfs_program.proofs.AnchorLaws.{last_before}

rose_on : (a b c : ℕ) → b ≡ a → Rose b c → Rose a c
rose_on a b c same rose = subst (λ (n : ℕ). Rose n c) same rose

outside_on : (request : Request) (a b c : Report) (why : Fault) → CountsNone a b → IsOutside request b c why → IsOutside request a c why
outside_on request a b c (Ends.Device s) same out = record { rose = rose_on a.disk_faults b.disk_faults c.disk_faults same.disk out.rose; told = out.told }
outside_on request a b c Ends.Memory same out = tt
outside_on (Put name keep) a b c Ends.Input same out = rose_on a.input_faults b.input_faults c.input_faults same.input out
outside_on Restore a b c Ends.Input same out = rose_on a.input_faults b.input_faults c.input_faults same.input out
outside_on request a b c other same out = absurd out

cause_on : (cut : Cut) (input rest : List ℕ) (a b c : Report) → CountsNone a b → CutCause cut input rest b c → CutCause cut input rest a c
cause_on (Some (ByFault k Ends.Input)) input rest a b c same cause = record { rose = rose_on a.input_faults b.input_faults c.input_faults same.input cause.rose; taken = cause.taken; all = cause.all; commands = cause.commands }
cause_on cut input rest a b c same cause = tt

-- An image is found as it was but worn, with its present window, and nothing is said.
pub record Keeps (old at : Moment) : Type 0 where
  pub image : IsWorn (open_damage old.windows) old.image at.image
  pub present : at.windows.present ≡ old.windows.present
  pub said : at.said ≡ old.said

pub finds_keep : (old at : Moment) → Finds old at → Keeps old at
finds_keep old at found = record { image = found.image; present = ap (λ (w : Windows). w.present) found.windows; said = found.said }

-- an image of a sound disk that was worn
nothing_said : SaysFault []
nothing_said = (Ends.Memory, 0, tt, refl)

module _ (l : Layout) (windows : List WeakRun) (h : List Change) (f : ℕ) (old : Moment) (sound : IsSoundDisk l windows h f old) (short : AreShort old.windows) where
  pub left_start : LeftBefore l windows h f old old
  left_start = record { present = refl; part = []; said = sym (append-nil old.said); fault = nothing_said; sound = sound.sound }

  pub left_worn : (left : Moment) → Wears old left → LeftBefore l windows h f old left
  left_worn left worn = record {
    present = ap (λ (w : Windows). w.present) worn.windows;
    part = [];
    said = worn.said ∙ sym (append-nil old.said);
    fault = nothing_said;
    sound = wear_sound l windows h f old.windows old.image left.image short sound.ends worn.image sound.sound;
  }

  -- the image is found so
  module _ (at : Moment) (found : Keeps old at) where
    pub left_found : LeftBefore l windows h f old at
    left_found = record {
      present = found.present;
      part = [];
      said = found.said ∙ sym (append-nil old.said);
      fault = nothing_said;
      sound = wear_sound l windows h f old.windows old.image at.image short sound.ends found.image sound.sound;
    }

    pub left_attach : (left : Moment) → Before old at left → LeftBefore l windows h f old left
    left_attach left (inl wears) = left_worn left wears
    left_attach left (inr is) = subst (λ (m : Moment). LeftBefore l windows h f old m) (sym is) left_found

    pub before_on : (left : Moment) → LeftBefore l windows h f at left → LeftBefore l windows h f old left
    before_on left x = record { present = x.present ∙ found.present; part = x.part; said = x.said ∙ ap (λ (s : List ℕ). s ++ x.part) found.said; fault = x.fault; sound = x.sound }

    pub since_on : (run : WeakRun) (n : ℕ) (turns : List Turn) (left : Moment) → LeftByTurns l windows run h n turns at left → LeftByTurns l windows run h n turns old left
    since_on run n turns left x = record {
      settled = x.settled;
      whole = x.whole;
      part = x.part;
      said = x.said ∙ ap (λ (s : List ℕ). s ++ (said_in (take x.whole turns) ++ x.part)) found.said;
      next = x.next;
      forced = x.forced;
      enough = x.enough;
      sound = x.sound;
    }

    pub left_on : (run : WeakRun) (n : ℕ) (turns : List Turn) (left : Moment) → Left l windows run h f n turns at left → Left l windows run h f n turns old left
    left_on run n turns left (inl x) = inl (before_on left x)
    left_on run n turns left (inr x) = inr (since_on run n turns left x)

    rooted_on : (own : Layout) (weak : Sectors) (left : Moment) → IsRooted own weak at left → IsRooted own weak old left
    rooted_on own weak left (inl (part, fault, said)) = inl (part, fault, said ∙ ap (λ (s : List ℕ). s ++ part) found.said)
    rooted_on own weak left (inr roots) = inr roots

    -- the disk that the mount finds
    pub sound_found : (count : ℕ) → count ≡ min (length at.image) (2 ^ 32 - 1) → IsSoundAt count l windows h f at
    sound_found count size =
        let most = (planned_bounds l sound.planned).sectors_most in
        let long = left_found.sound.readable.roots.fits in record {
          planned = sound.planned;
          fits = λ k said. ⊎_elim
              (λ is. omega (arith, size, most, long, ap (λ (x : Layout). x.sectors) is))
              (λ is.
              let bound = (planned_bounds k (planned_beside l k sound.planned is.0)).sectors_most in
              let room = (left_found.sound.readable.either k is.0 is.1).fits in
              omega (arith, size, bound, room)) said;
          ends = record { last = sound.ends.last ∙ sym found.present; some = subst (λ (w : Option WeakRun). IsSome w) (sym found.present) sound.ends.some };
          sound = left_found.sound;
        }

    spent_on : (new : Moment) (status : ℕ) → IsSpent at new status → IsSpent old new status
    spent_on new status x =
        let was = last_before (open_damage old.windows) old.image at.image x.anchor found.image x.taken x.last in
        record { anchor = was.0; taken = was.1; last = was.2; ends = x.ends; said = x.said ∙ ap (λ (s : List ℕ). s ++ fault_text Ends.WornOut) found.said }

    module _ (request : Request) (a b c : Report) (same : CountsNone a b) (new : Moment) (status : ℕ) where
      unsaid_on : IsUnsaid b c status → IsUnsaid a c status
      unsaid_on x = record { ends = x.ends; rose = rose_on a.output_faults b.output_faults c.output_faults same.output x.rose }

      broken_on : {Undone : ℕ → Image → Type 0} {Way : ℕ → Type 0} (turns : List Turn) → IsBrokenOff request Undone Way b c turns at new status → IsBrokenOff request Undone Way a c turns old new status
      broken_on turns x = record {
        why = x.why;
        outside = outside_on request a b c x.why same x.outside;
        ends = x.ends;
        says = record { whole = x.says.whole; more = x.says.more; said = x.says.said ∙ ap (λ (s : List ℕ). s ++ (said_in (take x.says.whole turns) ++ fault_text x.why)) found.said };
        held = x.held;
        undone = x.undone;
        unread = x.unread;
      }

      failed_on : {Undone : ℕ → Image → Type 0} {Way : ℕ → Type 0} (turns : List Turn) → IsUnsaid b c status ⊎ IsBrokenOff request Undone Way b c turns at new status → IsUnsaid a c status ⊎ IsBrokenOff request Undone Way a c turns old new status
      failed_on turns (inl x) = inl (unsaid_on x)
      failed_on turns (inr x) = inr (broken_on turns x)

      spent_or : {Undone : ℕ → Image → Type 0} {Way : ℕ → Type 0} (turns : List Turn) → IsSpent at new status ⊎ (IsUnsaid b c status ⊎ IsBrokenOff request Undone Way b c turns at new status) → IsSpent old new status ⊎ (IsUnsaid a c status ⊎ IsBrokenOff request Undone Way a c turns old new status)
      spent_or turns (inl x) = inl (spent_on new status x)
      spent_or turns (inr x) = inr (failed_on turns x)

-- ---- what a stop leaves

-- the image is that of an earlier moment, which is as sound
module _ {D : Type 0} (M : Ghosts D) (l : Layout) (windows : List WeakRun) (h : List Change) (f : ℕ) (old : Moment) (a b : D) (at_a : IsTimed M a) (at_b : IsTimed M b) where
  pub stops_before : Since M a b → LeavesOnly M.moment M.left_since a b (LeftBefore l windows h f old) → IsHeld M a (λ c. IsSound l windows h f c.image) → StopsOnly M a b (LeftBefore l windows h f old)
  stops_before since run held = stops_by M a b (LeftBefore l windows h f old) (λ c. IsSound l windows h f c.image) at_a at_b since run held (LeftBefore l windows h f old) (λ c x. x) (λ last shown x left early lately is. left_shown last shown x (image_is shown is))
    where
      image_is : (shown : Moment) → IsSound l windows h f shown.image ⊎ LeftBefore l windows h f old shown → IsSound l windows h f shown.image
      image_is shown (inl sound) = sound
      image_is shown (inr left) = left.sound

      left_shown : (last shown : Moment) → LeftBefore l windows h f old last → IsSound l windows h f shown.image → LeftBefore l windows h f old (shows_of shown last)
      left_shown last shown x sound = record { present = x.present; part = x.part; said = x.said; fault = x.fault; sound = sound }

-- ---- what the roots say

-- the image is found with no other root
before_says : (old at left : Moment) → Keeps old at → Before old at left → SaysNoMore old.image left.image
before_says old at left keeps (inl wears) = worn_says (open_damage old.windows) old.image left.image wears.image
before_says old at left keeps (inr is) = subst (λ (m : Moment). SaysNoMore old.image m.image) (sym is) (worn_says (open_damage old.windows) old.image at.image keeps.image)

module _ {D : Type 0} (M : Ghosts D) (own : Layout) (weak : Sectors) (a b c : D) (at_a : IsTimed M a) (at_b : IsTimed M b) (synced : IsSynced (M.now b))
    (time : Elapses (M.moment a) (M.moment b) (M.left_since a) (M.left_since b) (Before (M.now a) (M.now b))) (found : Keeps (M.now a) (M.now b)) where
  abbrev Had : Moment → Type 0
  Had = M.left_since a (M.now a).synced

  found_says : LeavesOnly M.moment M.left_since a b (λ x. SaysNoMore (M.now a).image x.image)
  found_says = goes_on M.moment M.left_since a a b (λ x. SaysNoMore (M.now a).image x.image) (Before (M.now a) (M.now b)) (started M.moment M.left_since a (M.now a) (λ x. SaysNoMore (M.now a).image x.image) at_a.only (λ k says. says)) time
      (λ left before. before_says (M.now a) (M.now b) left found before)

  pub roots_ahead : StopsOnly M a b (IsRooted own weak (M.now a)) → StopsOnly M a b (LeavesRoots own weak Had (M.now a))
  roots_ahead rooted = leaves_roots M own a b at_a at_b time.keeps weak (leaves_more M.moment M.left_since a b (λ x. SaysNoMore (M.now a).image x.image) (λ x. EachSaid x.image (λ l. (l ≡ own) ⊎ Says l (M.now a).image)) (λ x less l planned says. inr (less l says)) found_says) rooted

  -- what is on the disk behind an attach is all that there is
  was_found : (l : Layout) → WasSaid (M.left_since b (M.now b).synced) l → WasSaid Had l
  was_found l (x, had, says) =
      let is : x ≡ M.now b = at_b.only x (subst (λ (t : ℕ). M.left_since b t x) (synced ∙ at_b.dated) had) in
      let early = at_a.history.synced (M.moment a) (M.now a) at_a.here in
      let dated = at_a.dated in
      (M.now a, at_a.history.sooner (M.now a).synced (M.moment a) (M.now a) (omega (arith, early, dated)) at_a.here, worn_says (open_damage (M.now a).windows) (M.now a).image (M.now b).image found.image l (subst (λ (m : Moment). Says l m.image) is says))

  pub roots_behind : ((left : Moment) → IsRooted own weak (M.now b) left → IsRooted own weak (M.now a) left) → StopsOnly M b c (LeavesRoots own weak (M.left_since b (M.now b).synced) (M.now b)) → StopsOnly M b c (LeavesRoots own weak Had (M.now a))
  roots_behind on run = leaves_more M.moment (stops M) b c (LeavesRoots own weak (M.left_since b (M.now b).synced) (M.now b)) (LeavesRoots own weak Had (M.now a))
      (λ left x. record { says = λ l planned there. ⊎_elim (λ same. inl same) (λ was. inr (was_found l was)) (x.says l planned there); replied = on left x.replied }) run

-- ---- the whole

module _ {D : Type 0} (M : Ghosts D) (request : Request) (input rest : List ℕ) (l : Layout) (windows : List WeakRun) (h : List Change) (f : ℕ) (a b c : D) (status : ℕ)
    (sound : IsSoundDisk l windows h f (M.now a)) (short : AreShort (M.now a).windows)
    (ahead : StopsOnly M a b (LeftBefore l windows h f (M.now a))) (found : Keeps (M.now a) (M.now b)) (same : CountsNone (M.report a) (M.report b))
    (at_a : IsTimed M a) (at_b : IsTimed M b) (synced : IsSynced (M.now b)) (time : Elapses (M.moment a) (M.moment b) (M.left_since a) (M.left_since b) (Before (M.now a) (M.now b))) where
  opened_unmounted : LeavesUnmounted request l windows h f (M.left_since b (M.now b).synced) (StopsOnly M b c) (IsHeld M c) (M.report b) (M.report c) (M.now b) (M.now c) status
      → LeavesUnmounted request l windows h f (M.left_since a (M.now a).synced) (StopsOnly M a c) (IsHeld M c) (M.report a) (M.report c) (M.now a) (M.now c) status
  opened_unmounted u = record {
    moments = then_on M.moment (stops M) a b c (LeftBefore l windows h f (M.now a)) ahead
        (leaves_more M.moment (stops M) b c (LeftBefore l windows h f (M.now b)) (LeftBefore l windows h f (M.now a)) (before_on l windows h f (M.now a) sound short (M.now b) found) u.moments);
    exit = before_on l windows h f (M.now a) sound short (M.now b) found (M.now c) u.exit;
    held = u.held;
    says = then_on M.moment (stops M) a b c (λ left. EachSaid left.image (WasSaid (M.left_since a (M.now a).synced)))
        (was_stops M l a b at_a at_b time.keeps (found_says M l (weak_of windows) a b c at_a at_b synced time found))
        (leaves_more M.moment (stops M) b c (λ left. EachSaid left.image (WasSaid (M.left_since b (M.now b).synced))) (λ left. EachSaid left.image (WasSaid (M.left_since a (M.now a).synced)))
        (λ left each k planned there. was_found M l (weak_of windows) a b c at_a at_b synced time found k (each k planned there)) u.says);
    ends = spent_or l windows h f (M.now a) sound short (M.now b) found request (M.report a) (M.report b) (M.report c) same (M.now c) status _ u.ends;
  }

  module _ (m : LeavesMounted request input rest l windows h f (M.left_since c) (stops M c) (M.moment b) (M.left_since b (M.now b).synced) (StopsOnly M b c) (IsHeld M c) (M.report b) (M.report c) (M.now b) (M.now c) status) where
    abbrev turns : List Turn
    turns = run_turns m.run

    abbrev run_is : Course request input (windows ++ m.next ∷ []) (M.left_since c m.at) (M.now a).said m.volume m.from
    run_is = record {
      cut = m.run.cut;
      may = m.run.may;
      before = m.run.before;
      mets = m.run.mets;
      goes = subst (λ (base : List ℕ). Goes (in_runs (windows ++ m.next ∷ [])) (M.left_since c m.at) (IsCutAt m.run.cut) (errand_in request input m.run.cut m.volume) base m.from (session_over m.volume) m.run.mets (errand_in request input m.run.cut m.volume).commands) found.said m.run.goes;
      so = subst (λ (base : List ℕ). GoesSo request m.run.cut (M.left_since c m.at) base m.volume m.from (answered m.run.mets (session_over m.volume) (errand_in request input m.run.cut m.volume).commands)) found.said m.run.so;
    }

    replied_on : IsReplied l windows m.next h m.count turns (run_status m.run) (run_end m.run) (IsHeld M c) (M.now b) (M.now c) status → IsReplied l windows m.next h m.count turns (run_status m.run) (run_end m.run) (IsHeld M c) (M.now a) (M.now c) status
    replied_on x = record { ends = x.ends; said = x.said ∙ ap (λ (s : List ℕ). s ++ said_in turns) found.said; settled = x.settled; sound = x.sound; held = x.held; tells = x.tells; roots = x.roots; rooted = x.rooted }

    ends_on : (IsThrough m.run × IsReplied l windows m.next h m.count turns (run_status m.run) (run_end m.run) (IsHeld M c) (M.now b) (M.now c) status) ⊎ (IsUnsaid (M.report b) (M.report c) status ⊎ IsBrokenOff request (IsUndone l (windows ++ m.next ∷ []) (take m.count h) m.count turns) (IsUnderWay l (windows ++ m.next ∷ []) (take m.count h) m.count turns (IsHeld M c)) (M.report b) (M.report c) turns (M.now b) (M.now c) status)
        → (IsThrough run_is × IsReplied l windows m.next h m.count (run_turns run_is) (run_status run_is) (run_end run_is) (IsHeld M c) (M.now a) (M.now c) status) ⊎ (IsUnsaid (M.report a) (M.report c) status ⊎ IsBrokenOff request (IsUndone l (windows ++ m.next ∷ []) (take m.count h) m.count (run_turns run_is)) (IsUnderWay l (windows ++ m.next ∷ []) (take m.count h) m.count (run_turns run_is) (IsHeld M c)) (M.report a) (M.report c) (run_turns run_is) (M.now a) (M.now c) status)
    ends_on (inl (through, replied)) = inl (through, replied_on replied)
    ends_on (inr failed) = inr (failed_on l windows h f (M.now a) sound short (M.now b) found request (M.report a) (M.report b) (M.report c) same (M.now c) status turns failed)

    -- what is said, and what the roots say
    abbrev own : Layout
    own = (run_end m.run).layout

    abbrev weak : Sectors
    weak = weak_of (windows ++ m.next ∷ [])

    roots_on : StopsOnly M b c (LeavesRoots own weak (M.left_since b (M.now b).synced) (M.now b)) → StopsOnly M a c (LeavesRoots own weak (M.left_since a (M.now a).synced) (M.now a))
    roots_on run = then_on M.moment (stops M) a b c (LeavesRoots own weak (M.left_since a (M.now a).synced) (M.now a))
        (roots_ahead M own weak a b c at_a at_b synced time found (leaves_more M.moment (stops M) a b (LeftBefore l windows h f (M.now a)) (IsRooted own weak (M.now a)) (λ left x. inl (x.part, x.fault, x.said)) ahead))
        (roots_behind M own weak a b c at_a at_b synced time found (rooted_on l windows h f (M.now a) sound short (M.now b) found own weak) run)

    opened_mounted : LeavesMounted request input rest l windows h f (M.left_since c) (stops M c) (M.moment a) (M.left_since a (M.now a).synced) (StopsOnly M a c) (IsHeld M c) (M.report a) (M.report c) (M.now a) (M.now c) status
    opened_mounted = record {
      count = m.count;
      prefix = m.prefix;
      next = m.next;
      named = named_from (M.left_since c) (M.moment a) (M.moment b) (Some m.next) ahead.later m.named;
      at = m.at;
      from = m.from;
      stood = record { moment = m.stood.moment; passed = m.stood.passed; image = m.stood.image; so_far = m.stood.so_far ∙ found.said };
      settled = m.settled;
      raised = record { left = m.raised.left; worn = worn_trans (weak_of windows) (M.now a).image (M.now b).image m.raised.left (open_is_weak (M.now a).windows windows (M.now a).image (M.now b).image sound.ends found.image) m.raised.worn; next = m.raised.next };
      volume = m.volume;
      starts = m.starts;
      own = m.own;
      run = run_is;
      cause = cause_on m.run.cut input rest (M.report a) (M.report b) (M.report c) same m.cause;
      moments = then_on M.moment (stops M) a b c (Left l windows m.next h f m.count turns (M.now a))
          (leaves_more M.moment (stops M) a b (LeftBefore l windows h f (M.now a)) (Left l windows m.next h f m.count turns (M.now a)) (λ left x. inl x) ahead)
          (leaves_more M.moment (stops M) b c (Left l windows m.next h f m.count turns (M.now b)) (Left l windows m.next h f m.count turns (M.now a)) (left_on l windows h f (M.now a) sound short (M.now b) found m.next m.count turns) m.moments);
      later = λ left was. since_on l windows h f (M.now a) sound short (M.now b) found m.next m.count turns left (m.later left was);
      rooted = one_more request roots_on m.rooted;
      exit = since_on l windows h f (M.now a) sound short (M.now b) found m.next m.count turns (M.now c) m.exit;
      ends = ends_on m.ends;
    }

  found_by : LeavesBy request input rest l windows h f (M.left_since c) (stops M c) (M.moment b) (M.left_since b (M.now b).synced) (StopsOnly M b c) (IsHeld M c) (M.report b) (M.report c) (M.now b) (M.now c) status
      → LeavesBy request input rest l windows h f (M.left_since c) (stops M c) (M.moment a) (M.left_since a (M.now a).synced) (StopsOnly M a c) (IsHeld M c) (M.report a) (M.report c) (M.now a) (M.now c) status
  found_by (inl u) = inl (opened_unmounted u)
  found_by (inr m) = inr (opened_mounted m)

module _ {D : Type 0} (M : Ghosts D) (request : Request) (input rest : List ℕ) (l : Layout) (windows : List WeakRun) (h : List Change) (f : ℕ) (a b c : D) (status : ℕ)
    (sound : IsSoundDisk l windows h f (M.now a)) (short : AreShort (M.now a).windows) (at_a : IsTimed M a) (at_b : IsTimed M b) (held : IsHeld M a (λ c. IsSound l windows h f c.image))
    (time : Elapses (M.moment a) (M.moment b) (M.left_since a) (M.left_since b) (Before (M.now a) (M.now b))) (found : Finds (M.now a) (M.now b)) (synced : IsSynced (M.now b)) (same : CountsNone (M.report a) (M.report b)) where
  opened_by : LeavesBy request input rest l windows h f (M.left_since c) (stops M c) (M.moment b) (M.left_since b (M.now b).synced) (StopsOnly M b c) (IsHeld M c) (M.report b) (M.report c) (M.now b) (M.now c) status
      → LeavesBy request input rest l windows h f (M.left_since c) (stops M c) (M.moment a) (M.left_since a (M.now a).synced) (StopsOnly M a c) (IsHeld M c) (M.report a) (M.report c) (M.now a) (M.now c) status
  opened_by =
      let keeps = finds_keep (M.now a) (M.now b) found in
      found_by M request input rest l windows h f a b c status sound short
      (stops_before M l windows h f (M.now a) a b at_a at_b time.keeps
      (goes_on M.moment M.left_since a a b (LeftBefore l windows h f (M.now a)) (Before (M.now a) (M.now b))
      (started M.moment M.left_since a (M.now a) (LeftBefore l windows h f (M.now a)) at_a.only (left_start l windows h f (M.now a) sound short)) time (left_attach l windows h f (M.now a) sound short (M.now b) keeps)) held) keeps same at_a at_b synced time

-- ---- by the layout that a root says

said_before : (l layout : Layout) (old at : Moment) → Keeps old at → IsSaid l at.image layout → IsSaid l old.image layout
said_before l layout old at keeps (inl is) = inl is
said_before l layout old at keeps (inr (is, says)) = inr (is, says_worn layout old.image at.image (open_damage old.windows) keeps.image says)

pub said_disk : (l layout : Layout) (windows : List WeakRun) (h : List Change) (f : ℕ) (now : Moment) → IsSaid l now.image layout → IsSoundDisk l windows h f now → IsSoundDisk layout windows h f now
said_disk l layout windows h f now (inl is) sound = subst (λ (k : Layout). IsSoundDisk k windows h f now) (sym is) sound
said_disk l layout windows h f now (inr is) sound =
    record { planned = planned_beside l layout sound.planned is.0; ends = sound.ends; sound = said_sound l windows h f now.image layout (inr is) sound.sound }

module _ {D : Type 0} (M : Ghosts D) (request : Request) (input rest : List ℕ) (l : Layout) (windows : List WeakRun) (h : List Change) (f : ℕ) (a b c : D) (status : ℕ)
    (sound : IsSoundDisk l windows h f (M.now a)) (short : AreShort (M.now a).windows) where
  -- behind an attach
  pub opened_run : IsTimed M a → IsTimed M b → IsHeld M a (λ c. IsSoundAsSaid l windows h f (M.now a).image c.image) → Elapses (M.moment a) (M.moment b) (M.left_since a) (M.left_since b) (Before (M.now a) (M.now b)) → Finds (M.now a) (M.now b) → IsSynced (M.now b) → CountsNone (M.report a) (M.report b)
      → LeavesSaid request input rest l windows h f (M.left_since c) (stops M c) (M.moment b) (M.left_since b (M.now b).synced) (StopsOnly M b c) (IsHeld M c) (M.report b) (M.report c) (M.now b) (M.now c) status
      → LeavesSaid request input rest l windows h f (M.left_since c) (stops M c) (M.moment a) (M.left_since a (M.now a).synced) (StopsOnly M a c) (IsHeld M c) (M.report a) (M.report c) (M.now a) (M.now c) status
  opened_run at_a at_b held time found synced same (layout, says, leaves) =
      let said = said_before l layout (M.now a) (M.now b) (finds_keep (M.now a) (M.now b) found) says in
      (layout, said, opened_by M request input rest layout windows h f a b c status (said_disk l layout windows h f (M.now a) said sound) short at_a at_b (λ c left. held c left layout said) time found synced same leaves)
