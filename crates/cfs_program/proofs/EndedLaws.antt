-- A run that is ended by a fault before its mount.
use Rattle.std.proofs.Common.{◌≡◌, ◌⊎◌, inl, inr, ℕ, ◌≤◌, Bool, false, List, [], ◌∷◌, ◌++◌, take, refl, sym, ◌∙◌, ap, subst, arith}
use Rattle.std.proofs.lemmas.Bool.{eq-eqb}
use Rattle.volume_layout.specs.declared.layout.Layout.{Layout}
use Rattle.sector_disk.specs.declared.machine.Machine.{Ghosts}
use Rattle.sector_disk.specs.declared.sector.WeakRun.{WeakRun}
use Rattle.sector_disk.specs.Calls.{Counts, IsHeld, IsTimed, LeavesDisk, Since, StopsOnly, stops}
use Rattle.sector_disk.specs.Image.{AreShort, Windows, open_damage}
use Rattle.sector_disk.specs.Machine.{Before, Elapses, LeavesOnly, Moment, Rose, Wears, Utters}
use Rattle.sector_disk.proofs.Lags.{held_by}
use Rattle.sector_disk.proofs.Moments.{goes_on, leaves_more, started, then_on}
use Rattle.fsd_files.specs.Files.{Change}
use Rattle.fsd_sound.specs.Sound.{EndIn, IsSound, SaysNoMore}
use Rattle.fsd_sound.proofs.MoreLaws.{wear_sound}
use Rattle.fsd_sound.proofs.SaidLaws.{says_no_more_then, worn_says}
use Rattle.fsd_texts.specs.declared.fault.Fault.{Fault}
use Rattle.fsd_texts.specs.Text.{fault_text}
use Rattle.fsd_runs.specs.declared.request.Request.{Request}
use Rattle.fsd_runs.specs.Errands.{blank, fault_status}
use Rattle.fsd_runs.specs.Leaves.{IsBrokenOff, IsOutside, IsSoundAsSaid, IsSpent, IsUnsaid, LeavesSaid, LeftBefore, MayEnd, Unbegun, Whatever}
use Rattle.volume_turns.specs.Line.{EndsWith, is_unsaid}
use Rattle.volume_turns.proofs.RootedLaws.{was_stops}
use Rattle.cfs_program.specs.Opening.{IsSoundDisk}
use Rattle.cfs_program.proofs.OpeningLaws.{left_start, left_worn, stops_before}

module _ {D : Type 0} (M : Ghosts D) (request : Request) (input rest : List ℕ) (l : Layout) (windows : List WeakRun) (h : List Change) (f : ℕ) (a b c : D) (why : Fault) (may : MayEnd why) (status : ℕ)
    (sound : IsSoundDisk l windows h f (M.now a)) (short : AreShort (M.now a).windows) (at_a : IsTimed M a) (at_c : IsTimed M c) (held : IsHeld M a (λ c. IsSoundAsSaid l windows h f (M.now a).image c.image)) (since : Since M a b)
    (first : LeavesOnly M.moment M.left_since a b (LeftBefore l windows h f (M.now a))) (less : LeavesOnly M.moment M.left_since a b (λ m. SaysNoMore (M.now a).image m.image)) (worn : Wears (M.now a) (M.now b))
    (says : LeavesDisk M false (is_unsaid status) (Utters (fault_text why)) b c) (honest : M.honest c) (ends : EndsWith why (M.now b) (M.now c) status)
    (out : IsOutside request (M.report a) (M.report c) why) (later : (M.report a).output_faults ≤ (M.report b).output_faults) where
  ends_in : EndIn (M.now b).windows windows
  ends_in = subst (λ (w : Windows). EndIn w windows) (sym worn.windows) sound.ends

  saying : (left : Moment) → Utters (fault_text why) (M.now b) left → LeftBefore l windows h f (M.now a) left
  saying left utters = record {
    present = ap (λ (w : Windows). w.present) (utters.windows ∙ worn.windows);
    part = take utters.heard (fault_text why);
    said = utters.said ∙ ap (λ (s : List ℕ). s ++ take utters.heard (fault_text why)) worn.said;
    fault = (why, utters.heard, may, refl);
    sound = wear_sound l windows h f (M.now b).windows (M.now b).image left.image (subst (λ (w : Windows). AreShort w) (sym worn.windows) short) ends_in utters.image
        (left_worn l windows h f (M.now a) sound short (M.now b) worn).sound;
  }

  unsaid : status ≡ 6 → IsUnsaid (M.report a) (M.report c) status
  unsaid six =
      let rose : Rose (M.report b).output_faults (M.report c).output_faults = subst (λ (x : Bool). Counts x (M.report b).output_faults (M.report c).output_faults) (eq-eqb status 6 six) says.spares.output in
      record { ends = six; rose = omega (arith, later, rose) }

  broken : status ≡ fault_status why → (M.now c).said ≡ (M.now b).said ++ fault_text why → IsBrokenOff request Unbegun Whatever (M.report a) (M.report c) (blank ∷ []) (M.now a) (M.now c) status
  broken is all = record { why = why; outside = out; ends = is; says = record { whole = 0; more = refl; said = all ∙ ap (λ (s : List ℕ). s ++ fault_text why) worn.said }; held = tt; undone = λ is. refl; unread = λ is. (refl, refl) }

  ended : EndsWith why (M.now b) (M.now c) status → IsSpent (M.now a) (M.now c) status ⊎ (IsUnsaid (M.report a) (M.report c) status ⊎ IsBrokenOff request Unbegun Whatever (M.report a) (M.report c) (blank ∷ []) (M.now a) (M.now c) status)
  ended (inl six) = inr (inl (unsaid six))
  ended (inr (is, all)) = inr (inr (broken is all.said))

  -- from the beginning to the end of its line
  both : Since M a c
  both t m le left = says.since honest t m (omega (arith, le, first.later)) (since t m le left)

  run : LeavesOnly M.moment M.left_since a c (LeftBefore l windows h f (M.now a))
  run = then_on M.moment M.left_since a b c (LeftBefore l windows h f (M.now a)) first
      (leaves_more M.moment M.left_since b c (Utters (fault_text why) (M.now b)) (LeftBefore l windows h f (M.now a)) saying (says.any_moment honest))

  -- no root says what none said as it began
  less_run : LeavesOnly M.moment M.left_since a c (λ m. SaysNoMore (M.now a).image m.image)
  less_run = then_on M.moment M.left_since a b c (λ m. SaysNoMore (M.now a).image m.image) less
      (leaves_more M.moment M.left_since b c (Utters (fault_text why) (M.now b)) (λ m. SaysNoMore (M.now a).image m.image)
      (λ m utters. says_no_more_then (M.now a).image (M.now b).image m.image (worn_says (open_damage (M.now a).windows) (M.now a).image (M.now b).image worn.image) (worn_says (open_damage (M.now b).windows) (M.now b).image m.image utters.image)) (says.any_moment honest))

  pub ended_behind : LeavesSaid request input rest l windows h f (M.left_since c) (stops M c) (M.moment a) (M.left_since a (M.now a).synced) (StopsOnly M a c) (IsHeld M c) (M.report a) (M.report c) (M.now a) (M.now c) status
  ended_behind = (
    l,
    inl refl,
    inl (record {
      moments = stops_before M l windows h f (M.now a) a c at_a at_c both run (λ m left. held m left l (inl refl));
      exit = saying (M.now c) (says.exit honest);
      held = held_by M a c (LeftBefore l windows h f (M.now a)) (λ m. IsSound l windows h f m.image) at_a at_c both run (λ m left. held m left l (inl refl)) (λ m. IsSound l windows h f m.image) (λ m was. was) (λ m left. left.sound);
      says = was_stops M l a c at_a at_c both less_run;
      ends = ended ends;
    }),
  )

module _ {D : Type 0} (M : Ghosts D) (request : Request) (input rest : List ℕ) (l : Layout) (windows : List WeakRun) (h : List Change) (f : ℕ) (a b c : D) (why : Fault) (may : MayEnd why) (status : ℕ)
    (sound : IsSoundDisk l windows h f (M.now a)) (short : AreShort (M.now a).windows) where
  -- by an attach that failed
  pub ended_run : IsTimed M a → IsTimed M c → IsHeld M a (λ c. IsSoundAsSaid l windows h f (M.now a).image c.image) → Elapses (M.moment a) (M.moment b) (M.left_since a) (M.left_since b) (Before (M.now a) (M.now b)) → Wears (M.now a) (M.now b)
      → LeavesDisk M false (is_unsaid status) (Utters (fault_text why)) b c → M.honest c → EndsWith why (M.now b) (M.now c) status
      → IsOutside request (M.report a) (M.report c) why → (M.report a).output_faults ≤ (M.report b).output_faults
      → LeavesSaid request input rest l windows h f (M.left_since c) (stops M c) (M.moment a) (M.left_since a (M.now a).synced) (StopsOnly M a c) (IsHeld M c) (M.report a) (M.report c) (M.now a) (M.now c) status
  ended_run at_a at_c held time worn = ended_behind M request input rest l windows h f a b c why may status sound short at_a at_c held time.keeps first less worn
    where
      before : (left : Moment) → Before (M.now a) (M.now b) left → LeftBefore l windows h f (M.now a) left
      before left (inl wears) = left_worn l windows h f (M.now a) sound short left wears
      before left (inr is) = subst (λ (m : Moment). LeftBefore l windows h f (M.now a) m) (sym is) (left_worn l windows h f (M.now a) sound short (M.now b) worn)

      first : LeavesOnly M.moment M.left_since a b (LeftBefore l windows h f (M.now a))
      first = goes_on M.moment M.left_since a a b (LeftBefore l windows h f (M.now a)) (Before (M.now a) (M.now b))
          (started M.moment M.left_since a (M.now a) (LeftBefore l windows h f (M.now a)) at_a.only (left_start l windows h f (M.now a) sound short)) time before

      no_more : (left : Moment) → Before (M.now a) (M.now b) left → SaysNoMore (M.now a).image left.image
      no_more left (inl wears) = worn_says (open_damage (M.now a).windows) (M.now a).image left.image wears.image
      no_more left (inr is) = subst (λ (m : Moment). SaysNoMore (M.now a).image m.image) (sym is) (worn_says (open_damage (M.now a).windows) (M.now a).image (M.now b).image worn.image)

      less : LeavesOnly M.moment M.left_since a b (λ m. SaysNoMore (M.now a).image m.image)
      less = goes_on M.moment M.left_since a a b (λ m. SaysNoMore (M.now a).image m.image) (Before (M.now a) (M.now b))
          (started M.moment M.left_since a (M.now a) (λ m. SaysNoMore (M.now a).image m.image) at_a.only (λ k says. says)) time no_more
