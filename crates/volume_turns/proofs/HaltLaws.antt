-- A run that stands between two turns, and the line that is said then.
use Rattle.std.proofs.Common.{◌≡◌, ◌⊎◌, inl, inr, ⊎_elim, ℕ, zero, suc, ◌+◌, ◌≤◌, Bool, false, List, [], ◌∷◌, ◌++◌, length, take, refl, sym, ◌∙◌, ap, subst, arith, append_assoc}
use Rattle.std.specs.Prelude.{IsSome, IsTrue, Err, slice_get}
use Rattle.std.specs.List.{list_any}
use Rattle.std.proofs.lemmas.Bool.{eq-eqb}
use Rattle.sector_disk.specs.declared.machine.Machine.{Ghosts}
use Rattle.sector_disk.specs.Calls.{Counts, IsHeld, IsTimed, LeavesDisk, Since, StopsOnly, stops}
use Rattle.sector_disk.specs.Image.{AreShort, IsWorn, Windows, open_damage}
use Rattle.sector_disk.specs.Machine.{LeavesOnly, Moment, Report, Rose, Utters}
use Rattle.sector_disk.proofs.Lags.{held_by, stops_by}
use Rattle.sector_disk.proofs.Moments.{then_on}
use Rattle.fsd_files.specs.Disk.{Image}
use Rattle.fsd_files.specs.Files.{Change}
use Rattle.fsd_sound.specs.Sound.{EndIn, IsSound}
use Rattle.fsd_sound.proofs.MoreLaws.{wear_sound}
use Rattle.fsd_texts.specs.declared.fault.Fault.{Fault}
use Rattle.fsd_texts.specs.declared.fault.Fault.TheVariants as Ends
use Rattle.fsd_texts.specs.Text.{fault_text}
use Rattle.fsd_runs.specs.declared.request.Request.{Request}
use Rattle.fsd_runs.specs.Errands.{Turn, fault_status}
use Rattle.fsd_runs.specs.Leaves.{IsBrokenOff, IsOutside, IsUnsaid, MayEnd, SaysNext}
use Rattle.fsd_runs.specs.Runs.{changes_in, forced_in, said_in}
use Rattle.volume_contract.specs.State.{Known, forced_of}
use Rattle.volume_turns.specs.declared.turns.Halt.TheVariants.{Fault as Stopped}
use Rattle.volume_turns.specs.Line.{EndsWith, is_unsaid}
use Rattle.volume_turns.specs.Turns.{EndsAtOnce, InRun, Said, SaysAll, FaultToldBy, Undone}
use Rattle.volume_turns.specs.Whole.{Halted, UnderWay}
use Rattle.volume_turns.proofs.LineLaws.{at_once_ends, next_fault, none_of_input}
use Rattle.volume_turns.proofs.TurnLaws.{now_held}

-- ---- a text is said over what is held

-- the image that a stop leaves has what was held before, as it may have worn; all else is of a moment of the saying
module _ {D : Type 0} (M : Ghosts D) (m b : D) (bytes : List ℕ) (R : Image → Type 0) (at_m : IsTimed M m) (at_b : IsTimed M b) (since : Since M m b)
    (run : LeavesOnly M.moment M.left_since m b (Utters bytes (M.now m))) (held : IsHeld M m (λ c. R c.image)) (worn : (i : Image) → R (M.now m).image → IsWorn (open_damage (M.now m).windows) (M.now m).image i → R i) where
  abbrev Held : Moment → Type 0
  Held c = R c.image

  abbrev Uttered : Moment → Type 0
  Uttered left = Utters bytes (M.now m) left

  over : (left : Moment) → Utters bytes (M.now m) left → R left.image
  over left utters = worn left.image (now_held M m Held at_m held) utters.image

  pub held_behind : IsHeld M b (λ c. R c.image)
  held_behind = held_by M m b Uttered Held at_m at_b since run held Held (λ c x. x) over

  pub stops_saying : (Q : Moment → Type 0) → ((left : Moment) → R left.image → left.windows ≡ (M.now m).windows → (heard : ℕ) → left.said ≡ (M.now m).said ++ take heard bytes → Q left) → StopsOnly M m b Q
  stops_saying Q so = stops_by M m b Uttered Held at_m at_b since run held Q
      (λ left utters. so left (over left utters) utters.windows utters.heard utters.said)
      (λ last shown utters left before lately had. so (record last { image = shown.image }) (⊎_elim (λ was. was) (over shown) had) utters.windows utters.heard utters.said)

-- ---- where a run stands

take_within : (turns more : List Turn) (n : ℕ) → n ≤ length turns → take n (turns ++ more) ≡ take n turns
take_within turns more zero le = refl
take_within [] more (suc n) le = absurd (omega (arith, le))
take_within (u ∷ turns) more (suc n) le = ap (λ (x : List Turn). u ∷ x) (take_within turns more n (omega (arith, le)))

some_within : (turns : List Turn) (t : Turn) (more : List Turn) (n : ℕ) → n ≤ length turns → IsSome (slice_get (turns ++ t ∷ more) n)
some_within [] t more zero le = refl
some_within [] t more (suc n) le = absurd (omega (arith, le))
some_within (u ∷ turns) t more zero le = refl
some_within (u ∷ turns) t more (suc n) le = some_within turns t more n (omega (arith, le))

changes_within : (turns : List Turn) (t : Turn) (more : List Turn) → t.changes ≡ [] → (n : ℕ) → n ≤ length turns → changes_in (take (suc n) (turns ++ t ∷ more)) ≡ changes_in (take (suc n) turns)
changes_within [] t more none zero le = ap (λ (x : List Change). x ++ []) none
changes_within [] t more none (suc n) le = absurd (omega (arith, le))
changes_within (u ∷ turns) t more none zero le = refl
changes_within (u ∷ turns) t more none (suc n) le = ap (λ (x : List Change). u.changes ++ x) (changes_within turns t more none n (omega (arith, le)))

-- turns said whole, with one more behind them that changes nothing, where a fault ends them at once
pub said_halts : {D : Type 0} (M : Ghosts D) (k : Known) (why : Fault) (once : EndsAtOnce why) (turns : List Turn) (t : Turn) (more : List Turn) → t.changes ≡ [] → (a b : D) → Said M k (forced_of k) why turns a b → Halted M k why (turns ++ t ∷ more) a b
said_halts M k why once turns t more none a b x =
    let front = take_within turns (t ∷ more) x.whole x.most in
    record {
      windows = x.windows;
      whole = x.whole;
      more = some_within turns t more x.whole x.most;
      said = x.said ∙ ap (λ (ts : List Turn). (M.now a).said ++ said_in ts) (sym front);
      forced = x.forced;
      least = x.least;
      enough = subst (λ (ts : List Turn). IsTrue (list_any (λ u. u.forces) ts) → length k.changes + forced_in ts ≤ x.forced) (sym front) x.enough;
      sound = subst (λ (h : List Change). IsHeld M b (λ c. IsSound k.mounted.volume.layout k.windows (k.changes ++ h) x.forced c.image)) (sym (changes_within turns t more none x.whole x.most)) x.sound;
      undone = λ is. let u = x.undone is in record {
        forced = u.forced;
        least = u.least;
        enough = subst (λ (ts : List Turn). IsTrue (list_any (λ y. y.forces) ts) → length k.changes + forced_in ts ≤ u.forced) (sym front) u.enough;
        sound = subst (λ (ts : List Turn). IsSound k.mounted.volume.layout k.windows (k.changes ++ changes_in ts) u.forced (M.now b).image) (sym front) u.sound;
      };
      unread = λ is. absurd (none_of_input why once is);
    }

pub said_halts_whole : {D : Type 0} (M : Ghosts D) (k : Known) (why : Fault) (once : EndsAtOnce why) (turns : List Turn) (t : Turn) (more : List Turn) (none : t.changes ≡ []) (a b : D) (x : Said M k (forced_of k) why turns a b) → (said_halts M k why once turns t more none a b x).whole ≡ x.whole
unfolding said_halts
said_halts_whole M k why once turns t more none a b x = refl

pub said_halts_forced : {D : Type 0} (M : Ghosts D) (k : Known) (why : Fault) (once : EndsAtOnce why) (turns : List Turn) (t : Turn) (more : List Turn) (none : t.changes ≡ []) (a b : D) (x : Said M k (forced_of k) why turns a b) → (said_halts M k why once turns t more none a b x).forced ≡ x.forced
unfolding said_halts
said_halts_forced M k why once turns t more none a b x = refl

-- ---- while a text is said there

module _ {D : Type 0} (M : Ghosts D) (k : Known) (turns : List Turn) (a m : D) {for : Fault} (halted : Halted M k for turns a m) where
  abbrev next_changes : List Change
  next_changes = k.changes ++ changes_in (take (suc halted.whole) turns)

  -- a part of what comes next
  pub says_part : (part : List ℕ) (left : Moment) → IsSound k.mounted.volume.layout k.windows next_changes halted.forced left.image → left.windows ≡ (M.now m).windows → left.said ≡ (M.now m).said ++ part
      → SaysNext (length k.changes + forced_in (take (suc halted.whole) turns) ≤ halted.forced) (slice_get turns halted.whole) part → InRun k (forced_of k) turns (M.now a) left
  says_part part left sound windows said next = record {
    windows = windows ∙ halted.windows;
    whole = halted.whole;
    part = part;
    said = said ∙ ap (λ (x : List ℕ). x ++ part) halted.said ∙ append_assoc (M.now a).said (said_in (take halted.whole turns)) part;
    next = next;
    forced = halted.forced;
    least = halted.least;
    enough = halted.enough;
    sound = sound;
  }

  -- the line of a fault
  says_fault : (why : Fault) → MayEnd why → (left : Moment) → IsSound k.mounted.volume.layout k.windows next_changes halted.forced left.image → left.windows ≡ (M.now m).windows → (heard : ℕ) → left.said ≡ (M.now m).said ++ take heard (fault_text why) → InRun k (forced_of k) turns (M.now a) left
  says_fault why may left sound windows heard said =
      let part = take heard (fault_text why) in
      says_part part left sound windows said (next_fault (length k.changes + forced_in (take (suc halted.whole) turns) ≤ halted.forced) (slice_get turns halted.whole) halted.more part (why, heard, may, refl))

  -- the disk is as it was, but for what wears
  module _ (short : AreShort (M.now m).windows) (ends : EndIn (M.now a).windows k.windows) where
    pub ends_mid : EndIn (M.now m).windows k.windows
    ends_mid = subst (λ (w : Windows). EndIn w k.windows) (sym halted.windows) ends

    pub sound_worn : (h : List Change) (f : ℕ) (i : Image) → IsSound k.mounted.volume.layout k.windows h f (M.now m).image → IsWorn (open_damage (M.now m).windows) (M.now m).image i → IsSound k.mounted.volume.layout k.windows h f i
    sound_worn h f i sound worn = wear_sound k.mounted.volume.layout k.windows h f (M.now m).windows (M.now m).image i short ends_mid worn sound

-- ---- a fault that ends a run there

module _ {D : Type 0} (M : Ghosts D) (request : Request) (before : Report) (k : Known) (turns : List Turn) (a m b : D) (moments : StopsOnly M a m (InRun k (forced_of k) turns (M.now a))) (why : Fault) (halted : Halted M k why turns a m)
    (short : AreShort (M.now m).windows) (ends : EndIn (M.now a).windows k.windows) (at_m : IsTimed M m) (at_b : IsTimed M b) (may : MayEnd why) (out : IsOutside request before (M.report b) why) (later : before.output_faults ≤ (M.report m).output_faults)
    (status : ℕ) (says : LeavesDisk M false (is_unsaid status) (Utters (fault_text why)) m b) (honest : M.honest b) (ended : EndsWith why (M.now m) (M.now b) status) where
  abbrev Here : Moment → Type 0
  Here left = InRun k (forced_of k) turns (M.now a) left

  line_moments : StopsOnly M m b Here
  line_moments =
      let changes = k.changes ++ changes_in (take (suc halted.whole) turns) in
      stops_saying M m b (fault_text why) (λ i. IsSound k.mounted.volume.layout k.windows changes halted.forced i) at_m at_b (says.since honest) (says.any_moment honest) halted.sound
      (λ i sound worn. sound_worn M k turns a m halted short ends changes halted.forced i sound worn) Here
      (λ left sound windows heard said. says_fault M k turns a m halted why may left sound windows heard said)

  pub stopped_moments : StopsOnly M a b (InRun k (forced_of k) turns (M.now a))
  stopped_moments = then_on M.moment (stops M) a m b Here moments line_moments

  unsaid : status ≡ 6 → IsUnsaid before (M.report b) status
  unsaid six =
      let rose : Rose (M.report m).output_faults (M.report b).output_faults = subst (λ (x : Bool). Counts x (M.report m).output_faults (M.report b).output_faults) (eq-eqb status 6 six) says.spares.output in
      record { ends = six; rose = omega (arith, later, rose) }

  undone_worn : SaysAll (fault_text why) (M.now m) (M.now b) → Undone k (forced_of k) turns halted.whole (M.now m).image → Undone k (forced_of k) turns halted.whole (M.now b).image
  undone_worn all u = record {
    forced = u.forced;
    least = u.least;
    enough = u.enough;
    sound = sound_worn M k turns a m halted short ends (k.changes ++ changes_in (take halted.whole turns)) u.forced (M.now b).image u.sound all.ages.image;
  }

  broken : status ≡ fault_status why → SaysAll (fault_text why) (M.now m) (M.now b) → IsBrokenOff request (Undone k (forced_of k) turns) (UnderWay M k turns b) before (M.report b) turns (M.now a) (M.now b) status
  broken gives all = record {
    why = why;
    outside = out;
    ends = gives;
    says = record {
      whole = halted.whole;
      more = halted.more;
      said = all.said ∙ ap (λ (x : List ℕ). x ++ fault_text why) halted.said ∙ append_assoc (M.now a).said (said_in (take halted.whole turns)) (fault_text why);
    };
    held = record {
      forced = halted.forced;
      least = halted.least;
      enough = halted.enough;
      sound = held_behind M m b (fault_text why) (λ i. IsSound k.mounted.volume.layout k.windows (k.changes ++ changes_in (take (suc halted.whole) turns)) halted.forced i) at_m at_b (says.since honest) (says.any_moment honest) halted.sound
          (λ i sound worn. sound_worn M k turns a m halted short ends (k.changes ++ changes_in (take (suc halted.whole) turns)) halted.forced i sound worn);
    };
    undone = λ is. undone_worn all (halted.undone is);
    unread = λ is. ((halted.unread is).0, undone_worn all (halted.unread is).1);
  }

  by_end : EndsWith why (M.now m) (M.now b) status → IsUnsaid before (M.report b) status ⊎ IsBrokenOff request (Undone k (forced_of k) turns) (UnderWay M k turns b) before (M.report b) turns (M.now a) (M.now b) status
  by_end (inl six) = inl (unsaid six)
  by_end (inr (gives, all)) = inr (broken gives all)

  pub stopped_ends : IsUnsaid before (M.report b) status ⊎ IsBrokenOff request (Undone k (forced_of k) turns) (UnderWay M k turns b) before (M.report b) turns (M.now a) (M.now b) status
  stopped_ends = by_end ended

-- ---- a fault that ends a run at once

module _ {longer : Bool} {D T : Type 0} (M : Ghosts D) (request : Request) (before : Report) (k : Known) (turns : List Turn) (a m b : D) (moments : StopsOnly M a m (InRun k (forced_of k) turns (M.now a))) (why : Fault) (halted : Halted M k why turns a m)
    (short : AreShort (M.now m).windows) (ends : EndIn (M.now a).windows k.windows) (at_m : IsTimed M m) (at_b : IsTimed M b) (once : EndsAtOnce why) (told : FaultToldBy longer {T = T} before (M.report m) (Err (Stopped why)))
    (status : ℕ) (says : LeavesDisk M false (is_unsaid status) (Utters (fault_text why)) m b) (honest : M.honest b) (ended : EndsWith why (M.now m) (M.now b) status) where
  outside : (said : Fault) → EndsAtOnce said → said ≡ why → IsOutside request before (M.report b) said
  outside (Ends.Device s) at_once is =
      let fault : FaultToldBy longer {T = T} before (M.report m) (Err (Stopped (Ends.Device s))) = subst (λ (x : Fault). FaultToldBy longer {T = T} before (M.report m) (Err (Stopped x))) (sym is) told in
      record { rose = subst (λ (n : ℕ). Rose before.disk_faults n) (sym says.spares.disk) fault.disk.rose; told = fault.disk.told ∙ sym says.spares.place }
  outside Ends.Memory at_once is = tt
  outside said at_once is = absurd at_once

  pub broken_moments : StopsOnly M a b (InRun k (forced_of k) turns (M.now a))
  broken_moments = stopped_moments M request before k turns a m b moments why halted short ends at_m at_b (at_once_ends why once) (outside why once refl) told.later status says honest ended

  pub broken_ends : IsUnsaid before (M.report b) status ⊎ IsBrokenOff request (Undone k (forced_of k) turns) (UnderWay M k turns b) before (M.report b) turns (M.now a) (M.now b) status
  broken_ends = stopped_ends M request before k turns a m b moments why halted short ends at_m at_b (at_once_ends why once) (outside why once refl) told.later status says honest ended
