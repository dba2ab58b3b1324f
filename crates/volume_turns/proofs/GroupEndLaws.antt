-- How a group that was done goes on to the last line of its run.
use Rattle.std.proofs.Common.{◌+◌, ◌≡◌, ◌⊎◌, inl, inr, ⊎_elim, ℕ, suc, ◌<◌, ◌≤◌, Bool, true, false, List, [], ◌∷◌, ◌++◌, length, map, take, Option, Some, refl, sym, ◌∙◌, ap, subst, arith, append_assoc, length-append}
use Rattle.std.specs.Prelude.{◌==◌, if◌then◌else◌, Err, slice_get}
use Rattle.std.proofs.lemmas.Bool.{cases_lt, eq-eqb}
use Rattle.std.proofs.lemmas.List.{append-nil, take_all}
use Rattle.sector_disk.specs.declared.machine.Machine.{Ghosts}
use Rattle.sector_disk.specs.Calls.{Counts, IsHeld, IsTimed, LeavesDisk, StopsOnly, stops}
use Rattle.sector_disk.specs.Image.{AreShort, IsWorn, open_damage}
use Rattle.sector_disk.specs.Machine.{Moment, Report, Rose, Utters}
use Rattle.sector_disk.proofs.Moments.{then_on}
use Rattle.sector_disk.proofs.Wear.{AllWorn-worn}
use Rattle.fsd_files.specs.Desk.{Session}
use Rattle.fsd_files.specs.Disk.{Image, Sectors, in_runs}
use Rattle.fsd_files.specs.Files.{Change}
use Rattle.fsd_files.specs.Volume.{Volume}
use Rattle.fsd_sound.specs.Laid.{HasOwnRoots}
use Rattle.fsd_sound.specs.Mounted.{telling_of}
use Rattle.fsd_sound.specs.Shown.{told}
use Rattle.fsd_sound.specs.Sound.{EndIn, IsSound, weak_of}
use Rattle.fsd_sound.proofs.WindowLaws.{open_is_weak}
use Rattle.fsd_texts.specs.declared.script_command.ScriptCommand.{ScriptCommand}
use Rattle.fsd_texts.specs.declared.fault.Fault.{Fault}
use Rattle.fsd_texts.specs.declared.fault.Fault.TheVariants as Ends
use Rattle.fsd_texts.specs.declared.line.Line.{Line}
use Rattle.fsd_texts.specs.Text.{fault_text, text}
use Rattle.fsd_runs.specs.Sessions.{Meeting, answer_in, session_over}
use Rattle.fsd_runs.specs.declared.request.Request.{Request}
use Rattle.fsd_runs.specs.Errands.{Answered, answered_so, Ending, Errand, Turn, blank, forced_turn, line_turn}
use Rattle.fsd_runs.specs.Leaves.{IsBrokenOff, IsUnsaid, SaysNext}
use Rattle.fsd_runs.specs.Runs.{forced_in, Goes, answered, session_behind, changes_in, said_in, turns_begun, turns_of, turn_of}
use Rattle.volume_contract.specs.State.{Known, forced_of, volume_of}
use Rattle.volume_turns.specs.Group.{turns_behind}
use Rattle.volume_turns.specs.declared.turns.Halt.TheVariants.{Fault as Stopped, Output}
use Rattle.volume_turns.specs.Line.{EndsLast, EndsWith, is_unsaid}
use Rattle.volume_turns.specs.Once.{IsDone}
use Rattle.volume_turns.specs.Turns.{EndsAtOnce, InRun, Said, SaysAll, FaultTold, Undone}
use Rattle.volume_turns.specs.Whole.{Finishes, Halted, SaysOut, UnderWay}
use Rattle.volume_turns.proofs.HaltLaws.{broken_ends, broken_moments, ends_mid, held_behind, said_halts, said_halts_forced, said_halts_whole, says_part, sound_worn, stops_saying}
use Rattle.volume_turns.proofs.OnceLaws.{roots_worn}
use Rattle.volume_turns.proofs.TurnLaws.{changes_snoc, forced_most, now_held, said_snoc, says_nothing}

-- ---- the turns of a group and of its end

-- the errand of a group, ended so
abbrev pub ended_as : Errand → List ScriptCommand → (List Answered → Ending) → Errand
ended_as e commands ends = record { commands = commands; says = e.says; forces = e.forces; ends = ends }

pub turns_are : (e : Errand) (s : Session) (mets : List Meeting) (commands done : List ScriptCommand) → answered mets s done ≡ answered mets s commands → (ends : List Answered → Ending) (more : List Turn) → (ends (answered mets s done)).turns ≡ forced_turn ∷ more
    → (through : Bool) → through ≡ (length (answered mets s done) == length done) → turns_of (ended_as e done ends) mets s ≡ turns_begun e mets s commands ++ turns_behind through more
turns_are e s mets commands done same ends more is through all =
    ap (λ (xs : List Answered). map (turn_of e) xs ++ (if length (answered mets s done) == length done then (ends (answered mets s done)).turns else blank ∷ [])) same
    ∙ ap (λ (xs : List Turn). turns_begun e mets s commands ++ xs) (by through all)
  where
    by : (b : Bool) → b ≡ (length (answered mets s done) == length done) → (if length (answered mets s done) == length done then (ends (answered mets s done)).turns else blank ∷ []) ≡ turns_behind b more
    by true t = ap (λ (c : Bool). if c then (ends (answered mets s done)).turns else blank ∷ []) (sym t) ∙ is
    by false t = ap (λ (c : Bool). if c then (ends (answered mets s done)).turns else blank ∷ []) (sym t)

-- ---- commands that were cut off

pub answered_cut : (mets : List Meeting) (s : Session) (commands : List ScriptCommand) → answered mets s (take (length mets) commands) ≡ answered mets s commands
answered_cut [] s commands = refl
answered_cut (met ∷ mets) s [] = refl
answered_cut (met ∷ mets) s (c ∷ commands) = ap (λ (xs : List Answered). answered_so s c (answer_in met s c).0 ∷ xs) (answered_cut mets (answer_in met s c).1 commands)

pub behind_cut : (mets : List Meeting) (s : Session) (commands : List ScriptCommand) → session_behind mets s (take (length mets) commands) ≡ session_behind mets s commands
behind_cut [] s commands = refl
behind_cut (met ∷ mets) s [] = refl
behind_cut (met ∷ mets) s (c ∷ commands) = behind_cut mets (answer_in met s c).1 commands

module _ (H : Sectors) (P : Moment → Type 0) (e : Errand) where
  pub goes_length : (L : Volume → Image → Type 0) (said : List ℕ) (i : Image) (s : Session) (mets : List Meeting) (commands : List ScriptCommand) → Goes H P L e said i s mets commands → length (answered mets s commands) ≡ length mets
  goes_length L said i s [] commands goes = refl
  goes_length L said i s (met ∷ mets) [] goes = absurd goes
  goes_length L said i s (met ∷ mets) (c ∷ commands) goes = ap (λ (n : ℕ). suc n) (goes_length L (said ++ e.says (answer_in met s c).0) goes.0 (answer_in met s c).1 mets commands goes.2)

  -- as far as they were begun
  pub goes_cut : (L N : Volume → Image → Type 0) → ((v : Volume) (i : Image) → L v i → N v i) → (said : List ℕ) (i : Image) (s : Session) (mets : List Meeting) (commands : List ScriptCommand) → Goes H P L e said i s mets commands → Goes H P N e said i s mets (take (length mets) commands)
  goes_cut L N last said i s [] commands goes = last s.volume i goes
  goes_cut L N last said i s (met ∷ mets) [] goes = absurd goes
  goes_cut L N last said i s (met ∷ mets) (c ∷ commands) goes = (goes.0, goes.1, goes_cut L N last (said ++ e.says (answer_in met s c).0) goes.0 (answer_in met s c).1 mets commands goes.2)

  pub goes_within : (L : Volume → Image → Type 0) (said : List ℕ) (i : Image) (s : Session) (mets : List Meeting) (commands : List ScriptCommand) → Goes H P L e said i s mets commands → length (take (length mets) commands) ≡ length mets
  goes_within L said i s [] commands goes = refl
  goes_within L said i s (met ∷ mets) [] goes = absurd goes
  goes_within L said i s (met ∷ mets) (c ∷ commands) goes = ap (λ (n : ℕ). suc n) (goes_within L (said ++ e.says (answer_in met s c).0) goes.0 (answer_in met s c).1 mets commands goes.2)

-- ---- a last line

length_snoc : (turns : List Turn) (t : Turn) → length (turns ++ t ∷ []) ≡ suc (length turns)
length_snoc turns t = let sum = length-append turns (t ∷ []) in omega (arith, sum)

slice_last : (turns : List Turn) (t : Turn) → slice_get (turns ++ t ∷ []) (length turns) ≡ Some t
slice_last [] t = refl
slice_last (u ∷ turns) t = slice_last turns t

-- where all is said and forced: no fault has ended it, and one of the disk stands for it, of which no more is asked
abbrev no_fault : Fault
no_fault = Ends.Device 0

pub said_done : {D : Type 0} (M : Ghosts D) (k : Known) (front : List Turn) (after : Volume) (a b : D) → IsDone M k front after a b → Said M k (forced_of k) no_fault front a b
said_done M k front after a b d = record {
  windows = d.windows;
  whole = length front;
  most = omega arith;
  said = d.said ∙ ap (λ (x : List Turn). (M.now a).said ++ said_in x) (sym (take_all (length front) front (omega arith)));
  forced = length (k.changes ++ changes_in front);
  least = let sum = length-append k.changes (changes_in front) in omega (arith, sum);
  enough = λ any. let sum = length-append k.changes (changes_in front) in let few = forced_most (take (length front) front) in
      let same : length (changes_in (take (length front) front)) ≡ length (changes_in front) = ap (λ (x : List Turn). length (changes_in x)) (take_all (length front) front (omega arith)) in omega (arith, sum, few, same);
  sound = subst (λ (x : List Turn). IsHeld M b (λ c. IsSound k.mounted.volume.layout k.windows (k.changes ++ changes_in x) (length (k.changes ++ changes_in front)) c.image)) (sym (take_all (suc (length front)) front (omega arith))) d.held;
  undone = λ is. absurd (cc is);
}

module _ {D : Type 0} (M : Ghosts D) (k : Known) (front : List Turn) (line : Line) (after : Volume) (a m : D) (d : IsDone M k front after a m) where
  abbrev t : Turn
  t = line_turn line

  abbrev turns : List Turn
  turns = front ++ t ∷ []

  halted : Halted M k no_fault turns a m
  halted = said_halts M k no_fault tt front t [] refl a m (said_done M k front after a m d)

  whole_is : halted.whole ≡ length front
  unfolding halted said_done
  whole_is = said_halts_whole M k no_fault tt front t [] refl a m (said_done M k front after a m d)

  forced_is : halted.forced ≡ length (k.changes ++ changes_in front)
  unfolding halted said_done
  forced_is = said_halts_forced M k no_fault tt front t [] refl a m (said_done M k front after a m d)

  all_changes : k.changes ++ changes_in turns ≡ k.changes ++ changes_in front
  all_changes = ap (λ (h : List Change). k.changes ++ h) (changes_snoc front t refl)

  every : (n : ℕ) → suc (length front) ≤ n → take n turns ≡ turns
  every n le = let long = length_snoc front t in take_all n turns (omega (arith, long, le))

  abbrev next_changes : List Change
  next_changes = k.changes ++ changes_in (take (suc halted.whole) turns)

  -- as it was when the last line began
  abbrev IsSoundStill : Image → Type 0
  IsSoundStill i = IsSound k.mounted.volume.layout k.windows next_changes halted.forced i

  sound_all : (i : Image) → IsSoundStill i → IsSound k.mounted.volume.layout k.windows (k.changes ++ changes_in turns) (length (k.changes ++ changes_in turns)) i
  sound_all i sound =
      let whole : take (suc halted.whole) turns ≡ turns = every (suc halted.whole) (let is = whole_is in omega (arith, is)) in
      subst (λ (n : ℕ). IsSound k.mounted.volume.layout k.windows (k.changes ++ changes_in turns) n i) (forced_is ∙ ap (λ (h : List Change). length h) (sym all_changes))
      (subst (λ (ts : List Turn). IsSound k.mounted.volume.layout k.windows (k.changes ++ changes_in ts) halted.forced i) whole sound)

  all_said : (said : List ℕ) → said ≡ (M.now m).said ++ t.said → said ≡ (M.now a).said ++ said_in turns
  all_said said is = is ∙ ap (λ (x : List ℕ). x ++ t.said) d.said ∙ append_assoc (M.now a).said (said_in front) t.said ∙ ap (λ (x : List ℕ). (M.now a).said ++ x) (sym (said_snoc front t))

  -- the whole line is said
  in_all : (left : Moment) → IsSoundStill left.image → left.windows ≡ (M.now m).windows → left.said ≡ (M.now m).said ++ t.said → InRun k (forced_of k) turns (M.now a) left
  in_all left sound windows said = record {
    windows = windows ∙ d.windows;
    whole = suc (length front);
    part = [];
    said = all_said left.said said ∙ ap (λ (x : List Turn). (M.now a).said ++ said_in x) (sym (every (suc (length front)) (omega arith))) ∙ ap (λ (x : List ℕ). (M.now a).said ++ x) (sym (append-nil (said_in (take (suc (length front)) turns))));
    next = says_nothing (length k.changes + forced_in (take (suc (suc (length front))) turns) ≤ length (k.changes ++ changes_in turns)) (slice_get turns (suc (length front)));
    forced = length (k.changes ++ changes_in turns);
    least = let sum = length-append k.changes (changes_in turns) in omega (arith, sum);
    enough = λ any. let sum = length-append k.changes (changes_in turns) in let few = forced_most (take (suc (length front)) turns) in
        let same : length (changes_in (take (suc (length front)) turns)) ≡ length (changes_in turns) = ap (λ (x : List Turn). length (changes_in x)) (every (suc (length front)) (omega arith)) in omega (arith, sum, few, same);
    sound = subst (λ (x : List Turn). IsSound k.mounted.volume.layout k.windows (k.changes ++ changes_in x) (length (k.changes ++ changes_in turns)) left.image) (sym (every (suc (suc (length front))) (omega arith))) (sound_all left.image sound);
  }

  all_forced : length k.changes + forced_in (take (suc halted.whole) turns) ≤ halted.forced
  all_forced =
      let is = forced_is in
      let sum = length-append k.changes (changes_in front) in
      let few = forced_most (take (suc halted.whole) turns) in
      let same : length (changes_in (take (suc halted.whole) turns)) ≡ length (changes_in front) =
      ap (λ (n : ℕ). length (changes_in (take (suc n) turns))) whole_is ∙ ap (λ (x : List Turn). length (changes_in x)) (every (suc (length front)) (omega arith)) ∙ ap (λ (h : List Change). length h) (changes_snoc front t refl) in
      omega (arith, is, sum, few, same)

  in_some : (left : Moment) → IsSoundStill left.image → left.windows ≡ (M.now m).windows → (heard : ℕ) → left.said ≡ (M.now m).said ++ take heard t.said → heard < length t.said → InRun k (forced_of k) turns (M.now a) left
  in_some left sound windows heard said short_of = says_part M k turns a m halted (take heard t.said) left sound windows said
      (subst (λ (n : ℕ). SaysNext (length k.changes + forced_in (take (suc halted.whole) turns) ≤ halted.forced) (slice_get turns n) (take heard t.said)) (sym whole_is)
      (subst (λ (o : Option Turn). SaysNext (length k.changes + forced_in (take (suc halted.whole) turns) ≤ halted.forced) o (take heard t.said)) (sym (slice_last front t)) (inl ((heard, short_of, refl), λ some forces. all_forced))))

  on_last : (left : Moment) → IsSoundStill left.image → left.windows ≡ (M.now m).windows → (heard : ℕ) → left.said ≡ (M.now m).said ++ take heard (text line) → InRun k (forced_of k) turns (M.now a) left
  on_last left sound windows heard said =
      ⊎_elim (λ few. in_some left sound windows heard said few) (λ long. in_all left sound windows (said ∙ ap (λ (b : List ℕ). (M.now m).said ++ b) (take_all heard t.said long))) (cases_lt heard (length t.said))

  module _ (short : AreShort (M.now m).windows) (ends : EndIn (M.now a).windows k.windows) (b : D) (at_m : IsTimed M m) (at_b : IsTimed M b) (honest : M.honest b) (status : ℕ) (says : LeavesDisk M false (is_unsaid status) (Utters (text line)) m b) where
    worn : (i : Image) → IsSoundStill (M.now m).image → IsWorn (open_damage (M.now m).windows) (M.now m).image i → IsSoundStill i
    worn i sound wear = sound_worn M k turns a m halted short ends next_changes halted.forced i sound wear

    line_stops : StopsOnly M m b (InRun k (forced_of k) turns (M.now a))
    line_stops = stops_saying M m b (text line) IsSoundStill at_m at_b (says.since honest) (says.any_moment honest) halted.sound worn (InRun k (forced_of k) turns (M.now a)) on_last

    line_held : IsHeld M b (λ c. IsSoundStill c.image)
    line_held = held_behind M m b (text line) IsSoundStill at_m at_b (says.since honest) (says.any_moment honest) halted.sound worn

    own_worn : (i : Image) → HasOwnRoots after.layout (weak_of k.windows) (M.now m).image → IsWorn (open_damage (M.now m).windows) (M.now m).image i → HasOwnRoots after.layout (weak_of k.windows) i
    own_worn i roots wear = roots_worn after.layout (weak_of k.windows) (M.now m).image i (open_is_weak (M.now m).windows k.windows (M.now m).image i (ends_mid M k turns a m halted short ends) wear) roots

    line_rooted : IsHeld M b (λ c. HasOwnRoots after.layout (weak_of k.windows) c.image)
    line_rooted = held_behind M m b (text line) (λ i. HasOwnRoots after.layout (weak_of k.windows) i) at_m at_b (says.since honest) (says.any_moment honest) d.rooted own_worn

    done_last : SaysAll (text line) (M.now m) (M.now b) → IsDone M k turns after a b
    done_last all =
        let wears = open_is_weak (M.now m).windows k.windows (M.now m).image (M.now b).image (ends_mid M k turns a m halted short ends) all.ages.image in
        record {
          windows = all.ages.windows ∙ d.windows;
          rooted = line_rooted;
          said = all_said (M.now b).said all.said;
          sound = sound_all (M.now b).image (now_held M b (λ c. IsSoundStill c.image) at_b line_held);
          held = λ c left. sound_all c.image (line_held c left);
          tells = d.lasts (M.now b).image wears;
          lasts = AllWorn-worn (weak_of k.windows) (λ j. told k.mounted.volume.layout j ≡ Some (telling_of after)) (M.now m).image (M.now b).image wears d.lasts;
          roots = roots_worn after.layout (weak_of k.windows) (M.now m).image (M.now b).image wears d.roots;
        }

module _ {D : Type 0} (M : Ghosts D) (request : Request) (before : Report) (k : Known) (front : List Turn) (line : Line) (after : Volume) (gives : ℕ) (a m b : D) (moments : StopsOnly M a m (InRun k (forced_of k) (front ++ line_turn line ∷ []) (M.now a)))
    (d : IsDone M k front after a m) (short : AreShort (M.now m).windows) (ends : EndIn (M.now a).windows k.windows) (at_m : IsTimed M m) (at_b : IsTimed M b) (counted : before.output_faults ≤ (M.report m).output_faults)
    (status : ℕ) (says : LeavesDisk M false (is_unsaid status) (Utters (text line)) m b) (honest : M.honest b) where
  pub last_moments : StopsOnly M a b (InRun k (forced_of k) (front ++ line_turn line ∷ []) (M.now a))
  last_moments = then_on M.moment (stops M) a m b (InRun k (forced_of k) (front ++ line_turn line ∷ []) (M.now a)) moments (line_stops M k front line after a m d short ends b at_m at_b honest status says)

  unsaid : status ≡ 6 → IsUnsaid before (M.report b) status
  unsaid six =
      let rose : Rose (M.report m).output_faults (M.report b).output_faults = subst (λ (x : Bool). Counts x (M.report m).output_faults (M.report b).output_faults) (eq-eqb status 6 six) says.spares.output in
      record { ends = six; rose = omega (arith, counted, rose) }

  pub last_ends : EndsLast line gives (M.now m) (M.now b) status → ((status ≡ gives) × IsDone M k (front ++ line_turn line ∷ []) after a b) ⊎ IsUnsaid before (M.report b) status
  last_ends (inl six) = inr (unsaid six)
  last_ends (inr said) = inl (said.0, done_last M k front line after a m d short ends b at_m at_b honest status says said.1)

  -- the errand is done, and its last line is said
  pub finishes_last : (e : Errand) (Ahead : Session → Type 0) (Last : Volume → Image → Type 0) (mets : List Meeting) → Ahead (session_behind mets (session_over (volume_of k)) e.commands) → turns_of e mets (session_over (volume_of k)) ≡ front ++ line_turn line ∷ []
      → ((t : ℕ) → t ≤ M.moment a → Goes (in_runs k.windows) (M.left_since b t) Last e (M.now a).said (M.now a).image (session_over (volume_of k)) mets e.commands)
      → length mets ≡ length e.commands → gives ≡ (e.ends (answered mets (session_over (volume_of k)) e.commands)).status → after ≡ (session_behind mets (session_over (volume_of k)) e.commands).volume → EndsLast line gives (M.now m) (M.now b) status → Finishes M request e Ahead Last before k a b status
  finishes_last e Ahead Last mets ahead is goes through gives_is after_is ended = record {
    mets = mets;
    ahead = ahead;
    goes = goes;
    moments = subst (λ (ts : List Turn). StopsOnly M a b (InRun k (forced_of k) ts (M.now a))) (sym is) last_moments;
    ends = by (last_ends ended);
  }
    where
      by : ((status ≡ gives) × IsDone M k (front ++ line_turn line ∷ []) after a b) ⊎ IsUnsaid before (M.report b) status
          → SaysOut M e k mets a b status ⊎ (IsUnsaid before (M.report b) status ⊎ IsBrokenOff request (Undone k (forced_of k) (turns_of e mets (session_over (volume_of k)))) (UnderWay M k (turns_of e mets (session_over (volume_of k))) b) before (M.report b) (turns_of e mets (session_over (volume_of k))) (M.now a) (M.now b) status)
      by (inl done) = inl (record {
        through = through;
        gives = done.0 ∙ gives_is;
        done = subst (λ (ts : List Turn). IsDone M k ts (session_behind mets (session_over (volume_of k)) e.commands).volume a b) (sym is) (subst (λ (v : Volume). IsDone M k (front ++ line_turn line ∷ []) v a b) after_is done.1);
      })
      by (inr u) = inr (inl u)

-- a fault has ended it at once
halted_behind : {D : Type 0} (M : Ghosts D) (k : Known) (why : Fault) (once : EndsAtOnce why) (front : List Turn) (through : Bool) (more : List Turn) (a b : D) → Said M k (forced_of k) why front a b → Halted M k why (front ++ turns_behind through more) a b
halted_behind M k why once front true more a b said = said_halts M k why once front forced_turn more refl a b said
halted_behind M k why once front false more a b said = said_halts M k why once front blank [] refl a b said

pub finishes_broken : {D T : Type 0} (M : Ghosts D) (request : Request) (before : Report) (k : Known) (front : List Turn) (through : Bool) (more : List Turn) (a m b : D) → StopsOnly M a m (InRun k (forced_of k) (front ++ turns_behind through more) (M.now a)) → (why : Fault) → Said M k (forced_of k) why front a m
    → AreShort (M.now m).windows → EndIn (M.now a).windows k.windows → IsTimed M m → IsTimed M b → EndsAtOnce why → FaultTold {T = T} before (M.report m) (Err (Stopped why)) → (status : ℕ) → LeavesDisk M false (is_unsaid status) (Utters (fault_text why)) m b → M.honest b → EndsWith why (M.now m) (M.now b) status
    → (e : Errand) (Ahead : Session → Type 0) (Last : Volume → Image → Type 0) (mets : List Meeting) → Ahead (session_behind mets (session_over (volume_of k)) e.commands) → turns_of e mets (session_over (volume_of k)) ≡ front ++ turns_behind through more
    → ((t : ℕ) → t ≤ M.moment a → Goes (in_runs k.windows) (M.left_since b t) Last e (M.now a).said (M.now a).image (session_over (volume_of k)) mets e.commands) → Finishes M request e Ahead Last before k a b status
finishes_broken M request before k front through more a m b moments why said short ends at_m at_b once told status says honest ended e Ahead Last mets ahead is goes =
    let turns = front ++ turns_behind through more in
    let halted = halted_behind M k why once front through more a m said in
    record {
      mets = mets;
      ahead = ahead;
      goes = goes;
      moments = subst (λ (ts : List Turn). StopsOnly M a b (InRun k (forced_of k) ts (M.now a))) (sym is) (broken_moments M request before k turns a m b moments why halted short ends at_m at_b once told status says honest ended);
      ends = inr (subst (λ (ts : List Turn). IsUnsaid before (M.report b) status ⊎ IsBrokenOff request (Undone k (forced_of k) ts) (UnderWay M k ts b) before (M.report b) ts (M.now a) (M.now b) status) (sym is) (broken_ends M request before k turns a m b moments why halted short ends at_m at_b once told status says honest ended));
    }

-- the output has failed
pub finishes_unsaid : {D T : Type 0} (M : Ghosts D) (request : Request) (before : Report) (k : Known) (said : List Turn) (a b : D) → StopsOnly M a b (InRun k (forced_of k) said (M.now a)) → FaultTold {T = T} before (M.report b) (Err Output)
    → (e : Errand) (Ahead : Session → Type 0) (Last : Volume → Image → Type 0) (mets : List Meeting) → Ahead (session_behind mets (session_over (volume_of k)) e.commands) → turns_of e mets (session_over (volume_of k)) ≡ said
    → ((t : ℕ) → t ≤ M.moment a → Goes (in_runs k.windows) (M.left_since b t) Last e (M.now a).said (M.now a).image (session_over (volume_of k)) mets e.commands) → Finishes M request e Ahead Last before k a b 6
finishes_unsaid M request before k said a b moments told e Ahead Last mets ahead is goes = record {
  mets = mets;
  ahead = ahead;
  goes = goes;
  moments = subst (λ (ts : List Turn). StopsOnly M a b (InRun k (forced_of k) ts (M.now a))) (sym is) moments;
  ends = inr (inl (record { ends = refl; rose = told.output }));
}
