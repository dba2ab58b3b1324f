-- What one command leaves, from the mounted volume to the last line.
use Rattle.std.proofs.Common.{◌≡◌, ◌⊎◌, inl, inr, false, ℕ, Bool, ◌≤◌, List, [], ◌∷◌, ◌++◌, length, take, None, refl, sym, ◌∙◌, ap, arith}
use Rattle.std.specs.Prelude.{⊤, IsSome, Result, Ok, Err, slice_get}
use Rattle.std.proofs.lemmas.List.{append-nil}
use Rattle.fsd_files.specs.Volume.{Volume}
use Rattle.fsd_texts.specs.Text.{fault_text}
use Rattle.sector_disk.specs.declared.machine.Machine.{Ghosts}
use Rattle.sector_disk.specs.Calls.{IsTimed, LeavesDisk, Since, StopsOnly, stops}
use Rattle.sector_disk.specs.Image.{AreShort, open_damage}
use Rattle.sector_disk.specs.Machine.{LeavesOnly, Moment, Utters}
use Rattle.sector_disk.proofs.Lags.{shows_of, stops_by}
use Rattle.sector_disk.proofs.Moments.{leaves_more, then_on}
use Rattle.volume_layout.specs.declared.layout.Layout.{Layout}
use Rattle.fsd_files.specs.Disk.{in_runs}
use Rattle.fsd_sound.specs.Sound.{EndIn, weak_of}
use Rattle.fsd_sound.proofs.SaidLaws.{worn_each}
use Rattle.fsd_texts.specs.declared.command.Command.{Command}
use Rattle.fsd_texts.specs.declared.fault.Fault.{Fault}
use Rattle.fsd_texts.specs.declared.fault.Fault.TheVariants as Ends
use Rattle.fsd_texts.specs.declared.script_command.ScriptCommand.TheVariants.{Plain}
use Rattle.fsd_runs.specs.declared.request.Request.TheVariants.{One}
use Rattle.fsd_runs.specs.Errands.{Turn, errand_alone, errand_of}
use Rattle.fsd_runs.specs.Leaves.{IsRooted, MayEnd}
use Rattle.fsd_runs.specs.Sessions.{Meeting, session_over}
use Rattle.fsd_runs.specs.Runs.{Goes, IsCutAt, session_behind, turns_of}
use Rattle.volume_contract.specs.State.{Known, forced_of, volume_of}
use Rattle.volume_turns.specs.declared.turns.Halt.{Halt}
use Rattle.volume_turns.specs.declared.turns.Halt.TheVariants.{Fault as Stopped, Output}
use Rattle.volume_turns.specs.Line.{EndsWith, is_unsaid}
use Rattle.volume_turns.specs.Once.{Anything, IsAlone, SaysRooted, Unanswered, layout_alone}
use Rattle.volume_turns.specs.Steps.{SaysEither}
use Rattle.volume_turns.specs.Turns.{FaultToldBy}
use Rattle.volume_turns.specs.Whole.{Halted, RunsOut}
use Rattle.volume_turns.proofs.GroupLaws.{goes_wider}
use Rattle.volume_turns.proofs.HaltLaws.{broken_ends, broken_moments}
use Rattle.volume_turns.proofs.LineLaws.{alone_length, at_once_ends, none_of_input}
use Rattle.volume_turns.proofs.TurnLaws.{none_done}

first_of : (turns : List Turn) → length turns ≡ 1 → IsSome (slice_get turns 0)
first_of [] one = cc one
first_of (t ∷ turns) one = refl

-- the run has a turn to say, whatever the volume
pub some_one : (c : Command) (v : Volume) → IsSome (slice_get (turns_of (errand_of (One c) [] v) [] (session_over v)) 0)
some_one c v = first_of (turns_of (errand_alone c) [] (session_over v)) (alone_length c [] (session_over v))

-- where nothing of its one turn is said
halted_one : {D : Type 0} (M : Ghosts D) (c : Command) (k : Known) (mets : List Meeting) (why : Fault) (a b : D) → (M.now b).windows ≡ (M.now a).windows → Unanswered M c k mets why a b → Halted M k why (turns_of (errand_alone c) mets (session_over (volume_of k))) a b
halted_one M c k mets why a b windows u =
    let turns = turns_of (errand_alone c) mets (session_over (volume_of k)) in
    record {
      windows = windows;
      whole = 0;
      more = first_of turns (alone_length c mets (session_over (volume_of k)));
      said = u.said ∙ sym (append-nil (M.now a).said);
      forced = forced_of k;
      least = omega arith;
      enough = λ any. absurd (cc any);
      sound = u.held;
      undone = λ is. none_done k (forced_of k) turns (M.now b).image (u.spared is);
      unread = λ is. absurd (none_of_input why u.once is);
    }

-- ---- its roots

-- nothing is said, or its roots stand
says_roots : (own : Layout) (k : Known) (old left : Moment) → SaysRooted own k old left → IsRooted own (weak_of k.windows) old left
says_roots own k old left (inl none) = inl ([], (Ends.Memory, 0, tt, refl), none ∙ sym (append-nil old.said))
says_roots own k old left (inr roots) = inr roots

one_rooted : {D : Type 0} (M : Ghosts D) (k : Known) (own : Layout) (a b : D) → StopsOnly M a b (SaysRooted own k (M.now a)) → StopsOnly M a b (IsRooted own (weak_of k.windows) (M.now a))
one_rooted M k own a b run = leaves_more M.moment (stops M) a b (SaysRooted own k (M.now a)) (IsRooted own (weak_of k.windows) (M.now a)) (says_roots own k (M.now a)) run

-- the line of a fault is said behind it, where nothing else was
module _ {D : Type 0} (M : Ghosts D) (k : Known) (own : Layout) (a p b : D) (why : Fault) (may : MayEnd why) (quiet : (M.now p).said ≡ (M.now a).said) where
  abbrev Rooted : Moment → Type 0
  Rooted left = IsRooted own (weak_of k.windows) (M.now a) left

  on_line : (left : Moment) (heard : ℕ) → left.said ≡ (M.now p).said ++ take heard (fault_text why) → Rooted left
  on_line left heard said = inl (take heard (fault_text why), (why, heard, may, refl), said ∙ ap (λ (x : List ℕ). x ++ take heard (fault_text why)) quiet)

  pub fault_line : IsTimed M p → IsTimed M b → Since M p b → LeavesOnly M.moment M.left_since p b (Utters (fault_text why) (M.now p)) → StopsOnly M p b Rooted
  fault_line at_p at_b since line = stops_by M p b (Utters (fault_text why) (M.now p)) (λ c. ⊤) at_p at_b since line (λ c left. tt) Rooted (λ c utters. on_line c utters.heard utters.said)
      (λ last shown utters left sooner lately either. on_line (shows_of shown last) utters.heard utters.said)

  fault_rooted : IsTimed M p → IsTimed M b → Since M p b → LeavesOnly M.moment M.left_since p b (Utters (fault_text why) (M.now p)) → StopsOnly M a p (SaysRooted own k (M.now a)) → StopsOnly M a b Rooted
  fault_rooted at_p at_b since line run = then_on M.moment (stops M) a p b Rooted (one_rooted M k own a p run) (fault_line at_p at_b since line)

-- what its roots say there they said before it
pub line_says : {D : Type 0} (M : Ghosts D) (k : Known) (own : Layout) (p b : D) (text : List ℕ) → SaysEither own k (M.now p).image → LeavesOnly M.moment M.left_since p b (Utters text (M.now p)) → LeavesOnly M.moment M.left_since p b (λ c. SaysEither own k c.image)
line_says M k own p b text here line = leaves_more M.moment M.left_since p b (Utters text (M.now p)) (λ c. SaysEither own k c.image) (λ c utters. worn_each (open_damage (M.now p).windows) (M.now p).image c.image (λ l. (l ≡ own) ⊎ (l ≡ k.mounted.volume.layout)) utters.image here) line

-- ---- to the last line

abbrev one_end : Command → Known → List Meeting → Layout
one_end c k mets = layout_alone c mets (session_over (volume_of k))

module _ {D : Type 0} (M : Ghosts D) (c : Command) (rest : List ℕ) (k : Known) (a p b : D) (since : Since M p b) where
  went : {r : Result ℕ Halt} → (one : IsAlone M c k a p r) → (t : ℕ) → t ≤ M.moment a → Goes (in_runs k.windows) (M.left_since b t) (IsCutAt None) (errand_alone c) (M.now a).said (M.now a).image (session_over (volume_of k)) one.mets (Plain c ∷ [])
  went one t le = let later = one.moments.later in
      goes_wider (in_runs k.windows) (M.left_since p t) (M.left_since b t) (λ x was. since t x (omega (arith, le, later)) was) Anything (IsCutAt None) (λ v i is. tt) (errand_alone c) (M.now a).said (M.now a).image (session_over (volume_of k)) one.mets (Plain c ∷ []) (one.goes t le)

  pub one_broken : M.honest b → AreShort (M.now p).windows → EndIn (M.now a).windows k.windows → (M.now p).windows ≡ (M.now a).windows → IsTimed M p → IsTimed M b → (why : Fault) → IsAlone M c k a p (Err (Stopped why)) → {longer : Bool} {T : Type 0} → FaultToldBy longer {T = T} (M.report a) (M.report p) (Err (Stopped why))
      → (status : ℕ) → LeavesDisk M false (is_unsaid status) (Utters (fault_text why)) p b → EndsWith why (M.now p) (M.now b) status → RunsOut M (One c) [] rest (M.report a) k a b status
  one_broken honest short ends windows at_p at_b why one told status says ended =
      let turns = turns_of (errand_alone c) one.mets (session_over (volume_of k)) in
      let halted = halted_one M c k one.mets why a p windows one.ends in
      record {
        cut = None;
        may = tt;
        cause = tt;
        finishes = record {
          mets = one.mets;
          ahead = tt;
          goes = went one;
          moments = broken_moments M (One c) (M.report a) k turns a p b one.moments why halted short ends at_p at_b one.ends.once told status says honest ended;
          ends = inr (broken_ends M (One c) (M.report a) k turns a p b one.moments why halted short ends at_p at_b one.ends.once told status says honest ended);
        };
        so = tt;
        says = then_on M.moment M.left_since a p b (λ x. SaysEither (one_end c k one.mets) k x.image) one.says
            (line_says M k (one_end c k one.mets) p b (fault_text why) (one.says.each (M.now p) (at_p.history.sooner (M.moment a) (M.moment p) (M.now p) one.says.later at_p.here)) (says.any_moment honest));
        rooted = fault_rooted M k (one_end c k one.mets) a p b why (at_once_ends why one.ends.once) one.ends.said at_p at_b since (says.any_moment honest) one.rooted;
      }

module _ {D : Type 0} (M : Ghosts D) (c : Command) (rest : List ℕ) (k : Known) (a b : D) where
  still : Since M b b
  still t left le was = was

  pub one_said : (status : ℕ) → IsAlone M c k a b (Ok status) → RunsOut M (One c) [] rest (M.report a) k a b status
  one_said status one = record {
    cut = None;
    may = tt;
    cause = tt;
    finishes = record {
      mets = one.mets;
      ahead = tt;
      goes = went M c rest k a b b still one;
      moments = one.moments;
      ends = inl (record { through = one.ends.0; gives = one.ends.1; done = one.ends.2 });
    };
    so = tt;
    says = one.says;
    rooted = one_rooted M k (one_end c k one.mets) a b one.rooted;
  }

  pub one_unsaid : {longer : Bool} {T : Type 0} → IsAlone M c k a b (Err Output) → FaultToldBy longer {T = T} (M.report a) (M.report b) (Err Output) → RunsOut M (One c) [] rest (M.report a) k a b 6
  one_unsaid one told = record {
    cut = None;
    may = tt;
    cause = tt;
    finishes = record {
      mets = one.mets;
      ahead = tt;
      goes = went M c rest k a b b still one;
      moments = one.moments;
      ends = inr (inl (record { ends = refl; rose = told.output }));
    };
    so = tt;
    says = one.says;
    rooted = one_rooted M k (one_end c k one.mets) a b one.rooted;
  }
