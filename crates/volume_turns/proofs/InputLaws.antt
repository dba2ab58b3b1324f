-- What a version of the input's bytes leaves: it is one command, or the input is too long.
use Rattle.std.proofs.Common.{◌≡◌, ◌⊎◌, inl, inr, ℕ, ◌<◌, ◌≤◌, Bool, true, false, List, [], ◌∷◌, ◌++◌, length, Option, Some, None, refl, sym, ◌∙◌, ap, subst, arith}
use Rattle.fsd_files.specs.Volume.{Volume}
use Rattle.fsd_texts.specs.Text.{fault_text}
use Rattle.fsd_log.specs.Scan.{Placed}
use Rattle.std.specs.Prelude.{if◌then◌else◌, nat_lt, Err}
use Rattle.std.proofs.lemmas.Bool.{lt-ltb, ltb-true}
use Rattle.std.proofs.lemmas.List.{append-nil}
use Rattle.sector_disk.specs.declared.machine.Machine.{Ghosts}
use Rattle.sector_disk.specs.Calls.{IsTimed, LeavesDisk, StopsOnly}
use Rattle.sector_disk.specs.Image.{AreShort}
use Rattle.sector_disk.specs.Machine.{IsSynced, LeavesOnly, Moment, Report, Utters, Wears}
use Rattle.sector_disk.proofs.Lags.{held_synced}
use Rattle.sector_disk.proofs.Moments.{leaves_more}
use Rattle.fsd_bytes.specs.declared.refusal.Refusal.{Refusal}
use Rattle.fsd_bytes.specs.declared.refusal.Refusal.TheVariants as Why
use Rattle.fsd_files.specs.Disk.{Image, in_runs}
use Rattle.fsd_files.specs.Files.{Change}
use Rattle.fsd_sound.specs.Laid.{HasOwnRoots}
use Rattle.fsd_sound.specs.Mounted.{IsMounted, Mounted}
use Rattle.fsd_sound.specs.Sound.{IsSound, weak_of}
use Rattle.fsd_sound.proofs.MountedLaws.{mounted_lasts, mounted_tells}
use Rattle.fsd_texts.specs.declared.command.Command.{Command}
use Rattle.fsd_texts.specs.declared.command.Command.TheVariants as Word
use Rattle.fsd_texts.specs.declared.fault.Fault.{Fault}
use Rattle.fsd_texts.specs.declared.fault.Fault.TheVariants as Ends
use Rattle.fsd_texts.specs.declared.line.Line.TheVariants as Says
use Rattle.fsd_texts.specs.Script.{max_input}
use Rattle.fsd_runs.specs.declared.request.Request.TheVariants.{One, Put}
use Rattle.fsd_runs.specs.Errands.{Cut, Errand, MayCut, Turn, errand_alone, errand_of, line_turn, nothing_but}
use Rattle.fsd_runs.specs.Leaves.{IsBrokenOff, IsOutside}
use Rattle.fsd_runs.specs.Sessions.{session_over}
use Rattle.fsd_runs.specs.Runs.{IsCutAt, errand_in}
use Rattle.volume_contract.specs.Ends.{device_of}
use Rattle.volume_contract.specs.State.{State, Ages, Known, Stands, forced_of, volume_of}
use Rattle.volume_turns.specs.declared.turns.Halt.TheVariants.{Fault as Stopped}
use Rattle.volume_turns.specs.Line.{EndsLast, EndsWith, is_unsaid}
use Rattle.volume_turns.specs.Once.{IsDone, close_fault}
use Rattle.volume_turns.specs.Steps.{IsOfCall, StaysSoundFor, device_told}
use Rattle.volume_turns.specs.Turns.{InRun, OnDisk, FaultTold}
use Rattle.volume_turns.specs.Whole.{Always, Finishes, RunsOut}
use Rattle.volume_turns.proofs.SayLaws.{KeepsSynced}
use Rattle.volume_turns.proofs.GroupEndLaws.{finishes_last}
use Rattle.volume_turns.proofs.GroupLaws.{goes_wider}
use Rattle.volume_turns.proofs.HaltLaws.{broken_ends, broken_moments, said_halts}
use Rattle.volume_turns.proofs.TurnLaws.{said_nothing, stays_held, stays_stops}
use Rattle.volume_turns.proofs.StaysLaws.{mounted_stays}

-- ---- what a put of the input asks for

pub asks_one : (name : List ℕ) (keep : Option ℕ) (input : List ℕ) (v : Volume) → length input ≤ max_input → errand_of (Put name keep) input v ≡ errand_alone (Word.Put name input keep)
asks_one name keep input v few = by (nat_lt max_input (length input)) refl
  where
    by : (b : Bool) → nat_lt max_input (length input) ≡ b → errand_of (Put name keep) input v ≡ errand_alone (Word.Put name input keep)
    by true is = absurd (let more = ltb-true max_input (length input) is in omega (arith, few, more))
    by false is = ap (λ (b : Bool). if b then nothing_but Ends.InputTooLong else errand_alone (Word.Put name input keep)) is

pub asks_none : (name : List ℕ) (keep : Option ℕ) (input : List ℕ) (v : Volume) → max_input < length input → errand_of (Put name keep) input v ≡ nothing_but Ends.InputTooLong
asks_none name keep input v many = ap (λ (b : Bool). if b then nothing_but Ends.InputTooLong else errand_alone (Word.Put name input keep)) (lt-ltb max_input (length input) many)

-- ---- one command

outside_put : (name : List ℕ) (keep : Option ℕ) (c : Command) (before after : Report) (why : Fault) → IsOutside (One c) before after why → IsOutside (Put name keep) before after why
outside_put name keep c before after (Ends.Device s) o = o
outside_put name keep c before after Ends.Memory o = tt
outside_put name keep c before after why o = absurd o

broken_put : (name : List ℕ) (keep : Option ℕ) (c : Command) (before after : Report) {Over : ℕ → Image → Type 0} {Way : ℕ → Type 0} {turns : List Turn} {old new : Moment} {result : ℕ} → IsBrokenOff (One c) Over Way before after turns old new result → IsBrokenOff (Put name keep) Over Way before after turns old new result
broken_put name keep c before after x = record { why = x.why; outside = outside_put name keep c before after x.why x.outside; ends = x.ends; says = x.says; held = x.held; undone = x.undone; unread = x.unread }

module _ {D : Type 0} (M : Ghosts D) (name : List ℕ) (keep : Option ℕ) (input rest : List ℕ) (few : length input ≤ max_input) (before : Report) (k : Known) (a b : D) (status : ℕ) where
  abbrev c : Command
  c = Word.Put name input keep

  same_errand : (cut : Cut) → MayCut (One c) cut → errand_of (Put name keep) input (volume_of k) ≡ errand_in (One c) [] cut (volume_of k)
  same_errand None may = asks_one name keep input (volume_of k) few
  same_errand (Some cutting) may = absurd may

  pub put_out : RunsOut M (One c) [] rest before k a b status → RunsOut M (Put name keep) input rest before k a b status
  put_out r = record {
    cut = None;
    may = tt;
    cause = tt;
    says = tt;
    rooted = tt;
    so = tt;
    finishes = subst (λ (x : Errand). Finishes M (Put name keep) x Always (IsCutAt None) before k a b status) (sym (same_errand r.cut r.may)) (record {
      mets = r.finishes.mets;
      ahead = tt;
      goes = λ t le. goes_wider (in_runs k.windows) (M.left_since b t) (M.left_since b t) (λ m was. was) (IsCutAt r.cut) (IsCutAt None) (λ v i is. tt) (errand_in (One c) [] r.cut (volume_of k)) (M.now a).said (M.now a).image (session_over (volume_of k)) r.finishes.mets (errand_in (One c) [] r.cut (volume_of k)).commands (r.finishes.goes t le);
      moments = r.finishes.moments;
      ends = over r.finishes.ends;
    });
  }
    where
      over : {A B : Type 0} {Over : ℕ → Image → Type 0} {Way : ℕ → Type 0} {turns : List Turn} {old new : Moment} → A ⊎ (B ⊎ IsBrokenOff (One c) Over Way before (M.report b) turns old new status) → A ⊎ (B ⊎ IsBrokenOff (Put name keep) Over Way before (M.report b) turns old new status)
      over (inl x) = inl x
      over (inr (inl u)) = inr (inl u)
      over (inr (inr x)) = inr (inr (broken_put name keep c before (M.report b) x))

-- ---- the fault of a close

-- the place of the disk that it tells
pub device_close : (why : Refusal) → device_of why ≡ device_told (close_fault why)
device_close (Why.Device s) = refl
device_close why = refl

pub close_of_call : (why : Refusal) → IsOfCall (close_fault why)
close_of_call (Why.Device s) = tt
close_of_call why = tt

-- ---- an input that is too long

module _ {S D : Type 0} (state : S → State) (has : S → Mounted → List Placed → Type 0) (M : Ghosts D) (name : List ℕ) (keep : Option ℕ) (input rest : List ℕ) (many : max_input < length input) (v : S) (a m b : D) (k : Known)
    (wears : (old new : Moment) → AreShort old.windows → Ages old new → Stands state has v k old → Stands state has v k new) (stands : Stands state has v k (M.now a)) (on : OnDisk M k (forced_of k) a) (short : (x : D) → M.honest x → AreShort (M.now x).windows) (timed : (x : D) → M.honest x → IsTimed M x)
    (reads : KeepsSynced M a m) (back : M.honest m) (honest : M.honest b) (status : ℕ) where
  abbrev none : Errand
  none = nothing_but Ends.InputTooLong

  abbrev t : Turn
  t = line_turn (Says.Ended Ends.InputTooLong)

  at_a : IsTimed M a
  at_a = timed a (reads.trust.honest back)

  at_m : IsTimed M m
  at_m = timed m back

  worn : Wears (M.now a) (M.now m)
  worn = reads.worn back

  stands_in : (left : Moment) → Wears (M.now a) left → Stands state has v k left
  stands_in left w = wears (M.now a) left (short a (reads.trust.honest back)) (record { image = w.image; windows = w.windows }) stands

  stays : (left : Moment) → Wears (M.now a) left → StaysSoundFor k (M.now a) left
  stays left w = mounted_stays k (M.now a) left (stands_in left w).disk w.windows w.said

  stays_run : LeavesOnly M.moment M.left_since a m (StaysSoundFor k (M.now a))
  stays_run = leaves_more M.moment M.left_since a m (Wears (M.now a)) (StaysSoundFor k (M.now a)) stays (reads.any_moment back)

  moments : StopsOnly M a m (InRun k (forced_of k) (t ∷ []) (M.now a))
  moments = stays_stops M k (forced_of k) a m at_a at_m (reads.since back) stays_run on (t ∷ [])

  held : OnDisk M k (forced_of k) m
  held = stays_held M k (forced_of k) a m at_a at_m (reads.since back) stays_run on

  abbrev Over : Type 0
  Over = RunsOut M (Put name keep) input rest (M.report a) k a b status

  pub refused_input : (volume_of k).unforced ≡ 0 → IsSynced (M.now m) → LeavesDisk M false (is_unsaid status) (Utters (fault_text Ends.InputTooLong)) m b → EndsLast (Says.Ended Ends.InputTooLong) 5 (M.now m) (M.now b) status → Over
  refused_input forced synced says ended = record {
    cut = None;
    may = tt;
    cause = tt;
    says = tt;
    rooted = tt;
    so = tt;
    finishes = subst (λ (x : Errand). Finishes M (Put name keep) x Always (IsCutAt None) (M.report a) k a b status) (sym (asks_none name keep input (volume_of k) many))
        (finishes_last M (Put name keep) (M.report a) k [] (Says.Ended Ends.InputTooLong) (volume_of k) 5 a m b moments done (short m back) stands.ends at_m (timed b honest) (let same = reads.uses.output in omega (arith, same)) status says honest none Always (IsCutAt None) [] tt refl (λ t le. tt) refl refl refl ended);
  }
    where
      all : forced_of k ≡ length k.changes
      all = omega (arith, forced)

      sound_all : (i : Image) → IsSound k.mounted.volume.layout k.windows k.changes (forced_of k) i → IsSound k.mounted.volume.layout k.windows (k.changes ++ []) (length (k.changes ++ [])) i
      sound_all i sound = subst (λ (h : List Change). IsSound k.mounted.volume.layout k.windows h (length h) i) (sym (append-nil k.changes)) (subst (λ (n : ℕ). IsSound k.mounted.volume.layout k.windows k.changes n i) all sound)

      there : IsMounted k.mounted k.windows k.changes (forced_of k) (M.now m).image
      there = (stands_in (M.now m) worn).disk

      done : IsDone M k [] (volume_of k) a m
      done = record {
        windows = worn.windows;
        said = worn.said ∙ sym (append-nil (M.now a).said);
        sound = sound_all (M.now m).image (stays (M.now m) worn).sound;
        held = λ c left. sound_all c.image (held.each c left);
        tells = mounted_tells k.mounted k.windows k.changes (forced_of k) (M.now m).image there forced;
        lasts = mounted_lasts k.mounted k.windows k.changes (forced_of k) (M.now m).image there forced;
        roots = there.over.own.roots;
        rooted = held_synced M m (λ c. HasOwnRoots k.mounted.volume.layout (weak_of k.windows) c.image) at_m synced there.over.own.roots;
      }

  pub refused_broken : (place : ℕ) → FaultTold {T = Unit {0}} (M.report a) (M.report m) (Err (Stopped (Ends.Device place))) → LeavesDisk M false (is_unsaid status) (Utters (fault_text (Ends.Device place))) m b → EndsWith (Ends.Device place) (M.now m) (M.now b) status → Over
  refused_broken place told says ended =
      let why = Ends.Device place in
      let halted = said_halts M k why tt [] t [] refl a m (said_nothing M k (forced_of k) why a m at_m held worn.windows worn.said) in
      record {
        cut = None;
        may = tt;
        cause = tt;
        says = tt;
        rooted = tt;
        so = tt;
        finishes = subst (λ (x : Errand). Finishes M (Put name keep) x Always (IsCutAt None) (M.report a) k a b status) (sym (asks_none name keep input (volume_of k) many)) (record {
          mets = [];
          ahead = tt;
          goes = λ t le. tt;
          moments = broken_moments M (Put name keep) (M.report a) k (t ∷ []) a m b moments why halted (short m back) stands.ends at_m (timed b honest) tt told status says honest ended;
          ends = inr (broken_ends M (Put name keep) (M.report a) k (t ∷ []) a m b moments why halted (short m back) stands.ends at_m (timed b honest) tt told status says honest ended);
        });
      }
