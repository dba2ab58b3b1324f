-- A put of the input over a mounted volume: its input is taken first, which wears the disk and no more.
use Rattle.std.proofs.Common.{◌≡◌, ℕ, Bool, true, false, List, [], Option, Some, None, refl, arith}
use Rattle.fsd_log.specs.Scan.{Placed}
use Rattle.std.specs.Prelude.{length, if◌then◌else◌, nat_lt, IsSome, slice_get}
use Rattle.sector_disk.specs.declared.machine.Machine.{Ghosts}
use Rattle.sector_disk.specs.Calls.{IsTimed, LeavesDisk}
use Rattle.sector_disk.specs.Image.{AreShort}
use Rattle.sector_disk.specs.Machine.{Moment, Report, Wears, Utters}
use Rattle.fsd_files.specs.Volume.{Volume}
use Rattle.fsd_sound.specs.Mounted.{Mounted}
use Rattle.fsd_texts.specs.declared.command.Command.TheVariants as Word
use Rattle.fsd_texts.specs.declared.fault.Fault.{Fault}
use Rattle.fsd_texts.specs.declared.fault.Fault.TheVariants as Ends
use Rattle.fsd_texts.specs.Script.{max_input}
use Rattle.fsd_texts.specs.Text.{fault_text}
use Rattle.fsd_runs.specs.declared.request.Request.TheVariants.{Put}
use Rattle.fsd_runs.specs.Sessions.{session_over}
use Rattle.fsd_runs.specs.Errands.{Cut, Errand, MayCut, errand_alone, errand_of, nothing_but}
use Rattle.fsd_runs.specs.Leaves.{IsOutside, MayEnd}
use Rattle.fsd_runs.specs.Runs.{IsCutAt, IsCutBefore, errand_in, turns_of}
use Rattle.volume_contract.specs.State.{State, Ages, Known, Stands, forced_of, is_worn, volume_of}
use Rattle.volume_turns.specs.Line.{EndsWith, is_unsaid}
use Rattle.volume_turns.specs.Turns.{OnDisk}
use Rattle.volume_turns.specs.Whole.{Always, Finishes, RunsOut}
use Rattle.volume_turns.proofs.BeforeLaws.{finishes_before, finishes_ended, stands_worn, uses_untaken, worn_held}
use Rattle.volume_turns.proofs.OneLaws.{some_one}
use Rattle.volume_turns.proofs.WholeLaws.{runs_on}

-- ---- what a put asks for, by how long its input is

abbrev asked : Bool → (name input : List ℕ) → Option ℕ → Errand
asked long name input keep = if long then nothing_but Ends.InputTooLong else errand_alone (Word.Put name input keep)

-- the run has a turn to say, whatever the volume
pub some_put : (name : List ℕ) (keep : Option ℕ) (input : List ℕ) (v : Volume) → IsSome (slice_get (turns_of (errand_of (Put name keep) input v) [] (session_over v)) 0)
some_put name keep input v = by (nat_lt max_input (length input))
  where
    by : (long : Bool) → IsSome (slice_get (turns_of (asked long name input keep) [] (session_over v)) 0)
    by true = refl
    by false = some_one (Word.Put name input keep) v

-- ---- over a volume that stands

module _ {S D : Type 0} (state : S → State) (has : S → Mounted → List Placed → Type 0) (M : Ghosts D) (name : List ℕ) (keep : Option ℕ) (input rest : List ℕ) (v : S) (k : Known) (a m b : D)
    (wears : (old new : Moment) → AreShort old.windows → Ages old new → Stands state has v k old → Stands state has v k new) (short : AreShort (M.now a).windows) (stands : Stands state has v k (M.now a))
    (on : OnDisk M k (forced_of k) a) (at_a : IsTimed M a) (at_m : IsTimed M m) (takes : Bool) (read : LeavesDisk M takes false Wears a m) (back : M.honest m) (status : ℕ) where
  pub stands_on : Stands state has v k (M.now m)
  stands_on = stands_worn state has M v k a m wears short stands on at_a at_m (read.exit back) (read.since back) (read.any_moment back)

  pub held_on : OnDisk M k (forced_of k) m
  held_on = worn_held state has M v k a m wears short stands on at_a at_m (read.exit back) (read.since back) (read.any_moment back)

  -- the run goes on from there
  from_there : is_worn (state v) ≡ false → (before : Report) (cut : Cut) → MayCut (Put name keep) cut → Finishes M (Put name keep) (errand_in (Put name keep) input cut (volume_of k)) (λ s. IsCutBefore cut s (errand_of (Put name keep) input (volume_of k)).commands) (IsCutAt cut) before k m b status → RunsOut M (Put name keep) input rest before k a b status
  from_there unworn before (Some cutting) may f = absurd may
  from_there unworn before None may f = record {
    cut = None;
    may = tt;
    cause = tt;
    says = tt;
    rooted = tt;
    so = tt;
    finishes = finishes_before state has M v k a m wears short stands on at_a at_m (read.exit back) (read.since back) (read.any_moment back) b (Put name keep) (errand_of (Put name keep) input (volume_of k)) before status unworn Always (IsCutAt None) (λ x. tt) f;
  }

  pub taken_on : takes ≡ false → is_worn (state v) ≡ false → RunsOut M (Put name keep) input rest (M.report m) k m b status → RunsOut M (Put name keep) input rest (M.report a) k a b status
  taken_on none unworn r =
      runs_on M (Put name keep) input rest (M.report a) (M.report m) (uses_untaken M a m takes read none) (read.spares.disk, read.spares.place) k a b status (from_there unworn (M.report m) r.cut r.may r.finishes)

  -- it ends there, by a fault of the input or for want of memory
  pub taken_ended : (why : Fault) → MayEnd why → IsOutside (Put name keep) (M.report a) (M.report b) why → LeavesDisk M false (is_unsaid status) (Utters (fault_text why)) m b → M.honest b → IsTimed M b → EndsWith why (M.now m) (M.now b) status → RunsOut M (Put name keep) input rest (M.report a) k a b status
  taken_ended why may out says honest at_b ended = record {
    cut = None;
    may = tt;
    cause = tt;
    says = tt;
    rooted = tt;
    so = tt;
    finishes = finishes_ended state has M v k a m wears short stands on at_a at_m (read.exit back) (read.since back) (read.any_moment back) b (Put name keep) (errand_of (Put name keep) input (volume_of k)) (some_put name keep input (volume_of k)) (M.report a) why may out (let same = read.spares.output in omega (arith, same)) status says honest at_b ended Always (IsCutAt None) tt tt;
  }
