-- A run behind its attach: over the image that was found, or by the line of the fault.
use Rattle.std.proofs.Common.{◌≡◌, ◌⊎◌, inl, inr, ℕ, ◌+◌, ◌≤◌, Bool, false, List, ◌++◌, Option, Err, sym, ◌∙◌, ap, arith}
use Rattle.std.specs.Prelude.{IsFalse, IsTrue}
use Rattle.volume_layout.specs.declared.layout.Layout.{Layout}
use Rattle.sector_disk.specs.declared.machine.Attach.TheVariants.{Old}
use Rattle.sector_disk.specs.declared.machine.Failed.{Failed}
use Rattle.sector_disk.specs.declared.machine.Machine.{Ghosts}
use Rattle.sector_disk.specs.Calls.{IsHeld, IsTimed, LeavesDisk, StopsOnly, stops}
use Rattle.sector_disk.specs.Image.{AreShort}
use Rattle.sector_disk.specs.Machine.{Before, DiskCause, Elapses, Ledger, Trusts, Utters, Wears, asked_for}
use Rattle.sector_disk.proofs.Holding.{trusts_on}
use Rattle.sector_disk.proofs.Lags.{held_synced}
use Rattle.fsd_files.specs.declared.reply.Reply.TheVariants as Said
use Rattle.fsd_texts.specs.declared.command.Command.{Command}
use Rattle.fsd_texts.specs.declared.command.Command.TheVariants as Word
use Rattle.fsd_texts.specs.declared.fault.Fault.TheVariants as Ends
use Rattle.fsd_texts.specs.declared.line.Line.TheVariants as Lines
use Rattle.fsd_texts.specs.Text.{fault_text}
use Rattle.fsd_runs.specs.declared.request.Request.{Request}
use Rattle.fsd_runs.specs.Commands.{reply_alone}
use Rattle.fsd_runs.specs.Errands.{IfMounts}
use Rattle.fsd_runs.specs.Leaves.{IsSoundAsSaid, LeavesRun, Was}
use Rattle.fsd_runs.proofs.SafeLaws.{never_refused}
use Rattle.volume_contract.specs.Mount.{IsSoundAt}
use Rattle.volume_contract.specs.State.{Ages}
use Rattle.volume_turns.specs.Answering.{SaysNoReply}
use Rattle.volume_turns.specs.Causes.{FailsInput, Front, SaysFaultAt, SaysOfInput, TellsImage, is_of_fault}
use Rattle.volume_turns.specs.Healing.{HealsOver, IfScrub, WritesMounting}
use Rattle.volume_turns.specs.Line.{EndsWith, IsStatusAs, is_unsaid}
use Rattle.volume_turns.specs.Status.{CountsNone, CountsRunBy, CountsTaking}
use Rattle.volume_turns.proofs.AnsweringLaws.{fault_alone}
use Rattle.volume_turns.proofs.CauseLaws.{input_since}
use Rattle.volume_turns.proofs.LastLaws.{ends_fault}
use Rattle.cfs_program.specs.Formatting.{AsksAtMost, CountsFaults}
use Rattle.cfs_program.specs.Opening.{AcceptsSound, FindsImage, HealsFound, IsSoundDisk, is_from_outside, mount_asks}
use Rattle.cfs_program.proofs.CountsLaws.{CountsReading, counts_failed, counts_opened, reading_of, reading_opened}
use Rattle.cfs_program.proofs.EndedLaws.{ended_run}
use Rattle.cfs_program.proofs.FoundLaws.{TellsFound, fails_attached, failed_not, tells_found, untouched_unfound}
use Rattle.cfs_program.proofs.OpeningLaws.{finds_keep, opened_run, said_disk, sound_found}

-- ---- over the image

-- The image was found, and a run over it has ended.
pub record RunsFound {D : Type 0} (M : Ghosts D) (path : List ℕ) (sectors : ℕ) (a b z : D) : Type 0 where
  pub finds : FindsImage M path sectors a b
  pub runs : Trusts (M.tells b) (M.tells z) (M.honest b) (M.honest z)

-- an attach writes nothing
mounting_asked : (path : List ℕ) (l m n : Ledger) (layout : Layout) (healed : ℕ) → m ≡ asked_for l path Old → WritesMounting layout m n healed → WritesMounting layout l n healed
mounting_asked path l m n layout healed asked writes = record {
  others = writes.others;
  few = writes.few;
  written = record { healed = writes.written.healed; tells = writes.written.tells; written = writes.written.written ∙ ap (λ (k : Ledger). k.written + (writes.others + writes.written.healed)) asked };
}

module _ {D : Type 0} {M : Ghosts D} {path : List ℕ} {sectors : ℕ} {a b z : D} (x : RunsFound M path sectors a b z) where
  pub found_trust : Trusts (M.tells a) (M.tells z) (M.honest a) (M.honest z)
  found_trust = trusts_on x.finds.trust x.runs

  none_rose : CountsNone (M.report a) (M.report b)
  none_rose = record { disk = x.finds.cause.disk.stays; input = x.finds.cause.input; output = x.finds.cause.output }

  pub found_counts : {longer : Bool} (status : ℕ) → CountsRunBy longer (M.report b) (M.report z) status → CountsReading (M.report a) (M.report z) status
  found_counts status counts = reading_of (M.report a) (M.report z) status (counts_opened (M.report a) (M.report b) (M.report z) status none_rose counts)

  pub found_spared : {longer : Bool} (status : ℕ) → CountsRunBy longer (M.report b) (M.report z) status → (M.report z).input_faults ≡ (M.report a).input_faults
  found_spared status counts = counts.input ∙ none_rose.input

  pub found_reading : (status : ℕ) → CountsTaking (M.report b) (M.report z) status → CountsReading (M.report a) (M.report z) status
  found_reading status counts = reading_opened (M.report a) (M.report b) (M.report z) status none_rose counts

  pub found_input : M.tells z → (M.ledger b).input ≡ (M.ledger a).input
  found_input t = ap (λ (l : Ledger). l.input) (x.finds.asked (x.runs.tells t))

  pub found_syncs : M.tells z → (M.ledger b).syncs ≡ (M.ledger a).syncs
  found_syncs t = ap (λ (l : Ledger). l.syncs) (x.finds.asked (x.runs.tells t))

  pub found_attaches : M.tells z → (M.ledger z).attaches ≡ (M.ledger b).attaches → (M.ledger z).attaches ≡ (M.ledger a).attaches ++ mount_asks path
  found_attaches t same = same ∙ ap (λ (l : Ledger). l.attaches) (x.finds.asked (x.runs.tells t))

  pub found_said : M.honest z → (M.now b).said ≡ (M.now a).said
  found_said h = (x.finds.found (x.runs.honest h)).said

  pub found_later : M.honest z → M.moment a ≤ M.moment b
  found_later h = (x.finds.time (x.runs.honest h)).later

  pub found_image : (kind : Front) (AreCopies : Layout → ℕ → ℕ → Type 0) (made : Option ℕ) (status : ℕ) → M.honest z → TellsImage kind AreCopies made sectors (M.now b) (M.now z) status → TellsFound kind AreCopies made (M.now a) (M.now z) status
  found_image kind AreCopies made status h tells = let back = x.runs.honest h in tells_found kind AreCopies made (M.now a) (M.now b) (M.now z) sectors status (x.finds.found back) (x.finds.size back) tells

  -- what a scrub has healed
  pub found_heals : (command : Command) → M.honest z → (M.honest a → AreShort (M.now a).windows) → ((m : D) → M.honest m → IsTimed M m)
      → IfScrub command (HealsOver M sectors b z) → IfScrub command (HealsFound M a z)
  found_heals Word.Scrub h short timed y =
      let back = x.runs.honest h in
      let found = x.finds.found back in
      record {
        at = M.now b;
        found = found;
        sectors = sectors;
        size = x.finds.size back;
        holds = record {
          volume = y.volume;
          mounted = y.mounted;
          passed = (timed z h).history.sooner (M.moment a) (M.moment b) y.mounted (found_later h) y.passed;
          windows = y.windows;
          heals = record {
            found = y.heals.found;
            healed = y.heals.healed;
            said = y.heals.said ∙ ap (λ (s : List ℕ). s ++ reply_alone (Said.Scrubbed y.heals.found y.heals.healed)) (found_said h);
            written = λ t. mounting_asked path (M.ledger a) (M.ledger b) (M.ledger z) y.volume.layout y.heals.healed (x.finds.asked (x.runs.tells t)) (y.heals.written t);
            twins = y.heals.twins;
            leaders = λ was. y.heals.leaders (was.0, sound_found was.0.layout was.0.windows was.0.changes was.0.forced (M.now a) was.1 (short (x.finds.trust.honest back)) (M.now b) (finds_keep (M.now a) (M.now b) found) sectors (x.finds.size back));
          };
        };
      }
  found_heals command h short timed y = tt

  -- where it takes the input
  pub found_fails : M.tells z → FailsInput (M.ledger b).input (M.report b) (M.report z) → FailsInput (M.ledger a).input (M.report a) (M.report z)
  found_fails t fails = fails_attached (M.report a) (M.report b) (M.report z) (M.ledger a).input (M.ledger b).input x.finds.cause.input (found_input t) fails

  pub found_says_input : M.tells z → SaysOfInput (M.ledger b).input (M.report b) (M.report z) (M.now z) → SaysOfInput (M.ledger a).input (M.report a) (M.report z) (M.now z)
  found_says_input t says = input_since (M.report a) (M.report b) (M.report z) (M.ledger a).input (M.ledger b).input (M.now z) x.finds.cause.input (found_input t) says

  -- over a sound disk, where the run behind the attach leaves it so
  module _ (request : Request) (input rest : List ℕ) (status : ℕ) (honest : M.honest z) (short : M.honest a → AreShort (M.now a).windows) (timed : (m : D) → M.honest m → IsTimed M m)
      (leaves : (was : Was) → IsSoundAt sectors was.layout was.windows was.changes was.forced (M.now b) → IsHeld M b (λ c. IsSoundAsSaid was.layout was.windows was.changes was.forced (M.now b).image c.image) → LeavesRun M request input rest was b z status) where
    back : M.honest b
    back = x.runs.honest honest

    -- all that is there behind an attach is on the disk
    found_run : (was : Was) → IsSoundDisk was.layout was.windows was.changes was.forced (M.now a) → LeavesRun M request input rest was b z status
    found_run was sound =
        let at = sound_found was.layout was.windows was.changes was.forced (M.now a) sound (short (x.finds.trust.honest back)) (M.now b) (finds_keep (M.now a) (M.now b) (x.finds.found back)) sectors (x.finds.size back) in
        leaves was at (held_synced M b (λ c. IsSoundAsSaid was.layout was.windows was.changes was.forced (M.now b).image c.image) (timed b back) (x.finds.synced back) (λ layout said. (said_disk was.layout layout was.windows was.changes was.forced (M.now b) said (record { planned = at.planned; ends = at.ends; sound = at.sound })).sound))

    pub found_leaves : (was : Was) → IsSoundDisk was.layout was.windows was.changes was.forced (M.now a) → IsHeld M a (λ c. IsSoundAsSaid was.layout was.windows was.changes was.forced (M.now a).image c.image) → LeavesRun M request input rest was a z status
    found_leaves was sound held =
        let first = x.finds.trust.honest back in
        opened_run M request input rest was.layout was.windows was.changes was.forced a b z status sound (short first) (timed a first) (timed b back) held (x.finds.time back) (x.finds.found back) (x.finds.synced back) none_rose (found_run was sound)

    -- it is one that mounts
    pub found_accepted : ((P : Type 0) → IfMounts request P → P) → AcceptsSound (M.now a) status
    found_accepted mounts l windows h f sound =
        mounts _ (never_refused request input rest l windows h f (M.left_since z) (stops M z) (M.moment b) (M.left_since b (M.now b).synced) (StopsOnly M b z) (IsHeld M z) (M.report b) (M.report z) (M.now b) (M.now z) status) (found_run (record { layout = l; windows = windows; changes = h; forced = f }) sound)

-- ---- by a line

-- The attach failed, and the line of its fault has ended the run.
pub record EndsUnfound {D : Type 0} (M : Ghosts D) (path : List ℕ) (failed : Failed) (a b z : D) (status : ℕ) : Type 0 where
  pub cause : DiskCause {T = ℕ} (M.report a) (M.report b) 0 (Err failed)
  pub trust : Trusts (M.tells a) (M.tells b) (M.honest a) (M.honest b)
  pub asked : M.tells b → (M.ledger b ≡ M.ledger a) ⊎ (M.ledger b ≡ asked_for (M.ledger a) path Old)
  pub worn : M.honest b → Wears (M.now a) (M.now b)
  pub time : M.honest b → Elapses (M.moment a) (M.moment b) (M.left_since a) (M.left_since b) (Before (M.now a) (M.now b))
  pub says : LeavesDisk M false (is_unsaid status) (Utters (fault_text (Ends.Device failed.place))) b z
  pub ledger : M.tells z → M.ledger z ≡ M.ledger b
  pub ends : M.honest z → EndsWith (Ends.Device failed.place) (M.now b) (M.now z) status
  pub for : IsStatusAs 4 status

module _ {D : Type 0} {M : Ghosts D} {path : List ℕ} {failed : Failed} {a b z : D} {status : ℕ} (x : EndsUnfound M path failed a b z status) where
  pub unfound_trust : Trusts (M.tells a) (M.tells z) (M.honest a) (M.honest z)
  unfound_trust = trusts_on x.trust x.says.trust

  pub unfound_counts : CountsFaults (M.report a) (M.report z) status
  unfound_counts = counts_failed (M.report a) (M.report b) (M.report z) status x.cause.input x.cause.output x.says.spares x.cause.disk.failed x.for

  pub unfound_reading : CountsReading (M.report a) (M.report z) status
  unfound_reading = reading_of (M.report a) (M.report z) status unfound_counts

  -- nothing is said of what was asked for
  pub unfound_asks : M.tells z → AsksAtMost (mount_asks path) (M.ledger a) (M.ledger z)
  unfound_asks t = by (x.asked (x.says.trust.tells t))
    where
      by : (M.ledger b ≡ M.ledger a) ⊎ (M.ledger b ≡ asked_for (M.ledger a) path Old) → AsksAtMost (mount_asks path) (M.ledger a) (M.ledger z)
      by (inl same) = let is = x.ledger t ∙ same in record { input = ap (λ (l : Ledger). l.input) is; syncs = ap (λ (l : Ledger). l.syncs) is; attaches = inr (ap (λ (l : Ledger). l.attaches) is) }
      by (inr asked) = let is = x.ledger t ∙ asked in record { input = ap (λ (l : Ledger). l.input) is; syncs = ap (λ (l : Ledger). l.syncs) is; attaches = inl (ap (λ (l : Ledger). l.attaches) is) }

  pub unfound_outside : IsFalse (is_from_outside status) → ⊥
  unfound_outside inside = failed_not status x.for inside

  pub unfound_ages : M.honest z → Ages (M.now a) (M.now z)
  unfound_ages h = untouched_unfound (Lines.Ended (Ends.Device failed.place)) (M.now a) (M.now b) (M.now z) (x.worn (x.says.trust.honest h)) (x.says.exit h)

  told : failed.place ≡ (M.report z).fault_place
  told = x.cause.names ∙ sym x.cause.told ∙ sym x.says.spares.place

  pub unfound_last : IsTrue (is_of_fault status) → M.honest z → SaysFaultAt (M.report z).fault_place (M.now z) status
  unfound_last of h = ends_fault (M.report z).fault_place (M.now b) (M.now z) status (Ends.Device failed.place) told (x.ends h) of

  pub unfound_alone : M.honest z → SaysNoReply (M.now a) (M.now z) status
  unfound_alone h = fault_alone (Ends.Device failed.place) (M.now a) (M.now b) (M.now z) status (x.worn (x.says.trust.honest h)).said (x.ends h)

  -- over a sound disk
  pub unfound_leaves : (request : Request) (input rest : List ℕ) (was : Was) → M.honest z → (M.honest a → AreShort (M.now a).windows) → ((m : D) → M.honest m → IsTimed M m)
      → IsSoundDisk was.layout was.windows was.changes was.forced (M.now a) → IsHeld M a (λ c. IsSoundAsSaid was.layout was.windows was.changes was.forced (M.now a).image c.image) → LeavesRun M request input rest was a z status
  unfound_leaves request input rest was honest short timed sound held =
      let back = x.says.trust.honest honest in
      let first = x.trust.honest back in
      let rose = x.cause.disk.failed in
      let disk = x.says.spares.disk in
      let output = x.cause.output in
      ended_run M request input rest was.layout was.windows was.changes was.forced a b z (Ends.Device failed.place) tt status sound (short first) (timed a first) (timed z honest) held (x.time back) (x.worn back) x.says honest (x.ends honest)
      (record { rose = omega (arith, rose, disk); told = told }) (omega (arith, output))
