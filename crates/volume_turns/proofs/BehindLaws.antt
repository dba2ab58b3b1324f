-- A run behind its mount: over the volume that was mounted, or by the line of the fault that refused it.
use Rattle.std.proofs.Common.{◌≡◌, inl, inr, ℕ, Bool, ◌≤◌, false, List, [], Option, None, ◌∙◌, subst, arith}
use Rattle.std.specs.Prelude.{IsSome, IsTrue, Ok, Err, slice_get}
use Rattle.volume_layout.specs.declared.layout.Layout.{Layout}
use Rattle.sector_disk.specs.declared.machine.Machine.{Ghosts}
use Rattle.sector_disk.specs.Calls.{HealsDisk, IsHeld, IsTimed, LeavesDisk, Since}
use Rattle.sector_disk.specs.Image.{AreShort}
use Rattle.sector_disk.specs.Machine.{LeavesOnly, Trusts, Utters}
use Rattle.sector_disk.proofs.Holding.{trusts_on}
use Rattle.fsd_log.specs.Scan.{Placed}
use Rattle.fsd_files.specs.Volume.{Volume}
use Rattle.fsd_runs.specs.Sessions.{session_over}
use Rattle.fsd_sound.specs.Lost.{AreCopiesOn, LostIn}
use Rattle.fsd_sound.specs.Mounted.{Mounted}
use Rattle.fsd_sound.specs.Mounting.{device_of_mount}
use Rattle.fsd_sound.specs.Writes.{MountKeeps}
use Rattle.fsd_sound.specs.declared.fault.MountFault.{MountFault}
use Rattle.fsd_texts.specs.declared.command.Command.{Command}
use Rattle.fsd_texts.specs.declared.fault.Fault.{Fault}
use Rattle.fsd_texts.specs.Text.{fault_text}
use Rattle.fsd_runs.specs.declared.request.Request.{Request}
use Rattle.fsd_runs.specs.Errands.{errand_of}
use Rattle.fsd_runs.specs.Leaves.{IsSoundAsSaid, LeavesRun, Was}
use Rattle.fsd_runs.specs.Runs.{turns_of}
use Rattle.volume_contract.specs.Mount.{CountsMount, IsFound, IsRefused, IsSoundAt, KeepsAll, MountsSound, UnsoundFor}
use Rattle.volume_contract.specs.State.{IsNew, Known, Stands, State, forced_of, none_open, volume_of}
use Rattle.volume_turns.specs.Answering.{EndsOne, RunsOne, SaysNoReply}
use Rattle.volume_turns.specs.Causes.{FailsInput, Front, SaysFaultAt, SaysOfCall, SaysOfInput, TellsImage, is_of_fault}
use Rattle.volume_turns.specs.Healing.{EndsHealed, HealsOver, IfScrub, is_of_answer}
use Rattle.volume_turns.specs.Line.{EndsWith, IsStatusFor, is_unsaid}
use Rattle.volume_turns.specs.Once.{end_by_mount}
use Rattle.volume_turns.specs.Status.{CountsRunBy, CountsTaking}
use Rattle.volume_turns.specs.Steps.{IsOfVolume}
use Rattle.volume_turns.specs.Turns.{OnDisk}
use Rattle.volume_turns.specs.Whole.{GoesUnsaid, RunsOut}
use Rattle.volume_turns.proofs.AnsweringLaws.{fault_alone, run_mounted, run_refused}
use Rattle.volume_turns.proofs.CauseLaws.{MaySpend, input_since, tells_mounted, tells_refused}
use Rattle.volume_turns.proofs.HealLaws.{heals_mounted}
use Rattle.volume_turns.proofs.LastLaws.{mount_fault}
use Rattle.volume_turns.proofs.StatusLaws.{counts_after, fails_behind, mount_counts, mount_of_volume, script_counts, script_counts_after}
use Rattle.volume_turns.specs.Syncs.{SyncsUpTo}
use Rattle.volume_turns.proofs.SyncLaws.{syncs_behind, syncs_on, writes_up_to}
use Rattle.volume_turns.proofs.WholeLaws.{joined_run, refused_run}

-- ---- over the volume

-- The mount gave a volume, and a run over it has ended.
pub record RunsOver {S D : Type 0} (state : S → State) (M : Ghosts D) (sectors : ℕ) (v : S) (a m b : D) : Type 0 where
  pub disk : HealsDisk M None a m
  pub fresh : IsNew (state v)
  pub found : M.honest m → IsFound sectors (state v) (M.now a) (M.now m)
  pub rest : M.honest m → MountKeeps sectors (M.now a) (M.now m)
  pub trust : Trusts (M.tells m) (M.tells b) (M.honest m) (M.honest b)

module _ {S D : Type 0} {state : S → State} {M : Ghosts D} {sectors : ℕ} {v : S} {a m b : D} (x : RunsOver state M sectors v a m b) where
  pub over_trust : Trusts (M.tells a) (M.tells b) (M.honest a) (M.honest b)
  over_trust = trusts_on x.disk.trust x.trust

  pub over_syncs : {most : ℕ} → M.tells b → SyncsUpTo most (M.ledger m) (M.ledger b) → SyncsUpTo most (M.ledger a) (M.ledger b)
  over_syncs {most} t writes = syncs_behind most (M.ledger a) (M.ledger m) (M.ledger b) (x.disk.ledger (x.trust.tells t)) writes

  pub over_attaches : M.tells b → (M.ledger b).attaches ≡ (M.ledger m).attaches → (M.ledger b).attaches ≡ (M.ledger a).attaches
  over_attaches t same = same ∙ (x.disk.ledger (x.trust.tells t)).attaches

  pub over_said : M.honest b → (M.now m).said ≡ (M.now a).said
  over_said h = x.disk.quiet (x.trust.honest h)

  pub over_input : M.tells b → (M.ledger m).input ≡ (M.ledger a).input
  over_input t = (x.disk.ledger (x.trust.tells t)).input

  pub over_counts : {longer : Bool} {status : ℕ} → CountsRunBy longer (M.report m) (M.report b) status → CountsRunBy longer (M.report a) (M.report b) status
  over_counts {longer} {status} counts = counts_after (M.report a) (M.report m) (M.report b) status x.disk.uses x.disk.faults counts

  pub over_taking : {status : ℕ} → CountsTaking (M.report m) (M.report b) status → CountsTaking (M.report a) (M.report b) status
  over_taking {status} counts = script_counts_after (M.report a) (M.report m) (M.report b) status x.disk.uses x.disk.faults counts

  pub over_image : (kind : Front) (AreCopies : Layout → ℕ → ℕ → Type 0) (made : Option ℕ) (status : ℕ) → M.honest b → (status ≡ 3 → SaysOfCall kind AreCopies (state v).layout (M.now m).said (M.now b)) → (status ≡ 9 → MaySpend made) → TellsImage kind AreCopies made sectors (M.now a) (M.now b) status
  over_image kind AreCopies made status h says may = tells_mounted kind AreCopies made sectors (state v) (M.now a) (M.now m) (M.now b) status (M.now m).said (over_said h) (x.found (x.trust.honest h)) says may

  pub over_one : (command : Command) (status : ℕ) → M.honest b → EndsOne command (state v) (M.now m) (M.now b) status → RunsOne command sectors (M.now a) (M.now b) status
  over_one command status h ends =
      let back = x.trust.honest h in
      run_mounted command sectors (state v) (M.now a) (M.now m) (M.now b) status (x.found back) (over_said h) (x.rest back) ends

  -- the volume stands where the disk was sound
  sound_stood : (has : S → Mounted → List Placed → Type 0) (was : Was) → MountsSound state has was.layout was.windows was.changes was.forced (M.left_since m) (M.moment a) (λ P. LeavesOnly M.moment M.left_since a m P) (M.now a) (M.now m) (Ok v) → (k : Known) × Stands state has v k (M.now m)
  sound_stood has was (l, said, inl before) = absurd before.why
  sound_stood has was (l, said, inr settled) = (settled.known, settled.ends)

  pub over_heals : (has : S → Mounted → List Placed → Type 0) (command : Command) (status : ℕ) → M.honest b → (M.honest b → Since M m b) → ((y : D) → M.honest y → IsTimed M y)
      → ((was : Was) → IsSoundAt sectors was.layout was.windows was.changes was.forced (M.now a) → MountsSound state has was.layout was.windows was.changes was.forced (M.left_since m) (M.moment a) (λ P. LeavesOnly M.moment M.left_since a m P) (M.now a) (M.now m) (Ok v))
      → (M.tells m → CountsMount (state v) (M.ledger a) (M.ledger m)) → EndsHealed M state has command v m b status → IsTrue (is_of_answer status) → IfScrub command (HealsOver M sectors a b)
  over_heals has command status h since timed sound counts ends of =
      let back = x.trust.honest h in
      let here = since h (M.moment m) (M.now m) (omega arith) (timed m back).here in
      heals_mounted M state has sectors v a m b command status (x.found back) (over_said h) ((timed b h).history.sooner (M.moment a) (M.moment m) (M.now m) (x.disk.later back) here)
      (λ was. sound_stood has was.0 (sound was.0 was.1)) (λ t. counts (x.trust.tells t)) ends of

  -- where it takes the input
  pub over_fails : M.tells b → FailsInput (M.ledger m).input (M.report m) (M.report b) → FailsInput (M.ledger a).input (M.report a) (M.report b)
  over_fails t fails = fails_behind (M.report a) (M.report m) (M.report b) (M.ledger a) (M.ledger m) x.disk.uses (x.disk.ledger (x.trust.tells t)) fails

  pub over_says_input : M.tells b → SaysOfInput (M.ledger m).input (M.report m) (M.report b) (M.now b) → SaysOfInput (M.ledger a).input (M.report a) (M.report b) (M.now b)
  over_says_input t says = input_since (M.report a) (M.report m) (M.report b) (M.ledger a).input (M.ledger m).input (M.now b) x.disk.uses.input (over_input t) says

  -- over a sound disk
  pub over_leaves : (has : S → Mounted → List Placed → Type 0) (request : Request) (input rest : List ℕ) (was : Was) (status : ℕ) → M.honest b → (M.honest b → Since M m b)
      → ((y : D) (t : ℕ) → M.honest y → t ≤ M.moment y → M.left_since y t (M.now y)) → ((y : D) → M.honest y → IsTimed M y) → IsHeld M a (λ c. IsSoundAsSaid was.layout was.windows was.changes was.forced (M.now a).image c.image)
      → MountsSound state has was.layout was.windows was.changes was.forced (M.left_since m) (M.moment a) (λ P. LeavesOnly M.moment M.left_since a m P) (M.now a) (M.now m) (Ok v)
      → ((k : Known) → (volume_of k).unforced ≡ 0 → k.opened ≡ none_open → Stands state has v k (M.now m) → OnDisk M k (forced_of k) m → RunsOut M request input rest (M.report m) k m b status)
      → LeavesRun M request input rest was a b status
  over_leaves has request input rest was status honest since counts_now timed held sound runs =
      let back = x.trust.honest honest in
      let first = x.disk.trust.honest back in (
        sound.0,
        sound.1,
        joined_run state has M request input rest sound.0 was.windows was.changes was.forced a m b v (over_said honest) x.disk.uses x.disk.faults (timed a first) (timed m back) (timed b honest) (x.disk.since back) (since honest) (λ c left. held c left sound.0 sound.1) (counts_now b (M.moment m) honest) status sound.2 runs,
      )

-- ---- by a line

-- The mount was refused, and the line of its fault has ended the run.
pub record RefusedBy {D : Type 0} (M : Ghosts D) (sectors : ℕ) (fault : MountFault) (why : Fault) (a m b : D) (status : ℕ) : Type 0 where
  pub disk : HealsDisk M (device_of_mount fault) a m
  pub refused : M.honest m → IsRefused sectors fault (M.now a)
  pub kept : M.honest m → KeepsAll fault (M.now a) (M.now m)
  pub rest : M.honest m → MountKeeps sectors (M.now a) (M.now m)
  pub lost : M.honest m → LostIn (AreCopiesOn sectors (M.now a)) (M.now m).image fault
  pub unsound : M.honest m → UnsoundFor sectors (M.now a) (M.now m) fault
  pub is : why ≡ end_by_mount fault
  pub says : LeavesDisk M false (is_unsaid status) (Utters (fault_text why)) m b
  pub ends : M.honest b → EndsWith why (M.now m) (M.now b) status
  pub for : IsStatusFor why status

module _ {D : Type 0} {M : Ghosts D} {sectors : ℕ} {fault : MountFault} {why : Fault} {a m b : D} {status : ℕ} (x : RefusedBy M sectors fault why a m b status) where
  pub refused_trust : Trusts (M.tells a) (M.tells b) (M.honest a) (M.honest b)
  refused_trust = trusts_on x.disk.trust x.says.trust

  pub refused_syncs : {most : ℕ} → M.tells b → M.ledger b ≡ M.ledger m → SyncsUpTo most (M.ledger a) (M.ledger b)
  refused_syncs {most} t same = syncs_on most (M.ledger a) (M.ledger m) (M.ledger b) same (writes_up_to most (M.ledger a) (M.ledger m) (x.disk.ledger (x.says.trust.tells t)))

  pub refused_of : IsOfVolume why
  refused_of = mount_of_volume fault why x.is

  pub refused_counts : {longer : Bool} → CountsRunBy longer (M.report a) (M.report b) status
  refused_counts {longer} = mount_counts {longer = longer} (M.report a) (M.report m) (M.report b) status x.says.spares fault x.disk.uses x.disk.faults (subst (λ (w : Fault). IsStatusFor w status) x.is x.for)

  pub refused_taking : CountsTaking (M.report a) (M.report b) status
  refused_taking = script_counts (M.report a) (M.report b) status refused_counts

  pub refused_image : (kind : Front) (AreCopies : Layout → ℕ → ℕ → Type 0) (made : Option ℕ) → M.honest b → TellsImage kind AreCopies made sectors (M.now a) (M.now b) status
  refused_image kind AreCopies made h =
      let back = x.says.trust.honest h in
      tells_refused kind AreCopies made sectors fault why (M.now a) (M.now m) (M.now b) status x.is (x.refused back) (x.lost back) (x.unsound back) (x.kept back) (x.rest back) (x.disk.quiet back) (x.says.exit h) (x.ends h) x.for

  pub refused_last : IsTrue (is_of_fault status) → M.honest b → SaysFaultAt (M.report b).fault_place (M.now b) status
  refused_last of h = mount_fault fault why (M.report a) (M.report m) (M.report b) (M.now m) (M.now b) status x.is x.disk.faults x.says.spares.place (x.ends h) of

  pub refused_alone : M.honest b → SaysNoReply (M.now a) (M.now b) status
  refused_alone h = fault_alone why (M.now a) (M.now m) (M.now b) status (x.disk.quiet (x.says.trust.honest h)) (x.ends h)

  pub refused_one : (command : Command) → M.honest b → RunsOne command sectors (M.now a) (M.now b) status
  refused_one command h =
      let back = x.says.trust.honest h in
      run_refused command sectors why (M.now a) (M.now m) (M.now b) status (x.disk.quiet back) (x.rest back) (x.says.exit h) (x.ends h)

  -- over a sound disk
  pub refused_leaves : {S : Type 0} (state : S → State) (has : S → Mounted → List Placed → Type 0) (request : Request) (input rest : List ℕ) (was : Was) → M.honest b → (M.honest m → AreShort (M.now m).windows)
      → ((y : D) (t : ℕ) → M.honest y → t ≤ M.moment y → M.left_since y t (M.now y)) → ((y : D) → M.honest y → IsTimed M y) → IsSoundAt sectors was.layout was.windows was.changes was.forced (M.now a) → IsHeld M a (λ c. IsSoundAsSaid was.layout was.windows was.changes was.forced (M.now a).image c.image)
      → MountsSound state has was.layout was.windows was.changes was.forced (M.left_since m) (M.moment a) (λ P. LeavesOnly M.moment M.left_since a m P) (M.now a) (M.now m) (Err fault) → ((v : Volume) → IsSome (slice_get (turns_of (errand_of request input v) [] (session_over v)) 0)) → GoesUnsaid request
      → LeavesRun M request input rest was a b status
  refused_leaves state has request input rest was honest short counts_now timed at held sound some unsaid =
      let back = x.says.trust.honest honest in
      let first = x.disk.trust.honest back in
      let says = subst (λ (w : Fault). LeavesDisk M false (is_unsaid status) (Utters (fault_text w)) m b) x.is x.says in
      let ended = subst (λ (w : Fault). EndsWith w (M.now m) (M.now b) status) x.is (x.ends honest) in (
        sound.0,
        sound.1,
        refused_run state has M request input rest sound.0 was.windows was.changes was.forced a m b at.ends fault (x.disk.quiet back) x.disk.uses x.disk.faults status says honest (short back) ended
            (timed a first) (timed m back) (timed b honest) (x.disk.since back) (λ c left. held c left sound.0 sound.1) (counts_now b (M.moment m) honest (x.says.any_moment honest).later) some unsaid sound.2,
      )
