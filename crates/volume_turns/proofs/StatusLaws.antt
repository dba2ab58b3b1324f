-- The status of a run, over any machine.
use Rattle.std.proofs.Common.{◌≡◌, inl, inr, ℕ, ◌<◌, ◌≤◌, Bool, false, List, [], ◌∷◌, length, Option, None, refl, sym, ◌∙◌, subst, arith}
use Rattle.std.specs.Prelude.{Result, Ok, Err, IfOk, IsTrue}
use Rattle.std.proofs.lemmas.Bool.{eq-eqb}
use Rattle.sector_disk.specs.Calls.{Counts, DiskFaults, SparesDisk}
use Rattle.sector_disk.specs.Machine.{Ledger, OnlyWrites, Report, Rose, UsesDisk}
use Rattle.fsd_bytes.specs.declared.key.Key.{Key}
use Rattle.fsd_bytes.specs.declared.refusal.Refusal.{Refusal}
use Rattle.fsd_bytes.specs.declared.refusal.Refusal.TheVariants as Why
use Rattle.volume_contract.specs.Order.{IsDeviceRefusal, IsLookUp, IsLoss}
use Rattle.fsd_sound.specs.declared.fault.MountFault.{MountFault}
use Rattle.fsd_sound.specs.declared.fault.MountFault.TheVariants as Refused
use Rattle.fsd_sound.specs.Mounting.{device_of_mount}
use Rattle.fsd_texts.specs.declared.command.Command.{Command}
use Rattle.fsd_texts.specs.declared.command.Command.TheVariants.{Get, Put}
use Rattle.fsd_texts.specs.declared.fault.Fault.{Fault}
use Rattle.fsd_texts.specs.declared.fault.Fault.TheVariants as Ends
use Rattle.fsd_texts.specs.Script.{max_input}
use Rattle.fsd_runs.specs.Errands.{fault_status}
use Rattle.fsd_runs.specs.Commands.{reply_status}
use Rattle.fsd_files.specs.declared.reply.Reply.{Reply}
use Rattle.volume_turns.specs.declared.script.Stop.{Stop}
use Rattle.volume_turns.specs.declared.turns.Halt.{Halt}
use Rattle.volume_turns.specs.declared.turns.Halt.TheVariants.{Fault as Stopped, Output}
use Rattle.volume_turns.specs.Causes.{FailsInput}
use Rattle.volume_turns.specs.Line.{IsStatusAs, IsStatusFor, is_unsaid}
use Rattle.volume_turns.specs.Once.{end_by_mount}
use Rattle.fsd_runs.proofs.StatusLaws.{of_reply, one_has}
use Rattle.volume_turns.specs.Script.{Heard, SparesWanting}
use Rattle.volume_turns.specs.Status.{CountsRun, CountsRunBy, CountsTaking, IsMadeStatus, IsOneStatus, IsPutStatus, IsScriptStatus, IsStatusBroken, is_unfailed, is_quiet}
use Rattle.volume_turns.specs.Commands.{IsStatusFrom}
use Rattle.volume_turns.specs.Steps.{IsOfCall, IsOfVolume, device_told, ended_by, read_ended_by}
use Rattle.volume_turns.specs.Turns.{IsWant, FaultTold, FaultToldBy}
use Rattle.volume_turns.proofs.LongerLaws.{keeps_before, keeps_behind, keeps_same}
use Rattle.volume_turns.proofs.QuietLaws.{unfailed_not, unfailed_said, quiet_wants, quiet_unfailed, quiet_line, quiet_not}

-- ---- replies

-- a refusal of a read that is said
read_status : (key : Key) (why : Refusal) → IfOk (read_ended_by key why) (λ a. IsStatusFrom (Get key) (reply_status a))
read_status key (Why.Damaged s) = refl
read_status key (Why.Device s) = tt
read_status key (Why.Down s) = tt
read_status key (Why.Lost x y) = tt
read_status key (Why.Unsound s) = tt
read_status key Why.WornOut = tt
read_status key Why.Memory = tt
read_status key why = refl

pub refused_read : (key : Key) (why : Refusal) (r : Result Reply Fault) → r ≡ read_ended_by key why → IfOk r (λ a. IsStatusFrom (Get key) (reply_status a))
refused_read key why r is = subst (λ (x : Result Reply Fault). IfOk x (λ a. IsStatusFrom (Get key) (reply_status a))) (sym is) (read_status key why)

-- what a look-up or a force refuses ends the run
pub look_up_ends : (P : Reply → Type 0) (why : Refusal) (r : Result Reply Fault) → r ≡ ended_by why → IsLookUp why → IfOk r P
look_up_ends P why r is refuses = subst (λ (x : Result Reply Fault). IfOk x P) (sym is) (by why refuses)
  where
    by : (w : Refusal) → IsLookUp w → IfOk (ended_by w) P
    by (Why.Device s) refuses = tt
    by (Why.Lost x y) refuses = tt
    by (Why.Unsound s) refuses = tt
    by Why.Memory refuses = tt
    by w refuses = absurd refuses

pub loss_looks : (why : Refusal) → IsLoss why → IsLookUp why
loss_looks (Why.Device s) is = tt
loss_looks (Why.Lost x y) is = tt
loss_looks why is = absurd is

pub device_looks : (why : Refusal) → IsDeviceRefusal why → IsLookUp why
device_looks (Why.Device s) is = tt
device_looks why is = absurd is

pub status_at : (P : ℕ → Type 0) (n : ℕ) (r : Result ℕ Halt) → IfOk r (λ status. status ≡ n) → P n → IfOk r P
status_at P n (Ok status) is at = subst P (sym is) at
status_at P n (Err end) is at = tt

-- ---- faults, and last lines

pub fault_ends : (why : Fault) (status : ℕ) → IsOfVolume why → IsStatusFor why status → IsStatusBroken status
fault_ends why status of (inl is) = inl (why, of, is)
fault_ends why status of (inr six) = inr six

pub call_of_volume : (why : Fault) → IsOfCall why → IsOfVolume why
call_of_volume Ends.NotVolume of = tt
call_of_volume Ends.NoAnchor of = tt
call_of_volume why of = of

pub fault_is_one : (c : Command) (why : Fault) (status : ℕ) → IsOfVolume why → IsStatusFor why status → IsOneStatus c status
fault_is_one c why status of is = inr (fault_ends why status of is)

-- a put of the input
pub one_is_put : (name bytes : List ℕ) (keep : Option ℕ) (status : ℕ) → IsOneStatus (Put name bytes keep) status → IsPutStatus status
one_is_put name bytes keep status (inl from) = inl (one_has (λ n. n ≤ 1) (0 ∷ 1 ∷ []) (omega arith, (omega arith, tt)) status from)
one_is_put name bytes keep status (inr broken) = inr (inr broken)

pub fault_is_put : (why : Fault) (status : ℕ) → IsOfVolume why → IsStatusFor why status → IsPutStatus status
fault_is_put why status of is = inr (inr (fault_ends why status of is))

pub fault_is_script : (why : Fault) (status : ℕ) → IsOfVolume why → IsStatusFor why status → IsScriptStatus status
fault_is_script why status of is = inr (inr (inr (fault_ends why status of is)))

pub fault_is_made : (why : Fault) (status : ℕ) → IsOfVolume why → IsStatusFor why status → IsMadeStatus status
fault_is_made why status of is = inr (fault_ends why status of is)

-- a line, or the output failed
line_or : (P : ℕ → Type 0) (gives status : ℕ) → P gives → P 6 → IsStatusAs gives status → P status
line_or P gives status here broken (inl is) = subst P (sym is) here
line_or P gives status here broken (inr six) = subst P (sym six) broken

pub long_is_put : (status : ℕ) → IsStatusAs 5 status → IsPutStatus status
long_is_put status is = line_or IsPutStatus 5 status (inr (inl refl)) (inr (inr (inr refl))) is

pub all_is_made : (status : ℕ) → IsStatusAs 0 status → IsMadeStatus status
all_is_made status is = line_or IsMadeStatus 0 status (inl refl) (inr (inr refl)) is

pub worn_is_made : (status : ℕ) → IsStatusAs 9 status → IsMadeStatus status
worn_is_made status is = line_or IsMadeStatus 9 status (inr (inl (Ends.WornOut, tt, refl))) (inr (inr refl)) is

pub bad_is_script : (status : ℕ) → IsStatusAs 2 status → IsScriptStatus status
bad_is_script status is = line_or IsScriptStatus 2 status (inr (inl refl)) (inr (inr (inr (inr refl)))) is

pub input_is_script : (status : ℕ) → IsStatusAs 5 status → IsScriptStatus status
input_is_script status is = line_or IsScriptStatus 5 status (inr (inr (inl refl))) (inr (inr (inr (inr refl)))) is

pub worn_is_script : (status : ℕ) → IsStatusAs 9 status → IsScriptStatus status
worn_is_script status is = line_or IsScriptStatus 9 status (inr (inr (inr (inl (Ends.WornOut, tt, refl))))) (inr (inr (inr (inr refl)))) is

-- a reply has no other status
pub from_not : (n : ℕ) (command : Command) (status : ℕ) → 1 < n → (n ≡ 8 → ⊥) → IsStatusFrom command status → status ≡ n → ⊥
from_not n command status more other from at = elim (of_reply command status from) [ inl low ↦ omega (arith, more, low, at) | inr eight ↦ other (sym at ∙ eight) ]

-- ---- what is counted

pub not_as : (n gives status : ℕ) → (gives ≡ n → ⊥) → (6 ≡ n → ⊥) → IsStatusAs gives status → status ≡ n → ⊥
not_as n gives status a b (inl is) at = a (sym is ∙ at)
not_as n gives status a b (inr six) at = b (sym six ∙ at)

fault_above : (why : Fault) → 2 ≤ fault_status why
fault_above Ends.NotVolume = omega arith
fault_above why = omega arith

pub fault_some : (why : Fault) → fault_status why ≡ 0 → ⊥
fault_some why is = let above = fault_above why in omega (arith, is, above)

-- none of a fault is that of a reply which is no damage
pub as_not_low : (gives status : ℕ) → 2 ≤ gives → IsStatusAs gives status → status ≤ 1 → ⊥
as_not_low gives status above (inl is) low = omega (arith, is, low, above)
as_not_low gives status above (inr six) low = omega (arith, six, low)

pub fault_not_low : (why : Fault) (status : ℕ) → IsStatusFor why status → status ≤ 1 → ⊥
fault_not_low why status for low = as_not_low (fault_status why) status (fault_above why) for low

pub fault_not_zero : (why : Fault) (status : ℕ) → IsStatusFor why status → status ≡ 0 → ⊥
fault_not_zero why status for zero = not_as 0 (fault_status why) status (fault_some why) (λ e. omega (arith, e)) for zero

module _ (a m b : Report) (status : ℕ) (spares : SparesDisk false (is_unsaid status) m b) where
  disk_counted : (why : Fault) → DiskFaults (device_told why) a m → status ≡ 4 → IsStatusFor why status → Rose a.disk_faults b.disk_faults
  disk_counted (Ends.Device s) disk four (inl is) = subst (λ (n : ℕ). Rose a.disk_faults n) (sym spares.disk) disk.rose
  disk_counted why disk four (inl is) = absurd (omega (arith, is, four))
  disk_counted why disk four (inr six) = absurd (omega (arith, six, four))

  output_counted : a.output_faults ≤ m.output_faults → status ≡ 6 → Rose a.output_faults b.output_faults
  output_counted later six =
      let rose : Rose m.output_faults b.output_faults = subst (λ (c : Bool). Counts c m.output_faults b.output_faults) (eq-eqb status 6 six) spares.output in
      omega (arith, later, rose)

  output_unfailed : m.output_faults ≡ a.output_faults → IsTrue (is_unfailed status) → b.output_faults ≡ a.output_faults
  output_unfailed same unfailed = subst (λ (c : Bool). Counts c m.output_faults b.output_faults) (unfailed_said status unfailed) spares.output ∙ same

  -- a fault of the disk has another status
  disk_unfailed : (why : Fault) → DiskFaults (device_told why) a m → IsStatusFor why status → IsTrue (is_unfailed status) → b.disk_faults ≡ a.disk_faults
  disk_unfailed (Ends.Device s) disk (inl four) unfailed = absurd (unfailed_not 4 status refl unfailed four)
  disk_unfailed (Ends.Device s) disk (inr six) unfailed = absurd (unfailed_not 6 status refl unfailed six)
  disk_unfailed why disk for unfailed = spares.disk ∙ disk.0

  pub fault_counts : {longer : Bool} {T : Type 0} (why : Fault) → FaultToldBy longer {T = T} a m (Err (Stopped why)) → IsStatusFor why status → CountsRunBy longer a b status
  fault_counts {longer} why told for = record {
    sectors = keeps_before longer a.sectors m.sectors b.sectors told.sectors spares.sectors;
    disk = λ four. disk_counted why told.disk four for;
    input = spares.input ∙ told.input;
    output = output_counted told.later;
    quiet = λ unfailed. record { disk = disk_unfailed why told.disk for unfailed; input = spares.input ∙ told.input; output = output_unfailed told.output unfailed };
  }

  -- a last line behind what went well
  pub line_counts : {T : Type 0} (t : T) (gives : ℕ) → (gives ≡ 4 → ⊥) → FaultTold {T = T} a m (Ok t) → IsStatusAs gives status → CountsRun a b status
  line_counts t gives other told kind = record {
    sectors = spares.sectors ∙ told.sectors;
    disk = λ four. absurd (not_as 4 gives status other (λ e. omega (arith, e)) kind four);
    input = spares.input ∙ told.input;
    output = output_counted told.later;
    quiet = λ unfailed. record { disk = spares.disk ∙ told.disk.0; input = spares.input ∙ told.input; output = output_unfailed told.output unfailed };
  }

  -- the same of a script
  pub script_fault_counts : (why : Fault) → SparesWanting a m (Stopped why) → Heard {T = Stop} a m (Err (Stopped why)) → IsStatusFor why status → CountsTaking a b status
  script_fault_counts why wanting heard for = record {
    sectors = spares.sectors ∙ heard.sectors;
    disk = λ four. disk_counted why heard.disk four for;
    quiet = λ quiet. record {
      disk = disk_unfailed why heard.disk for (quiet_unfailed status quiet);
      input = spares.input ∙ wanting (quiet_wants why status for quiet);
      output = output_unfailed heard.output (quiet_unfailed status quiet);
    };
    unfailed = λ unfailed. record { disk = disk_unfailed why heard.disk for unfailed; output = output_unfailed heard.output unfailed };
    output = output_counted heard.later;
  }

  pub script_line_counts : (stop : Stop) (gives : ℕ) → (gives ≡ 4 → ⊥) → (IsTrue (is_quiet gives) → m.input_faults ≡ a.input_faults) → Heard {T = Stop} a m (Ok stop) → IsStatusAs gives status → CountsTaking a b status
  script_line_counts stop gives other same heard kind = record {
    sectors = spares.sectors ∙ heard.sectors;
    disk = λ four. absurd (not_as 4 gives status other (λ e. omega (arith, e)) kind four);
    quiet = λ quiet. record { disk = spares.disk ∙ heard.disk.0; input = spares.input ∙ same (quiet_line gives status kind quiet); output = output_unfailed heard.output (quiet_unfailed status quiet) };
    unfailed = λ unfailed. record { disk = spares.disk ∙ heard.disk.0; output = output_unfailed heard.output unfailed };
    output = output_counted heard.later;
  }

-- behind an input that was taken, or the line of why it was not
pub counts_taken : (takes : Bool) (a m b : Report) (status : ℕ) → takes ≡ false → SparesDisk takes false a m → CountsRun m b status → CountsTaking a b status
counts_taken takes a m b status none read counts = record {
  sectors = counts.sectors ∙ read.sectors;
  disk = λ four. subst (λ (n : ℕ). Rose n b.disk_faults) read.disk (counts.disk four);
  output = λ six. subst (λ (n : ℕ). Rose n b.output_faults) read.output (counts.output six);
  quiet = λ quiet. let same = counts.quiet (quiet_unfailed status quiet) in record {
    disk = same.disk ∙ read.disk;
    input = same.input ∙ subst (λ (c : Bool). Counts c a.input_faults m.input_faults) none read.input;
    output = same.output ∙ read.output;
  };
  unfailed = λ unfailed. let same = counts.quiet unfailed in record { disk = same.disk ∙ read.disk; output = same.output ∙ read.output };
}

pub counts_untaken : (takes : Bool) (a m b : Report) (status : ℕ) (why : Fault) → (fault_status why ≡ 4 → ⊥) → (IsWant why → takes ≡ false) → SparesDisk takes false a m → SparesDisk false (is_unsaid status) m b → IsStatusFor why status
    → CountsTaking a b status
counts_untaken takes a m b status why other none read spares for = record {
  sectors = spares.sectors ∙ read.sectors;
  disk = λ four. absurd (not_as 4 (fault_status why) status other (λ e. omega (arith, e)) for four);
  quiet = λ quiet. record {
    disk = spares.disk ∙ read.disk;
    input = spares.input ∙ subst (λ (c : Bool). Counts c a.input_faults m.input_faults) (none (quiet_wants why status for quiet)) read.input;
    output = said (unfailed_said status (quiet_unfailed status quiet));
  };
  unfailed = λ unfailed. record { disk = spares.disk ∙ read.disk; output = said (unfailed_said status unfailed) };
  output = λ six. subst (λ (n : ℕ). Rose n b.output_faults) read.output (subst (λ (c : Bool). Counts c m.output_faults b.output_faults) (eq-eqb status 6 six) spares.output);
}
  where
    said : is_unsaid status ≡ false → b.output_faults ≡ a.output_faults
    said is = subst (λ (c : Bool). Counts c m.output_faults b.output_faults) is spares.output ∙ read.output

-- where the output failed
pub unsaid_counts : {longer : Bool} {T : Type 0} (a b : Report) → FaultToldBy longer {T = T} a b (Err Output) → CountsRunBy longer a b 6
unsaid_counts a b told = record { sectors = told.sectors; disk = λ four. absurd (omega (arith, four)); input = told.input; output = λ six. told.output; quiet = λ unfailed. absurd (unfailed_not 6 6 refl unfailed refl) }

pub script_unsaid_counts : (a b : Report) → Heard {T = Stop} a b (Err Output) → CountsTaking a b 6
script_unsaid_counts a b heard = record { sectors = heard.sectors; disk = λ four. absurd (omega (arith, four)); output = λ six. heard.output; quiet = λ quiet. absurd (quiet_not 6 6 refl quiet refl); unfailed = λ unfailed. absurd (unfailed_not 6 6 refl unfailed refl) }

-- where a reply is said
pub counts_said : {longer : Bool} (command : Command) (a b : Report) (status : ℕ) → IsStatusFrom command status → FaultToldBy longer {T = ℕ} a b (Ok status) → CountsRunBy longer a b status
counts_said command a b status from told = record {
  sectors = told.sectors;
  disk = λ four. absurd (from_not 4 command status (omega arith) (λ e. omega (arith, e)) from four);
  input = told.input;
  output = λ six. absurd (from_not 6 command status (omega arith) (λ e. omega (arith, e)) from six);
  quiet = λ unfailed. record { disk = told.disk.0; input = told.input; output = told.output };
}

-- where all is done
pub script_done_counts : (stop : Stop) (a b : Report) → Heard {T = Stop} a b (Ok stop) → b.input_faults ≡ a.input_faults → CountsTaking a b 0
script_done_counts stop a b heard same = record { sectors = heard.sectors; disk = λ four. absurd (omega (arith, four)); output = λ six. absurd (omega (arith, six)); quiet = λ quiet. record { disk = heard.disk.0; input = same; output = heard.output }; unfailed = λ unfailed. record { disk = heard.disk.0; output = heard.output } }

-- ---- the input

pub volume_not_five : (why : Fault) → IsOfVolume why → fault_status why ≡ 5 → ⊥
volume_not_five Ends.Input of is = absurd of
volume_not_five Ends.InputTooLong of is = absurd of
volume_not_five why of is = omega (arith, is)

-- a fault of a volume, or of its mount, tells none of the input
pub fault_not_five : (why : Fault) (status : ℕ) → IsOfVolume why → IsStatusFor why status → status ≡ 5 → ⊥
fault_not_five why status of for five = not_as 5 (fault_status why) status (volume_not_five why of) (λ e. omega (arith, e)) for five

-- nor does one command
pub one_not_five : (command : Command) (status : ℕ) → IsOneStatus command status → status ≡ 5 → ⊥
one_not_five command status (inl from) five = from_not 5 command status (omega arith) (λ e. omega (arith, e)) from five
one_not_five command status (inr (inl (why, of, is))) five = volume_not_five why of (sym is ∙ five)
one_not_five command status (inr (inr six)) five = omega (arith, six, five)

pub fault_not_two : (why : Fault) → fault_status why ≡ 2 → ⊥
fault_not_two Ends.NotVolume is = omega (arith, is)
fault_not_two why is = omega (arith, is)

-- a fault is no bad line
pub fault_not_bad : (why : Fault) (status : ℕ) → IsStatusFor why status → status ≡ 2 → ⊥
fault_not_bad why status for two = not_as 2 (fault_status why) status (fault_not_two why) (λ e. omega (arith, e)) for two

-- a run that takes its input behind a mount
pub fails_behind : (a m b : Report) (old mid : Ledger) → UsesDisk a m → OnlyWrites old mid → FailsInput mid.input m b → FailsInput old.input a b
fails_behind a m b old mid uses writes (inl rose) = inl (subst (λ (n : ℕ). Rose n b.input_faults) uses.input rose)
fails_behind a m b old mid uses writes (inr long) = inr (subst (λ (x : List ℕ). max_input < length x) writes.input long)

-- ---- behind a mount, or by its fault

pub counts_after : {longer : Bool} (a m b : Report) (status : ℕ) → UsesDisk a m → DiskFaults None a m → CountsRunBy longer m b status → CountsRunBy longer a b status
counts_after {longer} a m b status uses none counts = record {
  sectors = keeps_behind longer a.sectors m.sectors b.sectors uses.sectors counts.sectors;
  disk = λ four. subst (λ (n : ℕ). Rose n b.disk_faults) none.0 (counts.disk four);
  input = counts.input ∙ uses.input;
  output = λ six. subst (λ (n : ℕ). Rose n b.output_faults) uses.output (counts.output six);
  quiet = λ unfailed. let same = counts.quiet unfailed in record { disk = same.disk ∙ none.0; input = same.input ∙ uses.input; output = same.output ∙ uses.output };
}

pub script_counts_after : (a m b : Report) (status : ℕ) → UsesDisk a m → DiskFaults None a m → CountsTaking m b status → CountsTaking a b status
script_counts_after a m b status uses none counts = record {
  sectors = counts.sectors ∙ uses.sectors;
  disk = λ four. subst (λ (n : ℕ). Rose n b.disk_faults) none.0 (counts.disk four);
  output = λ six. subst (λ (n : ℕ). Rose n b.output_faults) uses.output (counts.output six);
  quiet = λ quiet. let same = counts.quiet quiet in record { disk = same.disk ∙ none.0; input = same.input ∙ uses.input; output = same.output ∙ uses.output };
  unfailed = λ unfailed. let same = counts.unfailed unfailed in record { disk = same.disk ∙ none.0; output = same.output ∙ uses.output };
}

-- a run that takes no input has no fault of it
pub script_counts : (a b : Report) (status : ℕ) → CountsRun a b status → CountsTaking a b status
script_counts a b status counts = record {
  sectors = counts.sectors;
  disk = counts.disk;
  output = counts.output;
  quiet = λ quiet. counts.quiet (quiet_unfailed status quiet);
  unfailed = λ unfailed. let same = counts.quiet unfailed in record { disk = same.disk; output = same.output };
}

of_mount : (fault : MountFault) → IsOfVolume (end_by_mount fault)
of_mount Refused.NotVolume = tt
of_mount fault = tt

pub mount_of_volume : (fault : MountFault) (why : Fault) → why ≡ end_by_mount fault → IsOfVolume why
mount_of_volume fault why is = subst IsOfVolume (sym is) (of_mount fault)

pub same_device : (fault : MountFault) → device_of_mount fault ≡ device_told (end_by_mount fault)
same_device Refused.NotVolume = refl
same_device fault = refl

pub mount_counts : {longer : Bool} (a m b : Report) (status : ℕ) → SparesDisk false (is_unsaid status) m b → (fault : MountFault) → UsesDisk a m → DiskFaults (device_of_mount fault) a m → IsStatusFor (end_by_mount fault) status → CountsRunBy longer a b status
mount_counts {longer} a m b status spares fault uses faults for =
    let output = uses.output in
    fault_counts a m b status spares {longer = longer} {T = ℕ} (end_by_mount fault) (record {
      sectors = keeps_same longer a.sectors m.sectors uses.sectors;
      disk = subst (λ (o : Option ℕ). DiskFaults o a m) (same_device fault) faults;
      input = uses.input;
      later = omega (arith, output);
      output = output;
    }) for

-- ---- what is written
