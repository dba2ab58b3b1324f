-- The turns of one command, and the faults that may end a run.
use Rattle.std.proofs.Common.{◌≡◌, inr, ℕ, List, [], ◌∷◌, length, Option, Some, None, refl, sym, subst}
use Rattle.std.specs.Prelude.{IfErr, IsSome, Result, Ok, Err}
use Rattle.fsd_bytes.specs.declared.refusal.Refusal.{Refusal}
use Rattle.fsd_bytes.specs.declared.refusal.Refusal.TheVariants as Why
use Rattle.sector_disk.specs.Machine.{Report}
use Rattle.fsd_files.specs.Disk.{Image}
use Rattle.fsd_files.specs.Desk.{Session}
use Rattle.fsd_runs.specs.Sessions.{Meeting}
use Rattle.fsd_sound.specs.declared.fault.MountFault.{MountFault}
use Rattle.fsd_sound.specs.declared.fault.MountFault.TheVariants as Refused
use Rattle.fsd_texts.specs.declared.command.Command.{Command}
use Rattle.fsd_texts.specs.declared.fault.Fault.{Fault}
use Rattle.fsd_texts.specs.declared.fault.Fault.TheVariants as Ends
use Rattle.fsd_runs.specs.Errands.{Turn, errand_alone}
use Rattle.fsd_runs.specs.Leaves.{MayEnd, SaysFault, SaysNext}
use Rattle.fsd_runs.specs.Runs.{turns_of}
use Rattle.volume_contract.specs.Mount.{ExcusesOf}
use Rattle.volume_contract.specs.Order.{IsLoss}
use Rattle.volume_turns.specs.declared.turns.Halt.{Halt}
use Rattle.volume_turns.specs.declared.turns.Halt.TheVariants.{Fault as Stopped, Output}
use Rattle.volume_turns.specs.Once.{close_fault, end_by_mount}
use Rattle.volume_turns.specs.Script.{SparesWanting}
use Rattle.volume_turns.specs.Turns.{EndsAtOnce, IsWant, WantsNone}

-- ---- the turns of one command

pub alone_length : (c : Command) (mets : List Meeting) (s : Session) → length (turns_of (errand_alone c) mets s) ≡ 1
alone_length c [] s = refl
alone_length c (met ∷ []) s = refl
alone_length c (met ∷ other ∷ mets) s = refl

pub next_fault : (Forced : Type 0) (o : Option Turn) → IsSome o → (part : List ℕ) → SaysFault part → SaysNext Forced o part
next_fault Forced None some part fault = cc some
next_fault Forced (Some t) some part fault = inr fault

-- ---- faults

pub at_once_ends : (why : Fault) → EndsAtOnce why → MayEnd why
at_once_ends (Ends.Device s) once = tt
at_once_ends Ends.Memory once = tt
at_once_ends why once = absurd once

-- it is none of the input
pub none_of_input : (why : Fault) → EndsAtOnce why → why ≡ Ends.Input → ⊥
none_of_input why once is = subst EndsAtOnce is once

pub excused : (i : Image) (fault : MountFault) → ExcusesOf i fault → MayEnd (end_by_mount fault)
excused i (Refused.Device s) why = tt
excused i Refused.Memory why = tt
excused i Refused.WornOut why = tt
excused i fault why = absurd why

-- ---- wants

-- a line wants none, so that the output alone ends it
pub output_ends : {T : Type 0} (P : Halt → Type 0) → P Output → (r : Result T Halt) → IfErr r (λ end. end ≡ Output) → IfErr r P
output_ends P at (Ok x) is = tt
output_ends P at (Err end) is = subst P (sym is) at

-- what wants none is no end by memory, nor by the numbers of a mount
pub wants_not : {T : Type 0} (why : Fault) → IsWant why → (r : Result T Halt) → IfErr r WantsNone → r ≡ Err (Stopped why) → ⊥
wants_not why want (Ok x) none is = cc is
wants_not why want (Err end) none is = let same : end ≡ Stopped why = cc is in subst WantsNone same none want

-- nor does a force
pub close_wants : (why : Refusal) → IsLoss why → WantsNone (Stopped (close_fault why))
close_wants (Why.Device s) is = λ want. want
close_wants (Why.Lost a b) is = λ want. want
close_wants why is = absurd is

pub wanting_none : {T : Type 0} (a b : Report) (r : Result T Halt) → IfErr r WantsNone → IfErr r (SparesWanting a b)
wanting_none a b (Ok x) none = tt
wanting_none a b (Err (Stopped why)) none = λ want. absurd (none want)
wanting_none a b (Err Output) none = tt

pub wanting_end : (a b : Report) → b.input_faults ≡ a.input_faults → (end : Halt) → SparesWanting a b end
wanting_end a b same (Stopped why) = λ want. same
wanting_end a b same Output = tt

pub wanting_same : {T : Type 0} (a b : Report) → b.input_faults ≡ a.input_faults → (r : Result T Halt) → IfErr r (SparesWanting a b)
wanting_same a b same (Ok x) = tt
wanting_same a b same (Err end) = wanting_end a b same end
