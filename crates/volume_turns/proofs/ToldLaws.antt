-- What a call of a volume tells of the image.
use Rattle.std.proofs.Common.{◌≡◌, inl, inr, ℕ, Bool, List, Option, refl, sym, ◌∙◌, subst}
use Rattle.std.specs.Prelude.{IfErr, Result, Ok, Err}
use Rattle.volume_layout.specs.declared.layout.Layout.{Layout}
use Rattle.fsd_bytes.specs.declared.key.Key.{Key}
use Rattle.fsd_bytes.specs.declared.refusal.Refusal.{Refusal}
use Rattle.fsd_bytes.specs.declared.refusal.Refusal.TheVariants as Why
use Rattle.sector_disk.specs.declared.sector.Sector.TheVariants.{Damaged}
use Rattle.sector_disk.specs.Image.{IsWorn, sector_at}
use Rattle.sector_disk.specs.Machine.{Moment}
use Rattle.sector_disk.proofs.Damage.{lost_as}
use Rattle.fsd_files.specs.Disk.{Image}
use Rattle.fsd_texts.specs.declared.command.Command.{Command}
use Rattle.fsd_texts.specs.declared.command.Command.TheVariants as Word
use Rattle.fsd_texts.specs.declared.fault.Fault.{Fault}
use Rattle.fsd_texts.specs.declared.fault.Fault.TheVariants as Ends
use Rattle.fsd_texts.specs.declared.script_command.ScriptCommand.{ScriptCommand}
use Rattle.fsd_texts.specs.declared.script_command.ScriptCommand.TheVariants.{Plain, OfClient}
use Rattle.fsd_runs.proofs.OtherLaws.{IsOtherIn, no_scrub}
use Rattle.volume_contract.specs.Causes.{HasCallCause}
use Rattle.volume_contract.specs.State.{State}
use Rattle.scrub.specs.Telling.{AreOfPage, StandTwice, TellsOn}
use Rattle.scrub.proofs.ToldLaws.{page_twice, told_lost, told_unsound}
use Rattle.fsd_files.specs.declared.reply.Reply.{Reply}
use Rattle.volume_turns.specs.declared.turns.Halt.{Halt}
use Rattle.volume_turns.specs.declared.turns.Halt.TheVariants.{Fault as Stopped, Output}
use Rattle.volume_turns.specs.Calls.{MayLoseIn}
use Rattle.volume_turns.specs.Once.{close_fault}
use Rattle.volume_turns.specs.Steps.{IsRefusedOn, IsToldOn, ended_by, read_ended_by}
use Rattle.volume_turns.specs.Commands.{MayLose}
use Rattle.volume_turns.specs.Turns.{IsEndOn, Unsaid}

-- ---- by its cause

-- so it is of a scrub's refusal
pub refused_told : (l : Layout) (i : Image) (why : Refusal) → TellsOn l i why → IsRefusedOn StandTwice l i why
refused_told l i (Why.Lost a b) told = told
refused_told l i (Why.Unsound s) told = told
refused_told l i why told = tt

module _ (old new : State) (resident : ℕ → Option (List ℕ)) (before now : Moment) (same : new.layout ≡ old.layout) where
  pub told_of : (why : Refusal) → HasCallCause old new resident before now why → IsRefusedOn AreOfPage old.layout now.image why
  told_of (Why.Lost a b) cause = told_lost old new resident before now same a b cause
  told_of (Why.Unsound s) cause = told_unsound old new resident before now same s cause
  told_of why cause = tt

  pub close_told : (why : Refusal) → HasCallCause old new resident before now why → IsToldOn AreOfPage old.layout now.image (close_fault why)
  close_told (Why.Lost a b) cause = told_lost old new resident before now same a b cause
  close_told (Why.Device s) cause = tt
  close_told why cause = tt

-- ---- as it is told

module _ (AreCopies : Layout → ℕ → ℕ → Type 0) (l : Layout) (i : Image) where
  pub told_so : (why : Refusal) (r : Result Reply Fault) → r ≡ ended_by why → IsRefusedOn AreCopies l i why → IfErr r (IsToldOn AreCopies l i)
  told_so why r by told = subst (λ (x : Result Reply Fault). IfErr x (IsToldOn AreCopies l i)) (sym by) told

  read_told : (key : Key) (why : Refusal) → IsRefusedOn AreCopies l i why → IfErr (read_ended_by key why) (IsToldOn AreCopies l i)
  read_told key (Why.Damaged s) told = tt
  read_told key why told = told

  pub read_told_so : (key : Key) (why : Refusal) (r : Result Reply Fault) → r ≡ read_ended_by key why → IsRefusedOn AreCopies l i why → IfErr r (IsToldOn AreCopies l i)
  read_told_so key why r by told = subst (λ (x : Result Reply Fault). IfErr x (IsToldOn AreCopies l i)) (sym by) (read_told key why told)

  -- of a reply that is not said nothing of the image is told
  unsaid_end : (old new : Moment) (why : Fault) → Unsaid old new (Stopped why) → IsToldOn AreCopies l i why
  unsaid_end old new Ends.Memory unsaid = tt
  unsaid_end old new (Ends.Device s) unsaid = tt
  unsaid_end old new why unsaid = absurd unsaid

  pub unsaid_told : (old new : Moment) {T : Type 0} (r : Result T Halt) → IfErr r (λ end. Unsaid old new end) → (why : Fault) → r ≡ Err (Stopped why) → IsToldOn AreCopies l i why
  unsaid_told old new {T = T} r unsaid why is = unsaid_end old new why (subst (λ (x : Result T Halt). IfErr x (λ end. Unsaid old new end)) is unsaid)

  -- so it is of an end
  pub unsaid_on : (Honest : Type 0) (old new : Moment) {T : Type 0} (r : Result T Halt) → IfErr r (λ end. Honest → Unsaid old new end) → IfErr r (λ end. Honest → IsEndOn AreCopies l i end)
  unsaid_on Honest old new (Ok x) unsaid = tt
  unsaid_on Honest old new (Err (Stopped why)) unsaid = λ honest. unsaid_end old new why (unsaid honest)
  unsaid_on Honest old new (Err Output) unsaid = λ honest. tt

-- it is so by the layout of another volume, which is the same
pub told_behind : (l m : Layout) → m ≡ l → (Honest : Type 0) (i : Image) {T : Type 0} (r : Result T Halt) → IfErr r (λ end. Honest → IsEndOn AreOfPage m i end) → IfErr r (λ end. Honest → IsEndOn AreOfPage l i end)
told_behind l m same Honest i r told = subst (λ (x : Layout). IfErr r (λ end. Honest → IsEndOn AreOfPage x i end)) same told

-- ---- by the command

told_as : (P Q : Layout → ℕ → ℕ → Type 0) (l : Layout) (i : Image) → ((a b : ℕ) → P l a b → Q l a b) → (why : Fault) → IsToldOn P l i why → IsToldOn Q l i why
told_as P Q l i say (Ends.Lost a b) lost = lost_as (P l) a b (Q l) i (say a b) lost
told_as P Q l i say (Ends.Unsound s) told = told
told_as P Q l i say why told = tt

-- any command may tell a page's two copies as lost
page_may : (command : Command) (l : Layout) (a b : ℕ) → AreOfPage l a b → MayLose command l a b
page_may Word.Scrub l a b is = page_twice l a b is
page_may command l a b is = is

-- and one that is no scrub no other two sectors
may_page : (command : Command) → (command ≡ Word.Scrub → ⊥) → (l : Layout) (a b : ℕ) → MayLose command l a b → AreOfPage l a b
may_page Word.Scrub other l a b is = absurd (other refl)
may_page command other l a b is = is

pub told_may : (command : Command) (l : Layout) (i : Image) (why : Fault) → IsToldOn AreOfPage l i why → IsToldOn (MayLose command) l i why
told_may command l i = told_as AreOfPage (MayLose command) l i (page_may command l)

pub end_of_page : (command : Command) → (command ≡ Word.Scrub → ⊥) → (l : Layout) (i : Image) (end : Halt) → IsEndOn (MayLose command) l i end → IsEndOn AreOfPage l i end
end_of_page command other l i (Stopped why) told = told_as (MayLose command) AreOfPage l i (may_page command other l) why told
end_of_page command other l i Output told = tt

-- so it is of a script's command
pub end_of_page_in : (command : ScriptCommand) → IsOtherIn command → (l : Layout) (i : Image) (end : Halt) → IsEndOn (MayLoseIn command) l i end → IsEndOn AreOfPage l i end
end_of_page_in (Plain command) other l i end told = end_of_page command (no_scrub command other) l i end told
end_of_page_in (OfClient c call) other l i end told = told

-- ---- since

module _ (AreCopies : Layout → ℕ → ℕ → Type 0) (l : Layout) (weak : ℕ → Bool) (i j : Image) (worn : IsWorn weak i j) where
  still_damaged : (s : ℕ) → sector_at i s ≡ Damaged → sector_at j s ≡ Damaged
  still_damaged s gone = elim (worn.each s) [ inl same ↦ same ∙ gone | inr hurt ↦ hurt.1 ]

  -- what is lost stays so
  pub told_since : (why : Fault) → IsToldOn AreCopies l i why → IsToldOn AreCopies l j why
  told_since (Ends.Lost a b) lost = record { copies = lost.copies; first = still_damaged a lost.first; second = still_damaged b lost.second }
  told_since (Ends.Unsound s) told = told
  told_since why told = tt
