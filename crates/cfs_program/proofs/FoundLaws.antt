-- What a run tells of the image that its attach found, and of its input.
use Rattle.std.proofs.Common.{◌≡◌, inl, inr, ℕ, ◌<◌, ◌^◌, ◌-◌, min, Option, List, length, refl, ◌∙◌, subst}
use Rattle.std.specs.Prelude.{IsFalse, IsTrue}
use Rattle.volume_layout.specs.declared.layout.Layout.{Layout}
use Rattle.sector_disk.specs.Image.{IsWorn, Windows, open_damage}
use Rattle.sector_disk.proofs.Wear.{worn_trans}
use Rattle.fsd_texts.specs.declared.command.Command.{Command}
use Rattle.fsd_texts.specs.declared.line.Line.{Line}
use Rattle.fsd_texts.specs.Text.{text}
use Rattle.volume_contract.specs.State.{Ages}
use Rattle.volume_turns.specs.Answering.{WritesOne}
use Rattle.cfs_program.proofs.FormatLaws.{untouched_by}
use Rattle.sector_disk.specs.Machine.{Finds, Wears, Moment, Report, Rose, Utters}
use Rattle.fsd_texts.specs.Script.{max_input}
use Rattle.volume_turns.specs.Causes.{FailsInput, Front, HasSpent, HasVolume, SaysCause, TellsImage, is_of_mounted}
use Rattle.volume_turns.specs.Healing.{is_of_answer}
use Rattle.volume_turns.specs.Line.{IsStatusAs}
use Rattle.cfs_program.specs.Opening.{AsFound, WritesFound, is_from_outside}

-- ---- behind the attach

-- What a run tells of the image that its attach found, by its status, what it says in front of its last line, what its
-- calls may tell as lost, and how many commands it makes up, if it does.
pub record TellsFound (kind : Front) (AreCopies : Layout → ℕ → ℕ → Type 0) (made : Option ℕ) (old new : Moment) (status : ℕ) : Type 0 where
  pub mounted : IsTrue (is_of_mounted status) → AsFound HasVolume old
  pub refused : status ≡ 3 → AsFound (λ sectors at. SaysCause kind AreCopies sectors at new) old
  pub spent : status ≡ 9 → AsFound (HasSpent made) old

pub tells_found : (kind : Front) (AreCopies : Layout → ℕ → ℕ → Type 0) (made : Option ℕ) (old at new : Moment) (sectors status : ℕ) → Finds old at → sectors ≡ min (length at.image) (2 ^ 32 - 1) → TellsImage kind AreCopies made sectors at new status → TellsFound kind AreCopies made old new status
tells_found kind AreCopies made old at new sectors status found size tells = record {
  mounted = λ any. record { at = at; found = found; sectors = sectors; size = size; holds = tells.mounted any };
  refused = λ three. record { at = at; found = found; sectors = sectors; size = size; holds = tells.refused three };
  spent = λ nine. record { at = at; found = found; sectors = sectors; size = size; holds = tells.spent nine };
}

pub fails_attached : (a b c : Report) (old mid : List ℕ) → b.input_faults ≡ a.input_faults → mid ≡ old → FailsInput mid b c → FailsInput old a c
fails_attached a b c old mid counted same (inl rose) = inl (subst (λ (n : ℕ). Rose n c.input_faults) counted rose)
fails_attached a b c old mid counted same (inr long) = inr (subst (λ (x : List ℕ). max_input < length x) same long)

pub writes_found : (command : Command) (old at new : Moment) (sectors : ℕ) → Finds old at → sectors ≡ min (length at.image) (2 ^ 32 - 1) → WritesOne command sectors at new → WritesFound command old new
writes_found command old at new sectors found size writes = inr (record { at = at; found = found; sectors = sectors; size = size; holds = writes })

-- ---- where no volume was mounted

-- the image was not found, and a line said that
pub untouched_unfound : (line : Line) (old mid new : Moment) → Wears old mid → Utters (text line) mid new → Ages old new
untouched_unfound line old mid new wears utters =
    let still = untouched_by line mid new utters in
    record {
      image = worn_trans (open_damage old.windows) old.image mid.image new.image wears.image (subst (λ (w : Windows). IsWorn (open_damage w) mid.image new.image) wears.windows still.image);
      windows = still.windows ∙ wears.windows;
    }

-- the status of this fault, which is none of a mounted volume
pub not_mounted : (gives result : ℕ) → IsStatusAs gives result → IsFalse (is_of_mounted gives) → IsTrue (is_of_mounted result) → ⊥
not_mounted gives result (inl is) other any = let at : IsTrue (is_of_mounted gives) = subst (λ (n : ℕ). IsTrue (is_of_mounted n)) is any in cc (at, other)
not_mounted gives result (inr six) other any = let at : IsTrue (is_of_mounted 6) = subst (λ (n : ℕ). IsTrue (is_of_mounted n)) six any in cc at

-- nor is it that of an answer
pub not_answered : (gives result : ℕ) → IsStatusAs gives result → IsFalse (is_of_answer gives) → IsTrue (is_of_answer result) → ⊥
not_answered gives result (inl is) other any = let at : IsTrue (is_of_answer gives) = subst (λ (n : ℕ). IsTrue (is_of_answer n)) is any in cc (at, other)
not_answered gives result (inr six) other any = let at : IsTrue (is_of_answer 6) = subst (λ (n : ℕ). IsTrue (is_of_answer n)) six any in cc at

-- a call of the outside failed, or memory was refused before anything was done
outside_not : (gives result : ℕ) → IsTrue (is_from_outside gives) → IsStatusAs gives result → IsFalse (is_from_outside result) → ⊥
outside_not gives result out (inl is) inside = let at : IsFalse (is_from_outside gives) = subst (λ (n : ℕ). IsFalse (is_from_outside n)) is inside in cc (out, at)
outside_not gives result out (inr six) inside = let at : IsFalse (is_from_outside 6) = subst (λ (n : ℕ). IsFalse (is_from_outside n)) six inside in cc at

pub failed_not : (result : ℕ) → IsStatusAs 4 result → IsFalse (is_from_outside result) → ⊥
failed_not result is = outside_not 4 result refl is

pub inside_not : (result : ℕ) → IsStatusAs 7 result → IsFalse (is_from_outside result) → ⊥
inside_not result is = outside_not 7 result refl is
