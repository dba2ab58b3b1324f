-- Statuses among those of a command.
use Rattle.std.proofs.Common.{◌≡◌, ◌⊎◌, ◌∙◌, inl, inr, ℕ, Bool, true, false, ◌==◌, ◌||◌, ◌≤◌, List, [], ◌∷◌, ◌++◌, refl, ap, subst, arith}
use Rattle.std.proofs.lemmas.Bool.{eqb-true}
use Rattle.std.proofs.lemmas.List.Folds.{list_any-append}
use Rattle.std.specs.Prelude.{IsTrue}
use Rattle.std.specs.List.{AllByRecursion}
use Rattle.fsd_texts.specs.declared.command.Command.{Command}
use Rattle.fsd_texts.specs.declared.command.Command.TheVariants as Word
use Rattle.fsd_runs.specs.Commands.{is_status_of, reply_statuses}

-- what each has, one of them has
pub one_has : (P : ℕ → Type 0) (statuses : List ℕ) → AllByRecursion P statuses → (status : ℕ) → IsTrue (is_status_of statuses status) → P status
one_has P [] each status is = absurd (cc is)
one_has P (s ∷ statuses) each status is = by (s == status) refl is (λ later. one_has P statuses each.1 status later)
  where
    by : (b : Bool) → (s == status) ≡ b → (b || is_status_of statuses status) ≡ true → (IsTrue (is_status_of statuses status) → P status) → P status
    by true at is later = subst P (eqb-true s status at) each.0
    by false at is later = later is

pub one_in_front : (front behind : List ℕ) (status : ℕ) → IsTrue (is_status_of front status) → IsTrue (is_status_of (front ++ behind) status)
one_in_front front behind status is = list_any-append (λ s. s == status) front behind ∙ ap (λ (b : Bool). b || is_status_of behind status) is

pub one_behind : (front behind : List ℕ) (status : ℕ) → IsTrue (is_status_of behind status) → IsTrue (is_status_of (front ++ behind) status)
one_behind front behind status is = list_any-append (λ s. s == status) front behind ∙ by (is_status_of front status) is
  where
    by : (b : Bool) → is_status_of behind status ≡ true → (b || is_status_of behind status) ≡ true
    by true is = refl
    by false is = is

-- a reply's status is none of a fault: it is 0 or 1, or tells a damaged sector
abbrev pub IsOfReply : ℕ → Type 0
IsOfReply status = (status ≤ 1) ⊎ (status ≡ 8)

each_of_reply : (command : Command) → AllByRecursion IsOfReply (reply_statuses command)
each_of_reply (Word.Put name bytes keep) = (inl (omega arith), (inl (omega arith), tt))
each_of_reply (Word.Delete key) = (inl (omega arith), (inl (omega arith), tt))
each_of_reply (Word.Keep name keep) = (inl (omega arith), (inl (omega arith), tt))
each_of_reply (Word.Move key name) = (inl (omega arith), (inl (omega arith), tt))
each_of_reply (Word.Load key keep bytes) = (inl (omega arith), (inl (omega arith), tt))
each_of_reply (Word.Get key) = (inl (omega arith), (inl (omega arith), (inr refl, tt)))
each_of_reply Word.Scrub = (inl (omega arith), (inr refl, tt))
each_of_reply Word.Upgrade = (inl (omega arith), (inl (omega arith), tt))
each_of_reply (Word.Grow sectors) = (inl (omega arith), (inl (omega arith), tt))
each_of_reply command = (inl (omega arith), tt)

pub of_reply : (command : Command) (status : ℕ) → IsTrue (is_status_of (reply_statuses command) status) → IsOfReply status
of_reply command status is = one_has IsOfReply (reply_statuses command) (each_of_reply command) status is
