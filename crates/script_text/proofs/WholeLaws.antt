-- A whole script, by the commands given so far and what is to come.
use Rattle.std.proofs.Common.{◌≡◌, Bool, true, false, cond, ℕ, zero, suc, ◌+◌, List, [], ◌∷◌, ◌++◌, length, take, None, Result, Ok, Err, refl, sym, ap, ◌∙◌, arith, append_assoc, drop, append-nil}
use Rattle.std.specs.Prelude.{nat_lt, ◌&&◌}
use Rattle.std.proofs.lemmas.Bool.{lt-ltb}
use Rattle.fsd_texts.specs.declared.bad_line.Cause.{Cause}
use Rattle.fsd_texts.specs.declared.script_command.ScriptCommand.{ScriptCommand}
use Rattle.fsd_texts.specs.declared.end.End.{End}
use Rattle.fsd_texts.specs.declared.end.End.TheVariants.{Done, Bad, TooLong}
use Rattle.fsd_texts.specs.Script.{Script, command_at, commands_from, ends_early, needs_more, script_from, then_more}
use Rattle.script_text.specs.Reading.{WantsMore, Reading, room_of, script_left}
use Rattle.script_text.proofs.LeftLaws.{after, cut, script}
use Rattle.std.proofs.lemmas.List.{take-append-drop}
use Rattle.script_text.proofs.MoreLaws.{command_more, early, with_more}
use Rattle.script_text.proofs.ReaderLaws.{script_open}

-- ---- one command more

pub given_more : (whole left now : Script) (given : List ScriptCommand) (command : ScriptCommand) → whole ≡ script (given ++ left.0) left.1 → left ≡ after command now → whole ≡ script ((given ++ command ∷ []) ++ now.0) now.1
given_more whole left now given command is step =
    is ∙ ap (λ (s : Script). script (given ++ s.0) s.1) step ∙ ap (λ (cs : List ScriptCommand). script cs now.1) (sym (append_assoc given (command ∷ []) now.0))

-- ---- all is read where it is done

count_of : Script → ℕ
count_of s = length s.0

some_given : (over : Bool) (command : ScriptCommand) (commands : List ScriptCommand) (end other : End) → cond over (script (command ∷ commands) other) (script (command ∷ commands) end) ≡ script [] Done → ⊥
unfolding count_of
some_given true command commands end other is = omega (arith, ap count_of is)
some_given false command commands end other is = omega (arith, ap count_of is)

bad_end : (over : Bool) (bad : _) → cond over (script [] TooLong) (script [] (Bad bad)) ≡ script [] Done → ⊥
bad_end true bad is = let e : TooLong ≡ Done = ap (λ (s : Script). s.1) is in absurd cc
bad_end false bad is = let e : Bad bad ≡ Done = ap (λ (s : Script). s.1) is in absurd cc

not_done : (over : Bool) (ordinal : ℕ) (more : List ℕ → Script) (read : Result (ScriptCommand × List ℕ) Cause) → cut over (then_more ordinal more read) ≡ script [] Done → ⊥
not_done over ordinal more (Ok x) is = some_given (over && needs_more (more x.1).1) x.0 (more x.1).0 (more x.1).1 TooLong is
not_done over ordinal more (Err cause) is = bad_end (over && ends_early cause) (record { line = ordinal; cause = cause }) is

none_left : (most ordinal : ℕ) (bytes : List ℕ) → script_from most ordinal bytes ≡ script [] Done → bytes ≡ []
none_left most ordinal [] is = refl
none_left zero ordinal (b ∷ bytes) is =
    let over : nat_lt 0 (length (b ∷ bytes)) ≡ true = lt-ltb 0 (length (b ∷ bytes)) (omega arith) in
    let e : TooLong ≡ Done = ap (λ (s : Script). s.1) (sym (ap (λ (o : Bool). cut o (script [] Done)) over) ∙ is) in
    absurd cc
none_left (suc most) ordinal (b ∷ bytes) is =
    absurd (not_done (nat_lt (suc most) (length (b ∷ bytes))) ordinal (λ rest. commands_from (length (take most bytes)) (ordinal + 1) rest) (command_at (b ∷ take most bytes)) is)

both_empty : (xs ys : List ℕ) → xs ++ ys ≡ [] → (xs ≡ []) × (ys ≡ [])
both_empty [] ys is = (refl, is)
both_empty (x ∷ xs) ys is = absurd cc

pub all_is_read : (r : Reading) (input : List ℕ) → r.end ≡ None → script_left r input ≡ ([], Done) → (r.waiting ≡ []) × (input ≡ [])
all_is_read r input still is = both_empty r.waiting input (none_left (room_of r) (r.given + 1) (r.waiting ++ input) (sym (script_open r input still) ∙ is))

-- ---- where bytes are short, they give no command

same_early : (read : Result (ScriptCommand × List ℕ) Cause) (more : List ℕ) → early (with_more read more) ≡ early read
same_early (Ok x) more = refl
same_early (Err cause) more = refl

early_front : (front more : List ℕ) (was : Bool) → early (command_at front) ≡ was → early (command_at (front ++ more)) ≡ true → early (command_at front) ≡ true
early_front front more true is short = is
early_front front more false is short = let e : early (command_at (front ++ more)) ≡ false = ap early (command_more front more is) ∙ same_early (command_at front) more ∙ is in absurd cc

nothing_given : (ordinal : ℕ) (more : List ℕ → Script) (read : Result (ScriptCommand × List ℕ) Cause) → early read ≡ true → (then_more ordinal more read).0 ≡ []
nothing_given ordinal more (Ok x) short = absurd cc
nothing_given ordinal more (Err cause) short = refl

none_given : (ordinal : ℕ) (front : List ℕ) → early (command_at front) ≡ true → (commands_from (length front) ordinal front).0 ≡ []
none_given ordinal [] short = refl
none_given ordinal (b ∷ bytes) short = nothing_given ordinal (λ rest. commands_from (length bytes) (ordinal + 1) rest) (command_at (b ∷ bytes)) short

cut_keeps : (over need : Bool) (s : Script) → (cond (over && need) (script s.0 TooLong) s).0 ≡ s.0
cut_keeps true true s = refl
cut_keeps true false s = refl
cut_keeps false need s = refl

short_gives : (most ordinal : ℕ) (bytes : List ℕ) → early (command_at bytes) ≡ true → (script_from most ordinal bytes).0 ≡ []
short_gives most ordinal bytes short =
    let front : List ℕ = take most bytes in
    let whole : front ++ drop most bytes ≡ bytes = take-append-drop most bytes in
    cut_keeps (nat_lt most (length bytes)) (needs_more (commands_from (length front) ordinal front).1) (commands_from (length front) ordinal front)
    ∙ none_given ordinal front (early_front front (drop most bytes) (early (command_at front)) refl (ap (λ (bs : List ℕ). early (command_at bs)) whole ∙ short))

pub short_waits : (r : Reading) → r.end ≡ None → WantsMore r.waiting → (script_left r []).0 ≡ []
short_waits r still h =
    ap (λ (s : Script). s.0) (script_open r [] still)
    ∙ ap (λ (bs : List ℕ). (script_from (room_of r) (r.given + 1) bs).0) (append-nil r.waiting)
    ∙ short_gives (room_of r) (r.given + 1) r.waiting (ap early h.read ∙ h.early)
