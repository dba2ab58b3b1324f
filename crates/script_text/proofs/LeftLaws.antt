-- The script that is still to come, a step further.
use Rattle.std.proofs.Common.{◌≡◌, Bool, true, false, cond, ℕ, zero, suc, ◌+◌, ◌-◌, ◌<◌, ◌≤◌, List, [], ◌∷◌, ◌++◌, length, take, drop, Result, Ok, Err, refl, sym, ap, ◌∙◌, arith, length-append, length-drop}
use Rattle.std.proofs.Math.Seq.{take-append-add, take-append_seam}
use Rattle.std.proofs.lemmas.Bool.{le-ltb, lt-ltb}
use Rattle.std.proofs.lemmas.Bool.Decides.{nat_tests}
use Rattle.std.proofs.lemmas.List.{take_all}
use Rattle.std.specs.Prelude.{nat_lt, ◌&&◌}
use Rattle.fsd_texts.specs.declared.bad_line.Cause.{Cause}
use Rattle.fsd_texts.specs.declared.script_command.ScriptCommand.{ScriptCommand}
use Rattle.fsd_texts.specs.declared.end.End.{End}
use Rattle.fsd_texts.specs.declared.end.End.TheVariants.{Done, Bad, TooLong}
use Rattle.fsd_texts.specs.Script.{Script, command_at, commands_from, ends_early, needs_more, script_from, then_more}
use Rattle.script_text.proofs.MoreLaws.{command_more, command_shrinks, early, with_more}

-- ---- fuel that is enough

same_steps : (ordinal : ℕ) (f g : List ℕ → Script) (read : Result (ScriptCommand × List ℕ) Cause) → ((command : ScriptCommand) (rest : List ℕ) → read ≡ Ok (command, rest) → f rest ≡ g rest) → then_more ordinal f read ≡ then_more ordinal g read
same_steps ordinal f g (Ok x) same = let e : f x.1 ≡ g x.1 = same x.0 x.1 refl in rw e refl
same_steps ordinal f g (Err cause) same = refl

enough : (m n ordinal : ℕ) (bytes : List ℕ) → length bytes ≤ m → length bytes ≤ n → commands_from m ordinal bytes ≡ commands_from n ordinal bytes
enough zero zero ordinal [] p q = refl
enough zero (suc n) ordinal [] p q = refl
enough (suc m) zero ordinal [] p q = refl
enough (suc m) (suc n) ordinal [] p q = refl
enough zero n ordinal (b ∷ bytes) p q = absurd (omega arith)
enough (suc m) zero ordinal (b ∷ bytes) p q = absurd (omega arith)
enough (suc m) (suc n) ordinal (b ∷ bytes) p q =
    same_steps ordinal (λ rest. commands_from m (ordinal + 1) rest) (λ rest. commands_from n (ordinal + 1) rest) (command_at (b ∷ bytes))
    (λ command rest read. let less : length rest < suc (length bytes) = command_shrinks (b ∷ bytes) command rest read in enough m n (ordinal + 1) rest (omega arith) (omega arith))

-- all commands of some bytes
abbrev all_from : (ordinal : ℕ) → List ℕ → Script
all_from ordinal bytes = commands_from (length bytes) ordinal bytes

gives : (ordinal : ℕ) (bytes : List ℕ) (command : ScriptCommand) (rest : List ℕ) → command_at bytes ≡ Ok (command, rest) → all_from ordinal bytes ≡ (command ∷ (all_from (ordinal + 1) rest).0, (all_from (ordinal + 1) rest).1)
gives ordinal [] command rest read = absurd cc
gives ordinal (b ∷ bytes) command rest read =
    let less : length rest < suc (length bytes) = command_shrinks (b ∷ bytes) command rest read in
    let same : commands_from (length bytes) (ordinal + 1) rest ≡ all_from (ordinal + 1) rest = enough (length bytes) (length rest) (ordinal + 1) rest (omega arith) (omega arith) in
    rw (read, same) refl

fails : (ordinal : ℕ) (bytes : List ℕ) (cause : Cause) → 0 < length bytes → command_at bytes ≡ Err cause → all_from ordinal bytes ≡ ([], Bad (record { line = ordinal; cause = cause }))
fails ordinal [] cause some read = absurd (omega arith)
fails ordinal (b ∷ bytes) cause some read = rw read refl

-- ---- the script of an input, of which some first bytes wait

abbrev pub script : List ScriptCommand → End → Script
script commands end = (commands, end)

abbrev pub after : ScriptCommand → Script → Script
after command s = (command ∷ s.0, s.1)

abbrev pub cut : Bool → Script → Script
cut over s = cond (over && needs_more s.1) (script s.0 TooLong) s

by_need : (need : Bool) (command : ScriptCommand) (s : Script) → cond need (script (command ∷ s.0) TooLong) (after command s) ≡ after command (cond need (script s.0 TooLong) s)
by_need true command s = refl
by_need false command s = refl

cut_after : (over more_over : Bool) (command : ScriptCommand) (s : Script) → over ≡ more_over → cut over (after command s) ≡ after command (cut more_over s)
cut_after over true command s same = ap (λ (b : Bool). cut b (after command s)) same ∙ by_need (needs_more s.1) command s
cut_after over false command s same = ap (λ (b : Bool). cut b (after command s)) same

uncut : (over : Bool) (s : Script) → needs_more s.1 ≡ false → cut over s ≡ s
uncut true s late = ap (λ (need : Bool). cond need (script s.0 TooLong) s) late
uncut false s late = refl

front_is : (most : ℕ) (waiting input : List ℕ) → length waiting ≤ most → take most (waiting ++ input) ≡ waiting ++ take (most - length waiting) input
front_is most waiting input fits =
    let e : most ≡ length waiting + (most - length waiting) = omega arith in
    ap (λ (n : ℕ). take n (waiting ++ input)) e ∙ take-append-add waiting input (most - length waiting)

pub some_wait : (waiting : List ℕ) (cause : Cause) → command_at waiting ≡ Err cause → ends_early cause ≡ false → 0 < length waiting
some_wait [] cause read late = absurd cc
some_wait (b ∷ bytes) cause read late = omega arith

same_test : (a b c d n : ℕ) → c + n ≡ a → d + n ≡ b → nat_lt a b ≡ nat_lt c d
same_test a b c d n e f = grind (arith, nat_tests)

over_is : (most used : ℕ) (waiting input : List ℕ) → length waiting ≤ most → used ≤ length waiting → nat_lt most (length (waiting ++ input)) ≡ nat_lt (most - used) (length (drop used waiting ++ input))
over_is most used waiting input fits within =
    same_test most (length (waiting ++ input)) (most - used) (length (drop used waiting ++ input)) used (omega arith) (omega (arith, length-append waiting input, length-append (drop used waiting) input, length-drop used waiting))

wants_more : (ordinal : ℕ) (bytes : List ℕ) (cause : Cause) → command_at bytes ≡ Err cause → ends_early cause ≡ true → cut true (all_from ordinal bytes) ≡ script [] TooLong
wants_more ordinal [] cause read short = refl
wants_more ordinal (b ∷ bytes) cause read short = ap (cut true) (fails ordinal (b ∷ bytes) cause (omega arith) read) ∙ ap (λ (need : Bool). cond need (script [] TooLong) (script [] (Bad (record { line = ordinal; cause = cause })))) short

module _ (most ordinal : ℕ) (waiting : List ℕ) (fits : length waiting ≤ most) where
  pub from_gives : (input : List ℕ) (command : ScriptCommand) (used : ℕ) → used ≤ length waiting → command_at waiting ≡ Ok (command, drop used waiting)
      → script_from most ordinal (waiting ++ input) ≡ after command (script_from (most - used) (ordinal + 1) (drop used waiting ++ input))
  from_gives input command used within read =
      let x : List ℕ = take (most - length waiting) input in
      let rest : List ℕ = drop used waiting in
      let left : length rest ≡ length waiting - used = length-drop used waiting in
      let room : (most - used) - length rest ≡ most - length waiting = omega (arith, left) in
      let first : take most (waiting ++ input) ≡ waiting ++ x = front_is most waiting input fits in
      let second : take (most - used) (rest ++ input) ≡ rest ++ x = front_is (most - used) rest input (omega (arith, left)) ∙ ap (λ (n : ℕ). rest ++ take n input) room in
      let whole : command_at (waiting ++ x) ≡ Ok (command, rest ++ x) = command_more waiting x (ap early read) ∙ ap (λ r. with_more r x) read in
      ap (λ (f : List ℕ). cut (nat_lt most (length (waiting ++ input))) (all_from ordinal f)) first
      ∙ ap (cut (nat_lt most (length (waiting ++ input)))) (gives ordinal (waiting ++ x) command (rest ++ x) whole)
      ∙ cut_after (nat_lt most (length (waiting ++ input))) (nat_lt (most - used) (length (rest ++ input))) command (all_from (ordinal + 1) (rest ++ x)) (over_is most used waiting input fits within)
      ∙ sym (ap (λ (f : List ℕ). after command (cut (nat_lt (most - used) (length (rest ++ input))) (all_from (ordinal + 1) f))) second)

  pub from_fails : (input : List ℕ) (cause : Cause) → command_at waiting ≡ Err cause → ends_early cause ≡ false → script_from most ordinal (waiting ++ input) ≡ script [] (Bad (record { line = ordinal; cause = cause }))
  from_fails input cause read late =
      let x : List ℕ = take (most - length waiting) input in
      let whole : command_at (waiting ++ x) ≡ Err cause = command_more waiting x (ap early read ∙ late) ∙ ap (λ r. with_more r x) read in
      let some : 0 < length (waiting ++ x) = omega (arith, length-append waiting x, some_wait waiting cause read late) in
      ap (λ (f : List ℕ). cut (nat_lt most (length (waiting ++ input))) (all_from ordinal f)) (front_is most waiting input fits)
      ∙ ap (cut (nat_lt most (length (waiting ++ input)))) (fails ordinal (waiting ++ x) cause some whole)
      ∙ uncut (nat_lt most (length (waiting ++ input))) _ late

  all_waits : (input : List ℕ) → length waiting ≡ most → take most (waiting ++ input) ≡ waiting
  all_waits input all = ap (λ (n : ℕ). take n (waiting ++ input)) (sym all) ∙ take-append_seam waiting input

  pub from_ends : (cause : Cause) → 0 < length waiting → command_at waiting ≡ Err cause → script_from most ordinal waiting ≡ script [] (Bad (record { line = ordinal; cause = cause }))
  from_ends cause some read =
      let over : nat_lt most (length waiting) ≡ false = le-ltb most (length waiting) fits in
      ap (λ (f : List ℕ). cut (nat_lt most (length waiting)) (all_from ordinal f)) (take_all most waiting fits)
      ∙ ap (cut (nat_lt most (length waiting))) (fails ordinal waiting cause some read)
      ∙ ap (λ (b : Bool). cut b (script [] (Bad (record { line = ordinal; cause = cause })))) over

  pub from_long : (input : List ℕ) (cause : Cause) → length waiting ≡ most → 0 < length input → command_at waiting ≡ Err cause → ends_early cause ≡ true → script_from most ordinal (waiting ++ input) ≡ script [] TooLong
  from_long input cause all some read short =
      let over : nat_lt most (length (waiting ++ input)) ≡ true = lt-ltb most (length (waiting ++ input)) (omega (arith, length-append waiting input)) in
      ap (λ (f : List ℕ). cut (nat_lt most (length (waiting ++ input))) (all_from ordinal f)) (all_waits input all)
      ∙ ap (λ (b : Bool). cut b (all_from ordinal waiting)) over
      ∙ wants_more ordinal waiting cause read short

pub from_done : (most ordinal : ℕ) → script_from most ordinal [] ≡ script [] Done
from_done zero ordinal = refl
from_done (suc most) ordinal = ap (λ (b : Bool). cut b (script [] Done)) (le-ltb (suc most) 0 (omega arith))
