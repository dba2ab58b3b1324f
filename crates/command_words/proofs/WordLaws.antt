-- What the words ask for, by what `clap` says of them.
use Rattle.std.proofs.Common.{◌≡◌, ℕ, Bool, true, false, cond, List, [], Option, Some, None, refl, sym, ap, ap₂, subst, ◌∙◌, option_map}
use Rattle.std.specs.Prelude.{Box, unwrap_or}
use Rattle.std.specs.Borrow.{Bor}
use Rattle.std.specs.Box.{box_value}
use Rattle.clap.specs.Walk.{Row, Text}
use Rattle.clap.specs.Simple.{App, subcommand_of, subcommand_rows}
use Rattle.clap.specs.Takes.{takes}
use Rattle.clap.specs.Faults.{fault_of, is_simple_and_free}
use Rattle.clap.specs.declared.parser.matches.ArgMatches.TheViews.{out-SubCommand}
use Rattle.clap.specs.declared.parser.matches.SubCommand.{SubCommand}
use Rattle.fsd_runs.specs.declared.request.Request.TheVariants.{NoCommand}
use Rattle.fsd_runs.specs.Words.{cfs, entered_request, image_word, path_of, request_of}
use Rattle.command_words.proofs.TakenLaws.{taken_without_fault}

pub word_or_none : (o : Option (Bor (List ℕ))) (d : Bor (List ℕ)) (word : Option (List ℕ)) → d.now ≡ [] → option_map (λ s. s.now) o ≡ word → (unwrap_or o d).now ≡ unwrap_or word []
word_or_none None d word none is = none ∙ ap (λ (w : Option (List ℕ)). unwrap_or w []) is
word_or_none (Some s) d word none is = ap (λ (w : Option (List ℕ)). unwrap_or w []) is

-- the name and the rows of a subcommand
module _ {Z : Type 0} where
  pub rows_by_name : (sub : Option (Box SubCommand Z)) (name : Text) (rows : List Row) → Some name ≡ option_map (λ b. (out-SubCommand (box_value b)).name.now) sub
      → Some rows ≡ option_map (λ p. p.1) (subcommand_rows sub) → Some (name, rows) ≡ subcommand_rows sub
  rows_by_name None name rows n r = absurd cc
  rows_by_name (Some b) name rows n r =
      ap₂ (λ (x : Text) (y : List Row). Some (x, y)) (ap (λ (o : Option Text). unwrap_or o name) n) (ap (λ (o : Option (List Row)). unwrap_or o rows) r)

-- ---- the command set

set_takes : (words : List Text) → fault_of cfs words ≡ [] → takes cfs words ≡ true
set_takes words none = taken_without_fault cfs words refl refl refl none

pub is_set_free : (a : App) → a ≡ cfs → is_simple_and_free a ≡ true
is_set_free a is = ap is_simple_and_free is

module _ (a : App) (words : List Text) (is : a ≡ cfs) where
  taken : fault_of a words ≡ [] → takes cfs words ≡ true
  taken none = set_takes words (subst (λ (x : App). fault_of x words ≡ []) is none)

  pub request_taken : fault_of a words ≡ [] → entered_request (subcommand_of a words) ≡ request_of words
  request_taken none = ap (λ (x : App). entered_request (subcommand_of x words)) is ∙ sym (ap (λ (b : Bool). cond b (entered_request (subcommand_of cfs words)) NoCommand) (taken none))

  pub path_taken : fault_of a words ≡ [] → image_word (subcommand_of a words) ≡ path_of words
  path_taken none = ap (λ (x : App). image_word (subcommand_of x words)) is ∙ sym (ap (λ (b : Bool). cond b (image_word (subcommand_of cfs words)) []) (taken none))

  refused : (takes a words ≡ true → ⊥) → takes cfs words ≡ false
  refused never = go (takes cfs words) refl
    where
      go : (b : Bool) → takes cfs words ≡ b → b ≡ false
      go true e = absurd (never (ap (λ (x : App). takes x words) is ∙ e))
      go false e = refl

  pub request_refused : (takes a words ≡ true → ⊥) → NoCommand ≡ request_of words
  request_refused never = sym (ap (λ (b : Bool). cond b (entered_request (subcommand_of cfs words)) NoCommand) (refused never))

  pub path_refused : (takes a words ≡ true → ⊥) → [] ≡ path_of words
  path_refused never = sym (ap (λ (b : Bool). cond b (image_word (subcommand_of cfs words)) []) (refused never))
