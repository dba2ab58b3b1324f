-- What `clap` is told of a command, argument by argument and command by command.
use Rattle.std.proofs.Common.{◌≡◌, ◌<◌, ◌+◌, ◌||◌, ◌∙◌, ℕ, Bool, true, false, List, [], ◌∷◌, ◌++◌, length, take, map, fold, Some, sym, ap, ap₂, subst}
use Rattle.std.specs.Borrow.{Bor}
use Rattle.std.specs.List.{slice_index_or}
use Rattle.std.proofs.lemmas.List.{append_assoc, map_more}
use Rattle.std.proofs.lemmas.List.Sums.{fold_more}
use Rattle.clap.specs.Built.{AddsArg, AddsSubcommand}
use Rattle.clap.specs.Simple.{App, Shape, app_of, new_rule, with_rule, with_subcommand}
use Rattle.clap.specs.Walk.{Rule, Text, rule_of}
use Rattle.clap.specs.declared.builder.arg.Arg.{Arg}
use Rattle.clap.specs.declared.builder.command.Command.{Command}
use Rattle.fsd_runs.specs.Words.{option, positional, subcommand}
use Rattle.command_words.specs.declared.command_set.Row.{Row}
use Rattle.command_words.specs.CommandSet.{IsCommand, with_row}

-- ---- one more argument

module _ (old new : Command) (plain made : Arg) (adds : AddsArg old made new) (local : plain.global ≡ false) (name : Text) where
  one_more : (rules : List Rule) (r : Rule) → made.global ≡ plain.global → rule_of made ≡ r → IsCommand old (subcommand name rules) → IsCommand new (subcommand name (rules ++ r ∷ []))
  one_more rules r same is was = record {
    app = adds.shape (same ∙ local) ∙ ap₂ with_rule was.app is;
    local = adds.globals ∙ ap₂ (λ (x y : Bool). x || y) was.local (same ∙ local);
  }

  pub positional_more : (ids : List (Bor Text)) (i : ℕ) (d : Bor Text) → i < length ids → made ≡ record plain { required = true } → rule_of plain ≡ new_rule (slice_index_or ids i d).now
      → IsCommand old (subcommand name (map (λ id. positional id.now) (take i ids))) → IsCommand new (subcommand name (map (λ id. positional id.now) (take (i + 1) ids)))
  positional_more ids i d inside is rule was =
      subst (λ (rules : List Rule). IsCommand new (subcommand name rules)) (sym (map_more (λ (id : Bor Text). positional id.now) ids i d inside))
      (one_more _ _ (ap (λ (a : Arg). a.global) is) (ap rule_of is ∙ ap (λ (r : Rule). record r { required = true }) rule) was)

  pub option_more : (before : List Rule) (ids : List (Bor Text)) (i : ℕ) (d : Bor Text) → i < length ids → made ≡ record plain { long = Some (slice_index_or ids i d) } → rule_of plain ≡ new_rule (slice_index_or ids i d).now
      → IsCommand old (subcommand name (before ++ map (λ id. option id.now) (take i ids))) → IsCommand new (subcommand name (before ++ map (λ id. option id.now) (take (i + 1) ids)))
  option_more before ids i d inside is rule was =
      subst (λ (rules : List Rule). IsCommand new (subcommand name rules))
      (append_assoc before _ (option (slice_index_or ids i d).now ∷ []) ∙ ap (λ (rules : List Rule). before ++ rules) (sym (map_more (λ (id : Bor Text). option id.now) ids i d inside)))
      (one_more (before ++ map (λ id. option id.now) (take i ids)) _ (ap (λ (a : Arg). a.global) is) (ap rule_of is ∙ ap (λ (r : Rule). record r { long = Some (slice_index_or ids i d).now }) rule) was)

-- ---- one more command

pub with_next : (old sub : Command) (s : Shape) → IsCommand sub s → (new : Command) → AddsSubcommand old sub new → app_of new ≡ with_subcommand (app_of old) s
with_next old sub s is new adds = adds.shape is.local ∙ ap (λ (x : App). with_subcommand (app_of old) x.top) is.app

pub next_row : (start before now : App) (rows : List Row) (i : ℕ) (d : Row) → i < length rows → before ≡ fold with_row start (take i rows) → now ≡ with_row before (slice_index_or rows i d)
    → now ≡ fold with_row start (take (i + 1) rows)
next_row start before now rows i d inside so_far is = is ∙ ap (λ (app : App). with_row app (slice_index_or rows i d)) so_far ∙ sym (fold_more with_row start rows i d inside)
