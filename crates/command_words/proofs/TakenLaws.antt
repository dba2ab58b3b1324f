-- A simple command takes the words at which its parse has no fault, where no argument has a rule on another and each default passes.
use Rattle.std.proofs.Common.{◌≡◌, ◌&&◌, ◌||◌, ℕ, Bool, true, false, not, zero, suc, refl, ap, cond, List, [], ◌∷◌, length, Option, Some, None, is_some, codes, nat_le, nat_lt, ◌==◌, true≢false, drop, arith}
use Rattle.std.proofs.lemmas.Bool.{and_from}
use Rattle.std.proofs.lemmas.Bool.Decides.{nat_tests}
use Rattle.std.specs.Prelude.{encode_utf8, find, slice_get}
use Rattle.std.specs.List.{list_all, list_any}
use Rattle.std.specs.Option.{option_map_or}
use Rattle.std.specs.Str.{bytes_eq, chars}
use Rattle.clap.specs.Lexer.{long_of, short_of}
use Rattle.clap.specs.ValueTests.{accepts}
use Rattle.clap.specs.Facts.{explicit_source, parser_of_value, unwrap_or_range}
use Rattle.clap.specs.Walk.{Held, Names, Row, Rule, Step, Text, Walk, action_of, answers_to, arg_by_id, arg_by_index, arg_by_long, arg_by_short, attached_value, finished, has_row, is_pending, most_values, nothing_held, reacted, settled, subcommand_met, takes_several, takes_values, value, next, trailing, subcommand, values_or_missing, walk, walk_from, walked, word_met}
use Rattle.clap.specs.Simple.{App, Shape, argument_words, built, entered, is_simple, label_of, names_of}
use Rattle.clap.specs.Takes.{action_passes, bundle_passes, bundle_step_passes, built_takes, count_passes, default_passes, entered_passes, flag_word_passes, flags_pass, is_given, is_valid, level_passes, long_passes, option_passes, other_passes, positional_passes, react_passes, set_passes, settle_passes, short_passes, step_passes, takes, turn_passes, use_passes, value_passes, values_pass, walk_passes, word_passes}
use Rattle.clap.specs.Kinds.{Kinds, or_else, range_kinds, value_kinds}
use Rattle.clap.specs.Faults.{action_fault, built_fault, bundle_fault, bundle_step_fault, check_fault, count_fault, defaults_fault, entered_fault, fault_of, flag_word_fault, flags_fault, has_free_rules, level_fault, long_fault, option_fault, other_fault, positional_fault, react_fault, repeat_fault, set_fault, settle_fault, short_fault, step_fault, stray_fault, turn_fault, use_fault, values_fault, walk_fault, word_fault}
use Rattle.clap.specs.declared.builder.action.ArgAction.{ArgAction}
use Rattle.clap.proofs.WalkLemmas.{both as two}
use Rattle.clap.specs.declared.builder.action.ArgAction.TheVariants as action
use Rattle.clap.specs.declared.error.kind.ErrorKind.{ErrorKind}
use Rattle.clap.specs.declared.error.kind.ErrorKind.TheVariants as kind

-- ---- kinds that don't come, and tests that pass

both_nil : (a b : Kinds) → or_else a b ≡ [] → (a ≡ []) × (b ≡ [])
both_nil [] b e = (refl, e)
both_nil (k ∷ ks) b e = absurd cc

nil_if : (b : Bool) (k : ErrorKind) → cond b [] (k ∷ []) ≡ [] → b ≡ true
nil_if true k e = refl
nil_if false k e = absurd cc

first_not : (b : Bool) (k : ErrorKind) (ks rest : Kinds) → cond b (k ∷ ks) rest ≡ [] → (b ≡ false) × (rest ≡ [])
first_not true k ks rest e = absurd cc
first_not false k ks rest e = (refl, e)

passed_over : (a b : Bool) (k : ErrorKind) (ks : Kinds) → cond (a && not b) (k ∷ ks) [] ≡ [] → (not a || b) ≡ true
passed_over true true k ks e = refl
passed_over true false k ks e = absurd cc
passed_over false b k ks e = refl

or_passes : (b : Bool) (ks : Kinds) (p : Bool) → (ks ≡ [] → p ≡ true) → cond b [] ks ≡ [] → (b || p) ≡ true
or_passes true ks p h e = refl
or_passes false ks p h e = h e

where_some : {X : Type 0} (f : X → Kinds) (g : X → Bool) (o : Option X) → ((x : X) → f x ≡ [] → g x ≡ true) → option_map_or f o [] ≡ [] → option_map_or g o true ≡ true
where_some f g None h e = refl
where_some f g (Some x) h e = h x e

-- ---- one use of an argument

value_taken : (a : Rule) (v : Text) → value_kinds a.ignore_case (parser_of_value a.parser) v ≡ [] → value_passes a v ≡ true
value_taken a v e = nil_if (accepts a.ignore_case (parser_of_value a.parser) v) _ e

values_taken : (a : Rule) (vs : List Text) → values_fault a vs ≡ [] → values_pass a vs ≡ true
values_taken a [] e = refl
values_taken a (v ∷ vs) e =
    let p = both_nil (value_kinds a.ignore_case (parser_of_value a.parser) v) (values_fault a vs) e in
    and_from (value_passes a v) (values_pass a vs) (value_taken a v p.0) (values_taken a vs p.1)

count_taken : (a : Rule) (vs : List Text) (rows : List Row) → count_fault a vs rows ≡ [] → count_passes a vs rows ≡ true
count_taken a [] rows e = value_taken a _ e
count_taken a (v ∷ vs) rows e = values_taken a (v ∷ vs) e

set_taken : (again : Bool) (a : Rule) (vs : List Text) (rows : List Row) → set_fault again a vs rows ≡ [] → set_passes again a vs rows ≡ true
set_taken again a vs rows e =
    let p = both_nil (repeat_fault again a.id rows) (values_fault a vs) e in
    and_from (not (has_row a.id rows) || again) (values_pass a vs) (passed_over (has_row a.id rows) again _ _ p.0) (values_taken a vs p.1)

action_taken : (x : ArgAction) (again : Bool) (a : Rule) (vs : List Text) (rows : List Row) → action_fault x again a vs rows ≡ [] → action_passes x again a vs rows ≡ true
action_taken action.Set again a vs rows e = set_taken again a vs rows e
action_taken action.SetTrue again a vs rows e = set_taken again a vs rows e
action_taken action.SetFalse again a vs rows e = set_taken again a vs rows e
action_taken action.Append again a vs rows e = values_taken a vs e
action_taken action.Count again a vs rows e = count_taken a vs rows e
action_taken action.Help again a vs rows e = absurd cc
action_taken action.HelpShort again a vs rows e = absurd cc
action_taken action.HelpLong again a vs rows e = absurd cc
action_taken action.Version again a vs rows e = absurd cc

in_range : (least most n : ℕ) → range_kinds least most n ≡ [] → (nat_le least n ≡ true) × (nat_le n most ≡ true)
in_range least most n e = go (least == most) refl (first_not (nat_lt 0 least && n == 0) _ _ _ e).1
  where
    go : (b : Bool) → (least == most) ≡ b
        → cond b (cond (least == n) [] (kind.WrongNumberOfValues ∷ [])) (cond (nat_lt n least) (kind.TooFewValues ∷ []) (cond (nat_lt most n) (kind.TooManyValues ∷ []) [])) ≡ []
        → (nat_le least n ≡ true) × (nat_le n most ≡ true)
    go true same f =
        let h : (least == n) ≡ true = nil_if (least == n) _ f in
        (grind (arith, nat_tests), grind (arith, nat_tests))
    go false same f =
        let h = first_not (nat_lt n least) kind.TooFewValues [] (cond (nat_lt most n) (kind.TooManyValues ∷ []) []) f in
        let few : nat_lt n least ≡ false = h.0 in
        let many : nat_lt most n ≡ false = (first_not (nat_lt most n) _ _ _ h.1).0 in
        (grind (arith, nat_tests), grind (arith, nat_tests))

use_taken : (again : Bool) (a : Rule) (vs : List Text) (rows : List Row) → use_fault again a vs rows ≡ [] → use_passes again a vs rows ≡ true
use_taken again a vs rows e =
    let least : ℕ = (unwrap_or_range a.range).start_inclusive in
    let p = both_nil (range_kinds least (most_values a) (length vs)) (action_fault (action_of a) again a (values_or_missing a vs) rows) e in
    let r = in_range least (most_values a) (length vs) p.0 in
    and_from (nat_le least (length vs)) _ r.0
    (and_from (nat_le (length vs) (most_values a)) _ r.1 (action_taken (action_of a) again a (values_or_missing a vs) rows p.1))

-- ---- the walk

module _ (c : List Rule) (again : Bool) where
  settle_taken : (h : Held) → settle_fault c again h ≡ [] → settle_passes c again h ≡ true
  settle_taken h e = where_some (λ p. option_map_or (λ a. use_fault again a p.1 h.rows) (arg_by_id c p.0) []) (λ p. option_map_or (λ a. use_passes again a p.1 h.rows) (arg_by_id c p.0) true) h.pending
      (λ p. where_some (λ a. use_fault again a p.1 h.rows) (λ a. use_passes again a p.1 h.rows) (arg_by_id c p.0) (λ a. use_taken again a p.1 h.rows)) e

  react_taken : (a : Rule) (vs : List Text) (h : Held) → react_fault c again a vs h ≡ [] → react_passes c again a vs h ≡ true
  react_taken a vs h e =
      let p = both_nil (settle_fault c again h) (use_fault again a vs (settled c h).rows) e in
      and_from (settle_passes c again h) _ (settle_taken h p.0) (use_taken again a vs (settled c h).rows p.1)

  option_taken : (a : Rule) (v : Option Text) (h : Held) → option_fault c again a v h ≡ [] → option_passes c again a v h ≡ true
  option_taken a (Some v) h e = react_taken a (v ∷ []) h e
  option_taken a None h e = settle_taken h e

  long_taken : (o : Option Rule) (v : Option Text) (h : Held) → long_fault c again o v h ≡ [] → long_passes c again o v h ≡ true
  long_taken None v h e = absurd cc
  long_taken (Some a) v h e = go (takes_values a) e
    where
      go : (t : Bool) → cond t (option_fault c again a v h) (cond (is_some v) (kind.TooManyValues ∷ []) (react_fault c again a [] h)) ≡ []
          → cond t (option_passes c again a v h) (not (is_some v) && react_passes c again a [] h) ≡ true
      go true f = option_taken a v h f
      go false f =
          let p = first_not (is_some v) kind.TooManyValues [] (react_fault c again a [] h) f in
          and_from (not (is_some v)) _ (ap not p.0) (react_taken a [] h p.1)

  short_taken : (o : Option Rule) (rest : Text) (h : Held) (behind : Held → Kinds) (goes : Held → Bool) → ((x : Held) → behind x ≡ [] → goes x ≡ true)
      → short_fault c again o rest h behind ≡ [] → short_passes c again o rest h goes ≡ true
  short_taken None rest h behind goes each e = absurd cc
  short_taken (Some a) rest h behind goes each e = go (takes_values a) e
    where
      go : (t : Bool) → cond t (option_fault c again a (attached_value rest) h) (or_else (react_fault c again a [] h) (behind (reacted c a [] h))) ≡ []
          → cond t (option_passes c again a (attached_value rest) h) (react_passes c again a [] h && goes (reacted c a [] h)) ≡ true
      go true f = option_taken a (attached_value rest) h f
      go false f =
          let p = both_nil (react_fault c again a [] h) (behind (reacted c a [] h)) f in
          and_from (react_passes c again a [] h) _ (react_taken a [] h p.0) (each (reacted c a [] h) p.1)

  bundle_step_taken : (o : Option ℕ) (flags : Text) (skip : ℕ) (h : Held) (behind : Text → ℕ → Held → Kinds) (goes : Text → ℕ → Held → Bool)
      → ((t : Text) (k : ℕ) (x : Held) → behind t k x ≡ [] → goes t k x ≡ true)
      → bundle_step_fault c again o flags skip h behind ≡ [] → bundle_step_passes c again o flags skip h goes ≡ true
  bundle_step_taken None flags skip h behind goes each e = refl
  bundle_step_taken (Some x) flags zero h behind goes each e =
      let rest : Text = drop (length (encode_utf8 x)) flags in
      short_taken (arg_by_short c x) rest h (behind rest 0) (goes rest 0) (each rest 0) e
  bundle_step_taken (Some x) flags (suc skip) h behind goes each e = each (drop (length (encode_utf8 x)) flags) skip h e

  flags_taken : (k : ℕ) (flags : Text) (skip : ℕ) (h : Held) → flags_fault c again k flags skip h ≡ [] → flags_pass c again k flags skip h ≡ true
  unfolding flags_fault flags_pass
  flags_taken zero flags skip h e = refl
  flags_taken (suc k) flags skip h e =
      bundle_step_taken (slice_get (chars flags) 0) flags skip h (flags_fault c again k) (flags_pass c again k) (flags_taken k) e

  flag_word_taken : (o : Option (Text × Option Text)) (word : Text) (h : Held) → flag_word_fault c again o word h ≡ [] → flag_word_passes c again o word h ≡ true
  flag_word_taken (Some p) word h e = long_taken (arg_by_long c p.0) p.1 h e
  flag_word_taken None word h e = where_some (λ flags. bundle_fault c again flags h) (λ flags. bundle_passes c again flags h) (short_of word)
      (λ flags. flags_taken (length flags) flags h.skip (record h { skip = 0 })) e

  positional_taken : (a : Rule) (h : Held) → positional_fault c again a h ≡ [] → positional_passes c again a h ≡ true
  positional_taken a h e = or_passes (is_pending a h.pending && takes_several a) (settle_fault c again h) (settle_passes c again h) (settle_taken h) e

module _ (s : Shape) where
  other_taken : (o : Option Text) (word : Text) (h : Held) → other_fault s o word h ≡ [] → other_passes s o word h ≡ true
  other_taken (Some name) word h e = passed_over (bytes_eq name (codes "help")) s.disable_help_subcommand _ _ e
  other_taken None word h e = or_passes (bytes_eq word (45 ∷ 45 ∷ [])) (flag_word_fault s.rules s.args_override_self (long_of word) word h) (flag_word_passes s.rules s.args_override_self (long_of word) word h)
      (flag_word_taken s.rules s.args_override_self (long_of word) word h) e

  no_stray : stray_fault s ≡ [] → ⊥
  no_stray e = go s.is_leaf e
    where
      go : (b : Bool) → cond b (kind.UnknownArgument ∷ []) (kind.UnknownArgument ∷ kind.InvalidSubcommand ∷ []) ≡ [] → ⊥
      go true f = absurd cc
      go false f = absurd cc

  step_taken : (position : ℕ) (h : Held) (step : Step) → step_fault s position h step ≡ [] → step_passes s position h step ≡ true
  step_taken position h value e = go (arg_by_index s.rules position) e
    where
      go : (o : Option Rule) → option_map_or (λ a. positional_fault s.rules s.args_override_self a h) o (stray_fault s) ≡ []
          → option_map_or (λ a. positional_passes s.rules s.args_override_self a h) o false ≡ true
      go None f = absurd (no_stray f)
      go (Some a) f = positional_taken s.rules s.args_override_self a h f
  step_taken position h (next waiting) e = refl
  step_taken position h (trailing p) e = refl
  step_taken position h (subcommand name) e = refl

  turn_taken : (names : Names) (w : Walk) (word : Text) → turn_fault s names w word ≡ [] → turn_passes s names w word ≡ true
  turn_taken names w word e =
      let met : Held × Step = word_met s.rules names w.is_trailing w.waiting w.position word w.held in
      let words : Kinds = word_fault s names w.is_trailing w.waiting word w.held in
      or_passes (is_some w.stopped) (or_else words (step_fault s w.position met.0 met.1))
      (word_passes s names w.is_trailing w.waiting word w.held && step_passes s w.position met.0 met.1)
      (λ f.
      let p = both_nil words (step_fault s w.position met.0 met.1) f in
      and_from (word_passes s names w.is_trailing w.waiting word w.held) _
      (or_passes w.is_trailing (other_fault s (subcommand_met names w.waiting word) word w.held) (other_passes s (subcommand_met names w.waiting word) word w.held)
      (other_taken (subcommand_met names w.waiting word) word w.held) p.0)
      (step_taken w.position met.0 met.1 p.1)) e

  walk_taken : (names : Names) (w : Walk) (words : List Text) → walk_fault s names w words ≡ [] → walk_passes s names w words ≡ true
  unfolding walk_fault walk_passes
  walk_taken names w [] e = refl
  walk_taken names w (word ∷ rest) e =
      let p = both_nil (turn_fault s names w word) (walk_fault s names (walked s.rules names w word) rest) e in
      and_from (turn_passes s names w word) _ (turn_taken names w word p.0) (walk_taken names (walked s.rules names w word) rest p.1)

-- ---- behind the walk

helped : (has wants any : Bool) → (not has && (wants && not any)) ≡ false → (not wants || (has || any)) ≡ true
helped true true any e = refl
helped true false any e = refl
helped false true true e = refl
helped false true false e = absurd (true≢false e)
helped false false any e = refl

had : (has wants : Bool) → (not has && wants) ≡ false → (not wants || has) ≡ true
had true true e = refl
had true false e = refl
had false true e = absurd (true≢false e)
had false false e = refl

implied : (a b : Bool) → (a && not b) ≡ false → (not a || b) ≡ true
implied true true e = refl
implied true false e = absurd (true≢false e)
implied false b e = refl

none_missing : (rows : List Row) (rules : List Rule) → list_any (λ a. a.required && not (is_given a.id rows)) rules ≡ false → list_all (λ a. not a.required || is_given a.id rows) rules ≡ true
none_missing rows [] e = refl
none_missing rows (a ∷ rules) e = go (a.required && not (is_given a.id rows)) refl (none_missing rows rules) e
  where
    go : (b : Bool) → (a.required && not (is_given a.id rows)) ≡ b
        → (list_any (λ (x : Rule). x.required && not (is_given x.id rows)) rules ≡ false → list_all (λ (x : Rule). not x.required || is_given x.id rows) rules ≡ true)
        → (b || list_any (λ (x : Rule). x.required && not (is_given x.id rows)) rules) ≡ false
        → ((not a.required || is_given a.id rows) && list_all (λ (x : Rule). not x.required || is_given x.id rows) rules) ≡ true
    go true is others f = absurd (true≢false f)
    go false is others f = and_from (not a.required || is_given a.id rows) _ (implied a.required (is_given a.id rows) is) (others f)

excused : (b any all : Bool) → (any ≡ false → all ≡ true) → (not b && any) ≡ false → (b || all) ≡ true
excused true any all h e = refl
excused false any all h e = h e

valid_taken : (s : Shape) (rows : List Row) (has : Bool) → has_free_rules s ≡ true → check_fault s rows has ≡ [] → is_valid s rows has ≡ true
valid_taken s rows has free e =
    let any : Bool = list_any (λ (r : Row). explicit_source r.source) rows in
    let missing : Bool = list_any (λ (a : Rule). a.required && not (is_given a.id rows)) s.rules in
    let given : Bool = list_all (λ (a : Rule). not a.required || is_given a.id rows) s.rules in
    let p = first_not (not has && (s.arg_required_else_help && not any)) kind.DisplayHelpOnMissingArgumentOrSubcommand []
    (cond (not has && s.subcommand_required) (kind.MissingSubcommand ∷ []) (cond (not (s.subcommand_negates_reqs && has) && missing) (kind.MissingRequiredArgument ∷ []) [])) e in
    let q = first_not (not has && s.subcommand_required) kind.MissingSubcommand []
    (cond (not (s.subcommand_negates_reqs && has) && missing) (kind.MissingRequiredArgument ∷ []) []) p.1 in
    let r = first_not (not (s.subcommand_negates_reqs && has) && missing) kind.MissingRequiredArgument [] [] q.1 in
    and_from (not s.arg_required_else_help || (has || any)) _ (helped has s.arg_required_else_help any p.0)
    (and_from (not s.subcommand_required || has) _ (had has s.subcommand_required q.0)
    (and_from (has_free_rules s) _ free
    (excused (s.subcommand_negates_reqs && has) missing given (none_missing rows s.rules) r.0)))

-- no argument has a rule on another, and each default passes
abbrev pub is_free_of_rules : Shape → Bool
is_free_of_rules s = list_all default_passes s.rules && has_free_rules s

level_taken : (s : Shape) (names : Names) (h : Held) (words : List Text) (has : Bool) (below : Kinds) → is_free_of_rules s ≡ true → level_fault s names h words has below ≡ []
    → (below ≡ []) × (level_passes s names h words has ≡ true)
level_taken s names h words has below free e =
    let end : Held = (walk s.rules names h words).held in
    let f = two (list_all default_passes s.rules) (has_free_rules s) free in
    let p = both_nil (walk_fault s names (walk_from h) words) _ e in
    let q = both_nil below _ p.1 in
    let r = both_nil (settle_fault s.rules s.args_override_self end) _ q.1 in
    let d = both_nil (defaults_fault (settled s.rules end).rows s.rules) (check_fault s (finished s.rules end) has) r.1 in (
      q.0,
      and_from (walk_passes s names (walk_from h) words) _ (walk_taken s names (walk_from h) words p.0)
          (and_from (settle_passes s.rules s.args_override_self end) _ (settle_taken s.rules s.args_override_self end r.0)
          (and_from (list_all default_passes s.rules) _ f.0 (valid_taken s (finished s.rules end) has f.1 d.1))),
    )

first_free : (p : Shape → Bool) (subs : List Shape) → list_all is_free_of_rules subs ≡ true → option_map_or is_free_of_rules (find p subs) true ≡ true
first_free p [] e = refl
first_free p (s ∷ subs) e = go (p s) (two (is_free_of_rules s) (list_all is_free_of_rules subs) e).0 (first_free p subs (two (is_free_of_rules s) (list_all is_free_of_rules subs) e).1)
  where
    go : (b : Bool) → is_free_of_rules s ≡ true → option_map_or is_free_of_rules (find p subs) true ≡ true → option_map_or is_free_of_rules (cond b (Some s) (find p subs)) true ≡ true
    go true f others = f
    go false f others = others

entered_taken : (a : App) (stop : Option (Text × List Text)) → list_all is_free_of_rules a.subs ≡ true → entered_fault a stop ≡ [] → entered_passes a stop ≡ true
entered_taken a None free e = refl
entered_taken a (Some p) free e = go (find (λ s. answers_to p.0 (label_of s)) a.subs) (first_free (λ s. answers_to p.0 (label_of s)) a.subs free) e
  where
    go : (o : Option Shape) → option_map_or is_free_of_rules o true ≡ true → option_map_or (λ s. level_fault s [] nothing_held p.1 false []) o [] ≡ []
        → option_map_or (λ s. level_passes s [] nothing_held p.1 false) o true ≡ true
    go None f g = refl
    go (Some s) f g = (level_taken s [] nothing_held p.1 false [] f g).1

built_taken : (a : App) (h : Held) (words : List Text) → is_free_of_rules a.top ≡ true → list_all is_free_of_rules a.subs ≡ true → built_fault a h words ≡ [] → built_takes a h words ≡ true
built_taken a h words top subs e =
    let stop : Option (Text × List Text) = (walk a.top.rules (names_of a) h words).stopped in
    let p = level_taken a.top (names_of a) h words (is_some (entered a stop)) (entered_fault a stop) top e in
    and_from (entered_passes a stop) _ (entered_taken a stop subs p.0) p.1

pub taken_without_fault : (a : App) (words : List Text) → is_simple a ≡ true → is_free_of_rules (built a).top ≡ true → list_all is_free_of_rules (built a).subs ≡ true
    → fault_of a words ≡ [] → takes a words ≡ true
taken_without_fault a words simple top subs e = and_from (is_simple a) _ simple (built_taken (built a) nothing_held (argument_words a words) top subs e)
