-- Commands that are made up: their names are names, and each is drawn from the state before.
use Rattle.std.proofs.Common.{◌≡◌, ℕ, zero, suc, ◌+◌, ◌-◌, ◌/◌, ◌^◌, ◌<◌, Bool, true, List, ◌∷◌, Option, Some, None, refl, ◌∙◌, arith}
use Rattle.std.specs.Prelude.{IsOk, is_none}
use Rattle.std.specs.Fmt.{digits}
use Rattle.std.proofs.lemmas.Bool.{agree_below, agree_below_at}
use Rattle.fsd_bytes.specs.declared.fault.NameFault.{NameFault}
use Rattle.fsd_bytes.specs.Names.{name_fault, name_of, named_unless}
use Rattle.fsd_texts.specs.declared.command.Command.{Command}
use Rattle.fsd_texts.specs.Generator.{command_of_draw, draw_of, made_from, made_name, next_state}
use Rattle.script_text.specs.Making.{Making, made_left}

has_no_fault : ℕ → Bool
has_no_fault q = is_none (name_fault (made_name q))

all_are_names : agree_below has_no_fault (λ q. true) 64 ≡ true
unfolding digits has_no_fault
all_are_names = refl

no_fault : (fault : Option NameFault) (bytes : List ℕ) → is_none fault ≡ true → IsOk (named_unless fault bytes)
no_fault None bytes none = refl
no_fault (Some why) bytes none = absurd cc

pub made_named : (q : ℕ) → q < 64 → IsOk (name_of (made_name q))
unfolding has_no_fault
made_named q below = no_fault (name_fault (made_name q)) (made_name q) (agree_below_at has_no_fault (λ q. true) 64 q all_are_names below)

-- ---- the next command

next_of : (left ordinal state : ℕ) → (left ≡ 0 → ⊥) → made_from left ordinal state ≡ command_of_draw ordinal (draw_of (next_state state)) ∷ made_from (left - 1) (ordinal + 1) (next_state state)
next_of zero ordinal state some = absurd (some refl)
next_of (suc left) ordinal state some = let e : suc left - 1 ≡ left = omega arith in rw e refl

pub makes_next : (m : Making) (command : Command) (state : ℕ) → (m.left ≡ 0 → ⊥) → state ≡ next_state m.state → command ≡ command_of_draw m.ordinal (state / 2 ^ 33)
    → made_left m ≡ command ∷ made_left (record { left = m.left - 1; ordinal = m.ordinal + 1; state = state })
makes_next m command state some state_is is = next_of m.left m.ordinal m.state some ∙ rw (is, state_is) refl
