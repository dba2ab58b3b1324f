-- What a scrub leaves of its volume's state, and how many sectors it has written.
use Rattle.std.proofs.Common.{◌≡◌, inl, inr, ℕ, ◌+◌, ◌^◌, ◌-◌, Bool, true, false, List, [], ◌∷◌, length, Option, Some, refl, sym, ◌∙◌, ap, subst, arith}
use Rattle.std.specs.Prelude.{min, nat_lt, IfErr, IfOk, IsTrue, MatchResult, None, OnOk, Result, Ok, Err, option_map}
use Rattle.std.proofs.lemmas.Bool.{ltb-false}
use Rattle.fsd_bytes.specs.declared.refusal.Refusal.{Refusal}
use Rattle.fsd_bytes.specs.declared.refusal.Refusal.TheVariants as Why
use Rattle.sector_disk.specs.Machine.{Ledger, wrote}
use Rattle.volume_contract.specs.Order.{Force, Heal, IsLookUp, KeepsRefused, LookUp, Single, Test, force_steps, is_idle}
use Rattle.volume_contract.specs.State.{IsForced, State}
use Rattle.scrub.specs.declared.whole.Healed.{Healed}
use Rattle.scrub.specs.Scrub.{WritesHealed, scrub_steps}

-- ---- the state

-- a force that has failed
pub kept_down : (why : Refusal) (s t : State) → KeepsRefused (force_steps s) why s t → KeepsRefused (scrub_steps s) why s t
kept_down why s t (inl here) = inl here
kept_down why s t (inr (passes, later)) = inr (passes, by (nat_lt 0 (length s.dirty)) later)
  where
    by : (comes : Bool) → KeepsRefused (Force comes ∷ []) why s t → KeepsRefused (Force comes ∷ Heal ∷ LookUp ∷ Single ∷ []) why s t
    by true (inl failed) = inl failed
    by true (inr (next, forced, none)) = absurd none
    by false (inl here) = inl here
    by false (inr (passes, none)) = absurd none

-- behind a force nothing changes it
module _ (s m t : State) (passes : option_map Why.Down s.down ≡ None) (forced : IsForced s m) (same : t ≡ m) where
  kept_behind : (why : Refusal) → IsLookUp why → KeepsRefused (scrub_steps s) why s t
  kept_behind why refuses = inr (passes, by (nat_lt 0 (length s.dirty)) refl)
    where
      behind : (at : State) → t ≡ at → KeepsRefused (Heal ∷ LookUp ∷ Single ∷ []) why at t
      behind at is = inr (tt, inl (refuses, is))

      none_is : (xs : List ℕ) → nat_lt 0 (length xs) ≡ false → xs ≡ []
      none_is [] none = refl
      none_is (x ∷ xs) none = let few = ltb-false 0 (length (x ∷ xs)) none in absurd (omega (arith, few))

      by : (comes : Bool) → nat_lt 0 (length s.dirty) ≡ comes → KeepsRefused (Force comes ∷ Heal ∷ LookUp ∷ Single ∷ []) why s t
      by true is = inr (m, forced, behind m same)
      by false is = inr (tt, behind s (same ∙ forced.idle (none_is s.dirty is)))

  pub kept_all : (r : Result Healed Refusal) → IfErr r IsLookUp → MatchResult r (λ x. IsForced s t) (λ why. KeepsRefused (scrub_steps s) why s t)
  kept_all (Ok x) refuses = subst (λ (y : State). IsForced s y) (sym same) forced
  kept_all (Err why) refuses = kept_behind why refuses

-- a volume that was up before a force is up behind it
pub up_behind : (s m : State) → option_map Why.Down s.down ≡ None → IsForced s m → m.down ≡ None
up_behind s m passes forced = ap (λ (x : State). x.down) forced.is ∙ none s.down passes
  where
    none : (d : Option ℕ) → option_map Why.Down d ≡ None → d ≡ None
    none None is = refl
    none (Some place) is = absurd (cc is)

pub up_all : (r : Result Healed Refusal) (t : State) → t.down ≡ None → OnOk r (t.down ≡ None)
up_all (Ok x) t up = up
up_all (Err why) t up = tt

-- and it has something to do
pub up_busy : (s : State) → option_map Why.Down s.down ≡ None → IsTrue (is_idle (scrub_steps s)) → ⊥
up_busy s passes is = by (option_map Why.Down s.down) (nat_lt 0 (length s.dirty)) passes is
  where
    by : (test : Option Refusal) (comes : Bool) → test ≡ None → IsTrue (is_idle (Test test ∷ Force comes ∷ Heal ∷ LookUp ∷ Single ∷ [])) → ⊥
    by (Some why) comes none is = cc none
    by None true none is = cc is
    by None false none is = cc is

-- where it has nothing to do, a force has nothing to do
pub idle_first : (s : State) → IsTrue (is_idle (scrub_steps s)) → IsTrue (is_idle (force_steps s))
idle_first s is = by (option_map Why.Down s.down) (nat_lt 0 (length s.dirty)) is
  where
    by : (test : Option Refusal) (comes : Bool) → IsTrue (is_idle (Test test ∷ Force comes ∷ Heal ∷ LookUp ∷ Single ∷ [])) → IsTrue (is_idle (Test test ∷ Force comes ∷ []))
    by (Some why) comes is = refl
    by None true is = absurd (cc is)
    by None false is = refl

-- nor has it where no page waits
pub clean_idle : (s : State) → s.down ≡ None → s.dirty ≡ [] → IsTrue (is_idle (force_steps s))
clean_idle s up clean = by s.down s.dirty up clean
  where
    by : (d : Option ℕ) (dirty : List ℕ) → d ≡ None → dirty ≡ [] → IsTrue (is_idle (Test (option_map Why.Down d) ∷ Force (nat_lt 0 (length dirty)) ∷ []))
    by None [] none clean = refl
    by None (x ∷ xs) none clean = absurd (cc clean)
    by (Some place) dirty none clean = absurd (cc none)

-- ---- what is written

pub wrote_then : (a b c : Ledger) (m n : ℕ) → b ≡ wrote a m → c ≡ wrote b n → c ≡ wrote a (m + n)
wrote_then a b c m n first then =
    then ∙ ap (λ (l : Ledger). wrote l n) first ∙ ap (λ (k : ℕ). record a { written = k }) (omega arith)

pub wrote_nothing : (a : Ledger) → a ≡ wrote a 0
wrote_nothing a = ap (λ (k : ℕ). record a { written = k }) (omega arith)

-- what was healed, of two kinds
pub healed_both : (a b c : Ledger) (m n told : ℕ) → told ≡ min (m + n) (2 ^ 32 - 1) → b ≡ wrote a m → c ≡ wrote b n → WritesHealed 0 a c told
healed_both a b c m n told is first then = record { healed = m + n; tells = is; written = let is : c.written ≡ a.written + (m + n) = ap (λ (l : Ledger). l.written) (wrote_then a b c m n first then) in omega (arith, is) }

pub healed_read : (a b c : Ledger) (others told : ℕ) → c ≡ b → WritesHealed others a b told → WritesHealed others a c told
healed_read a b c others told same x = record { healed = x.healed; tells = x.tells; written = ap (λ (l : Ledger). l.written) same ∙ x.written }

-- behind a force that wrote so many
pub healed_behind : (a b c : Ledger) (n told : ℕ) → b.written ≡ a.written + n → WritesHealed 0 b c told → WritesHealed n a c told
healed_behind a b c n told first x = record { healed = x.healed; tells = x.tells; written = let then = x.written in omega (arith, first, then) }

pub written_all : (First Then : Type 0) → (Then → First) → (a b c : Ledger) (n : ℕ) → (First → b.written ≡ a.written + n) → (r : Result Healed Refusal) → IfOk r (λ x. Then → WritesHealed 0 b c x.sectors) → IfOk r (λ x. Then → WritesHealed n a c x.sectors)
written_all First Then back a b c n first (Ok x) then = λ t. healed_behind a b c n x.sectors (first (back t)) (then t)
written_all First Then back a b c n first (Err why) then = tt
