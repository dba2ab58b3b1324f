-- What is said where a volume is down, and of a look-up where it is not.
use Rattle.std.proofs.Common.{◌≡◌, ℕ, Bool, true, false, cond, [], ◌∷◌, option_map, Option, None, Some, Result, Ok, Err, sym, ap, subst}
use Rattle.volume_layout.specs.Layout.{home_a}
use Rattle.fsd_bytes.specs.declared.refusal.Refusal.{Refusal}
use Rattle.fsd_bytes.specs.declared.refusal.Refusal.TheVariants as Why
use Rattle.fsd_formats.specs.declared.entry.Entry.{Entry}
use Rattle.volume_contract.specs.Order.{Asks, LookUp, Test, entry_steps, is_idle}
use Rattle.volume_contract.specs.State.{State}
use Rattle.volume_laws.specs.Taken.{are_taken, down_fault, met_entry}
use Rattle.volume_laws.specs.Volume.{VolumeValue}

-- it is refused as down at some place
pub told_down : (P : Refusal → Type 0) → ((place : ℕ) → P (Why.Down place)) → (d : Option ℕ) (why : Refusal) → down_fault d ≡ Err why → P why
told_down P at None why is = absurd (cc is)
told_down P at (Some place) why is = let same : Why.Down place ≡ why = cc is in subst P same (at place)

pub down_step : (d : Option ℕ) (why : Refusal) → down_fault d ≡ Err why → option_map Why.Down d ≡ Some why
down_step None why is = absurd (cc is)
down_step (Some place) why is = let same : Why.Down place ≡ why = cc is in ap (λ (r : Refusal). Some r) same

-- ---- where it is up

pub busy_entry : (s : State) → s.down ≡ None → is_idle (entry_steps s) ≡ true → ⊥
busy_entry s up idle =
    let no : is_idle (entry_steps s) ≡ false = ap (λ (d : Option ℕ). is_idle (Test (option_map Why.Down d) ∷ LookUp ∷ Asks Why.NoSuch ∷ [])) up in
    absurd (cc (no, idle))

-- an entry that was met is the answer, or tells its page as unsound
pub met_either : (P : Result Entry Refusal → Type 0) (v : VolumeValue) (page : ℕ) (e : Entry) (r : Result Entry Refusal) → r ≡ met_entry v page e → P (Ok e) → P (Err (Why.Unsound (home_a v.layout page))) → P r
met_either P v page e r met ok err = subst P (sym met) (by (are_taken v e.runs))
  where
    by : (b : Bool) → P (cond b (Ok e) (Err (Why.Unsound (home_a v.layout page))))
    by true = ok
    by false = err
