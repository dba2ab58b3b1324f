-- How many sectors the stages of a put write.
use Rattle.std.proofs.Common.{◌≡◌, ◌⊎◌, inl, inr, ℕ, ◌+◌, ◌≤◌, Bool, true, false, cond, ◌||◌, nat_lt, List, length, None, Result, Ok, Err, sym, ap, ◌∙◌, arith}
use Rattle.fsd_bytes.specs.declared.refusal.Refusal.{Refusal}
use Rattle.fsd_formats.specs.declared.entry.Entry.{Entry}
use Rattle.run_table.specs.declared.run.Run.{Run}
use Rattle.run_table.specs.Space.{pick}
use Rattle.sector_disk.specs.Machine.{Ledger}
use Rattle.fsd_sound.specs.Mounted.{most_waiting}
use Rattle.volume_contract.specs.Order.{with_drawn}
use Rattle.volume_contract.specs.State.{Counted, IsForced, State, change_len, force_len, forces_first, forces_for_place, put_len}
use Rattle.volume_laws.specs.Placing.{HasStored, place_len, place_now, store_len}
use Rattle.volume_laws.proofs.PlaceSteps.{forces_as_waits, forces_once}
use Rattle.volume_laws.proofs.PlaceLaws.{placed_ok}

-- ---- calls one after another

-- a call that failed has counted no more than this
pub counted_fewer : (T : Type 0) {E : Type 0} (why : E) (n m : ℕ) (a b : Ledger) → n ≤ m → Counted {T = T} {E = E} (Err why) n a b → Counted {T = T} {E = E} (Err why) m a b
counted_fewer T why n m a b le counted = (counted.0, omega (arith, counted.1, le))

-- what comes behind writes nothing
pub counted_as : {T E : Type 0} (r : Result T E) (n : ℕ) (a b : Ledger) → b.written ≡ a.written + n → Counted r n a b
counted_as (Ok x) n a b counted = counted
counted_as (Err why) n a b counted = (omega (arith, counted), omega (arith, counted))

-- ---- a place

-- where there is one, none was forced for it
pub place_counted : (s : State) (need : ℕ) (r : Result (List Run) Refusal) → r ≡ place_now s need → (a : Ledger) → Counted r (place_len s need) a a
place_counted s need (Ok runs) is a =
    let none : place_len s need ≡ 0 = ap (λ (b : Bool). cond b (force_len s) 0) (forces_once s need runs (placed_ok s need runs (sym is))) in
    omega (arith, none)
place_counted s need (Err why) is a = (omega arith, omega arith)

pub place_forced_len : (s : State) (need : ℕ) → pick s.free need ≡ None → s.waits ≡ true → place_len s need ≡ force_len s
place_forced_len s need none waits = ap (λ (b : Bool). cond b (force_len s) 0) (forces_as_waits s need none ∙ waits)

-- ---- with the version, and with the force that comes by itself

pub store_within : (s : State) (need : ℕ) → store_len s need ≤ put_len s need
store_within s need = by (forces_for_place s need) (forces_first s)
  where
    by : (b c : Bool) → need + cond b (force_len s) 0 ≤ need + cond (b || c) (force_len s) 0
    by true c = omega arith
    by false true = omega arith
    by false false = omega arith

pub put_len_is : (s t : State) (need : ℕ) (e : Entry) → HasStored need s t e → store_len s need + change_len t ≡ put_len s need
put_len_is s t need e has = by (forces_for_place s need) has.place.went
  where
    by : (b : Bool) → ((b ≡ false) × (has.middle ≡ s)) ⊎ ((b ≡ true) × IsForced s has.middle) → need + cond b (force_len s) 0 + change_len t ≡ need + cond (b || forces_first s) (force_len s) 0
    by true (inl way) = absurd (cc way.0)
    by true (inr way) =
        let none : change_len t ≡ 0 =
        ap change_len has.is ∙ ap (λ (d : List ℕ). cond (nat_lt most_waiting (length d)) (force_len (with_drawn has.middle)) 0) (ap (λ (x : State). x.dirty) way.1.is) in
        omega (arith, none)
    by false (inl way) =
        let same : change_len t ≡ cond (forces_first s) (force_len s) 0 = ap change_len (has.is ∙ ap with_drawn way.1) in
        omega (arith, same)
    by false (inr way) = absurd (cc way.0)
