-- What is still to come of a script, as a reader goes on.
use Rattle.std.proofs.Common.{◌≡◌, Bool, true, false, cond, ℕ, ◌+◌, ◌-◌, ◌<◌, ◌≤◌, List, [], ◌∷◌, ◌++◌, length, take, drop, Option, Some, None, Err, refl, sym, ap, ◌∙◌, arith, append_assoc, append-nil, length-append, length-drop, length-take-le}
use Rattle.std.specs.Prelude.{nat_lt, min, max, ◌==◌}
use Rattle.std.proofs.lemmas.Bool.{cond-false, ne_eqb, eqb-true, eqb-false, ltb-false, ltb-true}
use Rattle.std.proofs.lemmas.List.{take-append-drop}
use Rattle.sector_disk.specs.Machine.{Ledger}
use Rattle.fsd_texts.specs.declared.bad_line.Cause.{Cause}
use Rattle.fsd_texts.specs.declared.end.End.{End}
use Rattle.fsd_texts.specs.declared.end.End.TheVariants.{Done, Bad, TooLong}
use Rattle.fsd_texts.specs.Script.{command_at, ends_early, max_input, script_from}
use Rattle.script_text.specs.Reading.{IsReading, Reading, end_after, end_by, room_of, script_left, unless_ended}
use Rattle.script_text.specs.Taking.{ComesIn, TakesBytes}
use Rattle.script_text.proofs.LeftLaws.{from_done, from_ends, from_fails, from_long, script, some_wait}

-- a reader that has not ended
pub record IsOpen (r : Reading) : Type 0 where
  pub open_still : r.end ≡ None
  pub waits : length r.waiting ≤ r.taken
  pub within : r.taken ≤ max_input

pub open_of : (bytes : List ℕ) (start taken given : ℕ) (end : Option End) (r : Reading) → IsReading bytes start taken given end
    → record { waiting = drop start bytes; taken = taken; given = given; end = end } ≡ r → r.end ≡ None → IsOpen r
open_of bytes start taken given end r reading is still = record {
  open_still = still;
  waits = omega (arith, reading.each_took, length-drop start bytes, ap (λ (r : Reading). length r.waiting) is, ap (λ (r : Reading). r.taken) is);
  within = omega (arith, reading.most_while_open (ap (λ (r : Reading). r.end) is ∙ still), ap (λ (r : Reading). r.taken) is);
}

-- ---- the script by what waits

pub script_open : (r : Reading) (input : List ℕ) → r.end ≡ None → script_left r input ≡ script_from (room_of r) (r.given + 1) (r.waiting ++ input)
script_open r input still = ap (λ (e : Option End). unless_ended e (script_from (room_of r) (r.given + 1) (r.waiting ++ input))) still

pub room_fits : (r : Reading) → IsOpen r → length r.waiting ≤ room_of r
room_fits r h = omega (arith, h.waits, h.within)

some_here : (r : Reading) (cause : Cause) → 0 < length r.waiting → end_by r cause ≡ Bad (record { line = r.given + 1; cause = cause })
some_here r cause some = cond-false (length r.waiting == 0) Done (Bad (record { line = r.given + 1; cause = cause })) (ne_eqb (length r.waiting) 0 (λ e. omega arith))

pub bad_line : (r : Reading) (cause : Cause) (input : List ℕ) → IsOpen r → command_at r.waiting ≡ Err cause → ends_early cause ≡ false → script [] (end_by r cause) ≡ script_left r input
bad_line r cause input h read late =
    ap (script []) (some_here r cause (some_wait r.waiting cause read late))
    ∙ sym (script_open r input h.open_still ∙ from_fails (room_of r) (r.given + 1) r.waiting (room_fits r h) input cause read late)

-- ---- bytes that are taken

-- where the script ends now, and where nothing is changed
pub stays : (old new : Reading) (ledger : Ledger) → new.taken ≡ old.taken → new.waiting ≡ old.waiting → (new.end ≡ None → ⊥) → TakesBytes old new ledger ledger
stays old new ledger taken waiting ended = record { count = 0; some = omega arith; left = refl; taken = omega arith; needed = λ some. absurd (omega (arith, some)); waiting = waiting ∙ sym (append-nil old.waiting); ahead = λ still rest. absurd (ended still) }

pub nothing_came : (old new : Reading) (before now : Ledger) → new ≡ old → now ≡ before → TakesBytes old new before now
nothing_came old new before now same left = record {
  count = 0;
  some = omega arith;
  left = left;
  taken = ap (λ (r : Reading). r.taken) same ∙ omega arith;
  needed = λ some. absurd (omega (arith, some));
  waiting = ap (λ (r : Reading). r.waiting) same ∙ sym (append-nil old.waiting);
  ahead = λ still rest. ap (λ (r : Reading). script_left r rest) (sym same);
}

ended_here : (r : Reading) (cause : Cause) (waiting : List ℕ) → r.waiting ≡ waiting → length waiting ≤ room_of r → command_at waiting ≡ Err cause → script [] (end_by r cause) ≡ script_from (room_of r) (r.given + 1) (waiting ++ [])
ended_here r cause [] is fits read = ap (λ (w : List ℕ). script [] (cond (length w == 0) Done (Bad (record { line = r.given + 1; cause = cause })))) is ∙ sym (from_done (room_of r) (r.given + 1))
ended_here r cause (b ∷ bytes) is fits read =
    ap (λ (w : List ℕ). script [] (cond (length w == 0) Done (Bad (record { line = r.given + 1; cause = cause })))) is
    ∙ ap (script []) (cond-false (length (b ∷ bytes) == 0) Done (Bad (record { line = r.given + 1; cause = cause })) (ne_eqb (length (b ∷ bytes)) 0 (λ e. omega arith)))
    ∙ sym (ap (script_from (room_of r) (r.given + 1)) (append-nil (b ∷ bytes)) ∙ from_ends (room_of r) (r.given + 1) (b ∷ bytes) fits cause (omega arith) read)

module _ (old : Reading) (h : IsOpen old) (cause : Cause) (read : command_at old.waiting ≡ Err cause) (short : ends_early cause ≡ true) (before now : Ledger) (items : List ℕ) (count : ℕ) (comes : ComesIn old.waiting items count before now)
    (room : ℕ) (room_is : room ≡ max (min (max_input - old.taken) 4096) 1) (roomy : count ≤ room) where
  abbrev new_with : Option End → Reading
  new_with end = record { waiting = items; taken = old.taken + count; given = old.given; end = end }

  none_came : count ≡ 0 → script [] (end_by old cause) ≡ script_left old before.input
  none_came none =
      ended_here old cause old.waiting refl (room_fits old h) read
      ∙ sym (script_open old before.input h.open_still ∙ ap (λ (i : List ℕ). script_from (room_of old) (old.given + 1) (old.waiting ++ i)) (comes.end none))

  too_many : (count ≡ 0 → ⊥) → max_input < old.taken + count → script [] TooLong ≡ script_left old before.input
  too_many some over =
      let all : length old.waiting ≡ room_of old = omega (arith, room_is, roomy, over, h.within, h.waits) in
      sym (script_open old before.input h.open_still ∙ from_long (room_of old) (old.given + 1) old.waiting (room_fits old h) before.input cause all (omega (arith, comes.some, some)) read short)

  some_ahead : (rest : List ℕ) → script_left old (take count before.input ++ rest) ≡ script_left (new_with None) rest
  some_ahead rest =
      let more : length (take count before.input) ≡ count = length-take-le count before.input comes.some in
      let longer : length items ≡ length old.waiting + count = ap length comes.bytes ∙ length-append old.waiting (take count before.input) ∙ ap (λ (n : ℕ). length old.waiting + n) more in
      let same_room : room_of (new_with None) ≡ room_of old = omega (arith, longer, h.waits, h.within) in
      script_open old (take count before.input ++ rest) h.open_still
      ∙ sym (ap (λ (n : ℕ). script_from n (old.given + 1) (items ++ rest)) same_room
      ∙ ap (λ (i : List ℕ). script_from (room_of old) (old.given + 1) (i ++ rest)) comes.bytes
      ∙ ap (script_from (room_of old) (old.given + 1)) (append_assoc old.waiting (take count before.input) rest))

  some_came : script_left (new_with None) now.input ≡ script_left old before.input
  some_came =
      let left : now.input ≡ drop count before.input = ap (λ (l : Ledger). l.input) comes.left in
      sym (some_ahead now.input) ∙ ap (λ (i : List ℕ). script_left old (take count before.input ++ i)) left
      ∙ ap (script_left old) (take-append-drop count before.input)

  by_tests : (none over : Bool) → none ≡ (count == 0) → over ≡ nat_lt max_input (old.taken + count)
      → script_left (new_with (cond none (Some (end_by old cause)) (cond over (Some TooLong) None))) now.input ≡ script_left old before.input
  by_tests true over none_is over_is = none_came (eqb-true count 0 (sym none_is))
  by_tests false true none_is over_is = too_many (eqb-false count 0 (sym none_is)) (ltb-true max_input (old.taken + count) (sym over_is))
  by_tests false false none_is over_is = some_came

  pub taken_on : (end : Option End) → end ≡ end_after (end_by old cause) count (old.taken + count) → script_left (new_with end) now.input ≡ script_left old before.input
  taken_on end is = ap (λ (e : Option End). script_left (new_with e) now.input) is ∙ by_tests (count == 0) (nat_lt max_input (old.taken + count)) refl refl

  pub grown_on : (end : Option End) → TakesBytes old (new_with end) before now
  grown_on end = record {
    count = count;
    some = comes.some;
    left = comes.left;
    taken = refl;
    needed = λ some. record { cause = cause; read = read; early = short };
    waiting = comes.bytes;
    ahead = λ still rest. some_ahead rest ∙ ap (λ (e : Option End). script_left (new_with e) rest) (sym still);
  }

-- ---- an end that is not known after bytes came

open_by : (e : End) (none over : Bool) (count taken : ℕ) → none ≡ (count == 0) → over ≡ nat_lt max_input taken → cond none (Some e) (cond over (Some TooLong) None) ≡ None → (0 < count) × (taken ≤ max_input)
open_by e true over count taken none_is over_is still = absurd (cc still)
open_by e false true count taken none_is over_is still = absurd (cc still)
open_by e false false count taken none_is over_is still = let some = eqb-false count 0 (sym none_is) in (omega (arith, some), ltb-false max_input taken (sym over_is))

-- some came, and no more than may be read
pub open_after : (e : End) (count taken : ℕ) → end_after e count taken ≡ None → (0 < count) × (taken ≤ max_input)
open_after e count taken still = open_by e (count == 0) (nat_lt max_input taken) count taken refl refl still
