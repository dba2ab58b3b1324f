-- One step of a reader after others.
use Rattle.std.proofs.Common.{subst, ◌≡◌, true, false, cond, ℕ, ◌+◌, ◌-◌, ◌<◌, ◌≤◌, List, ◌++◌, length, take, drop, Option, Some, None, Err, refl, sym, ap, ◌∙◌, arith, append_assoc, append-nil, zero, suc, length-append, length-drop, length-take-le, drop-drop, Ok, Result}
use Rattle.std.specs.Prelude.{IfSome, is_none, is_some}
use Rattle.std.specs.Result.{IsErrAnd}
use Rattle.std.proofs.Math.Seq.{take-add}
use Rattle.sector_disk.specs.Machine.{Ledger, took}
use Rattle.fsd_texts.specs.declared.script_command.ScriptCommand.{ScriptCommand}
use Rattle.fsd_texts.specs.declared.end.End.{End}
use Rattle.fsd_texts.specs.Script.{Script, max_input, script_from}
use Rattle.script_text.specs.declared.fault.BodyFault.{BodyFault}
use Rattle.script_text.specs.declared.fault.BodyFault.TheVariants as Stops
use Rattle.fsd_texts.specs.declared.end.End.TheVariants as Ends
use Rattle.script_text.specs.declared.fault.ScriptFault.{ScriptFault}
use Rattle.script_text.specs.declared.fault.ScriptFault.TheVariants as Faults
use Rattle.script_text.specs.Reading.{Ahead, GivesCommand, GivesFirst, ReadsFurther, WantsMore, IsSpelledCommand, NoneWaits, Reading, end_answer, room_of, script_left}
use Rattle.script_text.specs.Taking.{TakesBytes, MovesInput}
use Rattle.script_text.proofs.LeftLaws.{after, from_gives}
use Rattle.script_text.proofs.ReaderLaws.{IsOpen, room_fits, script_open}

-- ---- a command is given

pub gives_next : (r new : Reading) (command : ScriptCommand) (input : List ℕ) → IsOpen r → GivesCommand r command new → script_left r input ≡ after command (script_left new input)
gives_next r new command input h given =
    let shorter : Reading = record { waiting = drop given.used r.waiting; taken = r.taken; given = r.given + 1; end = r.end } in
    let less : length (drop given.used r.waiting) ≡ length r.waiting - given.used = length-drop given.used r.waiting in
    let room : room_of r - given.used ≡ room_of shorter = omega (arith, less, given.within, h.waits, h.within) in
    script_open r input h.open_still ∙ from_gives (room_of r) (r.given + 1) r.waiting (room_fits r h) input command given.used given.within given.read
    ∙ ap (λ (n : ℕ). after command (script_from n (r.given + 1 + 1) (drop given.used r.waiting ++ input))) room
    ∙ sym (ap (after command) (script_open shorter input h.open_still))
    ∙ sym (ap (λ (n : Reading). after command (script_left n input)) given.new_is)

-- ---- what is taken

-- bytes are taken only where they are needed
needed_then : (first second : ℕ) (a b input : List ℕ) → (0 < first → WantsMore a) → (0 < second → WantsMore b) → b ≡ a ++ take first input → 0 < first + second → WantsMore a
needed_then zero second a b input one two is some = subst WantsMore (is ∙ append-nil a) (two (omega (arith, some)))
needed_then (suc first) second a b input one two is some = one (omega arith)

pub grows_then : (a b c : Reading) (x y z : Ledger) → b.end ≡ None → TakesBytes a b x y → TakesBytes b c y z → TakesBytes a c x z
grows_then a b c x y z open_still first second =
    let left : y.input ≡ drop first.count x.input = ap (λ (l : Ledger). l.input) first.left in
    record {
      count = first.count + second.count;
      some = omega (arith, first.some, second.some, ap length left, length-drop first.count x.input);
      left = second.left ∙ ap (λ (l : Ledger). took l second.count) first.left ∙ ap (λ (i : List ℕ). record { input = i; attaches = x.attaches; written = x.written; syncs = x.syncs }) (drop-drop second.count first.count x.input);
      taken = omega (arith, first.taken, second.taken);
      needed = needed_then first.count second.count a.waiting b.waiting x.input first.needed second.needed first.waiting;
      waiting =
          second.waiting ∙ ap (λ (w : List ℕ). w ++ take second.count y.input) first.waiting ∙ append_assoc a.waiting (take first.count x.input) (take second.count y.input)
          ∙ ap (λ (i : List ℕ). a.waiting ++ (take first.count x.input ++ take second.count i)) left
          ∙ sym (ap (λ (i : List ℕ). a.waiting ++ i) (take-add first.count second.count x.input));
      ahead = λ still rest.
          ap (λ (i : List ℕ). script_left a (i ++ rest)) (take-add first.count second.count x.input)
          ∙ ap (script_left a) (append_assoc (take first.count x.input) (take second.count (drop first.count x.input)) rest)
          ∙ ap (λ (i : List ℕ). script_left a (take first.count x.input ++ (take second.count i ++ rest))) (sym left)
          ∙ first.ahead open_still (take second.count y.input ++ rest) ∙ second.ahead still rest;
    }

waits_more : (a b : Reading) (x y : Ledger) (grows : TakesBytes a b x y) → length b.waiting ≡ length a.waiting + grows.count
waits_more a b x y grows = ap length grows.waiting ∙ length-append a.waiting (take grows.count x.input) ∙ ap (λ (n : ℕ). length a.waiting + n) (length-take-le grows.count x.input grows.some)

pub moves_from : (a b c : Reading) (command : ScriptCommand) (x y : Ledger) → IsOpen b → TakesBytes a b x y → GivesCommand b command c → MovesInput (Ok (Some command)) a c x y
moves_from a b c command x y h grows given = record {
  count = grows.count;
  some = grows.some;
  left = grows.left;
  taken = ap (λ (r : Reading). r.taken) given.new_is ∙ grows.taken;
  needed = grows.needed;
  used = given.used;
  kept = λ none. absurd cc;
  within = omega (arith, given.within, waits_more a b x y grows);
  waiting = ap (λ (r : Reading). r.waiting) given.new_is ∙ ap (drop given.used) grows.waiting;
  ahead = λ rest. grows.ahead h.open_still rest ∙ gives_next b c command rest h given;
}

abbrev pub Answer : Type 0
Answer = Result (Option ScriptCommand) ScriptFault

pub moves_still : (result : Answer) (a b c : Reading) (x y : Ledger) → TakesBytes a b x y → c ≡ b → ((s t : Script) → (b.end ≡ None → s ≡ t) → Ahead result s t) → MovesInput result a c x y
moves_still result a b c x y grows same ahead_of = record {
  count = grows.count;
  some = grows.some;
  left = grows.left;
  taken = ap (λ (r : Reading). r.taken) same ∙ grows.taken;
  needed = grows.needed;
  used = 0;
  within = omega arith;
  kept = λ none. refl;
  waiting = ap (λ (r : Reading). r.waiting) same ∙ grows.waiting;
  ahead = λ rest. ahead_of (script_left a (take grows.count x.input ++ rest)) (script_left c rest) (λ still. grows.ahead still rest ∙ ap (λ (r : Reading). script_left r rest) (sym same));
}

-- a fault and an end
pub fault_ahead : (fault : ScriptFault) (s t : Script) → s ≡ t → Ahead (Err fault) s t
fault_ahead (Faults.Bad bad) s t e = tt
fault_ahead Faults.Input s t e = e
fault_ahead Faults.TooLong s t e = tt
fault_ahead Faults.Memory s t e = e

pub end_ahead : (end : End) (s t : Script) → Ahead (end_answer end) s t
end_ahead Ends.Done s t = tt
end_ahead (Ends.Bad bad) s t = tt
end_ahead Ends.TooLong s t = tt

pub fault_waits : (fault : ScriptFault) (waiting : List ℕ) → WantsMore waiting → NoneWaits (Err fault) waiting
fault_waits (Faults.Bad bad) waiting short = tt
fault_waits Faults.Input waiting short = short
fault_waits Faults.TooLong waiting short = tt
fault_waits Faults.Memory waiting short = tt

pub end_waits : (end : End) (waiting : List ℕ) → NoneWaits (end_answer end) waiting
end_waits Ends.Done waiting = tt
end_waits (Ends.Bad bad) waiting = tt
end_waits Ends.TooLong waiting = tt

pub answer_ahead : (end : Option End) (result : Answer) (s t : Script) → is_some end ≡ true → IfSome end (λ e. result ≡ end_answer e) → Ahead result s t
answer_ahead None result s t some is = absurd cc
answer_ahead (Some end) result s t some is = subst (λ (r : Answer). Ahead r s t) (sym is) (end_ahead end s t)

end_spelled : (end : End) → IsSpelledCommand (end_answer end)
end_spelled Ends.Done = tt
end_spelled (Ends.Bad bad) = tt
end_spelled Ends.TooLong = tt

pub answer_spelled : (end : Option End) (result : Answer) → is_some end ≡ true → IfSome end (λ e. result ≡ end_answer e) → IsSpelledCommand result
answer_spelled None result some is = absurd cc
answer_spelled (Some end) result some is = subst IsSpelledCommand (sym is) (end_spelled end)

pub answer_waits : (end : Option End) (result : Answer) (waiting : List ℕ) → is_some end ≡ true → IfSome end (λ e. result ≡ end_answer e) → NoneWaits result waiting
answer_waits None result waiting some is = absurd cc
answer_waits (Some end) result waiting some is = subst (λ (r : Answer). NoneWaits r waiting) (sym is) (end_waits end waiting)

pub fault_is : (result : Answer) (fault : ScriptFault) → IsErrAnd result (λ e. e ≡ fault) → Err fault ≡ result
fault_is (Ok x) fault h = absurd h
fault_is (Err e) fault h = ap (λ (f : ScriptFault). Err f) (sym h)

-- ---- the measure

falls_by : (was is : Option End) (before now : ℕ) → is_none was ≡ true → (is ≡ None → before < now) → (is ≡ None → now ≤ max_input) → before ≤ max_input → cond (is_none is) (max_input + 1 - now) 0 < cond (is_none was) (max_input + 1 - before) 0
falls_by None None before now still more most within = omega (arith, more refl, most refl)
falls_by None (Some end) before now still more most within = omega arith
falls_by (Some end) is before now still more most within = absurd cc

pub falls : (old new : Reading) → is_none old.end ≡ true → ReadsFurther old new → cond (is_none new.end) (max_input + 1 - new.taken) 0 < cond (is_none old.end) (max_input + 1 - old.taken) 0
falls old new still on = falls_by old.end new.end old.taken new.taken still on.more on.most on.within

-- ---- a reader that had ended takes no step

pub none_of : (end : Option End) → is_some end ≡ false → end ≡ None
none_of None h = refl
none_of (Some end) h = absurd cc

never_ended : (end : Option End) (first here : Reading) (P : End → Type 0) → first.end ≡ end → IfSome end (λ e. here ≡ first) → here.end ≡ None → IfSome end P
never_ended None first here P is same still = tt
never_ended (Some end) first here P is same still = let e : first.end ≡ here.end = ap (λ (r : Reading). r.end) (sym same) in absurd cc

-- nothing is owed of an end that was known, where the reader has not ended
pub never : (first inside here : Reading) (P : End → Type 0) → inside ≡ here → is_some inside.end ≡ false → IfSome first.end (λ e. here ≡ first) → IfSome first.end P
never first inside here P is none again = never_ended first.end first here P refl again (sym (ap (λ (r : Reading). r.end) is) ∙ none_of inside.end none)

-- where no command is given the reader is as it was
pub as_it_was : (old new : Reading) (fault : BodyFault) → GivesFirst old (Err fault) new → new ≡ old
as_it_was old new (Stops.Bad cause) h = h.1
as_it_was old new Stops.Memory h = h
