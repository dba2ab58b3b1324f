-- No line of a script asks for a scrub, an upgrade or a growth, and no command that is made up is one.
use Rattle.std.proofs.Common.{◌≡◌, ℕ, zero, suc, ◌+◌, ◌%◌, Bool, true, false, List, [], ◌∷◌, length, take, drop, Option, None, Some, Result, Ok, Err, subst}
use Rattle.std.specs.Prelude.{◌&&◌, ◌==◌, IfOk, IfSome, codes, nat_le, nat_lt, slice_index, if◌then◌else◌}
use Rattle.std.specs.List.{AllByRecursion}
use Rattle.fsd_texts.specs.declared.asking.Asking.{Asking}
use Rattle.fsd_texts.specs.declared.asking.Asking.TheVariants.{OfClient, Piece, Plainly, Put}
use Rattle.fsd_bytes.specs.Bytes.{same_bytes}
use Rattle.fsd_bytes.specs.declared.key.Key.{Key}
use Rattle.fsd_bytes.specs.Keys.{key_of}
use Rattle.fsd_texts.specs.declared.bad_line.Cause.{Cause}
use Rattle.fsd_texts.specs.declared.bad_line.Cause.TheVariants.{NoNewlineAfterBytes, ShortBytes, UnknownWord}
use Rattle.fsd_texts.specs.declared.call.Call.{Call}
use Rattle.fsd_texts.specs.declared.call.Call.TheVariants as Calls
use Rattle.fsd_texts.specs.declared.command.Command.{Command}
use Rattle.fsd_texts.specs.declared.command.Command.TheVariants as Word
use Rattle.fsd_texts.specs.declared.end.End.TheVariants.{TooLong}
use Rattle.fsd_texts.specs.declared.script_command.ScriptCommand.{ScriptCommand}
use Rattle.fsd_texts.specs.declared.script_command.ScriptCommand.TheVariants as Asked
use Rattle.fsd_texts.specs.Generator.{amount_of, command_of_draw, command_of_kind, draw_of, drawn_kind, made_bytes, made_from, made_name, name_number, next_state}
use Rattle.fsd_texts.specs.Script.{CommandRead, ◌>>=◌, Script, asked_by, asks, asks_alone, asks_begin, asks_client, asks_keep, asks_lone, asks_move, asks_piece, asks_put, call_with_field, call_with_none, command_at, commands_from, key_in, line_at, lone_in, lone_words, max_line, name_in, needs_more, number_in, pattern_in, script_from, then_more, whole_command, taking_bytes, with_field, with_no_field, words_of}

-- another command than a scrub, an upgrade and a growth
abbrev pub IsOther : Command → Type 0
IsOther Word.Scrub = ⊥
IsOther Word.Upgrade = ⊥
IsOther (Word.Grow sectors) = ⊥
IsOther command = Unit {0}

pub no_scrub : (command : Command) → IsOther command → command ≡ Word.Scrub → ⊥
no_scrub command other is = subst IsOther is other

abbrev pub AreOthers : List Command → Type 0
AreOthers commands = AllByRecursion IsOther commands

-- so it is of a script's command
abbrev pub IsOtherIn : ScriptCommand → Type 0
IsOtherIn (Asked.Plain command) = IsOther command
IsOtherIn (Asked.OfClient client call) = Unit {0}

abbrev pub AreOthersIn : List ScriptCommand → Type 0
AreOthersIn commands = AllByRecursion IsOtherIn commands

-- ---- what is read, if anything is

then_read : {A B : Type 0} (P : B → Type 0) (f : A → Result B Cause) → ((x : A) → IfOk (f x) P) → (read : Result A Cause) → IfOk (read >>= f) P
then_read P f each (Ok x) = each x
then_read P f each (Err cause) = tt

-- the first of these that is so, or the last
abbrev first_of : {A : Type 0} → List (Bool × A) → A → A
first_of [] last = last
first_of (x ∷ cases) last = if x.0 then x.1 else first_of cases last

pick : {A : Type 0} (P : A → Type 0) (b : Bool) (x y : A) → P x → P y → P (if b then x else y)
pick P true x y one other = one
pick P false x y one other = other

each_first : {A : Type 0} (P : A → Type 0) (cases : List (Bool × A)) (last : A) → AllByRecursion (λ x. P x.1) cases → P last → P (first_of cases last)
each_first P [] last each other = other
each_first P (x ∷ cases) last each other = pick P x.0 x.1 (first_of cases last) each.0 (each_first P cases last each.1 other)

-- ---- what a line asks for

abbrev AsksOther : Asking → Type 0
AsksOther (Plainly command) = IsOther command
AsksOther (Put name len keep) = Unit {0}
AsksOther (OfClient client call) = Unit {0}
AsksOther (Piece client len) = Unit {0}

abbrev kept_for : List ℕ → ℕ → ℕ → Result Asking Cause
kept_for n l k = Ok (Put n l (Some k))

abbrev put_for : List ℕ → ℕ → Result Asking Cause
put_for n l = Ok (Put n l None)

put_asks : (fields : List (List ℕ)) → IfOk (asks_put fields) AsksOther
put_asks (name ∷ len ∷ []) = then_read AsksOther (λ n. number_in len >>= λ l. put_for n l) (λ n. then_read AsksOther (λ l. put_for n l) (λ l. tt) (number_in len)) (name_in name)
put_asks (name ∷ len ∷ keep ∷ []) =
    then_read AsksOther (λ n. number_in len >>= λ l. (number_in keep >>= λ k. kept_for n l k))
    (λ n. then_read AsksOther (λ l. number_in keep >>= λ k. kept_for n l k) (λ l. then_read AsksOther (λ k. kept_for n l k) (λ k. tt) (number_in keep)) (number_in len)) (name_in name)
put_asks other = tt

abbrev keep_for : List ℕ → ℕ → Result Asking Cause
keep_for n k = Ok (Plainly (Word.Keep n k))

keep_asks : (fields : List (List ℕ)) → IfOk (asks_keep fields) AsksOther
keep_asks (name ∷ keep ∷ []) = then_read AsksOther (λ n. number_in keep >>= λ k. keep_for n k) (λ n. then_read AsksOther (λ k. keep_for n k) (λ k. tt) (number_in keep)) (name_in name)
keep_asks other = tt

abbrev move_for : Key → List ℕ → Result Asking Cause
move_for k n = Ok (Plainly (Word.Move k n))

move_asks : (fields : List (List ℕ)) → IfOk (asks_move fields) AsksOther
move_asks (key ∷ name ∷ []) = then_read AsksOther (λ k. name_in name >>= λ n. move_for k n) (λ k. then_read AsksOther (λ n. move_for k n) (λ n. tt) (name_in name)) (key_in key)
move_asks other = tt

no_field : (command : Command) → IsOther command → (fields : List (List ℕ)) → IfOk (with_no_field command fields) AsksOther
no_field command other [] = other
no_field command other (w ∷ fields) = tt

abbrev plainly : {A : Type 0} → (A → Command) → A → Result Asking Cause
plainly make x = Ok (Plainly (make x))

one_field : {A : Type 0} (read : List ℕ → Result A Cause) (make : A → Command) → ((x : A) → IsOther (make x)) → (fields : List (List ℕ)) → IfOk (with_field read make fields) AsksOther
one_field read make other (w ∷ []) = then_read AsksOther (plainly make) other (read w)
one_field read make other fields = tt

abbrev ReadsOther : Result Asking Cause → Type 0
ReadsOther read = IfOk read AsksOther

abbrev is_word : List ℕ → List ℕ → Result Asking Cause → Bool × Result Asking Cause
is_word word other read = (same_bytes word other, read)

-- of a client

abbrev call_for : ℕ → Call → Result Asking Cause
call_for c call = Ok (OfClient c call)

begin_asks : (fields : List (List ℕ)) → IfOk (asks_begin fields) AsksOther
begin_asks (client ∷ name ∷ len ∷ []) =
    then_read AsksOther (λ c. name_in name >>= λ n. (number_in len >>= λ l. call_for c (Calls.Begin n l)))
    (λ c. then_read AsksOther (λ n. number_in len >>= λ l. call_for c (Calls.Begin n l)) (λ n. then_read AsksOther (λ l. call_for c (Calls.Begin n l)) (λ l. tt) (number_in len)) (name_in name)) (number_in client)
begin_asks other = tt

abbrev piece_for : ℕ → ℕ → Result Asking Cause
piece_for c l = Ok (Piece c l)

piece_asks : (fields : List (List ℕ)) → IfOk (asks_piece fields) AsksOther
piece_asks (client ∷ len ∷ []) = then_read AsksOther (λ c. number_in len >>= λ l. piece_for c l) (λ c. then_read AsksOther (λ l. piece_for c l) (λ l. tt) (number_in len)) (number_in client)
piece_asks other = tt

call_field : {A : Type 0} (read : List ℕ → Result A Cause) (make : A → Call) (fields : List (List ℕ)) → IfOk (call_with_field read make fields) AsksOther
call_field read make (client ∷ w ∷ []) = then_read AsksOther (λ c. read w >>= λ x. call_for c (make x)) (λ c. then_read AsksOther (λ x. call_for c (make x)) (λ x. tt) (read w)) (number_in client)
call_field read make other = tt

call_none : (call : Call) (fields : List (List ℕ)) → IfOk (call_with_none call fields) AsksOther
call_none call (client ∷ []) = then_read AsksOther (λ c. call_for c call) (λ c. tt) (number_in client)
call_none call other = tt

client_asks : (word : List ℕ) (fields : List (List ℕ)) → IfOk (asks_client word fields) AsksOther
client_asks word fields =
    each_first ReadsOther
    (is_word word (codes "begin") (asks_begin fields) ∷ is_word word (codes "piece") (asks_piece fields) ∷ is_word word (codes "close") (call_with_none Calls.Close fields) ∷ is_word word (codes "drop") (call_with_none Calls.Drop fields)
    ∷ is_word word (codes "open") (call_with_field key_in Calls.Open fields) ∷ is_word word (codes "next") (call_with_field number_in Calls.Next fields) ∷ is_word word (codes "done") (call_with_none Calls.Done fields) ∷ [])
    (Err UnknownWord)
    (begin_asks fields, (piece_asks fields, (call_none Calls.Close fields, (call_none Calls.Drop fields, (call_field key_in Calls.Open fields, (call_field number_in Calls.Next fields, (call_none Calls.Done fields, tt))))))) tt

-- by a word that stands alone

abbrev AreOtherWords : List (List ℕ × Command) → Type 0
AreOtherWords lone = AllByRecursion (λ x. IsOther x.1) lone

lone_others : AreOtherWords lone_words
lone_others = (tt, (tt, (tt, tt)))

found_other : (lone : List (List ℕ × Command)) → AreOtherWords lone → (word : List ℕ) → IfSome (lone_in lone word) IsOther
found_other [] others word = tt
found_other (x ∷ lone) others word = pick (λ found. IfSome found IsOther) (same_bytes word x.0) (Some x.1) (lone_in lone word) others.0 (found_other lone others.1 word)

lone_asks : (found : Option Command) → IfSome found IsOther → (word : List ℕ) (fields : List (List ℕ)) → IfOk (asks_lone found word fields) AsksOther
lone_asks (Some command) other word fields = no_field command other fields
lone_asks None other word fields = client_asks word fields

alone_asks : (word : List ℕ) (fields : List (List ℕ)) → IfOk (asks_alone word fields) AsksOther
alone_asks word fields = lone_asks (lone_in lone_words word) (found_other lone_words lone_others word) word fields

word_asks : (word : List ℕ) (fields : List (List ℕ)) → IfOk (asks word fields) AsksOther
word_asks word fields =
    each_first ReadsOther
    (is_word word (codes "put") (asks_put fields) ∷ is_word word (codes "delete") (with_field key_in Word.Delete fields) ∷ is_word word (codes "keep") (asks_keep fields) ∷ is_word word (codes "move") (asks_move fields) ∷ is_word word (codes "list") (with_field pattern_in Word.List fields) ∷ is_word word (codes "get") (with_field key_in Word.Get fields) ∷ [])
    (asks_alone word fields)
    (put_asks fields, (one_field key_in Word.Delete (λ key. tt) fields, (keep_asks fields, (move_asks fields, (one_field pattern_in Word.List (λ pattern. tt) fields, (one_field key_in Word.Get (λ key. tt) fields, tt)))))) (alone_asks word fields)

line_asks : (words : List (List ℕ)) → IfOk (asked_by words) AsksOther
line_asks [] = tt
line_asks ([] ∷ []) = tt
line_asks ([] ∷ (field ∷ fields)) = word_asks [] (field ∷ fields)
line_asks ((b ∷ word) ∷ fields) = word_asks (b ∷ word) fields

-- ---- the command that begins the bytes

abbrev pub GivesOther : ScriptCommand × List ℕ → Type 0
GivesOther x = IsOtherIn x.0

abbrev ReadsWhole : CommandRead → Type 0
ReadsWhole read = IfOk read GivesOther

abbrev short_of : ℕ → List ℕ → Bool × CommandRead
short_of len rest = (nat_le (length rest) len, Err ShortBytes)

abbrev bytes_of : (List ℕ → ScriptCommand) → ℕ → List ℕ → Bool × CommandRead
bytes_of make len rest = (slice_index rest len == 10, Ok (make (take len rest), drop (len + 1) rest))

bytes_other : (make : List ℕ → ScriptCommand) → ((bytes : List ℕ) → IsOtherIn (make bytes)) → (len : ℕ) (rest : List ℕ) → IfOk (taking_bytes make len rest) GivesOther
bytes_other make other len rest = each_first ReadsWhole (short_of len rest ∷ bytes_of make len rest ∷ []) (Err NoNewlineAfterBytes) (tt, (other (take len rest), tt)) tt

whole_other : (asking : Asking) (rest : List ℕ) → AsksOther asking → IfOk (whole_command asking rest) GivesOther
whole_other (Plainly command) rest other = other
whole_other (Put name len keep) rest other = bytes_other (λ bytes. Asked.Plain (Word.Put name bytes keep)) (λ bytes. tt) len rest
whole_other (OfClient client call) rest other = tt
whole_other (Piece client len) rest other = bytes_other (λ bytes. Asked.OfClient client (Calls.Piece bytes)) (λ bytes. tt) len rest

asked_other : (read : Result Asking Cause) (rest : List ℕ) → IfOk read AsksOther → IfOk (read >>= λ asking. whole_command asking rest) GivesOther
asked_other (Ok asking) rest other = whole_other asking rest other
asked_other (Err cause) rest other = tt

abbrev behind_line : List ℕ × List ℕ → Result (ScriptCommand × List ℕ) Cause
behind_line line = asked_by (words_of line.0) >>= λ asking. whole_command asking line.1

pub command_other : (bytes : List ℕ) → IfOk (command_at bytes) GivesOther
command_other bytes = then_read GivesOther behind_line (λ line. asked_other (asked_by (words_of line.0)) line.1 (line_asks (words_of line.0))) (line_at max_line bytes)

-- ---- a script

more_others : (ordinal : ℕ) (more : List ℕ → Script) → ((rest : List ℕ) → AreOthersIn (more rest).0) → (read : Result (ScriptCommand × List ℕ) Cause) → IfOk read GivesOther → AreOthersIn (then_more ordinal more read).0
more_others ordinal more others (Err cause) other = tt
more_others ordinal more others (Ok x) other = (other, others x.1)

from_others : (most ordinal : ℕ) (bytes : List ℕ) → AreOthersIn (commands_from most ordinal bytes).0
from_others most ordinal [] = tt
from_others zero ordinal (b ∷ bytes) = tt
from_others (suc most) ordinal (b ∷ bytes) = more_others ordinal (λ rest. commands_from most (ordinal + 1) rest) (λ rest. from_others most (ordinal + 1) rest) (command_at (b ∷ bytes)) (command_other (b ∷ bytes))

cut_others : (long : Bool) (s : Script) → AreOthersIn s.0 → AreOthersIn (if long then (s.0, TooLong) else s).0
cut_others true s others = others
cut_others false s others = others

pub script_others : (most ordinal : ℕ) (input : List ℕ) → AreOthersIn (script_from most ordinal input).0
script_others most ordinal input =
    let s = commands_from (length (take most input)) ordinal (take most input) in
    cut_others (nat_lt most (length input) && needs_more s.1) s (from_others (length (take most input)) ordinal (take most input))

-- ---- commands that are made up

abbrev case_of : Bool → Command → Bool × Command
case_of is command = (is, command)

kind_other : (kind i q u : ℕ) → IsOther (command_of_kind kind i q u)
kind_other kind i q u =
    each_first IsOther
    (case_of (nat_lt kind 4) (Word.Put (made_name q) (made_bytes i q (u % 3000)) None) ∷ case_of (kind == 4) (Word.Delete (key_of (made_name q) (1 + u % 8))) ∷ case_of (kind == 5) (Word.Keep (made_name q) (u % 4)) ∷ case_of (kind == 6) (Word.Get (key_of (made_name q) (1 + u % 8))) ∷ [])
    Word.Force (tt, (tt, (tt, (tt, tt)))) tt

draw_other : (i r : ℕ) → IsOther (command_of_draw i r)
draw_other i r = kind_other (drawn_kind r) i (name_number r) (amount_of r)

pub made_others : (count i x : ℕ) → AreOthers (made_from count i x)
made_others zero i x = tt
made_others (suc count) i x = (draw_other i (draw_of (next_state x)), made_others count (i + 1) (next_state x))
