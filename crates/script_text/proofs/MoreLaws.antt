-- A command that bytes begin with is the same whatever stands behind them, and so is the cause why they begin with none, unless it is
-- that they end too early.
use Rattle.std.proofs.Common.{◌≡◌, Bool, true, false, cond, ℕ, zero, suc, ◌+◌, ◌<◌, ◌≤◌, List, [], ◌∷◌, ◌++◌, length, take, drop, Result, Ok, Err, refl, sym, ap, ◌∙◌, arith, length-append, length-drop}
use Rattle.std.specs.Prelude.{nat_le, ◌==◌, slice_index}
use Rattle.std.proofs.lemmas.Bool.{leb-false, lt-leb}
use Rattle.std.proofs.lemmas.List.{take-append-le, drop-append-le, get_or_append_left}
use Rattle.fsd_texts.specs.declared.asking.Asking.{Asking}
use Rattle.fsd_texts.specs.declared.asking.Asking.TheVariants.{Plainly, Put, OfClient, Piece}
use Rattle.fsd_texts.specs.declared.bad_line.Cause.{Cause}
use Rattle.fsd_texts.specs.declared.bad_line.Cause.TheVariants.{LongLine, ShortBytes, NoNewlineAfterBytes}
use Rattle.fsd_texts.specs.declared.call.Call.TheVariants as Calls
use Rattle.fsd_texts.specs.declared.script_command.ScriptCommand.{ScriptCommand}
use Rattle.fsd_texts.specs.declared.script_command.ScriptCommand.TheVariants as Asked
use Rattle.fsd_texts.specs.declared.command.Command.TheVariants as Word
use Rattle.fsd_texts.specs.Script.{CommandRead, ◌>>=◌, asked_by, command_at, ends_early, line_at, max_line, whole_command, taking_bytes, words_of}

-- what was read failed for want of more bytes
abbrev pub early : {A : Type 0} → Result A Cause → Bool
early (Ok x) = false
early (Err cause) = ends_early cause

-- the same, with more bytes behind what is left
abbrev pub with_more : {A : Type 0} → Result (A × List ℕ) Cause → List ℕ → Result (A × List ℕ) Cause
with_more (Ok x) more = Ok (x.0, x.1 ++ more)
with_more (Err cause) more = Err cause

-- ---- lines

abbrev LineRead : Type 0
LineRead = Result (List ℕ × List ℕ) Cause

-- an empty line, and a line with a byte in front
abbrev empty_line : List ℕ → LineRead
empty_line bytes = Ok ([], bytes)

abbrev put_on : ℕ → LineRead → LineRead
put_on b read = read >>= λ x. Ok (b ∷ x.0, x.1)

abbrev long_line : LineRead
long_line = Err LongLine

one_byte : (here : Bool) (bytes more : List ℕ) → cond here (empty_line (bytes ++ more)) long_line ≡ with_more (cond here (empty_line bytes) long_line) more
one_byte true bytes more = refl
one_byte false bytes more = refl

longer : (here : Bool) (b : ℕ) (bytes more : List ℕ) (read more_read : LineRead) → (early read ≡ false → more_read ≡ with_more read more) → early (cond here (empty_line bytes) (put_on b read)) ≡ false
    → cond here (empty_line (bytes ++ more)) (put_on b more_read) ≡ with_more (cond here (empty_line bytes) (put_on b read)) more
longer true b bytes more read more_read same late = refl
longer false b bytes more (Ok x) more_read same late = ap (put_on b) (same refl)
longer false b bytes more (Err cause) more_read same late = ap (put_on b) (same late)

line_more : (room : ℕ) (bytes more : List ℕ) → early (line_at room bytes) ≡ false → line_at room (bytes ++ more) ≡ with_more (line_at room bytes) more
line_more zero [] more late = absurd cc
line_more (suc room) [] more late = absurd cc
line_more zero (b ∷ bytes) more late = one_byte (b == 10) bytes more
line_more (suc room) (b ∷ bytes) more late = longer (b == 10) b bytes more (line_at room bytes) (line_at room (bytes ++ more)) (line_more room bytes more) late

-- ---- the bytes behind a line

abbrev picked : (short newline : Bool) → ScriptCommand × List ℕ → CommandRead
picked short newline x = cond short (Err ShortBytes) (cond newline (Ok x) (Err NoNewlineAfterBytes))

pick_more : (short more_short newline more_newline : Bool) (x y : ScriptCommand × List ℕ) (more : List ℕ) → (short ≡ false → (more_short ≡ false) × (more_newline ≡ newline) × (y ≡ (x.0, x.1 ++ more)))
    → early (picked short newline x) ≡ false → picked more_short more_newline y ≡ with_more (picked short newline x) more
pick_more true more_short newline more_newline x y more same late = absurd cc
pick_more false more_short true more_newline x y more same late = let s = same refl in rw (s.0, s.1, s.2) refl
pick_more false more_short false more_newline x y more same late = let s = same refl in rw (s.0, s.1) refl

abbrev found : (List ℕ → ScriptCommand) → ℕ → List ℕ → ScriptCommand × List ℕ
found make len rest = (make (take len rest), drop (len + 1) rest)

abbrev pair : ScriptCommand → List ℕ → ScriptCommand × List ℕ
pair command rest = (command, rest)

found_more : (make : List ℕ → ScriptCommand) (len : ℕ) (rest more : List ℕ) → nat_le (length rest) len ≡ false
    → (nat_le (length (rest ++ more)) len ≡ false) × ((slice_index (rest ++ more) len == 10) ≡ (slice_index rest len == 10)) × (found make len (rest ++ more) ≡ pair (found make len rest).0 ((found make len rest).1 ++ more))
found_more make len rest more short =
    let less : len < length rest = leb-false (length rest) len short in
    let at : slice_index (rest ++ more) len ≡ slice_index rest len = get_or_append_left rest more 0 len less in
    let front : take len (rest ++ more) ≡ take len rest = take-append-le len rest more (omega arith) in
    let back : drop (len + 1) (rest ++ more) ≡ drop (len + 1) rest ++ more = drop-append-le (len + 1) rest more (omega arith) in
    (lt-leb (length (rest ++ more)) len (omega (arith, length-append rest more)), ap (λ (b : ℕ). b == 10) at, rw (front, back) refl)

bytes_more : (make : List ℕ → ScriptCommand) (len : ℕ) (rest more : List ℕ) → early (taking_bytes make len rest) ≡ false → taking_bytes make len (rest ++ more) ≡ with_more (taking_bytes make len rest) more
bytes_more make len rest more late =
    pick_more (nat_le (length rest) len) (nat_le (length (rest ++ more)) len) (slice_index rest len == 10) (slice_index (rest ++ more) len == 10) (found make len rest) (found make len (rest ++ more)) more
    (found_more make len rest more) late

whole_more : (asking : Asking) (rest more : List ℕ) → early (whole_command asking rest) ≡ false → whole_command asking (rest ++ more) ≡ with_more (whole_command asking rest) more
whole_more (Plainly command) rest more late = refl
whole_more (Put name len keep) rest more late = bytes_more (λ bytes. Asked.Plain (Word.Put name bytes keep)) len rest more late
whole_more (OfClient client call) rest more late = refl
whole_more (Piece client len) rest more late = bytes_more (λ bytes. Asked.OfClient client (Calls.Piece bytes)) len rest more late

-- ---- commands

behind : (read : Result Asking Cause) (rest more : List ℕ) → early (read >>= λ asking. whole_command asking rest) ≡ false
    → (read >>= λ asking. whole_command asking (rest ++ more)) ≡ with_more (read >>= λ asking. whole_command asking rest) more
behind (Ok asking) rest more late = whole_more asking rest more late
behind (Err cause) rest more late = refl

abbrev after_line : Result (List ℕ × List ℕ) Cause → Result (ScriptCommand × List ℕ) Cause
after_line read = read >>= λ line. (asked_by (words_of line.0) >>= λ asking. whole_command asking line.1)

by_line : (read more_read : Result (List ℕ × List ℕ) Cause) (more : List ℕ) → (early read ≡ false → more_read ≡ with_more read more) → early (after_line read) ≡ false → after_line more_read ≡ with_more (after_line read) more
by_line (Ok x) more_read more same late = ap after_line (same refl) ∙ behind (asked_by (words_of x.0)) x.1 more late
by_line (Err cause) more_read more same late = ap after_line (same late)

pub command_more : (bytes more : List ℕ) → early (command_at bytes) ≡ false → command_at (bytes ++ more) ≡ with_more (command_at bytes) more
command_more bytes more late = by_line (line_at max_line bytes) (line_at max_line (bytes ++ more)) more (line_more max_line bytes more) late

pub command_stays : (front rest left : List ℕ) (command : ScriptCommand) → command_at front ≡ Ok (command, left) → command_at (front ++ rest) ≡ Ok (command, left ++ rest)
command_stays front rest left command is = command_more front rest (ap (λ (r : CommandRead). early r) is) ∙ ap (λ (r : CommandRead). with_more r rest) is

-- ---- a command takes its newline at least

-- how many bytes are left
abbrev left_of : {A : Type 0} → Result (A × List ℕ) Cause → ℕ
left_of (Ok x) = length x.1
left_of (Err cause) = 0

line_ends : (here : Bool) (b : ℕ) (bytes line rest : List ℕ) (read : LineRead) → ((line rest : List ℕ) → read ≡ Ok (line, rest) → length rest < length bytes) → cond here (empty_line bytes) (put_on b read) ≡ Ok (line, rest)
    → length rest < suc (length bytes)
line_ends true b bytes line rest read less is = omega (arith, ap left_of is)
line_ends false b bytes line rest (Ok x) less is = omega (arith, less x.0 x.1 refl, ap left_of is)
line_ends false b bytes line rest (Err cause) less is = absurd cc

line_shrinks : (room : ℕ) (bytes line rest : List ℕ) → line_at room bytes ≡ Ok (line, rest) → length rest < length bytes
line_shrinks zero [] line rest read = absurd cc
line_shrinks (suc room) [] line rest read = absurd cc
line_shrinks zero (b ∷ bytes) line rest read = line_ends (b == 10) b bytes line rest long_line (λ l r is. absurd cc) read
line_shrinks (suc room) (b ∷ bytes) line rest read = line_ends (b == 10) b bytes line rest (line_at room bytes) (line_shrinks room bytes) read

pick_ends : (short newline : Bool) (first command : ScriptCommand) (left rest : List ℕ) → picked short newline (first, left) ≡ Ok (command, rest) → length rest ≡ length left
pick_ends true newline first command left rest is = absurd cc
pick_ends false true first command left rest is = sym (ap left_of is)
pick_ends false false first command left rest is = absurd cc

bytes_shrink : (make : List ℕ → ScriptCommand) (len : ℕ) (bytes : List ℕ) (command : ScriptCommand) (rest : List ℕ) → taking_bytes make len bytes ≡ Ok (command, rest) → length rest ≤ length bytes
bytes_shrink make len bytes command rest read =
    let e : length rest ≡ length (drop (len + 1) bytes) = pick_ends (nat_le (length bytes) len) (slice_index bytes len == 10) (make (take len bytes)) command (drop (len + 1) bytes) rest read in
    omega (arith, e, length-drop (len + 1) bytes)

whole_shrinks : (asking : Asking) (bytes : List ℕ) (command : ScriptCommand) (rest : List ℕ) → whole_command asking bytes ≡ Ok (command, rest) → length rest ≤ length bytes
whole_shrinks (Plainly asked) bytes command rest read = omega (arith, ap left_of read)
whole_shrinks (Put name len keep) bytes command rest read = bytes_shrink (λ given. Asked.Plain (Word.Put name given keep)) len bytes command rest read
whole_shrinks (OfClient client call) bytes command rest read = omega (arith, ap left_of read)
whole_shrinks (Piece client len) bytes command rest read = bytes_shrink (λ given. Asked.OfClient client (Calls.Piece given)) len bytes command rest read

behind_shrinks : (read : Result Asking Cause) (bytes : List ℕ) (command : ScriptCommand) (rest : List ℕ) → (read >>= λ asking. whole_command asking bytes) ≡ Ok (command, rest) → length rest ≤ length bytes
behind_shrinks (Ok asking) bytes command rest is = whole_shrinks asking bytes command rest is
behind_shrinks (Err cause) bytes command rest is = absurd cc

after_shrinks : (read : LineRead) (n : ℕ) (command : ScriptCommand) (rest : List ℕ) → ((line left : List ℕ) → read ≡ Ok (line, left) → length left < n) → after_line read ≡ Ok (command, rest) → length rest < n
after_shrinks (Ok x) n command rest less is = omega (arith, less x.0 x.1 refl, behind_shrinks (asked_by (words_of x.0)) x.1 command rest is)
after_shrinks (Err cause) n command rest less is = absurd cc

pub command_shrinks : (bytes : List ℕ) (command : ScriptCommand) (rest : List ℕ) → command_at bytes ≡ Ok (command, rest) → length rest < length bytes
command_shrinks bytes command rest read = after_shrinks (line_at max_line bytes) (length bytes) command rest (line_shrinks max_line bytes) read
