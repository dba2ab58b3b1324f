-- Framed commands: what the frames of an input ask for, and how it ends.
use Rattle.std.specs.Prelude.{ℕ, Bool, true, false, List, ◌++◌, length, map, take, Result, Ok, Err, codes, nat_lt, ◌==◌, if◌then◌else◌}
use Rattle.fsd_texts.specs.declared.bad_line.Cause.{Cause}
use Rattle.fsd_texts.specs.declared.body_cause.BodyCause.{BodyCause}
use Rattle.fsd_texts.specs.declared.body_cause.BodyCause.TheVariants.{NoCommand, ExtraBytes}
use Rattle.fsd_texts.specs.declared.script_command.ScriptCommand.{ScriptCommand}
use Rattle.fsd_texts.specs.declared.stream_end.StreamEnd.{StreamEnd}
use Rattle.fsd_texts.specs.declared.stream_end.StreamEnd.TheVariants.{Whole, Inside, Bad}
use Rattle.fsd_texts.specs.declared.wire_end.WireEnd.{WireEnd}
use Rattle.fsd_texts.specs.declared.wire_end.WireEnd.TheVariants as Ends
use Rattle.fsd_texts.specs.Frames.{Frame, frames_in, stream_end}
use Rattle.fsd_texts.specs.Script.{command_at, max_input}
use Rattle.fsd_texts.specs.Text.{cause_text, newline, number}

-- ---- one body

abbrev pub alone_in : Result (ScriptCommand × List ℕ) Cause → Result ScriptCommand BodyCause
alone_in (Ok x) = if length x.1 == 0 then Ok x.0 else Err ExtraBytes
alone_in (Err cause) = Err (NoCommand cause)

-- the one command that a body is, or why it is none
abbrev pub body_command : List ℕ → Result ScriptCommand BodyCause
body_command body = alone_in (command_at body)

abbrev pub body_cause_text : BodyCause → List ℕ
body_cause_text (NoCommand cause) = cause_text cause
body_cause_text ExtraBytes = codes "extra bytes"

-- what is said of a body that is no command
abbrev pub bad_body_text : BodyCause → List ℕ
bad_body_text why = codes "bad " ++ (body_cause_text why ++ newline)

abbrev pub bad_frame_text : (place : ℕ) → List ℕ
bad_frame_text place = codes "bad frame " ++ (number place ++ newline)

-- ---- the whole input

-- a tag, and what is asked under it
pub record Framed : Type 0 where
  pub tag : ℕ
  pub body : Result ScriptCommand BodyCause

abbrev pub framed_in : Frame → Framed
framed_in f = record { tag = f.tag; body = body_command f.body }

-- by how the first bytes end, and whether a byte past the most is there
abbrev pub ended_by : (longer : Bool) → StreamEnd → WireEnd
ended_by longer (Bad place) = Ends.BadFrame place
ended_by true end = Ends.TooLong
ended_by false Whole = Ends.Done
ended_by false (Inside place) = Ends.BadFrame place

-- what an input asks for, in order, and how it ends
abbrev pub wire_in : List ℕ → List Framed × WireEnd
wire_in input =
    let front = take max_input input in
    (map framed_in (frames_in front).0, ended_by (nat_lt max_input (length input)) (stream_end front))
