-- Frames: a tag and a body as bytes, and the frames that bytes are, however they come.
use Rattle.std.specs.Prelude.{ℕ, zero, suc, ◌-◌, List, [], ◌∷◌, ◌++◌, length, take, drop, Result, Ok, Err, nat_lt, if◌then◌else◌}
use Rattle.fsd_bytes.specs.Bytes.{u32, u32_at}
use Rattle.fsd_bytes.specs.Keys.{max_u32}
use Rattle.fsd_bytes.specs.Names.{is_between}
use Rattle.fsd_texts.specs.declared.no_frame.NoFrame.{NoFrame}
use Rattle.fsd_texts.specs.declared.no_frame.NoFrame.TheVariants.{Short, Bad}
use Rattle.fsd_texts.specs.declared.stream_end.StreamEnd.{StreamEnd}
use Rattle.fsd_texts.specs.declared.stream_end.StreamEnd.TheVariants as Ends

pub record Frame : Type 0 where
  pub tag : ℕ
  pub body : List ℕ

abbrev pub max_body : ℕ
max_body = 1048576

-- ---- spelled

-- how long the body is, the tag, the body
abbrev pub frame_text : (tag : ℕ) → List ℕ → List ℕ
frame_text tag body = u32 (length body) ++ (u32 tag ++ body)

-- ---- read

-- what follows, unless there is no frame already
abbrev pub then_read : {A B : Type 0} → Result A NoFrame → (A → Result B NoFrame) → Result B NoFrame
then_read (Ok x) more = more x
then_read (Err why) more = Err why

-- a number of four bytes, and what follows it
abbrev pub number_at : List ℕ → Result (ℕ × List ℕ) NoFrame
number_at (a ∷ b ∷ c ∷ d ∷ bytes) = Ok (u32_at 0 (a ∷ b ∷ c ∷ d ∷ []), bytes)
number_at short = Err Short

-- a number from 1 on that is at most so great
abbrev pub number_within : (most : ℕ) → ℕ × List ℕ → Result (ℕ × List ℕ) NoFrame
number_within most x = if is_between 1 most x.0 then Ok x else Err Bad

abbrev pub field_at : (most : ℕ) → List ℕ → Result (ℕ × List ℕ) NoFrame
field_at most bytes = then_read (number_at bytes) (number_within most)

abbrev pub body_at : (len tag : ℕ) → List ℕ → Result (Frame × List ℕ) NoFrame
body_at len tag bytes = if nat_lt (length bytes) len then Err Short else Ok (record { tag = tag; body = take len bytes }, drop len bytes)

abbrev pub behind_length : ℕ × List ℕ → Result (Frame × List ℕ) NoFrame
behind_length len = then_read (field_at max_u32 len.1) (λ tag. body_at len.0 tag.0 tag.1)

-- the frame that begins the bytes, and what follows it; or why none does
abbrev pub frame_at : List ℕ → Result (Frame × List ℕ) NoFrame
frame_at bytes = then_read (field_at max_body bytes) behind_length

-- ---- all of them

abbrev pub then_frames : List ℕ → (List ℕ → List Frame × List ℕ) → Result (Frame × List ℕ) NoFrame → List Frame × List ℕ
then_frames bytes more (Ok x) = (x.0 ∷ (more x.1).0, (more x.1).1)
then_frames bytes more (Err why) = ([], bytes)

-- at most so many frames, and what is left behind them
abbrev pub frames_from : (most : ℕ) → List ℕ → List Frame × List ℕ
frames_from zero bytes = ([], bytes)
frames_from (suc most) bytes = then_frames bytes (frames_from most) (frame_at bytes)

-- the frames that the bytes begin with, and what is left behind them; each takes a byte at least
abbrev pub frames_in : List ℕ → List Frame × List ℕ
frames_in bytes = frames_from (length bytes) bytes

-- ---- however they come

-- the frames of some bytes with more behind them, by what is left of the bytes
abbrev pub after : List Frame × List ℕ → List ℕ → List Frame × List ℕ
after x more = let y = frames_in (x.1 ++ more) in (x.0 ++ y.0, y.1)

-- the frames as pieces come: with each piece all frames that are whole then
abbrev pub frames_by : (left : List ℕ) → List (List ℕ) → List Frame × List ℕ
frames_by left [] = ([], left)
frames_by left (piece ∷ pieces) =
    let x = frames_in (left ++ piece) in
    let y = frames_by x.1 pieces in
    (x.0 ++ y.0, y.1)

-- ---- how they end

abbrev pub end_there : (place : ℕ) → List ℕ → Result (Frame × List ℕ) NoFrame → StreamEnd
end_there place [] read = Ends.Whole
end_there place left (Err Bad) = Ends.Bad place
end_there place left read = Ends.Inside place

-- by what is left behind the frames
abbrev pub stream_end : List ℕ → StreamEnd
stream_end bytes =
    let left = (frames_in bytes).1 in
    end_there (length bytes - length left) left (frame_at left)
