-- What was fed to a wire and not given, and what it gives.
use Rattle.std.specs.Prelude.{◌≡◌, ℕ, ◌+◌, ◌<◌, ◌≤◌, ◌-◌, ◌^◌, Bool, List, ◌++◌, length, take, drop, Result, Ok, Err, if◌then◌else◌}
use Rattle.std.specs.declared.alloc.AllocError.{AllocError}
use Rattle.fsd_texts.specs.declared.no_frame.NoFrame.{NoFrame}
use Rattle.fsd_texts.specs.declared.no_frame.NoFrame.TheVariants.{Short, Bad}
use Rattle.fsd_texts.specs.Frames.{Frame, frame_at, frame_text}
use Rattle.desk_wire.specs.declared.next.Next.{Next}
use Rattle.desk_wire.specs.declared.next.Next.TheVariants as Comes

-- The bytes fed and not yet given, how many were given before them, and how many are held in memory.
pub record Wired : Type 0 where
  pub waiting : List ℕ
  pub place : ℕ
  pub held : ℕ

abbrev pub wired : List ℕ → (place held : ℕ) → Wired
wired waiting place held = record { waiting = waiting; place = place; held = held }

-- one that holds no more than what waits
abbrev pub made_of : List ℕ → (place : ℕ) → Wired
made_of waiting place = wired waiting place (length waiting)

-- behind a piece that was taken or not; what was given is let go
abbrev pub fed_so : Bool → List ℕ → Wired → Wired
fed_so taken piece w = made_of (if taken then w.waiting ++ piece else w.waiting) w.place

-- a frame that bytes begin with, and what follows it
abbrev pub BeginsWithFrame : List ℕ → (tag : ℕ) → List ℕ → Type 0
BeginsWithFrame bytes tag body = frame_at bytes ≡ Ok (record { tag = tag; body = body }, drop (8 + length body) bytes)

-- what comes next of what waits
abbrev pub ComesNext : Next → Wired → Type 0
ComesNext (Comes.Frame tag body) w = BeginsWithFrame w.waiting tag body.now
ComesNext Comes.NotYet w = frame_at w.waiting ≡ Err Short
ComesNext (Comes.Bad place) w = (frame_at w.waiting ≡ Err Bad) × (place ≡ w.place)

-- behind what comes next: a frame is given
abbrev pub passed : Result (Frame × List ℕ) NoFrame → Wired → Wired
passed (Ok x) w = wired x.1 (w.place + (length w.waiting - length x.1)) w.held
passed (Err why) w = w

-- what a wire keeps
pub record IsWired (bytes : List ℕ) (start place : ℕ) : Type 0 where
  pub start_within : start ≤ length bytes
  pub place_fits : place + (length bytes - start) < 2 ^ 64

-- a frame is laid behind these bytes, or they are still in front
abbrev pub LaysFrame : (tag : ℕ) → List ℕ → Result (Unit {0}) AllocError → List ℕ → List ℕ → Type 0
LaysFrame tag text (Ok x) old new = new ≡ old ++ frame_text tag text
LaysFrame tag text (Err why) old new = take (length old) new ≡ old
