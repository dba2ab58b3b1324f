-- How far a dump goes that has so many bytes at most.
use Rattle.std.specs.Prelude.{◌≡◌, ℕ, ◌<◌, List, Some, Result, Ok, Err}
use Rattle.fsd_bytes.specs.declared.key.Serial.{Serial}
use Rattle.fsd_bytes.specs.declared.refusal.Refusal.{Refusal}
use Rattle.fsd_bytes.specs.declared.refusal.Refusal.TheVariants as Why
use Rattle.fsd_formats.specs.declared.entry.Entry.{Entry}
use Rattle.fsd_runs.specs.declared.span.Span.{Span}
use Rattle.fsd_runs.specs.Dumps.{span_of}
use Rattle.volume_contract.specs.Order.{Follows, Through, next_steps}
use Rattle.volume_contract.specs.State.{State}
use Rattle.scrub.specs.Walk.{IsFromOutside}

-- the entries are walked first, and then it may be that the bytes are too few
abbrev pub FollowsSpan : State → (most : ℕ) → Result Span Refusal → Type 0
FollowsSpan s most (Err (Why.TooLong need)) = Through (next_steps s) × (most < need)
FollowsSpan s most result = Follows (next_steps s) result

-- it is the span of these versions, or none is, or a fault from outside has ended it
abbrev pub EndsSpan : Serial → (most : ℕ) → List Entry → Result Span Refusal → Type 0
EndsSpan since most entries (Ok span) = span_of since (Some most) entries ≡ Ok span
EndsSpan since most entries (Err (Why.TooLong need)) = span_of since (Some most) entries ≡ Err need
EndsSpan since most entries (Err why) = IsFromOutside why
