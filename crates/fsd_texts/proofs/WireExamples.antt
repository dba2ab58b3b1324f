-- Framed commands by example.
use Rattle.std.proofs.Common.{◌≡◌, ℕ, [], ◌∷◌, ◌++◌, Ok, Err, refl}
use Rattle.std.specs.Prelude.{codes}
use Rattle.std.specs.Fmt.{digits}
use Rattle.fsd_texts.specs.declared.bad_line.Cause.TheVariants.{NoNewline}
use Rattle.fsd_texts.specs.declared.body_cause.BodyCause.TheVariants.{NoCommand, ExtraBytes}
use Rattle.fsd_texts.specs.declared.command.Command.TheVariants as Word
use Rattle.fsd_texts.specs.declared.script_command.ScriptCommand.TheVariants.{Plain}
use Rattle.fsd_texts.specs.declared.wire_end.WireEnd.TheVariants as Ends
use Rattle.fsd_texts.specs.Frames.{frame_text}
use Rattle.fsd_texts.specs.Text.{newline}
use Rattle.fsd_texts.specs.Wire.{Framed, bad_body_text, bad_frame_text, wire_in}

abbrev forces : ℕ → Framed
forces tag = record { tag = tag; body = Ok (Plain Word.Force) }

force_frame : frame_text 7 (codes "force" ++ newline) ≡ 0 ∷ 0 ∷ 0 ∷ 6 ∷ 0 ∷ 0 ∷ 0 ∷ 7 ∷ 102 ∷ 111 ∷ 114 ∷ 99 ∷ 101 ∷ 10 ∷ []
force_frame = refl

one_force : wire_in (frame_text 7 (codes "force" ++ newline)) ≡ (forces 7 ∷ [], Ends.Done)
one_force = refl

zeros_are_bad : wire_in (0 ∷ 0 ∷ 0 ∷ 0 ∷ 0 ∷ 0 ∷ 0 ∷ 0 ∷ []) ≡ ([], Ends.BadFrame 0)
zeros_are_bad = refl

cut_short : wire_in (frame_text 7 (codes "force" ++ newline) ++ (0 ∷ [])) ≡ (forces 7 ∷ [], Ends.BadFrame 14)
cut_short = refl

goes_on : wire_in (frame_text 1 (codes "force") ++ frame_text 2 (codes "force" ++ newline)) ≡ (record { tag = 1; body = Err (NoCommand NoNewline) } ∷ forces 2 ∷ [], Ends.Done)
goes_on = refl

something_behind : wire_in (frame_text 1 (codes "force" ++ newline ++ newline)) ≡ (record { tag = 1; body = Err ExtraBytes } ∷ [], Ends.Done)
something_behind = refl

bad_body : bad_body_text ExtraBytes ≡ codes "bad extra bytes" ++ newline
bad_body = refl

bad_frame : bad_frame_text 14 ≡ codes "bad frame 14" ++ newline
unfolding digits
bad_frame = refl
