-- Worked examples of dumps and restores, computed.
use Rattle.std.proofs.Common.{◌≡◌, ℕ, List, [], ◌∷◌, ◌++◌, map, take, Option, Some, None, Ok, refl, codes}
use Rattle.std.specs.Fmt.{digits}
use Rattle.std.specs.Prelude.{replicate, true}
use Rattle.fsd_bytes.specs.declared.key.Serial.{Serial}
use Rattle.fsd_dumps.proofs.DumpExamples.{empty, one, serial_of, x_in_a}
use Rattle.fsd_files.specs.Volume.{Volume}
use Rattle.fsd_texts.specs.declared.command.Command.TheVariants as Word
use Rattle.fsd_runs.specs.declared.request.Request.{Request}
use Rattle.fsd_runs.specs.declared.request.Request.TheVariants.{Dump, Restore}
use Rattle.fsd_runs.specs.Errands.{ByRefusal, BySector, Cut, Damages, Turn, dumping, load_of}
use Rattle.fsd_runs.specs.Dumps.{span_of}
use Rattle.fsd_runs.specs.Runs.{errand_in}
use Rattle.fsd_runs.proofs.Plain.{behind, default, fresh, lines, plainly, says, status_of, turns_on}

-- the volume with the version a!1, whose byte is an x
abbrev with_a : Volume
with_a = behind default (Word.Put (codes "a") (codes "x") None ∷ [])

-- ---- dumps

-- what is said of all behind a serial, or of so many bytes at most
abbrev says_dump : (since : Serial) → (most : Option ℕ) → Volume → List ℕ
says_dump since most v = says (dumping (span_of since most v.entries) v) v

says_nothing : says_dump (serial_of 0 0) None default ≡ empty
says_nothing = refl

says_a : says_dump (serial_of 0 0) None with_a ≡ one
says_a = refl

-- the version is not later than this, and the head has its serial all the same
abbrev none_behind : List ℕ
none_behind = codes "CFSD" ++ (0 ∷ 0 ∷ 0 ∷ 0 ∷ 0 ∷ 0 ∷ 0 ∷ 2 ∷ 0 ∷ 0 ∷ 0 ∷ 1 ∷ codes "CFSE" ++ (0 ∷ 0 ∷ 0 ∷ 0 ∷ []))

none_later : says_dump (serial_of 2 1) None with_a ≡ none_behind
none_later = refl

-- ---- dumps of so many bytes at most

-- and the version b!1, of the serial behind
abbrev with_both : Volume
with_both = behind default (Word.Put (codes "a") (codes "x") None ∷ Word.Put (codes "b") (codes "y") None ∷ [])

-- 52 bytes hold both
holds_both : span_of (serial_of 0 0) (Some 52) with_both.entries ≡ Ok (record { since = serial_of 0 0; before = None })
holds_both = refl

-- a byte fewer hold the first alone, and the head has its serial, where the next part begins
ends_before_b : span_of (serial_of 0 0) (Some 51) with_both.entries ≡ Ok (record { since = serial_of 0 0; before = Some (serial_of 2 2) })
ends_before_b = refl

says_first : says_dump (serial_of 0 0) (Some 51) with_both ≡ one
says_first = refl

-- its own bytes hold it, and one fewer do not
just_holds_a : says_dump (serial_of 0 0) (Some 38) with_both ≡ one
just_holds_a = refl

too_long : says_dump (serial_of 0 0) (Some 37) with_both ≡ lines (codes "refused too-long 38" ∷ [])
unfolding digits
too_long = refl

-- a dump of no version has 24 bytes
holds_none : says_dump (serial_of 2 1) (Some 24) with_a ≡ none_behind
holds_none = refl

too_short : says_dump (serial_of 2 1) (Some 23) with_a ≡ lines (codes "refused too-long 24" ∷ [])
unfolding digits
too_short = refl

-- ---- dumps that are cut off

-- a run over a volume that goes so
abbrev says_in : Request → (input : List ℕ) → Cut → Volume → List ℕ
says_in request input cut v = says (errand_in request input cut v) v

abbrev status_in : Request → (input : List ℕ) → Cut → Volume → ℕ
status_in request input cut v = let e = errand_in request input cut v in status_of e (plainly e) v

-- a damaged sector is told, and nothing else is said
abbrev damaged : Cut
damaged = Some (Damages ((x_in_a.key, 922) ∷ []))

says_damaged : says_in (Dump (serial_of 0 0) None) [] damaged with_a ≡ lines (codes "damaged a!1 922" ∷ [])
unfolding digits
says_damaged = refl

status_damaged : status_in (Dump (serial_of 0 0) None) [] damaged with_a ≡ 8
status_damaged = refl

-- one that was whole before the first byte was said ends the dump behind the head
abbrev spoilt : Cut
spoilt = Some (BySector 0 922)

says_spoilt : says_in (Dump (serial_of 0 0) None) [] spoilt with_a ≡ take 16 one
says_spoilt = refl

status_spoilt : status_in (Dump (serial_of 0 0) None) [] spoilt with_a ≡ 8
status_spoilt = refl

status_too_long : status_in (Dump (serial_of 0 0) (Some 37)) [] None with_a ≡ 1
status_too_long = refl

-- ---- restores

loads_a : (errand_in Restore one None default).commands ≡ load_of x_in_a ∷ []
loads_a = refl

says_restored : says_in Restore one None default ≡ lines (codes "restored 1" ∷ [])
unfolding digits
says_restored = refl

status_restored : status_in Restore one None default ≡ 0
status_restored = refl

-- all is forced once the line is said, and nothing before
restored_is_forced : map (λ (t : Turn). t.forces) (turns_on (errand_in Restore empty None default) [] default) ≡ true ∷ []
restored_is_forced = refl

says_there : says_in Restore one None with_a ≡ lines (codes "refused exists a!1" ∷ [])
unfolding digits
says_there = refl

status_there : status_in Restore one None with_a ≡ 1
status_there = refl

loads_none : (errand_in Restore one None with_a).commands ≡ []
loads_none = refl

says_no_dump : says_in Restore (take 37 one) None default ≡ lines (codes "refused dump 37" ∷ [])
unfolding digits
says_no_dump = refl

status_no_dump : status_in Restore (take 37 one) None default ≡ 1
status_no_dump = refl

-- a volume whose 64 sectors are used has no place for the two of a!1
abbrev full : Volume
full = behind (fresh 721 200 16) (Word.Put (codes "b") (replicate 32256 1) None ∷ [])

says_no_space : says_in Restore one (Some (ByRefusal 1)) full ≡ lines (codes "refused no-space 2 0" ∷ [])
unfolding digits
says_no_space = refl

status_no_space : status_in Restore one (Some (ByRefusal 1)) full ≡ 1
status_no_space = refl
