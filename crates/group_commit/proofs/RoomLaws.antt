-- A force that makes room first.
use Rattle.std.proofs.Common.{◌≡◌, ℕ, ◌+◌, ◌*◌, ◌<◌, ◌≤◌, Bool, false, cond, ◌||◌, nat_lt, ap, ◌∙◌}
use Rattle.std.specs.Prelude.{Result, Ok, Err, OnOk, OnErr}
use Rattle.sector_disk.specs.declared.machine.LoadFault.{LoadFault}
use Rattle.sector_disk.specs.declared.machine.LoadFault.TheVariants.{Device, Lost}
use Rattle.log_thirds.specs.LogValue.{LogValue}
use Rattle.std.proofs.lemmas.Bool.{lt-leb, le-ltb}
use Rattle.volume_layout.specs.Kinds.{gap_of}
use Rattle.fsd_formats.specs.Record.{record_len}
use Rattle.log_thirds.specs.Append.{stamp_now}
use Rattle.log_thirds.specs.Moving.{moved}
use Rattle.group_commit.specs.Entering.{KeepsForm, RecordCause}
use Rattle.group_commit.specs.Room.{goes_before, log_before, pages_in_first, sectors_before}

-- ---- where a record goes

pub first_again : (log : LogValue) (n : ℕ) → log.head.end < log.head.at + record_len (gap_of log.layout) n → 3 * log.layout.third ≤ log.head.end → goes_before log n ≡ false
first_again log n lt ge =
    ap (λ (b : Bool). b || nat_lt log.head.end (3 * log.layout.third)) (lt-leb (log.head.at + record_len (gap_of log.layout) n) log.head.end lt)
    ∙ le-ltb log.head.end (3 * log.layout.third) ge

-- a record that enters the first third may lose an image
pub record_cause : (log : LogValue) (n : ℕ) → goes_before log n ≡ false → (fault : LoadFault) → RecordCause log n fault
record_cause log n again (Device place) = tt
record_cause log n again (Lost a b) = again

-- so many sectors are written before a record that enters the first third again
pub before_again : (log : LogValue) (n : ℕ) → goes_before log n ≡ false → sectors_before log n ≡ 2 * pages_in_first log + 2
before_again log n again = ap (λ (b : Bool). cond b 0 (2 * pages_in_first log + 2)) again

pub moved_again : (log : LogValue) (n : ℕ) → goes_before log n ≡ false → log_before log n ≡ moved log
moved_again log n again = ap (λ (b : Bool). cond b log (moved log)) again

-- moved on or not, the log has its layout and its next stamp
pub form_either : {T E : Type 0} (r : Result T E) (log after : LogValue) → OnOk r (after ≡ moved log) → OnErr r (after ≡ log) → KeepsForm log after
form_either (Ok x) log after past kept = record { layout = ap (λ (x : LogValue). x.layout) past; stamp = ap stamp_now past }
form_either (Err e) log after past kept = record { layout = ap (λ (x : LogValue). x.layout) kept; stamp = ap stamp_now kept }
