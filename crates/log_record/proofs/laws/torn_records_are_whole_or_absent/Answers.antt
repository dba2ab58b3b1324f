use Rattle.std.proofs.Common.{◌≡◌, ◌⊎◌, inl, inr, ⊎_elim, ℕ, ◌+◌, ◌*◌, ◌<◌, ◌≤◌, List, length, Option, Some, ap, ◌∙◌, arith}
use Rattle.fsd_formats.specs.Record.{header_bytes, record_len}
use Rattle.fsd_log.specs.Judged.{sector_in}
use Rattle.fsd_log.specs.Borne.{Foreign}
use Rattle.fsd_log.specs.Laid.{laid_bytes}
use Rattle.fsd_log.proofs.JudgedLaws.{endless_absent}
use Rattle.fsd_log.proofs.WornLaws.{AsLaid, laid_or_none}
use Rattle.fsd_log.proofs.LaidLaws.{laid_as}
use Rattle.fsd_log.proofs.TornLaws.{are_few, there, absent}
use Rattle.log_record.proofs.laws.torn_records_are_whole_or_absent.Goals as goal

pub returns-clause-there : goal.returns-clause-there
returns-clause-there c gap p stamp pages images room stood old new laid roomy torn past =
    let few = are_few p pages laid.accepted in
    there gap p stamp laid.fits pages images (laid_bytes gap stamp pages images) (record { accepted = laid.accepted; small = laid.small; few = few }) (laid_as gap stamp laid.fits pages images few laid.long laid.stamped) room roomy stood old new torn past

pub returns-clause-absent : goal.returns-clause-absent
returns-clause-absent c gap p stamp pages images room stood old new laid roomy torn before none =
    let few = are_few p pages laid.accepted in
    absent gap p stamp laid.fits pages images (laid_bytes gap stamp pages images) (record { accepted = laid.accepted; small = laid.small; few = few }) (laid_as gap stamp laid.fits pages images few laid.long laid.stamped) room roomy stood old new torn none before

pub returns-clause-hurt_absent : goal.returns-clause-hurt_absent
returns-clause-hurt_absent c gap p stamp pages images room stood at laid before each =
    let few = are_few p pages laid.accepted in
    let rows = laid_as gap stamp laid.fits pages images few laid.long laid.stamped in
    let header : (k : ℕ) → k < record_len gap (length pages) → sector_in (laid_bytes gap stamp pages images) k ≡ header_bytes stamp pages → (at k ≡ Some (header_bytes stamp pages)) ⊎ Foreign stamp (at k) =
    λ k lt is. ⊎_elim (λ stands. inl (stands.0 ∙ ap (λ (x : List ℕ). Some x) is)) (λ lost. inr lost) (each k lt) in
    let ends : (k : ℕ) → k < record_len gap (length pages) → stood ≤ k → Foreign stamp (at k) = λ k lt past. ⊎_elim (λ stands. absurd (omega (arith, stands.1, past))) (λ lost. lost) (each k lt) in
    endless_absent gap p stamp pages laid.accepted laid.small (omega (arith, few)) at room laid.fits
    (header 0 (omega arith) rows.header) (header (2 + gap) (omega arith) rows.header_copy)
    (ends (3 + gap + length pages) (omega arith) (omega (arith, before))) (ends (4 + 2 * gap + 2 * length pages) (omega arith) (omega (arith, before)))

pub returns-clause-hurt : goal.returns-clause-hurt
returns-clause-hurt c gap p stamp pages images room at laid each =
    let few = are_few p pages laid.accepted in
    let rows = laid_as gap stamp laid.fits pages images few laid.long laid.stamped in
    let as_laid : (k : ℕ) (bytes : List ℕ) → k < record_len gap (length pages) → sector_in (laid_bytes gap stamp pages images) k ≡ bytes → AsLaid stamp bytes (at k) =
    λ k bytes lt is. ⊎_elim (λ stands. inl (stands ∙ ap (λ (x : List ℕ). Some x) is)) (λ lost. inr lost) (each k lt) in
    laid_or_none gap p stamp laid.fits pages images (record { accepted = laid.accepted; small = laid.small; few = few }) room at (record {
      header = as_laid 0 _ (omega arith) rows.header;
      header_copy = as_laid (2 + gap) _ (omega arith) rows.header_copy;
      first = λ j lt. as_laid (3 + gap + j) _ (omega arith) (rows.image j lt);
      copy = λ j lt. as_laid (4 + 2 * gap + length pages + j) _ (omega arith) (rows.copy j lt);
    })
