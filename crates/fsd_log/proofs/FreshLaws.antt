-- A log of which nothing on the tape bears anything, from a number on.
use Rattle.std.proofs.Common.{◌≡◌, inl, ℕ, ◌+◌, ◌*◌, ◌^◌, ◌<◌, ◌≤◌, [], None, refl, arith}
use Rattle.volume_layout.specs.Shape.{Shape}
use Rattle.volume_layout.specs.Kinds.{gap_of}
use Rattle.fsd_log.specs.Judged.{Reader}
use Rattle.fsd_log.specs.Borne.{Foreign}
use Rattle.fsd_log.specs.Scan.{room_at, window, record_here, scan, start, IsLog}
use Rattle.fsd_log.proofs.AppendLaws.{window_foreign}
use Rattle.fsd_log.proofs.HereLaws.{here_none}
use Rattle.fsd_log.proofs.JudgedLaws.{foreign_absent}
use Rattle.fsd_log.proofs.WalkLaws.{stamp_of, walk_of_goes, none_next}

pub empty_log_from : (l : Shape) (epoch first : ℕ) (fits : epoch < 2 ^ 32) (small : first < 2 ^ 32) (disk : Reader) → ((w m : ℕ) → first ≤ m → Foreign (stamp_of epoch m) (disk w)) → IsLog l epoch first disk [] (start l first)
unfolding scan
empty_log_from l epoch first fits small disk foreign =
    let none : (at end : ℕ) → record_here l epoch disk first at end ≡ None = λ at end. here_none l epoch disk first at end (foreign_absent (gap_of l) l.pages (stamp_of epoch first) (record { epoch = fits; number = small }) (room_at at end) (window disk at (room_at at end))
    (window_foreign (stamp_of epoch first) disk at (room_at at end) (λ k inside. foreign (at + k) first (omega arith)))) in
    record {
      scanned = walk_of_goes (3 * l.third) l epoch disk (start l first) [] (start l first) (record { before = omega arith; from = omega arith; ends = inl refl }) (omega arith) refl (none_next l epoch disk (start l first) (none 0 l.third) (none l.third (l.third + l.third)));
      fresh = λ w m from. foreign w m from;
    }

pub empty_log : (l : Shape) (epoch first : ℕ) (fits : epoch < 2 ^ 32) (small : first < 2 ^ 32) (disk : Reader) → ((w m : ℕ) → Foreign (stamp_of epoch m) (disk w)) → IsLog l epoch first disk [] (start l first)
empty_log l epoch first fits small disk foreign = empty_log_from l epoch first fits small disk (λ w m from. foreign w m)
