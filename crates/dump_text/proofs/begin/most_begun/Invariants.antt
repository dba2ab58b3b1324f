use Rattle.std.proofs.Common.{◌≡◌, ◌≤◌, length}
use Rattle.fsd_dumps.specs.Front.{most_begun}
use Rattle.dump_text.proofs.begin.most_begun.Given as goal

abbrev pub invariant-loop-most : goal.invariant-loop-most
invariant-loop-most l = (l.most ≤ length l.bytes) × (most_begun l.last l.behind l.bytes l.most ≡ most_begun l.last l.behind l.bytes (length l.bytes))

abbrev pub decreases-loop-most : goal.decreases-loop-most
decreases-loop-most l = l.most
