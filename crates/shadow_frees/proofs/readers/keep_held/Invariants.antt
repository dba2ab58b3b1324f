use Rattle.std.proofs.Common.{◌≡◌, take}
use Rattle.shadow_frees.specs.Readers.{unheld, with_held}
use Rattle.shadow_frees.proofs.readers.keep_held.Given as goal

abbrev pub invariant-loop-slot : goal.invariant-loop-slot
invariant-loop-slot l = record {
  removed : l.removed ≡ unheld (take l.slot-index l.held) l.fn.removed;
  kept : l.kept ≡ with_held (take l.slot-index l.held) l.fn.kept l.fn.removed;
}
