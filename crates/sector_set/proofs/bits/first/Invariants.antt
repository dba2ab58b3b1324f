use Rattle.std.proofs.Common.{◌≡◌, ℕ, ◌-◌, ◌+◌, ◌*◌, ◌^◌, ◌≤◌, ◌<◌, length, not}
use Rattle.sector_set.specs.Bits.{is_set}
use Rattle.sector_set.proofs.BitLaws.{Shows}
use Rattle.sector_set.proofs.bits.first.Given as goal

abbrev pub invariant-loop-word : goal.invariant-loop-word
invariant-loop-word l = record {
  inside : l.w < length l.words;
  near : l.at < 64 * l.w + 64;
  fits : l.word < 2 ^ 64;
  shows : Shows l.words l.at l.wanted l.w l.word;
  before : (s : ℕ) → l.at ≤ s → s < 64 * l.w → is_set l.words s ≡ not l.wanted;
}

abbrev pub decreases-loop-word : goal.decreases-loop-word
decreases-loop-word l = length l.words - l.w
