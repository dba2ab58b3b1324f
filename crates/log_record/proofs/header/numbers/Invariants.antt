use Rattle.std.proofs.Common.{◌≡◌, length, drop}
use Rattle.fsd_formats.specs.Record.{numbers_from}
use Rattle.log_record.proofs.header.numbers.Given as goal

abbrev pub invariant-loop-k : goal.invariant-loop-k
invariant-loop-k l = record {
  read : l.pages.items ≡ numbers_from l.k (drop 32 l.b);
  count : length l.pages.items ≡ l.k;
}
