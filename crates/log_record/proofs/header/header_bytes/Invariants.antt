use Rattle.std.proofs.Common.{◌≡◌, ◌+◌, ◌*◌, length, take}
use Rattle.log_record.proofs.Loops.{header_with}
use Rattle.log_record.proofs.header.header_bytes.Given as goal

abbrev pub invariant-loop-page : goal.invariant-loop-page
invariant-loop-page l = record {
  at : l.place ≡ 32 + 4 * l.page-index;
  so_far : l.b ≡ header_with (record { epoch = l.epoch; number = l.number }) (length l.pages) (take l.page-index l.pages);
}
