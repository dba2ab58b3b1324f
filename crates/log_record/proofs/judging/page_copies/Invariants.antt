use Rattle.std.proofs.Common.{◌≡◌, ◌+◌, ◌*◌, ◌++◌, length, drop}
use Rattle.std.specs.Prelude.{option_map}
use Rattle.fsd_log.specs.Judged.{page_copies}
use Rattle.log_record.specs.Found.{read_of}
use Rattle.log_record.proofs.judging.page_copies.Given as goal

abbrev pub invariant-loop-k : goal.invariant-loop-k
invariant-loop-k l = record {
  count : length l.copies.items ≡ l.k;
  rest : page_copies (record { epoch = l.epoch; number = l.number }) (read_of l.whole l.bytes) (3 + l.gap) (4 + 2 * l.gap + length l.pages) l.pages
      ≡ option_map (λ more. l.copies.items ++ more) (page_copies (record { epoch = l.epoch; number = l.number }) (read_of l.whole l.bytes) (3 + l.gap + l.k) (4 + 2 * l.gap + length l.pages + l.k) (drop l.k l.pages));
}
