use Rattle.std.proofs.Common.{arith}
use Rattle.dump_text.proofs.ItemLaws.{read_if, unread_if}
use Rattle.dump_text.proofs.reading.read_dump.Goals as goal

pub returns-clause-read : goal.returns-clause-read
returns-clause-read c = read_if (λ v. v.items) c.args.bytes.now (λ i. omega (arith, c.type_inv.bytes i)) c.read_items.result c.read_items.ensures

pub returns-clause-unread : goal.returns-clause-unread
returns-clause-unread c = unread_if (λ v. v.items) c.args.bytes.now (λ i. omega (arith, c.type_inv.bytes i)) c.read_items.result c.read_items.ensures
