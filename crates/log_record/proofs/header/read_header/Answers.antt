use Rattle.std.proofs.Common.{ℕ, arith, sym, ap, ◌∙◌, List}
use Rattle.fsd_bytes.specs.Bytes.{same_bytes}
use Rattle.fsd_formats.specs.Record.{Stamp, header_bytes}
use Rattle.log_record.proofs.header.read_header.Goals as goal
use Rattle.log_record.proofs.Loops.{many_none, unspelled_none}

pub returns-then-from-gt-MOST_PAGES : goal.returns-then-from-gt-MOST_PAGES
returns-then-from-gt-MOST_PAGES c = sym (many_none c.args.p (record { epoch = c.args.epoch; number = c.args.number }) c.args.b.now (omega (arith, c.u16_at-n.ensures)))

pub returns-else-eq : goal.returns-else-eq
returns-else-eq c =
    let stamp : Stamp = record { epoch = c.args.epoch; number = c.args.number } in
    let spelled = ap (header_bytes stamp) (sym c.as_slice-2.ensures.value) ∙ sym c.header_bytes.ensures in
    sym (unspelled_none c.args.p stamp c.args.b.now c.numbers-pages.result.items c.u16_at-n.result c.u16_at-n.ensures c.numbers-pages.ensures
    (ap (λ (h : List ℕ). same_bytes h c.args.b.now) spelled ∙ sym c.eq.ensures ∙ c.if-eq.false))
