use Rattle.std.proofs.Common.{◌≡◌, ◌∙◌, ◌<◌, ◌-◌, sym, ap, length, Bool, arith}
use Rattle.std.specs.Prelude.{◌&&◌}
use Rattle.fsd_table.specs.Pages.{below, keys_fit, not_below, entry_keys}
use Rattle.name_page.proofs.EndsLaws.{some_there, entries_told}
use Rattle.name_page.proofs.fits.entries_fit.Goals as goal

pub returns-then-not-entries_begin : goal.returns-then-not-entries_begin
returns-then-not-entries_begin c =
    let child = c.args.child.now in
    let first = c.entries_begin.ensures in
    let some : 0 < length c.args.entries.now = omega arith in
    let count : c.len-count.result - 1 ≡ length c.args.entries.now - 1 = omega arith in
    let last = some_there c.args.entries.now (c.len-count.result - 1) (omega arith) in
    let all : keys_fit child.low child.high (entry_keys c.args.entries.now) ≡ (not_below child.low first.0.key && below child.high last.0.key) =
    entries_told child.low child.high c.args.entries.now (c.len-count.result - 1) first.0 last.0 c.len-count.ensures.order some count first.1 last.1 in
    sym (all ∙ ap (λ (b : Bool). b && below child.high last.0.key) (sym first.2 ∙ c.if-not-entries_begin.true))

pub returns : goal.returns
returns c =
    let child = c.args.child.now in
    let first = c.entries_begin.ensures in
    let last = c.entries_end.ensures in
    let some : 0 < length c.args.entries.now = omega arith in
    let count : c.len-count.result - 1 ≡ length c.args.entries.now - 1 = omega arith in
    let all : keys_fit child.low child.high (entry_keys c.args.entries.now) ≡ (not_below child.low first.0.key && below child.high last.0.key) =
    entries_told child.low child.high c.args.entries.now (c.len-count.result - 1) first.0 last.0 c.len-count.ensures.order some count first.1 last.1 in
    last.2 ∙ sym (all ∙ ap (λ (b : Bool). b && below child.high last.0.key) (sym first.2 ∙ c.if-not-entries_begin.false))
