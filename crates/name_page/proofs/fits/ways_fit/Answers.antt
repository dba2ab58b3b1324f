use Rattle.std.proofs.Common.{◌≡◌, ◌∙◌, ◌<◌, ◌-◌, sym, ap, length, Bool, arith}
use Rattle.std.specs.Prelude.{◌&&◌}
use Rattle.fsd_table.specs.Pages.{below, keys_fit, not_below, separator_keys}
use Rattle.name_page.proofs.EndsLaws.{some_there, separators_told}
use Rattle.name_page.proofs.fits.ways_fit.Goals as goal

pub returns-then-not-ways_begin : goal.returns-then-not-ways_begin
returns-then-not-ways_begin c =
    let child = c.args.child.now in
    let first = c.ways_begin.ensures in
    let some : 0 < length c.args.ways.now.1 = omega arith in
    let count : c.len-count.result - 1 ≡ length c.args.ways.now.1 - 1 = omega arith in
    let last = some_there c.args.ways.now.1 (c.len-count.result - 1) (omega arith) in
    let all : keys_fit child.low child.high (separator_keys c.args.ways.now.1) ≡ (not_below child.low first.0.key && below child.high last.0.key) =
    separators_told child.low child.high c.args.ways.now.1 (c.len-count.result - 1) first.0 last.0 c.len-count.ensures.order some count first.1 last.1 in
    sym (all ∙ ap (λ (b : Bool). b && below child.high last.0.key) (sym first.2 ∙ c.if-not-ways_begin.true))

pub returns : goal.returns
returns c =
    let child = c.args.child.now in
    let first = c.ways_begin.ensures in
    let last = c.ways_end.ensures in
    let some : 0 < length c.args.ways.now.1 = omega arith in
    let count : c.len-count.result - 1 ≡ length c.args.ways.now.1 - 1 = omega arith in
    let all : keys_fit child.low child.high (separator_keys c.args.ways.now.1) ≡ (not_below child.low first.0.key && below child.high last.0.key) =
    separators_told child.low child.high c.args.ways.now.1 (c.len-count.result - 1) first.0 last.0 c.len-count.ensures.order some count first.1 last.1 in
    last.2 ∙ sym (all ∙ ap (λ (b : Bool). b && below child.high last.0.key) (sym first.2 ∙ c.if-not-ways_begin.false))
