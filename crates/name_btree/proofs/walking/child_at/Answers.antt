use Rattle.std.proofs.Common.{◌≡◌, ◌∙◌, ◌-◌, sym, ap, subst, ℕ, suc, Some, arith, drop}
use Rattle.std.specs.Prelude.{slice_get, Option}
use Rattle.fsd_forest.specs.Ways.{end_of}
use Rattle.fsd_bytes.specs.declared.key.Key.{Key}
use Rattle.fsd_table.specs.declared.child.Child.{Child}
use Rattle.fsd_table.specs.Pages.{children}
use Rattle.name_btree.proofs.walks.WalkLaws.{child_first, child_later}
use Rattle.name_btree.proofs.walking.child_at.Goals as goal

pub returns-then-i-eq0 : goal.returns-then-i-eq0
returns-then-i-eq0 c =
    let ways = c.args.ways.now in
    let above = c.args.above.now in
    let made : ℕ → Option Key → Option Key → Child = λ page low high. record { page = page; low = low; high = high } in
    let P : ℕ → Type 0 = λ (n : ℕ). slice_get (children ways.0 above.low above.high ways.1) n ≡ Some (made ways.0 above.low (end_of above.high (drop n ways.1))) in
    subst P (sym c.if-i-eq0.true) (child_first ways.0 above.low above.high ways.1)
    ∙ ap (λ (high : Option Key). Some (made ways.0 above.low high)) (sym c.end_of-high.ensures)
    ∙ ap (λ (low : Option Key). Some (made ways.0 low c.end_of-high.result)) (sym c.copied.ensures)
    ∙ ap (λ (page : ℕ). Some (made page c.copied.result c.end_of-high.result)) (sym c.first.ensures)

pub returns : goal.returns
returns c =
    let ways = c.args.ways.now in
    let above = c.args.above.now in
    let made : Option Key → Child = λ high. record { page = c.get-separator.result.child; low = Some c.get-separator.result.key; high = high } in
    let k : suc (c.args.i - 1) ≡ c.args.i = omega arith in
    child_later ways.0 above.low above.high ways.1 c.args.i (c.args.i - 1) c.get-separator.result k c.get-separator.ensures.there
    ∙ ap (λ (high : Option Key). Some (made high)) (sym c.end_of-high.ensures)
