use Rattle.std.proofs.Common.{◌≡◌, ℕ, suc, ◌+◌, ◌-◌, List, [], ◌∷◌, ◌++◌, Some, drop, map, ap, ◌∙◌, arith}
use Rattle.std.proofs.lemmas.Result.{err_from_is_err_and}
use Rattle.fsd_dumps.specs.Dump.{Dumped}
use Rattle.fsd_dumps.specs.Front.{dumped_in, rest_of, with_front}
use Rattle.dump_text.specs.Items.{dumped}
use Rattle.dump_text.proofs.ItemLaws.{items_more, items_bad}
use Rattle.dump_text.proofs.reading.read_items.Goals as goal

pub returns-in_err-item : goal.returns-in_err-item
returns-in_err-item c =
    let bytes : List ℕ = c.args.bytes.now in
    let count : ℕ = c.in_ok-count.count in
    let place : ℕ = c.loop-done.place in
    let left : ℕ = count - c.loop-done.done - 1 in
    let front : List Dumped = map (dumped bytes) c.loop-done.items.items in
    let at : suc left ≡ count - c.loop-done.done = omega (arith, c.loop-done-test.true) in
    let p = err_from_is_err_and c.from_residual-in_err-item.result c.from_residual-in_err-item.ensures.1 in
    rw (p.1, p.2)
    (items_bad bytes count left c.loop-done.last place front _ (dumped_in bytes) c.in_err-item.ensures
    (ap (λ (k : ℕ). with_front front place (rest_of count k c.loop-done.last (drop place bytes))) at ∙ c.loop-done.invariant.read))

pub loop-done-preserved : goal.loop-done-preserved
loop-done-preserved c =
    let bytes : List ℕ = c.args.bytes.now in
    let count : ℕ = c.in_ok-count.count in
    let place : ℕ = c.loop-done.place in
    let left : ℕ = count - c.loop-done.done - 1 in
    let x = c.in_ok-item.item in
    let end : ℕ = x.start + x.length in
    let front : List Dumped = map (dumped bytes) c.loop-done.items.items in
    let at : suc left ≡ count - c.loop-done.done = omega (arith, c.loop-done-test.true) in
    let less : count - (c.loop-done.done + 1) ≡ left = omega arith in
    let pushed : c.push.new.self.items ≡ c.loop-done.items.items ++ x ∷ [] = c.in_ok-push.ensures.items in
    record {
      fits = c.in_ok-item.ensures.within;
      read = (λ i. with_front (map (dumped bytes) (pushed i)) end (rest_of count (less i) (Some (c.copied.ensures i)) (drop end bytes)))
          ∙ items_more bytes count left c.loop-done.last place c.loop-done.items.items x (dumped_in bytes) c.loop-done.invariant.fits c.in_ok-item.ensures
          (ap (λ (k : ℕ). with_front front place (rest_of count k c.loop-done.last (drop place bytes))) at ∙ c.loop-done.invariant.read);
    }
