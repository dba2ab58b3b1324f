use Rattle.std.proofs.Common.{true, length-set, ◌≡◌, ◌∙◌, ◌||◌, false, ℕ, ap, get_or, refl, arith}
use Rattle.sector_set.specs.Bits.{in_range}
use Rattle.saved_map.proofs.RunLaws.{flag_more, no_flag}
use Rattle.saved_map.proofs.taking.free_run.Goals as goal

pub loop-page-init : goal.loop-page-init
loop-page-init c = record { size = refl; each = λ k. no_flag c.args.free_pages.now c.args.from k }

pub loop-page-preserved : goal.loop-page-preserved
loop-page-preserved c = record {
  size = length-set c.loop-page.free_pages c.loop-page.page true ∙ c.loop-page.invariant.size;
  each = λ k. flag_more c.loop-page.free_pages c.args.free_pages.now c.args.from c.loop-page.page k c.loop-page.auto.page (omega (arith, c.loop-page.invariant.size, c.requires.room, c.loop-page-test.true)) (c.loop-page.invariant.each k);
}

pub returns : goal.returns
returns c =
    let end : c.loop-page.page ≡ c.args.to = omega (arith, c.loop-page-test.false, c.requires.order) in
    record {
      size = c.loop-page.invariant.size;
      each = λ k. c.loop-page.invariant.each k ∙ ap (λ (to : ℕ). get_or c.args.free_pages.now k false || in_range c.args.from to k) end;
    }
