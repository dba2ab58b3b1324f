use Rattle.std.proofs.Common.{ℕ, ◌+◌, slice_set, sym, ◌∙◌, ap, add-one}
use Rattle.sector_disk.specs.Image.{stand}
use Rattle.sector_disk.specs.declared.sector.Sector.TheVariants.{Whole}
use Rattle.memory_machine.proofs.past.stand.Goals as goal

pub loop-k-preserved : goal.loop-k-preserved
loop-k-preserved c =
    (λ i. slice_set (c.loop-k.invariant i) (c.args.first + c.loop-k.k) (Whole (c.slice_of.ensures i)))
    ∙ ap (λ (n : ℕ). stand c.args.image.now c.args.first c.args.bytes.now n) (sym (add-one c.loop-k.k))
