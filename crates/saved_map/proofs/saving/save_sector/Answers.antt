use Rattle.std.proofs.Common.{◌+◌, ◌*◌, List, ℕ, length, take, ap, ◌∙◌, refl, arith}
use Rattle.std.proofs.lemmas.List.{length-set}
use Rattle.volume_layout.specs.Layout.{map_bits}
use Rattle.saved_map.specs.Marks.{is_marked}
use Rattle.saved_map.proofs.MarkLaws.{save_end, save_step}
use Rattle.saved_map.proofs.saving.save_sector.Goals as goal

pub loop-q-init : goal.loop-q-init
loop-q-init c = record {
  size = ap (λ (b : List ℕ). length b) c.head_alone-b.ensures.bytes ∙ refl;
  so_far = ap (take 16) c.head_alone-b.ensures.bytes ∙ refl;
}

pub loop-q-preserved : goal.loop-q-preserved
loop-q-preserved c = record {
  size = length-set c.loop-q.b (16 + c.loop-q.q) c.byte_at.result ∙ c.loop-q.invariant.size;
  so_far = save_step c.args.head.now (is_marked c.args.l.now c.args.map.now.sectors c.args.free_pages.now) (map_bits * c.args.head.now.index) c.loop-q.q c.loop-q.b c.byte_at.result
      (omega (arith, c.loop-q.invariant.size, c.loop-q-test.true)) c.loop-q.invariant.so_far c.byte_at.ensures;
}

pub returns : goal.returns
returns c = record {
  bytes = save_end c.args.head.now (is_marked c.args.l.now c.args.map.now.sectors c.args.free_pages.now) (map_bits * c.args.head.now.index) c.loop-q.q c.loop-q.b c.loop-q.invariant.size
      (omega (arith, c.loop-q.auto.q-end, c.loop-q-test.false)) c.loop-q.invariant.so_far;
}
