use Rattle.std.proofs.Common.{ℕ, ◌-◌, false, replicate, ap, ◌∙◌}
use Rattle.run_table.specs.RunTable.{run_of}
use Rattle.cached_table.proofs.OpeningLaws.{room_is}
use Rattle.cached_table.proofs.opening.room_for.Goals as goal

pub returns : goal.returns
returns c = let most = c.most_sectors-most.result in record {
  cache = c.in_ok-cache.ensures.ok;
  free_pages = c.in_ok-free_pages.ensures.ok ∙ ap (λ (n : ℕ). replicate n false) c.pages.ensures.value;
  map = c.in_ok-map.ensures ∙ room_is c.args.l.now c.data_start.result most (run_of c.sectors.result (most - c.sectors-2.result)) c.data_start.ensures c.most_sectors-most.ensures.value
      (ap (λ (n : ℕ). run_of n (most - c.sectors-2.result)) c.sectors.ensures.value ∙ ap (λ (n : ℕ). run_of c.args.l.now.sectors (most - n)) c.sectors-2.ensures.value);
  marks = c.in_ok-marks.ensures ∙ ap (λ (n : ℕ). replicate n false) c.pages-2.ensures.value;
}
