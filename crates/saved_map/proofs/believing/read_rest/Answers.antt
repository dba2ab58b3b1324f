use Rattle.std.proofs.Common.{◌≡◌, ◌≤◌, ◌∙◌, ℕ, Ok, subst, ap, arith}
use Rattle.sector_disk.specs.Calls.{failed_at}
use Rattle.sector_disk.proofs.CallLaws.{reads_none, reads_then, reads_told, told_up}
use Rattle.saved_map.specs.Reading.{TakesRest}
use Rattle.saved_map.proofs.LayoutLaws.{some_sectors}
use Rattle.saved_map.proofs.ReadingLaws.{begins_rest, new_from, takes_next}
use Rattle.saved_map.proofs.believing.read_rest.Goals as goal

pub loop-k-init : goal.loop-k-init
loop-k-init g c = record {
  reads = reads_none c.args.m.now (λ left h since. g.met.M.Machine.only_now c.args.m.now left h since);
  took = begins_rest g.M.Machine c.args.l.now c.args.first.now c.args.m.now c.args.map.now c.args.free_pages.now c.requires.part c.requires.index c.requires.marked c.requires.whole;
}

pub read_part-requires : goal.read_part-requires
read_part-requires g c =
    let so_far = c.loop-k.invariant in
    record {
      planned = c.requires.planned;
      sectors = omega (arith, c.requires.sectors, so_far.reads.uses.sectors);
      kept = so_far.took.marked.kept;
      index = omega (arith, c.loop-k-test.true, c.map_sectors-k-end.ensures.value);
      new = new_from c.args.l.now so_far.took.sectors c.loop-k.k c.loop-k.map c.loop-k.free_pages so_far.took.count so_far.took.marked;
    }

pub returns-in_err-read_part-clause-reads : goal.returns-in_err-read_part-clause-reads
returns-in_err-read_part-clause-reads g c =
    reads_told (told_up failed_at c.from_residual.result c.in_err-read_part.field-0.0 c.from_residual.ensures.1) (reads_then c.loop-k.invariant.reads c.in_err-read_part.ensures.reads)

pub returns-then-not-branch-clause-reads : goal.returns-then-not-branch-clause-reads
returns-then-not-branch-clause-reads g c = reads_then c.loop-k.invariant.reads c.in_ok-read_part.ensures.reads

pub returns-then-not-branch-clause-not : goal.returns-then-not-branch-clause-not
returns-then-not-branch-clause-not g c same h =
    (c.loop-k.k, omega (arith, c.loop-k-test.true, c.map_sectors-k-end.ensures.value), c.in_ok-read_part.ensures.not (ap Ok c.if-not-branch.true) h)

pub loop-k-preserved : goal.loop-k-preserved
loop-k-preserved g c =
    let so_far = c.loop-k.invariant in
    let done = c.in_ok-read_part.ensures in
    record {
      reads = reads_then so_far.reads done.reads;
      took = takes_next g.M.Machine c.args.l.now c.args.first.now c.args.m.now c.loop-k.m c.read_part.new.m c.loop-k.k c.loop-k.map c.read_part.new.map c.loop-k.free_pages c.read_part.new.free_pages (reads_then so_far.reads done.reads) done.reads so_far.took
          (done.took (ap Ok c.if-not-branch.false));
    }

pub returns : goal.returns
returns g c =
    let so_far = c.loop-k.invariant in
    let some = some_sectors c.args.l.now c.requires.planned in
    let more : 1 ≤ c.map_sectors-k-end.result = omega (arith, some, c.map_sectors-k-end.ensures.value) in
    let end : c.loop-k.k ≡ c.map_sectors-k-end.result = omega (arith, c.loop-k-test.false, c.loop-k.auto.k-end more) in
    record {
      reads = so_far.reads;
      took = λ same. subst (λ (n : ℕ). TakesRest g.M.Machine c.args.l.now c.args.first.now c.args.m.now c.loop-k.m n c.loop-k.map c.loop-k.free_pages) (end ∙ c.map_sectors-k-end.ensures.value) so_far.took;
      not = λ same h. absurd (cc same);
    }
