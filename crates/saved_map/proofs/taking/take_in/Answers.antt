use Rattle.std.proofs.Common.{◌≡◌, ℕ, refl, subst, arith}
use Rattle.std.proofs.lemmas.Bool.{both_ways}
use Rattle.volume_layout.specs.Layout.{map_bits}
use Rattle.saved_map.specs.Taking.{AreAdded, is_set_in_first}
use Rattle.saved_map.proofs.TakingLaws.{clear_on, clear_places, new_behind, none_added, run_added, run_goes_on}
use Rattle.saved_map.proofs.taking.take_in.Goals as goal

pub loop-start-init : goal.loop-start-init
loop-start-init c =
    let first = c.first_bit-start.ensures in
    record {
      end = first.to;
      found = first.found;
      added = none_added c.args.b.now c.args.at c.args.l.now c.args.map.now c.args.free_pages.now c.first_bit-start.result c.requires.kept first;
      clear = λ n less none. first.before n (omega arith) less;
    }

pub take_run-requires-clause-kept : goal.take_run-requires-clause-kept
take_run-requires-clause-kept c = c.loop-start.invariant.added.kept

pub take_run-requires-clause-some : goal.take_run-requires-clause-some
take_run-requires-clause-some c =
    let more = run_goes_on c.args.b.now c.loop-start.start c.first_bit-stop.result c.first_bit-stop.ensures (c.loop-start.invariant.found c.loop-start-test.true) c.loop-start-test.true in
    omega (arith, more)

pub take_run-requires-clause-new : goal.take_run-requires-clause-new
take_run-requires-clause-new c =
    new_behind c.args.b.now c.args.at c.args.l.now c.args.map.now c.loop-start.map c.args.free_pages.now c.loop-start.free_pages c.loop-start.start c.requires.new c.loop-start.invariant.added

pub returns-then-not-take_run-clause-clear : goal.returns-then-not-take_run-clause-clear
returns-then-not-take_run-clause-clear c = (
  λ so. absurd (cc),
  λ clear. absurd (both_ways c.take_run.result c.if-not-take_run.true
      (c.take_run.ensures.placed.1 (clear_places c.args.b.now c.args.at c.args.l.now c.loop-start.start c.first_bit-stop.result c.first_bit-stop.ensures clear))),
)

pub loop-start-preserved : goal.loop-start-preserved
loop-start-preserved c =
    let run = c.first_bit-stop.ensures in
    let rest = c.first_bit-start-in-loop-start.ensures in
    let so_far = c.loop-start.invariant in
    let took = c.if-not-take_run.false in
    record {
      end = rest.to;
      found = rest.found;
      added = run_added c.args.b.now c.args.at c.loop-start.start c.first_bit-stop.result c.first_bit-start-in-loop-start.result run rest c.args.l.now c.args.map.now c.loop-start.map c.take_run.new.map
          c.args.free_pages.now c.loop-start.free_pages c.take_run.new.free_pages so_far.added (c.take_run.ensures.taken took);
      clear = clear_on c.args.b.now c.args.at c.loop-start.start c.first_bit-stop.result c.first_bit-start-in-loop-start.result run rest c.args.l.now so_far.clear (c.take_run.ensures.placed.0 took);
    }

pub returns : goal.returns
returns c =
    let whole : c.loop-start.start ≡ map_bits = omega (arith, c.loop-start-test.false, c.loop-start.invariant.end) in
    let so_far = c.loop-start.invariant in
    record {
      taken = λ so. subst (λ (count : ℕ). AreAdded c.args.l.now (is_set_in_first c.args.b.now c.args.at count) c.args.map.now c.args.free_pages.now c.loop-start.map c.loop-start.free_pages) whole so_far.added;
      clear = (λ so n less none. so_far.clear n (omega (arith, whole, less)) none, λ clear. refl);
    }
