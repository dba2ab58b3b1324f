use Rattle.std.proofs.Common.{ℕ, List, subst, arith}
use Rattle.std.specs.Prelude.{Result, Ok}
use Rattle.std.proofs.lemmas.Result.{err_from_is_err_and}
use Rattle.fsd_bytes.specs.declared.key.Key.{Key}
use Rattle.fsd_bytes.specs.declared.refusal.Refusal.{Refusal}
use Rattle.scrub.specs.Looking.{Adds}
use Rattle.scrub.proofs.LookLaws.{data_all, slice_more, slice_some}
use Rattle.scrub.proofs.PlaceLaws.{data_count}
use Rattle.scrub.proofs.ReadingLaws.{volume_read_then}
use Rattle.scrub.proofs.data.look_through.Goals as goal

pub look_at-requires-clause-slice : goal.look_at-requires-clause-slice
look_at-requires-clause-slice g c =
    let below = c.loop-slice-test.true in let end = c.loop-slice.auto.slice-end in let total = c.total-slice-end.ensures in let count = data_count c.args.e.now in omega (arith, below, end, total, count)

pub returns-in_err-look_at-clause-reads : goal.returns-in_err-look_at-clause-reads
returns-in_err-look_at-clause-reads g c =
    let p = err_from_is_err_and c.from_residual.result c.from_residual.ensures.1 in
    rw (p.1, p.2) (volume_read_then c.loop-slice.invariant.reads c.in_err-look_at.ensures.reads)

pub returns-in_err-look_at-clause-adds : goal.returns-in_err-look_at-clause-adds
returns-in_err-look_at-clause-adds g c =
    let p = err_from_is_err_and c.from_residual.result c.from_residual.ensures.1 in
    let M = g.M.Machine in
    let was = c.loop-slice.invariant in
    let call = c.in_err-look_at.ensures in
    let below = c.loop-slice-test.true in let end = c.loop-slice.auto.slice-end in let total = c.total-slice-end.ensures in let count = data_count c.args.e.now in
    rw (p.1, p.2) (λ h. slice_some _ _ (M.now c.args.m.now).image (M.now c.loop-slice.m).image (M.now c.look_at.new.m).image (was.reads.disk.worn (call.reads.disk.trust.honest h)).image (call.reads.disk.worn h).image
    c.args.e.now c.loop-slice.slice (omega (arith, below, end, total, count)) c.args.found.now.items c.loop-slice.found.items c.look_at.new.found.items (was.adds (call.reads.disk.trust.honest h)) c.in_err-look_at.field-0.0 (call.adds h))

pub loop-slice-preserved : goal.loop-slice-preserved
loop-slice-preserved g c =
    let M = g.M.Machine in
    let was = c.loop-slice.invariant in
    let call = c.in_ok-look_at.ensures in
    let below = c.loop-slice-test.true in let end = c.loop-slice.auto.slice-end in let total = c.total-slice-end.ensures in let count = data_count c.args.e.now in
    record {
      reads = volume_read_then was.reads call.reads;
      adds = λ h. slice_more _ _ (M.now c.args.m.now).image (M.now c.loop-slice.m).image (M.now c.look_at.new.m).image (was.reads.disk.worn (call.reads.disk.trust.honest h)).image (call.reads.disk.worn h).image
          c.args.e.now c.loop-slice.slice (omega (arith, below, end, total, count)) c.args.found.now.items c.loop-slice.found.items c.look_at.new.found.items (was.adds (call.reads.disk.trust.honest h)) (call.adds h);
    }

pub returns-clause-adds : goal.returns-clause-adds
returns-clause-adds g c = λ h.
    let done : Result (Unit {0}) Refusal = Ok tt in
    let above = c.loop-slice-test.false in let end = c.loop-slice.auto.slice-end in let total = c.total-slice-end.ensures in let count = data_count c.args.e.now in
    subst (λ (xs : List (Key × ℕ)). Adds (g.M.Machine.now c.args.m.now).image (g.M.Machine.now c.loop-slice.m).image xs c.args.found.now.items c.loop-slice.found.items done)
    (data_all c.args.e.now c.loop-slice.slice (omega (arith, above, end, total, count))) (c.loop-slice.invariant.adds h)
