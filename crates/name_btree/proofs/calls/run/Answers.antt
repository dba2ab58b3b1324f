use Rattle.std.proofs.Common.{◌≤◌, length, sym, arith}
use Rattle.std.proofs.lemmas.Result.{err_from_is_err_and}
use Rattle.name_page.proofs.LookLaws.{edits_then}
use Rattle.name_btree.proofs.steps.CallLaws.{none_so_far, next_allowed, one_so_far, stops_here, all_so_far}
use Rattle.name_btree.proofs.calls.run.Goals as goal

pub carry_out-requires-clause-reached : goal.carry_out-requires-clause-reached
carry_out-requires-clause-reached g c = omega (arith, c.requires.reached, c.loop-i.invariant.edits.most_reached)

pub carry_out-requires-clause-changed : goal.carry_out-requires-clause-changed
carry_out-requires-clause-changed g c = omega (arith, c.requires.changed, c.loop-i.invariant.edits.most_changed)

pub carry_out-requires-clause-allowed : goal.carry_out-requires-clause-allowed
carry_out-requires-clause-allowed g c =
    next_allowed g.T.Pages c.args.t.now c.loop-i.t c.args.calls.now c.loop-i.answers c.loop-i.i c.index-calls-i.result c.loop-i-test.true (sym c.index-calls-i.is) c.loop-i.invariant c.requires.table

pub loop-i-init : goal.loop-i-init
loop-i-init g c = none_so_far g.T.Pages c.args.t.now c.args.calls.now c.args.answers.now (g.met.T.Pages.still c.args.t.now) c.requires.whole

pub loop-i-preserved : goal.loop-i-preserved
loop-i-preserved g c =
    let e = c.in_ok-answers.ensures in
    one_so_far g.T.Pages c.args.t.now c.loop-i.t c.args.calls.now c.loop-i.answers c.loop-i.i c.index-calls-i.result c.loop-i-test.true (sym c.index-calls-i.is) c.loop-i.invariant
    c.carry_out.new.t e.calls.trust g.met.T.Pages.then e.calls c.in_ok-answers.field-0 e.carried

pub returns-clause-run : goal.returns-clause-run
returns-clause-run g c =
    let all : length c.args.calls.now ≤ c.loop-i.i = omega (arith, c.loop-i-test.false) in
    all_so_far g.T.Pages c.args.t.now c.loop-i.t c.args.calls.now c.loop-i.answers c.loop-i.i all c.loop-i.invariant

pub returns-in_err-answers-clause-run : goal.returns-in_err-answers-clause-run
returns-in_err-answers-clause-run g c =
    let p = err_from_is_err_and c.from_residual.result c.from_residual.ensures.1 in
    let e = c.in_err-answers.ensures in
    rw (p.1, p.2) (stops_here g.T.Pages c.args.t.now c.loop-i.t c.args.calls.now c.loop-i.answers c.loop-i.i c.index-calls-i.result c.loop-i-test.true (sym c.index-calls-i.is) c.loop-i.invariant
    c.carry_out.new.t e.calls.trust c.in_err-answers.field-0.0 e.carried)

pub returns-in_err-answers-clause-calls : goal.returns-in_err-answers-clause-calls
returns-in_err-answers-clause-calls g c =
    let p = err_from_is_err_and c.from_residual.result c.from_residual.ensures.1 in
    rw (p.1, p.2) (edits_then g.T.Pages g.met.T.Pages.then c.args.t.now c.loop-i.t c.carry_out.new.t c.loop-i.invariant.edits c.in_err-answers.ensures.calls)
