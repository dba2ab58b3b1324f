use Rattle.std.proofs.Common.{ℕ, ◌+◌, take, subst}
use Rattle.fsd_texts.specs.declared.line.Line.TheVariants as Says
use Rattle.volume_turns.specs.Dumping.{SaysAtEnd, damages_text}
use Rattle.volume_turns.proofs.UtterLaws.{at_end_line, found_failed, found_next, not_failed}
use Rattle.volume_turns.proofs.dumping.say_found.Goals as goal

pub returns-then-last_line-eq6 : goal.returns-then-last_line-eq6
returns-then-last_line-eq6 g c =
    let M = g.M.Machine in
    let m = c.loop-x.m in
    let b = c.last_line.new.m in
    let x = c.x-item.result in
    let status = c.last_line.result in
    let line = c.last_line.ensures in
    found_failed M c.args.found.now c.loop-x.x-index c.args.m.now b status c.if-last_line-eq6.true
    (found_next M c.args.found.now c.loop-x.x-index c.args.m.now b x c.copied.result c.loop-x-test.true c.x-item.is c.copied.ensures m status c.loop-x.invariant (at_end_line (Says.Damaged c.copied.result x.1) 8 m b status line.says line.ends line.ledger line.status))

pub loop-x-preserved : goal.loop-x-preserved
loop-x-preserved g c =
    let M = g.M.Machine in
    let m = c.loop-x.m in
    let b = c.last_line.new.m in
    let x = c.x-item.result in
    let status = c.last_line.result in
    let line = c.last_line.ensures in
    subst (λ (s : ℕ). SaysAtEnd M (damages_text (take (c.loop-x.x-index + 1) c.args.found.now)) 8 c.args.m.now b s) (not_failed 8 status line.status c.if-last_line-eq6.false)
    (found_next M c.args.found.now c.loop-x.x-index c.args.m.now b x c.copied.result c.loop-x-test.true c.x-item.is c.copied.ensures m status c.loop-x.invariant (at_end_line (Says.Damaged c.copied.result x.1) 8 m b status line.says line.ends line.ledger line.status))
