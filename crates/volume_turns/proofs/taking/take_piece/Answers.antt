use Rattle.std.proofs.Common.{true, false}
use Rattle.volume_turns.proofs.SayLaws.{spares_taken, spares_untaken, taken_leaves}
use Rattle.volume_turns.proofs.SyncLaws.{only_takes_none, only_takes_some}
use Rattle.volume_turns.proofs.taking.take_piece.Goals as goal

pub returns-in_default : goal.returns-in_default
returns-in_default g c =
    let M = g.M.Machine in
    let a = c.args.m.now in
    let b = c.take.new.self in
    let take = c.take.ensures in
    record {
      calls = taken_leaves M a b (λ left h was. g.met.M.Machine.only_now a left h was) take.trust true (spares_untaken (M.report a) (M.report b) c.in_default.field-0 c.in_default.ensures.cause) take.worn take.time;
      comes = tt;
      more = tt;
      takes = λ t. only_takes_none (M.ledger a) (M.ledger b) (c.in_default.ensures.left_err t);
      some = λ is. cc is;
    }

pub returns-then-is_err : goal.returns-then-is_err
returns-then-is_err g c =
    let M = g.M.Machine in
    let a = c.args.m.now in
    let b = c.take.new.self in
    let take = c.take.ensures in
    record {
      calls = taken_leaves M a b (λ left h was. g.met.M.Machine.only_now a left h was) take.trust false (spares_taken (M.report a) (M.report b) c.in-Ok.count c.in-Ok.ensures.cause) take.worn take.time;
      comes = tt;
      more = tt;
      takes = λ t. only_takes_some (M.ledger a) (M.ledger b) c.in-Ok.count (c.in-Ok.ensures.left t);
      some = λ is. cc is;
    }

pub returns-clause-calls : goal.returns-clause-calls
returns-clause-calls g c =
    let M = g.M.Machine in
    let a = c.args.m.now in
    let b = c.take.new.self in
    let take = c.take.ensures in
    taken_leaves M a b (λ left h was. g.met.M.Machine.only_now a left h was) take.trust false (spares_taken (M.report a) (M.report b) c.in-Ok.count c.in-Ok.ensures.cause) take.worn take.time

pub returns-clause-takes : goal.returns-clause-takes
returns-clause-takes g c = λ t. only_takes_some (g.M.Machine.ledger c.args.m.now) (g.M.Machine.ledger c.take.new.self) c.in-Ok.count (c.in-Ok.ensures.left t)
