use Rattle.std.proofs.Common.{◌≡◌, List, ℕ, length, refl, sym, ◌∙◌, ap, subst, arith}
use Rattle.sector_disk.specs.Machine.{Ledger, Wears}
use Rattle.sector_disk.proofs.CallLaws.{leaves_none, takes_then}
use Rattle.sector_disk.proofs.Holding.{wears_none}
use Rattle.script_text.specs.Taking.{ComesIn}
use Rattle.volume_turns.specs.declared.taking.InputFault.TheVariants.{TooLong}
use Rattle.volume_turns.proofs.TakingLaws.{SoFar, nothing_so_far, so_far_more, whole_so_far}
use Rattle.volume_turns.proofs.SyncLaws.{only_takes_none, only_takes_then}
use Rattle.volume_turns.proofs.taking.read_input.Goals as goal

pub loop-init : goal.loop-init
loop-init g c =
    let M = g.M.Machine in
    let a = c.args.m.now in
    let none = ap (λ (b : List ℕ). length b) c.new-bytes.ensures in
    record {
      calls = leaves_none a (λ left h was. g.met.M.Machine.only_now a left h was) Wears (λ h. wears_none (M.now a));
      taken = λ t. subst (λ (b : List ℕ). SoFar (M.ledger a) (M.ledger a) b) (sym c.new-bytes.ensures) (nothing_so_far (M.ledger a));
      takes = λ t. only_takes_none (M.ledger a) (M.ledger a) refl;
      turns = omega arith;
      most = omega (arith, none);
    }

pub loop-preserved : goal.loop-preserved
loop-preserved g c =
    let M = g.M.Machine in
    let was = c.loop.invariant in
    let calls = c.in-Ok.ensures.calls in
    let more = c.in-Ok.ensures.more in
    let turns = was.turns in
    let some = c.if-count-eq0.false in
    let shown = ap (λ (b : List ℕ). length b) c.as_slice.ensures in
    let most = c.if-as_slice-gt-MOST_INPUT.false in
    record {
      calls = takes_then was.calls calls;
      taken = λ t. so_far_more (M.ledger c.args.m.now) (M.ledger c.loop.m) (M.ledger c.take_piece.new.m) c.loop.bytes c.take_piece.new.bytes c.in-Ok.count (was.taken (calls.trust.tells t)) (c.in-Ok.ensures.comes t);
      takes = λ t. only_takes_then (M.ledger c.args.m.now) (M.ledger c.loop.m) (M.ledger c.take_piece.new.m) (was.takes (calls.trust.tells t)) (c.take_piece.ensures.takes t);
      turns = omega (arith, more, turns, some);
      most = omega (arith, shown, most);
    }

pub returns-in-Err-clause-calls : goal.returns-in-Err-clause-calls
returns-in-Err-clause-calls g c = takes_then c.loop.invariant.calls c.in-Err.ensures.calls

pub returns-in-Err-clause-long : goal.returns-in-Err-clause-long
returns-in-Err-clause-long g c is t = absurd (c.in-Err.ensures.some (let same : c.in-Err.fault ≡ TooLong = cc is in same))

pub returns-in-Err-clause-takes : goal.returns-in-Err-clause-takes
returns-in-Err-clause-takes g c t = let M = g.M.Machine in only_takes_then (M.ledger c.args.m.now) (M.ledger c.loop.m) (M.ledger c.take_piece.new.m) (c.loop.invariant.takes (c.take_piece.ensures.calls.trust.tells t)) (c.take_piece.ensures.takes t)

pub returns-then-count-eq0-clause-calls : goal.returns-then-count-eq0-clause-calls
returns-then-count-eq0-clause-calls g c = takes_then c.loop.invariant.calls c.in-Ok.ensures.calls

pub returns-then-count-eq0-clause-whole : goal.returns-then-count-eq0-clause-whole
returns-then-count-eq0-clause-whole g c t =
    let M = g.M.Machine in
    let old = c.loop.bytes in
    let new = c.take_piece.new.bytes in
    let before = M.ledger c.loop.m in
    let now = M.ledger c.take_piece.new.m in
    whole_so_far (M.ledger c.args.m.now) before now old new (c.loop.invariant.taken (c.take_piece.ensures.calls.trust.tells t)) (subst (λ (n : ℕ). ComesIn old new n before now) c.if-count-eq0.true (c.in-Ok.ensures.comes t))

pub returns-then-count-eq0-clause-end : goal.returns-then-count-eq0-clause-end
returns-then-count-eq0-clause-end g c t =
    let M = g.M.Machine in
    let comes = subst (λ (n : ℕ). ComesIn c.loop.bytes c.take_piece.new.bytes n (M.ledger c.loop.m) (M.ledger c.take_piece.new.m)) c.if-count-eq0.true (c.in-Ok.ensures.comes t) in
    ap (λ (l : Ledger). l.input) comes.left ∙ comes.end refl

pub returns-then-count-eq0-clause-few : goal.returns-then-count-eq0-clause-few
returns-then-count-eq0-clause-few g c =
    let more = c.in-Ok.ensures.more in
    let most = c.loop.invariant.most in
    let none = c.if-count-eq0.true in
    omega (arith, more, most, none)

pub returns-then-count-eq0-clause-takes : goal.returns-then-count-eq0-clause-takes
returns-then-count-eq0-clause-takes g c t = let M = g.M.Machine in only_takes_then (M.ledger c.args.m.now) (M.ledger c.loop.m) (M.ledger c.take_piece.new.m) (c.loop.invariant.takes (c.take_piece.ensures.calls.trust.tells t)) (c.take_piece.ensures.takes t)

pub returns-then-as_slice-gt-MOST_INPUT-clause-calls : goal.returns-then-as_slice-gt-MOST_INPUT-clause-calls
returns-then-as_slice-gt-MOST_INPUT-clause-calls g c = takes_then c.loop.invariant.calls c.in-Ok.ensures.calls

pub returns-then-as_slice-gt-MOST_INPUT-clause-long : goal.returns-then-as_slice-gt-MOST_INPUT-clause-long
returns-then-as_slice-gt-MOST_INPUT-clause-long g c is t =
    let M = g.M.Machine in
    let far = so_far_more (M.ledger c.args.m.now) (M.ledger c.loop.m) (M.ledger c.take_piece.new.m) c.loop.bytes c.take_piece.new.bytes c.in-Ok.count (c.loop.invariant.taken (c.take_piece.ensures.calls.trust.tells t)) (c.in-Ok.ensures.comes t) in
    let within = far.within in
    let shown = ap (λ (b : List ℕ). length b) c.as_slice.ensures in
    let many = c.if-as_slice-gt-MOST_INPUT.true in
    omega (arith, within, shown, many)

pub returns-then-as_slice-gt-MOST_INPUT-clause-takes : goal.returns-then-as_slice-gt-MOST_INPUT-clause-takes
returns-then-as_slice-gt-MOST_INPUT-clause-takes g c t = let M = g.M.Machine in only_takes_then (M.ledger c.args.m.now) (M.ledger c.loop.m) (M.ledger c.take_piece.new.m) (c.loop.invariant.takes (c.take_piece.ensures.calls.trust.tells t)) (c.take_piece.ensures.takes t)

pub returns-clause-calls : goal.returns-clause-calls
returns-clause-calls g c = c.loop.invariant.calls

pub returns-clause-long : goal.returns-clause-long
returns-clause-long g c is t =
    let turns = c.loop.invariant.turns in
    let most = c.loop.invariant.most in
    let ended = c.loop-test.false in
    absurd (omega (arith, turns, most, ended))
