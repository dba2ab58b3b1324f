use Rattle.std.proofs.Common.{◌≡◌, ◌+◌, ◌∙◌, ℕ, arith, length, length-drop, sym, ap, subst, refl, true, None}
use Rattle.std.specs.Prelude.{is_none, is_some}
use Rattle.script_text.specs.Reading.{Ahead, GivesWhole, ReadsFurther, WantsMore, Reading, script_left}
use Rattle.script_text.specs.Taking.{TakesBytes}
use Rattle.script_text.proofs.MoreLaws.{command_shrinks}
use Rattle.script_text.proofs.ReaderLaws.{IsOpen, open_of}
use Rattle.script_text.proofs.StepLaws.{Answer, answer_ahead, answer_spelled, answer_waits, fault_ahead, fault_is, fault_waits, falls, gives_next, grows_then, moves_from, moves_still, as_it_was, never, none_of}
use Rattle.sector_disk.proofs.CallLaws.{takes_then}
use Rattle.script_text.proofs.reader.Reader.next_command.Given as given
use Rattle.script_text.proofs.reader.Reader.next_command.Goals as goal

-- the reader has not ended
open_here : (g : given.Over) (c : goal.In-Ok g) → IsOpen c.loop-alloc.self
open_here g c =
    let still : c.loop-alloc.self.end ≡ None = sym (ap (λ (r : Reading). r.end) c.self.view_is) ∙ none_of c.self.inside.end c.loop-alloc-test.ensures in
    open_of _ _ _ _ _ c.loop-alloc.self c.self.invariant c.self.view_is still

pub returns-in-Ok-clause-script : goal.returns-in-Ok-clause-script
returns-in-Ok-clause-script g c h = sym (c.loop-alloc.invariant.script h) ∙ gives_next c.loop-alloc.self c.front.new.self c.in-Ok.command _ (open_here g c) c.in-Ok.ensures

pub returns-in-Ok-clause-counts : goal.returns-in-Ok-clause-counts
returns-in-Ok-clause-counts g c =
    let is_open = open_here g c in
    let taken : c.front.new.self.taken ≡ c.loop-alloc.self.taken = ap (λ (r : Reading). r.taken) c.in-Ok.ensures.new_is in
    record {
      ended = ap (λ (r : Reading). r.end) c.in-Ok.ensures.new_is ∙ is_open.open_still;
      counted = ap (λ (r : Reading). r.given) c.in-Ok.ensures.new_is ∙ ap (λ (n : ℕ). n + 1) c.loop-alloc.invariant.given;
      most = omega (arith, taken, is_open.within);
      most_while_open = λ e. omega (arith, taken, is_open.within);
      few =
          let shrinks = command_shrinks c.loop-alloc.self.waiting c.in-Ok.command _ c.in-Ok.ensures.read in
          let waits = ap (λ (r : Reading). length r.waiting) c.self.view_is in
          omega (arith, ap (λ (r : Reading). r.given) c.in-Ok.ensures.new_is, taken, shrinks, waits, length-drop c.self.inside.start c.self.inside.bytes.items, ap (λ (r : Reading). r.given) c.self.view_is, ap (λ (r : Reading). r.taken) c.self.view_is, c.self.invariant.each_took);
    }

pub returns-in-Ok-clause-again : goal.returns-in-Ok-clause-again
returns-in-Ok-clause-again g c = never c.args.self.now _ c.loop-alloc.self _ c.self.view_is c.loop-alloc-test.ensures c.loop-alloc.invariant.again

pub returns-in-Ok-clause-moves : goal.returns-in-Ok-clause-moves
returns-in-Ok-clause-moves g c h = moves_from _ _ _ _ _ _ (open_here g c) (c.loop-alloc.invariant.grows h) c.in-Ok.ensures

pub returns-in-Ok-clause-calls : goal.returns-in-Ok-clause-calls
returns-in-Ok-clause-calls g c = c.loop-alloc.invariant.calls

pub returns-in-Ok-clause-whole : goal.returns-in-Ok-clause-whole
returns-in-Ok-clause-whole g c = record { spelled = (c.loop-alloc.self.waiting, _, c.in-Ok.ensures.read); waits = tt }

pub returns-in-Err-Memory : goal.returns-in-Err-Memory
returns-in-Err-Memory g c =
    let M = g.M.Machine in
    let first = c.args.self.now in let here = c.loop-alloc.self in
    let so_far = c.loop-alloc.invariant in
    let still : here.end ≡ None = sym (ap (λ (r : Reading). r.end) c.self.view_is) ∙ none_of c.self.inside.end c.loop-alloc-test.ensures in
    let is_open : IsOpen here = open_of _ _ _ _ _ here c.self.invariant c.self.view_is still in
    let same : c.front.new.self ≡ here = as_it_was here c.front.new.self c.in-Err-Memory.field-0 c.in-Err-Memory.ensures in
    let taken : c.front.new.self.taken ≡ here.taken = ap (λ (r : Reading). r.taken) same in
    record {
      script = λ h. ap (λ (r : Reading). script_left r (M.ledger c.loop-alloc.m).input) same ∙ so_far.script h;
      counts = record {
        ended = ap (λ (r : Reading). r.end) same ∙ still;
        counted = omega (arith, ap (λ (r : Reading). r.given) same, so_far.given);
        most = omega (arith, taken, is_open.within);
        most_while_open = λ e. omega (arith, taken, is_open.within);
        few = omega (arith, ap (λ (r : Reading). r.given) same, taken, ap (λ (r : Reading). r.given) c.self.view_is, ap (λ (r : Reading). r.taken) c.self.view_is, c.self.invariant.each_took);
      };
      again = never first _ here _ c.self.view_is c.loop-alloc-test.ensures so_far.again;
      moves = λ h. moves_still _ _ _ _ _ _ (so_far.grows h) same (λ s t e. e still);
      whole = record { spelled = tt; waits = tt };
      calls = so_far.calls;
    }

pub returns-clause-moves : goal.returns-clause-moves
returns-clause-moves g c h =
    let some : is_some c.self-2.inside.end ≡ true = ap (λ (r : Reading). is_some r.end) (c.self-2.view_is ∙ sym c.self.view_is) ∙ c.loop-alloc-test.ensures in
    moves_still _ _ _ _ _ _ (c.loop-alloc.invariant.grows h) refl (λ s t e. answer_ahead c.self-2.inside.end c.answer.result s t some c.answer.ensures)

pub returns-clause-whole : goal.returns-clause-whole
returns-clause-whole g c =
    let some : is_some c.self-2.inside.end ≡ true = ap (λ (r : Reading). is_some r.end) (c.self-2.view_is ∙ sym c.self.view_is) ∙ c.loop-alloc-test.ensures in
    record { spelled = answer_spelled c.self-2.inside.end c.answer.result some c.answer.ensures; waits = answer_waits c.self-2.inside.end c.answer.result _ some c.answer.ensures }

pub returns-in_err-go_on-in-Err-Bad-clause-again : goal.returns-in_err-go_on-in-Err-Bad-clause-again
returns-in_err-go_on-in-Err-Bad-clause-again g c = never c.args.self.now _ c.loop-alloc.self _ c.self.view_is c.loop-alloc-test.ensures c.loop-alloc.invariant.again

pub returns-in_err-go_on-in-Err-Bad-clause-moves : goal.returns-in_err-go_on-in-Err-Bad-clause-moves
returns-in_err-go_on-in-Err-Bad-clause-moves g c h =
    let M = g.M.Machine in
    let still : c.loop-alloc.self.end ≡ None = sym (ap (λ (r : Reading). r.end) c.self.view_is) ∙ none_of c.self.inside.end c.loop-alloc-test.ensures in
    let same : c.front.new.self ≡ c.loop-alloc.self = as_it_was c.loop-alloc.self c.front.new.self c.in-Err-Bad.field-0 c.in-Err-Bad.ensures in
    let new : Reading = c.go_on.new.self in
    let step = c.in_err-go_on-in-Err-Bad.ensures in
    let open_yet : new.end ≡ None = ap (λ (r : Reading). r.end) (step.none.kept ∙ same) ∙ still in
    let grows : TakesBytes c.args.self.now new (M.ledger c.args.m.now) (M.ledger c.go_on.new.m) =
    grows_then c.args.self.now c.loop-alloc.self new _ _ _ still (c.loop-alloc.invariant.grows (step.calls.trust.tells h)) (subst (λ (r : Reading). TakesBytes r new (M.ledger c.loop-alloc.m) (M.ledger c.go_on.new.m)) same (step.grows h)) in
    moves_still c.from_residual.result c.args.self.now new new _ _ grows refl
    (λ s t e. subst (λ (r : Answer). Ahead r s t) (fault_is c.from_residual.result c.in_err-go_on-in-Err-Bad.field-0.0 c.from_residual.ensures.1) (fault_ahead c.in_err-go_on-in-Err-Bad.field-0.0 s t (e open_yet)))

pub returns-in_err-go_on-in-Err-Bad-clause-whole : goal.returns-in_err-go_on-in-Err-Bad-clause-whole
returns-in_err-go_on-in-Err-Bad-clause-whole g c =
    let fault = c.in_err-go_on-in-Err-Bad.field-0.0 in
    let none = c.in_err-go_on-in-Err-Bad.ensures.none in
    subst (λ (r : Answer). GivesWhole r c.go_on.new.self.waiting) (fault_is c.from_residual.result fault c.from_residual.ensures.1)
    (record { spelled = tt; waits = fault_waits fault c.go_on.new.self.waiting (subst (λ (r : Reading). WantsMore r.waiting) (sym none.kept) none.short) })

pub loop-alloc-smaller : goal.loop-alloc-smaller
loop-alloc-smaller g c =
    let still : c.loop-alloc.self.end ≡ None = sym (ap (λ (r : Reading). r.end) c.self.view_is) ∙ none_of c.self.inside.end c.loop-alloc-test.ensures in
    let same : c.front.new.self ≡ c.loop-alloc.self = as_it_was c.loop-alloc.self c.front.new.self c.in-Err-Bad.field-0 c.in-Err-Bad.ensures in
    falls c.loop-alloc.self c.go_on.new.self (ap is_none still) (subst (λ (r : Reading). ReadsFurther r c.go_on.new.self) same c.in_ok-go_on-in-Err-Bad.ensures.on)

pub loop-alloc-preserved : goal.loop-alloc-preserved
loop-alloc-preserved g c =
    let M = g.M.Machine in
    let still : c.loop-alloc.self.end ≡ None = sym (ap (λ (r : Reading). r.end) c.self.view_is) ∙ none_of c.self.inside.end c.loop-alloc-test.ensures in
    let same : c.front.new.self ≡ c.loop-alloc.self = as_it_was c.loop-alloc.self c.front.new.self c.in-Err-Bad.field-0 c.in-Err-Bad.ensures in
    let new : Reading = c.go_on.new.self in
    let so_far = c.loop-alloc.invariant in
    let step = c.in_ok-go_on-in-Err-Bad.ensures in
    record {
      script = λ h. step.script h ∙ ap (λ (r : Reading). script_left r (M.ledger c.loop-alloc.m).input) same ∙ so_far.script (step.calls.trust.tells h);
      given = step.on.given ∙ ap (λ (r : Reading). r.given) same ∙ so_far.given;
      again = never c.args.self.now _ c.loop-alloc.self _ c.self.view_is c.loop-alloc-test.ensures so_far.again;
      unasked = never c.args.self.now _ c.loop-alloc.self _ c.self.view_is c.loop-alloc-test.ensures so_far.again;
      grows = λ h. grows_then c.args.self.now c.loop-alloc.self new _ _ _ still (so_far.grows (step.calls.trust.tells h)) (subst (λ (r : Reading). TakesBytes r new (M.ledger c.loop-alloc.m) (M.ledger c.go_on.new.m)) same (step.grows h));
      calls = takes_then so_far.calls step.calls;
    }
