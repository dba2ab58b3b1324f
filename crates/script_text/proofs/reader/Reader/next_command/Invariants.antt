use Rattle.std.proofs.Common.{◌≡◌, ◌-◌, ◌+◌, cond, false}
use Rattle.std.specs.Prelude.{IfSome, is_none}
use Rattle.fsd_texts.specs.Script.{max_input}
use Rattle.script_text.specs.Reading.{script_left}
use Rattle.sector_disk.specs.Calls.{LeavesDisk}
use Rattle.sector_disk.specs.Machine.{Wears}
use Rattle.script_text.specs.Taking.{TakesBytes}
use Rattle.script_text.proofs.reader.Reader.next_command.Given as goal

abbrev pub invariant-loop-alloc : goal.invariant-loop-alloc
invariant-loop-alloc g l =
    let M = g.M.Machine in
    record {
      script : M.tells l.m → script_left l.self (M.ledger l.m).input ≡ script_left l.fn.self (M.ledger l.fn.m).input;
      given : l.self.given ≡ l.fn.self.given;
      again : IfSome l.fn.self.end (λ end. l.self ≡ l.fn.self);
      unasked : IfSome l.fn.self.end (λ end. l.m ≡ l.fn.m);
      grows : M.tells l.m → TakesBytes l.fn.self l.self (M.ledger l.fn.m) (M.ledger l.m);
      calls : LeavesDisk M false false Wears l.fn.m l.m;
    }

abbrev pub decreases-loop-alloc : goal.decreases-loop-alloc
decreases-loop-alloc g l = cond (is_none l.self.end) (max_input + 1 - l.self.taken) 0
