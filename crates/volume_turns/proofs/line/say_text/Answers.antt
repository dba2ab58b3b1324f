use Rattle.std.proofs.Common.{Bool, true, false, inl, inr, refl, sym, subst}
use Rattle.sector_disk.specs.Calls.{LeavesDisk}
use Rattle.sector_disk.specs.Machine.{Utters}
use Rattle.volume_turns.proofs.SayLaws.{said_leaves, says_all, spares_said, spares_unsaid}
use Rattle.volume_turns.proofs.line.say_text.Goals as goal

pub returns-in-Ok : goal.returns-in-Ok
returns-in-Ok g c =
    let M = g.M.Machine in
    let a = c.args.m.now in
    let b = c.say.new.self in
    let text = c.args.text.now in
    let say = c.say.ensures in
    record {
      says = subst (λ (failed : Bool). LeavesDisk M false failed (Utters text) a b) (sym c.requires)
          (said_leaves M a b (λ left h was. g.met.M.Machine.only_now a left h was) say.trust text false (spares_said (M.report a) (M.report b) c.in-Ok.field-0 c.in-Ok.ensures.cause) say.cut say.time);
      ends = λ h. inr (refl, says_all text text (M.now a) (M.now b) refl (c.in-Ok.ensures.said h));
      ledger = say.ledger;
      status = inl refl;
    }

pub returns-in-Err : goal.returns-in-Err
returns-in-Err g c =
    let M = g.M.Machine in
    let a = c.args.m.now in
    let b = c.say.new.self in
    let say = c.say.ensures in
    record {
      says = said_leaves M a b (λ left h was. g.met.M.Machine.only_now a left h was) say.trust c.args.text.now true (spares_unsaid (M.report a) (M.report b) c.in-Err.field-0 c.in-Err.ensures.cause) say.cut say.time;
      ends = λ h. inl refl;
      ledger = say.ledger;
      status = inr refl;
    }
