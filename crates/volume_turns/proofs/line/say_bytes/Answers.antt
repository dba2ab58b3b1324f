use Rattle.std.proofs.Common.{inl, refl}
use Rattle.volume_turns.proofs.SayLaws.{said_moments, says_all, told_said, told_unsaid}
use Rattle.volume_turns.proofs.line.say_bytes.Goals as goal

pub returns-in-Ok : goal.returns-in-Ok
returns-in-Ok g c =
    let M = g.M.Machine in
    let a = c.args.m.now in
    let b = c.say.new.self in
    let text = c.args.text.now in
    let say = c.say.ensures in
    record {
      says = record {
        told = told_said (M.report a) (M.report b) c.in-Ok.field-0 tt c.in-Ok.ensures.cause;
        fault = tt;
        ledger = λ t. inl (say.ledger t);
        trust = say.trust;
        since = λ h. (say.time h).keeps;
      };
      output = tt;
      moments = said_moments M a b (λ left h was. g.met.M.Machine.only_now a left h was) say.trust text text refl say.time;
      said = λ h. says_all text text (M.now a) (M.now b) refl (c.in-Ok.ensures.said h);
    }

pub returns-in-Err : goal.returns-in-Err
returns-in-Err g c =
    let M = g.M.Machine in
    let a = c.args.m.now in
    let b = c.say.new.self in
    let text = c.args.text.now in
    let say = c.say.ensures in
    record {
      says = record {
        told = told_unsaid (M.report a) (M.report b) c.in-Err.field-0 c.in-Err.ensures.cause;
        fault = tt;
        ledger = λ t. inl (say.ledger t);
        trust = say.trust;
        since = λ h. (say.time h).keeps;
      };
      output = refl;
      moments = said_moments M a b (λ left h was. g.met.M.Machine.only_now a left h was) say.trust text text refl say.time;
      said = tt;
    }
