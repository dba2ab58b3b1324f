use Rattle.std.proofs.Common.{ℕ, Option, refl, ap, subst}
use Rattle.std.specs.Prelude.{IfOk, Result}
use Rattle.volume_layout.specs.declared.kind.Kind.TheVariants.{Three}
use Rattle.volume_layout.specs.Layout.{with_kind}
use Rattle.fsd_files.specs.Disk.{Touches}
use Rattle.fsd_texts.specs.declared.command.Command.TheVariants as Word
use Rattle.fsd_texts.specs.declared.fault.Fault.{Fault}
use Rattle.sector_disk.specs.Calls.{WritesDisk}
use Rattle.sector_disk.proofs.CallLaws.{writes_more}
use Rattle.volume_contract.specs.Ends.{device_of}
use Rattle.volume_contract.specs.Order.{is_root}
use Rattle.volume_contract.specs.State.{State}
use Rattle.fsd_files.specs.declared.reply.Reply.{Reply}
use Rattle.volume_turns.specs.Answering.{MayAnswer}
use Rattle.volume_turns.specs.Reasons.{BecauseUpgraded}
use Rattle.volume_turns.specs.Steps.{Does, StaysBy, device_by}
use Rattle.volume_turns.specs.Upgrade.{EndsState}
use Rattle.volume_turns.proofs.NumberLaws.{goes_none, goes_still}
use Rattle.volume_turns.proofs.ReasonLaws.{refused_written}
use Rattle.volume_turns.proofs.StaysLaws.{relaid_stays}
use Rattle.volume_turns.proofs.UpgradeLaws.{done_does, stands_done, upgrade_kept, upgrade_refused, upgrade_through, upgraded_does}
use Rattle.volume_turns.proofs.upgrade.upgrade.Goals as goal

-- ---- where it is done

pub returns-in-Ok-clause-disk : goal.returns-in-Ok-clause-disk
returns-in-Ok-clause-disk g c =
    let V = g.V.Files in
    let M = g.M.Machine in
    writes_more c.in-Ok.ensures.disk (λ h left leaves k stands. relaid_stays k (M.now c.args.m.now) left (with_kind Three k.mounted.volume.layout) (Touches is_root (M.now c.args.m.now) left) (leaves k stands))

pub returns-in-Ok-clause-ends : goal.returns-in-Ok-clause-ends
returns-in-Ok-clause-ends g c = (upgrade_through (g.V.Files.state c.args.v.now) c.in-Ok.ensures.order.follows, c.in-Ok.ensures.state)

pub returns-in-Ok-clause-tells : goal.returns-in-Ok-clause-tells
returns-in-Ok-clause-tells g c =
    let s = g.V.Files.state c.args.v.now in
    let e = c.in-Ok.ensures in
    record {
      answers = λ h. record {
        replies = tt;
        rest = e.writes.rest h;
        still = ap (λ (x : State). x.dirty) e.state;
        worn = λ is. absurd (cc is);
        numbers = goes_still s (g.V.Files.state c.upgrade.new.self) (ap (λ (x : State). x.serial.count) e.state) (ap (λ (x : State). x.head.number) e.state);
        told = tt;
      };
      written = e.writes.counted;
      because = λ h. (upgrade_through s e.order.follows, ap (λ (x : State). x.layout) e.state, e.roots h);
    }

pub returns-in-Ok-clause-idle : goal.returns-in-Ok-clause-idle
returns-in-Ok-clause-idle g c = c.in-Ok.ensures.order.idle

pub returns-in-Ok-clause-done : goal.returns-in-Ok-clause-done
returns-in-Ok-clause-done g c h k stands =
    let V = g.V.Files in
    let M = g.M.Machine in
    upgraded_does V.state V.holds c.args.v.now c.upgrade.new.self k (M.now c.args.m.now) (M.now c.upgrade.new.m) stands (upgrade_through (V.state c.args.v.now) c.in-Ok.ensures.order.follows) (c.in-Ok.ensures.done h k stands)

-- ---- where it is refused

pub returns-in-Err-clause-disk : goal.returns-in-Err-clause-disk
returns-in-Err-clause-disk g c =
    let V = g.V.Files in
    let v = c.args.v.now in
    let kept = upgrade_kept (V.state v) (V.state c.upgrade.new.self) c.requires.up c.in-Err.why c.in-Err.ensures.state in
    let M = g.M.Machine in
    let disk = writes_more c.in-Err.ensures.disk (λ h left leaves k stands. relaid_stays k (M.now c.args.m.now) left (with_kind Three k.mounted.volume.layout) (Touches is_root (M.now c.args.m.now) left) (leaves k stands)) in
    let by = λ (f : Option ℕ). WritesDisk M f (StaysBy (with_kind Three) V.state V.holds v) c.args.m.now c.upgrade.new.m in
    upgrade_refused (λ r. by (device_by r)) (V.state v) (V.state c.upgrade.new.self) c.in-Err.why c.ended_by.result c.ended_by.ensures.is kept
    (λ done. subst by (ap device_of done.0) disk) (λ place is t. subst by (ap device_of is) disk)

pub returns-in-Err-clause-ends : goal.returns-in-Err-clause-ends
returns-in-Err-clause-ends g c =
    let s = g.V.Files.state c.args.v.now in
    let t = g.V.Files.state c.upgrade.new.self in
    let kept = upgrade_kept s t c.requires.up c.in-Err.why c.in-Err.ensures.state in
    upgrade_refused (λ r. EndsState s t r) s t c.in-Err.why c.ended_by.result c.ended_by.ensures.is kept (λ done. (refl, done.1, done.2)) (λ place is down. down)

pub returns-in-Err-clause-tells : goal.returns-in-Err-clause-tells
returns-in-Err-clause-tells g c =
    let s = g.V.Files.state c.args.v.now in
    let t = g.V.Files.state c.upgrade.new.self in
    let e = c.in-Err.ensures in
    let why = c.in-Err.why in
    let kept = upgrade_kept s t c.requires.up why e.state in
    let by = λ (r : Result Reply Fault). MayAnswer Word.Upgrade s t (g.M.Machine.now c.args.m.now) (g.M.Machine.now c.upgrade.new.m) r in
    record {
      answers = λ h. upgrade_refused by s t why c.ended_by.result c.ended_by.ensures.is kept
          (λ done. record { replies = refl; rest = e.writes.rest h; still = ap (λ (x : State). x.dirty) done.2; worn = λ is. absurd (cc is); numbers = goes_none 1 s t done.2; told = tt })
          (λ place is down. record {
            replies = tt;
            rest = e.writes.rest h;
            still = ap (λ (x : State). x.dirty) down.1;
            worn = λ is. absurd (cc is);
            numbers = goes_still s t (ap (λ (x : State). x.serial.count) down.1) (ap (λ (x : State). x.head.number) down.1);
            told = tt;
          });
      written = λ t. refused_written 2 (g.M.Machine.ledger c.args.m.now) (g.M.Machine.ledger c.upgrade.new.m) why c.ended_by.result c.ended_by.ensures.is (e.writes.counted t);
      because = λ h. upgrade_refused (λ r. IfOk r (λ a. BecauseUpgraded s t (g.M.Machine.now c.upgrade.new.m) a)) s t why c.ended_by.result c.ended_by.ensures.is kept (λ done. done.1) (λ place is down. tt);
    }

pub returns-in-Err-clause-idle : goal.returns-in-Err-clause-idle
returns-in-Err-clause-idle g c = c.in-Err.ensures.order.idle

pub returns-in-Err-clause-done : goal.returns-in-Err-clause-done
returns-in-Err-clause-done g c h k stands =
    let V = g.V.Files in
    let M = g.M.Machine in
    let v = c.args.v.now in
    let w = c.upgrade.new.self in
    let kept = upgrade_kept (V.state v) (V.state w) c.requires.up c.in-Err.why c.in-Err.ensures.state in
    let ends = c.in-Err.ensures.done h k stands in
    upgrade_refused (λ r. Does V.state V.holds Word.Upgrade v w k (M.now c.args.m.now) (M.now c.upgrade.new.m) r) (V.state v) (V.state w) c.in-Err.why c.ended_by.result c.ended_by.ensures.is kept
    (λ done. done_does V.state V.holds v w k (M.now c.args.m.now) (M.now c.upgrade.new.m) stands done.1 (stands_done V.state V.holds v w k (M.now c.args.m.now) (M.now c.upgrade.new.m) stands c.in-Err.why done.0 ends))
    (λ place is down. tt)
