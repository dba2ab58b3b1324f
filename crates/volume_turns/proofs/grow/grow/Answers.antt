use Rattle.std.proofs.Common.{ℕ, Option, refl, ap, subst}
use Rattle.std.specs.Prelude.{IfErr, IfOk, Result, Ok}
use Rattle.volume_layout.specs.Layout.{with_sectors}
use Rattle.fsd_files.specs.Disk.{TouchesLonger}
use Rattle.fsd_texts.specs.declared.command.Command.TheVariants as Word
use Rattle.fsd_texts.specs.declared.fault.Fault.{Fault}
use Rattle.sector_disk.specs.Calls.{GrowsDisk}
use Rattle.sector_disk.proofs.CallLaws.{grows_more}
use Rattle.volume_contract.specs.Ends.{device_of}
use Rattle.volume_contract.specs.Order.{is_root}
use Rattle.volume_contract.specs.State.{State}
use Rattle.fsd_files.specs.declared.reply.Reply.{Reply}
use Rattle.fsd_files.specs.declared.reply.Reply.TheVariants as Said
use Rattle.volume_turns.specs.Answering.{MayAnswer}
use Rattle.volume_turns.specs.Grow.{EndsGrown}
use Rattle.volume_turns.specs.Reasons.{BecauseGrown}
use Rattle.volume_turns.specs.Steps.{Does, IsOfCall, StaysBy, device_by}
use Rattle.volume_turns.proofs.GrowLaws.{fits_so, grow_kept, grow_refused, grown_does, kept_does, may_refuse, refused_as, stands_kept}
use Rattle.volume_turns.proofs.NumberLaws.{goes_none, goes_still}
use Rattle.volume_turns.proofs.ReasonLaws.{refused_written}
use Rattle.volume_turns.proofs.StaysLaws.{relaid_stays}
use Rattle.volume_turns.proofs.grow.grow.Goals as goal

-- ---- where it is done

pub returns-in-Ok-clause-disk : goal.returns-in-Ok-clause-disk
returns-in-Ok-clause-disk g c =
    let V = g.V.Files in
    let M = g.M.Machine in
    let n = c.args.sectors in
    grows_more c.in-Ok.ensures.disk (λ h left leaves k stands. relaid_stays k (M.now c.args.m.now) left (with_sectors n k.mounted.volume.layout) (TouchesLonger n is_root (M.now c.args.m.now) left) (leaves k stands))

pub returns-in-Ok-clause-ends : goal.returns-in-Ok-clause-ends
returns-in-Ok-clause-ends g c =
    let e = c.in-Ok.ensures in
    rw c.grown.ensures.is (refl, record { passes = e.order.follows.1.0; state = e.state.state; counted = e.state.free; few = c.grown.ensures.few })

pub returns-in-Ok-clause-tells : goal.returns-in-Ok-clause-tells
returns-in-Ok-clause-tells g c =
    let s = g.V.Files.state c.args.v.now in
    let e = c.in-Ok.ensures in
    let fits = fits_so s.layout c.args.sectors e.order.follows.1.0 in
    rw c.grown.ensures.is (record {
      answers = λ h. record {
        replies = refl;
        rest = e.writes.rest h;
        still = ap (λ (x : State). x.dirty) e.state.state;
        worn = λ is. absurd (cc is);
        numbers = goes_still s (g.V.Files.state c.grow.new.self) (ap (λ (x : State). x.serial.count) e.state.state) (ap (λ (x : State). x.head.number) e.state.state);
        told = tt;
      };
      written = e.writes.counted;
      because = λ h. (fits.0, fits.1, e.state.state, e.roots h, e.state.free);
    })

pub returns-in-Ok-clause-idle : goal.returns-in-Ok-clause-idle
returns-in-Ok-clause-idle g c = c.in-Ok.ensures.order.idle

pub returns-in-Ok-clause-done : goal.returns-in-Ok-clause-done
returns-in-Ok-clause-done g c h k stands =
    let V = g.V.Files in
    let M = g.M.Machine in
    let e = c.in-Ok.ensures in
    rw c.grown.ensures.is (grown_does V.state V.holds c.args.sectors c.args.v.now c.grow.new.self k (M.now c.args.m.now) (M.now c.grow.new.m) stands c.in-Ok.free
    (record { passes = e.order.follows.1.0; state = e.state.state; counted = e.state.free; few = c.grown.ensures.few }) (e.done h k stands))

-- ---- where it is refused

pub returns-in-Err-clause-disk : goal.returns-in-Err-clause-disk
returns-in-Err-clause-disk g c =
    let V = g.V.Files in
    let v = c.args.v.now in
    let s = V.state v in
    let t = V.state c.grow.new.self in
    let n = c.args.sectors in
    let kept = grow_kept n s t c.requires.up c.in-Err.why c.in-Err.ensures.state in
    let M = g.M.Machine in
    let disk = grows_more c.in-Err.ensures.disk (λ h left leaves k stands. relaid_stays k (M.now c.args.m.now) left (with_sectors n k.mounted.volume.layout) (TouchesLonger n is_root (M.now c.args.m.now) left) (leaves k stands)) in
    let by = λ (f : Option ℕ). GrowsDisk M f (StaysBy (with_sectors n) V.state V.holds v) c.args.m.now c.grow.new.m in
    grow_refused (λ r. by (device_by r)) n s t c.in-Err.why c.ended_by.result c.ended_by.ensures.is kept
    (λ is. refused_as s.layout n (λ w. by (device_of w) → by (device_by {T = Reply} (Ok (Said.Refused w)))) c.in-Err.why is.0 (λ d. d) (λ most past d. d) disk) (λ place is down. subst by (ap device_of is) disk)

pub returns-in-Err-clause-fault : goal.returns-in-Err-clause-fault
returns-in-Err-clause-fault g c =
    let s = g.V.Files.state c.args.v.now in
    let t = g.V.Files.state c.grow.new.self in
    let kept = grow_kept c.args.sectors s t c.requires.up c.in-Err.why c.in-Err.ensures.state in
    grow_refused (λ r. IfErr r IsOfCall) c.args.sectors s t c.in-Err.why c.ended_by.result c.ended_by.ensures.is kept (λ is. tt) (λ place is down. tt)

pub returns-in-Err-clause-ends : goal.returns-in-Err-clause-ends
returns-in-Err-clause-ends g c =
    let s = g.V.Files.state c.args.v.now in
    let t = g.V.Files.state c.grow.new.self in
    let n = c.args.sectors in
    let kept = grow_kept n s t c.requires.up c.in-Err.why c.in-Err.ensures.state in
    grow_refused (λ r. EndsGrown n s t r) n s t c.in-Err.why c.ended_by.result c.ended_by.ensures.is kept (λ is. is) (λ place is down. down)

pub returns-in-Err-clause-tells : goal.returns-in-Err-clause-tells
returns-in-Err-clause-tells g c =
    let s = g.V.Files.state c.args.v.now in
    let t = g.V.Files.state c.grow.new.self in
    let n = c.args.sectors in
    let e = c.in-Err.ensures in
    let why = c.in-Err.why in
    let kept = grow_kept n s t c.requires.up why e.state in
    let by = λ (r : Result Reply Fault). MayAnswer (Word.Grow n) s t (g.M.Machine.now c.args.m.now) (g.M.Machine.now c.grow.new.m) r in
    record {
      answers = λ h. grow_refused by n s t why c.ended_by.result c.ended_by.ensures.is kept
          (λ is. record { replies = may_refuse s.layout n why is.0; rest = e.writes.rest h; still = ap (λ (x : State). x.dirty) is.1; worn = λ w. absurd (cc w); numbers = goes_none 1 s t is.1; told = tt })
          (λ place is down. record {
            replies = tt;
            rest = e.writes.rest h;
            still = ap (λ (x : State). x.dirty) down.1;
            worn = λ w. absurd (cc w);
            numbers = goes_still s t (ap (λ (x : State). x.serial.count) down.1) (ap (λ (x : State). x.head.number) down.1);
            told = tt;
          });
      written = λ t. refused_written 2 (g.M.Machine.ledger c.args.m.now) (g.M.Machine.ledger c.grow.new.m) why c.ended_by.result c.ended_by.ensures.is (e.writes.counted t);
      because = λ h. grow_refused (λ r. IfOk r (λ a. BecauseGrown n s t (g.M.Machine.now c.grow.new.m) a)) n s t why c.ended_by.result c.ended_by.ensures.is kept (λ is. is.0) (λ place is down. tt);
    }

pub returns-in-Err-clause-idle : goal.returns-in-Err-clause-idle
returns-in-Err-clause-idle g c = c.in-Err.ensures.order.idle

pub returns-in-Err-clause-done : goal.returns-in-Err-clause-done
returns-in-Err-clause-done g c h k stands =
    let V = g.V.Files in
    let M = g.M.Machine in
    let v = c.args.v.now in
    let w = c.grow.new.self in
    let n = c.args.sectors in
    let s = V.state v in
    let why = c.in-Err.why in
    let kept = grow_kept n s (V.state w) c.requires.up why c.in-Err.ensures.state in
    let ends = c.in-Err.ensures.done h k stands in
    grow_refused (λ r. Does V.state V.holds (Word.Grow n) v w k (M.now c.args.m.now) (M.now c.grow.new.m) r) n s (V.state w) why c.ended_by.result c.ended_by.ensures.is kept
    (λ is. kept_does V.state V.holds n v w k (M.now c.args.m.now) (M.now c.grow.new.m) stands why is.0 (stands_kept V.state V.holds n v w k (M.now c.args.m.now) (M.now c.grow.new.m) stands s.layout why is.0 ends)) (λ place is down. tt)
